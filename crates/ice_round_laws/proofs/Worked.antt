-- Small rounds, worked.
use Rattle.std.proofs.Common.{◌≡◌, Bool, true, false, List, [], ◌∷◌, ℕ, ℤ, pos, refl}
use Rattle.ice_defs.specs.declared.Verdict.{Verdict}
use Rattle.ice_defs.specs.declared.Verdict.TheVariants.{Accepted, Mrpar, Repeated, UnknownBidder}
use Rattle.ice_defs.specs.Bounds.{Bounds}
use Rattle.ice_defs.specs.Round.{Judged, Standing, next_bounds}
use Rattle.ice_round_laws.specs.Entries.{Entry, entries_before, entries_after_all, entries_of, is_entered}

-- two bidders, a and b, and a name c that no bidder has
abbrev bidder_of : ℕ → Standing
bidder_of name = record { name = name ∷ []; tree = []; bounds = record { lo = pos 10 ∷ []; hi = pos 20 ∷ [] }; set = true ∷ [] }

abbrev bidders : List Standing
bidders = bidder_of 97 ∷ bidder_of 98 ∷ []

abbrev bounds : ℤ → ℤ → Bounds
bounds lo hi = record { lo = lo ∷ []; hi = hi ∷ [] }

abbrev judged : ℕ → ℤ → ℤ → Verdict → Judged
judged name lo hi verdict = record { submission = record { name = name ∷ []; lo = lo ∷ []; hi = hi ∷ [] }; verdict = verdict }

abbrev entry : ℕ → Bounds → Bool → Entry
entry name next taken = record { standing = bidder_of name; next = next; is_taken = taken }

-- a is refused, then accepted, and then has its turn no more; b bids nothing, and c is not known
abbrev round : List Judged
round = judged 97 (pos 11) (pos 20) Mrpar ∷ judged 99 (pos 1) (pos 2) UnknownBidder ∷ judged 97 (pos 12) (pos 18) Accepted ∷ judged 97 (pos 13) (pos 17) Repeated ∷ []

after_round : entries_after_all (entries_before bidders) round ≡ entry 97 (bounds (pos 12) (pos 18)) true ∷ entry 98 (bounds (pos 10) (pos 20)) false ∷ []
after_round = refl

defined : entries_of bidders round ≡ entry 97 (bounds (pos 12) (pos 18)) true ∷ entry 98 (bounds (pos 10) (pos 20)) false ∷ []
defined = refl

next : next_bounds bidders round ≡ bounds (pos 12) (pos 18) ∷ bounds (pos 10) (pos 20) ∷ []
next = refl

-- whatever is said of later ones, the first accepted one counts
first_counts : next_bounds bidders (judged 97 (pos 12) (pos 18) Accepted ∷ judged 97 (pos 13) (pos 17) Accepted ∷ []) ≡ bounds (pos 12) (pos 18) ∷ bounds (pos 10) (pos 20) ∷ []
first_counts = refl

unknown : is_entered (entries_before bidders) (99 ∷ []) ≡ false
unknown = refl

known : is_entered (entries_before bidders) (98 ∷ []) ≡ true
known = refl
