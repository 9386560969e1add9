-- The names of the entries are the bidders', and stay.
use Rattle.std.proofs.Common.{ℕ, zero, suc, ◌<◌, ◌≡◌, Bool, true, false, cond, List, [], ◌∷◌, length, map, slice_index_or, refl, ap, arith}
use Rattle.ice_defs.specs.Trade.{Assignment, set_of}
use Rattle.ice_defs.specs.Bounds.{Bounds, bounds_of}
use Rattle.ice_defs.specs.Round.{Standing, stated_bounds}
use Rattle.ice_defs.specs.Exchange.{Bidder}
use Rattle.ice_defs.specs.Session.{standings_from}
use Rattle.ice_round_laws.specs.Entries.{with_bounds, is_changed_by, entry_after}
use Rattle.ice_round_laws.specs.Running.{NamesBegin, NamesStay, StandingsAreNamed, StandingIs}

pub names_begin : NamesBegin
names_begin [] = refl
names_begin (bidder ∷ bidders) = ap (λ (rest : List (List ℕ)). bidder.name ∷ rest) (names_begin bidders)

pub names_stay : NamesStay
names_stay [] j = refl
names_stay (e ∷ entries) j =
    let first : (entry_after j e).standing.name ≡ e.standing.name = by (is_changed_by j e) in
    cc (first, names_stay entries j)
  where
    by : (b : Bool) → (cond b (with_bounds (stated_bounds j.submission) e) e).standing.name ≡ e.standing.name
    by true = refl
    by false = refl

named : (bidders : List Bidder) (bounds : List Bounds) (sets : Assignment) → length bounds ≡ length bidders → length sets ≡ length bidders
    → map (λ (bidder : Standing). bidder.name) (standings_from bidders bounds sets) ≡ map (λ (bidder : Bidder). bidder.name) bidders
named [] bounds sets e f = refl
named (b ∷ bidders) [] sets e f = absurd (omega arith)
named (b ∷ bidders) (now ∷ bounds) [] e f = absurd (omega arith)
named (b ∷ bidders) (now ∷ bounds) (s ∷ sets) e f = ap (λ (rest : List (List ℕ)). b.name ∷ rest) (named bidders bounds sets (omega arith) (omega arith))

pub standings_are_named : StandingsAreNamed
standings_are_named ex bounds sets e f = named ex.bidders bounds sets e f

stands : (bidders : List Bidder) (bounds : List Bounds) (sets : Assignment) (b : ℕ) (d : Standing) (bidder : Bidder) → length bounds ≡ length bidders → length sets ≡ length bidders
    → b < length bidders → slice_index_or bidders b bidder ≡ bidder
    → slice_index_or (standings_from bidders bounds sets) b d ≡ record { name = bidder.name; tree = bidder.tree; bounds = bounds_of bounds b; set = set_of sets b }
stands [] bounds sets b d bidder e f l is = absurd (omega (arith, l))
stands (x ∷ bidders) [] sets b d bidder e f l is = absurd (omega arith)
stands (x ∷ bidders) (now ∷ bounds) [] b d bidder e f l is = absurd (omega arith)
stands (x ∷ bidders) (now ∷ bounds) (s ∷ sets) zero d bidder e f l is = ap standing is
  where
    standing : Bidder → Standing
    standing y = record { name = y.name; tree = y.tree; bounds = now; set = s }
stands (x ∷ bidders) (now ∷ bounds) (s ∷ sets) (suc b) d bidder e f l is = stands bidders bounds sets b d bidder (omega arith) (omega arith) (omega (arith, l)) is

pub standing_is : StandingIs
standing_is ex bounds sets b d bidder e f l is = stands ex.bidders bounds sets b d bidder e f l is
