-- What is known of a round while its submissions come in, and
-- the lists of judged submissions that lead there.
use Rattle.std.specs.Prelude.{ℕ, ◌<◌, ◌≡◌, Bool, true, false, if◌then◌else◌, List, [], length, map, slice_index_or, slice_set, Option}
use Rattle.std.specs.Prelude.{Some, None}
use Rattle.std.specs.List.{list_any, position}
use Rattle.std.specs.Str.{bytes_eq}
use Rattle.ice_defs.specs.declared.Verdict.{Verdict}
use Rattle.ice_defs.specs.declared.Verdict.TheVariants.{UnknownBidder}
use Rattle.ice_defs.specs.Set.{IsSatisfied}
use Rattle.ice_defs.specs.Trade.{Assignment, tree_of, set_of}
use Rattle.ice_defs.specs.Bounds.{Bounds, bounds_of}
use Rattle.ice_defs.specs.Prices.{Prices}
use Rattle.ice_defs.specs.Round.{Submission, Judged, Standing, stated_bounds, is_accepted, of_name, IsVerdict, next_bounds}
use Rattle.ice_defs.specs.Exchange.{Exchange, trees_of, names_of}
use Rattle.ice_defs.specs.Lawful.{AreBounds}
use Rattle.ice_defs.specs.Session.{standings}

-- the bounds, provisional sets and prices at the start; and of each
-- bidder the next bounds, and whether a submission was accepted
pub record Round : Type 0 where
  pub bounds : List Bounds
  pub sets : Assignment
  pub prices : Prices
  pub next : List Bounds
  pub marks : List Bool

-- of each bidder of an exchange bounds of its tree at the
-- start and the next ones, a satisfied set, and a mark
pub record IsRoundOf (ex : Exchange) (r : Round) : Type 0 where
  pub bounds_count : length r.bounds ≡ length ex.bidders
  pub bounds : (b : ℕ) → b < length ex.bidders → AreBounds (length (tree_of (trees_of ex) b)) (bounds_of r.bounds b)
  pub sets_count : length r.sets ≡ length ex.bidders
  pub satisfied : (b : ℕ) → b < length ex.bidders → IsSatisfied (tree_of (trees_of ex) b) (set_of r.sets b)
  pub next_count : length r.next ≡ length ex.bidders
  pub next : (b : ℕ) → b < length ex.bidders → AreBounds (length (tree_of (trees_of ex) b)) (bounds_of r.next b)
  pub marks_count : length r.marks ≡ length ex.bidders

-- ---- verdicts

-- what each bidder brought into the round
abbrev pub bidders_in : Exchange → Round → List Standing
bidders_in ex r = standings ex r.bounds r.sets

abbrev pub bidder_in : Exchange → Round → ℕ → Standing
bidder_in ex r b = record {
  name = slice_index_or (names_of ex) b [];
  tree = tree_of (trees_of ex) b;
  bounds = bounds_of r.bounds b;
  set = set_of r.sets b;
}

abbrev pub is_marked : Round → ℕ → Bool
is_marked r b = slice_index_or r.marks b false

abbrev pub bidder_named : Exchange → List ℕ → Option ℕ
bidder_named ex name = position (bytes_eq name) (names_of ex)

-- the verdict on a submission of a bidder, or of none
abbrev pub IsVerdictOf : Exchange → Round → Option ℕ → Submission → Verdict → Type 0
IsVerdictOf ex r None s verdict = verdict ≡ UnknownBidder
IsVerdictOf ex r (Some b) s verdict = IsVerdict r.prices ex.settings.improve (bidder_in ex r b) (is_marked r b) s verdict

abbrev pub IsVerdictIn : Exchange → Round → Submission → Verdict → Type 0
IsVerdictIn ex r s verdict = IsVerdictOf ex r (bidder_named ex s.name) s verdict

-- ---- what an accepted submission changes

abbrev pub with_taken : Round → Option ℕ → Submission → Round
with_taken r None s = r
with_taken r (Some b) s = record r { next = slice_set r.next b (stated_bounds s); marks = slice_set r.marks b true }

abbrev pub round_after : Exchange → Round → Judged → Round
round_after ex r j = if is_accepted j then with_taken r (bidder_named ex j.submission.name) j.submission else r

-- ---- the judged submissions that lead to a round

-- of which bidders a submission was accepted
abbrev pub marks_after : List Standing → List Judged → List Bool
marks_after bidders judged = map (λ bidder. list_any is_accepted (of_name bidder.name judged)) bidders

pub record IsAfter (ex : Exchange) (judged : List Judged) (r : Round) : Type 0 where
  pub next : r.next ≡ next_bounds (bidders_in ex r) judged
  pub marks : r.marks ≡ marks_after (bidders_in ex r) judged
