-- Rounds leave bounds that are bounds of the bidders' trees.
use Rattle.std.proofs.Common.{ℕ, zero, suc, ◌<◌, ◌≡◌, inl, inr, Bool, true, false, ◌||◌, if◌then◌else◌, IsTrue, List, [], ◌∷◌, length, map, arith, ℤ, ◌≤ℤ◌, refl}
use Rattle.std.specs.List.{AllByRecursion}
use Rattle.std.proofs.lemmas.Int.{ints, by_lt_z}
use Rattle.ice_defs.specs.declared.Verdict.{Verdict}
use Rattle.ice_defs.specs.declared.Verdict.TheVariants.{Accepted, Loosened, Crossed, Mrpar, Improve, Repeated, UnknownBidder, WrongCount}
use Rattle.ice_defs.specs.Tree.{Tree}
use Rattle.ice_defs.specs.Set.{weight_of}
use Rattle.ice_defs.specs.Trade.{Assignment, tree_of}
use Rattle.ice_defs.specs.Bounds.{Bounds, bounds_of}
use Rattle.ice_defs.specs.Prices.{Prices}
use Rattle.ice_defs.specs.Judging.{IsNarrowed}
use Rattle.ice_defs.specs.Round.{Submission, Judged, Standing, stated_bounds, is_acceptance, of_name, has_tree_length, IsVerdict, JudgesInOrder, bounds_after, next_bounds}
use Rattle.ice_defs.specs.Exchange.{Bidder}
use Rattle.ice_defs.specs.Lawful.{AreBounds, IsBidder}
use Rattle.ice_defs.specs.Session.{standings_from}
use Rattle.ice_round_laws.specs.Keeping.{HaveBounds, RoundsKeepBounds}

-- ---- one submission

-- bounds that are narrowed stay in range and in order
narrowed : (nodes : ℕ) (old new : Bounds) → AreBounds nodes old → length new.lo ≡ nodes → length new.hi ≡ nodes → IsNarrowed old new → AreBounds nodes new
narrowed nodes old new are los his is = record {
  lo_count = los;
  hi_count = his;
  low = λ n h. omega (arith, ints, are.low n h, low n h);
  ordered = λ n h. by_lt_z (weight_of new.hi n) (weight_of new.lo n) (λ less. absurd (is.uncrossed n (omega (arith, h, los), less))) (λ le. le);
  high = λ n h. omega (arith, ints, are.high n h, high n h);
}
  where
    low : (n : ℕ) → n < nodes → weight_of old.lo n ≤ℤ weight_of new.lo n
    low n h = by_lt_z (weight_of new.lo n) (weight_of old.lo n) (λ less. absurd (is.tight n (omega (arith, h, los), inl less))) (λ le. le)

    high : (n : ℕ) → n < nodes → weight_of new.hi n ≤ℤ weight_of old.hi n
    high n h = by_lt_z (weight_of old.hi n) (weight_of new.hi n) (λ less. absurd (is.tight n (omega (arith, h, los), inr less))) (λ le. le)

same_counts : (t : Tree) (s : Submission) → IsTrue (has_tree_length t s) → (length s.lo ≡ length t) × (length s.hi ≡ length t)
same_counts t s h = (grind arith, grind arith)

abbrev IsNextOf : Standing → Bounds → Type 0
IsNextOf bidder new = AreBounds (length bidder.tree) new

accepted : (p : Prices) (improve : ℤ) (bidder : Standing) (s : Submission) → IsNextOf bidder bidder.bounds → IsVerdict p improve bidder false s Accepted → IsNextOf bidder (stated_bounds s)
accepted p improve bidder s are (long, short) = by (has_tree_length bidder.tree s) refl
  where
    by : (b : Bool) → has_tree_length bidder.tree s ≡ b → IsNextOf bidder (stated_bounds s)
    by true e =
        let (los, his) = same_counts bidder.tree s e in
        narrowed (length bidder.tree) bidder.bounds (stated_bounds s) are los his (long e).0
    by false e = let other : Accepted ≡ WrongCount = short e in absurd (cc)

-- ---- the submissions of one bidder

after_all : (p : Prices) (improve : ℤ) (bidder : Standing) (judged : List Judged) → IsNextOf bidder bidder.bounds → JudgesInOrder p improve bidder false judged → IsNextOf bidder (bounds_after bidder.bounds judged)
after_all p improve bidder [] are judges = are
after_all p improve bidder (j ∷ later) are (verdict, next) = by j.verdict verdict next (λ judges. after_all p improve bidder later are judges)
  where
    by : (v : Verdict) → IsVerdict p improve bidder false j.submission v → JudgesInOrder p improve bidder (false || is_acceptance v) later
        → (JudgesInOrder p improve bidder false later → IsNextOf bidder (bounds_after bidder.bounds later))
        → IsNextOf bidder (if is_acceptance v then stated_bounds j.submission else bounds_after bidder.bounds later)
    by Accepted is next others = accepted p improve bidder j.submission are is
    by (Loosened node) is next others = others next
    by (Crossed node) is next others = others next
    by Mrpar is next others = others next
    by Improve is next others = others next
    by Repeated is next others = others next
    by UnknownBidder is next others = others next
    by WrongCount is next others = others next

-- ---- all bidders

all_after : (p : Prices) (improve : ℤ) (judged : List Judged) (bidders : List Bidder) (bounds : List Bounds) (sets : Assignment) → length sets ≡ length bidders → HaveBounds bidders bounds
    → AllByRecursion (λ bidder. JudgesInOrder p improve bidder false (of_name bidder.name judged)) (standings_from bidders bounds sets)
    → HaveBounds bidders (next_bounds (standings_from bidders bounds sets) judged)
all_after p improve judged [] bounds sets same are each = tt
all_after p improve judged (b ∷ bidders) [] sets same are each = absurd are
all_after p improve judged (b ∷ bidders) (now ∷ bounds) [] same are each = absurd (omega arith)
all_after p improve judged (b ∷ bidders) (now ∷ bounds) (s ∷ sets) same are each = (
  after_all p improve (record { name = b.name; tree = b.tree; bounds = now; set = s }) (of_name b.name judged) are.0 each.0,
  all_after p improve judged bidders bounds sets (omega arith) are.1 each.1,
)

pub rounds_keep_bounds : RoundsKeepBounds
rounds_keep_bounds p improve judged bidders bounds sets same are round = all_after p improve judged bidders bounds sets same are round.each

-- ---- bidder by bidder

pub bounds_count : (bidders : List Bidder) (bounds : List Bounds) → HaveBounds bidders bounds → length bounds ≡ length bidders
bounds_count [] [] are = refl
bounds_count [] (now ∷ bounds) are = absurd are
bounds_count (b ∷ bidders) [] are = absurd are
bounds_count (b ∷ bidders) (now ∷ bounds) are = omega (arith, bounds_count bidders bounds are.1)

pub bounds_at : (bidders : List Bidder) (bounds : List Bounds) → HaveBounds bidders bounds → (b : ℕ) → b < length (map (λ (bidder : Bidder). bidder.tree) bidders)
    → AreBounds (length (tree_of (map (λ (bidder : Bidder). bidder.tree) bidders) b)) (bounds_of bounds b)
bounds_at [] bounds are b h = absurd (omega arith)
bounds_at (one ∷ bidders) [] are b h = absurd are
bounds_at (one ∷ bidders) (now ∷ bounds) are zero h = are.0
bounds_at (one ∷ bidders) (now ∷ bounds) are (suc b) h = bounds_at bidders bounds are.1 b (omega arith)

pub bounds_from : (bidders : List Bidder) (bounds : List Bounds) → length bounds ≡ length bidders
    → ((b : ℕ) → b < length (map (λ (bidder : Bidder). bidder.tree) bidders) → AreBounds (length (tree_of (map (λ (bidder : Bidder). bidder.tree) bidders) b)) (bounds_of bounds b))
    → HaveBounds bidders bounds
bounds_from [] [] same each = tt
bounds_from [] (now ∷ bounds) same each = absurd (omega (arith, same))
bounds_from (b ∷ bidders) [] same each = absurd (omega (arith, same))
bounds_from (b ∷ bidders) (now ∷ bounds) same each = (each 0 (omega arith), bounds_from bidders bounds (omega (arith, same)) (λ c h. each (suc c) (omega (arith, h))))

-- ---- the opening bounds

pub opening_have_bounds : (goods : ℕ) (bidders : List Bidder) → AllByRecursion (IsBidder goods) bidders → HaveBounds bidders (map (λ (bidder : Bidder). bidder.bounds) bidders)
opening_have_bounds goods [] are = tt
opening_have_bounds goods (b ∷ bidders) are = ((are.0).bounds, opening_have_bounds goods bidders are.1)
