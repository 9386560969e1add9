-- A bid that states its true values exactly, inside its bounds, is accepted.
use Rattle.std.proofs.Common.{ℕ, ◌<◌, ◌≡◌, Bool, true, false, cond, length, ℤ, pos, ◌-ℤ◌, ◌*ℤ◌, ◌≤ℤ◌, ◌<ℤ◌, refl, arith, ◌⊎◌, inl, inr}
use Rattle.std.specs.Prelude.{Err}
use Rattle.std.proofs.lemmas.Int.{ints, by_lt_z}
use Rattle.ice_defs.specs.Tree.{Tree}
use Rattle.ice_defs.specs.Set.{NodeSet, has, IsSatisfied, Weights, weight_of}
use Rattle.ice_defs.specs.Bounds.{Bounds, IsInside}
use Rattle.ice_defs.specs.Prices.{Prices}
use Rattle.ice_defs.specs.Rules.{net_at, IsBestThroughout, IsAhead, IsLoss, IsMrpar, GainsMore, Improves}
use Rattle.ice_defs.specs.declared.Verdict.{Verdict}
use Rattle.ice_defs.specs.declared.Verdict.TheVariants.{Accepted, Loosened, Crossed, Mrpar, Improve, Repeated, UnknownBidder, WrongCount}
use Rattle.ice_defs.specs.Judging.{IsNarrowed, IsJudged}
use Rattle.ice_best_at_prices.specs.Net.{IsBestAtPrices}
use Rattle.ice_rules.specs.Profiles.{AreAgainst, AreInFavour}
use Rattle.ice_rules.specs.Laws.{ExactBidIsAccepted}
use Rattle.ice_rules.specs.declared.refusal.Refusal.{Refusal}
use Rattle.ice_rules.specs.declared.refusal.Refusal.TheVariants as refusals
use Rattle.ice_rules.specs.Verdicts.{verdict_of}
use Rattle.ice_defs.proofs.Multiples.{one_time}
use Rattle.ice_rules.proofs.Losses.{AreOrdered, loss_is, best_from_none, ahead_from, gains_from}
use Rattle.ice_rules.proofs.Reflected.{tabulated, length-tabulated, weight_of-tabulated}
use Rattle.ice_rules.proofs.Found.{greatest_there}

either_way : (b : Bool) (z : ℤ) → z ≡ cond b z z
either_way true z = refl
either_way false z = refl

-- every satisfied set has a loss
loss_there : (t : Tree) (p : Prices) (bounds : Bounds) (s : NodeSet) → length bounds.lo ≡ length t → AreOrdered bounds → IsSatisfied t s → (loss : ℤ) × IsLoss t p s bounds loss
loss_there t p bounds s nodes ordered sat =
    let f : ℕ → ℤ = λ n. cond (has s n) (weight_of bounds.lo n) (weight_of bounds.hi n) in
    let w = tabulated f (length bounds.lo) in
    let are : AreAgainst bounds s (tabulated f (length bounds.lo)) = record { nodes = length-tabulated f (length bounds.lo); each = λ n h. weight_of-tabulated f (length bounds.lo) n h } in
    let (best, ok, most) = greatest_there t s sat (net_at t p 1 w) in
    (net_at t p 1 w best -ℤ net_at t p 1 w s, loss_is t p bounds nodes s w best (net_at t p 1 w best) sat are ordered record { satisfied = ok; has = refl; greatest = most })

module _ (t : Tree) (p : Prices) (s : NodeSet) (sat : IsSatisfied t s) (v : Weights) (size : length v ≡ length t) where
  exact : Bounds
  exact = record { lo = v; hi = v }

  against : (a : NodeSet) → AreAgainst exact a v
  unfolding exact
  against a = record { nodes = refl; each = λ n h. either_way (has a n) (weight_of v n) }

  in_favour : (a : NodeSet) → AreInFavour exact a v
  unfolding exact
  in_favour a = record { nodes = refl; each = λ n h. either_way (has a n) (weight_of v n) }

  nodes : length exact.lo ≡ length t
  unfolding exact
  nodes = size

  ordered : AreOrdered exact
  unfolding exact
  ordered n h = omega (arith, ints)

  module _ (best : NodeSet) (is : IsBestAtPrices t v 1 p best (net_at t p 1 v best)) where
    best_throughout : IsBestThroughout t p exact best
    best_throughout =
        best_from_none t p exact nodes best (net_at t p 1 v best -ℤ net_at t p 1 v best)
        (loss_is t p exact nodes best v best (net_at t p 1 v best) is.satisfied (against best) ordered is) (omega (arith, ints))

    loss : IsLoss t p s exact (net_at t p 1 v best -ℤ net_at t p 1 v s)
    loss = loss_is t p exact nodes s v best (net_at t p 1 v best) sat (against s) ordered is

    best_or_behind : IsBestThroughout t p exact s ⊎ IsAhead t p exact best s
    best_or_behind =
        by_lt_z (net_at t p 1 v s) (net_at t p 1 v best)
        (λ less. inr (ahead_from t p exact nodes best s v is.satisfied.same_length sat.same_length (against best) less))
        (λ le. inl (best_from_none t p exact nodes s (net_at t p 1 v best -ℤ net_at t p 1 v s) loss (omega (arith, ints, le, is.greatest s sat))))

    mrpar : IsMrpar t p s exact
    mrpar = (best, is.satisfied, best_throughout, best_or_behind)

    improves : (old : Bounds) (was improve : ℤ) → IsLoss t p s old was → Improves t p s old exact improve
    improves old was improve is_was = (was, net_at t p 1 v best -ℤ net_at t p 1 v s, is_was, loss, ends)
      where
        ends : ((net_at t p 1 v best -ℤ net_at t p 1 v s) ≡ pos 0) ⊎ ((net_at t p 1 v best -ℤ net_at t p 1 v s) ≤ℤ (was -ℤ (improve *ℤ pos p.den)))
            ⊎ GainsMore t p s exact (was -ℤ (improve *ℤ pos p.den))
        ends =
            by_lt_z (was -ℤ (improve *ℤ pos p.den)) (net_at t p 1 v best -ℤ net_at t p 1 v s)
            (λ less. inr (inr (gains_from t p exact nodes s v best (net_at t p 1 v best) (was -ℤ (improve *ℤ pos p.den)) sat (in_favour s) is less)))
            (λ le. inr (inl le))

narrowed : (old : Bounds) (v : Weights) → IsInside 1 old v → IsNarrowed old (record { lo = v; hi = v })
narrowed old v inside = record {
  uncrossed = λ n (h, less). omega (arith, ints, less);
  tight = λ n (h, ends). tight n h ends;
}
  where
    tight : (n : ℕ) → n < length v → (weight_of v n <ℤ weight_of old.lo n) ⊎ (weight_of old.hi n <ℤ weight_of v n) → ⊥
    tight n h (inl less) = omega (arith, ints, less, inside.low n h, one_time (weight_of old.lo n))
    tight n h (inr less) = omega (arith, ints, less, inside.high n h, one_time (weight_of old.hi n))

pub exact_is_accepted : (t : Tree) (p : Prices) (improve : ℤ) (s : NodeSet) (old : Bounds) (v : Weights) → IsSatisfied t s → length v ≡ length t → IsInside 1 old v
    → IsJudged t p improve s old (record { lo = v; hi = v }) Accepted
unfolding exact
exact_is_accepted t p improve s old v sat size inside =
    let (best, ok, most) = greatest_there t s sat (net_at t p 1 v) in
    let is : IsBestAtPrices t v 1 p best (net_at t p 1 v best) = record { satisfied = ok; has = refl; greatest = most } in
    let (was, is_was) = loss_there t p old s (omega (arith, inside.same_length, size)) ordered_inside sat in
    (narrowed old v inside, mrpar t p s sat v size best is, improves t p s sat v size best is old was improve is_was)
  where
    ordered_inside : AreOrdered old
    ordered_inside n h =
        let l : n < length v = omega (arith, inside.same_length, h) in
        omega (arith, ints, inside.low n l, inside.high n l, one_time (weight_of old.lo n), one_time (weight_of old.hi n))

pub exact_bid_is_accepted : ExactBidIsAccepted
exact_bid_is_accepted t p improve s old v tree positive required sat size inside = exact_is_accepted t p improve s old v sat size inside

-- where new bounds are accepted there is no other verdict
pub accepted_alone : (t : Tree) (p : Prices) (improve : ℤ) (s : NodeSet) (old new : Bounds) (verdict : Verdict) → IsJudged t p improve s old new verdict
    → IsJudged t p improve s old new Accepted → verdict ≡ Accepted
accepted_alone t p improve s old new Accepted judged accepted = refl
accepted_alone t p improve s old new (Crossed n) judged accepted = absurd (accepted.0.uncrossed n judged.0)
accepted_alone t p improve s old new (Loosened n) judged accepted = absurd (accepted.0.tight n judged.1.0)
accepted_alone t p improve s old new Mrpar judged accepted = absurd (judged.1 accepted.1)
accepted_alone t p improve s old new Improve judged accepted = absurd (judged.2 accepted.2)
accepted_alone t p improve s old new Repeated judged accepted = absurd judged
accepted_alone t p improve s old new UnknownBidder judged accepted = absurd judged
accepted_alone t p improve s old new WrongCount judged accepted = absurd judged

-- and no refusal
pub refused_alone : (t : Tree) (p : Prices) (improve : ℤ) (s : NodeSet) (old new : Bounds) (refusal : Refusal) → IsJudged t p improve s old new (verdict_of (Err refusal))
    → IsJudged t p improve s old new Accepted → ⊥
refused_alone t p improve s old new (refusals.Crossed n) judged accepted = accepted.0.uncrossed n judged.0
refused_alone t p improve s old new (refusals.Loosened n) judged accepted = accepted.0.tight n judged.1.0
refused_alone t p improve s old new refusals.Mrpar judged accepted = judged.1 accepted.1
refused_alone t p improve s old new refusals.Improve judged accepted = judged.2 accepted.2
