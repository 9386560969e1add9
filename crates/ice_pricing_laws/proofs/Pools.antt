-- The pool of a pricing run.
use Rattle.std.proofs.Common.{ℕ, ◌<◌, ◌≤◌, ◌≡◌, ◌≢◌, ◌⊎◌, List, [], ◌∷◌, ◌++◌, length, ℤ, pos, arith, sym, subst, ◌∙◌, inl, inr}
use Rattle.std.specs.List.{AllByRecursion}
use Rattle.std.proofs.lemmas.Int.{ints}
use Rattle.std.proofs.lemmas.Bool.{cases_lt}
use Rattle.std.proofs.lemmas.List.{get_or_append_left, get_or_at, length_push}
use Rattle.std.proofs.Math.IntN.{*ℤ_comm}
use Rattle.ice_defs.specs.Tree.{Tree}
use Rattle.ice_defs.specs.Set.{Weights}
use Rattle.ice_defs.specs.Trade.{Assignment}
use Rattle.ice_defs.specs.Pricing.{IsChoice}
use Rattle.ice_defs.specs.Fraction.{Fraction, AtMost}
use Rattle.ice_defs.specs.Program.{IsPoint}
use Rattle.ice_defs.specs.PricingLimit.{Stage, accuracy_stage, balance_stage, fairness_stage}
use Rattle.ice_defs.specs.PricingRun.{Member, StageAt, stage_program, solution_prices, allowance, excess_of, starts, follows, turns}
use Rattle.ice_defs.proofs.Lists.{all_push}
use Rattle.ice_frac.proofs.Fractions.{AtMost-right}
use Rattle.ice_pricing_laws.specs.Pools.{no_member, member_at, AreDistinct, ViolatorIsNew, PoolStaysDistinct, RunPoolIsProper}
use Rattle.ice_pricing_laws.proofs.Lists.{all-each, all-at}
use Rattle.ice_pricing_laws.proofs.Programs.{MeetsAccuracy, MeetsBalance, from_accuracy, from_balance}
use Rattle.ice_pricing_laws.proofs.Excess.{excess, accuracy-excess, balance-excess}
use Rattle.ice_pricing_laws.proofs.Solved.{den_of, num_at, den_of-pos, are_over-own, are_prices-over}
use Rattle.ice_pricing_laws.proofs.Accuracy.{point-size}
use Rattle.ice_pricing_laws.proofs.Balanced.{balance-size}
use Rattle.ice_pricing_laws.proofs.Traces.{traces_solve}

module _ (ts : List Tree) (ws : List Weights) (sets : Assignment) (goods : ℕ) (cap : ℤ) where
  abbrev at_stage : Stage → ℤ → ℕ → StageAt
  at_stage stage delta den = record { stage = stage; delta = delta; den = den }

  abbrev IsAllowed : StageAt → List Fraction → Member → Type 0
  IsAllowed at x m = AtMost (excess_of ts ws sets goods cap (solution_prices ts ws sets goods cap x) m) (allowance ts ws sets goods cap at x)

  balance-allowed : (stage : Stage) (delta : ℤ) (den : ℕ) (pool : List Member) (x : List Fraction)
      → IsPoint (stage_program ts ws sets goods cap (at_stage balance_stage delta den) pool) x → AllByRecursion (IsAllowed (at_stage balance_stage delta den) x) pool
  balance-allowed stage delta den pool x point =
      let size = balance-size ts ws sets goods cap delta den pool x point in
      let low = point.non_negative in
      let hd = den_of-pos goods x low size in
      let is = from_balance ts ws sets goods cap x (den_of x) (num_at x) hd (are_over-own goods x low size) size delta den pool point in
      all-each (MeetsBalance ts ws sets goods cap delta den (den_of x) (num_at x)) (IsAllowed (at_stage balance_stage delta den) x) pool
      (λ m h. let most = balance-excess ts ws sets goods cap (solution_prices ts ws sets goods cap x) (den_of x) (num_at x) (are_prices-over goods x low size) m delta den hd h in
      omega (arith, ints, most, *ℤ_comm (pos den) (excess ts ws sets goods cap (solution_prices ts ws sets goods cap x) m)))
      is.members

  -- at a point no member of the pool has an excess above what is allowed
  stage-allowed : (stage : Stage) (delta : ℤ) (den : ℕ) (pool : List Member) (x : List Fraction)
      → IsPoint (stage_program ts ws sets goods cap (at_stage stage delta den) pool) x → AllByRecursion (IsAllowed (at_stage stage delta den) x) pool
  stage-allowed accuracy_stage delta den pool x point =
      let size = point-size ts ws sets goods cap pool x point in
      let low = point.non_negative in
      let hd = den_of-pos goods x low size in
      let p = solution_prices ts ws sets goods cap x in
      let own = are_over-own goods x low size goods (omega (arith, size)) in
      let is = from_accuracy ts ws sets goods cap x (den_of x) (num_at x) hd (are_over-own goods x low size) size pool point in
      all-each (MeetsAccuracy ts ws sets goods cap (den_of x) (num_at x)) (IsAllowed (at_stage accuracy_stage delta den) x) pool
      (λ m h. let most = accuracy-excess ts ws sets goods cap p (den_of x) (num_at x) (are_prices-over goods x low size) m h in
      let over : AtMost (excess_of ts ws sets goods cap p m) (record { num = num_at x goods; den = den_of x }) = omega (arith, ints, most, *ℤ_comm (pos (den_of x)) (excess ts ws sets goods cap p m)) in
      AtMost-right (excess_of ts ws sets goods cap p m) (record { num = num_at x goods; den = den_of x }) (allowance ts ws sets goods cap (at_stage accuracy_stage delta den) x) hd (sym own.equal) over)
      is.members
  stage-allowed balance_stage delta den pool x point = balance-allowed balance_stage delta den pool x point
  stage-allowed fairness_stage delta den pool x point = balance-allowed fairness_stage delta den pool x point

pub violator_is_new : ViolatorIsNew
violator_is_new ts ws sets goods cap at pool x m point (there, below) i h e =
    let p = solution_prices ts ws sets goods cap x in
    let most = subst (λ k. AtMost (excess_of ts ws sets goods cap p k) (allowance ts ws sets goods cap at x)) e
    (all-at (λ k. AtMost (excess_of ts ws sets goods cap p k) (allowance ts ws sets goods cap at x)) pool i no_member (stage-allowed ts ws sets goods cap at.stage at.delta at.den pool x point) h) in
    omega (arith, ints, most, below)

-- one more, that isn't there
distinct-push : (pool : List Member) (m : Member) → AreDistinct pool → ((i : ℕ) → i < length pool → member_at pool i ≢ m) → AreDistinct (pool ++ m ∷ [])
distinct-push pool m are other i j h l e = by (cases_lt j (length pool))
  where
    by : (j < length pool) ⊎ (length pool ≤ j) → ⊥
    by (inl k) = are i j h k (sym (get_or_append_left pool (m ∷ []) no_member i (omega (arith, h, k))) ∙ e ∙ get_or_append_left pool (m ∷ []) no_member j k)
    by (inr k) =
        let last : length pool ≡ j = omega (arith, k, l, length_push pool m) in
        other i (omega (arith, h, last)) (sym (get_or_append_left pool (m ∷ []) no_member i (omega (arith, h, last))) ∙ e ∙ get_or_at pool m [] no_member j last)

pub pool_stays_distinct : PoolStaysDistinct
pool_stays_distinct ts ws sets goods cap at pool x m point violates are = distinct-push pool m are (violator_is_new ts ws sets goods cap at pool x m point violates)

pub run_pool_is_proper : RunPoolIsProper
run_pool_is_proper ts ws sets goods cap at pool starts = (tt, omega arith, λ i j h l e. absurd (omega (arith, l)))
run_pool_is_proper ts ws sets goods cap at pool (follows {at = before} {pool = own} {m = m} state may) =
    let (members, few, distinct) = run_pool_is_proper ts ws sets goods cap before own state in
    let (x, solved, _, violates, _, _) = may.solved in
    let (least, _) = traces_solve ts ws sets goods cap before own x solved in
    let room = may.room in (
      all_push (λ k. IsChoice ts ws sets (k.bidder, k.set)) own m members violates.0,
      omega (arith, room, length_push own m),
      pool_stays_distinct ts ws sets goods cap before own x m least.point violates distinct,
    )
run_pool_is_proper ts ws sets goods cap at pool (turns {pool = own} state over) = run_pool_is_proper ts ws sets goods cap _ own state
