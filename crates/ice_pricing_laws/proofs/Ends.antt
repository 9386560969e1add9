-- What the states of a pricing run say.
use Rattle.std.proofs.Common.{ℕ, zero, suc, ◌*◌, ◌<◌, ◌≡◌, ◌⊎◌, List, [], ◌∷◌, length, map, drop, ℤ, pos, ◌*ℤ◌, refl, arith, sym, subst, inl, inr}
use Rattle.std.specs.List.{AllByRecursion}
use Rattle.std.proofs.lemmas.Int.{ints}
use Rattle.ice_defs.specs.Tree.{Tree}
use Rattle.ice_defs.specs.Set.{NodeSet, Weights}
use Rattle.ice_defs.specs.Trade.{Assignment, set_of}
use Rattle.ice_defs.specs.Prices.{Prices, ArePrices}
use Rattle.ice_defs.specs.Pricing.{IsChoice, excess_net, IsBalanced}
use Rattle.ice_defs.specs.Rows.{Certificate, PassesBalance}
use Rattle.ice_defs.specs.Fraction.{Fraction, whole_number, IsFraction, Equals, AtMost, fraction_at}
use Rattle.ice_defs.specs.Program.{IsPoint, IsLeast, AreDuals, AreNonNegative, IsInfeasible}
use Rattle.ice_defs.specs.Trace.{trace_end}
use Rattle.ice_defs.specs.PricingLimit.{Stage, accuracy_stage, balance_stage, fairness_stage}
use Rattle.ice_defs.specs.PricingRun.{Member, StageAt, first_stage, balance_program, stage_program, solution_prices, HasNoneToAdd, excess_of, IsAccurateStage, IsRunState, starts, follows, turns, common_den, duals_at}
use Rattle.ice_frac.proofs.Fractions.{AtMost-trans, Equals-trans, num-AtMost}
use Rattle.ice_frac.proofs.Ring.{cancel_ℤ}
use Rattle.ice_row_laws.specs.Laws.{AreSatisfied}
use Rattle.ice_pricing_laws.specs.Laws.{AreMembers, balance_at}
use Rattle.ice_pricing_laws.specs.Ends.{certificate_at, AreCertified, LeastHasViolation, AccuracyStageEnds, AccurateStageGives, BalanceComesAfter, BalanceStageEnds, RunIsFeasible, RunIsWithin}
use Rattle.ice_pricing_laws.specs.Weights.{certificate_with, AreWeights, weights_of_duals, nums_of}
use Rattle.ice_pricing_laws.proofs.Lists.{all-each, all-map}
use Rattle.ice_pricing_laws.proofs.Excess.{excess}
use Rattle.ice_pricing_laws.proofs.Solved.{are_over-own}
use Rattle.ice_pricing_laws.proofs.Tops.{fold-keeps}
use Rattle.ice_pricing_laws.proofs.Feasible.{greatest, greatest-low, greatest-high, accuracy_is_feasible, balance_is_feasible, accuracy_is_within, balance_is_within}
use Rattle.ice_pricing_laws.proofs.Traces.{traces_solve}
use Rattle.ice_pricing_laws.proofs.Pools.{run_pool_is_proper}
use Rattle.ice_pricing_laws.proofs.Balanced.{least_is_balanced}
use Rattle.ice_pricing_laws.proofs.Certified.{duals_pass_accuracy, duals_pass_balance}
use Rattle.ice_pricing_laws.proofs.Lowered.{accuracy_moves, lowered_are_weights}
use Rattle.ice_pricing_laws.proofs.Accuracy.{bound_is_point, prices-within, least-at, point-size, at_most_from_not, least_is_accurate}
use Rattle.ice_pricing_laws.specs.Pools.{no_member}

-- ---- the violation is attained

greatest-keeps : {X : Type 0} (P : ℤ → Type 0) (f : X → ℤ) (xs : List X) → P (pos 0) → AllByRecursion (λ x. P (f x)) xs → P (greatest f xs)
unfolding greatest
greatest-keeps P f xs none each = fold-keeps P (map f xs) (pos 0) none (all-map P f xs each)

module _ (ts : List Tree) (ws : List Weights) (sets : Assignment) (goods : ℕ) (cap : ℤ) (p : Prices) where
  abbrev IsAttained : ℤ → Type 0
  IsAttained z = (c : ℕ × NodeSet) × IsChoice ts ws sets c × (excess_net ts ws sets p c ≡ z)

  attained : 0 < length ts → AreSatisfied ts sets → (pool : List Member) → AreMembers ts ws sets pool → IsAttained (greatest (excess ts ws sets goods cap p) pool)
  attained some satisfied pool members =
      greatest-keeps IsAttained (excess ts ws sets goods cap p) pool
      ((0, set_of sets 0), (some, satisfied 0 some), omega (arith, ints))
      (all-each (λ m. IsChoice ts ws sets (m.bidder, m.set)) (λ m. IsAttained (excess ts ws sets goods cap p m)) pool (λ m h. ((m.bidder, m.set), h, refl)) members)

pub least_has_violation : LeastHasViolation
least_has_violation ts ws sets goods cap pool x some satisfied members least none =
    let p : Prices = solution_prices ts ws sets goods cap x in
    let within = prices-within ts ws sets goods cap pool x least.point in
    let e : Member → ℤ = excess ts ws sets goods cap p in
    let y : ℤ = greatest e pool in
    let point = bound_is_point ts ws sets goods cap pool p y within (greatest-low e pool) (greatest-high e pool no_member) in
    let most : AtMost (fraction_at x goods) (record { num = y; den = p.den }) = least-at ts ws sets goods cap pool x p y least within point in
    let size = point-size ts ws sets goods cap pool x least.point in
    let own = are_over-own goods x least.point.non_negative size goods (omega (arith, size)) in (
      y,
      record {
        attained = attained ts ws sets goods cap p some satisfied pool members;
        bound = λ c is.
            let m : Member = record { bidder = c.0; set = c.1 } in
            let few = at_most_from_not (fraction_at x goods) (excess_of ts ws sets goods cap p m) (λ below. none m (is, below)) in
            num-AtMost (e m) y p.den within.positive (AtMost-trans (record { num = e m; den = p.den }) (fraction_at x goods) (record { num = y; den = p.den }) own.proper few most);
      },
    )

-- ---- the accuracy stage

all-drop : {X : Type 0} (P : X → Type 0) (n : ℕ) (xs : List X) → AllByRecursion P xs → AllByRecursion P (drop n xs)
all-drop P zero xs are = are
all-drop P (suc n) [] are = tt
all-drop P (suc n) (x ∷ xs) (is, are) = all-drop P n xs are

weights-are : (factor goods : ℕ) (y : List Fraction) → AreNonNegative y
    → AreWeights factor (drop goods y) (common_den (weights_of_duals factor (drop goods y))) (nums_of (weights_of_duals factor (drop goods y)))
weights-are factor goods y low = (lowered_are_weights factor (drop goods y) (all-drop (λ f. IsFraction f × AtMost (whole_number (pos 0)) f) goods y low)).0

pub accuracy_stage_ends : AccuracyStageEnds
accuracy_stage_ends ts ws sets goods cap pool x market state solved none =
    let (least, duals) = traces_solve ts ws sets goods cap first_stage pool x solved in
    let (members, _, _) = run_pool_is_proper ts ws sets goods cap first_stage pool state in
    let (v, is) = least_has_violation ts ws sets goods cap pool x market.bidders market.satisfied members least none in
    let (accurate, equals) = least_is_accurate ts ws sets goods cap pool x v market.satisfied members least none is in
    let y : List Fraction = duals_at ts ws sets goods cap (stage_program ts ws sets goods cap first_stage pool) (trace_end (stage_program ts ws sets goods cap first_stage pool)) in
    let weights = weights-are 1 goods y duals.non_negative in (
      v,
      equals,
      record {
        violation = is;
        accurate = accurate;
        passes = duals_pass_accuracy ts ws sets goods cap pool x y v _ _ market.not_negative market.satisfied members least duals none is weights;
      },
    )

pub accurate_stage_gives : AccurateStageGives
accurate_stage_gives ts ws sets goods cap pool delta den market state over =
    let (x, solved, none, same, equals) = over.solved in
    let (v, mine, certified) = accuracy_stage_ends ts ws sets goods cap pool x market state solved none in
    let p : Prices = solution_prices ts ws sets goods cap x in
    let (least, _) = traces_solve ts ws sets goods cap first_stage pool x solved in
    let size = point-size ts ws sets goods cap pool x least.point in
    let own = are_over-own goods x least.point.non_negative size goods (omega (arith, size)) in
    let both : v *ℤ pos den ≡ delta *ℤ pos p.den = Equals-trans (record { num = v; den = p.den }) (fraction_at x goods) (record { num = delta; den = den }) own.proper mine (sym equals) in
    let one : v ≡ delta = cancel_ℤ p.den v delta certified.accurate.within.positive (subst (λ k. v *ℤ pos k ≡ delta *ℤ pos p.den) same both) in
    (p, sym same, subst (λ z. AreCertified ts ws sets goods cap p z (certificate_at ts ws sets goods cap first_stage pool)) one certified)

-- ---- where a run stands

module _ (ts : List Tree) (ws : List Weights) (sets : Assignment) (goods : ℕ) (cap : ℤ) where
  abbrev Stands : StageAt → Type 0
  Stands at = (at ≡ first_stage)
      ⊎ ((first : List Member) × IsRunState ts ws sets goods cap first_stage first × IsAccurateStage ts ws sets goods cap first at.delta at.den × (at ≡ balance_at at.delta at.den))

  stands : (at : StageAt) (pool : List Member) → IsRunState ts ws sets goods cap at pool → Stands at
  stands at pool starts = inl refl
  stands at pool (follows {at = before} {pool = own} {m = m} state may) = stands before own state
  stands at pool (turns {pool = own} state over) = inr (own, state, over, refl)

abbrev IsAccuracyStage : Stage → Type 0
IsAccuracyStage accuracy_stage = Unit {0}
IsAccuracyStage balance_stage = ⊥
IsAccuracyStage fairness_stage = ⊥

pub balance_comes_after : BalanceComesAfter
balance_comes_after ts ws sets goods cap pool delta den state = by (stands ts ws sets goods cap (balance_at delta den) pool state)
  where
    by : Stands ts ws sets goods cap (balance_at delta den) → (first : List Member) × IsRunState ts ws sets goods cap first_stage first × IsAccurateStage ts ws sets goods cap first delta den
    by (inl e) = absurd (subst (λ (at : StageAt). IsAccuracyStage at.stage) (sym e) tt)
    by (inr (first, before, over, e)) = (first, before, over)

-- ---- the balance stage

pub balance_stage_ends : BalanceStageEnds
balance_stage_ends ts ws sets goods cap pool delta den x v market state solved none is =
    let (first, before, over) = balance_comes_after ts ws sets goods cap pool delta den state in
    let (p, same, certified) = accurate_stage_gives ts ws sets goods cap first delta den market before over in
    let (members, _, _) = run_pool_is_proper ts ws sets goods cap (balance_at delta den) pool state in
    let (least, duals) = traces_solve ts ws sets goods cap (balance_at delta den) pool x solved in
    let y : List Fraction = duals_at ts ws sets goods cap (stage_program ts ws sets goods cap (balance_at delta den) pool) (trace_end (stage_program ts ws sets goods cap (balance_at delta den) pool)) in
    let r : Prices = solution_prices ts ws sets goods cap x in
    let c : Certificate = certificate_at ts ws sets goods cap first_stage first in
    let ends : IsLeast (balance_program ts ws sets goods cap delta den pool) x → AreDuals (balance_program ts ws sets goods cap delta den pool) x y → HasNoneToAdd ts ws sets goods cap (balance_at delta den) x
    → IsBalanced ts ws sets goods cap r × Equals (record { num = v; den = r.den }) (record { num = delta; den = den })
    × PassesBalance ts ws sets goods r v (certificate_with (common_den (weights_of_duals (100 * den) (drop goods y))) pool (nums_of (weights_of_duals (100 * den) (drop goods y))))
    × AreCertified ts ws sets goods cap r v c =
    subst
    (λ d. IsLeast (balance_program ts ws sets goods cap delta d pool) x → AreDuals (balance_program ts ws sets goods cap delta d pool) x y → HasNoneToAdd ts ws sets goods cap (balance_at delta d) x
    → IsBalanced ts ws sets goods cap r × Equals (record { num = v; den = r.den }) (record { num = delta; den = d })
    × PassesBalance ts ws sets goods r v (certificate_with (common_den (weights_of_duals (100 * d) (drop goods y))) pool (nums_of (weights_of_duals (100 * d) (drop goods y))))
    × AreCertified ts ws sets goods cap r v c)
    same
    (λ l k n.
    let (balanced, equals) = least_is_balanced ts ws sets goods cap pool p delta x v market.satisfied members certified.accurate certified.violation l n is in
    let weights = weights-are (100 * p.den) goods y k.non_negative in (
      balanced,
      equals,
      duals_pass_balance ts ws sets goods cap pool p delta x y v _ _ market.satisfied members certified.accurate certified.violation l k n is weights,
      record {
        violation = is;
        accurate = balanced.accurate;
        passes = accuracy_moves ts ws sets goods cap p r delta v c certified.accurate.within.positive (sym equals) certified.passes;
      },
    )) in
    let (balanced, equals, passes, moved) = ends least duals none in
    (balanced, equals, passes, (first, before, over, moved))

-- ---- each state

pub run_is_feasible : RunIsFeasible
run_is_feasible ts ws sets goods cap at pool market state = by (stands ts ws sets goods cap at pool state)
  where
    by : Stands ts ws sets goods cap at → ¬ IsInfeasible (stage_program ts ws sets goods cap at pool)
    by (inl e) = subst (λ k. ¬ IsInfeasible (stage_program ts ws sets goods cap k pool)) (sym e) (accuracy_is_feasible ts ws sets goods cap pool market.not_negative)
    by (inr (first, before, over, e)) =
        let (p, same, certified) = accurate_stage_gives ts ws sets goods cap first at.delta at.den market before over in
        let (members, _, _) = run_pool_is_proper ts ws sets goods cap at pool state in
        subst (λ k. ¬ IsInfeasible (stage_program ts ws sets goods cap k pool)) (sym e)
        (subst (λ d. ¬ IsInfeasible (balance_program ts ws sets goods cap at.delta d pool)) same
        (balance_is_feasible ts ws sets goods cap pool p at.delta members certified.accurate.within certified.violation))

pub run_is_within : RunIsWithin
run_is_within ts ws sets goods cap at pool x market state solved = by (stands ts ws sets goods cap at pool state)
  where
    by : Stands ts ws sets goods cap at → ArePrices goods cap (solution_prices ts ws sets goods cap x)
    by (inl e) =
        let (least, _) = traces_solve ts ws sets goods cap at pool x solved in
        accuracy_is_within ts ws sets goods cap pool x (subst (λ k. IsPoint (stage_program ts ws sets goods cap k pool) x) e least.point)
    by (inr (first, before, over, e)) =
        let (p, same, certified) = accurate_stage_gives ts ws sets goods cap first at.delta at.den market before over in
        let (members, _, _) = run_pool_is_proper ts ws sets goods cap at pool state in
        let (least, _) = traces_solve ts ws sets goods cap at pool x solved in
        let mine = subst (λ d. IsLeast (balance_program ts ws sets goods cap at.delta d pool) x) (sym same) (subst (λ k. IsLeast (stage_program ts ws sets goods cap k pool) x) e least) in
        balance_is_within ts ws sets goods cap pool p at.delta x members certified.accurate.within certified.violation mine
