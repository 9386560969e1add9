-- What is offered, and what is then closed.
use Rattle.std.proofs.Common.{◌≤◌, ◌≡◌, length, ℤ, pos, neg_ℤ, ◌≤ℤ◌, arith, ap, inl, inr}
use Rattle.std.specs.Prelude.{sum_by}
use Rattle.std.proofs.lemmas.Int.{ints, by_lt_z}
use Rattle.ice_defs.specs.Trade.{IsFeasible, total_value}
use Rattle.ice_defs.specs.Sweep.{IsLive, IsSweptBound}
use Rattle.ice_defs.specs.Conditions.{AreWeightsOf}
use Rattle.ice_bound.specs.Kept.{Standing, AreRelaxedSets}
use Rattle.ice_search_log.specs.Nodes.{HasNoNode, AreOpenSets}
use Rattle.ice_search_log.proofs.Single.{node_is_there}
use Rattle.ice_subgradient.specs.declared.incumbent.Incumbent.{Incumbent}
use Rattle.ice_subgradient.specs.Offers.{AreBetter, IsOffered}
use Rattle.ice_search.proofs.Ranges.{total_high}

pub open_sets : (st : Standing) → IsLive st.trees st.marks → AreRelaxedSets st → AreOpenSets st.trees st.marks st.sets
open_sets st live are = record {
  same_length = are.same_length;
  each = λ b l. (are.each b l (λ dead. let (s, open_set) = live b l in dead s open_set)).is_open;
}

pub no_less : (st : Standing) (old new : Incumbent) → IsOffered st.trees st.exact st.weights st.marks old new → old.value ≤ℤ new.value
no_less st old new (inl same) = let e = ap (λ i. i.value) same in omega (arith, ints, e)
no_less st old new (inr raised) = omega (arith, ints, raised.more)

-- where no node splits the side, nothing above the value is left in it
pub closed_at : (st : Standing) (old new : Incumbent) → IsLive st.trees st.marks → AreRelaxedSets st → AreWeightsOf st.trees st.weights → sum_by length st.trees ≤ 2000
    → neg_ℤ (pos 200000000000000) ≤ℤ old.value → IsOffered st.trees st.exact st.weights st.marks old new
    → (AreBetter st old.value → new ≡ record { sets = st.sets; value = total_value st.sets st.weights })
    → HasNoNode st.trees st.marks → (v : ℤ) → IsSweptBound st.trees st.exact st.weights st.marks v → v ≤ℤ new.value
closed_at st old new live relaxed weights few low offered taken none v swept =
    let up = no_less st old new offered in
    let high = total_high st.trees st.weights st.sets weights relaxed.same_length relaxed.nodes few in
    node_is_there st.trees st.exact st.weights st.marks v st.sets new.value swept none (open_sets st live relaxed) (λ feasible. worth feasible up) (omega (arith, ints, up, high, low))
  where
    worth : IsFeasible st.trees st.exact st.sets → old.value ≤ℤ new.value → total_value st.sets st.weights ≤ℤ new.value
    worth feasible up =
        by_lt_z old.value (total_value st.sets st.weights) (λ more. let e = ap (λ i. i.value) (taken (record { covered = feasible.balanced; more = more })) in omega (arith, ints, e))
        (λ le. omega (arith, ints, le, up))
