-- Offers of relaxed sets.
use Rattle.std.proofs.Common.{ℕ, ◌<◌, ◌≡◌, length, ℤ, ◌<ℤ◌, arith, ap, sym, ◌∙◌, subst, inl, inr}
use Rattle.std.proofs.lemmas.Int.{ints}
use Rattle.ice_defs.specs.Trade.{tree_of, set_of, fixing_of, total_value, IsFeasible, MeetsAll}
use Rattle.ice_defs.specs.Bound.{IsOpen}
use Rattle.ice_defs.specs.Sweep.{IsLive}
use Rattle.ice_bound.specs.Kept.{Standing, AreRelaxedSets}
use Rattle.ice_subgradient.specs.declared.incumbent.Incumbent.{Incumbent}
use Rattle.ice_subgradient.specs.Laws.{OffersAreOne}
use Rattle.ice_subgradient.specs.Offers.{AreCovered, IsRaised, IsOffered}

-- several offers at one side are one
pub offered_again : OffersAreOne
offered_again ts exact ws side a b c (inl same) offer = subst (λ x. IsOffered ts exact ws side x c) same offer
offered_again ts exact ws side a b c (inr raised) (inl same) = inr (subst (IsRaised ts exact ws side a.value) (sym same) raised)
offered_again ts exact ws side a b c (inr raised) (inr more) = inr (record {
  feasible = more.feasible;
  meets = more.meets;
  has = more.has;
  more = omega (arith, ints, raised.more, more.more);
})

module _ (st : Standing) (live : IsLive st.trees st.marks) (relaxed : AreRelaxedSets st) where
  open_at : (b : ℕ) → b < length st.trees → IsOpen (tree_of st.trees b) (fixing_of st.marks b) (set_of st.sets b)
  open_at b h = let (s, is) = live b h in (relaxed.each b h (λ dead. dead s is)).is_open

  -- relaxed sets that are covered are feasible and meet the side
  pub covered_raises : (value : ℤ) (new : Incumbent) → AreCovered st → new.sets ≡ st.sets → new.value ≡ total_value st.sets st.weights → value <ℤ total_value st.sets st.weights
      → IsRaised st.trees st.exact st.weights st.marks value new
  covered_raises value new covered same is more = record {
    feasible = subst (IsFeasible st.trees st.exact) (sym same) (record { same_length = relaxed.same_length; satisfied = λ b h. (open_at b h).0; balanced = covered });
    meets = subst (λ a. MeetsAll a st.marks) (sym same) (λ b h. (open_at b (omega (arith, relaxed.same_length))).1);
    has = ap (λ a. total_value a st.weights) same ∙ sym is;
    more = omega (arith, ints, is);
  }
