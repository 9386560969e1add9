-- Nodes that leave both children live.
use Rattle.std.proofs.Common.{ℕ, ◌≡◌, List, arith, ap, sym, ◌∙◌, subst}
use Rattle.ice_defs.specs.declared.Mark.{Mark}
use Rattle.ice_defs.specs.declared.Mark.TheVariants.{Free, Must, Never}
use Rattle.ice_defs.specs.Tree.{Tree}
use Rattle.ice_defs.specs.Steps.{Side, with_mark}
use Rattle.ice_defs.specs.Log.{IsFreeNode}
use Rattle.ice_defs.specs.Sweep.{IsLive}
use Rattle.ice_bound.specs.Answer.{IsFirstDead}
use Rattle.ice_defs.specs.Conditions.{AreFixingsOf}
use Rattle.ice_bound.specs.Kept.{Standing}
use Rattle.ice_refute.proofs.Kept.{with_mark-back}
use Rattle.ice_search.specs.Nodes.{IsSplitNode, IsSameStanding}

pub dead_is_not : (ts : List Tree) (side : Side) (b : ℕ) → IsFirstDead ts side b → ¬ IsLive ts side
dead_is_not ts side b is live = let (s, open_set) = live b is.there in is.dead s open_set

-- the same trees with other marks
pub live_there : (ts ts2 : List Tree) (xs ys : Side) → ts2 ≡ ts → xs ≡ ys → IsLive ts2 xs → IsLive ts ys
live_there ts ts2 xs ys e m live = subst (λ ts. IsLive ts ys) e (subst (IsLive ts2) m live)

module _ (st : Standing) where
  pub same_standing : (st2 : Standing) → st2 ≡ st → IsSameStanding st st2
  same_standing st2 e =
      record { trees = ap (λ s. s.trees) e; weights = ap (λ s. s.weights) e; marks = ap (λ s. s.marks) e; multipliers = ap (λ s. s.multipliers) e; exact = ap (λ s. s.exact) e }

  pub same_still : (st2 st3 : Standing) → IsSameStanding st st2 → IsSameStanding st2 st3 → IsSameStanding st st3
  same_still st2 st3 one two = record {
    trees = two.trees ∙ one.trees;
    weights = two.weights ∙ one.weights;
    marks = two.marks ∙ one.marks;
    multipliers = two.multipliers ∙ one.multipliers;
    exact = two.exact ∙ one.exact;
  }

  -- a mark is put and taken back
  pub same_back : (st2 st3 : Standing) (b n : ℕ) (m : Mark) → AreFixingsOf st.trees st.marks → IsFreeNode st.trees st.marks b n
      → st2.trees ≡ st.trees → st2.weights ≡ st.weights → st2.marks ≡ with_mark st.marks b n m → st2.multipliers ≡ st.multipliers → st2.exact ≡ st.exact
      → st3.trees ≡ st2.trees → st3.weights ≡ st2.weights → st3.marks ≡ with_mark st2.marks b n Free → st3.multipliers ≡ st2.multipliers → st3.exact ≡ st2.exact
      → IsSameStanding st st3
  same_back st2 st3 b n m fit free t w x y e t' w' x' y' e' = record {
    trees = t' ∙ t;
    weights = w' ∙ w;
    marks = x' ∙ ap (λ xs. with_mark xs b n Free) x ∙ with_mark-back st.marks b n m (omega (arith, free.0, fit.same_length)) free.2;
    multipliers = y' ∙ y;
    exact = e' ∙ e;
  }

  pub free_there : (st2 : Standing) (b n : ℕ) → IsSameStanding st st2 → IsFreeNode st.trees st.marks b n → IsFreeNode st2.trees st2.marks b n
  free_there st2 b n same free = subst (λ ts. IsFreeNode ts st2.marks b n) (sym same.trees) (subst (λ xs. IsFreeNode st.trees xs b n) (sym same.marks) free)

  pub live_back : (st2 : Standing) (b n : ℕ) (m : Mark) → IsSameStanding st st2 → IsLive st2.trees (with_mark st2.marks b n m) → IsLive st.trees (with_mark st.marks b n m)
  live_back st2 b n m same live = live_there st.trees st2.trees (with_mark st2.marks b n m) (with_mark st.marks b n m) same.trees (ap (λ xs. with_mark xs b n m) same.marks) live

  pub none_back : (st2 : Standing) (b n : ℕ) → IsSameStanding st st2
      → (IsFreeNode st2.trees st2.marks b n → IsLive st2.trees (with_mark st2.marks b n Must) → ¬ IsLive st2.trees (with_mark st2.marks b n Never))
      → IsFreeNode st.trees st.marks b n → IsLive st.trees (with_mark st.marks b n Must) → ¬ IsLive st.trees (with_mark st.marks b n Never)
  none_back st2 b n same none free must never = none (free_there st2 b n same free) (live_on Must must) (live_on Never never)
    where
      live_on : (m : Mark) → IsLive st.trees (with_mark st.marks b n m) → IsLive st2.trees (with_mark st2.marks b n m)
      live_on m live = live_there st2.trees st.trees (with_mark st.marks b n m) (with_mark st2.marks b n m) (sym same.trees) (ap (λ xs. with_mark xs b n m) (sym same.marks)) live

  -- the two children are looked at, one after the other
  pub split_of : (st2 : Standing) (b n : ℕ) → IsSameStanding st st2 → IsFreeNode st.trees st.marks b n → IsLive st.trees (with_mark st.marks b n Must)
      → IsLive st2.trees (with_mark st2.marks b n Never) → IsSplitNode st.trees st.marks b n
  split_of st2 b n same free must never = record { free = free; must = must; never = live_back st2 b n Never same never }
