-- Where as many children are possible as must be taken, there is nothing to choose.
use Rattle.std.proofs.Common.{ℕ, zero, suc, ◌+◌, ◌<◌, ◌≤◌, ◌≡◌, Bool, true, false, cond, List, [], ◌∷◌, length, get_or, ℤ, refl, arith, ap, sym, ◌∙◌}
use Rattle.std.proofs.lemmas.Bool.{both_ways}
use Rattle.ice_best.specs.Choice.{picked_count, IsChoice, IsBestChoice}
use Rattle.ice_best.proofs.Children.{picked_count-le-length}
use Rattle.ice_best.proofs.Greedy.{IsGreedy, picked_count-le, greedy_is_greatest}

module _ (g : ℕ → ℤ) (needed possible : ℕ → Bool) (least most : ℕ) (cs : List ℕ) (G : ℕ → Bool)
    (many : picked_count possible cs ≡ least) (ordered : least ≤ most)
    (taken : (k : ℕ) → k < length cs → G (get_or cs k 0) ≡ possible (get_or cs k 0))
    (can : (k : ℕ) → k < length cs → needed (get_or cs k 0) ≡ true → possible (get_or cs k 0) ≡ true) where
  count_is : picked_count G cs ≡ least
  count_is =
      omega (arith, many, picked_count-le G possible cs (λ k h e. sym (taken k h) ∙ e), picked_count-le possible G cs (λ k h e. taken k h ∙ e))

  choice : IsChoice needed possible least most cs G
  choice = record {
    enough = omega (arith, count_is);
    few = omega (arith, count_is);
    takes_needed = λ k h e. taken k h ∙ can k h e;
    takes_possible = λ k h e. sym (taken k h) ∙ e;
  }

  none_left : {A : Type 0} (j : ℕ) → j < length cs → G (get_or cs j 0) ≡ false → possible (get_or cs j 0) ≡ true → A
  none_left j h left may = absurd (both_ways _ left (taken j h ∙ may))

  greedy : IsGreedy g needed possible least most cs G
  greedy = record {
    choice = choice;
    best_first = λ i j h h' is free left may. none_left j h' left may;
    adds_value = λ more. absurd (omega (arith, more, count_is));
    none_left = λ below j h left may. none_left j h left may;
  }

  pub all_is_best : IsBestChoice g needed possible least most cs G
  all_is_best = record { choice = choice; best = λ T is. greedy_is_greatest g needed possible least most cs G T greedy is }

-- ---- all the children must be taken

picked_count-all : (T : ℕ → Bool) (cs : List ℕ) → ((k : ℕ) → k < length cs → T (get_or cs k 0) ≡ true) → picked_count T cs ≡ length cs
picked_count-all T [] all = refl
picked_count-all T (c ∷ cs) all =
    omega (arith, ap {B = ℕ} (λ b. cond b 1 0) (all 0 (omega arith)), picked_count-all T cs (λ k h. all (suc k) (omega arith)))

-- where one isn't picked, fewer are than there are children
pub picked_count-less : (T : ℕ → Bool) (cs : List ℕ) (k : ℕ) → k < length cs → T (get_or cs k 0) ≡ false → picked_count T cs < length cs
picked_count-less T [] k h left = absurd (omega arith)
picked_count-less T (c ∷ cs) zero h left = omega (arith, ap {B = ℕ} (λ b. cond b 1 0) left, picked_count-le-length T cs)
picked_count-less T (c ∷ cs) (suc k) h left = by (T c) (picked_count-less T cs k (omega arith) left)
  where
    by : (b : Bool) → picked_count T cs < length cs → cond b 1 0 + picked_count T cs < suc (length cs)
    by true less = omega arith
    by false less = omega arith

pub whole_is_best : (g : ℕ → ℤ) (needed possible : ℕ → Bool) (least most : ℕ) (cs : List ℕ) (G : ℕ → Bool) → least ≡ length cs → least ≤ most
    → ((k : ℕ) → k < length cs → G (get_or cs k 0) ≡ true) → ((k : ℕ) → k < length cs → possible (get_or cs k 0) ≡ true)
    → IsBestChoice g needed possible least most cs G
whole_is_best g needed possible least most cs G whole ordered taken can =
    all_is_best g needed possible least most cs G (picked_count-all possible cs can ∙ sym whole) ordered (λ k h. taken k h ∙ sym (can k h)) (λ k h e. can k h)
