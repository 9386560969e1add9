-- Where all that add value may be taken, taking them is a best choice.
use Rattle.std.proofs.Common.{ℕ, ◌+◌, ◌<◌, ◌≤◌, ◌≡◌, ◌≢◌, Bool, true, false, List, length, get_or, ℤ, pos, ◌≤ℤ◌, arith, refl, ap, sym, ◌∙◌, ◌⊎◌, inl, inr, subst, below_more, take, set, cond}
use Rattle.std.proofs.lemmas.List.{get_or-take, length-take-le}
use Rattle.ice_defs.specs.Set.{has}
use Rattle.ice_best.proofs.Children.{picked_count_more}
use Rattle.ice_best.proofs.Flags.{apart, has-put_same, has-put_other}
use Rattle.ice_best.proofs.Partial.{picked_count-same}
use Rattle.std.proofs.lemmas.Int.{ints}
use Rattle.std.proofs.lemmas.Bool.{cases_eq, both_ways}
use Rattle.ice_best.specs.Choice.{picked_count, IsIncreasing, IsChoice, IsBestChoice, TakesNeeded, TakesGains}
use Rattle.ice_best.proofs.Greedy.{IsGreedy, picked_count-le, greedy_is_greatest}

module _ (gain : ℕ → ℤ) (possible taken : ℕ → Bool) (children : List ℕ) where
  pub TakesGains-none : TakesGains gain possible taken children 0 taken
  TakesGains-none = record {
    keeps = λ k h e. e;
    gains = λ k h f e. absurd (both_ways _ f e);
    none_left = λ k h. absurd (omega arith);
  }

  -- the next child is taken where it was, or adds value
  pub TakesGains-more : (n : ℕ) (new new' : ℕ → Bool) → n < length children → (new (get_or children n 0) ≡ true → new' (get_or children n 0) ≡ true)
      → (new' (get_or children n 0) ≡ true → new (get_or children n 0) ≡ false → (possible (get_or children n 0) ≡ true) × (pos 0 ≤ℤ gain (get_or children n 0)))
      → (new' (get_or children n 0) ≡ false → possible (get_or children n 0) ≡ true → gain (get_or children n 0) ≤ℤ pos 0)
      → ((k : ℕ) → k < length children → k ≢ n → new' (get_or children k 0) ≡ new (get_or children k 0))
      → TakesGains gain possible taken children n new → TakesGains gain possible taken children (n + 1) new'
  TakesGains-more n new new' inside kept added left same is = record {
    keeps = λ k h e. at_place (λ c. new c ≡ true → new' c ≡ true) k kept (λ ne e'. same k h ne ∙ e') (is.keeps k h e);
    gains = λ k h f e. by_old k h f e (new (get_or children k 0)) refl;
    none_left = below_more _ _
        (λ k h f may.
        let ne : k ≢ n = omega arith in
        is.none_left k h (sym (same k (omega arith) ne) ∙ f) may)
        left;
  }
    where
      at_place : (P : ℕ → Type 0) (k : ℕ) → P (get_or children n 0) → (k ≢ n → P (get_or children k 0)) → P (get_or children k 0)
      at_place P k here there = by (cases_eq k n)
        where
          by : (k ≡ n) ⊎ (k ≡ n → ⊥) → P (get_or children k 0)
          by (inl e) = subst (λ m. P (get_or children m 0)) (sym e) here
          by (inr ne) = there ne

      by_old : (k : ℕ) → k < length children → taken (get_or children k 0) ≡ false → new' (get_or children k 0) ≡ true → (b : Bool) → new (get_or children k 0) ≡ b
          → (possible (get_or children k 0) ≡ true) × (pos 0 ≤ℤ gain (get_or children k 0))
      by_old k h f e true was = is.gains k h f was
      by_old k h f e false was =
          at_place (λ c. new' c ≡ true → new c ≡ false → (possible c ≡ true) × (pos 0 ≤ℤ gain c)) k added
          (λ ne e' was'. absurd (both_ways _ was' (sym (same k h ne) ∙ e'))) e was

-- how many of the first n children are taken, once it is settled whether the next one is
pub picked_count-put : (cs : List ℕ) (taken : List Bool) (n count : ℕ) (b : Bool) → IsIncreasing cs → n < length cs → get_or cs n 0 < length taken
    → count ≡ picked_count (has taken) (take n cs)
    → picked_count (has (set taken (get_or cs n 0) b)) (take (n + 1) cs) ≡ count + cond b 1 0
picked_count-put cs taken n count b up inside there e =
    let size = length-take-le n cs (omega arith) in
    let before =
    picked_count-same (has taken) (has (set taken (get_or cs n 0) b)) (take n cs)
    (λ j h.
    let small : j < n = omega (arith, h, size) in
    let at = get_or-take n cs j 0 small in
    subst (λ c. has (set taken (get_or cs n 0) b) c ≡ has taken c) (sym at)
    (has-put_other taken (get_or cs n 0) (get_or cs j 0) b (apart cs j n up (omega arith) inside (omega arith)))) in
    let here = ap {B = ℕ} (λ x. cond x 1 0) (has-put_same taken (get_or cs n 0) b there) in
    omega (arith, e, before, here, picked_count_more (has (set taken (get_or cs n 0) b)) cs n inside)

module _ (gain : ℕ → ℤ) (needed possible taken : ℕ → Bool) (least most count : ℕ) (children : List ℕ) (new : ℕ → Bool)
    (started : TakesNeeded needed possible taken children count) (enough : least ≤ picked_count new children) (few : picked_count possible children ≤ most)
    (is : TakesGains gain possible taken children (length children) new) where
  takes_needed : (k : ℕ) → k < length children → needed (get_or children k 0) ≡ true → new (get_or children k 0) ≡ true
  takes_needed k h e = is.keeps k h (started.taken_is k h ∙ e)

  takes_possible : (k : ℕ) → k < length children → new (get_or children k 0) ≡ true → possible (get_or children k 0) ≡ true
  takes_possible k h e = by (taken (get_or children k 0)) refl
    where
      by : (b : Bool) → taken (get_or children k 0) ≡ b → possible (get_or children k 0) ≡ true
      by true t = started.can k h (sym (started.taken_is k h) ∙ t)
      by false f = (is.gains k h f e).0

  choice : IsChoice needed possible least most children new
  choice = record {
    enough = enough;
    few = omega (arith, few, picked_count-le new possible children takes_possible);
    takes_needed = takes_needed;
    takes_possible = takes_possible;
  }

  adds : (k : ℕ) → k < length children → new (get_or children k 0) ≡ true → needed (get_or children k 0) ≡ false → pos 0 ≤ℤ gain (get_or children k 0)
  adds k h e free = (is.gains k h (started.taken_is k h ∙ free) e).1

  greedy : IsGreedy gain needed possible least most children new
  greedy = record {
    choice = choice;
    best_first = λ i j h h' e free left may. omega (arith, ints, adds i h e free, is.none_left j h' left may);
    adds_value = λ l m i h e free. adds i h e free;
    none_left = λ l j h left may. is.none_left j h left may;
  }

  pub gains_are_best : IsBestChoice gain needed possible least most children new
  gains_are_best = record { choice = choice; best = λ T other. greedy_is_greatest gain needed possible least most children new T greedy other }
