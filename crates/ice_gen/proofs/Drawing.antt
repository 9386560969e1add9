-- Draws from a state on.
use Rattle.std.proofs.Common.{ℕ, zero, suc, ◌+◌, ◌*◌, ◌%◌, ◌^◌, ◌≡◌, List, [], ◌∷◌, ◌++◌, length, sum, replicate, refl, arith, ap, sym, ◌∙◌}
use Rattle.std.proofs.Math.Nat.{mod-add-mod}
use Rattle.std.proofs.Math.Numerals.{add-one}
use Rattle.std.proofs.lemmas.List.Sums.{sum_by-cons}
use Rattle.ice_gen.specs.Generated.{advanced, draws}
use Rattle.ice_gen.specs.Drawing.{drawn, state_after}

-- the product and the sum may each be cut to 64 bits
pub advanced-cut : (x : ℕ) → (x * 6364136223846793005 % 2 ^ 64 + 1442695040888963407) % 2 ^ 64 ≡ advanced x
unfolding advanced
advanced-cut x = mod-add-mod (x * 6364136223846793005) (2 ^ 64) 1442695040888963407

pub ruleset advancing = (advanced-cut)

pub state_after-none : (x : ℕ) → state_after 0 x ≡ x
unfolding state_after
state_after-none x = refl

-- one draw more
pub state_after-more : (k x : ℕ) → state_after (k + 1) x ≡ advanced (state_after k x)
unfolding state_after
state_after-more zero x = refl
state_after-more (suc k) x = ap (λ n. state_after n x) (add-one (suc k)) ∙ ap (λ n. state_after n (advanced x)) (sym (add-one k)) ∙ state_after-more k (advanced x)

-- the first of some draws
pub state_after-first : (k x : ℕ) → state_after (k + 1) x ≡ state_after k (advanced x)
unfolding state_after
state_after-first k x = ap (λ n. state_after n x) (add-one k)

pub state_after-add : (k m x : ℕ) → state_after (k + m) x ≡ state_after m (state_after k x)
unfolding state_after
state_after-add zero m x = let e : 0 + m ≡ m = omega arith in ap (λ n. state_after n x) e
state_after-add (suc k) m x = let e : suc k + m ≡ suc (k + m) = omega arith in ap (λ n. state_after n x) e ∙ state_after-add k m (advanced x)

-- draws of two lists, one after the other
pub draws-append : (ns ms : List ℕ) (x : ℕ) → draws (ns ++ ms) x ≡ draws ns x ++ draws ms (state_after (length ns) x)
unfolding draws state_after
draws-append [] ms x = refl
draws-append (n ∷ ns) ms x = ap (λ ds. drawn x n ∷ ds) (draws-append ns ms (advanced x))

pub length-draws : (ns : List ℕ) (x : ℕ) → length (draws ns x) ≡ length ns
unfolding draws
length-draws [] x = refl
length-draws (n ∷ ns) x = ap suc (length-draws ns (advanced x))

-- the sum of one draw more below the same bound
pub sum-draws-more : (k n x : ℕ) → sum (draws (replicate (k + 1) n) x) ≡ sum (draws (replicate k n) x) + drawn (state_after k x) n
unfolding draws state_after
sum-draws-more zero n x = omega arith
sum-draws-more (suc k) n x =
    let later : ℕ → ℕ = λ m. sum (draws (replicate m n) (advanced x)) in
    let more : sum (draws (replicate (suc k + 1) n) x) ≡ drawn x n + later (k + 1) =
    ap (λ m. sum (draws (replicate m n) x)) (add-one (suc k))
    ∙ sum_by-cons (λ y. y) (drawn x n) (draws (replicate (suc k) n) (advanced x))
    ∙ ap (λ m. drawn x n + later m) (sym (add-one k)) in
    let now : sum (draws (replicate (suc k) n) x) ≡ drawn x n + later k = sum_by-cons (λ y. y) (drawn x n) (draws (replicate k n) (advanced x)) in
    omega (arith, more, now, sum-draws-more k n (advanced x))
