-- Multiples of integers: one time, and factors that are moved, kept in an order, and cancelled.
use Rattle.std.proofs.Common.{ℕ, zero, suc, ◌≤◌, ◌≡◌, ℤ, pos, negsuc, ◌+ℤ◌, ◌-ℤ◌, ◌*ℤ◌, neg_ℤ, ◌≤ℤ◌, ◌<ℤ◌, arith, ap, sym, ◌∙◌}
use Rattle.std.proofs.lemmas.Int.{ints, by_lt_z}
use Rattle.std.proofs.Math.IntN.{*ℤ-zero, zero-*ℤ, suc_ℤ-*ℤ, pos-*ℤ-pos, *ℤ_comm}
use Rattle.ice_defs.proofs.Products.{times_add, times_neg, times-le}

-- one time
pub one_time : (a : ℤ) → pos 1 *ℤ a ≡ a
one_time a = let e : pos 1 *ℤ a ≡ (pos 0 *ℤ a) +ℤ a = suc_ℤ-*ℤ (pos 0) a in omega (arith, ints, e, zero-*ℤ a)

-- a product of a difference
pub times_less : (m a b : ℤ) → m *ℤ (a -ℤ b) ≡ (m *ℤ a) -ℤ (m *ℤ b)
times_less m a b = omega (arith, ints, times_add m a (neg_ℤ b), times_neg m b)

-- the order of two factors
pub times_swap : (n : ℕ) (a b : ℤ) → a *ℤ (pos n *ℤ b) ≡ pos n *ℤ (a *ℤ b)
times_swap zero a b = ap (λ z. a *ℤ z) (zero-*ℤ b) ∙ *ℤ-zero a ∙ sym (zero-*ℤ (a *ℤ b))
times_swap (suc n) a b =
    ap (λ z. a *ℤ z) (suc_ℤ-*ℤ (pos n) b) ∙ times_add a (pos n *ℤ b) b ∙ ap (λ z. z +ℤ (a *ℤ b)) (times_swap n a b) ∙ sym (suc_ℤ-*ℤ (pos n) (a *ℤ b))

-- two outer factors change places
pub times_turn : (m n : ℕ) (a : ℤ) → pos m *ℤ (a *ℤ pos n) ≡ pos n *ℤ (a *ℤ pos m)
times_turn m n a = ap (λ z. pos m *ℤ z) (*ℤ_comm a (pos n)) ∙ times_swap n (pos m) a ∙ ap (λ z. pos n *ℤ z) (*ℤ_comm (pos m) a)

-- a factor that isn't negative keeps an order
pub times_keep : (m a b : ℤ) → pos 0 ≤ℤ m → a ≤ℤ b → (m *ℤ a) ≤ℤ (m *ℤ b)
times_keep (pos n) a b some h = times-le n a b h
times_keep (negsuc n) a b some h = absurd (omega (arith, ints, some))

pub times-lt : (n : ℕ) (a b : ℤ) → 1 ≤ n → a <ℤ b → (pos n *ℤ a) <ℤ (pos n *ℤ b)
times-lt n a b some less =
    let more : (a +ℤ pos 1) ≤ℤ b = omega (arith, ints) in
    omega (arith, ints, times-le n (a +ℤ pos 1) b more, times_add (pos n) a (pos 1), pos-*ℤ-pos n 1)

-- a factor above 0 is cancelled
pub times_cancel : (n : ℕ) (a b : ℤ) → 1 ≤ n → (pos n *ℤ a) ≤ℤ (pos n *ℤ b) → a ≤ℤ b
times_cancel n a b some h = by_lt_z b a (λ less. absurd (omega (arith, ints, h, times-lt n b a some less))) (λ le. le)
