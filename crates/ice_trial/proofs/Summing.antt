-- The figures of a settlement that closes.
use Rattle.std.proofs.Common.{◌≡◌, ◌∙◌, ◌+◌, ℕ, zero, suc, List, [], ◌∷◌, map, ℤ, ◌-ℤ◌, refl, sym, ap, subst, arith, Some}
use Rattle.std.specs.Prelude.{slice_get, unsigned_abs}
use Rattle.std.specs.Int.{IsGcd}
use Rattle.std.proofs.lemmas.List.{length-map}
use Rattle.ice_frac.proofs.Gcd.{IsGcd-gcd}
use Rattle.ice_defs.specs.Bounds.{Bounds}
use Rattle.ice_defs.specs.Weighing.{lower_weights}
use Rattle.ice_defs.specs.Vickrey.{IsVickrey}
use Rattle.ice_defs.specs.Threshold.{IsThreshold}
use Rattle.ice_defs.specs.Exchange.{Exchange, trees_of, exact_of}
use Rattle.ice_defs.specs.Session.{Proved, Settlement}
use Rattle.ice_headline_laws.specs.Right as right
use Rattle.ice_headline_laws.specs.Right.{IsSettled}
use Rattle.ice_vickrey.specs.Economy.{Economy}
use Rattle.ice_vickrey.specs.Marginals.{proved_without, AreMarginalsFrom}
use Rattle.ice_vickrey.specs.declared.marginal.Marginal.{Marginal}
use Rattle.ice_round.specs.SessionAt.{SessionAt}
use Rattle.ice_settled.specs.Shown.{closed_of}
use Rattle.ice_round.specs.Shown.{IsClosing}
use Rattle.ice_settled.specs.declared.settled.Closing.{Closing}
use Rattle.ice_trial.specs.Summaries.{AreFinal, IsLeft}

-- the final value and the regret of a settlement
pub final_of : (ex : Exchange) (bounds : List Bounds) (x : Settlement) → IsSettled ex bounds x → AreFinal ex bounds x.final.value x.regret
final_of ex bounds x is = (is.final.best, (x.final.sets, is.final.feasible, is.final.value, is.regret))

-- ---- the Vickrey discounts

discount_at : (e : Economy) (b i : ℕ) (ms : List Marginal) (v : ℤ) → AreMarginalsFrom e b ms → slice_get (map (λ m. m.discount) ms) i ≡ Some v → IsVickrey (trees_of e.exchange) (exact_of e.exchange) (lower_weights e.bounds) (b + i) v
discount_at e b i [] v are there = absurd (cc)
discount_at e b zero (m ∷ ms) v are there =
    let same : m.discount ≡ v = some_is there in
    subst (λ (d : ℤ). IsVickrey (trees_of e.exchange) (exact_of e.exchange) (lower_weights e.bounds) (b + zero) d) same
    (subst (λ (k : ℕ). IsVickrey (trees_of e.exchange) (exact_of e.exchange) (lower_weights e.bounds) k m.discount) (omega arith) are.0.vickrey)
  where
    some_is : Some m.discount ≡ Some v → m.discount ≡ v
    some_is e = cc
discount_at e b (suc i) (m ∷ ms) v are there =
    subst (λ (k : ℕ). IsVickrey (trees_of e.exchange) (exact_of e.exchange) (lower_weights e.bounds) k v) (omega arith) (discount_at e (suc b) i ms v are.1 there)

discounts_are : (e : Economy) (b : ℕ) (ms : List Marginal) → AreMarginalsFrom e b ms → map (λ (p : Proved). e.total -ℤ p.value) (map proved_without ms) ≡ map (λ (m : Marginal). m.discount) ms
discounts_are e b [] are = refl
discounts_are e b (m ∷ ms) are =
    ap (λ (d : ℤ). d ∷ map (λ (p : Proved). e.total -ℤ p.value) (map proved_without ms)) (sym are.0.difference) ∙ ap (λ (ds : List ℤ). m.discount ∷ ds) (discounts_are e (suc b) ms are.1)

-- ---- the surplus

pub left_of : (s : SessionAt) (c : Closing) → IsClosing s c → IsLeft s.exchange s.bounds c.best.value c.payments.surplus
left_of s c is =
    let e : Economy = record { exchange = s.exchange; bounds = s.bounds; total = c.best.value } in
    let ms = c.marginals.items in
    let discounts = right.discounts_of (closed_of s.exchange c) in
    let vickreys : right.vickreys_of (closed_of s.exchange c) ≡ map (λ (m : Marginal). m.discount) c.marginals.items =
    is.closed.vickreys ∙ discounts_are e 0 c.marginals.items is.marginals.each in (
      map (λ (m : Marginal). m.discount) c.marginals.items,
      right.discounts_of (closed_of s.exchange c),
      length-map c.marginals.items (λ (m : Marginal). m.discount) ∙ is.marginals.count,
      λ b v there. subst (λ (k : ℕ). IsVickrey (trees_of s.exchange) (exact_of s.exchange) (lower_weights s.bounds) k v) (omega arith) (discount_at e 0 b c.marginals.items v is.marginals.each there),
      subst (λ (vs : List ℤ). IsThreshold vs c.best.value (right.discounts_of (closed_of s.exchange c))) vickreys is.closed.discounts,
      is.closed.surplus,
      subst (IsGcd (unsigned_abs c.payments.surplus.num) c.payments.surplus.den) is.short.surplus_small.lowest.coprime (IsGcd-gcd (unsigned_abs c.payments.surplus.num) c.payments.surplus.den),
    )
