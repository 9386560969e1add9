-- Rows of the bidders' own sets, and what bidders pay.
use Rattle.std.specs.Prelude.{OnOk}
use Rattle.std.proofs.Common.{Result, Ok, Err, ℕ, ◌*◌, ◌/◌, ◌≤◌, ◌≡◌, ◌^◌, List, [], ◌∷◌, ℤ, pos, negsuc, neg_ℤ, ◌*ℤ◌, ◌≤ℤ◌, arith, ap, ◌∙◌, append_assoc}
use Rattle.std.proofs.lemmas.Int.{ints}
use Rattle.std.proofs.Math.IntN.{*ℤ_comm}
use Rattle.std.proofs.Math.Nat.{div-le_self}
use Rattle.ice_defs.specs.Fraction.{Fraction, fraction_at}
use Rattle.ice_defs.specs.Program.{Constraint, Program}
use Rattle.ice_defs.specs.PricingRun.{num_over}
use Rattle.ice_defs.specs.Set.{units}
use Rattle.ice_defs.specs.Trade.{tree_of, set_of}
use Rattle.ice_lp.specs.Limits.{IsNumber}
use Rattle.ice_row_laws.specs.Sizes.{IsSizedWithin}
use Rattle.ice_row_laws.proofs.Sizes.{times-within}
use Rattle.ice_pricing.specs.Provisional.{ProvisionalTrade}
use Rattle.ice_fair_stage.specs.Paid.{IsShortPayment}
use Rattle.ice_fair_stage.specs.Stages.{FairStage, with_rows, set_row, rows_of}

-- the units of a bidder's own set of a good, times a factor
abbrev pub unit_of : ProvisionalTrade → ℤ → ℕ → ℕ → ℤ
unit_of t factor b g = factor *ℤ units (tree_of t.trees b) (set_of t.sets b) g

-- a short payment over a small denominator
pub payment-sized : (cut : ℕ) (f : Fraction) → cut ≤ 1000 → IsShortPayment f → IsSizedWithin (10 ^ 21) (num_over cut f)
payment-sized cut f few short =
    let small : cut / f.den ≤ cut = div-le_self cut f.den in
    let is : IsSizedWithin (1000 * 10 ^ 18) (pos (cut / f.den) *ℤ f.num) = times-within (cut / f.den) 1000 (10 ^ 18) f.num (omega (arith, small, few)) short in
    let e = *ℤ_comm f.num (pos (cut / f.den)) in
    record { low = (let h = is.low in omega (arith, ints, e, h)); high = (let h = is.high in omega (arith, ints, e, h)) }

-- one row behind another
pub two-rows : (p : Program) (one other : Constraint) → with_rows (with_rows p (one ∷ [])) (other ∷ []) ≡ with_rows p (one ∷ other ∷ [])
two-rows p one other = ap (λ (rows : List Constraint). let made : Program = record { costs = p.costs; rows = rows } in made) (append_assoc p.rows (one ∷ []) (other ∷ []))

-- the two rows of a bidder
both-rows : (t : ProvisionalTrade) (at : FairStage) (b : ℕ) (p : Program) (factor minus least less : ℤ) → factor ≡ pos at.cut → minus ≡ neg_ℤ (pos at.cut)
    → least ≡ num_over at.cut (fraction_at at.payments b) → less ≡ neg_ℤ (num_over at.cut (fraction_at at.payments b))
    → with_rows (with_rows p (set_row t b at.cut factor least ∷ [])) (set_row t b at.cut minus less ∷ []) ≡ with_rows p (rows_of t at b)
both-rows t at b p factor minus least less e f g h =
    two-rows p (set_row t b at.cut factor least) (set_row t b at.cut minus less)
    ∙ ap (λ (z : ℤ). with_rows p (set_row t b at.cut z least ∷ set_row t b at.cut minus less ∷ [])) e
    ∙ ap (λ (z : ℤ). with_rows p (set_row t b at.cut (pos at.cut) z ∷ set_row t b at.cut minus less ∷ [])) g
    ∙ ap (λ (z : ℤ). with_rows p (set_row t b at.cut (pos at.cut) (num_over at.cut (fraction_at at.payments b)) ∷ set_row t b at.cut z less ∷ [])) f
    ∙ ap (λ (z : ℤ). with_rows p (set_row t b at.cut (pos at.cut) (num_over at.cut (fraction_at at.payments b)) ∷ set_row t b at.cut (neg_ℤ (pos at.cut)) z ∷ [])) h

pub bidder-rows : (t : ProvisionalTrade) (at : FairStage) (b cut : ℕ) (p : Program) (factor minus least less : ℤ) → cut ≡ at.cut → factor ≡ pos at.cut → minus ≡ neg_ℤ (pos at.cut)
    → least ≡ num_over at.cut (fraction_at at.payments b) → less ≡ neg_ℤ (num_over at.cut (fraction_at at.payments b))
    → with_rows (with_rows p (set_row t b cut factor least ∷ [])) (set_row t b cut minus less ∷ []) ≡ with_rows p (rows_of t at b)
bidder-rows t at b cut p factor minus least less c e f g h =
    ap (λ (k : ℕ). with_rows (with_rows p (set_row t b k factor least ∷ [])) (set_row t b k minus less ∷ [])) c ∙ both-rows t at b p factor minus least less e f g h

pub on_ok-map : {T E P Q : Type 0} → (r : Result T E) → (P → Q) → OnOk r P → OnOk r Q
on_ok-map (Ok x) f h = f h
on_ok-map (Err e) f h = tt

-- numbers that are small enough for a program
pub number-within : (m : ℕ) (z : ℤ) → m ≤ 2 ^ 90 → neg_ℤ (pos m) ≤ℤ z → z ≤ℤ pos m → IsNumber z
number-within m (pos n) few low high = omega (arith, ints, few, high)
number-within m (negsuc n) few low high = omega (arith, ints, few, low)
