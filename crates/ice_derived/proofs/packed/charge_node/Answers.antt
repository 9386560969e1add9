use Rattle.std.proofs.Common.{◌≡◌, ◌+ℤ◌, ◌*ℤ◌, ℤ, pos, arith, rules, ap, sym, to_z, of_z}
use Rattle.std.proofs.lemmas.Int.{ints, to_z-of_z}
use Rattle.std.proofs.lemmas.List.{set-get_or}
use Rattle.std.proofs.Math.IntN.{*ℤ-zero}
use mir.Syntax.{w32, w128}
use mir.Val.{SFits}
use Rattle.ice_defs.specs.Set.{weight_of, IsSmall}
use Rattle.ice_bound.proofs.Totals.{total_fits}
use Rattle.ice_derived.specs.Charges.{IsCharge}
use Rattle.ice_derived.proofs.packed.charge_node.Goals as goal

plus : {a b x y : ℤ} → a ≡ b → x ≡ y → a +ℤ x ≡ b +ℤ y
plus e d = cc

charge_fits : (z : ℤ) → IsCharge z → SFits w128 z
charge_fits z is = total_fits z (omega (arith, ints, is.low)) (omega (arith, ints, is.high))

charge_small : (z : ℤ) → IsCharge z → IsSmall z
charge_small z is = record { low = omega (arith, ints, is.low); high = omega (arith, ints, is.high) }

pub overflow_add-before : goal.overflow_add-before
overflow_add-before c =
    let same_times : to_z w128 (of_z w128 c.args.times) ≡ c.args.times = search rules in
    let same_amount : to_z w32 (of_z w32 c.args.amount) ≡ c.args.amount = search rules in
    let same_before : to_z w128 (of_z w128 c.get-before.result) ≡ c.get-before.result = search rules in
    let same_product : to_z w128 (of_z w128 c.times_amount.result) ≡ c.times_amount.result = search rules in
    let product : c.times_amount.result ≡ c.args.times *ℤ c.args.amount = rw (same_times, same_amount) at c.times_amount.ensures in
    let is : c.get-before.result +ℤ c.times_amount.result ≡ weight_of c.args.row.now c.args.node +ℤ (c.args.times *ℤ c.args.amount) = plus c.get-before.ensures.value product in
    rw (same_before, same_product, is) (charge_fits _ c.requires.small)

pub put-requires-clause-small : goal.put-requires-clause-small
put-requires-clause-small c =
    let same_times : to_z w128 (of_z w128 c.args.times) ≡ c.args.times = search rules in
    let same_amount : to_z w32 (of_z w32 c.args.amount) ≡ c.args.amount = search rules in
    let same_before : to_z w128 (of_z w128 c.get-before.result) ≡ c.get-before.result = search rules in
    let same_product : to_z w128 (of_z w128 c.times_amount.result) ≡ c.times_amount.result = search rules in
    let product : c.times_amount.result ≡ c.args.times *ℤ c.args.amount = rw (same_times, same_amount) at c.times_amount.ensures in
    let z = weight_of c.args.row.now c.args.node +ℤ (c.args.times *ℤ c.args.amount) in
    let is : c.get-before.result +ℤ c.times_amount.result ≡ weight_of c.args.row.now c.args.node +ℤ (c.args.times *ℤ c.args.amount) = plus c.get-before.ensures.value product in
    let same : to_z w128 (of_z w128 (weight_of c.args.row.now c.args.node +ℤ (c.args.times *ℤ c.args.amount))) ≡ weight_of c.args.row.now c.args.node +ℤ (c.args.times *ℤ c.args.amount) = to_z-of_z w128 _ (charge_fits _ c.requires.small) in
    rw (same_before, same_product, is, same) (charge_small _ c.requires.small)

pub returns-then-amount-ne0 : goal.returns-then-amount-ne0
returns-then-amount-ne0 c =
    let same_times : to_z w128 (of_z w128 c.args.times) ≡ c.args.times = search rules in
    let same_amount : to_z w32 (of_z w32 c.args.amount) ≡ c.args.amount = search rules in
    let same_before : to_z w128 (of_z w128 c.get-before.result) ≡ c.get-before.result = search rules in
    let same_product : to_z w128 (of_z w128 c.times_amount.result) ≡ c.times_amount.result = search rules in
    let product : c.times_amount.result ≡ c.args.times *ℤ c.args.amount = rw (same_times, same_amount) at c.times_amount.ensures in
    let is : c.get-before.result +ℤ c.times_amount.result ≡ weight_of c.args.row.now c.args.node +ℤ (c.args.times *ℤ c.args.amount) = plus c.get-before.ensures.value product in
    let same : to_z w128 (of_z w128 (weight_of c.args.row.now c.args.node +ℤ (c.args.times *ℤ c.args.amount))) ≡ weight_of c.args.row.now c.args.node +ℤ (c.args.times *ℤ c.args.amount) = to_z-of_z w128 _ (charge_fits _ c.requires.small) in
    rw (same_before, same_product, is, same) at c.put.ensures

pub returns-else-amount-ne0 : goal.returns-else-amount-ne0
returns-else-amount-ne0 c =
    let zero : c.args.amount ≡ pos 0 = omega (arith, ints) in
    let same : weight_of c.args.row.now c.args.node +ℤ (c.args.times *ℤ c.args.amount) ≡ weight_of c.args.row.now c.args.node
    = omega (arith, ints, ap (λ z. c.args.times *ℤ z) zero, *ℤ-zero c.args.times) in
    rw same (sym (set-get_or c.args.row.now c.args.node (pos 0)))
