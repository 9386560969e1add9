use Rattle.std.proofs.Common.{◌≡◌, ◌≤◌, ◌++◌, ◌∷◌, [], length, to_z, of_z, sym, ◌∙◌, arith, rules}
use Rattle.std.specs.Int.{w64}
use Rattle.std.specs.Fmt.{signed_decimal}
use Rattle.std.specs.List.{AllByRecursion}
use Rattle.std.proofs.lemmas.Grind.{common_steps}
use Rattle.ice_defs.specs.Exchange.{IsBetween}
use Rattle.ice_defs.proofs.Lists.{all_push}
use Rattle.ice_journal.proofs.Listed.{front_of_all, no_element, push_front}
use Rattle.ice_journal.proofs.Numbers.{within_same}
use Rattle.ice_journal.proofs.lists.integers.Goals as goal

pub returns-in_err-integer : goal.returns-in_err-integer
returns-in_err-integer c =
    let least : to_z w64 (of_z w64 c.args.least) ≡ c.args.least = search rules in
    let most : to_z w64 (of_z w64 c.args.most) ≡ c.args.most = search rules in
    let P = IsBetween c.args.least c.args.most in
    let items : AllByRecursion (IsBetween c.args.least c.args.most) c.loop-field.numbers.items = rw (least, most) at c.loop-field.invariant.1 in
    rw c.from_residual.ensures (λ numbers lawful e.
    let found = front_of_all P signed_decimal (within_same c.args.least c.args.most c.ranges.least.sfits c.ranges.most.sfits) c.loop-field.numbers.items numbers c.loop-field.fields items lawful.1 (sym c.loop-field.invariant.0 ∙ e) in
    no_element P signed_decimal found.0 c.in-Some.field.now c.next.new.self found.2 (sym c.in-Some.ensures ∙ found.3) (rw (least, most) at c.in_err-integer.ensures))

pub loop-field-preserved : goal.loop-field-preserved
loop-field-preserved c =
    let value : to_z w64 (of_z w64 c.in_ok-integer.field-0) ≡ c.in_ok-integer.field-0 = search rules in
    let items : c.push.new.self.items ≡ c.loop-field.numbers.items ++ c.in_ok-integer.field-0 ∷ [] = rw value at c.push.ensures.items in
    let short : length c.push.new.self.items ≤ 32 = grind (arith, common_steps) in (
      rw items (push_front signed_decimal c.args.fields c.loop-field.fields c.next.new.self c.loop-field.numbers.items c.in_ok-integer.field-0 c.in-Some.field.now c.loop-field.invariant.0 c.in-Some.ensures c.in_ok-integer.ensures.1),
      rw items (all_push (IsBetween (to_z w64 (of_z w64 c.args.least)) (to_z w64 (of_z w64 c.args.most))) c.loop-field.numbers.items c.in_ok-integer.field-0 c.loop-field.invariant.1 c.in_ok-integer.ensures.0),
      short,
    )
