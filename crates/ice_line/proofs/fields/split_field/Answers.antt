use Rattle.std.proofs.Common.{arith}
use Rattle.std.proofs.lemmas.Grind.{common_steps}
use Rattle.ice_line.proofs.Parts.{fields_at, fields_none}
use Rattle.ice_line.proofs.fields.split_field.Goals as goal

pub returns-then-byte-eq32 : goal.returns-then-byte-eq32
returns-then-byte-eq32 c =
    let e = fields_at c.args.text.now c.loop-i.i c.loop-i-test.true c.loop-i.invariant c.if-byte-eq32.true in
    grind (arith, common_steps)

pub returns : goal.returns
returns c = fields_none c.args.text.now (λ k h. c.loop-i.invariant k (omega arith))
