use Rattle.std.proofs.Common.{◌≡◌, ◌∙◌, false, refl, rules}
use Rattle.std.specs.Prelude.{◌&&◌, int_le}
use Rattle.ice_read.specs.declared.cause.ReadCause.TheVariants.{Shape, NotWhole, Range}
use Rattle.ice_read.proofs.PlacesOfFaults.{refused}
use Rattle.ice_read.proofs.WholeNumbers.{no_number, not_whole, out_of_range, too_large}
use Rattle.ice_read.proofs.values.whole_of.Goals as goal
use Rattle.ice_read.proofs.values.whole_of.Goals.{in_default-via-in-Some+else-is_between, in_default-via-in_default}

pub returns-then-not-is_number-clause-reading : goal.returns-then-not-is_number-clause-reading
returns-then-not-is_number-clause-reading c = λ path. no_number _ _ _ path c.if-not-is_number.ensures ∙ refused 2 Shape c.of.result c.of.ensures refl path

pub returns-then-not-is_whole-clause-reading : goal.returns-then-not-is_whole-clause-reading
returns-then-not-is_whole-clause-reading c = λ path. not_whole _ _ _ path c.if-not-is_number.ensures c.if-not-is_whole.ensures ∙ refused 3 NotWhole c.of-then-not-is_whole.result c.of-then-not-is_whole.ensures refl path

pub returns-in_default-clause-reading : goal.returns-in_default-clause-reading
returns-in_default-clause-reading c = λ path.
    elim c.in_default.branch [
      | in_default-via-in-Some+else-is_between w ↦
          let out : (int_le c.args.low w.in-Some.number && int_le w.in-Some.number c.args.high) ≡ false = search rules in
          out_of_range _ _ _ w.in-Some.number path w.in-Some.ensures out
      | in_default-via-in_default w ↦ too_large _ _ _ path w.in_default.ensures c.if-not-is_whole.ensures c.ranges.high
    ]
    ∙ refused 4 Range c.of-in_default.result c.of-in_default.ensures refl path
