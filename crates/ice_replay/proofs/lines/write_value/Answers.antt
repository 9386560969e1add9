use Rattle.std.proofs.Common.{◌≡◌, rules}
use Rattle.std.specs.Fmt.{signed_decimal}
use Rattle.ice_line.specs.Writing.{with_field}
use Rattle.ice_journal.proofs.Joined.{value_length}
use Rattle.ice_replay.proofs.lines.write_value.Goals as goal

pub returns-clause-len : goal.returns-clause-len
returns-clause-len c =
    let field : c.integer.new.self ≡ with_field c.args.to.now (signed_decimal c.args.value) = search rules in
    value_length c.args.to.now c.integer.new.self c.args.value c.requires.value field
