use Rattle.std.proofs.Common.{◌≡◌, decimal, rules}
use Rattle.std.specs.Fmt.{signed_decimal}
use Rattle.ice_line.specs.Writing.{with_field}
use Rattle.ice_journal.proofs.Joined.{number_length}
use Rattle.ice_journal.proofs.write_derived.put_number.Goals as goal

pub returns-clause-len : goal.returns-clause-len
returns-clause-len c =
    let both : c.integer.new.self ≡ with_field (with_field c.args.to.now (decimal c.args.number.number)) (signed_decimal c.args.number.amount) = search rules in
    number_length c.args.to.now c.integer.new.self c.args.number.number c.args.number.amount c.requires.number both
