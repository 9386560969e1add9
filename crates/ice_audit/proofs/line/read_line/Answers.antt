use Rattle.ice_audit.specs.Lines.{line_of}
use Rattle.ice_audit.proofs.Reading.{own_read}
use Rattle.ice_audit.proofs.line.read_line.Goals as goal

pub returns-in-Some : goal.returns-in-Some
returns-in-Some c = own_read (line_of c.in-Some.line) c.args.text.now c.in-Some.ensures
