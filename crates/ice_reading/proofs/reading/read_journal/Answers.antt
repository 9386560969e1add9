use Rattle.std.proofs.Common.{◌≡◌, length, subst, arith, rules}
use Rattle.std.proofs.lemmas.List.{nil_from_length}
use Rattle.ice_journal.specs.Ends.{IsBadLine}
use Rattle.ice_journal.specs.Lines.{record_of}
use Rattle.ice_reading.specs.Reading.{stays}
use Rattle.ice_reading.proofs.SoFar.{none_read, one_read, no_record_fault, not_ended_fault, all_read, line_length}
use Rattle.ice_reading.proofs.Running.{runs_more}
use Rattle.ice_reading.proofs.reading.read_journal.Goals as goal

pub loop-rest-init : goal.loop-rest-init
loop-rest-init g c = record { read = none_read c.args.bytes.now stays; line = c.requires; few = omega arith }

pub returns-in-Err-NoRecord : goal.returns-in-Err-NoRecord
returns-in-Err-NoRecord g c =
    no_record_fault c.args.bytes.now c.loop-rest.rest.now c.loop-rest.read c.loop-rest.invariant.read (subst (IsBadLine c.loop-rest.rest.now) c.in-Err-NoRecord.field-0-is c.in-Err-NoRecord.ensures.bad)

pub returns-in-Err-NotEnded : goal.returns-in-Err-NotEnded
returns-in-Err-NotEnded g c =
    not_ended_fault c.args.bytes.now c.loop-rest.rest.now c.loop-rest.read c.loop-rest.invariant.read (subst (IsBadLine c.loop-rest.rest.now) c.in-Err-NotEnded.field-0-is c.in-Err-NotEnded.ensures.bad)

pub take-requires-clause-few : goal.take-requires-clause-few
take-requires-clause-few g c =
    omega (arith, c.loop-rest.invariant.line, c.loop-rest.invariant.few, line_length c.loop-rest.rest.now c.in-Ok.next.1.now (record_of c.in-Ok.next.0) c.in-Ok.ensures.read.1)

pub loop-rest-preserved : goal.loop-rest-preserved
loop-rest-preserved g c =
    let (is, are) = c.in-Ok.ensures.read in
    let r = record_of c.in-Ok.next.0 in
    record {
      read = one_read c.args.bytes.now c.loop-rest.rest.now c.in-Ok.next.1.now c.loop-rest.read r c.loop-rest.invariant.read is are
          (λ records runs. runs_more g.R.Reader.step c.args.reader.now c.loop-rest.reader c.take.new.self records r runs c.in-Ok-take.ensures.step);
      line = omega (arith, c.in-Ok-take.ensures.line, c.loop-rest.invariant.line);
      few = omega (arith, c.loop-rest.invariant.few, line_length c.loop-rest.rest.now c.in-Ok.next.1.now r are);
    }

pub returns : goal.returns
returns g c =
    let none : length c.loop-rest.rest.now ≡ 0 = search rules in
    let read = c.loop-rest.invariant.read in
    record { journal = read.records; spelled = all_read c.args.bytes.now c.loop-rest.rest.now c.loop-rest.read read (nil_from_length _ none); runs = read.known }
