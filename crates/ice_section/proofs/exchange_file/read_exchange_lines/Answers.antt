use Rattle.std.proofs.Common.{◌≡◌, ◌+◌, length, Ok, sym, ap, ◌∙◌, subst, rules}
use Rattle.std.proofs.Math.Numerals.{add-one}
use Rattle.std.proofs.lemmas.List.{nil_from_length}
use Rattle.std.proofs.lemmas.Result.{IfOk-weaker, IfErr-weaker}
use Rattle.ice_journal.specs.Lines.{record_of}
use Rattle.ice_section.specs.LineFile.{exchange_of_records, IsExchangeOfLines}
use Rattle.ice_section.specs.FileSteps.{IsBegun, exchange_after}
use Rattle.ice_section.specs.FileStates.{IsFaultFrom, so_far}
use Rattle.ice_section.proofs.Files.{read_more, read_all, read_fault, read_bad}
use Rattle.ice_section.proofs.exchange_file.read_exchange_lines.Goals as goal

pub returns-in-Err-clause-fault : goal.returns-in-Err-clause-fault
returns-in-Err-clause-fault c =
    subst (IsFaultFrom (IsExchangeOfLines c.args.bytes.now)) (sym c.bad_line.ensures) (
    read_bad exchange_of_records c.args.bytes.now (exchange_after c.loop-rest.lines (so_far c.loop-rest.file)) c.loop-rest.rest.now c.loop-rest.lines c.in-Err.bad c.loop-rest.invariant.read c.in-Err.ensures.bad)

pub loop-rest-preserved : goal.loop-rest-preserved
loop-rest-preserved c =
    let (is, are) = c.in-Ok.ensures.read in
    record {
      read = read_more exchange_of_records c.args.bytes.now (exchange_after c.loop-rest.lines (so_far c.loop-rest.file)) (exchange_after (c.loop-rest.lines + 1) (so_far c.take.new.self))
          c.loop-rest.rest.now c.in-Ok.next.1.now c.loop-rest.lines (record_of c.in-Ok.next.0) c.loop-rest.invariant.read is are (λ later.
          c.in-Ok-take.ensures.taken later ∙ ap (λ n. exchange_after n (so_far c.take.new.self) later) (sym (add-one c.loop-rest.lines)));
      numbered = c.in-Ok-take.ensures.numbered;
      begun = subst (λ n. IsBegun n (so_far c.take.new.self) c.take.new.self.section) (sym (add-one c.loop-rest.lines)) c.in-Ok-take.ensures.begun;
    }

pub returns-clause-exchange : goal.returns-clause-exchange
returns-clause-exchange c =
    let none : length c.loop-rest.rest.now ≡ 0 = search rules in
    IfOk-weaker c.finish.result _ _ (λ x e. read_all exchange_of_records c.args.bytes.now (exchange_after c.loop-rest.lines (so_far c.loop-rest.file)) c.loop-rest.rest.now c.loop-rest.lines (Ok x) c.loop-rest.invariant.read
    (nil_from_length _ none) e) c.finish.ensures.exchange

pub returns-clause-fault : goal.returns-clause-fault
returns-clause-fault c =
    let none : length c.loop-rest.rest.now ≡ 0 = search rules in
    IfErr-weaker c.finish.result _ _ (λ f e.
    read_fault exchange_of_records c.args.bytes.now (exchange_after c.loop-rest.lines (so_far c.loop-rest.file)) c.loop-rest.rest.now c.loop-rest.lines f c.loop-rest.invariant.read (nil_from_length _ none) e) c.finish.ensures.fault
