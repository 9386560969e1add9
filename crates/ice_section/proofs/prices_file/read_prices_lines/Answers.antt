use Rattle.std.proofs.Common.{◌≡◌, length, Ok, sym, subst, rules}
use Rattle.std.proofs.lemmas.List.{nil_from_length}
use Rattle.std.proofs.lemmas.Result.{IfOk-weaker, IfErr-weaker}
use Rattle.ice_journal.specs.Lines.{record_of}
use Rattle.ice_section.specs.declared.faults.LineFileFault.TheVariants.{NoMemory}
use Rattle.ice_section.specs.LineFile.{prices_of_records, IsPricesOfLines}
use Rattle.ice_section.specs.FileSteps.{prices_after}
use Rattle.ice_section.specs.FileStates.{IsFaultFrom, prices_so_far}
use Rattle.ice_section.proofs.Files.{read_more, read_all, read_fault, read_bad}
use Rattle.ice_section.proofs.prices_file.read_prices_lines.Goals as goal

pub returns-in-Err-clause-fault : goal.returns-in-Err-clause-fault
returns-in-Err-clause-fault c =
    subst (λ f. IsFaultFrom (IsPricesOfLines c.args.goods c.args.bytes.now) f × (f ≡ NoMemory → ⊥)) (sym c.bad_line.ensures) (
      read_bad (prices_of_records c.args.goods) c.args.bytes.now (prices_after c.args.goods (prices_so_far c.loop-rest.file)) c.loop-rest.rest.now c.loop-rest.lines c.in-Err.bad c.loop-rest.invariant c.in-Err.ensures.bad,
      λ e. absurd cc,
    )

pub loop-rest-preserved : goal.loop-rest-preserved
loop-rest-preserved c =
    let (is, are) = c.in-Ok.ensures.read in
    read_more (prices_of_records c.args.goods) c.args.bytes.now (prices_after c.args.goods (prices_so_far c.loop-rest.file)) (prices_after c.args.goods (prices_so_far c.after-file.result))
    c.loop-rest.rest.now c.in-Ok.next.1.now c.loop-rest.lines (record_of c.in-Ok.next.0) c.loop-rest.invariant is are c.after-file.ensures

pub returns-clause-prices : goal.returns-clause-prices
returns-clause-prices c =
    let none : length c.loop-rest.rest.now ≡ 0 = search rules in
    IfOk-weaker c.finish.result _ _ (λ p e. read_all (prices_of_records c.args.goods) c.args.bytes.now (prices_after c.args.goods (prices_so_far c.loop-rest.file)) c.loop-rest.rest.now c.loop-rest.lines (Ok p) c.loop-rest.invariant
    (nil_from_length _ none) (e c.args.goods)) c.finish.ensures.prices

pub returns-clause-fault : goal.returns-clause-fault
returns-clause-fault c =
    let none : length c.loop-rest.rest.now ≡ 0 = search rules in
    IfErr-weaker c.finish.result _ _ (λ f e. (
      read_fault (prices_of_records c.args.goods) c.args.bytes.now (prices_after c.args.goods (prices_so_far c.loop-rest.file)) c.loop-rest.rest.now c.loop-rest.lines f c.loop-rest.invariant (nil_from_length _ none) (e.0 c.args.goods),
      e.1,
    )) c.finish.ensures.fault
