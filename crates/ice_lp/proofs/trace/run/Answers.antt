use Rattle.std.proofs.Common.{◌≡◌, ◌∙◌, ◌-◌, ◌<◌, ◌≤◌, arith, sym, subst, Some}
use Rattle.ice_defs.specs.Dictionary.{pivot_dictionary}
use Rattle.ice_program_laws.specs.Solutions.{IsPivot}
use Rattle.ice_program_laws.proofs.Pivot.{pivot_keeps_solutions}
use Rattle.ice_lp.specs.declared.trace.Turn.TheVariants.{Least, Unbounded, Pivot}
use Rattle.ice_lp.specs.Turning.{IsPivotTurn}
use Rattle.ice_lp.proofs.TraceEnds.{wide_err, choice_is, after_pivot, wide_pivot, spent, least_is, unbounded_is, wide_is, made_wide, made_wide_pivot, made_pivot, counted_err}
use Rattle.ice_lp.proofs.trace.run.Goals as goal

pub returns-in_err-next_turn-clause-stopped : goal.returns-in_err-next_turn-clause-stopped
returns-in_err-next_turn-clause-stopped c =
    wide_err c.from_residual.result _ (c.turns.invariant.same ∙ wide_is c.turns.left (c.turns.pivots - c.args.pivots.now) c.turns.dictionary (sym c.in_err-next_turn.ensures.choice)) c.from_residual.ensures.1

pub returns-in_err-next_turn-clause-counted_wide : goal.returns-in_err-next_turn-clause-counted_wide
returns-in_err-next_turn-clause-counted_wide c =
    counted_err c.from_residual.result c.turns.pivots c.args.pivots.now _ (omega (arith, c.turns.invariant.counted, c.turns.invariant.few))
    (c.turns.invariant.made ∙ made_wide c.turns.left (c.turns.pivots - c.args.pivots.now) c.turns.dictionary (sym c.in_err-next_turn.ensures.choice))

pub returns-in-Least-clause-ended : goal.returns-in-Least-clause-ended
returns-in-Least-clause-ended c =
    c.turns.invariant.same ∙ least_is c.turns.left (c.turns.pivots - c.args.pivots.now) c.turns.dictionary (choice_is c.turns.dictionary Least c.in_ok-next_turn.field-0 c.in-Least.is c.in_ok-next_turn.ensures.choice)

pub returns-in-Unbounded-clause-ended : goal.returns-in-Unbounded-clause-ended
returns-in-Unbounded-clause-ended c =
    c.turns.invariant.same ∙ unbounded_is c.turns.left (c.turns.pivots - c.args.pivots.now) c.turns.dictionary c.in-Unbounded.entering
    (choice_is c.turns.dictionary (Unbounded c.in-Unbounded.entering) c.in_ok-next_turn.field-0 c.in-Unbounded.is c.in_ok-next_turn.ensures.choice)

pub returns-then-left-eq0-clause-stopped : goal.returns-then-left-eq0-clause-stopped
returns-then-left-eq0-clause-stopped c =
    c.turns.invariant.same ∙ spent c.turns.left (c.turns.pivots - c.args.pivots.now) c.in-Pivot.leaving c.turns.dictionary c.in-Pivot.entering (omega arith)
    (choice_is c.turns.dictionary (Pivot c.in-Pivot.leaving c.in-Pivot.entering) c.in_ok-next_turn.field-0 c.in-Pivot.is c.in_ok-next_turn.ensures.choice)

pub returns-in_err-pivot-in-Pivot-clause-stopped : goal.returns-in_err-pivot-in-Pivot-clause-stopped
returns-in_err-pivot-in-Pivot-clause-stopped c =
    wide_err c.from_residual-in_err-pivot-in-Pivot.result _
    (c.turns.invariant.same ∙ wide_pivot c.turns.left (c.turns.pivots - c.args.pivots.now) c.in-Pivot.leaving c.turns.dictionary c.in-Pivot.entering (omega arith)
    (choice_is c.turns.dictionary (Pivot c.in-Pivot.leaving c.in-Pivot.entering) c.in_ok-next_turn.field-0 c.in-Pivot.is c.in_ok-next_turn.ensures.choice)
    c.in_err-pivot-in-Pivot.ensures.wide)
    c.from_residual-in_err-pivot-in-Pivot.ensures.1

pub returns-in_err-pivot-in-Pivot-clause-counted_wide : goal.returns-in_err-pivot-in-Pivot-clause-counted_wide
returns-in_err-pivot-in-Pivot-clause-counted_wide c =
    counted_err c.from_residual-in_err-pivot-in-Pivot.result c.turns.pivots c.args.pivots.now _ (omega (arith, c.turns.invariant.counted, c.turns.invariant.few))
    (c.turns.invariant.made ∙ made_wide_pivot c.turns.left (c.turns.pivots - c.args.pivots.now) c.in-Pivot.leaving c.turns.dictionary c.in-Pivot.entering (omega arith)
    (choice_is c.turns.dictionary (Pivot c.in-Pivot.leaving c.in-Pivot.entering) c.in_ok-next_turn.field-0 c.in-Pivot.is c.in_ok-next_turn.ensures.choice)
    c.in_err-pivot-in-Pivot.ensures.wide)

pub turns-preserved : goal.turns-preserved
turns-preserved c =
    let low : c.args.pivots.now ≤ c.turns.pivots = omega (arith, c.turns.invariant.counted, c.turns.invariant.few) in
    let some : 0 < c.turns.left = omega (arith, c.if-left-eq0.false) in
    let is_pivot : IsPivot c.turns.dictionary c.in-Pivot.leaving c.in-Pivot.entering = subst (IsPivotTurn c.turns.dictionary) c.in-Pivot.is c.in_ok-next_turn.ensures.pivot in
    let made : pivot_dictionary c.turns.dictionary c.in-Pivot.leaving c.in-Pivot.entering ≡ Some c.pivot.new.self = c.in_ok-pivot-in-Pivot.ensures.made in
    record {
      few = omega arith;
      counted = omega (arith, c.turns.invariant.counted, some);
      proper = (pivot_keeps_solutions c.turns.dictionary c.pivot.new.self c.in-Pivot.leaving c.in-Pivot.entering c.turns.invariant.proper is_pivot made).0;
      same = c.turns.invariant.same ∙ after_pivot c.turns.left c.turns.pivots c.args.pivots.now c.in-Pivot.leaving c.turns.dictionary c.pivot.new.self c.in-Pivot.entering some low
          (choice_is c.turns.dictionary (Pivot c.in-Pivot.leaving c.in-Pivot.entering) c.in_ok-next_turn.field-0 c.in-Pivot.is c.in_ok-next_turn.ensures.choice) made;
      made = c.turns.invariant.made ∙ made_pivot c.turns.left c.turns.pivots c.args.pivots.now c.in-Pivot.leaving c.turns.dictionary c.pivot.new.self c.in-Pivot.entering some low
          (choice_is c.turns.dictionary (Pivot c.in-Pivot.leaving c.in-Pivot.entering) c.in_ok-next_turn.field-0 c.in-Pivot.is c.in_ok-next_turn.ensures.choice) made;
    }
