use Rattle.std.proofs.Common.{ap, sym, subst, arith, List}
use Rattle.ice_edge.specs.declared.status.Status.TheVariants.{NoMemory}
use Rattle.ice_defs.specs.Bounds.{Bounds}
use Rattle.ice_defs.specs.Steps.{branch_count}
use Rattle.ice_defs.specs.Exchange.{trees_of}
use Rattle.ice_defs.specs.Conditions.{AreBoundsOf}
use Rattle.ice_bound.proofs.Living.{opening_are_bounds}
use Rattle.ice_search.specs.Results.{IsFoundBy, IsSpentBy}
use Rattle.ice_regret.specs.Regretted.{lower_search, rival_search, IsRegretOf}
use Rattle.ice_commands.specs.RegretJournal.{begun_records, IsRegretJournal, begins}
use Rattle.ice_command_parts.proofs.Writing.{nothing_more}
use Rattle.ice_commands.proofs.regret_journal.write_found.Goals as goal

pub regret_among_ties-requires-clause-bounds : goal.regret_among_ties-requires-clause-bounds
regret_among_ties-requires-clause-bounds g c = subst (AreBoundsOf (trees_of c.args.exchange.now)) (sym c.bounds.ensures.value) (opening_are_bounds c.args.exchange.now c.requires.lawful)

pub regret_among_ties-requires-clause-found : goal.regret_among_ties-requires-clause-found
regret_among_ties-requires-clause-found g c = subst (λ (b : List Bounds). IsFoundBy (lower_search c.args.exchange.now b) c.args.found) (sym c.bounds.ensures.value) c.requires.found.found

pub write_with_rival-requires-clause-found : goal.write_with_rival-requires-clause-found
write_with_rival-requires-clause-found g c = record {
  found = subst (λ (b : List Bounds). IsFoundBy (lower_search c.args.exchange.now b) c.regret_among_ties.new.best) c.bounds.ensures.value c.in-Ok.ensures.found;
  branches = omega (arith, ap branch_count c.in-Ok.ensures.log, c.requires.found.branches);
}

pub write_with_rival-requires-clause-rival : goal.write_with_rival-requires-clause-rival
write_with_rival-requires-clause-rival g c =
    subst (λ (b : List Bounds). IsRegretOf c.args.exchange.now b c.regret_among_ties.new.best.best c.in-Ok.regret) c.bounds.ensures.value c.in-Ok.ensures.regret

pub write_with_rival-requires-in-Err-Spent-clause-found : goal.write_with_rival-requires-in-Err-Spent-clause-found
write_with_rival-requires-in-Err-Spent-clause-found g c = record {
  found = subst (λ (b : List Bounds). IsFoundBy (lower_search c.args.exchange.now b) c.regret_among_ties.new.best) c.bounds.ensures.value c.in-Err-Spent.ensures.found;
  branches = omega (arith, ap branch_count c.in-Err-Spent.ensures.log, c.requires.found.branches);
}

pub write_with_rival-requires-in-Err-Spent-clause-rival : goal.write_with_rival-requires-in-Err-Spent-clause-rival
write_with_rival-requires-in-Err-Spent-clause-rival g c =
    let end = rw c.in-Err-Spent.field-0-is at c.in-Err-Spent.ensures.end in
    subst (λ (b : List Bounds). IsSpentBy (rival_search c.args.exchange.now b c.regret_among_ties.new.best.best) c.args.branches c.in-Err-Spent.spent) c.bounds.ensures.value end.0

pub returns : goal.returns
returns g c =
    let ex = c.args.exchange.now in
    nothing_more (begun_records ex) (IsRegretJournal ex) (g.K.Sink.taken c.args.out.now) NoMemory begins
