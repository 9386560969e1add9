use Rattle.std.proofs.Common.{sym, subst, ℕ, List}
use Rattle.ice_edge.specs.declared.status.Status.TheVariants.{Spent, NoMemory}
use Rattle.ice_defs.specs.Bounds.{Bounds}
use Rattle.ice_defs.specs.Exchange.{trees_of, opening_bounds}
use Rattle.ice_defs.specs.Conditions.{AreBoundsOf}
use Rattle.ice_bound.proofs.Living.{opening_are_bounds}
use Rattle.ice_search.specs.Results.{IsSpentBy}
use Rattle.ice_regret.specs.Regretted.{lower_search}
use Rattle.ice_write_session.specs.Records.{spent_records}
use Rattle.ice_commands.specs.RegretJournal.{begun_records, IsRegretJournal, begins, final_spent}
use Rattle.ice_commands.proofs.RegretJournal.{first_spent_writable}
use Rattle.ice_command_parts.proofs.Writing.{nothing_more, last_piece}
use Rattle.ice_commands.proofs.regret_journal.write_final.Goals as goal

pub best_at_lower_values-requires-clause-bounds : goal.best_at_lower_values-requires-clause-bounds
best_at_lower_values-requires-clause-bounds g c = subst (AreBoundsOf (trees_of c.args.exchange.now)) (sym c.bounds.ensures.value) (opening_are_bounds c.args.exchange.now c.requires)

pub put_spent-requires : goal.put_spent-requires
put_spent-requires g c =
    let ex = c.args.exchange.now in
    let s = c.in-Err-Spent.spent in
    let end = rw c.in-Err-Spent.field-0-is at c.in-Err-Spent.ensures.end in
    let here : IsSpentBy (lower_search ex (opening_bounds ex)) c.branches_of-branches.result s = subst (λ (b : List Bounds). IsSpentBy (lower_search ex b) c.branches_of-branches.result s) c.bounds.ensures.value end.0 in
    let is : IsSpentBy (lower_search ex (opening_bounds ex)) ex.settings.branches s = subst (λ (n : ℕ). IsSpentBy (lower_search ex (opening_bounds ex)) n s) c.branches_of-branches.ensures.value here in
    rw c.in-Err-Spent.field-0-is (first_spent_writable ex c.requires ex.settings.branches s is)

pub returns-in-Err-Spent : goal.returns-in-Err-Spent
returns-in-Err-Spent g c =
    let ex = c.args.exchange.now in
    let s = c.in-Err-Spent.spent in
    let end = rw c.in-Err-Spent.field-0-is at c.in-Err-Spent.ensures.end in
    let here : IsSpentBy (lower_search ex (opening_bounds ex)) c.branches_of-branches.result s = subst (λ (b : List Bounds). IsSpentBy (lower_search ex b) c.branches_of-branches.result s) c.bounds.ensures.value end.0 in
    let is : IsSpentBy (lower_search ex (opening_bounds ex)) ex.settings.branches s = subst (λ (n : ℕ). IsSpentBy (lower_search ex (opening_bounds ex)) n s) c.branches_of-branches.ensures.value here in
    let wrote = rw c.in-Err-Spent.field-0-is at c.put_spent.ensures in
    last_piece (begun_records ex) (IsRegretJournal ex) (spent_records ex s) c.put_spent.result Spent c.ended.result (g.K.Sink.taken c.args.out.now) (g.K.Sink.taken c.put_spent.new.out) (final_spent s is wrote.record) wrote.put c.ended.ensures

pub returns-in-Err-NoMemory : goal.returns-in-Err-NoMemory
returns-in-Err-NoMemory g c =
    let ex = c.args.exchange.now in
    nothing_more (begun_records ex) (IsRegretJournal ex) (g.K.Sink.taken c.args.out.now) NoMemory begins
