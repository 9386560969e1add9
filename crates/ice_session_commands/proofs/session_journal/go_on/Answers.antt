use Rattle.std.proofs.Common.{[], length, refl, sym, subst}
use Rattle.std.proofs.lemmas.Result.{MatchResult-weaker}
use Rattle.ice_edge.specs.declared.status.Status.TheVariants.{Spent}
use Rattle.ice_edge.specs.Puts.{Takes, FailsIn}
use Rattle.ice_defs.specs.Exchange.{Exchange, exact_of}
use Rattle.ice_journal.specs.Journal.{bytes_of}
use Rattle.ice_search.specs.Results.{proved_found, proved_spent}
use Rattle.ice_round.specs.Held.{settling_with}
use Rattle.ice_round.specs.Settling.{IsStoppedBehind}
use Rattle.ice_write_session.specs.Records.{provisional_records, spent_records}
use Rattle.ice_write_session.specs.Writable.{IsWritable}
use Rattle.ice_command_parts.specs.Parts.{IsSaid}
use Rattle.ice_session_laws.proofs.Finding.{offer_may_be_written}
use Rattle.ice_session_commands.proofs.Settling.{going_without_memory, spent_may, ends_spent_behind, offered_fails, offered_ends, offered_opens}
use Rattle.ice_session_commands.proofs.session_journal.go_on.Goals as goal

pub offer-requires-clause-goes_on : goal.offer-requires-clause-goes_on
offer-requires-clause-goes_on g c = c.requires.goes_on

pub offer-requires-clause-fresh : goal.offer-requires-clause-fresh
offer-requires-clause-fresh g c = c.requires.found

pub stop_behind-requires : goal.stop_behind-requires
stop_behind-requires g c =
    let x = settling_with c.args.settling [] in
    let spent = c.in-Err-Spent.spent in
    let is = subst (IsStoppedBehind x) c.in-Err-Spent.field-0-is c.in-Err-Spent.ensures.end in
    subst (λ (ex : Exchange). IsWritable (length (exact_of ex)) (proved_spent spent)) (sym c.exchange.ensures) (spent_may c.requires.running.0 x spent c.requires.running.1 is)

pub returns-in-Err-Spent : goal.returns-in-Err-Spent
returns-in-Err-Spent g c =
    let x = settling_with c.args.settling [] in
    let spent = c.in-Err-Spent.spent in
    let old = g.K.Sink.taken c.args.out.now in
    let new = g.K.Sink.taken c.stop_behind.new.out in
    let is = subst (IsStoppedBehind x) c.in-Err-Spent.field-0-is c.in-Err-Spent.ensures.end in
    ends_spent_behind x spent old new c.stop_behind.result c.requires.found.found is c.stop_behind.ensures.record_is
    (subst (λ (ex : Exchange). IsSaid (bytes_of (spent_records ex spent)) Spent old new c.stop_behind.result) c.exchange.ensures c.stop_behind.ensures.said)

pub returns-in-Err-NoMemory : goal.returns-in-Err-NoMemory
returns-in-Err-NoMemory g c = going_without_memory (settling_with c.args.settling []) c.requires.found.found c.requires.goes_on refl (g.K.Sink.taken c.args.out.now)

-- ---- the provisional sets are put

pub put_provisional-requires : goal.put_provisional-requires
put_provisional-requires g c =
    let x = settling_with c.args.settling [] in
    let o = c.in-Ok.offer in
    subst (λ (ex : Exchange). IsWritable (length (exact_of ex)) (proved_found o.provisional)) (sym c.exchange-2.ensures) (offer_may_be_written c.requires.running.0 x o c.requires.running.1 c.in-Ok.ensures.offer)

pub open-requires-clause-running : goal.open-requires-clause-running
open-requires-clause-running g c = c.requires.running

pub open-requires-clause-found : goal.open-requires-clause-found
open-requires-clause-found g c = c.requires.found

pub open-requires-clause-goes_on : goal.open-requires-clause-goes_on
open-requires-clause-goes_on g c = c.requires.goes_on

pub open-requires-clause-offer : goal.open-requires-clause-offer
open-requires-clause-offer g c = c.in-Ok.ensures.offer

pub returns-in-Err-Failed : goal.returns-in-Err-Failed
returns-in-Err-Failed g c =
    let x = settling_with c.args.settling [] in
    let o = c.in-Ok.offer in
    let old = g.K.Sink.taken c.args.out.now in
    let new = g.K.Sink.taken c.put_provisional.new.out in
    offered_fails x c.requires.found.found c.requires.goes_on refl o c.in-Ok.ensures.offer old new
    (subst (λ (ex : Exchange). FailsIn (bytes_of (provisional_records ex o.provisional)) old new) c.exchange-2.ensures c.in-Err-Failed.ensures)

pub returns-in-Ok-put_provisional : goal.returns-in-Ok-put_provisional
returns-in-Ok-put_provisional g c =
    let x = settling_with c.args.settling [] in
    let o = c.in-Ok.offer in
    let old = g.K.Sink.taken c.args.out.now in
    let mid = g.K.Sink.taken c.put_provisional.new.out in
    let new = g.K.Sink.taken c.open.new.out in
    let takes = subst (λ (ex : Exchange). Takes (bytes_of (provisional_records ex o.provisional)) old mid) c.exchange-2.ensures c.in-Ok-put_provisional.ensures in
    MatchResult-weaker c.open.result c.open.ensures
    (λ round opened. offered_opens x c.requires.found.found c.requires.goes_on refl o c.in-Ok.ensures.offer round old mid new takes opened)
    (λ status ends. offered_ends x c.requires.found.found c.requires.goes_on refl o c.in-Ok.ensures.offer old mid new status takes ends)
