use Rattle.std.proofs.Common.{◌∙◌, List, [], sym, subst}
use Rattle.ice_edge.specs.Told.{Told}
use Rattle.ice_defs.specs.Round.{Submission}
use Rattle.ice_defs.specs.Exchange.{opening_bounds}
use Rattle.ice_proxy.specs.Sessions.{HoldTruths}
use Rattle.ice_simulation.specs.TruthFile.{truth_lists}
use Rattle.ice_command_parts.specs.Call.{file_limit}
use Rattle.ice_command_parts.specs.Journals.{WritesBehind}
use Rattle.ice_command_parts.specs.Refusals.{refusal_text, refusal_status, Refuses}
use Rattle.ice_command_parts.proofs.Keeping.{kept_behind, refusal_keeps}
use Rattle.ice_session_commands.specs.TruthParts.{IsTruthFault, HoldsTruths}
use Rattle.ice_session_commands.specs.SimulateJournal.{IsSimulatedJournal}
use Rattle.ice_session_commands.proofs.SimulateJournal.{journal_serves, refusal_serves, truths_refusal_serves}
use Rattle.ice_session_commands.proofs.simulate.simulate.Goals as goal

pub hold_session-requires : goal.hold_session-requires
hold_session-requires g c =
    let ex = c.in-Ok.exchange in
    subst (λ (bids : List Submission). HoldTruths (opening_bounds ex) (truth_lists ex.bidders bids)) (sym c.deref.ensures.value) c.in-Ok-read_truths.ensures.hold

pub returns-in-Ok-read_truths-clause-served : goal.returns-in-Ok-read_truths-clause-served
returns-in-Ok-read_truths-clause-served g c =
    let ex = c.in-Ok.exchange in
    let bids = c.in-Ok-read_truths.truths.items in
    let file = c.args.truths.now in
    let old = g.K.Sink.taken c.args.out.now in
    let new = g.K.Sink.taken c.hold_session.new.out in
    let result = c.hold_session.result in
    let said = subst (λ (s : Told). HoldsTruths s file ex bids) c.in-Ok.ensures.kept c.in-Ok-read_truths.ensures.truths in
    journal_serves (g.H.Shelf.told c.args.shelf.now) (g.H.Shelf.told c.hold_session.new.shelf) c.args.exchange.now file ex bids old new result c.in-Ok.ensures.exchange said c.in-Ok-read_truths.ensures.hold
    (subst (λ (ts : List Submission). WritesBehind [] (IsSimulatedJournal (truth_lists ex.bidders ts) ex) old new result) c.deref.ensures.value c.hold_session.ensures.journal)

pub returns-in-Ok-read_truths-clause-kept : goal.returns-in-Ok-read_truths-clause-kept
returns-in-Ok-read_truths-clause-kept g c =
    kept_behind (g.H.Shelf.told c.args.shelf.now) (g.H.Shelf.told c.read_truths.new.shelf) (g.H.Shelf.told c.hold_session.new.shelf) c.hold_session.result
    (c.in-Ok-read_truths.ensures.kept ∙ c.in-Ok.ensures.kept) c.hold_session.ensures.kept

pub returns-in-Err-clause-served : goal.returns-in-Err-clause-served
returns-in-Err-clause-served g c =
    let refusal = c.in-Err.refusal in (
      refusal_text refusal,
      refusal_status refusal,
      refusal_serves (g.H.Shelf.told c.args.shelf.now) (g.H.Shelf.told c.read_exchange.new.shelf) c.args.exchange.now c.args.truths.now refusal c.in-Err.ensures.refusal,
      c.say.ensures,
    )

pub returns-in-Err-clause-kept : goal.returns-in-Err-clause-kept
returns-in-Err-clause-kept g c =
    refusal_keeps (g.H.Shelf.told c.args.shelf.now) (g.H.Shelf.told c.read_exchange.new.shelf) c.in-Err.refusal
    (g.K.Sink.taken c.args.out.now) (g.K.Sink.taken c.say.new.out) c.say.result
    c.in-Err.ensures.kept_at_refusal c.say.ensures

pub returns-in-Err-read_truths-clause-served : goal.returns-in-Err-read_truths-clause-served
returns-in-Err-read_truths-clause-served g c =
    let refusal = c.in-Err-read_truths.refusal in
    let ex = c.in-Ok.exchange in
    let file = c.args.truths.now in
    let after = g.H.Shelf.told c.read_truths.new.shelf in
    let why = subst (λ (s : Told). Refuses 2 file file_limit (IsTruthFault ex) s after refusal) c.in-Ok.ensures.kept c.in-Err-read_truths.ensures.refusal in (
      refusal_text refusal,
      refusal_status refusal,
      truths_refusal_serves (g.H.Shelf.told c.args.shelf.now) after c.args.exchange.now file ex refusal c.in-Ok.ensures.exchange why,
      c.say-in-Err-read_truths.ensures,
    )

pub returns-in-Err-read_truths-clause-kept : goal.returns-in-Err-read_truths-clause-kept
returns-in-Err-read_truths-clause-kept g c =
    let before = g.H.Shelf.told c.args.shelf.now in
    let mid = g.H.Shelf.told c.read_exchange.new.shelf in
    let after = g.H.Shelf.told c.read_truths.new.shelf in
    refusal_keeps before after c.in-Err-read_truths.refusal
    (g.K.Sink.taken c.args.out.now) (g.K.Sink.taken c.say-in-Err-read_truths.new.out) c.say-in-Err-read_truths.result
    (kept_behind before mid after (refusal_status c.in-Err-read_truths.refusal) c.in-Ok.ensures.kept c.in-Err-read_truths.ensures.kept_at_refusal) c.say-in-Err-read_truths.ensures
