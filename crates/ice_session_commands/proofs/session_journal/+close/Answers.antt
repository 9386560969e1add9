use Rattle.std.proofs.Common.{◌∙◌, ℕ, [], ◌∷◌, ◌++◌, ◌-◌, ◌<◌, length, sym, subst, arith, length-append}
use Rattle.ice_edge.specs.Puts.{Takes, FailsIn}
use Rattle.ice_defs.specs.Exchange.{Exchange, exact_of, trees_of}
use Rattle.ice_journal.specs.Journal.{bytes_of}
use Rattle.ice_search.specs.Results.{proved_spent}
use Rattle.ice_vickrey.specs.Marginals.{proved_without}
use Rattle.ice_round.specs.Held.{Held, settling_with}
use Rattle.ice_round.specs.Settling.{IsStoppedBehind}
use Rattle.ice_edge.specs.declared.status.Status.TheVariants.{Spent}
use Rattle.ice_write_session.specs.Records.{one_without, spent_records}
use Rattle.ice_write_session.specs.Writable.{IsWritable}
use Rattle.ice_command_parts.specs.Parts.{IsSaid}
use Rattle.ice_round.proofs.Settlements.{done_count, found_more}
use Rattle.ice_session_laws.proofs.Finding.{settling_may_be_written}
use Rattle.ice_session_commands.proofs.Settling.{closing_without_memory, spent_may, ends_spent_behind, still_running, still_closes, fewer, last_writable, one_more_ends, one_more_fails}
use Rattle.ice_session_commands.proofs.session_journal.+close.Goals as goal

pub charge-requires-clause-running : goal.charge-requires-clause-running
charge-requires-clause-running g t c = c.requires.running

pub charge-requires-clause-found : goal.charge-requires-clause-found
charge-requires-clause-found g t c = c.requires.found

pub charge-requires-clause-closes : goal.charge-requires-clause-closes
charge-requires-clause-closes g t c = c.requires.closes

pub charge-requires-clause-all : goal.charge-requires-clause-all
charge-requires-clause-all g t c = c.is_done.ensures.all c.if-is_done.true

pub returns-then-is_done : goal.returns-then-is_done
returns-then-is_done g t c = c.charge.ensures

pub find_without-requires-clause-closes : goal.find_without-requires-clause-closes
find_without-requires-clause-closes g t c = c.requires.closes

pub find_without-requires-clause-next : goal.find_without-requires-clause-next
find_without-requires-clause-next g t c = c.is_done.ensures.more c.if-is_done.false

-- ---- one more bidder is done

pub put_found-requires-clause-bidder : goal.put_found-requires-clause-bidder
put_found-requires-clause-bidder g t c =
    let h = c.args.settling in
    let next = c.find_without.new.self in
    let done = c.requires.found.0 in
    let m = c.in-Ok.marginal in
    let more = c.in-Ok.ensures.more in
    let found = found_more h next done m c.requires.found.1 (c.is_done.ensures.more c.if-is_done.false) more in
    let run = still_running h next done m more c.requires.running.0 c.requires.running.1 in
    let few = (settling_may_be_written c.requires.running.0 (settling_with next (done ++ m ∷ [])) run found.found).withouts.few in
    omega (arith, more.is.bidder, done_count h done c.requires.found.1, few, length-append done (m ∷ []))

pub put_found-requires-clause-written : goal.put_found-requires-clause-written
put_found-requires-clause-written g t c =
    let h = c.args.settling in
    let next = c.find_without.new.self in
    let done = c.requires.found.0 in
    let m = c.in-Ok.marginal in
    let more = c.in-Ok.ensures.more in
    let found = found_more h next done m c.requires.found.1 (c.is_done.ensures.more c.if-is_done.false) more in
    let run = still_running h next done m more c.requires.running.0 c.requires.running.1 in
    let may = settling_may_be_written c.requires.running.0 (settling_with next (done ++ m ∷ [])) run found.found in
    subst (λ (ex : Exchange). IsWritable (length (exact_of ex)) (proved_without m)) (sym c.exchange.ensures) (last_writable (length (exact_of next.session.exchange)) done m may.withouts.each)

pub close-requires : goal.close-requires
close-requires g t c κs within =
    let h = c.args.settling in
    let next = c.find_without.new.self in
    let done = c.requires.found.0 in
    let m = c.in-Ok.marginal in
    let more = c.in-Ok.ensures.more in
    let left = c.is_done.ensures.more c.if-is_done.false in
    let less = fewer h next done m more left in
    let smaller : length (trees_of next.session.exchange) - length next.discounts < t = omega (arith, c.decreases, less) in (
      smaller,
      (
        within,
        (
          (c.requires.running.0, still_running h next done m more c.requires.running.0 c.requires.running.1),
          ((done ++ m ∷ [], found_more h next done m c.requires.found.1 left more), still_closes h next done m more c.requires.closes),
        ),
      ),
    )

pub returns-in-Ok-put_found : goal.returns-in-Ok-put_found
returns-in-Ok-put_found g t c = λ done has.
    let h = c.args.settling in
    let next = c.find_without.new.self in
    let m = c.in-Ok.marginal in
    let more = c.in-Ok.ensures.more in
    let old = g.K.Sink.taken c.args.out.now in
    let mid = g.K.Sink.taken c.put_found.new.out in
    one_more_ends h next done m more old mid (g.K.Sink.taken c.close.new.out) c.close.result
    (subst (λ (b : ℕ). Takes (bytes_of (one_without next.session.exchange b m)) old mid) (more.is.bidder ∙ sym (done_count h done has))
    (subst (λ (ex : Exchange). Takes (bytes_of (one_without ex m.bidder m)) old mid) c.exchange.ensures c.in-Ok-put_found.ensures))
    (c.close.ensures (done ++ m ∷ []) (found_more h next done m has (c.is_done.ensures.more c.if-is_done.false) more))

pub returns-in-Ok : goal.returns-in-Ok
returns-in-Ok g t c = λ done has.
    let h = c.args.settling in
    let next = c.find_without.new.self in
    let m = c.in-Ok.marginal in
    let more = c.in-Ok.ensures.more in
    let old = g.K.Sink.taken c.args.out.now in
    let new = g.K.Sink.taken c.put_found.new.out in
    one_more_fails h next done m more old new (found_more h next done m has (c.is_done.ensures.more c.if-is_done.false) more).found (still_closes h next done m more c.requires.closes)
    (subst (λ (b : ℕ). FailsIn (bytes_of (one_without next.session.exchange b m)) old new) (more.is.bidder ∙ sym (done_count h done has))
    (subst (λ (ex : Exchange). FailsIn (bytes_of (one_without ex m.bidder m)) old new) c.exchange.ensures c.in-Err-Failed.ensures))

-- ---- or its search ended early

pub stop_behind-requires : goal.stop_behind-requires
stop_behind-requires g t c =
    let spent = c.in-Err-Spent.spent in
    let x = settling_with c.args.settling c.requires.found.0 in
    let is = subst (IsStoppedBehind x) c.in-Err-Spent.field-0-is (c.in-Err-Spent.ensures.end c.requires.found.0 c.requires.found.1) in
    subst (λ (ex : Exchange). IsWritable (length (exact_of ex)) (proved_spent spent)) (sym c.exchange-in-Err-Spent.ensures)
    (subst (λ (y : Held). IsWritable (length (exact_of y.session.exchange)) (proved_spent spent)) (sym c.in-Err-Spent.ensures.kept)
    (spent_may c.requires.running.0 x spent c.requires.running.1 is))

pub returns-in-Err-Spent : goal.returns-in-Err-Spent
returns-in-Err-Spent g t c = λ done has.
    let spent = c.in-Err-Spent.spent in
    let x = settling_with c.args.settling done in
    let old = g.K.Sink.taken c.args.out.now in
    let new = g.K.Sink.taken c.stop_behind.new.out in
    let is = subst (IsStoppedBehind x) c.in-Err-Spent.field-0-is (c.in-Err-Spent.ensures.end done has) in
    ends_spent_behind x spent old new c.stop_behind.result has.found is c.stop_behind.ensures.record_is
    (subst (λ (y : Held). IsSaid (bytes_of (spent_records y.session.exchange spent)) Spent old new c.stop_behind.result) c.in-Err-Spent.ensures.kept
    (subst (λ (ex : Exchange). IsSaid (bytes_of (spent_records ex spent)) Spent old new c.stop_behind.result) c.exchange-in-Err-Spent.ensures c.stop_behind.ensures.said))

pub returns : goal.returns
returns g t c = λ done has. closing_without_memory (settling_with c.args.settling done) has.found c.requires.closes (g.K.Sink.taken c.args.out.now)
