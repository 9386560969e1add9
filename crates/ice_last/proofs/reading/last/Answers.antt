use Rattle.std.proofs.Common.{refl, sym, subst}
use Rattle.std.specs.Prelude.{Option, Ok, Err}
use Rattle.ice_check_records.specs.declared.closed.ClosedSession.{ClosedSession}
use Rattle.ice_check_records.specs.Closed.{TellsClosed}
use Rattle.ice_fair.specs.Lasts.{LastTrade}
use Rattle.ice_reading.specs.declared.end.JournalEnd.{JournalEnd}
use Rattle.ice_last.specs.declared.watch.Watch.{Watch}
use Rattle.ice_reading.proofs.Unjudged.{read_unjudged}
use Rattle.ice_last.specs.Lasts.{IsSession, LastsBytes}
use Rattle.ice_last.specs.Reading.{ClosesOn}
use Rattle.ice_last.specs.Watching.{IsWatched}
use Rattle.ice_last.proofs.Watched.{no_session}
use Rattle.ice_last.proofs.Closed.{all_known}
use Rattle.ice_last.proofs.Settled.{payable, is_last, none_is}
use Rattle.ice_last.proofs.reading.last.Goals as goal

pub returns-in-Err : goal.returns-in-Err
returns-in-Err c = read_unjudged ClosesOn (λ journal. ¬ IsSession journal) c.args.bytes.now c.read_journal.new.reader c.in-Err.end c.in-Err.ensures

pub returns-in_default : goal.returns-in_default
returns-in_default c =
    let read = c.in-Ok.ensures in
    let known = all_known c.args.bytes.now _ c.read_journal.new.reader c.new.ensures.made refl read in
    (read.journal, read.spelled, no_session c.read_journal.new.reader.watch read.journal c.in_default.not-Session known.watched)

pub settled-requires : goal.settled-requires
settled-requires c =
    let read = c.in-Ok.ensures in
    let known = all_known c.args.bytes.now _ c.read_journal.new.reader c.new.ensures.made refl read in
    let watched = subst (λ (w : Watch). IsWatched w read.journal) c.in-Session.is known.watched in
    let closed = subst (λ (o : Option ClosedSession). TellsClosed o known.progress) c.in-Some.is (c.in_ok-session.ensures known.progress known.come) in
    payable read.journal c.in-Session.payments.items watched.1 c.in-Some.session known.progress closed read.spelled.lawful known.leads

pub returns-in_ok-settled-in-Some : goal.returns-in_ok-settled-in-Some
returns-in_ok-settled-in-Some c =
    let read = c.in-Ok.ensures in
    let known = all_known c.args.bytes.now _ c.read_journal.new.reader c.new.ensures.made refl read in
    let watched = subst (λ (w : Watch). IsWatched w read.journal) c.in-Session.is known.watched in
    let closed = subst (λ (o : Option ClosedSession). TellsClosed o known.progress) c.in-Some.is (c.in_ok-session.ensures known.progress known.come) in
    subst (λ (last : LastTrade). LastsBytes c.args.bytes.now (Ok last)) (sym c.in_ok-settled-in-Some.ensures)
    (is_last read.journal c.in-Session.payments.items watched.1 c.in-Some.session known.progress closed c.args.bytes.now read.spelled watched.0 known.leads)

pub returns-in-None : goal.returns-in-None
returns-in-None c =
    let read = c.in-Ok.ensures in
    let known = all_known c.args.bytes.now _ c.read_journal.new.reader c.new.ensures.made refl read in
    let watched = subst (λ (w : Watch). IsWatched w read.journal) c.in-Session.is known.watched in
    let open_still = subst (λ (o : Option ClosedSession). TellsClosed o known.progress) c.in-None.is (c.in_ok-session.ensures known.progress known.come) in
    subst (λ (end : JournalEnd). LastsBytes c.args.bytes.now (Err end)) (sym c.end_found.ensures)
    (none_is c.args.bytes.now read.journal read.spelled watched.0 known.progress c.answer-found.result known.leads (c.answer-found.ensures known.progress known.come) open_still)
