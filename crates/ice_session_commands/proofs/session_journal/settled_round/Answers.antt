use Rattle.std.proofs.Common.{◌≡◌, ◌≤◌, [], ◌∷◌, ℕ, List, length, refl, sym, subst}
use Rattle.std.proofs.lemmas.Result.{MatchResult-weaker}
use Rattle.ice_edge.specs.Puts.{Takes, FailsIn}
use Rattle.ice_edge.specs.declared.status.Status.TheVariants.{WriteFault}
use Rattle.ice_defs.specs.Exchange.{Exchange, exact_of}
use Rattle.ice_journal.specs.Records.{Record}
use Rattle.ice_journal.specs.Records as line
use Rattle.ice_journal.specs.Journal.{bytes_of}
use Rattle.ice_search.specs.declared.results.Found.{Found}
use Rattle.ice_regret.specs.declared.lead.Regret.{Regret}
use Rattle.ice_settled.specs.Shown.{settlement_of}
use Rattle.ice_round.specs.SessionAt.{SessionAt}
use Rattle.ice_round.specs.Held.{settling_with}
use Rattle.ice_session_laws.specs.Running.{IsRunning}
use Rattle.ice_write_session.specs.Records.{regret_records}
use Rattle.ice_write_session.specs.Writable.{IsWritableSettlement}
use Rattle.ice_session_laws.proofs.Finding.{settling_may_be_written}
use Rattle.ice_session_commands.specs.SessionSteps.{EndsHere, OpensRound}
use Rattle.ice_session_commands.proofs.Settling.{settling_fails, settling_ends, settling_opens}
use Rattle.ice_session_commands.proofs.session_journal.settled_round.Goals as goal

-- the records, in the words of what was lent
in_words : (P : List Record → Type 0) (ex ex2 : Exchange) (n n2 : ℕ) (best best2 : Found) (r r2 : Regret) → ex ≡ ex2 → n ≡ n2 → best ≡ best2 → r ≡ r2 → P (line.settle n ∷ regret_records ex best r) → P (line.settle n2 ∷ regret_records ex2 best2 r2)
in_words P ex ex2 n n2 best best2 r r2 a b c d h =
    subst (λ (z : Regret). P (line.settle n2 ∷ regret_records ex2 best2 z)) d
    (subst (λ (f : Found). P (line.settle n2 ∷ regret_records ex2 f r)) c
    (subst (λ (k : ℕ). P (line.settle k ∷ regret_records ex2 best r)) b
    (subst (λ (y : Exchange). P (line.settle n ∷ regret_records y best r)) a h)))

pub stop_early-requires : goal.stop_early-requires
stop_early-requires g c = (c.args.ready, c.requires, c.in-Err.ensures.end)

pub returns-in-Err : goal.returns-in-Err
returns-in-Err g c = c.stop_early.ensures c.args.ready c.in-Err.ensures.end

pub put_settlement-requires-clause-number : goal.put_settlement-requires-clause-number
put_settlement-requires-clause-number g c =
    let x = settling_with c.in-Ok.settling [] in
    let run = subst (IsRunning c.requires.0) (sym c.in-Ok.ensures.session) c.requires.1 in
    subst (λ (k : ℕ). k ≤ 20) (sym c.number.ensures) (settling_may_be_written c.requires.0 x run c.in-Ok.ensures.settling.found).number

pub put_settlement-requires-clause-written : goal.put_settlement-requires-clause-written
put_settlement-requires-clause-written g c =
    let x = settling_with c.in-Ok.settling [] in
    let run = subst (IsRunning c.requires.0) (sym c.in-Ok.ensures.session) c.requires.1 in
    subst (λ (y : Exchange). IsWritableSettlement (length (exact_of y)) (settlement_of c.best.result.now c.regret.result.now)) (sym c.exchange.ensures)
    (subst (λ (f : Found). IsWritableSettlement (length (exact_of x.session.exchange)) (settlement_of f c.regret.result.now)) (sym c.best.ensures)
    (subst (λ (r : Regret). IsWritableSettlement (length (exact_of x.session.exchange)) (settlement_of x.best r)) (sym c.regret.ensures)
    (settling_may_be_written c.requires.0 x run c.in-Ok.ensures.settling.found).settlement))

pub follow-requires-clause-running : goal.follow-requires-clause-running
follow-requires-clause-running g c = (c.requires.0, subst (IsRunning c.requires.0) (sym c.in-Ok.ensures.session) c.requires.1)

pub follow-requires-clause-found : goal.follow-requires-clause-found
follow-requires-clause-found g c = c.in-Ok.ensures.settling

pub returns-in-Ok-put_settlement : goal.returns-in-Ok-put_settlement
returns-in-Ok-put_settlement g c =
    let x = settling_with c.in-Ok.settling [] in
    let found = c.in-Ok.ensures.settling.found in
    let old = g.K.Sink.taken c.args.out.now in
    let mid = g.K.Sink.taken c.put_settlement.new.out in
    let new = g.K.Sink.taken c.follow.new.out in
    let takes = in_words (λ (rs : List Record). Takes (bytes_of rs) old mid) c.exchange.result.now x.session.exchange c.number.result x.session.number c.best.result.now x.best c.regret.result.now x.regret
    c.exchange.ensures c.number.ensures c.best.ensures c.regret.ensures c.in-Ok-put_settlement.ensures in
    MatchResult-weaker c.follow.result c.follow.ensures
    (λ round opened. subst (λ (s : SessionAt). OpensRound s round old new) c.in-Ok.ensures.session (settling_opens x found refl round old mid new takes opened))
    (λ status ends. subst (λ (s : SessionAt). EndsHere s old new status) c.in-Ok.ensures.session (settling_ends x found refl old mid new status takes ends))

pub returns-in-Err-Failed : goal.returns-in-Err-Failed
returns-in-Err-Failed g c =
    let x = settling_with c.in-Ok.settling [] in
    let old = g.K.Sink.taken c.args.out.now in
    let new = g.K.Sink.taken c.put_settlement.new.out in
    let fails = in_words (λ (rs : List Record). FailsIn (bytes_of rs) old new) c.exchange.result.now x.session.exchange c.number.result x.session.number c.best.result.now x.best c.regret.result.now x.regret
    c.exchange.ensures c.number.ensures c.best.ensures c.regret.ensures c.in-Err-Failed.ensures in
    subst (λ (s : SessionAt). EndsHere s old new WriteFault) c.in-Ok.ensures.session (settling_fails x c.in-Ok.ensures.settling.found refl old new fails)
