use Rattle.std.proofs.Common.{◌≡◌, subst}
use Rattle.ice_defs.specs.Round.{Submission}
use Rattle.ice_verdicts.specs.Judges.{IsVerdictIn, round_after}
use Rattle.ice_audit.proofs.Judged.{submission_taken}
use Rattle.ice_audit.proofs.settlements.Settlements.submit.Goals as goal

pub returns : goal.returns
returns c =
    let x = c.args.self.now in
    let told : Submission = record { name = c.args.name.now; lo = c.args.lo.now; hi = c.args.hi.now } in
    submission_taken x c.requires.kept told c.submit-due.new.self c.submit-due.result c.requires.next c.requires.named
    (subst (λ (s : Submission). IsVerdictIn x.exchange x.judge s c.submit-due.result) c.bid_of.ensures c.submit-due.ensures.verdict)
    (subst (λ (s : Submission). c.submit-due.new.self ≡ round_after x.exchange x.judge (record { submission = s; verdict = c.submit-due.result })) c.bid_of.ensures c.submit-due.ensures.changed)
    c.submit-due.ensures.round
