use Rattle.std.proofs.Common.{◌≡◌, [], false, refl, sym, subst, arith}
use Rattle.std.proofs.lemmas.Result.{err_from_is_err_and}
use Rattle.ice_defs.specs.Session.{closes}
use Rattle.ice_round.specs.Held.{Held, settling_with, HasFound}
use Rattle.ice_round.specs.Kept.{session_at}
use Rattle.ice_round.specs.Settling.{IsStoppedBehind}
use Rattle.ice_round.proofs.Halting.{stopped_provisional}
use Rattle.ice_round.proofs.settling.Settling.offer.Goals as goal

pub provisional_sets-requires-clause-kept : goal.provisional_sets-requires-clause-kept
provisional_sets-requires-clause-kept c = c.self.invariant.session

pub provisional_sets-requires-clause-branches : goal.provisional_sets-requires-clause-branches
provisional_sets-requires-clause-branches c = omega (arith, c.self.invariant.found.branches, c.self.invariant.session.branches)

pub returns-in_err-provisional-clause-end : goal.returns-in_err-provisional-clause-end
returns-in_err-provisional-clause-end c =
    let y = c.self.inside in
    let e = c.in_err-provisional.field-0.0 in
    let p = err_from_is_err_and c.from_residual.result c.from_residual.ensures.1 in
    let fresh = subst (λ (z : Held). HasFound z []) (sym c.self.view_is) c.requires.fresh in
    rw (p.1, p.2)
    (subst (λ (z : Held). IsStoppedBehind (settling_with z []) e) c.self.view_is
    (stopped_provisional (session_at y.session) c.provisional_sets.new.branches y.best y.regret y.left fresh.found.settlement [] refl e
    (subst (λ (z : Held). closes z.session.exchange.settings z.session.number z.regret.amount ≡ false) (sym c.self.view_is) c.requires.goes_on)
    fresh.branches c.in_err-provisional.ensures.end))
