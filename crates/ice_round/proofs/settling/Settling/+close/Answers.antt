use Rattle.std.proofs.Common.{◌≡◌, ◌∷◌, ◌++◌, ◌-◌, ◌<◌, [], length, sym, subst, arith, length-append}
use Rattle.std.specs.Prelude.{IsTrue}
use Rattle.ice_defs.specs.Exchange.{trees_of}
use Rattle.ice_defs.specs.Session.{closes}
use Rattle.ice_round.specs.Held.{Held, HasFound}
use Rattle.ice_round.proofs.Settlements.{found_more}
use Rattle.ice_round.proofs.settling.Settling.+close.Goals as goal

pub close-requires : goal.close-requires
close-requires t c =
    let h = c.args.self in
    let next = c.find_without.new.self in
    let m = c.in-Ok.marginal in
    let more = c.in-Ok.ensures.more in
    let left = c.is_done.ensures.more c.if-is_done.false in
    let pushed : c.push.new.self.items ≡ c.args.marginals.items ++ m ∷ [] = c.in-Ok-push.ensures.items in
    let smaller : length (trees_of next.session.exchange) - length next.discounts < t =
    subst (λ (z : Held). length (trees_of z.session.exchange) - length z.discounts < t) (sym more.then) (omega (arith, c.decreases, left, length-append h.discounts (m.discount ∷ []))) in (
      smaller,
      (
        subst (λ (z : Held). IsTrue (closes z.session.exchange.settings z.session.number z.regret.amount)) (sym more.then) c.requires.closes,
        subst (HasFound next) (sym pushed) (found_more h next c.args.marginals.items m c.requires.found left more),
      ),
    )
