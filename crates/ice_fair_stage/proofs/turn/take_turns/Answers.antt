use Rattle.std.proofs.Common.{◌≡◌, ◌++◌, [], ◌∷◌, List, sym, subst, rules}
use Rattle.ice_defs.specs.PricingRun.{Member}
use Rattle.ice_fair_laws.specs.FairRun.{MayFollowFair, follows}
use Rattle.ice_turns.proofs.Works.{more-trans}
use Rattle.ice_fair_stage.specs.Stages.{paid, IsState}
use Rattle.ice_fair_stage.proofs.turn.take_turns.Goals as goal

pub turns-init : goal.turns-init
turns-init c = record { state = search rules; work = search rules }

pub turns-preserved : goal.turns-preserved
turns-preserved c =
    let may : MayFollowFair (paid c.args.trade.now c.args.at.now) c.args.at.now.cut c.args.at.now.delta c.args.at.now.den c.turns.pool.items c.in-Adds.member = search rules in
    let pushed : c.push.new.self.items ≡ c.turns.pool.items ++ c.in-Adds.member ∷ [] = search rules in
    let state : IsState c.args.trade.now c.args.at.now c.turns.pool.items = c.turns.invariant.state in
    record {
      state = subst (λ (pool : List Member). IsState c.args.trade.now c.args.at.now pool) (sym pushed) (record { stage = state.stage; pool_is = follows state.pool_is may });
      work = more-trans _ _ _ c.turns.invariant.work c.take_turn.ensures.work;
    }
