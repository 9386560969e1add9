use Rattle.std.proofs.Common.{◌≡◌, ◌++◌, [], ◌∷◌, List, sym, subst, rules}
use Rattle.ice_defs.specs.PricingRun.{Member, MayFollow, follows}
use Rattle.ice_price.specs.Runs.{IsState, IsRunFrom, stays, adds}
use Rattle.ice_turns.proofs.Works.{more-trans}
use Rattle.ice_price.proofs.turn.run_stage.Goals as goal

pub turns-init : goal.turns-init
turns-init c = record { state = search rules; from = stays; work = search rules }

pub turns-preserved : goal.turns-preserved
turns-preserved c =
    let may : MayFollow c.args.trade.now.trees c.args.trade.now.weights c.args.trade.now.sets c.args.trade.now.goods c.args.trade.now.cap c.args.at.now c.turns.pool.items c.in-Adds.member = search rules in
    let pushed : c.push.new.self.items ≡ c.turns.pool.items ++ c.in-Adds.member ∷ [] = search rules in
    record {
      state = subst (λ (pool : List Member). IsState c.args.trade.now c.args.at.now pool) (sym pushed) (follows c.turns.invariant.state may);
      from = subst (λ (pool : List Member). IsRunFrom c.args.trade.now c.args.at.now c.args.pool.now.items pool) (sym pushed) (adds c.turns.invariant.from may);
      work = more-trans _ _ _ c.turns.invariant.work c.take_turn.ensures.work;
    }
