use Rattle.std.proofs.Common.{◌≡◌, ◌∙◌, ◌++◌, [], ◌∷◌, ap, subst, sym, ◌*ℤ◌, arith, rules, to_z, of_z, map}
use mir.Syntax.{w128}
use Rattle.std.specs.Prelude.{All}
use Rattle.std.proofs.lemmas.Int.{ints}
use Rattle.std.proofs.lemmas.List.Elements.{All-push}
use Rattle.ice_defs.specs.Set.{weight_of, units}
use Rattle.ice_defs.specs.Sum.{numbers_below}
use Rattle.ice_defs.specs.Trade.{tree_of, set_of}
use Rattle.ice_lp.specs.Limits.{IsNumber}
use Rattle.ice_turns.proofs.Units.{map_below-more}
use Rattle.ice_fair_stage.proofs.Sets.{unit_of}
use Rattle.ice_fair_stage.proofs.program.own_units.Goals as goal

pub loop-good-preserved : goal.loop-good-preserved
loop-good-preserved c =
    let own : weight_of c.units-units.result c.loop-good.good ≡ units (tree_of c.args.trade.now.trees c.args.bidder) (set_of c.args.trade.now.sets c.args.bidder) c.loop-good.good = search rules in
    let got : to_z w128 (of_z w128 c.from.result) ≡ weight_of c.units-units.result c.loop-good.good = omega (arith, ints, c.from.ensures, c.get.ensures.value, c.get.ensures.low, c.get.ensures.high) in
    let value : c.times_units.result ≡ unit_of c.args.trade.now (to_z w128 (of_z w128 c.args.factor)) c.args.bidder c.loop-good.good =
    c.times_units.ensures.value ∙ ap (λ z. to_z w128 (of_z w128 c.args.factor) *ℤ z) (got ∙ own) in
    let pushed : c.push.new.self.items ≡ c.loop-good.made.items ++ c.times_units.result ∷ [] = search rules in
    record {
      value = pushed ∙ ap (λ xs. xs ++ c.times_units.result ∷ []) c.loop-good.invariant.value
          ∙ ap (λ z. map (unit_of c.args.trade.now (to_z w128 (of_z w128 c.args.factor)) c.args.bidder) (numbers_below c.loop-good.good) ++ z ∷ []) value
          ∙ sym (map_below-more (unit_of c.args.trade.now (to_z w128 (of_z w128 c.args.factor)) c.args.bidder) c.loop-good.good);
      len = search rules;
      sized = subst (All IsNumber) (sym pushed) (All-push IsNumber c.loop-good.made.items c.times_units.result c.loop-good.invariant.sized c.times_units.ensures.sized);
    }
