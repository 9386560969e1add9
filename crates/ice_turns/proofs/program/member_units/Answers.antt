use Rattle.std.proofs.Common.{◌≡◌, ◌∙◌, ◌++◌, [], ◌∷◌, ap, subst, sym, pos, ◌-ℤ◌, ◌*ℤ◌, arith, rules, to_z, of_z, map}
use mir.Syntax.{w128}
use Rattle.std.specs.Prelude.{All}
use Rattle.std.proofs.lemmas.Int.{ints}
use Rattle.std.proofs.lemmas.List.Elements.{All-push}
use Rattle.ice_defs.specs.Set.{weight_of, units}
use Rattle.ice_defs.specs.Sum.{numbers_below}
use Rattle.ice_defs.specs.Trade.{tree_of, set_of}
use Rattle.ice_lp.specs.Limits.{IsNumber}
use Rattle.ice_turns.proofs.Units.{unit_of, map_below-more}
use Rattle.ice_turns.proofs.program.member_units.Goals as goal

pub loop-good-preserved : goal.loop-good-preserved
loop-good-preserved c =
    let u : weight_of c.units-units.result c.loop-good.good ≡ units (tree_of c.args.trade.now.trees c.args.member.now.bidder) c.args.member.now.set c.loop-good.good = search rules in
    let o : weight_of c.units-own.result c.loop-good.good ≡ units (tree_of c.args.trade.now.trees c.args.member.now.bidder) (set_of c.args.trade.now.sets c.args.member.now.bidder) c.loop-good.good = search rules in
    let difference : to_z w128 (of_z w128 c.units_above-more.result) ≡ c.units_above-more.result = omega (arith, ints, c.units_above-more.ensures.low, c.units_above-more.ensures.high) in
    let factor : to_z w128 (of_z w128 c.from.result) ≡ pos c.args.factor = omega (arith, ints, c.from.ensures, c.requires.few) in
    let value : c.times_units.result ≡ unit_of c.args.trade.now c.args.factor c.args.member.now c.loop-good.good =
    c.times_units.ensures.value ∙ ap (λ z. z *ℤ to_z w128 (of_z w128 c.units_above-more.result)) factor ∙ ap (λ z. pos c.args.factor *ℤ z) (difference ∙ c.units_above-more.ensures.value ∙ ap (λ z. z -ℤ weight_of c.units-own.result c.loop-good.good) u
    ∙ ap (λ z. units (tree_of c.args.trade.now.trees c.args.member.now.bidder) c.args.member.now.set c.loop-good.good -ℤ z) o) in
    let pushed : c.push.new.self.items ≡ c.loop-good.made.items ++ c.times_units.result ∷ [] = search rules in
    record {
      value = pushed ∙ ap (λ xs. xs ++ c.times_units.result ∷ []) c.loop-good.invariant.value
          ∙ ap (λ z. map (unit_of c.args.trade.now c.args.factor c.args.member.now) (numbers_below c.loop-good.good) ++ z ∷ []) value
          ∙ sym (map_below-more (unit_of c.args.trade.now c.args.factor c.args.member.now) c.loop-good.good);
      len = search rules;
      sized = subst (All IsNumber) (sym pushed) (All-push IsNumber c.loop-good.made.items c.times_units.result c.loop-good.invariant.sized c.times_units.ensures.sized);
    }
