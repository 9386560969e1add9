use Rattle.std.proofs.Common.{◌≡◌, refl, arith, rules, ap, sym, subst, ◌∙◌, ℤ, to_z, of_z}
use Rattle.std.proofs.lemmas.Int.{ints}
use mir.Syntax.{w64, w128}
use Rattle.ice_derived.proofs.Fitting.{amounts_are_weights}
use Rattle.ice_derived.specs.Ranges.{IsLimit}
use Rattle.ice_separation.specs.Derivations.{lone_multiplier, IsDerivation}
use Rattle.ice_separation.proofs.Shown.{derivation_is}
use Rattle.ice_separation.proofs.derivation.Derivation.of.Goals as goal

pub bound_with-requires-clause-weights : goal.bound_with-requires-clause-weights
bound_with-requires-clause-weights c = amounts_are_weights c.args.trees.now c.args.amounts c.requires.amounts c.has_amount.ensures.range

pub returns : goal.returns
returns c =
    let same_limit : to_z w64 (of_z w64 c.in_ok-limit.limit) ≡ c.in_ok-limit.limit = search rules in
    let same_bound : to_z w128 (of_z w128 c.in-AtMost.bound) ≡ c.in-AtMost.bound = search rules in
    let limit_is : to_z w64 (of_z w64 c.in_ok-limit.limit) ≡ c.in-AtMost.bound = omega (arith, ints, same_limit, same_bound, c.in_ok-limit.ensures.1) in
    let limit_fits : IsLimit c.in-AtMost.bound = subst IsLimit limit_is (subst IsLimit (sym same_limit) c.in_ok-limit.ensures.0) in
    subst (λ (l : ℤ). IsDerivation c.args.trees.now c.args.room.now (record { derived = record { amounts = c.args.amounts; limit = l }; good = c.args.good; multiplier = c.args.multiplier })) (sym limit_is)
    (derivation_is c.args.trees.now c.args.room.now c.args.amounts c.args.good c.args.multiplier c.in-AtMost.bound c.args.none.now.goods c.args.none.now.tolls c.lone_rate-m.result c.args.free.now
    c.requires.none c.len-count.ensures.tolls (c.lone_rate-m.ensures.value ∙ ap (λ n. lone_multiplier n c.args.good c.args.multiplier) c.goods.ensures.value) c.requires.free c.in-AtMost.ensures
    c.requires.good c.requires.amounts c.has_amount.ensures.range (c.if-not-has_amount.ensures.some refl) limit_fits)
