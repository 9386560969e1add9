use Rattle.std.proofs.Common.{◌≡◌, ◌∙◌, ◌-ℤ◌, arith, ap, to_z, of_z}
use mir.Syntax.{w64}
use Rattle.std.proofs.lemmas.Int.{ints}
use Rattle.ice_defs.specs.Set.{weight_of}
use Rattle.ice_proxy.specs.Proposals.{width_after_halvings}
use Rattle.ice_proxy.proofs.proposal.lower.Goals as goal

pub overflow_sub-result : goal.overflow_sub-result
overflow_sub-result c =
    let least = c.requires.bounds.low c.args.node c.requires.node in
    let most = c.requires.bounds.high c.args.node c.requires.node in
    omega (arith, ints, least, most, c.lo.ensures, c.halved.ensures.low, c.halved.ensures.high)

pub returns : goal.returns
returns c =
    let least = c.requires.bounds.low c.args.node c.requires.node in
    let most = c.requires.bounds.high c.args.node c.requires.node in
    let width : to_z w64 (of_z w64 (to_z w64 (of_z w64 c.args.truth) -ℤ to_z w64 (of_z w64 c.lo.result))) ≡ c.args.truth -ℤ weight_of c.args.old.now.lo c.args.node =
    omega (arith, ints, least, most, c.lo.ensures) in
    let value : c.halved.result ≡ width_after_halvings c.args.attempt (c.args.truth -ℤ weight_of c.args.old.now.lo c.args.node) = c.halved.ensures.value ∙ ap (width_after_halvings c.args.attempt) width in
    omega (arith, ints, least, most, value, width, c.halved.ensures.low, c.halved.ensures.high)
