use Rattle.std.proofs.Common.{◌≡◌, ◌^◌, ◌-ℤ◌, pos, arith, rules, slice_index_or, to_z, of_z}
use mir.Syntax.{w128}
use Rattle.std.proofs.lemmas.Int.{ints}
use Rattle.ice_threshold.specs.Level.{level_count}
use Rattle.ice_threshold.proofs.Levels.{count_at, size_between}
use Rattle.ice_threshold.proofs.cut.asked.Goals as goal

pub invariant_of-result : goal.invariant_of-result
invariant_of-result c =
    let count : c.at_or_above-level.result.count ≡ level_count (slice_index_or c.args.vickrey.now c.args.at (pos 0)) c.args.vickrey.now = search rules in
    let num : to_z w128 (of_z w128 (to_z w128 (of_z w128 c.at_or_above-level.result.sum) -ℤ to_z w128 (of_z w128 c.args.total))) ≡ c.at_or_above-level.result.sum -ℤ c.args.total = omega (arith, ints) in (
      rw num (size_between (c.at_or_above-level.result.sum -ℤ c.args.total) (2 ^ 56) (omega (arith, ints)) (omega (arith, ints))),
      omega (arith, count, count_at c.args.vickrey.now c.args.at c.requires.within),
      search rules,
    )

pub returns-clause-proper : goal.returns-clause-proper
returns-clause-proper c =
    let count : c.at_or_above-level.result.count ≡ level_count (slice_index_or c.args.vickrey.now c.args.at (pos 0)) c.args.vickrey.now = search rules in
    omega (arith, count, count_at c.args.vickrey.now c.args.at c.requires.within)
