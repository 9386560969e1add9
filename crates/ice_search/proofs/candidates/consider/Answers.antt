use Rattle.std.proofs.Common.{rules, arith, sym, subst, ap, ◌∙◌, ◌≡◌, ℤ, ◌<ℤ◌, FitsSigned, to_z, of_z}
use Rattle.std.specs.Int.{w128}
use Rattle.std.proofs.lemmas.Int.{ints, to_z-of_z}
use Rattle.ice_defs.specs.Trade.{Assignment, IsFeasible, MeetsAll, total_value}
use Rattle.ice_search.specs.Instance.{Instance, IsIncumbentOf}
use Rattle.ice_search.proofs.candidates.consider.Goals as goal

taken : (x : Instance) (old sets candidate : Assignment) (was value v : ℤ) → IsIncumbentOf x old was → IsFeasible x.trees x.exact candidate → MeetsAll candidate x.start
    → total_value candidate x.weights ≡ value → sets ≡ candidate → was <ℤ value → v ≡ value → IsIncumbentOf x sets v
taken x old sets candidate was value v before feasible meets has same more e = record {
  feasible = subst (IsFeasible x.trees x.exact) (sym same) feasible;
  meets = subst (λ a. MeetsAll a x.start) (sym same) meets;
  has = ap (λ a. total_value a x.weights) same ∙ has ∙ sym e;
  no_less = omega (arith, ints, before.no_less, more, e);
}

pub returns-then-incumbent-value-clause-incumbent : goal.returns-then-incumbent-value-clause-incumbent
returns-then-incumbent-value-clause-incumbent c =
    let i = c.args.incumbent.now in
    let fits : FitsSigned w128 c.in-Some.value = search rules in
    let more : i.value <ℤ c.in-Some.value = search rules in
    taken c.args.problem.now i.sets c.copy_from.new.self c.args.candidate.now i.value c.in-Some.value (to_z w128 (of_z w128 c.in-Some.value)) c.requires c.in-Some.ensures.feasible c.in-Some.ensures.meets
    c.in-Some.ensures.value c.copy_from.ensures more (to_z-of_z w128 c.in-Some.value fits)
