use Rattle.std.proofs.Common.{◌≡◌, sym, subst, rules, to_z, of_z}
use Rattle.std.proofs.lemmas.Int.{to_z-of_z}
use mir.Syntax.{w64}
use mir.Val.{SFits}
use Rattle.ice_defs.specs.declared.Verdict.TheVariants.{Accepted}
use Rattle.ice_defs.specs.Judging.{IsJudged}
use Rattle.ice_rules.specs.Verdicts.{verdict_of}
use Rattle.ice_rules.proofs.Exact.{exact_is_accepted, accepted_alone}
use Rattle.ice_rules.proofs.judging.judge.Goals as goal

pub returns-clause-judged : goal.returns-clause-judged
returns-clause-judged c =
    let fits : SFits w64 c.args.improve = search rules in
    let back : to_z w64 (of_z w64 c.args.improve) ≡ c.args.improve = to_z-of_z w64 c.args.improve fits in
    subst (λ z. IsJudged c.args.at.now.tree.now c.args.at.now.prices.now z c.args.at.now.set.now c.args.at.now.bounds.now (record { lo = c.args.lo.now; hi = c.args.hi.now }) (verdict_of c.first_that_holds.result)) back c.first_that_holds.ensures.judged

pub returns-clause-exact : goal.returns-clause-exact
returns-clause-exact c = λ same inside.
    accepted_alone c.args.at.now.tree.now c.args.at.now.prices.now c.args.improve c.args.at.now.set.now c.args.at.now.bounds.now (record { lo = c.args.lo.now; hi = c.args.hi.now }) (verdict_of c.first_that_holds.result)
    (returns-clause-judged c)
    (subst (λ h. IsJudged c.args.at.now.tree.now c.args.at.now.prices.now c.args.improve c.args.at.now.set.now c.args.at.now.bounds.now (record { lo = c.args.lo.now; hi = h }) Accepted) (sym same)
    (exact_is_accepted c.args.at.now.tree.now c.args.at.now.prices.now c.args.improve c.args.at.now.set.now c.args.at.now.bounds.now c.args.lo.now c.requires.satisfied c.requires.lo_nodes inside))
