use Rattle.std.proofs.Common.{rules, arith, FitsSigned, ap, refl, true}
use Rattle.std.specs.Int.{w128}
use Rattle.std.proofs.lemmas.Int.{to_z-of_z}
use Rattle.ice_search_log.specs.Code.{part_of}
use Rattle.ice_search.specs.State.{with_bound}
use Rattle.ice_search.proofs.Placing.{placed}
use Rattle.ice_search.proofs.parts.lower.Goals as goal

pub returns-then-swept-part-clause-falls : goal.returns-then-swept-part-clause-falls
returns-then-swept-part-clause-falls c less =
    let p = c.index_mut-part.result.now in
    let fits : FitsSigned w128 c.args.swept.key = search rules in
    placed c.args.parts.now.items c.args.number p _ (λ q. with_bound q c.args.swept.m c.args.swept.key) (omega (arith, c.requires)) c.index_mut-part.ensures.value
    (ap (λ z. with_bound (part_of p) c.args.swept.m z) (to_z-of_z w128 c.args.swept.key fits))

pub returns-else-swept-part-clause-stays : goal.returns-else-swept-part-clause-stays
returns-else-swept-part-clause-stays c less =
    placed c.args.parts.now.items c.args.number c.index_mut-part.result.now _ (λ q. record q { swept = true }) (omega (arith, c.requires)) c.index_mut-part.ensures.value refl
