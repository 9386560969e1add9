use Rattle.std.proofs.Common.{◌≡◌, ◌∙◌, ◌<◌, refl, sym, ap, rules, arith, length, Ok, None, Some}
use Rattle.std.proofs.Math.ListN.{length-map}
use Rattle.serde_json.specs.View.{view}
use Rattle.ice_defs.specs.Lawful.{good_names}
use Rattle.ice_defs.specs.Making.{draft_refusal, with_node}
use Rattle.ice_tree.specs.Fault.{tree_fault_number}
use Rattle.ice_read.specs.declared.cause.ReadCause.TheVariants.{Tree}
use Rattle.ice_read.specs.Reading.{side_kind, made_so_far}
use Rattle.ice_read.proofs.PlacesOfFaults.{refused}
use Rattle.ice_read.proofs.Refusals.{leaf_chain, made, unmade}
use Rattle.ice_read.proofs.leaf.take_leaf.Goals as goal

pub returns-in-Ok-clause-taken : goal.returns-in-Ok-clause-taken
returns-in-Ok-clause-taken c = λ path.
    let ex = c.args.exchange.now in
    let d = c.args.maker.now.draft in
    let kind = side_kind c.args.side c.in_ok-good.good c.in_ok-units.units in
    let there : c.in_ok-good.good < length ex.goods = c.in_ok-good.ensures.there in
    let goods : c.args.maker.now.goods ≡ length (good_names ex) = rw (length-map ex.goods (λ good. good.name)) (omega arith) in
    let due : draft_refusal c.args.maker.now.goods d kind c.in_ok-lo.lo c.in_ok-hi.hi ≡ None = search rules in
    let after : c.leaf.new.self.draft ≡ with_node d kind c.in_ok-lo.lo c.in_ok-hi.hi = search rules in
    leaf_chain (good_names ex) d c.args.side path (view c.args.value.now) c.word.result.now c.in_ok-good.good c.in_ok-units.units c.in_ok-lo.lo c.in_ok-hi.hi c.word.ensures (c.in_ok-good.ensures.reading path) (c.in_ok-units.ensures.reading path) (c.in_ok-lo.ensures.reading path) (c.in_ok-hi.ensures.reading path)
    ∙ made (good_names ex) d kind c.in_ok-lo.lo c.in_ok-hi.hi path c.requires.going c.requires.deep (rw goods at due)
    ∙ ap (λ x. Ok (made_so_far x)) (sym after)

pub returns-in-Err-clause-refused : goal.returns-in-Err-clause-refused
returns-in-Err-clause-refused c = λ path.
    let ex = c.args.exchange.now in
    let d = c.args.maker.now.draft in
    let kind = side_kind c.args.side c.in_ok-good.good c.in_ok-units.units in
    let there : c.in_ok-good.good < length ex.goods = c.in_ok-good.ensures.there in
    let goods : c.args.maker.now.goods ≡ length (good_names ex) = rw (length-map ex.goods (λ good. good.name)) (omega arith) in
    let due : draft_refusal c.args.maker.now.goods d kind c.in_ok-lo.lo c.in_ok-hi.hi ≡ Some (tree_fault_number c.in-Err.fault) = search rules in
    leaf_chain (good_names ex) d c.args.side path (view c.args.value.now) c.word.result.now c.in_ok-good.good c.in_ok-units.units c.in_ok-lo.lo c.in_ok-hi.hi c.word.ensures (c.in_ok-good.ensures.reading path) (c.in_ok-units.ensures.reading path) (c.in_ok-lo.ensures.reading path) (c.in_ok-hi.ensures.reading path)
    ∙ unmade (good_names ex) d kind c.in_ok-lo.lo c.in_ok-hi.hi path (tree_fault_number c.in-Err.fault) c.requires.going c.requires.deep (rw goods at due)
    ∙ refused (tree_fault_number c.in-Err.fault) (Tree c.in-Err.fault) c.of.result c.of.ensures refl path
