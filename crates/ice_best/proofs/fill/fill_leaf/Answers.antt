use Rattle.std.proofs.Common.{arith, rules, refl, ◌≡◌, ◌↔◌, true, length, subst, sym}
use mir.Syntax.{w128}
use Rattle.std.proofs.lemmas.Int.{to_z-of_z}
use mir.Val.{SFits}
use Rattle.ice_defs.specs.declared.Mark.TheVariants.{Must}
use Rattle.ice_defs.specs.Tree.{IsInterval, kind_of, least_of, most_of}
use Rattle.ice_defs.specs.Set.{has, weight_of}
use Rattle.ice_defs.specs.Fixing.{mark_of}
use Rattle.ice_best.specs.Table.{IsPick, IsNeededBy}
use Rattle.ice_best.proofs.Leaf.{leaf_pick, leaf_need}
use Rattle.ice_best.proofs.NewEntry.{all_entries, later_roomy}
use Rattle.ice_best.proofs.fill.fill_leaf.Goals as goal

pub returns-clause-entries : goal.returns-clause-entries
returns-clause-entries c =
    let t = c.args.tree.now in
    let n = c.args.node in
    let s = c.args.table.now in
    let mark = c.get-mark.result in
    let weight_fits : SFits w128 c.get.result = search rules in
    let gain_fits : SFits w128 c.opened-open.result.1 = search rules in
    let fits : IsInterval (kind_of t n) 0 = subst (λ cs. IsInterval (kind_of t n) (length cs)) c.requires.leaf (c.requires.tree.interval n c.requires.node) in
    let must : (c.eq-needed.result ≡ true) ↔ (mark ≡ Must) = search rules in
    let picks = rw c.get-mark.ensures at (leaf_pick mark (weight_of s.gain) (has s.needed) (has s.possible) (kind_of t n) (has s.taken) c.pick_leaf.result fits c.pick_leaf.ensures.some c.pick_leaf.ensures.none) in
    let needs = rw c.get-mark.ensures at (leaf_need mark (has s.needed) c.eq-needed.result must) in
    let opens = rw (to_z-of_z w128 c.get.result weight_fits, c.get.ensures.value) at c.opened-open.ensures in
    rw (to_z-of_z w128 c.opened-open.result.1 gain_fits)
    (all_entries t c.args.weights.now c.args.fixing.now s.gain s.needed s.possible s.taken s.taken n
    c.requires.tree c.requires.few c.requires.node (omega arith) (omega arith) (omega arith)
    c.pick_leaf.result c.eq-needed.result c.opened-open.result.0 c.opened-open.result.1
    (subst (λ cs. IsPick (mark_of c.args.fixing.now n) (weight_of s.gain) (has s.needed) (has s.possible) (least_of (kind_of t n)) (most_of (kind_of t n)) cs (has s.taken) c.pick_leaf.result) (sym c.requires.leaf) picks)
    (subst (λ cs. (c.eq-needed.result ≡ true) ↔ IsNeededBy (mark_of c.args.fixing.now n) (has s.needed) cs) (sym c.requires.leaf) needs)
    opens (λ k others. refl)
    (rw c.get.ensures.value at c.get.ensures.small) (later_roomy t c.args.weights.now c.args.fixing.now s n c.requires.tree c.requires.few c.requires.node c.requires.later) c.requires.later)
