use Rattle.std.proofs.Common.{rules, ◌≡◌, List, [], map, replicate, length, false, ℤ, pos, sym, ◌∙◌, ap, subst, arith}
use Rattle.std.proofs.lemmas.Int.{to_z-of_z}
use mir.Syntax.{w64}
use mir.Val.{SFits, to_z, of_z}
use Rattle.ice_defs.specs.Tree.{Tree}
use Rattle.ice_defs.specs.Exchange.{trees_of}
use Rattle.ice_defs.specs.Conditions.{AreBoundsOf}
use Rattle.ice_tree.specs.Alike.{HasSetPerTree}
use Rattle.ice_defs.specs.Bounds.{Bounds}
use Rattle.ice_defs.specs.Group.{group_weights}
use Rattle.ice_defs.specs.declared.Group.TheVariants.{Final}
use Rattle.ice_check_records.specs.declared.groups.Groups.{Groups}
use Rattle.ice_check_records.specs.declared.next.Next.{Next}
use Rattle.ice_check_records.specs.Stating.{Stating}
use Rattle.ice_check_records.specs.Openings.{opened_next, opened_value}
use Rattle.ice_check_records.specs.Taking.{Begins}
use Rattle.ice_verdicts.proofs.Bounded.{round_bounds}
use Rattle.ice_check_records.proofs.Walks.{empty_sized}
use Rattle.ice_check_records.proofs.Ending.{begins}
use Rattle.ice_check_records.proofs.groups.Groups.new.Goals as goal

pub weigh-requires-clause-bounds : goal.weigh-requires-clause-bounds
weigh-requires-clause-bounds c =
    let ex = c.args.exchange in
    let o = c.in_ok-offer.offer in
    subst (AreBoundsOf (trees_of ex)) (sym c.bounds.ensures) (round_bounds ex o.judge c.in_ok-offer.ensures.kept.round)

pub weigh-requires-clause-room : goal.weigh-requires-clause-room
weigh-requires-clause-room c =
    let ex = c.args.exchange in
    subst (HasSetPerTree (trees_of ex)) (sym (c.in_ok-final_sets.ensures ∙ ap (λ (ts : List Tree). map (λ (t : Tree). replicate (length t) false) ts) c.trees.ensures.value)) (empty_sized (trees_of ex))

pub returns : goal.returns
returns c =
    let h = c.args.head in
    let ex = c.args.exchange in
    let o = c.args.opening in
    let sets = c.in_ok-final_sets.final_sets in
    let offer = c.in_ok-offer.offer in
    let log = c.weigh.new.self in
    let fits : SFits w64 c.value.result = search rules in
    let value_is : to_z w64 (of_z w64 c.value.result) ≡ opened_value o = to_z-of_z w64 c.value.result fits ∙ c.value.ensures in
    let room : HasSetPerTree (trees_of ex) sets =
    subst (HasSetPerTree (trees_of ex)) (sym (c.in_ok-final_sets.ensures ∙ ap (λ (ts : List Tree). map (λ (t : Tree). replicate (length t) false) ts) c.trees.ensures.value)) (empty_sized (trees_of ex)) in
    let made = λ (now : Next) (stated : Stating) (z : ℤ).
    (let g : Groups = record { head = h; next = now; stated = stated; value = z; number = 0; final_sets = sets; final_value = pos 0; rival = pos 0; regret = pos 0; offer = offer; withouts = c.new-4.result; charge = c.none.result; log = log } in g) in
    subst (λ (now : Next). Begins h ex o (made now c.in_ok-stated.stated (to_z w64 (of_z w64 c.value.result)))) (sym c.next.ensures)
    (subst (λ (s : Stating). Begins h ex o (made (opened_next o) s (to_z w64 (of_z w64 c.value.result)))) (sym c.in_ok-stated.ensures.made)
    (subst (λ (z : ℤ). Begins h ex o (made (opened_next o) (record { exchange = ex; sets = [] }) z)) (sym value_is)
    (begins h ex sets offer c.new-4.result c.none.result log c.trees.ensures.lawful
    (record { lawful = c.trees.ensures.lawful; walk = c.weigh.ensures.walk; room = room; offer = c.in_ok-offer.ensures.kept; number = omega arith })
    c.new-4.ensures c.in_ok-offer.ensures.fresh c.in_ok-offer.ensures.bounds c.none.ensures.cut c.none.ensures.surplus
    (c.weigh.ensures.weights ∙ ap (λ (bs : List Bounds). group_weights ex.settings.weight bs sets Final) c.bounds.ensures) o c.requires)))
