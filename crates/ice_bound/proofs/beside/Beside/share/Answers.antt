use Rattle.std.proofs.Common.{arith, rules, ◌<◌, ◌≡◌, ◌∙◌, ap, sym, subst, length, Some, [], w64}
use Rattle.std.proofs.lemmas.Int.{ints, to_z-of_z}
use Rattle.std.proofs.lemmas.List.{get_or_default}
use mir.Syntax.{w128}
use mir.Val.{SFits}
use Rattle.ice_defs.specs.Set.{units}
use Rattle.ice_defs.specs.Trade.{tree_of, set_of, weights_of, fixing_of}
use Rattle.ice_bound.specs.Beside.{less_cost, IsShare}
use Rattle.ice_bound.specs.Kept.{IsSmallNet, net_of}
use Rattle.ice_bound.proofs.Totals.{total_fits}
use Rattle.ice_bound.proofs.Reaching.{not_none, share_is}
use Rattle.ice_bound.proofs.Tables.{found_net}
use Rattle.ice_bound.proofs.beside.Beside.share.Goals as goal

pub unreachable-requires : goal.unreachable-requires
unreachable-requires c =
    let b = c.args.bidder in
    let there : b < length c.self.inside.trees.now = subst (λ st. b < length st.trees) (sym c.self.view_is) c.requires in
    let t = tree_of c.self.inside.trees.now b in
    let w = weights_of c.self.inside.weights.now b in
    let x = fixing_of c.self.inside.marks.now b in
    let net = net_of c.self.inside.nets.now b in
    not_none t w c.self.inside.m.now x net (found_net t w c.self.inside.m.now x net (set_of c.self.inside.sets.now b) (c.self.invariant.found.each b there)) (c.self.invariant.live b there) c.in_default.not-Some

pub returns : goal.returns
returns c =
    let b = c.args.bidder in
    let ts = c.self.inside.trees.now in
    let sets = c.self.inside.sets.now in
    let g = c.self.inside.good in
    let there : b < length ts = subst (λ st. b < length st.trees) (sym c.self.view_is) c.requires in
    let (net_low, net_high) : IsSmallNet (Some c.in-Some.net) = subst IsSmallNet c.in-Some.is (c.self.invariant.found.small b there) in
    let net_fits : SFits w128 c.in-Some.net = total_fits _ (omega (arith, ints, net_low)) (omega (arith, ints, net_high)) in
    let units_fit : SFits w64 c.units_of_set-units.result = search rules in
    let tree = get_or_default ts b c.index-self-place.result [] there in
    let same_units : c.units_of_set-units.result ≡ units (tree_of ts b) (set_of sets b) g =
    c.units_of_set-units.ensures.value ∙ ap (λ t. units t c.of.result.now g) tree ∙ ap (λ s. units (tree_of ts b) s g) c.of.ensures in
    let value : c.after_cost.result ≡ less_cost c.self.inside.direction c.in-Some.net c.units_of_set-units.result =
    rw (to_z-of_z w128 c.in-Some.net net_fits, to_z-of_z w64 c.units_of_set-units.result units_fit) at c.after_cost.ensures.value in
    let low = c.after_cost.ensures.low in
    let high = c.after_cost.ensures.high in
    let fits : SFits w128 c.after_cost.result = total_fits _ (omega (arith, ints, low)) (omega (arith, ints, high)) in
    rw (to_z-of_z w128 c.after_cost.result fits) (subst (λ st. IsShare st b c.after_cost.result) c.self.view_is
    (share_is _ b c.self.invariant there c.in-Some.net c.after_cost.result c.in-Some.is (value ∙ ap (λ u. less_cost c.self.inside.direction c.in-Some.net u) same_units) low high))
