use Rattle.std.proofs.Common.{◌<◌, sym, subst, length, []}
use Rattle.std.proofs.lemmas.List.{get_or_default}
use Rattle.ice_defs.specs.Trade.{tree_of, set_of, weights_of, fixing_of}
use Rattle.ice_bound.specs.Kept.{IsNetOf, Stands, net_of}
use Rattle.ice_bound.proofs.Reaching.{stays_found}
use Rattle.ice_bound.proofs.Tables.{found_net, net_at_same}
use Rattle.ice_bound.proofs.beside.Beside.greatest_net.Goals as goal

pub returns-then-stands-clause-net : goal.returns-then-stands-clause-net
returns-then-stands-clause-net c =
    let b = c.args.bidder in
    let ts = c.self.inside.trees.now in
    let sets = c.self.inside.sets.now in
    let g = c.self.inside.good in
    let direction = c.self.inside.direction in
    let there : b < length ts = subst (λ st. b < length st.trees) (sym c.self.view_is) c.requires.bidder in
    let stands : Stands (tree_of ts b) (set_of sets b) g direction (length (tree_of ts b)) =
    subst (λ s. Stands (tree_of ts b) s g direction (length (tree_of ts b))) c.of-set.ensures
    (subst (λ t. Stands t c.of-set.result.now g direction (length t)) (get_or_default ts b c.index-self-place.result [] there) (c.stands.ensures c.if-stands.true)) in
    subst (λ st. IsNetOf (tree_of st.trees b) (weights_of st.weights b) st.moved (fixing_of st.marks b) (net_of c.self.inside.nets.now b)) c.self.view_is
    (found_net (tree_of ts b) (weights_of c.self.inside.weights.now b) c.self.inside.moved.now (fixing_of c.self.inside.marks.now b) (net_of c.self.inside.nets.now b) (set_of sets b)
    (stays_found _ b c.self.invariant there stands))

pub returns-clause-net : goal.returns-clause-net
returns-clause-net c =
    let b = c.args.bidder in
    let ts = c.self.inside.trees.now in
    let ws = c.self.inside.weights.now in
    let xs = c.self.inside.marks.now in
    let there : b < length ts = subst (λ st. b < length st.trees) (sym c.self.view_is) c.requires.bidder in
    subst (λ st. IsNetOf (tree_of st.trees b) (weights_of st.weights b) st.moved (fixing_of st.marks b) c.greatest-net.result) c.self.view_is
    (net_at_same _ (tree_of ts b) _ (weights_of ws b) c.self.inside.moved.now _ (fixing_of xs b) c.greatest-net.result
    (get_or_default ts b c.index-self-place.result [] there) c.of.ensures c.of-2.ensures
    (c.greatest-net.ensures.net _ _ _ _ c.renew_good.ensures))

pub returns-clause-small : goal.returns-clause-small
returns-clause-small c = c.greatest-net.ensures.small _ _ _ _ c.renew_good.ensures
