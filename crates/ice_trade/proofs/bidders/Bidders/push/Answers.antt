use Rattle.std.proofs.Common.{rules, arith, ◌≡◌, ◌<◌, ◌++◌, ◌∷◌, [], ◌∙◌, ap, length}
use Rattle.std.proofs.lemmas.List.{length_push}
use Rattle.ice_defs.specs.Making.{node_count}
use Rattle.ice_trade.specs.Parts.{bidders_from}
use Rattle.ice_trade.proofs.Aligning.{bidders_count, bidders_push, nodes_push}
use Rattle.ice_trade.proofs.bidders.Bidders.push.Goals as goal

pub invariant_of-self : goal.invariant_of-self
invariant_of-self c =
    let was = c.self.invariant in
    let names : c.push.new.self.items ≡ c.self.inside.names.items ++ c.args.name ∷ [] = search rules in
    let count = bidders_count c.self.inside.names.items c.self.inside.owned.items c.self.inside.trees.items c.self.inside.bounds.items was.owned was.trees was.bounds in
    let few : length c.self.inside.names.items < 40 = omega (arith, count, ap length c.self.view_is, c.requires.room) in
    let names_more = ap length names ∙ length_push c.self.inside.names.items c.args.name in
    let owned : c.push-2.new.self.items ≡ c.self.inside.owned.items ++ c.args.own.now ∷ [] = search rules in
    let trees : c.push-3.new.self.items ≡ c.self.inside.trees.items ++ c.args.tree ∷ [] = search rules in
    let bounds : c.push-4.new.self.items ≡ c.self.inside.bounds.items ++ c.args.bounds ∷ [] = search rules in
    let owned_more = ap length owned ∙ length_push c.self.inside.owned.items c.args.own.now in
    let trees_more = ap length trees ∙ length_push c.self.inside.trees.items c.args.tree in
    let bounds_more = ap length bounds ∙ length_push c.self.inside.bounds.items c.args.bounds in
    let pushed =
    ap (λ l. bidders_from l c.push-2.new.self.items c.push-3.new.self.items c.push-4.new.self.items) names
    ∙ ap (λ l. bidders_from (c.self.inside.names.items ++ c.args.name ∷ []) l c.push-3.new.self.items c.push-4.new.self.items) owned
    ∙ ap (λ l. bidders_from (c.self.inside.names.items ++ c.args.name ∷ []) (c.self.inside.owned.items ++ c.args.own.now ∷ []) l c.push-4.new.self.items) trees
    ∙ ap (λ l. bidders_from (c.self.inside.names.items ++ c.args.name ∷ []) (c.self.inside.owned.items ++ c.args.own.now ∷ []) (c.self.inside.trees.items ++ c.args.tree ∷ []) l) bounds
    ∙ bidders_push c.self.inside.names.items c.self.inside.owned.items c.self.inside.trees.items c.self.inside.bounds.items c.args.name c.args.own.now c.args.tree c.args.bounds was.owned was.trees was.bounds in
    let nodes = ap node_count pushed ∙ nodes_push (bidders_from c.self.inside.names.items c.self.inside.owned.items c.self.inside.trees.items c.self.inside.bounds.items) _ in
    record {
      owned = omega (arith, names_more, owned_more, was.owned);
      trees = omega (arith, names_more, trees_more, was.trees);
      bounds = omega (arith, names_more, bounds_more, was.bounds);
      few = omega (arith, names_more, few);
      names_room = omega (arith, was.names_room, c.push.ensures.capacity);
      owned_room = omega (arith, was.owned_room, c.push-2.ensures.capacity);
      trees_room = omega (arith, was.trees_room, c.push-3.ensures.capacity);
      bounds_room = omega (arith, was.bounds_room, c.push-4.ensures.capacity);
      nodes = omega (arith, nodes, was.nodes, c.nodes.ensures.value);
      few_nodes = omega (arith, was.nodes, ap node_count c.self.view_is, c.nodes.ensures.value, c.requires.nodes);
    }
