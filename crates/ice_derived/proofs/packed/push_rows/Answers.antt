use Rattle.std.proofs.Common.{◌≡◌, ◌<◌, length, sum, take, get_or, [], arith, ap, sym, ◌∙◌}
use Rattle.std.proofs.lemmas.List.{length-append, length-map}
use Rattle.std.proofs.lemmas.List.Folds.{length-flat_map-take}
use Rattle.ice_defs.specs.Set.{Weights}
use Rattle.ice_derived.specs.Packing.{joined}
use Rattle.ice_derived.proofs.Rows.{length-joined, node_count}
use Rattle.ice_derived.proofs.packed.push_rows.Goals as goal

pub push_row-requires-clause-room : goal.push_row-requires-clause-room
push_row-requires-clause-room c =
    let ws = c.args.amounts.now in
    let b = c.loop-bidder.bidder in
    let size : length c.args.amounts.now ≡ length c.args.nodes.now = sym (length-map ws (λ (w : Weights). length w)) ∙ ap length c.requires.nodes in
    let here : length (get_or c.args.amounts.now c.loop-bidder.bidder []) ≡ get_or c.args.nodes.now c.loop-bidder.bidder 0 = sym (node_count ws b) ∙ ap (λ ns. get_or ns b 0) c.requires.nodes in
    let inside : c.loop-bidder.bidder < length c.args.amounts.now = omega (arith, size) in
    let fits = length-flat_map-take (λ (w : Weights). w) ws b [] inside in
    let all : length (joined c.args.amounts.now) ≡ sum c.args.nodes.now = length-joined ws ∙ ap sum c.requires.nodes in
    let sizes = length-append c.args.numbers.now.items (joined (take b ws)) in
    let items = ap length c.loop-bidder.invariant.items in
    omega (arith, here, fits, all, sizes, items, c.loop-bidder.invariant.capacity, c.requires.room, c.loop-bidder.numbers.ok.0, c.args.numbers.now.ok.0)
