use Rattle.std.proofs.Common.{◌≡◌, ℕ, List, length, replicate, pos, arith, ap, sym, ◌∙◌}
use Rattle.std.proofs.lemmas.Int.{ints}
use Rattle.ice_defs.specs.Set.{Weights, weight_of}
use Rattle.ice_defs.specs.Trade.{weights_of}
use Rattle.ice_refute.specs.Waiting.{nodes_of}
use Rattle.ice_derived.proofs.Charging.{none_charged, zero_charges, zero_weight, zero_nodes}
use Rattle.ice_derived.proofs.goods.DerivedGoods.with_room.Goals as goal

pub invariant_of-result : goal.invariant_of-result
invariant_of-result c =
    let v = c.in_ok-packed.packed in
    let rows = c.in_ok-charges.charges.items in
    let nodes : nodes_of c.in_ok-charges.charges.items ≡ c.in_ok-packed.packed.nodes = ap nodes_of c.in_ok-charges.ensures ∙ zero_nodes c.args.trees.now ∙ sym c.in_ok-packed.ensures.nodes in
    let each : (b n : ℕ) → weight_of (weights_of c.in_ok-charges.charges.items b) n ≡ pos 0
    = λ b n. ap (λ (ws : List Weights). weight_of (weights_of ws b) n) c.in_ok-charges.ensures ∙ zero_weight c.args.trees.now b n in
    record {
      charges = none_charged v c.in_ok-tolls.tolls.items rows (c.in_ok-tolls.ensures.items ∙ sym (ap (λ gs. replicate (length gs) (pos 0)) c.in_ok-packed.ensures.goods)) nodes (λ b n h l. each b n);
      room = omega (arith, c.in_ok-tolls.ensures.exact, c.in_ok-packed.ensures.most);
      range = rw c.in_ok-tolls.ensures.items (λ k h. absurd (omega (arith, h)));
      small = zero_charges v.nodes rows nodes (λ b n h l. each b n);
      on_limits = record { low = omega (arith, ints); high = omega (arith, ints) };
    }
