use Rattle.std.proofs.Common.{arith, ◌<◌, ◌∙◌, ap, sym, length}
use Rattle.std.proofs.lemmas.List.{length-set}
use Rattle.ice_bound.proofs.Copying.{same_nodes-set, copied_more, copied_all}
use Rattle.ice_bound.proofs.copy.copy_fixings.Goals as goal

pub copy_fixing-requires-clause-nodes : goal.copy_fixing-requires-clause-nodes
copy_fixing-requires-clause-nodes c =
    let here : c.loop-bidder.bidder < length c.args.from.now = omega arith in
    ap length c.of.ensures ∙ c.loop-bidder.invariant.nodes c.loop-bidder.bidder here

pub loop-bidder-preserved : goal.loop-bidder-preserved
loop-bidder-preserved c =
    let i = c.loop-bidder.invariant in
    let b = c.loop-bidder.bidder in
    let here : b < length c.args.from.now = omega arith in
    let there : b < length c.loop-bidder.marks = omega (arith, i.bidders, here) in
    let size = ap length c.of.ensures ∙ i.nodes b here in
    rw c.copy_fixing.ensures (record {
      bidders = i.bidders ∙ sym (length-set c.loop-bidder.marks b c.of.result.now);
      nodes = λ k h. i.nodes k h ∙ sym (same_nodes-set c.loop-bidder.marks b c.of.result.now there size k);
      copied = copied_more c.loop-bidder.marks c.args.from.now b c.of.result.now there c.of.ensures i.copied;
    })

pub returns : goal.returns
returns c = copied_all c.loop-bidder.marks c.args.from.now c.loop-bidder.invariant.bidders (λ b h. c.loop-bidder.invariant.copied b (omega arith))
