use Rattle.std.proofs.Common.{arith, rules, ◌≡◌, ◌≢◌, ◌++◌, ◌∷◌, [], ap, sym, ◌∙◌, subst, reverse}
use Rattle.ice_defs.specs.declared.Mark.TheVariants.{Must}
use Rattle.ice_defs.specs.Fixing.{mark_of}
use Rattle.ice_defs.specs.Trade.{fixing_of}
use Rattle.ice_refute.specs.Waiting.{waiting_sides, AreKept}
use Rattle.ice_refute.proofs.Kept.{kept_last, kept_less, kept_turned, waiting_turned, waiting_less, nodes_of-with_mark}
use Rattle.ice_refute.proofs.sides.leave.Goals as goal

pub returns-then-eq-clause-sides : goal.returns-then-eq-clause-sides
returns-then-eq-clause-sides c =
    let marks = c.loop-bidder.marks in
    let outer = c.pop.new.self.items in
    let items : c.loop-bidder.branches.items ≡ outer ++ (c.in-Some.bidder, c.in-Some.node) ∷ [] = c.in-Some.ensures.items in
    let is_must : c.get.result ≡ Must = search rules in
    let must : mark_of (fixing_of marks c.in-Some.bidder) c.in-Some.node ≡ Must = sym (c.get.ensures ∙ ap (λ x. mark_of x c.in-Some.node) c.of.ensures) ∙ is_must in
    let there = kept_last marks outer (c.in-Some.bidder, c.in-Some.node) (subst (AreKept marks) items c.loop-bidder.invariant.kept) in
    rw (c.mark.ensures, c.push_branch.ensures.items)
    (sym (waiting_turned marks outer (c.in-Some.bidder, c.in-Some.node) there must) ∙ sym (ap (λ b. waiting_sides marks (reverse b)) items) ∙ c.loop-bidder.invariant.waits)

pub returns-then-eq-clause-kept : goal.returns-then-eq-clause-kept
returns-then-eq-clause-kept c =
    let marks = c.loop-bidder.marks in
    let outer = c.pop.new.self.items in
    let items : c.loop-bidder.branches.items ≡ outer ++ (c.in-Some.bidder, c.in-Some.node) ∷ [] = c.in-Some.ensures.items in
    let is_must : c.get.result ≡ Must = search rules in
    let must : mark_of (fixing_of marks c.in-Some.bidder) c.in-Some.node ≡ Must = sym (c.get.ensures ∙ ap (λ x. mark_of x c.in-Some.node) c.of.ensures) ∙ is_must in
    rw (c.mark.ensures, c.push_branch.ensures.items)
    (kept_turned marks outer (c.in-Some.bidder, c.in-Some.node) must (subst (AreKept marks) items c.loop-bidder.invariant.kept))

pub returns-then-eq-clause-nodes : goal.returns-then-eq-clause-nodes
returns-then-eq-clause-nodes c = rw c.mark.ensures (nodes_of-with_mark c.loop-bidder.marks c.in-Some.bidder c.in-Some.node _ ∙ c.loop-bidder.invariant.nodes)

pub loop-bidder-preserved : goal.loop-bidder-preserved
loop-bidder-preserved c =
    let marks = c.loop-bidder.marks in
    let outer = c.pop.new.self.items in
    let items : c.loop-bidder.branches.items ≡ outer ++ (c.in-Some.bidder, c.in-Some.node) ∷ [] = c.in-Some.ensures.items in
    let is_other : c.get.result ≢ Must = search rules in
    let other : mark_of (fixing_of marks c.in-Some.bidder) c.in-Some.node ≢ Must =
    λ e. is_other ((c.get.ensures ∙ ap (λ x. mark_of x c.in-Some.node) c.of.ensures) ∙ e) in
    rw c.mark-in-Some.ensures (record {
      waits = sym (waiting_less marks outer (c.in-Some.bidder, c.in-Some.node) other) ∙ sym (ap (λ b. waiting_sides marks (reverse b)) items) ∙ c.loop-bidder.invariant.waits;
      kept = kept_less marks outer (c.in-Some.bidder, c.in-Some.node) (subst (AreKept marks) items c.loop-bidder.invariant.kept);
      nodes = nodes_of-with_mark marks c.in-Some.bidder c.in-Some.node _ ∙ c.loop-bidder.invariant.nodes;
      room = omega arith;
    })
