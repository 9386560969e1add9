use Rattle.std.proofs.Common.{◌≡◌, sym, ◌∙◌, Option, Some, None}
use Rattle.std.specs.Option.{is_some}
use Rattle.std.specs.Prelude.{IfNone, false}
use borrow.Author.Count.{below_more}
use Rattle.ice_relaxation.specs.declared.candidates.Candidate.{Candidate}
use Rattle.ice_search.specs.Nodes.{HasNoNodeOf}
use Rattle.ice_search.proofs.Splitting.{same_still, none_back}
use Rattle.ice_search.proofs.node.find.Goals as goal

is_none : (o : Option Candidate) (P : Type 0) → IfNone o P → is_some o ≡ false → P
is_none None P p e = p
is_none (Some x) P p e = absurd (cc)

pub loop-bidder-preserved : goal.loop-bidder-preserved
loop-bidder-preserved c = record {
  same = same_still c.args.kept.now c.loop-bidder.kept c.find_in_tree-found.new.kept c.loop-bidder.invariant.same c.find_in_tree-found.ensures.same;
  last = c.loop-bidder.invariant.last;
  none = below_more _ _ c.loop-bidder.invariant.none
      (λ n. none_back c.args.kept.now c.loop-bidder.kept c.loop-bidder.bidder n c.loop-bidder.invariant.same
      (is_none c.find_in_tree-found.result (HasNoNodeOf c.loop-bidder.kept.trees c.loop-bidder.kept.marks c.loop-bidder.bidder) c.find_in_tree-found.ensures.none (sym c.is_some.ensures ∙ c.if-is_some.false) n));
}
