use Rattle.std.proofs.Common.{◌≡◌, length, reverse}
use Rattle.ice_section.specs.Section.{complete}
use Rattle.ice_section.specs.Kept.{open_nodes, AreKept}
use Rattle.ice_section.proofs.draft.complete.Given as goal

abbrev pub invariant-loop-to_come : goal.invariant-loop-to_come
invariant-loop-to_come l = record {
  same : l.maker ≡ record l.initial.maker { draft = record l.initial.maker.draft { opened = l.maker.draft.opened } };
  kept : AreKept l.initial.maker.draft.tree l.maker.draft.opened (reverse l.to_come.items);
  done : complete (open_nodes l.initial.maker.draft.tree 1 l.initial.maker.draft.opened (reverse l.initial.to_come.items)) ≡ complete (open_nodes l.initial.maker.draft.tree 1 l.maker.draft.opened (reverse l.to_come.items));
}

abbrev pub decreases-loop-to_come : goal.decreases-loop-to_come
decreases-loop-to_come l = length l.to_come.items
