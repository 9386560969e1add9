use Rattle.std.proofs.Common.{◌≡◌, length}
use Rattle.ice_search.proofs.workspace.Workspace.dive_from.Given as goal

abbrev pub invariant-loop-place : goal.invariant-loop-place
invariant-loop-place l = record {
  instance : l.self.instance ≡ l.initial.self.instance;
  sets : length l.finds.sets ≡ length l.initial.self.instance.trees;
}
