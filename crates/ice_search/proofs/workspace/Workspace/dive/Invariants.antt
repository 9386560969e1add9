use Rattle.std.proofs.Common.{◌≡◌, length}
use Rattle.ice_defs.specs.Conditions.{AreMultipliersOf}
use Rattle.ice_search.proofs.workspace.Workspace.dive.Given as goal

abbrev pub invariant-loop-level : goal.invariant-loop-level
invariant-loop-level l = record {
  instance : l.self.instance ≡ l.initial.self.instance;
  sets : length l.finds.sets ≡ length l.initial.self.instance.trees;
  lawful : AreMultipliersOf l.initial.self.instance.exact l.m;
}
