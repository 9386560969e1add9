use Rattle.std.proofs.Common.{◌≡◌, drop}
use Rattle.ice_derivation.specs.Numbers.{changed, AreTolls}
use Rattle.ice_derivation.proofs.walk.TollWalk.change.Given as goal

abbrev pub invariant-loop-change : goal.invariant-loop-change
invariant-loop-change l = record {
  changed_so : changed l.self.numbers (drop l.change-index l.changes) ≡ changed l.initial.self.numbers l.changes;
  others : l.self ≡ record l.initial.self { numbers = l.self.numbers };
  in_range : AreTolls (drop l.change-index l.changes);
}
