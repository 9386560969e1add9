use Rattle.std.proofs.Common.{◌≡◌, drop, length}
use Rattle.std.specs.List.{AllByRecursion}
use Rattle.ice_refute.specs.Code.{CountsGoods, steps_of}
use Rattle.ice_refute.specs.Waiting.{nodes_of, AreKept}
use Rattle.ice_refute.proofs.Standing.{StandsAt}
use Rattle.ice_refute.proofs.check.check_log.Given as goal

abbrev pub invariant-loop-step : goal.invariant-loop-step
invariant-loop-step l = record {
  number : l.number ≡ l.step-index;
  steps : steps_of l.step-items ≡ l.log;
  goods : AllByRecursion (CountsGoods (length l.fn.desk.room)) (drop l.step-index l.log);
  stands : StandsAt l.trees l.fn.desk.room l.weights l.target l.start l.log l.is_open l.desk.marks l.desk.sides.items l.step-index;
  kept : AreKept l.desk.marks l.desk.sides.items;
  nodes : nodes_of l.desk.marks ≡ nodes_of l.trees;
  exact : l.desk.room ≡ l.fn.desk.room;
}
