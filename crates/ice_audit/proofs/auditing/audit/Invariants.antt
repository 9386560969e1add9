use Rattle.std.proofs.Common.{◌+◌, ◌≤◌, length}
use Rattle.ice_audit.specs.Auditing.{IsKeptAt}
use Rattle.ice_audit.proofs.Walked.{HasRead}
use Rattle.ice_audit.proofs.auditing.audit.Given as goal

abbrev pub invariant-loop-text : goal.invariant-loop-text
invariant-loop-text l = record {
  kept : IsKeptAt l.standing;
  few : l.number + length l.rest ≤ length l.bytes + 1;
  read : HasRead l.bytes l.rest l.number l.standing;
}

abbrev pub decreases-loop-text : goal.decreases-loop-text
decreases-loop-text l = length l.rest
