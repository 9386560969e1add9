-- The nodes that a log branches at.
use Rattle.std.specs.Prelude.{List, [], ◌∷◌}
use Rattle.std.specs.List.{flat_map}
use Rattle.ice_defs.specs.Steps as steps
use Rattle.ice_defs.specs.Steps.{branch, leaf, dead}
use Rattle.ice_relaxation.specs.declared.candidates.Candidate.{Candidate}

-- the node of a branch step, and no other step has one
abbrev pub branch_of : steps.Step → List Candidate
branch_of (branch b n) = record { bidder = b; node = n } ∷ []
branch_of (leaf m) = []
branch_of (dead b) = []

-- the nodes that a log branches at, in order
abbrev pub branches_of : List steps.Step → List Candidate
branches_of log = flat_map branch_of log
