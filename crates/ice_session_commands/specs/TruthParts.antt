-- Files of true values: their faults, and what they say.
use Rattle.std.specs.Prelude.{ℕ, ◌≡◌, ◌⊎◌, List, Some, None, Ok, Err}
use Rattle.ice_edge.specs.Told.{Told}
use Rattle.ice_defs.specs.FileFault.{FileFault}
use Rattle.ice_defs.specs.Round.{Submission}
use Rattle.ice_defs.specs.Exchange.{Exchange}
use Rattle.ice_read.specs.RoundFile.{bids_of}
use Rattle.ice_simulation.specs.TruthFile.{truth_fault}
use Rattle.ice_command_parts.specs.Call.{Call, file_limit, OfTold, OfFile}

-- bids that have no fault as true values
abbrev pub AreTruthsOf : Exchange → List ℕ → List Submission → Type 0
AreTruthsOf ex bytes bids = (bids_of bytes ≡ Ok bids) × (truth_fault ex bids ≡ None)

-- a fault of a round file, or of its bids as true values
abbrev pub IsTruthFault : Exchange → List ℕ → FileFault → Type 0
IsTruthFault ex bytes fault =
    (bids_of bytes ≡ Err fault) ⊎ ((bids : List Submission) × (bids_of bytes ≡ Ok bids) × (truth_fault ex bids ≡ Some fault))

-- the file of this name, where it is told, says these true values
abbrev pub HoldsTruths : Told → List ℕ → Exchange → List Submission → Type 0
HoldsTruths shelf name ex bids = OfTold file_limit (λ bytes. AreTruthsOf ex bytes bids) (shelf.holds name)

-- what holds of the true values that the file of this name says
abbrev pub OfTruths : Call → List ℕ → Exchange → (List Submission → Type 0) → Type 0
OfTruths call name ex P = OfFile call name file_limit (λ bytes. (bids : List Submission) × AreTruthsOf ex bytes bids × P bids)
