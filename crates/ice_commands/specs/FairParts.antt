-- What `fair` finds in its file, and what it says of a last settlement.
use Rattle.std.specs.Prelude.{◌≡◌, ℕ, List, []}
use Rattle.ice_edge.specs.declared.status.Status.{Status}
use Rattle.ice_edge.specs.declared.status.Status.TheVariants.{Done, Limit, NoMemory}
use Rattle.ice_edge.specs.Taken.{Taken}
use Rattle.ice_defs.specs.Exchange.{trees_of}
use Rattle.ice_fair.specs.Lasts.{LastTrade}
use Rattle.ice_commands.specs.FairServed.{SaysFair, SaysLimit}
use Rattle.ice_command_parts.specs.Parts.{IsSaid}

-- the bidders' trees are those of the exchange
abbrev pub HasItsTrees : LastTrade → Type 0
HasItsTrees last = last.paid.trees ≡ trees_of last.exchange

abbrev pub IsAnswerTo : LastTrade → List ℕ → Status → Type 0
IsAnswerTo last text Done = SaysFair last text
IsAnswerTo last text Limit = SaysLimit last text
IsAnswerTo last text NoMemory = text ≡ []
IsAnswerTo last text other = ⊥

-- an answer is said of the last settlement
abbrev pub IsFairSaid : LastTrade → Taken → Taken → Status → Type 0
IsFairSaid last old new result = (text : List ℕ) × (status : Status) × IsAnswerTo last text status × IsSaid text status old new result
