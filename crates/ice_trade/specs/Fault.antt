-- The refusals of an exchange's maker, by their numbers.
use Rattle.std.specs.Prelude.{ℕ, ◌≡◌, List, Option, Some, None, IsSome, Result, Ok, Err}
use Rattle.ice_defs.specs.Tree.{Tree}
use Rattle.ice_defs.specs.Sale.{greatest_sale}
use Rattle.ice_defs.specs.Making.{over_sale}
use Rattle.ice_trade.specs.declared.faults.MakeFault.{MakeFault}
use Rattle.ice_trade.specs.declared.faults.MakeFault.TheVariants.{DuplicateGood, DuplicateBidder, TooMany, BadName, OverSale, Empty, Late}
use Rattle.ice_trade.specs.declared.faults.MakeFault.TheVariants.{NoMemory}

-- want of memory has no number
abbrev pub make_fault_number : MakeFault → Option ℕ
make_fault_number DuplicateGood = Some 10
make_fault_number DuplicateBidder = Some 11
make_fault_number TooMany = Some 12
make_fault_number BadName = Some 13
make_fault_number (OverSale good amount) = Some 14
make_fault_number Empty = Some 16
make_fault_number Late = Some 17
make_fault_number NoMemory = None

-- a call is refused exactly where a refusal is due, and
-- with its number, so never for want of memory
abbrev pub RefusedBy : {T : Type 0} → Result T MakeFault → Option ℕ → Type 0
RefusedBy (Ok x) due = due ≡ None
RefusedBy (Err fault) due = (due ≡ make_fault_number fault) × IsSome due

-- a refused sale names the least good of which more may be sold than is owned, and how much of it
abbrev pub TellsSale : MakeFault → ℕ → Tree → List ℕ → Type 0
TellsSale (OverSale good amount) goods t own = (over_sale goods t own ≡ Some good) × (amount ≡ greatest_sale t good)
TellsSale DuplicateGood goods t own = Unit {0}
TellsSale DuplicateBidder goods t own = Unit {0}
TellsSale TooMany goods t own = Unit {0}
TellsSale BadName goods t own = Unit {0}
TellsSale Empty goods t own = Unit {0}
TellsSale Late goods t own = Unit {0}
TellsSale NoMemory goods t own = Unit {0}
