-- Why flat bids are not translated.
use Rattle.std.specs.Prelude.{ℕ, ◌≡◌, [], false, length, slice_index_or, Option, Some, None, IsSome, Result, Ok, Err}
use Rattle.ice_tree.specs.Fault.{tree_fault_number}
use Rattle.ice_trade.specs.Fault.{make_fault_number, TellsSale}
use Rattle.ice_xor.specs.declared.faults.MakerFault.{MakerFault}
use Rattle.ice_xor.specs.declared.faults.MakerFault.TheVariants.{Tree, Make}
use Rattle.ice_xor.specs.declared.faults.TranslateFault.{TranslateFault}
use Rattle.ice_xor.specs.declared.faults.TranslateFault.TheVariants.{Refused, NoMemory}
use Rattle.ice_xor.specs.Translating.{Refusal}
use Rattle.ice_xor.specs.FlatBids.{FlatBidder, FlatExchange, flat_tree}

abbrev pub maker_fault_number : MakerFault → Option ℕ
maker_fault_number (Tree fault) = Some (tree_fault_number fault)
maker_fault_number (Make fault) = make_fault_number fault

-- a refusal of this number is due, of this bidder; want of memory is free
abbrev pub IsTranslateFault : Option Refusal → TranslateFault → Type 0
IsTranslateFault due (Refused bidder cause) = (number : ℕ) × (maker_fault_number cause ≡ Some number)
    × (due ≡ Some (record { bidder = bidder; fault = number }))
IsTranslateFault due NoMemory = Unit {0}

-- a bidder is refused exactly where a refusal is due, and with its number
abbrev pub IsRefusedBy : {T : Type 0} → Result T MakerFault → Option ℕ → Type 0
IsRefusedBy (Ok x) due = due ≡ None
IsRefusedBy (Err fault) due = IsSome due × (due ≡ maker_fault_number fault)

-- a refused sale names the least good of which the packages
-- may sell more than is owned, and how much of it
abbrev pub TellsSaleOf : ℕ → FlatBidder → MakerFault → Type 0
TellsSaleOf goods b (Tree fault) = Unit {0}
TellsSaleOf goods b (Make fault) = TellsSale fault goods (flat_tree b) b.own

abbrev pub no_bidder : FlatBidder
no_bidder = record { name = []; own = []; any = false; packages = [] }

-- so does a refused translation, of the bidder that it names
abbrev pub TellsItsSale : FlatExchange → TranslateFault → Type 0
TellsItsSale flat (Refused bidder cause) = TellsSaleOf (length flat.goods) (slice_index_or flat.bidders bidder no_bidder) cause
TellsItsSale flat NoMemory = Unit {0}
