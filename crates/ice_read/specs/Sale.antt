-- What the refusal of a sale above what is owned tells of an exchange file.
use Rattle.std.specs.Prelude.{◌≡◌, ℕ, ℤ, List, [], ◌∷◌, ◌++◌, length, map, codes, decimal, Some, Ok}
use Rattle.serde_json.specs.Data.{Data, Items}
use Rattle.serde_json.specs.Find.{get_item}
use Rattle.ice_defs.specs.Exchange.{Good, Bidder}
use Rattle.ice_defs.specs.FileFault.{Path}
use Rattle.ice_trade.specs.declared.faults.MakeFault.TheVariants.{OverSale}
use Rattle.ice_trade.specs.Fault.{TellsSale}
use Rattle.ice_read.specs.declared.fault.ReadFault.{ReadFault}
use Rattle.ice_read.specs.declared.cause.ReadCause.TheVariants.{Make}
use Rattle.ice_read.specs.Values.{value_of, array_of, member_or_null, of_member}
use Rattle.ice_read.specs.ExchangeFile.{goods_at, bidder_at}
use Rattle.ice_read.specs.Places.{dotted_text}

-- a fault for a sale tells this of its place, of the good that it names and of the amount
abbrev pub TellsOfSale : (List ℕ → ℕ → ℤ → Type 0) → ReadFault → Type 0
TellsOfSale IsSold fault = (good : ℕ) (amount : ℤ) → fault.cause ≡ Make (OverSale good amount) → IsSold fault.place good amount

-- the value is a bidder who may sell so much of the good, more
-- than it owns; there is no lesser good of which it may
pub record IsSaleOf (goods : List Good) (d : Data) (place : List ℕ) (good : ℕ) (amount : ℤ) : Type 0 where
  pub bidder : Bidder
  pub read : (path : Path) → bidder_at (map (λ g. g.name) goods) path d ≡ Ok bidder
  pub sale : TellsSale (OverSale good amount) (length goods) bidder.tree bidder.own
  pub here : place ≡ []

-- an element of the array is
pub record IsSaleAmong (goods : List Good) (d : Data) (place : List ℕ) (good : ℕ) (amount : ℤ) : Type 0 where
  pub items : Items
  pub read : (path : Path) → array_of path d ≡ Ok items
  pub index : ℕ
  pub element : Data
  pub stands : get_item index items ≡ Some element
  pub sale : IsSaleOf goods element [] good amount
  pub here : place ≡ dotted_text (decimal index ∷ [])

-- an element of the array in this member is
pub record IsSaleUnder (goods : List Good) (name : List ℕ) (d : Data) (place : List ℕ) (good : ℕ) (amount : ℤ) : Type 0 where
  pub below : List ℕ
  pub sale : IsSaleAmong goods (member_or_null name d) below good amount
  pub here : place ≡ (46 ∷ name) ++ below

-- one of the file's bidders is, by the file's goods
pub record IsSaleIn (file : Data) (place : List ℕ) (good : ℕ) (amount : ℤ) : Type 0 where
  pub goods : List Good
  pub read : of_member [] file (codes "goods") goods_at ≡ Ok goods
  pub sale : IsSaleUnder goods (codes "bidders") file place good amount

abbrev pub IsSaleOfBytes : List ℕ → List ℕ → ℕ → ℤ → Type 0
IsSaleOfBytes bytes place good amount = (file : Data) × (value_of bytes ≡ Some file) × IsSaleIn file place good amount
