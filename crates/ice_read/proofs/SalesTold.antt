-- What a refused sale tells of a file, from the bidder to the bytes.
use Rattle.std.proofs.Common.{◌≡◌, ◌≢◌, ℕ, ◌<◌, ℤ, List, [], ◌∷◌, ◌++◌, length, get_or, Bool, true, false, cond, map, Option, Some, None, refl, sym, ap, subst, ◌∙◌, arith}
use Rattle.std.specs.Prelude.{Ok, Err, codes, decimal, unwrap_or}
use Rattle.serde_json.specs.Data.{Data}
use Rattle.serde_json.specs.View.{view, items_view}
use Rattle.serde_json.specs.declared.value.Value.{Value}
use Rattle.serde_json.proofs.Views.{get_item_within}
use Rattle.ice_defs.specs.Exchange.{Good, Bidder}
use Rattle.ice_defs.specs.FileFault.{Path, Read}
use Rattle.ice_defs.specs.Making.{exchange_refusal}
use Rattle.ice_trade.specs.declared.faults.MakeFault.{MakeFault}
use Rattle.ice_trade.specs.declared.faults.MakeFault.TheVariants.{OverSale}
use Rattle.ice_trade.specs.Fault.{make_fault_number, TellsSale}
use Rattle.ice_read.specs.declared.fault.ReadFault.{ReadFault}
use Rattle.ice_read.specs.declared.cause.ReadCause.TheVariants.{NotJson, Shape, Make, NoMemory}
use Rattle.ice_read.specs.Values.{at_member, array_of, member_or_null, of_member}
use Rattle.ice_read.specs.Fault.{fault_at, IsFault}
use Rattle.ice_read.proofs.FaultNumbers.{IsPlain, array_plain, no_sale}
use Rattle.ice_read.specs.ExchangeFile.{goods_at, bidder_at}
use Rattle.ice_read.specs.Sale.{TellsOfSale, IsSaleOf, IsSaleAmong, IsSaleUnder, IsSaleIn}

-- a fault of another cause tells of no sale
pub no_sale_told : (IsSold : List ℕ → ℕ → ℤ → Type 0) (fault : ReadFault) → ((good : ℕ) (amount : ℤ) → fault.cause ≢ Make (OverSale good amount)) → TellsOfSale IsSold fault
no_sale_told IsSold fault other good amount e = absurd (other good amount e)

pub shape_is_no_sale : (IsSold : List ℕ → ℕ → ℤ → Type 0) (fault : ReadFault) → fault.cause ≡ Shape → TellsOfSale IsSold fault
shape_is_no_sale IsSold fault is = no_sale_told IsSold fault (λ good amount e. cc (is, e))

-- a bidder that the maker refuses
pub sale_of : (goods : List Good) (d : Data) (b : Bidder) (fault : MakeFault) (outer : ReadFault) → ((path : Path) → bidder_at (map (λ g. g.name) goods) path d ≡ Ok b) → TellsSale fault (length goods) b.tree b.own
    → outer ≡ record { place = []; cause = Make fault } → TellsOfSale (IsSaleOf goods d) outer
sale_of goods d b fault outer read told is good amount e =
    let cause : outer.cause ≡ Make fault = ap (λ (f : ReadFault). f.cause) is in
    let same : fault ≡ OverSale good amount = cc (cause, e) in
    record {
      bidder = b;
      read = read;
      sale = subst (λ (f : MakeFault). TellsSale f (length goods) b.tree b.own) same told;
      here = ap (λ (f : ReadFault). f.place) is;
    }

pub sale_among : (goods : List Good) (d : Data) (vs : List Value) (v : Value) (i : ℕ) (inner outer : ReadFault) → ((path : Path) → array_of path d ≡ Ok (items_view vs)) → i < length vs → get_or vs i v ≡ v → TellsOfSale (IsSaleOf goods (view v)) inner
    → outer ≡ record { place = (46 ∷ decimal i) ++ inner.place; cause = inner.cause } → TellsOfSale (IsSaleAmong goods d) outer
sale_among goods d vs v i inner outer read within stands told is good amount e =
    let sold = told good amount (sym (ap (λ (f : ReadFault). f.cause) is) ∙ e) in
    record {
      items = items_view vs;
      read = read;
      index = i;
      element = view v;
      stands = sym (get_item_within vs i v within) ∙ ap (λ x. Some (view x)) stands;
      sale = record { bidder = sold.bidder; read = sold.read; sale = sold.sale; here = refl };
      here = ap (λ (f : ReadFault). f.place) is ∙ ap (λ place. (46 ∷ decimal i) ++ place) sold.here;
    }

pub sale_under : (goods : List Good) (name : List ℕ) (d found : Data) (inner outer : ReadFault) → found ≡ member_or_null name d → TellsOfSale (IsSaleAmong goods found) inner
    → outer ≡ record { place = (46 ∷ name) ++ inner.place; cause = inner.cause } → TellsOfSale (IsSaleUnder goods name d) outer
sale_under goods name d found inner outer is_member told is good amount e =
    let sold = told good amount (sym (ap (λ (f : ReadFault). f.cause) is) ∙ e) in
    record {
      below = inner.place;
      sale = subst (λ (x : Data). IsSaleAmong goods x inner.place good amount) is_member sold;
      here = ap (λ (f : ReadFault). f.place) is;
    }

pub sale_in : (file : Data) (goods : List Good) (fault : ReadFault) → of_member [] file (codes "goods") goods_at ≡ Ok goods → TellsOfSale (IsSaleUnder goods (codes "bidders") file) fault → TellsOfSale (IsSaleIn file) fault
sale_in file goods fault read told good amount e = record { goods = goods; read = read; sale = told good amount e }

-- a fault of a member whose faults have other numbers
pub member_is_no_sale : {X : Type 0} (IsSold : List ℕ → ℕ → ℤ → Type 0) (name : List ℕ) (read : Path → Data → Read X) → ((path : Path) (d : Data) → IsPlain (read path d)) → (d : Data) (fault outer : ReadFault) → outer ≡ fault
    → of_member [] d name read ≡ Err (fault_at [] fault) → TellsOfSale IsSold outer
member_is_no_sale IsSold name read plain d fault outer same is =
    rw same (no_sale_told IsSold fault (no_sale (read (at_member [] name) (member_or_null name d)) [] fault (plain (at_member [] name) (member_or_null name d)) is))

array_is_no_sale_at : (IsSold : List ℕ → ℕ → ℤ → Type 0) (d : Data) (fault outer : ReadFault) → outer ≡ fault → array_of [] d ≡ Err (fault_at [] fault) → TellsOfSale IsSold outer
array_is_no_sale_at IsSold d fault outer same is = rw same (no_sale_told IsSold fault (no_sale (array_of [] d) [] fault (array_plain [] d) is))

pub array_is_no_sale : (IsSold : List ℕ → ℕ → ℤ → Type 0) (d : Data) (fault outer : ReadFault) → outer ≡ fault → IsFault fault (λ path. array_of path d) → TellsOfSale IsSold outer
array_is_no_sale IsSold d fault outer same is = array_is_no_sale_at IsSold d fault outer same (is [])

-- an exchange is refused where it is empty alone
empty_alone : (a : Bool) → cond {A = Option ℕ} a (Some 16) None ≢ Some 14
empty_alone true e = let n : ◌≡◌ {A = ℕ} 16 14 = ap (λ (o : Option ℕ). unwrap_or o 0) e in omega arith
empty_alone false e = let n : ◌≡◌ {A = ℕ} 0 14 = ap (λ (o : Option ℕ). unwrap_or o 0) e in omega arith

pub finish_is_no_sale : (IsSold : List ℕ → ℕ → ℤ → Type 0) (goods : List Good) (bidders : List Bidder) (fault : MakeFault) (outer : ReadFault) → exchange_refusal goods bidders ≡ make_fault_number fault → outer ≡ record { place = []; cause = Make fault } → TellsOfSale IsSold outer
finish_is_no_sale IsSold goods bidders fault outer due is = no_sale_told IsSold outer (λ good amount e.
    let cause : outer.cause ≡ Make fault = ap (λ (f : ReadFault). f.cause) is in
    let same : fault ≡ OverSale good amount = cc (cause, e) in
    empty_alone _ (due ∙ ap make_fault_number same))

-- a file without a value
pub no_value : (IsSold : List ℕ → ℕ → ℤ → Type 0) (fault : ReadFault) → (fault.cause ≢ NoMemory → fault.cause ≡ NotJson) → TellsOfSale IsSold fault
no_value IsSold fault other = no_sale_told IsSold fault (λ good amount e.
    let is : fault.cause ≡ NotJson = other (λ memory. cc (memory, e)) in
    cc (is, e))
