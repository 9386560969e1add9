-- What is read of the parts of a round file, step by step.
use Rattle.std.proofs.Common.{◌≡◌, ℕ, suc, ◌+◌, ◌<◌, ◌≤◌, true, false, cond, ltb, List, [], ◌∷◌, ◌++◌, length, get_or, ℤ, pos, neg_ℤ, Ok, Err, refl, sym, ap, ◌∙◌, append-nil, length-append}
use Rattle.std.specs.Prelude.{codes, decimal, IsTrue}
use Rattle.std.specs.List.{list_all}
use Rattle.std.proofs.lemmas.Bool.{lt-ltb, le-ltb, and_from, cond-true, cond-false, false_from_ne_true}
use Rattle.std.proofs.lemmas.List.{length_push}
use Rattle.std.proofs.lemmas.List.Folds.{list_all-append}
use Rattle.serde_json.specs.Data.{Data, null, Items}
use Rattle.serde_json.specs.Events.{items_len}
use Rattle.serde_json.specs.View.{view, items_view}
use Rattle.serde_json.specs.declared.value.Value.{Value}
use Rattle.serde_json.proofs.Views.{items_len-items_view}
use Rattle.ice_defs.specs.Name.{is_name}
use Rattle.ice_defs.specs.Making.{is_value}
use Rattle.ice_defs.specs.Exchange.{IsBetween}
use Rattle.ice_defs.specs.FileFault.{Path, Read, refuse, ◌>>=◌}
use Rattle.ice_defs.specs.Round.{Submission}
use Rattle.ice_defs.proofs.Integers.{int_le-from}
use Rattle.ice_read.specs.declared.fault.ReadFault.{ReadFault}
use Rattle.ice_read.specs.declared.cause.ReadCause.TheVariants.{Shape}
use Rattle.ice_read.specs.Fault.{fault_at, IsFault}
use Rattle.ice_read.specs.Values.{at_member, at_index, array_of, text_of, has_exactly, member_or_null, of_member, each}
use Rattle.ice_read.specs.RoundFile.{values_at, name_at, bid_at, bids_at, bids_of_value}
use Rattle.ice_read.specs.TreeFile.{value_at}
use Rattle.ice_read.proofs.PlacesOfFaults.{refused, fault_below}
use Rattle.ice_read.proofs.ArrayElements.{SoFar, first, next, last, stops}

-- ---- members

-- a member that isn't there
pub missing : {X : Type 0} (path : Path) (name : List ℕ) (fault : ReadFault) → fault ≡ record { place = 46 ∷ name; cause = Shape } → refuse {X = X} 2 (at_member path name) ≡ Err (fault_at path fault)
missing {X} path name fault is =
    let here : ReadFault = record { place = []; cause = Shape } in
    let longer : fault ≡ record { place = (46 ∷ name) ++ []; cause = Shape } = is ∙ ap (λ place. record { place = 46 ∷ place; cause = Shape }) (sym (append-nil name)) in
    refused {X = X} 2 Shape here refl refl (at_member path name) ∙ ap Err (fault_below name here fault longer path)

pub absent : {X : Type 0} (read : Path → Data → Read X) (path : Path) (name : List ℕ) (d : Data) (fault : ReadFault) → member_or_null name d ≡ null → ((p : Path) → read p null ≡ refuse 2 p)
    → fault ≡ record { place = 46 ∷ name; cause = Shape } → of_member path d name read ≡ Err (fault_at path fault)
absent read path name d fault none refuses is = ap (read (at_member path name)) none ∙ refuses (at_member path name) ∙ missing path name fault is

-- a fault in a member
pub in_member : {X : Type 0} (read : Path → Data → Read X) (path : Path) (name : List ℕ) (d found : Data) (inner outer : ReadFault) → found ≡ member_or_null name d → IsFault inner (λ p. read p found)
    → outer ≡ record { place = (46 ∷ name) ++ inner.place; cause = inner.cause } → of_member path d name read ≡ Err (fault_at path outer)
in_member read path name d found inner outer there is below = ap (read (at_member path name)) (sym there) ∙ is (at_member path name) ∙ ap Err (fault_below name inner outer below path)

pub place_length : (part : List ℕ) (inner outer : ReadFault) → outer ≡ record { place = (46 ∷ part) ++ inner.place; cause = inner.cause } → length outer.place ≡ suc (length part + length inner.place)
place_length part inner outer below = ap (λ (fault : ReadFault). length fault.place) below ∙ ap suc (length-append part inner.place)

-- ---- names

pub no_name : (path : Path) (d : Data) (text : List ℕ) → text_of path d ≡ Ok text → ¬ IsTrue (is_name text) → name_at path d ≡ refuse 13 path
no_name path d text is bad = ap (λ r. r >>= λ name. cond (is_name name) (Ok name) (refuse 13 path)) is ∙ cond-false (is_name text) _ _ (false_from_ne_true (is_name text) bad)

-- ---- lists

abbrev limited : ℕ → ℕ → Path → (Items → Read (List ℤ)) → Items → Read (List ℤ)
limited most number path read items = cond (ltb most (items_len items)) (refuse number path) (read items)

pub too_long : (path : Path) (d : Data) (vs : List Value) → array_of path d ≡ Ok (items_view vs) → 200 < length vs → values_at path d ≡ refuse 4 path
too_long path d vs is long =
    let over : ltb 200 (items_len (items_view vs)) ≡ true = ap (ltb 200) (items_len-items_view vs) ∙ lt-ltb 200 (length vs) long in
    ap (λ r. r >>= limited 200 4 path (each value_at path 0)) is ∙ cond-true (ltb 200 (items_len (items_view vs))) _ _ over

short : (path : Path) (d : Data) (vs : List Value) → array_of path d ≡ Ok (items_view vs) → length vs ≤ 200 → values_at path d ≡ each value_at path 0 (items_view vs)
short path d vs is few =
    let under : ltb 200 (items_len (items_view vs)) ≡ false = ap (ltb 200) (items_len-items_view vs) ∙ le-ltb 200 (length vs) few in
    ap (λ r. r >>= limited 200 4 path (each value_at path 0)) is ∙ cond-false (ltb 200 (items_len (items_view vs))) _ _ under

-- the values of a list, as far as they are read
pub record AreReadSoFar (d : Data) (vs : List Value) (i : ℕ) (values : List ℤ) : Type 0 where
  pub read : (path : Path) → SoFar value_at (values_at path d) path vs i values
  pub count : length values ≡ i
  pub lawful : IsTrue (list_all is_value values)

pub none_read : (d : Data) (vs : List Value) → ((path : Path) → array_of path d ≡ Ok (items_view vs)) → length vs ≤ 200 → AreReadSoFar d vs 0 []
none_read d vs is few = record { read = λ path. first value_at (values_at path d) path vs (short path d vs (is path) few); count = refl; lawful = refl }

pub one_more : (d : Data) (vs : List Value) (i : ℕ) (values : List ℤ) (v : Value) (z : ℤ) → AreReadSoFar d vs i values → i < length vs → v ≡ get_or vs i v → ((path : Path) → value_at path (view v) ≡ Ok z)
    → IsBetween (neg_ℤ (pos 1000000000)) (pos 1000000000) z → AreReadSoFar d vs (i + 1) (values ++ z ∷ [])
one_more d vs i values v z is there item reads between = record {
  read = λ path. next value_at (values_at path d) path vs i values v z (is.read path) there item (reads (at_index path i));
  count = length_push values z ∙ ap (λ n. n + 1) is.count;
  lawful = list_all-append is_value values (z ∷ []) ∙ and_from (list_all is_value values) (list_all is_value (z ∷ [])) is.lawful (and_from (is_value z) true (and_from _ _ (int_le-from _ _ between.0) (int_le-from _ _ between.1)) refl);
}

pub all_read : (d : Data) (vs : List Value) (i : ℕ) (values : List ℤ) → AreReadSoFar d vs i values → length vs ≤ i → (path : Path) → values_at path d ≡ Ok values
all_read d vs i values is past path = last value_at (values_at path d) path vs i values (is.read path) past

pub fault_read : (d : Data) (vs : List Value) (i : ℕ) (values : List ℤ) (v : Value) (inner outer : ReadFault) → AreReadSoFar d vs i values → i < length vs → v ≡ get_or vs i v → IsFault inner (λ path. value_at path (view v))
    → outer ≡ record { place = (46 ∷ decimal i) ++ inner.place; cause = inner.cause } → (path : Path) → values_at path d ≡ Err (fault_at path outer)
fault_read d vs i values v inner outer is there item fault below path =
    stops value_at (values_at path d) path vs i values v (fault_at (at_index path i) inner) (is.read path) there item (fault (at_index path i)) ∙ ap Err (fault_below (decimal i) inner outer below path)

-- ---- bids

abbrev pub bid_names : List (List ℕ)
bid_names = codes "bidder" ∷ codes "lo" ∷ codes "hi" ∷ []

pub no_bid : (path : Path) (d : Data) → has_exactly bid_names d ≡ false → bid_at path d ≡ refuse 2 path
no_bid path d other = cond-false (has_exactly bid_names d) _ _ other

-- ---- the list of bids

abbrev pub file_names : List (List ℕ)
file_names = codes "bids" ∷ []

abbrev limited_bids : Items → Read (List Submission)
limited_bids items = cond (ltb 400 (items_len items)) (refuse 4 (at_member [] (codes "bids"))) (each bid_at (at_member [] (codes "bids")) 0 items)

module _ (d found : Data) (vs : List Value) (exactly : has_exactly file_names d ≡ true) (there : found ≡ member_or_null (codes "bids") d) (is : (path : Path) → array_of path found ≡ Ok (items_view vs)) where
  listed : bids_of_value d ≡ limited_bids (items_view vs)
  listed =
      cond-true (has_exactly file_names d) _ (refuse 2 []) exactly
      ∙ ap (bids_at (at_member [] (codes "bids"))) (sym there)
      ∙ ap (λ r. r >>= limited_bids) (is (at_member [] (codes "bids")))

  pub bids_listed : length vs ≤ 400 → bids_of_value d ≡ each bid_at (at_member [] (codes "bids")) 0 (items_view vs)
  bids_listed few =
      let under : ltb 400 (items_len (items_view vs)) ≡ false = ap (ltb 400) (items_len-items_view vs) ∙ le-ltb 400 (length vs) few in
      listed ∙ cond-false (ltb 400 (items_len (items_view vs))) _ _ under

  pub too_many : 400 < length vs → bids_of_value d ≡ refuse 4 (at_member [] (codes "bids"))
  too_many many =
      let over : ltb 400 (items_len (items_view vs)) ≡ true = ap (ltb 400) (items_len-items_view vs) ∙ lt-ltb 400 (length vs) many in
      listed ∙ cond-true (ltb 400 (items_len (items_view vs))) _ _ over

pub bid_fault : (whole : Read (List Submission)) (vs : List Value) (i : ℕ) (bids : List Submission) (v : Value) (inner middle outer : ReadFault) → SoFar bid_at whole (at_member [] (codes "bids")) vs i bids
    → i < length vs → v ≡ get_or vs i v → IsFault inner (λ path. bid_at path (view v)) → middle ≡ record { place = (46 ∷ decimal i) ++ inner.place; cause = inner.cause }
    → outer ≡ record { place = (46 ∷ codes "bids") ++ middle.place; cause = middle.cause } → whole ≡ Err (fault_at [] outer)
bid_fault whole vs i bids v inner middle outer is there item fault below above =
    stops bid_at whole (at_member [] (codes "bids")) vs i bids v (fault_at (at_index (at_member [] (codes "bids")) i) inner) is there item (fault (at_index (at_member [] (codes "bids")) i))
    ∙ ap Err (fault_below (decimal i) inner middle below (at_member [] (codes "bids")) ∙ fault_below (codes "bids") middle outer above [])
