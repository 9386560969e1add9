-- The faults of round files may stand in a journal's records.
use Rattle.std.proofs.Common.{◌≡◌, ℕ, suc, ◌+◌, ◌*◌, ◌^◌, ◌<◌, ◌≤◌, Bool, true, false, ◌&&◌, ◌||◌, cond, List, [], ◌∷◌, ◌++◌, length, decimal, ℤ, pos, neg_ℤ, Option, Some, None, Ok, Err, IsTrue, refl, ap, subst, ◌∙◌, arith, length-append}
use Rattle.std.specs.Prelude.{codes, nat_le, nat_lt, int_le, IfErr, ◌==◌}
use Rattle.std.specs.List.{AllByRecursion, list_all, join_with_byte}
use Rattle.std.specs.Str.Parse.{AllDigits}
use Rattle.std.proofs.lemmas.Bool.{and_from}
use Rattle.std.proofs.lemmas.Fmt.{decimal_is_IsNumeral, length-decimal-le}
use Rattle.std.proofs.lemmas.List.Folds.{list_all-append}
use Rattle.std.proofs.lemmas.Str.Parse.{digit_from_value}
use Rattle.serde_json.specs.Data.{unsigned, negative, float, Data, null, boolean, number, string, array, object, Items, no_items, item}
use Rattle.serde_json.specs.Events.{items_len}
use Rattle.ice_defs.specs.FileFault.{FileFault, Path, Read, place_of, at_path, refuse, ◌>>=◌}
use Rattle.ice_defs.specs.Name.{is_name_byte, is_name}
use Rattle.ice_defs.specs.Round.{Submission}
use Rattle.ice_defs.proofs.Lists.{all_push}
use Rattle.ice_journal.specs.Ranges.{HasLength, IsFromTo, IsPlace, IsRecord}
use Rattle.ice_journal.specs.Records as line
use Rattle.ice_read.specs.Values.{value_of, array_of, text_of, whole_of, in_range, has_exactly, member_or_null, at_member, at_index, each}
use Rattle.ice_read.specs.TreeFile.{value_at}
use Rattle.ice_read.specs.RoundFile.{values_at, name_at, bid_at, bids_at, bids_of_value}
use Rattle.ice_read.specs.ExchangeFile.{of_json}
use Rattle.ice_command_parts.specs.Call.{Call, file_limit, IsRefused, too_long, at_fault}
use Rattle.ice_command_parts.specs.Files.{IsRoundFault}

-- ---- places

-- a part of a path in a round file
abbrev IsPart : List ℕ → Type 0
IsPart part = HasLength 1 20 part × IsTrue (list_all is_name_byte part)

record IsShort (path : Path) : Type 0 where
  pub parts : AllByRecursion IsPart path
  pub few : length path ≤ 4

digit_is : (b : ℕ) → 48 ≤ b → b ≤ 57 → is_name_byte b ≡ true
digit_is b low high = ap (λ (t : Bool). t || (nat_le 65 b && nat_le b 90) || (nat_le 97 b && nat_le b 122) || (b == 95) || (b == 45) || (b == 46)) (and_from (nat_le 48 b) (nat_le b 57) (grind (arith, low)) (grind (arith, high)))

digits_are : (ds : List ℕ) → AllDigits 10 ds → list_all is_name_byte ds ≡ true
digits_are [] all = refl
digits_are (d ∷ ds) all =
    let range = digit_from_value d all.0 in
    and_from (is_name_byte d) (list_all is_name_byte ds) (digit_is d range.0 range.1) (digits_are ds all.1)

index_is : (i : ℕ) → i < 2 ^ 60 → IsPart (decimal i)
index_is i small =
    let numeral = (decimal_is_IsNumeral i (omega (arith, small))).0 in
    ((omega (arith, numeral.0), length-decimal-le 20 i (omega arith) (omega (arith, small)) (omega (arith, small))), digits_are (decimal i) numeral.1)

-- what the parts give, joined by dots
joined : (part : List ℕ) (parts : Path) → AllByRecursion IsPart (part ∷ parts)
    → (1 ≤ length (join_with_byte 46 (part ∷ parts))) × (length (join_with_byte 46 (part ∷ parts)) + 1 ≤ 21 * suc (length parts)) × (list_all is_name_byte (join_with_byte 46 (part ∷ parts)) ≡ true)
joined part [] all = (all.0.0.0, omega (arith, all.0.0.1), all.0.1)
joined part (next ∷ parts) all =
    let rest = joined next parts all.1 in
    let tail = join_with_byte 46 (next ∷ parts) in (
      omega (arith, all.0.0.0, length-append part (46 ∷ tail)),
      omega (arith, all.0.0.1, rest.1, length-append part (46 ∷ tail)),
      list_all-append is_name_byte part (46 ∷ tail) ∙ and_from (list_all is_name_byte part) (list_all is_name_byte (46 ∷ tail)) all.0.1 rest.2,
    )

place_is : (path : Path) → IsShort path → IsPlace (place_of path)
place_is [] short = ((omega arith, omega arith), refl)
place_is (part ∷ parts) short =
    let all = joined part parts short.parts in
    ((all.0, omega (arith, all.1, short.few)), all.2)

longer : (path : Path) (part : List ℕ) → IsShort path → length path ≤ 3 → IsPart part → IsShort (path ++ part ∷ [])
longer path part short few is = record { parts = all_push IsPart path part short.parts is; few = omega (arith, few, length-append path (part ∷ [])) }

-- ---- readers

abbrev IsFault : FileFault → Type 0
IsFault fault = IsFromTo 1 99 fault.number × IsPlace fault.place

abbrev FaultsAre : {X : Type 0} → Read X → Type 0
FaultsAre r = IfErr r IsFault

refused : (n : ℕ) (path : Path) → 1 ≤ n → n ≤ 99 → IsShort path → IsFault (at_path n path)
refused n path low high short = ((low, high), place_is path short)

then : {X Y : Type 0} (r : Read X) (next : X → Read Y) → FaultsAre r → ((x : X) → FaultsAre (next x)) → FaultsAre (r >>= next)
then (Err fault) next is on = is
then (Ok x) next is on = on x

either : {X : Type 0} (t : Bool) (a b : Read X) → FaultsAre a → FaultsAre b → FaultsAre (cond t a b)
either true a b is other = is
either false a b is other = other

text_is : (path : Path) (d : Data) → IsShort path → FaultsAre (text_of path d)
text_is path null short = refused 2 path (omega arith) (omega arith) short
text_is path (boolean b) short = refused 2 path (omega arith) (omega arith) short
text_is path (number n) short = refused 2 path (omega arith) (omega arith) short
text_is path (string s) short = tt
text_is path (array ds) short = refused 2 path (omega arith) (omega arith) short
text_is path (object ms) short = refused 2 path (omega arith) (omega arith) short

array_is : (path : Path) (d : Data) → IsShort path → FaultsAre (array_of path d)
array_is path null short = refused 2 path (omega arith) (omega arith) short
array_is path (boolean b) short = refused 2 path (omega arith) (omega arith) short
array_is path (number n) short = refused 2 path (omega arith) (omega arith) short
array_is path (string s) short = refused 2 path (omega arith) (omega arith) short
array_is path (array ds) short = tt
array_is path (object ms) short = refused 2 path (omega arith) (omega arith) short

range_is : (path : Path) (low high z : ℤ) → IsShort path → FaultsAre (in_range path low high z)
range_is path low high z short = either (int_le low z && int_le z high) (Ok z) (refuse 4 path) tt (refused 4 path (omega arith) (omega arith) short)

whole_is : (path : Path) (low high : ℤ) (d : Data) → IsShort path → FaultsAre (whole_of path low high d)
whole_is path low high null short = refused 2 path (omega arith) (omega arith) short
whole_is path low high (boolean b) short = refused 2 path (omega arith) (omega arith) short
whole_is path low high (number (unsigned n)) short = range_is path low high (pos n) short
whole_is path low high (number (negative z)) short = range_is path low high z short
whole_is path low high (number (float x)) short = refused 3 path (omega arith) (omega arith) short
whole_is path low high (string s) short = refused 2 path (omega arith) (omega arith) short
whole_is path low high (array ds) short = refused 2 path (omega arith) (omega arith) short
whole_is path low high (object ms) short = refused 2 path (omega arith) (omega arith) short

each_is : {X : Type 0} (read : Path → Data → Read X) (path : Path) → ((i : ℕ) (d : Data) → i < 2 ^ 60 → FaultsAre (read (at_index path i) d)) → (i : ℕ) (items : Items) → i + items_len items < 2 ^ 60 → FaultsAre (each read path i items)
each_is read path on i no_items few = tt
each_is read path on i (item d rest) few =
    then (read (at_index path i) d) (λ x. each read path (suc i) rest >>= λ xs. Ok (x ∷ xs)) (on i d (omega (arith, few)))
    (λ x. then (each read path (suc i) rest) (λ xs. Ok (x ∷ xs)) (each_is read path on (suc i) rest (omega (arith, few))) (λ xs. tt))

-- so many elements at most, each of which is read so
counted_is : {X : Type 0} (read : Path → Data → Read X) (path : Path) (limit : ℕ) (items : Items) (t : Bool) → limit ≤ 400 → nat_lt limit (items_len items) ≡ t → IsShort path → ((i : ℕ) (d : Data) → i < 2 ^ 60 → FaultsAre (read (at_index path i) d))
    → FaultsAre (cond t (let r : Read (List X) = refuse 4 path in r) (each read path 0 items))
counted_is read path limit items true small e short on = refused 4 path (omega arith) (omega arith) short
counted_is read path limit items false small e short on =
    let few : items_len items ≤ limit = grind (arith, e) in
    each_is read path on 0 items (omega (arith, few, small))

list_is : {X : Type 0} (read : Path → Data → Read X) (path : Path) (limit : ℕ) (d : Data) → limit ≤ 400 → IsShort path → ((i : ℕ) (x : Data) → i < 2 ^ 60 → FaultsAre (read (at_index path i) x))
    → FaultsAre (array_of path d >>= λ items. cond (nat_lt limit (items_len items)) (refuse 4 path) (each read path 0 items))
list_is read path limit d small short on =
    then (array_of path d) (λ items. cond (nat_lt limit (items_len items)) (refuse 4 path) (each read path 0 items)) (array_is path d short)
    (λ items. counted_is read path limit items (nat_lt limit (items_len items)) small refl short on)

-- ---- bids

values_is : (path : Path) (d : Data) → IsShort path → length path ≤ 3 → FaultsAre (values_at path d)
values_is path d short few =
    list_is value_at path 200 d (omega arith) short (λ i x small. whole_is (at_index path i) (neg_ℤ (pos 1000000000)) (pos 1000000000) x (longer path (decimal i) short few (index_is i small)))

name_is : (path : Path) (d : Data) → IsShort path → FaultsAre (name_at path d)
name_is path d short =
    then (text_of path d) (λ name. cond (is_name name) (Ok name) (refuse 13 path)) (text_is path d short)
    (λ name. either (is_name name) (Ok name) (refuse 13 path) tt (refused 13 path (omega arith) (omega arith) short))

bidder_part : IsPart (codes "bidder")
bidder_part = ((omega arith, omega arith), refl)

lo_part : IsPart (codes "lo")
lo_part = ((omega arith, omega arith), refl)

hi_part : IsPart (codes "hi")
hi_part = ((omega arith, omega arith), refl)

bids_part : IsPart (codes "bids")
bids_part = ((omega arith, omega arith), refl)

module _ (path : Path) (d : Data) (short : IsShort path) (few : length path ≤ 2) where
  named : (part : List ℕ) → IsPart part → FaultsAre (name_at (at_member path part) (member_or_null part d))
  named part is = name_is (at_member path part) (member_or_null part d) (longer path part short (omega (arith, few)) is)

  valued : (part : List ℕ) → IsPart part → FaultsAre (values_at (at_member path part) (member_or_null part d))
  valued part is = values_is (at_member path part) (member_or_null part d) (longer path part short (omega (arith, few)) is) (omega (arith, few, length-append path (part ∷ [])))

  abbrev hi_of : List ℕ → List ℤ → Read Submission
  hi_of name lo = values_at (at_member path (codes "hi")) (member_or_null (codes "hi") d) >>= λ hi. Ok (record { name = name; lo = lo; hi = hi })

  abbrev lo_of : List ℕ → Read Submission
  lo_of name = values_at (at_member path (codes "lo")) (member_or_null (codes "lo") d) >>= hi_of name

  members_is : FaultsAre (name_at (at_member path (codes "bidder")) (member_or_null (codes "bidder") d) >>= lo_of)
  members_is =
      then (name_at (at_member path (codes "bidder")) (member_or_null (codes "bidder") d)) lo_of (named (codes "bidder") bidder_part)
      (λ name. then (values_at (at_member path (codes "lo")) (member_or_null (codes "lo") d)) (hi_of name) (valued (codes "lo") lo_part)
      (λ lo. then (values_at (at_member path (codes "hi")) (member_or_null (codes "hi") d)) (λ hi. Ok (record { name = name; lo = lo; hi = hi })) (valued (codes "hi") hi_part) (λ hi. tt)))

  bid_is : FaultsAre (bid_at path d)
  bid_is =
      either (has_exactly (codes "bidder" ∷ codes "lo" ∷ codes "hi" ∷ []) d) (name_at (at_member path (codes "bidder")) (member_or_null (codes "bidder") d) >>= lo_of) (refuse 2 path)
      members_is (refused 2 path (omega arith) (omega arith) short)

bids_is : (path : Path) (d : Data) → IsShort path → length path ≤ 1 → FaultsAre (bids_at path d)
bids_is path d short few =
    list_is bid_at path 400 d (omega arith) short
    (λ i x small. bid_is (at_index path i) x (longer path (decimal i) short (omega (arith, few)) (index_is i small)) (omega (arith, few, length-append path (decimal i ∷ []))))

whole_file : IsShort []
whole_file = record { parts = tt; few = omega arith }

file_is : (d : Data) → FaultsAre (bids_of_value d)
file_is d =
    either (has_exactly (codes "bids" ∷ []) d) (bids_at (at_member [] (codes "bids")) (member_or_null (codes "bids") d)) (refuse 2 [])
    (bids_is (at_member [] (codes "bids")) (member_or_null (codes "bids") d) (longer [] (codes "bids") whole_file (omega arith) bids_part) (omega arith))
    (refused 2 [] (omega arith) (omega arith) whole_file)

json_is : (d : Option Data) → FaultsAre (of_json bids_of_value d)
json_is None = refused 1 [] (omega arith) (omega arith) whole_file
json_is (Some d) = file_is d

-- what is refused of a round file in a call is a record of a journal
pub round_fault_is_record : (call : Call) (name : List ℕ) (file : ℕ) (fault : FileFault) → IsFromTo 1 21 file → IsRefused call name file_limit IsRoundFault fault → IsRecord (line.refused file fault.number fault.place)
round_fault_is_record call name file fault range (too_long rose long) = (range, (omega arith, omega arith), ((omega arith, omega arith), refl))
round_fault_is_record call name file fault range (at_fault bytes is told) =
    let h : IsFault fault = subst FaultsAre is (json_is (value_of bytes)) in
    (range, h.0, h.1)
