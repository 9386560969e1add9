-- A value that is written as text is read again from it.
use Rattle.std.proofs.Common.{◌≡◌, ℕ, zero, suc, ◌<◌, ◌≤◌, ◌^◌, Bool, true, false, List, [], ◌∷◌, get_or, decimal, negsuc, Some, option_and_then, Ordering, Less, Equal, Greater, nat_cmp, IsUtf8, refl, sym, ap, ◌∙◌, arith, append-nil}
use Rattle.std.specs.Char.{digit_value}
use Rattle.std.specs.Ordering.{match_ordering, ordering_reverse}
use Rattle.std.specs.Cmp.Lexicographic.{slice_cmp}
use Rattle.std.specs.Str.Parse.{AllDigits}
use Rattle.std.proofs.lemmas.Cmp.{nat_list_cmp_total}
use Rattle.std.proofs.lemmas.Fmt.{decimal_is_IsNumeral}
use Rattle.std.proofs.lemmas.Str.{IsUtf8-append, IsUtf8-nil, IsUtf8-from_ascii, is_utf8-from_IsUtf8}
use Rattle.json.specs.Lex.{tokens}
use Rattle.json.specs.Json as json
use Rattle.json.specs.Print.{quoted}
use Rattle.json.specs.Tree.{json_tokens, HasNumbers, ItemsHaveNumbers, MembersHaveNumbers}
use Rattle.json.specs.Tree as tree
use Rattle.json.proofs.Printed.Utf8.{IsUtf8-are_ascii, IsUtf8-quoted}
use Rattle.json.proofs.Printed.Decimals.{IsNumber-decimal, IsNumber-signed_decimal}
use Rattle.json.proofs.Printed.Tokens.{tokens-print}
use Rattle.json.proofs.Printed.Trees.{value-json_tokens, ArePrintable-json_tokens}
use Rattle.serde_json.specs.Data.{Data, unsigned, negative, number, string, array, object, Items, no_items, item, Members, no_members, member, put}
use Rattle.serde_json.specs.Read.{of_json, of_items, of_members, max_depth}
use Rattle.serde_json.specs.Written.{outline, items_outline, members_outline, comma_if, compact_text, items_text, members_text}
use Rattle.serde_json.proofs.Numbers.{number_of-decimal, number_of-negative}
use Rattle.serde_json.proofs.Texts.{print-outline}
use Rattle.ice_read.specs.Values.{value_of}

-- its text is text, is read as the value, and nests so deep at most
pub record IsSpelled (n : ℕ) (d : Data) : Type 0 where
  pub numbers : HasNumbers (outline d)
  pub back : of_json (outline d) ≡ Some d
  pub shallow : tree.depth (outline d) ≤ n
  pub text : IsUtf8 (compact_text d)

-- ---- the whole text

pub value_of-spelled : (d : Data) → IsSpelled max_depth d → value_of (compact_text d) ≡ Some d
unfolding value_of
value_of-spelled d is =
    let same : tokens (compact_text d) ≡ json_tokens (outline d) = ap tokens (sym (print-outline d)) ∙ tokens-print (json_tokens (outline d)) (ArePrintable-json_tokens (outline d) is.numbers) in
    let parsed = ap (json.value max_depth) (same ∙ sym (append-nil (json_tokens (outline d)))) ∙ value-json_tokens (outline d) max_depth [] is.shallow in
    rw (is_utf8-from_IsUtf8 (compact_text d) is.text) (ap (λ o. option_and_then of_json (option_and_then (λ p. json.if_last p.0 p.1) o)) parsed ∙ is.back)

-- ---- numbers and texts

digit_ascii : (d : ℕ) → digit_value d < 10 → d < 128
digit_ascii d h = grind arith

digits_ascii : (ds : List ℕ) → AllDigits 10 ds → (i : ℕ) → get_or ds i 0 < 128
digits_ascii [] h i = omega arith
digits_ascii (d ∷ ds) h zero = digit_ascii d h.0
digits_ascii (d ∷ ds) h (suc i) = digits_ascii ds h.1 i

decimal_text : (n : ℕ) → n < 2 ^ 64 → IsUtf8 (decimal n)
decimal_text n h = IsUtf8-from_ascii (decimal n) (digits_ascii (decimal n) (decimal_is_IsNumeral n h).0.1)

pub unsigned_spelled : (k n : ℕ) → n < 2 ^ 64 → IsSpelled k (number (unsigned n))
unsigned_spelled k n h = record { numbers = IsNumber-decimal n h; back = rw (number_of-decimal n h); shallow = omega arith; text = decimal_text n h }

pub negative_spelled : (k n : ℕ) → n < 2 ^ 63 → IsSpelled k (number (negative (negsuc n)))
negative_spelled k n h =
    record { numbers = IsNumber-signed_decimal (negsuc n) h; back = rw (number_of-negative n h); shallow = omega arith; text = IsUtf8-append (45 ∷ []) (decimal (suc n)) (IsUtf8-are_ascii (45 ∷ []) refl) (decimal_text (suc n) (omega arith)) }

pub string_spelled : (k : ℕ) (s : List ℕ) → IsUtf8 s → IsSpelled k (string s)
string_spelled k s u = record { numbers = tt; back = refl; shallow = omega arith; text = IsUtf8-quoted s u }

-- ---- arrays

abbrev pub AreItemsSpelled : ℕ → Items → Type 0
AreItemsSpelled n no_items = Unit {0}
AreItemsSpelled n (item d ds) = IsSpelled n d × AreItemsSpelled n ds

comma_text : (later : Bool) → IsUtf8 (comma_if later)
comma_text true = IsUtf8-are_ascii (44 ∷ []) refl
comma_text false = IsUtf8-nil

items_numbers : (n : ℕ) (ds : Items) → AreItemsSpelled n ds → ItemsHaveNumbers (items_outline ds)
items_numbers n no_items are = tt
items_numbers n (item d ds) are = (are.0.numbers, items_numbers n ds are.1)

items_back : (n : ℕ) (ds : Items) → AreItemsSpelled n ds → of_items (items_outline ds) ≡ Some ds
items_back n no_items are = refl
items_back n (item d ds) are = rw (are.0.back, items_back n ds are.1)

items_shallow : (n : ℕ) (ds : Items) → AreItemsSpelled n ds → tree.items_depth (items_outline ds) ≤ n
items_shallow n no_items are = omega arith
items_shallow n (item d ds) are = omega (arith, are.0.shallow, items_shallow n ds are.1)

items_utf8 : (n : ℕ) (later : Bool) (ds : Items) → AreItemsSpelled n ds → IsUtf8 (items_text later ds)
items_utf8 n later no_items are = IsUtf8-are_ascii (93 ∷ []) refl
items_utf8 n later (item d ds) are = IsUtf8-append (comma_if later) _ (comma_text later) (IsUtf8-append (compact_text d) _ are.0.text (items_utf8 n true ds are.1))

pub array_spelled : (n : ℕ) (ds : Items) → AreItemsSpelled n ds → IsSpelled (suc n) (array ds)
array_spelled n ds are = record {
  numbers = items_numbers n ds are;
  back = rw (items_back n ds are);
  shallow = omega (arith, items_shallow n ds are);
  text = IsUtf8-append (91 ∷ []) (items_text false ds) (IsUtf8-are_ascii (91 ∷ []) refl) (items_utf8 n false ds are);
}

-- ---- objects

abbrev pub AreMembersSpelled : ℕ → Members → Type 0
AreMembersSpelled n no_members = Unit {0}
AreMembersSpelled n (member k d ms) = IsUtf8 k × IsSpelled n d × AreMembersSpelled n ms

members_numbers : (n : ℕ) (ms : Members) → AreMembersSpelled n ms → MembersHaveNumbers (members_outline ms)
members_numbers n no_members are = tt
members_numbers n (member k d ms) are = (are.1.numbers, members_numbers n ms are.2)

members_shallow : (n : ℕ) (ms : Members) → AreMembersSpelled n ms → tree.members_depth (members_outline ms) ≤ n
members_shallow n no_members are = omega arith
members_shallow n (member k d ms) are = omega (arith, are.1.shallow, members_shallow n ms are.2)

members_utf8 : (n : ℕ) (later : Bool) (ms : Members) → AreMembersSpelled n ms → IsUtf8 (members_text later ms)
members_utf8 n later no_members are = IsUtf8-are_ascii (125 ∷ []) refl
members_utf8 n later (member k d ms) are =
    IsUtf8-append (comma_if later) _ (comma_text later) (IsUtf8-append (quoted k) _ (IsUtf8-quoted k are.0)
    (IsUtf8-append (58 ∷ []) _ (IsUtf8-are_ascii (58 ∷ []) refl) (IsUtf8-append (compact_text d) _ are.1.text (members_utf8 n true ms are.2))))

abbrev compare : List ℕ → List ℕ → Ordering
compare = slice_cmp nat_cmp

-- a name comes before those of all these members
abbrev pub IsBefore : List ℕ → Members → Type 0
IsBefore k no_members = Unit {0}
IsBefore k (member l e ms) = (compare k l ≡ Less) × IsBefore k ms

-- names rise
abbrev pub AreRising : Members → Type 0
AreRising no_members = Unit {0}
AreRising (member k d ms) = IsBefore k ms × AreRising ms

before_put : (o : Ordering) (j k l : List ℕ) (d e : Data) (ms : Members) → compare j k ≡ Less → IsBefore j (member l e ms) → IsBefore j (put k d ms)
    → IsBefore j (match_ordering o (member k d (member l e ms)) (member l d ms) (member l e (put k d ms)))
before_put Less j k l d e ms first later more = (first, later)
before_put Equal j k l d e ms first later more = later
before_put Greater j k l d e ms first later more = (later.0, more)

IsBefore-put : (j k : List ℕ) (d : Data) (ms : Members) → compare j k ≡ Less → IsBefore j ms → IsBefore j (put k d ms)
IsBefore-put j k d no_members first later = (first, tt)
IsBefore-put j k d (member l e ms) first later = before_put (compare k l) j k l d e ms first later (IsBefore-put j k d ms first later.1)

IsBefore-earlier : (j k : List ℕ) (ms : Members) → compare j k ≡ Less → IsBefore k ms → IsBefore j ms
IsBefore-earlier j k no_members first later = tt
IsBefore-earlier j k (member l e ms) first later = (nat_list_cmp_total.trans j k l first later.0, IsBefore-earlier j k ms first later.1)

turned : (k l : List ℕ) → compare k l ≡ Greater → compare l k ≡ Less
turned k l e = nat_list_cmp_total.antisymm l k ∙ ap ordering_reverse e

rising_put : (o : Ordering) (k l : List ℕ) (d e : Data) (ms : Members) → compare k l ≡ o → AreRising (member l e ms) → AreRising (put k d ms)
    → AreRising (match_ordering o (member k d (member l e ms)) (member l d ms) (member l e (put k d ms)))
rising_put Less k l d e ms is rising more = ((is, IsBefore-earlier k l ms is rising.0), rising)
rising_put Equal k l d e ms is rising more = rising
rising_put Greater k l d e ms is rising more = (IsBefore-put l k d ms (turned k l is) rising.0, more)

-- names that were put rise
pub AreRising-put : (k : List ℕ) (d : Data) (ms : Members) → AreRising ms → AreRising (put k d ms)
AreRising-put k d no_members rising = (tt, tt)
AreRising-put k d (member l e ms) rising = rising_put (compare k l) k l d e ms refl rising (AreRising-put k d ms rising.1)

spelled_put : (o : Ordering) (n : ℕ) (k l : List ℕ) (d e : Data) (ms : Members) → IsUtf8 k → IsSpelled n d → AreMembersSpelled n (member l e ms) → AreMembersSpelled n (put k d ms)
    → AreMembersSpelled n (match_ordering o (member k d (member l e ms)) (member l d ms) (member l e (put k d ms)))
spelled_put Less n k l d e ms name value are more = (name, value, are)
spelled_put Equal n k l d e ms name value are more = (are.0, value, are.2)
spelled_put Greater n k l d e ms name value are more = (are.0, are.1, more)

pub AreMembersSpelled-put : (n : ℕ) (k : List ℕ) (d : Data) (ms : Members) → IsUtf8 k → IsSpelled n d → AreMembersSpelled n ms → AreMembersSpelled n (put k d ms)
AreMembersSpelled-put n k d no_members name value are = (name, value, tt)
AreMembersSpelled-put n k d (member l e ms) name value are = spelled_put (compare k l) n k l d e ms name value are (AreMembersSpelled-put n k d ms name value are.2)

-- members one after another
abbrev join : Members → Members → Members
join no_members more = more
join (member k d ms) more = member k d (join ms more)

join-none : (ms : Members) → join ms no_members ≡ ms
join-none no_members = refl
join-none (member k d ms) = ap (member k d) (join-none ms)

join_assoc : (found : Members) (k : List ℕ) (d : Data) (ms : Members) → join (join found (member k d no_members)) ms ≡ join found (member k d ms)
join_assoc no_members k d ms = refl
join_assoc (member l e found) k d ms = ap (member l e) (join_assoc found k d ms)

-- a name comes after those of all these members
abbrev IsAfter : List ℕ → Members → Type 0
IsAfter k no_members = Unit {0}
IsAfter k (member l e ms) = (compare l k ≡ Less) × IsAfter k ms

abbrev AreAfter : Members → Members → Type 0
AreAfter no_members found = Unit {0}
AreAfter (member k d ms) found = IsAfter k found × AreAfter ms found

IsAfter-join : (k l : List ℕ) (e : Data) (found : Members) → IsAfter k found → compare l k ≡ Less → IsAfter k (join found (member l e no_members))
IsAfter-join k l e no_members after last = (last, tt)
IsAfter-join k l e (member j d found) after last = (after.0, IsAfter-join k l e found after.1 last)

AreAfter-join : (ms : Members) (l : List ℕ) (e : Data) (found : Members) → AreAfter ms found → IsBefore l ms → AreAfter ms (join found (member l e no_members))
AreAfter-join no_members l e found after before = tt
AreAfter-join (member k d ms) l e found after before = (IsAfter-join k l e found after.0 before.0, AreAfter-join ms l e found after.1 before.1)

AreAfter-none : (ms : Members) → AreAfter ms no_members
AreAfter-none no_members = tt
AreAfter-none (member k d ms) = (tt, AreAfter-none ms)

turned_back : (k l : List ℕ) → compare l k ≡ Less → compare k l ≡ Greater
turned_back k l e = nat_list_cmp_total.antisymm k l ∙ ap ordering_reverse e

put-after : (k : List ℕ) (d : Data) (found : Members) → IsAfter k found → put k d found ≡ join found (member k d no_members)
put-after k d no_members after = refl
put-after k d (member l e found) after = rw (turned_back k l after.0) (ap (member l e) (put-after k d found after.1))

members_back : (n : ℕ) (ms found : Members) → AreMembersSpelled n ms → AreRising ms → AreAfter ms found → of_members (members_outline ms) found ≡ Some (join found ms)
members_back n no_members found are rising after = ap Some (sym (join-none found))
members_back n (member k d ms) found are rising after =
    ap (option_and_then (λ e. of_members (members_outline ms) (put k e found))) are.1.back
    ∙ ap (of_members (members_outline ms)) (put-after k d found after.0)
    ∙ members_back n ms (join found (member k d no_members)) are.2 rising.1 (AreAfter-join ms k d found after.1 rising.0)
    ∙ ap Some (join_assoc found k d ms)

pub object_spelled : (n : ℕ) (ms : Members) → AreMembersSpelled n ms → AreRising ms → IsSpelled (suc n) (object ms)
object_spelled n ms are rising = record {
  numbers = members_numbers n ms are;
  back = rw (members_back n ms no_members are rising (AreAfter-none ms));
  shallow = omega (arith, members_shallow n ms are);
  text = IsUtf8-append (123 ∷ []) (members_text false ms) (IsUtf8-are_ascii (123 ∷ []) refl) (members_utf8 n false ms are);
}
