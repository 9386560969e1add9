-- The owned amounts that are written are read again, in whatever order their members stand.
use Rattle.std.proofs.Common.{◌≡◌, ℕ, zero, suc, ◌+◌, ◌<◌, ◌≤◌, ◌==◌, Bool, true, false, cond, List, [], ◌∷◌, length, map, get_or, replicate, pos, Option, Some, None, Ok, Ordering, Less, Equal, Greater, nat_cmp, IsUtf8, refl, sym, ap, ◌∙◌, subst, arith, is_eq}
use Rattle.std.specs.Prelude.{slice_set, slice_index}
use Rattle.std.specs.Ordering.{match_ordering}
use Rattle.std.specs.Cmp.Lexicographic.{slice_cmp}
use Rattle.std.specs.List.{AllByRecursion, IsDistinct, position}
use Rattle.std.specs.Str.{bytes_eq}
use Rattle.std.proofs.lemmas.Int.{ints}
use Rattle.std.proofs.lemmas.Bool.{eqb-true}
use Rattle.std.proofs.lemmas.List.{length-set, length-replicate, length-map, get_or-set_same, get_or-set_other, get_or-replicate, ext_get_or}
use Rattle.std.proofs.lemmas.Cmp.{nat_list_cmp_total, tied_itself}
use Rattle.std.proofs.lemmas.Map.Text.{is_eq-slice_cmp}
use Rattle.serde_json.specs.Data.{Data, unsigned, number, object, Members, no_members, member, put}
use Rattle.serde_json.specs.Find.{get_member}
use Rattle.serde_json.proofs.Views.{get_member-put, get_member-put_other}
use Rattle.ice_defs.specs.FileFault.{Path}
use Rattle.ice_defs.specs.Exchange.{Good}
use Rattle.ice_defs.proofs.Naming.{bytes_eq-same, same-bytes_eq}
use Rattle.ice_read.specs.Values.{at_member, whole_of}
use Rattle.ice_read.specs.ExchangeFile.{own_from, own_at}
use Rattle.ice_read.specs.Written.{whole_data, own_members}
use Rattle.ice_read.proofs.NamePlaces.{all_at, place_of_name, name_at_place}
use Rattle.ice_read.proofs.PartsAgain.{whole_again}
use Rattle.ice_read.proofs.Spelling.{unsigned_spelled, IsBefore, AreRising, AreRising-put, AreMembersSpelled, AreMembersSpelled-put}

abbrev compare : List ℕ → List ℕ → Ordering
compare = slice_cmp nat_cmp

compared_same : (a b : List ℕ) → compare a b ≡ Equal → a ≡ b
compared_same a b e = same-bytes_eq a b (sym (is_eq-slice_cmp a b) ∙ ap is_eq e)

same_text : (a : List ℕ) → compare a a ≡ Equal
same_text a = tied_itself nat_list_cmp_total a

-- ---- a fact of each member

abbrev AllMembers : (List ℕ → Data → Type 0) → Members → Type 0
AllMembers P no_members = Unit {0}
AllMembers P (member k d ms) = P k d × AllMembers P ms

AllMembers-put : (P : List ℕ → Data → Type 0) (k : List ℕ) (d : Data) (ms : Members) → P k d → AllMembers P ms → AllMembers P (put k d ms)
AllMembers-put P k d no_members here all = (here, tt)
AllMembers-put P k d (member l e ms) here all = by (compare k l) refl (AllMembers-put P k d ms here all.1)
  where
    by : (o : Ordering) → compare k l ≡ o → AllMembers P (put k d ms) → AllMembers P (match_ordering o (member k d (member l e ms)) (member l d ms) (member l e (put k d ms)))
    by Less is more = (here, all)
    by Equal is more = (subst (λ name. P name d) (compared_same k l is) here, all.1)
    by Greater is more = (all.0, more)

-- ---- members that are read one after another

-- a name of a good, and an amount in its limits
record IsOwned (names : List (List ℕ)) (name : List ℕ) (d : Data) : Type 0 where
  good : ℕ
  amount : ℕ
  there : position (bytes_eq name) names ≡ Some good
  value : d ≡ whole_data (pos amount)
  few : amount ≤ 1000000

-- the amount of a value, where there is one
abbrev amount_or : ℕ → Option Data → ℕ
amount_or old (Some (number (unsigned n))) = n
amount_or old other = old

before_none : (k : List ℕ) (ms : Members) → IsBefore k ms → get_member k ms ≡ None
before_none k no_members before = refl
before_none k (member l e ms) before = rw before.0 (before_none k ms before.1)

record Reads (names : List (List ℕ)) (path : Path) (acc : List ℕ) (ms : Members) : Type 0 where
  result : List ℕ
  same : own_from names path acc ms ≡ Ok result
  size : length result ≡ length acc
  each : (name : List ℕ) (g : ℕ) → position (bytes_eq name) names ≡ Some g → slice_index result g ≡ amount_or (slice_index acc g) (get_member name ms)

reads : (names : List (List ℕ)) (path : Path) (acc : List ℕ) (ms : Members) → AllMembers (IsOwned names) ms → AreRising ms → length acc ≡ length names → Reads names path acc ms
reads names path acc no_members owned rising size = record { result = acc; same = refl; size = refl; each = λ name g there. refl }
reads names path acc (member k d ms) owned rising size =
    let is = owned.0 in
    let later = reads names path (slice_set acc is.good is.amount) ms owned.1 rising.1 (length-set acc is.good is.amount ∙ size) in
    record {
      result = later.result;
      same = read is ∙ later.same;
      size = later.size ∙ length-set acc is.good is.amount;
      each = λ name g there. later.each name g there ∙ by is name g there (compare name k) refl;
    }
  where
    read : (is : IsOwned names k d) → own_from names path acc (member k d ms) ≡ own_from names path (slice_set acc is.good is.amount) ms
    read is =
        let whole : whole_of (at_member path k) (pos 0) (pos 1000000) d ≡ Ok (pos is.amount) =
        ap (whole_of (at_member path k) (pos 0) (pos 1000000)) is.value ∙ whole_again (at_member path k) (pos 0) (pos 1000000) (pos is.amount) (omega (arith, ints)) (omega (arith, ints, is.few)) in
        rw (is.there, whole)

    other : (is : IsOwned names k d) (name : List ℕ) (g : ℕ) → position (bytes_eq name) names ≡ Some g → (name ≡ k → ⊥) → slice_index (slice_set acc is.good is.amount) g ≡ slice_index acc g
    other is name g there apart =
        get_or-set_other acc is.good g is.amount 0 (λ e. apart ((name_at_place names name g there).1 ∙ ap (λ i. get_or names i []) e ∙ sym (name_at_place names k is.good is.there).1))

    by : (is : IsOwned names k d) (name : List ℕ) (g : ℕ) → position (bytes_eq name) names ≡ Some g → (o : Ordering) → compare name k ≡ o
        → amount_or (slice_index (slice_set acc is.good is.amount) g) (get_member name ms) ≡ amount_or (slice_index acc g) (match_ordering o (get_member name ms) (Some d) (get_member name ms))
    by is name g there Less order = ap (λ n. amount_or n (get_member name ms)) (other is name g there (λ e. apart e order))
      where
        apart : name ≡ k → compare name k ≡ Less → ⊥
        apart e order = let same : compare name k ≡ Equal = ap (λ n. compare n k) e ∙ same_text k in absurd cc
    by is name g there Greater order = ap (λ n. amount_or n (get_member name ms)) (other is name g there (λ e. apart e order))
      where
        apart : name ≡ k → compare name k ≡ Greater → ⊥
        apart e order = let same : compare name k ≡ Equal = ap (λ n. compare n k) e ∙ same_text k in absurd cc
    by is name g there Equal order =
        let same : name ≡ k = compared_same name k order in
        let e : Some g ≡ Some is.good = sym there ∙ ap (λ n. position (bytes_eq n) names) same ∙ is.there in
        let here : g ≡ is.good = cc in
        let inside = (name_at_place names name g there).0 in
        rw (ap (λ n. get_member n ms) same ∙ before_none k ms rising.0, here, is.value) (get_or-set_same acc is.good is.amount 0 (omega (arith, size, here)))

-- ---- the amounts of one bidder

owned_members : (names : List (List ℕ)) (goods : List Good) (own : List ℕ) → AllByRecursion (λ name. (g : ℕ) × (position (bytes_eq name) names ≡ Some g)) (map (λ good. good.name) goods)
    → AllByRecursion (λ amount. amount ≤ 1000000) own → AllMembers (IsOwned names) (own_members goods own)
owned_members names [] own there few = tt
owned_members names (good ∷ goods) [] there few = tt
owned_members names (good ∷ goods) (amount ∷ own) there few = by (amount == 0) (owned_members names goods own there.1 few.1)
  where
    by : (b : Bool) → AllMembers (IsOwned names) (own_members goods own) → AllMembers (IsOwned names) (cond b (own_members goods own) (put good.name (whole_data (pos amount)) (own_members goods own)))
    by true later = later
    by false later = AllMembers-put (IsOwned names) good.name (whole_data (pos amount)) (own_members goods own) (record { good = there.0.0; amount = amount; there = there.0.1; value = refl; few = few.0 }) later

pub rising_members : (goods : List Good) (own : List ℕ) → AreRising (own_members goods own)
rising_members [] own = tt
rising_members (good ∷ goods) [] = tt
rising_members (good ∷ goods) (amount ∷ own) = by (amount == 0) (rising_members goods own)
  where
    by : (b : Bool) → AreRising (own_members goods own) → AreRising (cond b (own_members goods own) (put good.name (whole_data (pos amount)) (own_members goods own)))
    by true later = later
    by false later = AreRising-put good.name (whole_data (pos amount)) (own_members goods own) later

pub spelled_members : (goods : List Good) (own : List ℕ) → AllByRecursion IsUtf8 (map (λ good. good.name) goods) → AllByRecursion (λ amount. amount ≤ 1000000) own → AreMembersSpelled 0 (own_members goods own)
spelled_members [] own named few = tt
spelled_members (good ∷ goods) [] named few = tt
spelled_members (good ∷ goods) (amount ∷ own) named few = by (amount == 0) (spelled_members goods own named.1 few.1)
  where
    by : (b : Bool) → AreMembersSpelled 0 (own_members goods own) → AreMembersSpelled 0 (cond b (own_members goods own) (put good.name (whole_data (pos amount)) (own_members goods own)))
    by true later = later
    by false later = AreMembersSpelled-put 0 good.name (whole_data (pos amount)) (own_members goods own) named.0 (unsigned_spelled 0 amount (omega (arith, few.0))) later

no_member : (name : List ℕ) (goods : List Good) (own : List ℕ) → AllByRecursion (λ other. bytes_eq name other ≡ false) (map (λ good. good.name) goods) → get_member name (own_members goods own) ≡ None
no_member name [] own new = refl
no_member name (good ∷ goods) [] new = refl
no_member name (good ∷ goods) (amount ∷ own) new = by (amount == 0) (no_member name goods own new.1)
  where
    by : (b : Bool) → get_member name (own_members goods own) ≡ None → get_member name (cond b (own_members goods own) (put good.name (whole_data (pos amount)) (own_members goods own))) ≡ None
    by true later = later
    by false later = get_member-put_other name good.name (whole_data (pos amount)) (own_members goods own) (λ e. apart e) ∙ later
      where
        apart : name ≡ good.name → ⊥
        apart e = let same : bytes_eq name good.name ≡ true = bytes_eq-same name good.name e in let other : bytes_eq name good.name ≡ false = new.0 in absurd cc

amount_at : (goods : List Good) (own : List ℕ) (g : ℕ) → IsDistinct bytes_eq (map (λ good. good.name) goods) → length own ≡ length goods → g < length goods
    → amount_or 0 (get_member (get_or (map (λ good. good.name) goods) g []) (own_members goods own)) ≡ get_or own g 0
unfolding IsDistinct
amount_at [] own g distinct size l = absurd (omega arith)
amount_at (good ∷ goods) [] g distinct size l = absurd (omega arith)
amount_at (good ∷ goods) (amount ∷ own) zero distinct size l = by (amount == 0) refl
  where
    by : (b : Bool) → (amount == 0) ≡ b → amount_or 0 (get_member good.name (cond b (own_members goods own) (put good.name (whole_data (pos amount)) (own_members goods own)))) ≡ amount
    by true is = ap (amount_or 0) (no_member good.name goods own distinct.0) ∙ sym (eqb-true amount 0 is)
    by false is = ap (amount_or 0) (get_member-put good.name (whole_data (pos amount)) (own_members goods own))
amount_at (good ∷ goods) (amount ∷ own) (suc g) distinct size l = by (amount == 0) (amount_at goods own g distinct.1 (omega arith) (omega arith))
  where
    name : List ℕ
    name = get_or (map (λ good. good.name) goods) g []

    apart : name ≡ good.name → ⊥
    apart e =
        let inside : g < length (map (λ (x : Good). x.name) goods) = omega (arith, length-map goods (λ (x : Good). x.name)) in
        let other : bytes_eq good.name name ≡ false = all_at (λ y. bytes_eq good.name y ≡ false) (map (λ x. x.name) goods) g [] inside distinct.0 in
        let same : bytes_eq good.name name ≡ true = bytes_eq-same good.name name (sym e) in
        absurd cc

    by : (b : Bool) → amount_or 0 (get_member name (own_members goods own)) ≡ get_or own g 0
        → amount_or 0 (get_member name (cond b (own_members goods own) (put good.name (whole_data (pos amount)) (own_members goods own)))) ≡ get_or own g 0
    by true later = later
    by false later = ap (amount_or 0) (get_member-put_other name good.name (whole_data (pos amount)) (own_members goods own) apart) ∙ later

all_there : (names : List (List ℕ)) → IsDistinct bytes_eq names → (rest : List (List ℕ)) (k : ℕ) → ((i : ℕ) → i < length rest → (k + i < length names) × (get_or rest i [] ≡ get_or names (k + i) []))
    → AllByRecursion (λ name. (g : ℕ) × (position (bytes_eq name) names ≡ Some g)) rest
all_there names distinct [] k at = tt
all_there names distinct (name ∷ rest) k at = (
  (k + 0, ap (λ n. position (bytes_eq n) names) (at 0 (omega arith)).1 ∙ place_of_name names (k + 0) distinct (at 0 (omega arith)).0),
  all_there names distinct rest (k + 1) (λ i l. let e : k + suc i ≡ k + 1 + i = omega arith in (omega (arith, (at (suc i) (omega arith)).0), (at (suc i) (omega arith)).1 ∙ ap (λ n. get_or names n []) e)),
)

-- nothing is owned of so many goods
abbrev zeros : ℕ → List ℕ
zeros n = replicate n 0

length-zeros : (n : ℕ) → length (zeros n) ≡ n
length-zeros n = length-replicate {A = ℕ} n 0

pub own_again : (path : Path) (goods : List Good) (own : List ℕ) → IsDistinct bytes_eq (map (λ good. good.name) goods) → length own ≡ length goods → AllByRecursion (λ amount. amount ≤ 1000000) own
    → own_at (map (λ good. good.name) goods) path (object (own_members goods own)) ≡ Ok own
own_again path goods own distinct size few =
    let names : List (List ℕ) = map (λ good. good.name) goods in
    let count : length names ≡ length goods = length-map goods (λ (x : Good). x.name) in
    let none : length (zeros (length names)) ≡ length names = length-zeros (length names) in
    let there = all_there names distinct names 0 (λ i l. let e : 0 + i ≡ i = omega arith in (omega arith, sym (ap (λ n. get_or names n []) e))) in
    let r : Reads names path (zeros (length names)) (own_members goods own) =
    reads names path (zeros (length names)) (own_members goods own) (owned_members names goods own there few) (rising_members goods own) none in
    r.same ∙ ap Ok (ext_get_or 0 r.result own (omega (arith, r.size, none, count, size)) (λ i l.
    let inside : i < length names = omega (arith, r.size, none) in
    r.each (get_or names i []) i (place_of_name names i distinct inside)
    ∙ ap (λ n. amount_or n (get_member (get_or names i []) (own_members goods own))) (get_or-replicate (length names) i 0 0 inside)
    ∙ amount_at goods own i distinct size (omega (arith, count))))
