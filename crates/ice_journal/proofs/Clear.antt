-- No field of a record has a space, so its fields are those between the spaces of its text.
use Rattle.std.proofs.Common.{◌≡◌, ℕ, suc, ◌+◌, ◌-◌, ◌<◌, ◌≤◌, ◌^◌, Bool, true, false, ltb, zero, List, [], ◌∷◌, ◌++◌, length, map, decimal, ℤ, pos, negsuc, neg_ℤ, unsigned_abs, refl, sym, ap, subst, ◌∙◌, arith}
use Rattle.std.specs.List.{list_all, join_with_byte, AllByRecursion, flat_map}
use Rattle.std.specs.Fmt.{signed_decimal}
use Rattle.std.specs.Str.Parse.{AllDigits}
use Rattle.std.proofs.lemmas.Bool.{ne_eqb, lt-ltb, ltb-true, and_parts, and_from}
use Rattle.std.proofs.lemmas.Bool.Decides.{nat_tests}
use Rattle.std.proofs.lemmas.Int.{ints}
use Rattle.std.proofs.lemmas.Str.Parse.{digit_from_value}
use Rattle.std.proofs.lemmas.Fmt.{decimal_is_IsNumeral_wide}
use Rattle.std.proofs.lemmas.List.Concat.{flat_map-cons}
use Rattle.ice_defs.specs.declared.Verdict.TheVariants as verdict
use Rattle.ice_defs.specs.Name.{is_name_byte}
use Rattle.ice_defs.specs.Exchange.{IsBetween}
use Rattle.ice_defs.specs.Steps.{branch, leaf, dead}
use Rattle.ice_defs.specs.Fraction.{Fraction}
use Rattle.ice_defs.specs.PricingLimit as limits
use Rattle.ice_line.specs.Fields.{fields}
use Rattle.ice_journal.specs.Records as line
use Rattle.ice_journal.specs.Records.{Record, Change, Numbered}
use Rattle.ice_journal.specs.Ranges.{IsRecord, IsName, IsValue, IsTotal, IsMultiplier, IsDen, IsViolationField, IsFractionField, IsChange, IsToll, IsAmount}
use Rattle.ice_journal.proofs.RecordParts.{some_field}
use Rattle.ice_journal.specs.Spelling.{version_word, kind_word, end_word, stage_word, limit_word, bit_byte, fraction_text, counted_list, change_fields, numbered_fields, derived_fields, numbers_fields, fields_of, text_of}

-- bytes above the space
abbrev pub is_clear : List ℕ → Bool
is_clear field = list_all (ltb 32) field

abbrev pub IsClear : List ℕ → Type 0
IsClear field = is_clear field ≡ true

abbrev pub AreClear : List (List ℕ) → Type 0
AreClear = AllByRecursion IsClear

clear_cons : (b : ℕ) (bs : List ℕ) → 32 < b → IsClear bs → IsClear (b ∷ bs)
clear_cons b bs h p = and_from (ltb 32 b) (is_clear bs) (lt-ltb 32 b h) p

clear_append : (a b : List ℕ) → IsClear a → IsClear b → IsClear (a ++ b)
clear_append [] b p q = q
clear_append (x ∷ xs) b p q =
    let h = and_parts (ltb 32 x) (is_clear xs) p in
    and_from (ltb 32 x) (is_clear (xs ++ b)) h.0 (clear_append xs b h.1 q)

fields_alone : (field : List ℕ) → IsClear field → fields field ≡ field ∷ []
fields_alone [] p = refl
fields_alone (b ∷ bs) p =
    let h = and_parts (ltb 32 b) (is_clear bs) p in
    let above : 32 < b = ltb-true 32 b h.0 in
    rw (ne_eqb b 32 (λ e. omega arith), fields_alone bs h.1) refl

fields_then : (field rest : List ℕ) → IsClear field → fields (field ++ 32 ∷ rest) ≡ field ∷ fields rest
fields_then [] rest p = refl
fields_then (b ∷ bs) rest p =
    let h = and_parts (ltb 32 b) (is_clear bs) p in
    let above : 32 < b = ltb-true 32 b h.0 in
    rw (ne_eqb b 32 (λ e. omega arith), fields_then bs rest h.1) refl

pub fields_joined : (field : List ℕ) (more : List (List ℕ)) → IsClear field → AreClear more → fields (join_with_byte 32 (field ∷ more)) ≡ field ∷ more
fields_joined field [] p ps = fields_alone field p
fields_joined field (f ∷ fs) p ps = fields_then field (join_with_byte 32 (f ∷ fs)) p ∙ ap (λ (rest : List (List ℕ)). field ∷ rest) (fields_joined f fs ps.0 ps.1)

clear_digits : (ds : List ℕ) → AllDigits 10 ds → IsClear ds
clear_digits [] h = refl
clear_digits (d ∷ ds) h =
    let at = digit_from_value d h.0 in
    clear_cons d ds (omega (arith, at)) (clear_digits ds h.1)

clear_decimal : (n : ℕ) → n < 10 ^ 60 → IsClear (decimal n)
clear_decimal n h = clear_digits (decimal n) (decimal_is_IsNumeral_wide n (omega arith)).0.1

clear_signed : (z : ℤ) → unsigned_abs z < 10 ^ 60 → IsClear (signed_decimal z)
clear_signed (pos n) h = clear_decimal n h
clear_signed (negsuc n) h = clear_cons 45 (decimal (suc n)) (omega arith) (clear_decimal (suc n) h)

pub abs_between : (m n : ℕ) (z : ℤ) → IsBetween (neg_ℤ (pos m)) (pos n) z → unsigned_abs z ≤ m + n
abs_between m n (pos k) h = omega (arith, ints, h.1)
abs_between m n (negsuc k) h = omega (arith, ints, h.0)

pub abs_from : (m n : ℕ) (z : ℤ) → IsBetween (pos m) (pos n) z → unsigned_abs z ≤ n
abs_from m n (pos k) h = omega (arith, ints, h.1)
abs_from m n (negsuc k) h = absurd (omega (arith, ints, h.0))

clear_between : (m n : ℕ) (z : ℤ) → m < 10 ^ 50 → n < 10 ^ 50 → IsBetween (neg_ℤ (pos m)) (pos n) z → IsClear (signed_decimal z)
clear_between m n z hm hn h = clear_signed z (omega (arith, abs_between m n z h))

clear_from : (m n : ℕ) (z : ℤ) → n < 10 ^ 50 → IsBetween (pos m) (pos n) z → IsClear (signed_decimal z)
clear_from m n z hn h = clear_signed z (omega (arith, abs_from m n z h))

clear_value : (z : ℤ) → IsValue z → IsClear (signed_decimal z)
clear_value z h = clear_between 1000000000 1000000000 z (omega arith) (omega arith) h

clear_total : (z : ℤ) → IsTotal z → IsClear (signed_decimal z)
clear_total z h = clear_between 400000000000000 400000000000000 z (omega arith) (omega arith) h

clear_multiplier : (z : ℤ) → IsMultiplier z → IsClear (signed_decimal z)
clear_multiplier z h = clear_between (2 ^ 56) (2 ^ 56) z (omega arith) (omega arith) h

clear_violation : (z : ℤ) → IsViolationField z → IsClear (signed_decimal z)
clear_violation z h = clear_from 0 (2 ^ 100) z (omega arith) h

clear_den : (d : ℕ) → IsDen d → IsClear (decimal d)
clear_den d h = clear_decimal d (omega (arith, h.1))

name_byte : (b : ℕ) → is_name_byte b ≡ true → 32 < b
name_byte b h = grind (arith, nat_tests)

clear_name_bytes : (name : List ℕ) → list_all is_name_byte name ≡ true → IsClear name
clear_name_bytes [] h = refl
clear_name_bytes (b ∷ bs) h =
    let p = and_parts (is_name_byte b) (list_all is_name_byte bs) h in
    clear_cons b bs (name_byte b p.0) (clear_name_bytes bs p.1)

pub clear_name : (name : List ℕ) → IsName name → IsClear name
clear_name name h = clear_name_bytes name (and_parts _ (list_all is_name_byte name) h).1

clear_bits : (bits : List Bool) → IsClear (map bit_byte bits)
clear_bits [] = refl
clear_bits (true ∷ bits) = clear_bits bits
clear_bits (false ∷ bits) = clear_bits bits

clear_fraction : (f : Fraction) → IsFractionField f → IsClear (fraction_text f)
clear_fraction f h =
    clear_append (signed_decimal f.num) (47 ∷ decimal f.den) (clear_between (10 ^ 18) (10 ^ 18) f.num (omega arith) (omega arith) h.num)
    (clear_cons 47 (decimal f.den) (omega arith) (clear_decimal f.den (omega (arith, h.den.1))))

clear_map : {A : Type 0} (P : A → Type 0) (g : A → List ℕ) → ((x : A) → P x → IsClear (g x)) → (xs : List A) → AllByRecursion P xs → AreClear (map g xs)
clear_map P g each [] h = tt
clear_map P g each (x ∷ xs) h = (each x h.0, clear_map P g each xs h.1)

are_clear-append : (a b : List (List ℕ)) → AreClear a → AreClear b → AreClear (a ++ b)
are_clear-append [] b p q = q
are_clear-append (x ∷ xs) b p q = (p.0, are_clear-append xs b p.1 q)

clear_counted : (values : List ℤ) → length values ≤ 200 → AllByRecursion IsValue values → AreClear (counted_list values)
clear_counted values le h = (clear_decimal (length values) (omega arith), clear_map IsValue signed_decimal clear_value values h)

clear_changes : (cs : List Change) → AllByRecursion IsChange cs → AreClear (flat_map change_fields cs)
clear_changes [] h = tt
clear_changes (c ∷ cs) h =
    subst AreClear (sym (flat_map-cons change_fields c cs)) (clear_decimal c.good (omega (arith, h.0.0)), (clear_multiplier c.multiplier h.0.1, clear_changes cs h.1))

pub amount_toll : (n : Numbered) → IsAmount n → IsToll n
amount_toll n h = (omega (arith, h.0), (grind (arith, ints, h.1.0), grind (arith, ints, h.1.1)))

clear_toll : (z : ℤ) → IsBetween (neg_ℤ (pos (2 ^ 62))) (pos (2 ^ 62)) z → IsClear (signed_decimal z)
clear_toll z h = clear_between (2 ^ 62) (2 ^ 62) z (omega arith) (omega arith) h

clear_numbered : (ns : List Numbered) → AllByRecursion IsToll ns → AreClear (flat_map numbered_fields ns)
clear_numbered [] h = tt
clear_numbered (n ∷ ns) h =
    subst AreClear (sym (flat_map-cons numbered_fields n ns)) (clear_decimal n.number (omega (arith, h.0.0)), (clear_toll n.amount h.0.1, clear_numbered ns h.1))

clear_numbers : (ns : List Numbered) → length ns ≤ 300 → AllByRecursion IsToll ns → AreClear (numbers_fields ns)
clear_numbers ns le h = (clear_decimal (length ns) (omega arith), clear_numbered ns h)

pub amounts_tolls : (ns : List Numbered) → AllByRecursion IsAmount ns → AllByRecursion IsToll ns
amounts_tolls [] h = tt
amounts_tolls (n ∷ ns) h = (amount_toll n h.0, amounts_tolls ns h.1)

clear_derived : (n : ℕ) → n ≤ 2000 → AreClear (derived_fields n)
clear_derived zero le = tt
clear_derived (suc n) le = (clear_decimal (suc n) (omega arith), tt)

clear_version : (v : line.Version) → IsClear (version_word v)
clear_version line.version_1 = refl
clear_version line.version_2 = refl

clear_kind : (k : line.Kind) → IsClear (kind_word k)
clear_kind line.assign_kind = refl
clear_kind line.regret_kind = refl
clear_kind line.session_kind = refl
clear_kind line.exchange_kind = refl
clear_kind line.prices_kind = refl

clear_end : (w : line.EndWord) → IsClear (end_word w)
clear_end line.assign_end = refl
clear_end line.exchange_end = refl
clear_end line.prices_end = refl
clear_end line.regret_end = refl
clear_end line.closed_end = refl
clear_end line.open_end = refl
clear_end line.spent_end = refl
clear_end line.limit_end = refl

clear_stage : (s : limits.Stage) → IsClear (stage_word s)
clear_stage limits.accuracy_stage = refl
clear_stage limits.balance_stage = refl
clear_stage limits.fairness_stage = refl

clear_limit : (k : limits.LimitKind) → IsClear (limit_word k)
clear_limit limits.wide_limit = refl
clear_limit limits.pivots_limit = refl
clear_limit limits.rows_limit = refl
clear_limit limits.den_limit = refl

clear_leaf : (word : List ℕ) → IsClear word → (g u : ℕ) (lo hi : ℤ) → (g ≤ 31) × ((1 ≤ u) × (u ≤ 1000)) × IsValue lo × IsValue hi
    → AreClear ((110 ∷ 111 ∷ 100 ∷ 101 ∷ []) ∷ word ∷ decimal g ∷ decimal u ∷ signed_decimal lo ∷ signed_decimal hi ∷ [])
clear_leaf word w g u lo hi h =
    (refl, (w, (clear_decimal g (omega (arith, h.0)), (clear_decimal u (omega (arith, h.1.1)), (clear_value lo h.2, (clear_value hi h.3, tt))))))

pub clear_record : (r : Record) → IsRecord r → AreClear (fields_of r)
clear_record (line.head v k) h = (refl, (clear_version v, (clear_kind k, tt)))
clear_record (line.settings s) h = (
  refl,
  (
    clear_decimal s.weight (omega (arith, h.weight)),
    (
      clear_from 0 1000000000000 s.close_regret (omega arith) h.close_regret,
      (
        clear_from 1 1000000000 s.cap (omega arith) h.cap,
        (
          clear_from 0 1000000000 s.improve (omega arith) h.improve,
          (clear_decimal s.rounds (omega (arith, h.rounds)), (clear_decimal s.branches (omega (arith, h.branches)), clear_derived s.derived h.derived)),
        ),
      ),
    ),
  ),
)
clear_record (line.good n) h = (refl, (clear_name n h, tt))
clear_record (line.exact n) h = (refl, (clear_name n h, tt))
clear_record (line.bidder n o) h =
    (refl, (clear_name n h.0, clear_map (λ amount. amount ≤ 1000000) decimal (λ x p. clear_decimal x (omega (arith, p))) o h.2))
clear_record (line.choose a b n lo hi) h =
    (refl, (refl, (clear_decimal a (omega (arith, h.0)), (clear_decimal b (omega (arith, h.1)), (clear_decimal n (omega (arith, h.2)), (clear_value lo h.3, (clear_value hi h.4, tt)))))))
clear_record (line.buy g u lo hi) h = clear_leaf (98 ∷ 117 ∷ 121 ∷ []) refl g u lo hi h
clear_record (line.sell g u lo hi) h = clear_leaf (115 ∷ 101 ∷ 108 ∷ 108 ∷ []) refl g u lo hi h
clear_record line.assign h = (refl, tt)
clear_record (line.settle n) h = (refl, (clear_decimal n (omega (arith, h)), tt))
clear_record (line.final v) h = (refl, (clear_total v h, tt))
clear_record (line.rival v) h = (refl, (clear_total v h, tt))
clear_record (line.provisional v) h = (refl, (clear_total v h, tt))
clear_record (line.without b v) h = (refl, (clear_decimal b (omega (arith, h.0)), (clear_total v h.1, tt)))
clear_record (line.set s) h = (refl, (clear_bits s, tt))
clear_record (line.step (branch b n)) h = (refl, (clear_decimal b (omega (arith, h.0)), (clear_decimal n (omega (arith, h.1)), tt)))
clear_record (line.step (leaf m)) h = (refl, clear_map IsMultiplier signed_decimal clear_multiplier m h.1)
clear_record (line.step (dead b)) h = (refl, (clear_decimal b (omega (arith, h)), tt))
clear_record (line.near cs) h = (refl, (clear_decimal (length cs) (omega (arith, h.0)), clear_changes cs h.2))
clear_record (line.tolled ns) h = (refl, clear_numbers ns h.0.1 h.2)
clear_record (line.derive l) h = (refl, (clear_between (2 ^ 40) (2 ^ 40) l (omega arith) (omega arith) h, tt))
clear_record (line.amounts b ns) h = (refl, (clear_decimal b (omega (arith, h.0)), clear_numbers ns (omega (arith, h.1.0.1)) (amounts_tolls ns h.1.2)))
clear_record (line.regret a) h = (refl, (clear_from 0 400000000000000 a (omega arith) h, tt))
clear_record (line.prices p) h =
    (refl, (clear_den p.den h.den, clear_map (IsBetween (pos 0) (pos (2 ^ 62))) signed_decimal (λ x b. clear_from 0 (2 ^ 62) x (omega arith) b) p.nums h.each))
clear_record (line.accuracy x d) h = (refl, (clear_violation x h.0, (clear_den d h.1, tt)))
clear_record (line.balance d) h = (refl, (clear_den d h, tt))
clear_record (line.row b w s) h = (refl, (clear_decimal b (omega (arith, h.0)), (clear_den w h.1, (clear_bits s, tt))))
clear_record (line.submit s) h =
    (refl, (clear_name s.name h.name, are_clear-append (counted_list s.lo) (counted_list s.hi) (clear_counted s.lo h.lo_count h.lo) (clear_counted s.hi h.hi_count h.hi)))
clear_record (line.verdict verdict.Accepted) h = (refl, (refl, tt))
clear_record (line.verdict (verdict.Loosened n)) h = (refl, (refl, (clear_decimal n (omega (arith, h)), tt)))
clear_record (line.verdict (verdict.Crossed n)) h = (refl, (refl, (clear_decimal n (omega (arith, h)), tt)))
clear_record (line.verdict verdict.Mrpar) h = (refl, (refl, tt))
clear_record (line.verdict verdict.Improve) h = (refl, (refl, tt))
clear_record (line.verdict verdict.Repeated) h = (refl, (refl, tt))
clear_record (line.verdict verdict.UnknownBidder) h = (refl, (refl, tt))
clear_record (line.verdict verdict.WrongCount) h = (refl, (refl, tt))
clear_record (line.threshold c s) h = (refl, (clear_fraction c h.0, (clear_fraction s h.1, tt)))
clear_record (line.payment n v d p) h =
    (refl, (clear_name n h.0, (clear_from 0 (10 ^ 15) v (omega arith) h.1, (clear_fraction d h.2, (clear_fraction p h.3, tt)))))
clear_record (line.spent v b) h =
    (refl, (clear_total v h.0, (clear_between (2 ^ 127) (2 ^ 127 - 1) b (omega arith) (omega arith) h.1, tt)))
clear_record (line.limit s k x d) h = (refl, (clear_stage s, (clear_limit k, (clear_violation x h.1, (clear_den d h.2, tt)))))
clear_record (line.pool b s) h = (refl, (clear_decimal b (omega (arith, h.0)), (clear_bits s, tt)))
clear_record (line.end w) h = (refl, (clear_end w, tt))
clear_record (line.refused f n p) h =
    (refl, (clear_decimal f (omega (arith, h.0.1)), (clear_decimal n (omega (arith, h.1.1)), (clear_name_bytes p h.2.1, tt))))
clear_record (line.unread f) h = (refl, (clear_decimal f (omega (arith, h.1)), tt))

fields_of_some : (all : List (List ℕ)) → (all ≡ [] → ⊥) → AreClear all → fields (join_with_byte 32 all) ≡ all
fields_of_some [] some p = absurd (some refl)
fields_of_some (f ∷ fs) some p = fields_joined f fs p.0 p.1

-- the fields of a record's text are the record's
pub fields_of_text : (r : Record) → IsRecord r → fields (text_of r) ≡ fields_of r
fields_of_text r h = fields_of_some (fields_of r) (some_field r) (clear_record r h)
