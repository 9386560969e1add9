-- How long the texts of records are.
use Rattle.std.proofs.Common.{◌≡◌, ℕ, zero, suc, ◌+◌, ◌-◌, ◌*◌, ◌<◌, ◌≤◌, ◌^◌, Bool, List, [], ◌∷◌, ◌++◌, length, map, decimal, ℤ, pos, negsuc, neg_ℤ, unsigned_abs, refl, sym, subst, arith, length-append}
use Rattle.std.specs.List.{join_with_byte, AllByRecursion, flat_map}
use Rattle.std.specs.Fmt.{signed_decimal}
use Rattle.std.proofs.lemmas.Bool.Decides.{nat_tests}
use Rattle.std.proofs.lemmas.Fmt.{length-decimal-le_wide}
use Rattle.std.proofs.lemmas.List.{length-map}
use Rattle.std.proofs.lemmas.List.Concat.{flat_map-cons}
use Rattle.ice_defs.specs.declared.Verdict.TheVariants as verdict
use Rattle.ice_defs.specs.Exchange.{IsBetween}
use Rattle.ice_defs.specs.Steps.{branch, leaf, dead}
use Rattle.ice_defs.specs.Fraction.{Fraction}
use Rattle.ice_defs.specs.PricingLimit as limits
use Rattle.ice_journal.specs.Records as line
use Rattle.ice_journal.specs.Records.{Record, Change, Numbered}
use Rattle.ice_journal.specs.Ranges.{IsRecord, IsName, IsValue, IsTotal, IsMultiplier, IsDen, IsViolationField, IsFractionField, IsChange, IsToll}
use Rattle.ice_journal.specs.Spelling.{version_word, kind_word, end_word, stage_word, limit_word, bit_byte, fraction_text, counted_list, change_fields, numbered_fields, derived_fields, fields_of}
use Rattle.ice_journal.proofs.Clear.{abs_between, abs_from, amounts_tolls}
use Rattle.ice_journal.proofs.Joined.{value_length, toll_length}
use Rattle.ice_check.specs.Standing.{RecordsAreShort}

-- the bytes of fields, and a space behind each
abbrev width : List (List ℕ) → ℕ
width [] = 0
width (f ∷ fs) = length f + 1 + width fs

joined : (fields : List (List ℕ)) → length (join_with_byte 32 fields) ≤ width fields
joined [] = omega arith
joined (f ∷ []) = omega arith
joined (f ∷ g ∷ fs) = omega (arith, joined (g ∷ fs), length-append f (32 ∷ join_with_byte 32 (g ∷ fs)))

width-append : (a b : List (List ℕ)) → width (a ++ b) ≡ width a + width b
width-append [] b = omega arith
width-append (f ∷ fs) b = omega (arith, width-append fs b)

-- ---- fields

digits : (n : ℕ) → n < 10 ^ 39 → length (decimal n) ≤ 39
digits n small = length-decimal-le_wide 39 n (omega arith) small (omega arith)

signed : (z : ℤ) → unsigned_abs z < 10 ^ 39 → length (signed_decimal z) ≤ 40
signed (pos n) small = omega (arith, digits n small)
signed (negsuc n) small = omega (arith, digits (suc n) small)

between : (m n : ℕ) (z : ℤ) → m < 10 ^ 38 → n < 10 ^ 39 → m + n < 10 ^ 39 → IsBetween (neg_ℤ (pos m)) (pos n) z → length (signed_decimal z) ≤ 40
between m n z hm hn hs h = signed z (omega (arith, abs_between m n z h))

from : (m n : ℕ) (z : ℤ) → n < 10 ^ 39 → IsBetween (pos m) (pos n) z → length (signed_decimal z) ≤ 40
from m n z hn h = signed z (omega (arith, abs_from m n z h))

value : (z : ℤ) → IsValue z → length (signed_decimal z) ≤ 12
value z h = omega (arith, value_length [] (signed_decimal z) z h refl)

total : (z : ℤ) → IsTotal z → length (signed_decimal z) ≤ 40
total z h = signed z (omega (arith, abs_between 400000000000000 400000000000000 z h))

multiplier : (z : ℤ) → IsMultiplier z → length (signed_decimal z) ≤ 40
multiplier z h = signed z (omega (arith, abs_between (2 ^ 56) (2 ^ 56) z h))

violation : (z : ℤ) → IsViolationField z → length (signed_decimal z) ≤ 40
violation z h = from 0 (2 ^ 100) z (omega arith) h

den : (d : ℕ) → IsDen d → length (decimal d) ≤ 39
den d h = digits d (omega (arith, h.1))

name : (n : List ℕ) → IsName n → length n ≤ 32
name n h = grind (arith, nat_tests)

fraction : (f : Fraction) → IsFractionField f → length (fraction_text f) ≤ 80
fraction f h =
    let num : length (signed_decimal f.num) ≤ 40 = signed f.num (omega (arith, abs_between (10 ^ 18) (10 ^ 18) f.num h.num)) in
    let below : length (decimal f.den) ≤ 39 = digits f.den (omega (arith, h.den.1)) in
    omega (arith, num, below, length-append (signed_decimal f.num) (47 ∷ decimal f.den))

bits : (s : List Bool) → length s ≤ 200 → length (map bit_byte s) ≤ 200
bits s h = omega (arith, h, length-map s bit_byte)

-- ---- lists of fields

listed : {A : Type 0} (P : A → Type 0) (g : A → List ℕ) → ((x : A) → P x → length (g x) ≤ 40) → (xs : List A) → AllByRecursion P xs → width (map g xs) ≤ 41 * length xs
listed P g each [] h = omega arith
listed P g each (x ∷ xs) h = omega (arith, each x h.0, listed P g each xs h.1)

values : (xs : List ℤ) → AllByRecursion IsValue xs → width (map signed_decimal xs) ≤ 13 * length xs
values [] h = omega arith
values (x ∷ xs) h = omega (arith, value x h.0, values xs h.1)

counted_values : (xs : List ℤ) → length xs ≤ 200 → AllByRecursion IsValue xs → width (counted_list xs) ≤ 2640
counted_values xs le h = omega (arith, le, digits (length xs) (omega (arith, le)), values xs h)

changes : (cs : List Change) → AllByRecursion IsChange cs → width (flat_map change_fields cs) ≤ 82 * length cs
changes [] h = omega arith
changes (c ∷ cs) h =
    subst (λ (fs : List (List ℕ)). width fs ≤ 82 * suc (length cs)) (sym (flat_map-cons change_fields c cs))
    (omega (arith, digits c.good (omega (arith, h.0.0)), multiplier c.multiplier h.0.1, changes cs h.1))

numbers : (ns : List Numbered) → AllByRecursion IsToll ns → width (flat_map numbered_fields ns) ≤ 26 * length ns
numbers [] h = omega arith
numbers (n ∷ ns) h =
    let number : length (decimal n.number) ≤ 4 = length-decimal-le_wide 4 n.number (omega arith) (omega (arith, h.0.0)) (omega (arith, h.0.0)) in
    subst (λ (fs : List (List ℕ)). width fs ≤ 26 * suc (length ns)) (sym (flat_map-cons numbered_fields n ns))
    (omega (arith, number, toll_length n.amount h.0.1, numbers ns h.1))

derived : (n : ℕ) → n < 10 ^ 39 → width (derived_fields n) ≤ 40
derived zero small = omega arith
derived (suc n) small = omega (arith, digits (suc n) small)

version : (v : line.Version) → length (version_word v) ≤ 8
version line.version_1 = omega arith
version line.version_2 = omega arith

kind : (k : line.Kind) → length (kind_word k) ≤ 8
kind line.assign_kind = omega arith
kind line.regret_kind = omega arith
kind line.session_kind = omega arith
kind line.exchange_kind = omega arith
kind line.prices_kind = omega arith

end : (w : line.EndWord) → length (end_word w) ≤ 8
end line.assign_end = omega arith
end line.exchange_end = omega arith
end line.prices_end = omega arith
end line.regret_end = omega arith
end line.closed_end = omega arith
end line.open_end = omega arith
end line.spent_end = omega arith
end line.limit_end = omega arith

stage : (s : limits.Stage) → length (stage_word s) ≤ 8
stage limits.accuracy_stage = omega arith
stage limits.balance_stage = omega arith
stage limits.fairness_stage = omega arith

limit : (k : limits.LimitKind) → length (limit_word k) ≤ 8
limit limits.wide_limit = omega arith
limit limits.pivots_limit = omega arith
limit limits.rows_limit = omega arith
limit limits.den_limit = omega arith

-- ---- records

fields : (r : Record) → IsRecord r → width (fields_of r) ≤ 8192
fields (line.head v k) h = omega (arith, version v, kind k)
fields (line.settings s) h =
    omega (
      arith,
      digits s.weight (omega (arith, h.weight)),
      from 0 1000000000000 s.close_regret (omega arith) h.close_regret,
      from 1 1000000000 s.cap (omega arith) h.cap,
      from 0 1000000000 s.improve (omega arith) h.improve,
      digits s.rounds (omega (arith, h.rounds)),
      digits s.branches (omega (arith, h.branches)),
      derived s.derived (omega (arith, h.derived)),
    )
fields (line.good n) h = omega (arith, name n h)
fields (line.exact n) h = omega (arith, name n h)
fields (line.bidder n o) h =
    omega (arith, name n h.0, h.1.1, listed (λ amount. amount ≤ 1000000) decimal (λ x p. omega (arith, digits x (omega (arith, p)))) o h.2)
fields (line.choose a b n lo hi) h =
    omega (arith, digits a (omega (arith, h.0)), digits b (omega (arith, h.1)), digits n (omega (arith, h.2)), value lo h.3, value hi h.4)
fields (line.buy g u lo hi) h = omega (arith, digits g (omega (arith, h.0)), digits u (omega (arith, h.1.1)), value lo h.2, value hi h.3)
fields (line.sell g u lo hi) h = omega (arith, digits g (omega (arith, h.0)), digits u (omega (arith, h.1.1)), value lo h.2, value hi h.3)
fields line.assign h = omega arith
fields (line.settle n) h = omega (arith, digits n (omega (arith, h)))
fields (line.final v) h = omega (arith, total v h)
fields (line.rival v) h = omega (arith, total v h)
fields (line.provisional v) h = omega (arith, total v h)
fields (line.without b v) h = omega (arith, digits b (omega (arith, h.0)), total v h.1)
fields (line.set s) h = omega (arith, bits s h.1)
fields (line.step (branch b n)) h = omega (arith, digits b (omega (arith, h.0)), digits n (omega (arith, h.1)))
fields (line.step (leaf m)) h = omega (arith, h.0.1, listed IsMultiplier signed_decimal multiplier m h.1)
fields (line.step (dead b)) h = omega (arith, digits b (omega (arith, h)))
fields (line.near cs) h = omega (arith, h.0, digits (length cs) (omega (arith, h.0)), changes cs h.2)
fields (line.tolled ns) h = omega (arith, h.0.1, digits (length ns) (omega (arith, h.0.1)), numbers ns h.2)
fields (line.derive l) h = omega (arith, between (2 ^ 40) (2 ^ 40) l (omega arith) (omega arith) (omega arith) h)
fields (line.amounts b ns) h = omega (arith, digits b (omega (arith, h.0)), h.1.0.1, digits (length ns) (omega (arith, h.1.0.1)), numbers ns (amounts_tolls ns h.1.2))
fields (line.regret a) h = omega (arith, from 0 400000000000000 a (omega arith) h)
fields (line.prices p) h =
    omega (arith, den p.den h.den, h.count.1, listed (IsBetween (pos 0) (pos (2 ^ 62))) signed_decimal (λ x b. from 0 (2 ^ 62) x (omega arith) b) p.nums h.each)
fields (line.accuracy x d) h = omega (arith, violation x h.0, den d h.1)
fields (line.balance d) h = omega (arith, den d h)
fields (line.row b w s) h = omega (arith, digits b (omega (arith, h.0)), den w h.1, bits s h.2.1)
fields (line.submit s) h =
    omega (arith, name s.name h.name, counted_values s.lo h.lo_count h.lo, counted_values s.hi h.hi_count h.hi, width-append (counted_list s.lo) (counted_list s.hi))
fields (line.verdict verdict.Accepted) h = omega arith
fields (line.verdict (verdict.Loosened n)) h = omega (arith, digits n (omega (arith, h)))
fields (line.verdict (verdict.Crossed n)) h = omega (arith, digits n (omega (arith, h)))
fields (line.verdict verdict.Mrpar) h = omega arith
fields (line.verdict verdict.Improve) h = omega arith
fields (line.verdict verdict.Repeated) h = omega arith
fields (line.verdict verdict.UnknownBidder) h = omega arith
fields (line.verdict verdict.WrongCount) h = omega arith
fields (line.threshold c s) h = omega (arith, fraction c h.0, fraction s h.1)
fields (line.payment n v d p) h = omega (arith, name n h.0, from 0 (10 ^ 15) v (omega arith) h.1, fraction d h.2, fraction p h.3)
fields (line.spent v b) h = omega (arith, total v h.0, signed b (omega (arith, abs_between (2 ^ 127) (2 ^ 127 - 1) b h.1)))
fields (line.limit s k x d) h = omega (arith, stage s, limit k, violation x h.1, den d h.2)
fields (line.pool b s) h = omega (arith, digits b (omega (arith, h.0)), bits s h.1.1)
fields (line.end w) h = omega (arith, end w)
fields (line.refused f n p) h = omega (arith, digits f (omega (arith, h.0.1)), digits n (omega (arith, h.1.1)), h.2.0.1)
fields (line.unread f) h = omega (arith, digits f (omega (arith, h.1)))

pub records_are_short : RecordsAreShort
records_are_short r h = omega (arith, joined (fields_of r), fields r h)
