-- Each record has one spelling, and each text is the spelling of at most one record.
use Rattle.std.proofs.Common.{◌≡◌, ℕ, zero, suc, ◌-◌, ◌<◌, ◌≤◌, ◌^◌, Bool, true, false, cond, codes, append-nil, length-append, List, [], ◌∷◌, ◌++◌, length, map, decimal, ℤ, pos, negsuc, neg_ℤ, unsigned_abs, Option, Some, None, refl, sym, ap, subst, ◌∙◌, arith}
use Rattle.std.specs.List.{join_with_byte, AllByRecursion, flat_map}
use Rattle.std.specs.Fmt.{signed_decimal}
use Rattle.std.specs.Int.{IsInRange}
use Rattle.std.specs.Str.{bytes_eq}
use Rattle.std.proofs.lemmas.List.{nil_from_length}
use Rattle.std.proofs.lemmas.List.Concat.{flat_map-cons}
use Rattle.std.proofs.lemmas.List.Splits.{join_with_byte-slice_split}
use Rattle.ice_defs.specs.declared.Verdict.{Verdict}
use Rattle.ice_defs.specs.declared.Verdict.TheVariants as verdict
use Rattle.ice_defs.specs.Exchange.{IsBetween, Settings, AreSettings}
use Rattle.ice_defs.specs.Prices.{Prices}
use Rattle.ice_defs.specs.Round.{Submission}
use Rattle.ice_defs.specs.Fraction.{Fraction}
use Rattle.ice_defs.specs.PricingLimit as limits
use Rattle.ice_line.specs.Reading.{Reads}
use Rattle.ice_line.specs.Fields.{fields}
use Rattle.ice_line.proofs.Digits.{decimal_same, decimal_digits}
use Rattle.ice_journal.specs.Records as line
use Rattle.ice_journal.specs.Records.{Record, Change, Numbered}
use Rattle.ice_journal.specs.Ranges.{IsRecord, IsValue, IsMultiplier, IsChange, IsToll, IsFractionField, IsTotal, IsVerdictRecord}
use Rattle.ice_journal.specs.Spelling.{version_word, kind_word, end_word, stage_word, limit_word, bit_byte, fraction_text, counted_list, change_fields, numbered_fields, derived_fields, fields_of, text_of, verdict_fields}
use Rattle.ice_journal.specs.Reading.{Finds}
use Rattle.ice_journal.proofs.Clear.{abs_between, abs_from, amounts_tolls, fields_of_text}
use Rattle.ice_journal.proofs.Listed.{IsOneToOne, front}
use Rattle.ice_journal.proofs.RecordParts.{Part, make, part_fields, in_row, row_of, fields_are}
use Rattle.ice_journal.proofs.RecordParts as row

some_same : {A : Type 0} {x y : A} → Some x ≡ Some y → x ≡ y
some_same e = cc

digit_or_minus : (n k : ℕ) → n < 10 ^ 60 → decimal n ≡ 45 ∷ decimal k → ⊥
digit_or_minus n k small e =
    let digit : IsInRange 48 57 45 = decimal_digits [] (decimal k) 45 n small (sym e) in
    omega (arith, digit.0)

pub signed_same : (y z : ℤ) → unsigned_abs y < 10 ^ 60 → unsigned_abs z < 10 ^ 60 → signed_decimal y ≡ signed_decimal z → y ≡ z
signed_same (pos m) (pos n) hm hn e = ap pos (decimal_same m n hm hn e)
signed_same (pos m) (negsuc n) hm hn e = absurd (digit_or_minus m (suc n) hm e)
signed_same (negsuc m) (pos n) hm hn e = absurd (digit_or_minus n (suc m) hn (sym e))
signed_same (negsuc m) (negsuc n) hm hn e =
    let tails : decimal (suc m) ≡ decimal (suc n) = cc in
    let same : m ≡ n = omega (arith, decimal_same (suc m) (suc n) hm hn tails) in
    ap negsuc same

between_same : (m n : ℕ) (y z : ℤ) → m < 10 ^ 50 → n < 10 ^ 50 → IsBetween (neg_ℤ (pos m)) (pos n) y → IsBetween (neg_ℤ (pos m)) (pos n) z → signed_decimal y ≡ signed_decimal z → y ≡ z
between_same m n y z hm hn p q e = signed_same y z (omega (arith, abs_between m n y p)) (omega (arith, abs_between m n z q)) e

from_same : (m n : ℕ) (y z : ℤ) → n < 10 ^ 50 → IsBetween (pos m) (pos n) y → IsBetween (pos m) (pos n) z → signed_decimal y ≡ signed_decimal z → y ≡ z
from_same m n y z hn p q e = signed_same y z (omega (arith, abs_from m n y p)) (omega (arith, abs_from m n z q)) e

pub value_same : IsOneToOne IsValue signed_decimal
value_same y z p q e = between_same 1000000000 1000000000 y z (omega arith) (omega arith) p q e

pub multiplier_same : IsOneToOne IsMultiplier signed_decimal
multiplier_same y z p q e = between_same (2 ^ 56) (2 ^ 56) y z (omega arith) (omega arith) p q e

total_same : (y z : ℤ) → IsTotal y → IsTotal z → signed_decimal y ≡ signed_decimal z → y ≡ z
total_same y z p q e = between_same 400000000000000 400000000000000 y z (omega arith) (omega arith) p q e

pub map_same : {A : Type 0} (P : A → Type 0) (g : A → List ℕ) → IsOneToOne P g → (xs ys : List A) → AllByRecursion P xs → AllByRecursion P ys → map g xs ≡ map g ys → xs ≡ ys
map_same P g one [] [] p q e = refl
map_same P g one [] (y ∷ ys) p q e = absurd cc
map_same P g one (x ∷ xs) [] p q e = absurd cc
map_same P g one (x ∷ xs) (y ∷ ys) p q e =
    let heads : g x ≡ g y = cc in
    let more : map g xs ≡ map g ys = cc in
    let same : x ≡ y = one x y p.0 q.0 heads in
    let tails : xs ≡ ys = map_same P g one xs ys p.1 q.1 more in
    cc

pub bits_same : (bs cs : List Bool) → map bit_byte bs ≡ map bit_byte cs → bs ≡ cs
bits_same [] [] e = refl
bits_same [] (c ∷ cs) e = absurd cc
bits_same (b ∷ bs) [] e = absurd cc
bits_same (true ∷ bs) (true ∷ cs) e = ap (λ (xs : List Bool). true ∷ xs) (bits_same bs cs (cc))
bits_same (false ∷ bs) (false ∷ cs) e = ap (λ (xs : List Bool). false ∷ xs) (bits_same bs cs (cc))
bits_same (true ∷ bs) (false ∷ cs) e = absurd (let h : ◌≡◌ {A = ℕ} 49 48 = cc in omega arith)
bits_same (false ∷ bs) (true ∷ cs) e = absurd (let h : ◌≡◌ {A = ℕ} 48 49 = cc in omega arith)

changes_same : (bs cs : List Change) → AllByRecursion IsChange bs → AllByRecursion IsChange cs → flat_map change_fields bs ≡ flat_map change_fields cs → bs ≡ cs
changes_same [] [] p q e = refl
changes_same [] (c ∷ cs) p q e = absurd (let h : [] ≡ decimal c.good ∷ signed_decimal c.multiplier ∷ flat_map change_fields cs = e ∙ flat_map-cons change_fields c cs in cc)
changes_same (b ∷ bs) [] p q e = absurd (let h : decimal b.good ∷ signed_decimal b.multiplier ∷ flat_map change_fields bs ≡ [] = sym (flat_map-cons change_fields b bs) ∙ e in cc)
changes_same (b ∷ bs) (c ∷ cs) p q e =
    let all : decimal b.good ∷ signed_decimal b.multiplier ∷ flat_map change_fields bs ≡ decimal c.good ∷ signed_decimal c.multiplier ∷ flat_map change_fields cs = sym (flat_map-cons change_fields b bs) ∙ e ∙ flat_map-cons change_fields c cs in
    let goods : decimal b.good ≡ decimal c.good = cc in
    let numbers : signed_decimal b.multiplier ≡ signed_decimal c.multiplier = cc in
    let more : flat_map change_fields bs ≡ flat_map change_fields cs = cc in
    let good : b.good ≡ c.good = decimal_same b.good c.good (omega (arith, p.0.0)) (omega (arith, q.0.0)) goods in
    let multiplier : b.multiplier ≡ c.multiplier = multiplier_same b.multiplier c.multiplier p.0.1 q.0.1 numbers in
    let tails = changes_same bs cs p.1 q.1 more in
    λ i. record { good = good i; multiplier = multiplier i } ∷ tails i

pub toll_same : (y z : ℤ) → IsBetween (neg_ℤ (pos (2 ^ 62))) (pos (2 ^ 62)) y → IsBetween (neg_ℤ (pos (2 ^ 62))) (pos (2 ^ 62)) z → signed_decimal y ≡ signed_decimal z → y ≡ z
toll_same y z p q e = between_same (2 ^ 62) (2 ^ 62) y z (omega arith) (omega arith) p q e

numbered_same : (bs cs : List Numbered) → AllByRecursion IsToll bs → AllByRecursion IsToll cs → flat_map numbered_fields bs ≡ flat_map numbered_fields cs → bs ≡ cs
numbered_same [] [] p q e = refl
numbered_same [] (c ∷ cs) p q e = absurd (let h : [] ≡ decimal c.number ∷ signed_decimal c.amount ∷ flat_map numbered_fields cs = e ∙ flat_map-cons numbered_fields c cs in cc)
numbered_same (b ∷ bs) [] p q e = absurd (let h : decimal b.number ∷ signed_decimal b.amount ∷ flat_map numbered_fields bs ≡ [] = sym (flat_map-cons numbered_fields b bs) ∙ e in cc)
numbered_same (b ∷ bs) (c ∷ cs) p q e =
    let all : decimal b.number ∷ signed_decimal b.amount ∷ flat_map numbered_fields bs ≡ decimal c.number ∷ signed_decimal c.amount ∷ flat_map numbered_fields cs = sym (flat_map-cons numbered_fields b bs) ∙ e ∙ flat_map-cons numbered_fields c cs in
    let numbers : decimal b.number ≡ decimal c.number = cc in
    let amounts : signed_decimal b.amount ≡ signed_decimal c.amount = cc in
    let more : flat_map numbered_fields bs ≡ flat_map numbered_fields cs = cc in
    let number : b.number ≡ c.number = decimal_same b.number c.number (omega (arith, p.0.0)) (omega (arith, q.0.0)) numbers in
    let amount : b.amount ≡ c.amount = toll_same b.amount c.amount p.0.1 q.0.1 amounts in
    let tails = numbered_same bs cs p.1 q.1 more in
    λ i. record { number = number i; amount = amount i } ∷ tails i

-- a signed number's text has no slash
signed_no_slash : (a rest : List ℕ) (z : ℤ) → unsigned_abs z < 10 ^ 60 → a ++ 47 ∷ rest ≡ signed_decimal z → ⊥
signed_no_slash a rest (pos n) small e =
    let digit : IsInRange 48 57 47 = decimal_digits a rest 47 n small e in
    omega (arith, digit.0)
signed_no_slash [] rest (negsuc n) small e = absurd (let h : ◌≡◌ {A = ℕ} 47 45 = cc in omega arith)
signed_no_slash (x ∷ xs) rest (negsuc n) small e =
    let tails : xs ++ 47 ∷ rest ≡ decimal (suc n) = cc in
    let digit : IsInRange 48 57 47 = decimal_digits xs rest 47 (suc n) small tails in
    omega (arith, digit.0)

abbrev pub HasNoSlash : List ℕ → Type 0
HasNoSlash text = (a rest : List ℕ) → a ++ 47 ∷ rest ≡ text → ⊥

pub slash_same : (a b x y : List ℕ) → HasNoSlash a → HasNoSlash b → a ++ 47 ∷ x ≡ b ++ 47 ∷ y → (a ≡ b) × (x ≡ y)
slash_same [] [] x y p q e = (refl, cc)
slash_same [] (b ∷ bs) x y p q e = absurd (q [] bs (ap (λ c. c ∷ bs) (let h : ◌≡◌ {A = ℕ} 47 b = cc in h)))
slash_same (a ∷ more) [] x y p q e = absurd (p [] more (ap (λ c. c ∷ more) (let h : ◌≡◌ {A = ℕ} 47 a = cc in h)))
slash_same (a ∷ more) (b ∷ bs) x y p q e =
    let heads : a ≡ b = cc in
    let rest : more ++ 47 ∷ x ≡ bs ++ 47 ∷ y = cc in
    let later = slash_same more bs x y (λ c d h. p (a ∷ c) d (ap (λ (xs : List ℕ). a ∷ xs) h)) (λ c d h. q (b ∷ c) d (ap (λ (xs : List ℕ). b ∷ xs) h)) rest in
    (λ i. heads i ∷ later.0 i, later.1)

pub num_no_slash : (f : Fraction) → IsFractionField f → HasNoSlash (signed_decimal f.num)
num_no_slash f h a rest e = signed_no_slash a rest f.num (omega (arith, abs_between (10 ^ 18) (10 ^ 18) f.num h.num)) e

fraction_same : (f g : Fraction) → IsFractionField f → IsFractionField g → fraction_text f ≡ fraction_text g → f ≡ g
fraction_same f g p q e =
    let cut = slash_same (signed_decimal f.num) (signed_decimal g.num) (decimal f.den) (decimal g.den) (num_no_slash f p) (num_no_slash g q) e in
    let num = between_same (10 ^ 18) (10 ^ 18) f.num g.num (omega arith) (omega arith) p.num q.num cut.0 in
    let den = decimal_same f.den g.den (omega (arith, p.den.1)) (omega (arith, q.den.1)) cut.1 in
    λ i. record { num = num i; den = den i }

abbrev version_from : List ℕ → Option line.Version
version_from text =
    cond (bytes_eq text (codes "1")) (Some line.version_1) (
    cond (bytes_eq text (codes "2")) (Some line.version_2) (
    None))

version_from_word : (x : line.Version) → version_from (version_word x) ≡ Some x
version_from_word line.version_1 = refl
version_from_word line.version_2 = refl

version_same : (x y : line.Version) → version_word x ≡ version_word y → x ≡ y
version_same x y e = some_same (sym (version_from_word x) ∙ ap version_from e ∙ version_from_word y)

abbrev kind_from : List ℕ → Option line.Kind
kind_from text =
    cond (bytes_eq text (codes "assign")) (Some line.assign_kind) (
    cond (bytes_eq text (codes "regret")) (Some line.regret_kind) (
    cond (bytes_eq text (codes "session")) (Some line.session_kind) (
    cond (bytes_eq text (codes "exchange")) (Some line.exchange_kind) (
    cond (bytes_eq text (codes "prices")) (Some line.prices_kind) (
    None)))))

kind_from_word : (x : line.Kind) → kind_from (kind_word x) ≡ Some x
kind_from_word line.assign_kind = refl
kind_from_word line.regret_kind = refl
kind_from_word line.session_kind = refl
kind_from_word line.exchange_kind = refl
kind_from_word line.prices_kind = refl

kind_same : (x y : line.Kind) → kind_word x ≡ kind_word y → x ≡ y
kind_same x y e = some_same (sym (kind_from_word x) ∙ ap kind_from e ∙ kind_from_word y)

abbrev end_from : List ℕ → Option line.EndWord
end_from text =
    cond (bytes_eq text (codes "assign")) (Some line.assign_end) (
    cond (bytes_eq text (codes "exchange")) (Some line.exchange_end) (
    cond (bytes_eq text (codes "prices")) (Some line.prices_end) (
    cond (bytes_eq text (codes "regret")) (Some line.regret_end) (
    cond (bytes_eq text (codes "closed")) (Some line.closed_end) (
    cond (bytes_eq text (codes "open")) (Some line.open_end) (
    cond (bytes_eq text (codes "spent")) (Some line.spent_end) (
    cond (bytes_eq text (codes "limit")) (Some line.limit_end) (
    None))))))))

end_from_word : (x : line.EndWord) → end_from (end_word x) ≡ Some x
end_from_word line.assign_end = refl
end_from_word line.exchange_end = refl
end_from_word line.prices_end = refl
end_from_word line.regret_end = refl
end_from_word line.closed_end = refl
end_from_word line.open_end = refl
end_from_word line.spent_end = refl
end_from_word line.limit_end = refl

end_same : (x y : line.EndWord) → end_word x ≡ end_word y → x ≡ y
end_same x y e = some_same (sym (end_from_word x) ∙ ap end_from e ∙ end_from_word y)

abbrev stage_from : List ℕ → Option limits.Stage
stage_from text =
    cond (bytes_eq text (codes "accuracy")) (Some limits.accuracy_stage) (
    cond (bytes_eq text (codes "balance")) (Some limits.balance_stage) (
    cond (bytes_eq text (codes "fairness")) (Some limits.fairness_stage) (
    None)))

stage_from_word : (x : limits.Stage) → stage_from (stage_word x) ≡ Some x
stage_from_word limits.accuracy_stage = refl
stage_from_word limits.balance_stage = refl
stage_from_word limits.fairness_stage = refl

stage_same : (x y : limits.Stage) → stage_word x ≡ stage_word y → x ≡ y
stage_same x y e = some_same (sym (stage_from_word x) ∙ ap stage_from e ∙ stage_from_word y)

abbrev limit_from : List ℕ → Option limits.LimitKind
limit_from text =
    cond (bytes_eq text (codes "wide")) (Some limits.wide_limit) (
    cond (bytes_eq text (codes "pivots")) (Some limits.pivots_limit) (
    cond (bytes_eq text (codes "rows")) (Some limits.rows_limit) (
    cond (bytes_eq text (codes "den")) (Some limits.den_limit) (
    None))))

limit_from_word : (x : limits.LimitKind) → limit_from (limit_word x) ≡ Some x
limit_from_word limits.wide_limit = refl
limit_from_word limits.pivots_limit = refl
limit_from_word limits.rows_limit = refl
limit_from_word limits.den_limit = refl

limit_same : (x y : limits.LimitKind) → limit_word x ≡ limit_word y → x ≡ y
limit_same x y e = some_same (sym (limit_from_word x) ∙ ap limit_from e ∙ limit_from_word y)

abbrev verdict_code : Verdict → ℕ
verdict_code verdict.Accepted = 0
verdict_code (verdict.Loosened n) = 1
verdict_code (verdict.Crossed n) = 2
verdict_code verdict.Mrpar = 3
verdict_code verdict.Improve = 4
verdict_code verdict.Repeated = 5
verdict_code verdict.UnknownBidder = 6
verdict_code verdict.WrongCount = 7

abbrev code_from : List (List ℕ) → Option ℕ
code_from [] = None
code_from (f ∷ fs) =
    cond (bytes_eq f (codes "accepted")) (Some 0) (
    cond (bytes_eq f (codes "40")) (Some 1) (
    cond (bytes_eq f (codes "41")) (Some 2) (
    cond (bytes_eq f (codes "42")) (Some 3) (
    cond (bytes_eq f (codes "43")) (Some 4) (
    cond (bytes_eq f (codes "44")) (Some 5) (
    cond (bytes_eq f (codes "45")) (Some 6) (
    cond (bytes_eq f (codes "46")) (Some 7) (
    None))))))))

code_from_fields : (v : Verdict) → code_from (verdict_fields v) ≡ Some (verdict_code v)
code_from_fields verdict.Accepted = refl
code_from_fields (verdict.Loosened n) = refl
code_from_fields (verdict.Crossed n) = refl
code_from_fields verdict.Mrpar = refl
code_from_fields verdict.Improve = refl
code_from_fields verdict.Repeated = refl
code_from_fields verdict.UnknownBidder = refl
code_from_fields verdict.WrongCount = refl

code_same : (v w : Verdict) → verdict_fields v ≡ verdict_fields w → verdict_code v ≡ verdict_code w
code_same v w e = some_same (sym (code_from_fields v) ∙ ap code_from e ∙ code_from_fields w)

verdict_same : (v w : Verdict) → IsVerdictRecord v → IsVerdictRecord w → verdict_fields v ≡ verdict_fields w → v ≡ w
verdict_same (verdict.Loosened a) (verdict.Loosened b) p q e =
    let nodes : decimal a ≡ decimal b = cc in
    ap (λ n. verdict.Loosened n) (decimal_same a b (omega (arith, p)) (omega (arith, q)) nodes)
verdict_same (verdict.Crossed a) (verdict.Crossed b) p q e =
    let nodes : decimal a ≡ decimal b = cc in
    ap (λ n. verdict.Crossed n) (decimal_same a b (omega (arith, p)) (omega (arith, q)) nodes)
verdict_same verdict.Accepted verdict.Accepted p q e = refl
verdict_same verdict.Mrpar verdict.Mrpar p q e = refl
verdict_same verdict.Improve verdict.Improve p q e = refl
verdict_same verdict.Repeated verdict.Repeated p q e = refl
verdict_same verdict.UnknownBidder verdict.UnknownBidder p q e = refl
verdict_same verdict.WrongCount verdict.WrongCount p q e = refl
verdict_same v w p q e = absurd (omega (arith, code_same v w e))

counted_same : (xs ys : List ℤ) (a b : List (List ℕ)) → length xs ≤ 200 → length ys ≤ 200 → AllByRecursion IsValue xs → AllByRecursion IsValue ys → counted_list xs ++ a ≡ counted_list ys ++ b → (xs ≡ ys) × (a ≡ b)
counted_same xs ys a b hx hy px py e =
    let counts : decimal (length xs) ≡ decimal (length ys) = cc in
    let more : map signed_decimal xs ++ a ≡ map signed_decimal ys ++ b = cc in
    let count = decimal_same (length xs) (length ys) (omega arith) (omega arith) counts in
    let found = front IsValue signed_decimal value_same xs ys a b px py (omega arith) more in
    let none : found.tail ≡ [] = nil_from_length found.tail (omega (arith, ap length found.whole, length-append xs found.tail)) in
    (sym (found.whole ∙ ap (λ (t : List ℤ). xs ++ t) none ∙ append-nil xs), found.spelled ∙ ap (λ (t : List ℤ). map signed_decimal t ++ b) none)

submission_same : (s t : Submission) → IsRecord (line.submit s) → IsRecord (line.submit t) → part_fields row.submit_row s ≡ part_fields row.submit_row t → s ≡ t
submission_same s t p q e =
    let names : s.name ≡ t.name = cc in
    let more : counted_list s.lo ++ counted_list s.hi ≡ counted_list t.lo ++ counted_list t.hi = cc in
    let los = counted_same s.lo t.lo (counted_list s.hi) (counted_list t.hi) p.lo_count q.lo_count p.lo q.lo more in
    let rest : counted_list s.hi ++ [] ≡ counted_list t.hi ++ [] = ap (λ (fs : List (List ℕ)). fs ++ []) los.1 in
    let his = counted_same s.hi t.hi [] [] p.hi_count q.hi_count p.hi q.hi rest in
    λ i. record { name = names i; lo = los.0 i; hi = his.0 i }

derived_same : (m n : ℕ) → m ≤ 2000 → n ≤ 2000 → derived_fields m ≡ derived_fields n → m ≡ n
derived_same zero zero p q e = refl
derived_same zero (suc n) p q e = absurd cc
derived_same (suc m) zero p q e = absurd cc
derived_same (suc m) (suc n) p q e =
    let texts : decimal (suc m) ≡ decimal (suc n) = cc in
    decimal_same (suc m) (suc n) (omega arith) (omega arith) texts

settings_same : (a b : Settings) → AreSettings a → AreSettings b → part_fields row.settings_row a ≡ part_fields row.settings_row b → a ≡ b
settings_same a b p q e =
    let t1 : decimal a.weight ≡ decimal b.weight = cc in
    let t2 : signed_decimal a.close_regret ≡ signed_decimal b.close_regret = cc in
    let t3 : signed_decimal a.cap ≡ signed_decimal b.cap = cc in
    let t4 : signed_decimal a.improve ≡ signed_decimal b.improve = cc in
    let t5 : decimal a.rounds ≡ decimal b.rounds = cc in
    let t6 : decimal a.branches ≡ decimal b.branches = cc in
    let t7 : derived_fields a.derived ≡ derived_fields b.derived = cc in
    let e1 = decimal_same a.weight b.weight (omega (arith, p.weight)) (omega (arith, q.weight)) t1 in
    let e2 = from_same 0 1000000000000 a.close_regret b.close_regret (omega arith) p.close_regret q.close_regret t2 in
    let e3 = from_same 1 1000000000 a.cap b.cap (omega arith) p.cap q.cap t3 in
    let e4 = from_same 0 1000000000 a.improve b.improve (omega arith) p.improve q.improve t4 in
    let e5 = decimal_same a.rounds b.rounds (omega (arith, p.rounds)) (omega (arith, q.rounds)) t5 in
    let e6 = decimal_same a.branches b.branches (omega (arith, p.branches)) (omega (arith, q.branches)) t6 in
    let e7 = derived_same a.derived b.derived p.derived q.derived t7 in
    λ i. record { weight = e1 i; close_regret = e2 i; cap = e3 i; improve = e4 i; rounds = e5 i; branches = e6 i; derived = e7 i }

prices_same : (a b : Prices) → IsRecord (line.prices a) → IsRecord (line.prices b) → part_fields row.prices_row a ≡ part_fields row.prices_row b → a ≡ b
prices_same a b p q e =
    let t1 : decimal a.den ≡ decimal b.den = cc in
    let t2 : map signed_decimal a.nums ≡ map signed_decimal b.nums = cc in
    let e1 = decimal_same a.den b.den (omega (arith, p.den.1)) (omega (arith, q.den.1)) t1 in
    let e2 = map_same (IsBetween (pos 0) (pos (2 ^ 62))) signed_decimal (λ x y m n h. from_same 0 (2 ^ 62) x y (omega arith) m n h) a.nums b.nums p.each q.each t2 in
    λ i. record { den = e1 i; nums = e2 i }

-- what a row's other fields say is said by no other part
pub one_part : (r : row.Row) (a b : Part r) → IsRecord (make r a) → IsRecord (make r b) → part_fields r a ≡ part_fields r b → a ≡ b
one_part row.ice_row a b p q e =
    let t0 : version_word (a.0) ≡ version_word (b.0) = cc in
    let t1 : kind_word (a.1) ≡ kind_word (b.1) = cc in
    let e0 = version_same (a.0) (b.0) t0 in
    let e1 = kind_same (a.1) (b.1) t1 in
    λ i. (e0 i, e1 i)
one_part row.settings_row a b p q e = settings_same a b p q e
one_part row.good_row a b p q e =
    let t0 : (a) ≡ (b) = cc in
    t0
one_part row.exact_row a b p q e =
    let t0 : (a) ≡ (b) = cc in
    t0
one_part row.bidder_row a b p q e =
    let t0 : (a.0) ≡ (b.0) = cc in
    let t1 : map decimal a.1 ≡ map decimal b.1 = cc in
    let e0 = t0 in
    let e1 = map_same (λ amount. amount ≤ 1000000) decimal (λ x y m n h. decimal_same x y (omega (arith, m)) (omega (arith, n)) h) a.1 b.1 p.2 q.2 t1 in
    λ i. (e0 i, e1 i)
one_part row.choose_row a b p q e =
    let t0 : decimal (a.0) ≡ decimal (b.0) = cc in
    let t1 : decimal (a.1) ≡ decimal (b.1) = cc in
    let t2 : decimal (a.2) ≡ decimal (b.2) = cc in
    let t3 : signed_decimal (a.3) ≡ signed_decimal (b.3) = cc in
    let t4 : signed_decimal (a.4) ≡ signed_decimal (b.4) = cc in
    let e0 = decimal_same (a.0) (b.0) (omega (arith, p.0)) (omega (arith, q.0)) t0 in
    let e1 = decimal_same (a.1) (b.1) (omega (arith, p.1)) (omega (arith, q.1)) t1 in
    let e2 = decimal_same (a.2) (b.2) (omega (arith, p.2)) (omega (arith, q.2)) t2 in
    let e3 = value_same (a.3) (b.3) p.3 q.3 t3 in
    let e4 = value_same (a.4) (b.4) p.4 q.4 t4 in
    λ i. (e0 i, e1 i, e2 i, e3 i, e4 i)
one_part row.buy_row a b p q e =
    let t0 : decimal (a.0) ≡ decimal (b.0) = cc in
    let t1 : decimal (a.1) ≡ decimal (b.1) = cc in
    let t2 : signed_decimal (a.2) ≡ signed_decimal (b.2) = cc in
    let t3 : signed_decimal (a.3) ≡ signed_decimal (b.3) = cc in
    let e0 = decimal_same (a.0) (b.0) (omega (arith, p.0)) (omega (arith, q.0)) t0 in
    let e1 = decimal_same (a.1) (b.1) (omega (arith, p.1.1)) (omega (arith, q.1.1)) t1 in
    let e2 = value_same (a.2) (b.2) p.2 q.2 t2 in
    let e3 = value_same (a.3) (b.3) p.3 q.3 t3 in
    λ i. (e0 i, e1 i, e2 i, e3 i)
one_part row.sell_row a b p q e =
    let t0 : decimal (a.0) ≡ decimal (b.0) = cc in
    let t1 : decimal (a.1) ≡ decimal (b.1) = cc in
    let t2 : signed_decimal (a.2) ≡ signed_decimal (b.2) = cc in
    let t3 : signed_decimal (a.3) ≡ signed_decimal (b.3) = cc in
    let e0 = decimal_same (a.0) (b.0) (omega (arith, p.0)) (omega (arith, q.0)) t0 in
    let e1 = decimal_same (a.1) (b.1) (omega (arith, p.1.1)) (omega (arith, q.1.1)) t1 in
    let e2 = value_same (a.2) (b.2) p.2 q.2 t2 in
    let e3 = value_same (a.3) (b.3) p.3 q.3 t3 in
    λ i. (e0 i, e1 i, e2 i, e3 i)
one_part row.assign_row a b p q e = refl
one_part row.settle_row a b p q e =
    let t0 : decimal (a) ≡ decimal (b) = cc in
    decimal_same (a) (b) (omega (arith, p)) (omega (arith, q)) t0
one_part row.final_row a b p q e =
    let t0 : signed_decimal (a) ≡ signed_decimal (b) = cc in
    total_same (a) (b) p q t0
one_part row.rival_row a b p q e =
    let t0 : signed_decimal (a) ≡ signed_decimal (b) = cc in
    total_same (a) (b) p q t0
one_part row.provisional_row a b p q e =
    let t0 : signed_decimal (a) ≡ signed_decimal (b) = cc in
    total_same (a) (b) p q t0
one_part row.without_row a b p q e =
    let t0 : decimal (a.0) ≡ decimal (b.0) = cc in
    let t1 : signed_decimal (a.1) ≡ signed_decimal (b.1) = cc in
    let e0 = decimal_same (a.0) (b.0) (omega (arith, p.0)) (omega (arith, q.0)) t0 in
    let e1 = total_same (a.1) (b.1) p.1 q.1 t1 in
    λ i. (e0 i, e1 i)
one_part row.set_row a b p q e =
    let t0 : map bit_byte (a) ≡ map bit_byte (b) = cc in
    bits_same (a) (b) t0
one_part row.branch_row a b p q e =
    let t0 : decimal (a.0) ≡ decimal (b.0) = cc in
    let t1 : decimal (a.1) ≡ decimal (b.1) = cc in
    let e0 = decimal_same (a.0) (b.0) (omega (arith, p.0)) (omega (arith, q.0)) t0 in
    let e1 = decimal_same (a.1) (b.1) (omega (arith, p.1)) (omega (arith, q.1)) t1 in
    λ i. (e0 i, e1 i)
one_part row.leaf_row a b p q e =
    let t0 : map signed_decimal a ≡ map signed_decimal b = cc in
    map_same IsMultiplier signed_decimal multiplier_same a b p.1 q.1 t0
one_part row.dead_row a b p q e =
    let t0 : decimal (a) ≡ decimal (b) = cc in
    decimal_same (a) (b) (omega (arith, p)) (omega (arith, q)) t0
one_part row.near_row a b p q e =
    let t0 : flat_map change_fields a ≡ flat_map change_fields b = cc in
    changes_same a b p.2 q.2 t0
one_part row.tolled_row a b p q e =
    let t0 : flat_map numbered_fields a ≡ flat_map numbered_fields b = cc in
    numbered_same a b p.2 q.2 t0
one_part row.derive_row a b p q e =
    let t0 : signed_decimal (a) ≡ signed_decimal (b) = cc in
    between_same (2 ^ 40) (2 ^ 40) (a) (b) (omega arith) (omega arith) p q t0
one_part row.amounts_row a b p q e =
    let t0 : decimal (a.0) ≡ decimal (b.0) = cc in
    let t1 : flat_map numbered_fields (a.1) ≡ flat_map numbered_fields (b.1) = cc in
    let e0 = decimal_same (a.0) (b.0) (omega (arith, p.0)) (omega (arith, q.0)) t0 in
    let e1 = numbered_same (a.1) (b.1) (amounts_tolls a.1 p.1.2) (amounts_tolls b.1 q.1.2) t1 in
    λ i. (e0 i, e1 i)
one_part row.regret_row a b p q e =
    let t0 : signed_decimal (a) ≡ signed_decimal (b) = cc in
    from_same 0 (400000000000000) (a) (b) (omega arith) p q t0
one_part row.prices_row a b p q e = prices_same a b p q e
one_part row.accuracy_row a b p q e =
    let t0 : signed_decimal (a.0) ≡ signed_decimal (b.0) = cc in
    let t1 : decimal (a.1) ≡ decimal (b.1) = cc in
    let e0 = from_same 0 (2 ^ 100) (a.0) (b.0) (omega arith) p.0 q.0 t0 in
    let e1 = decimal_same (a.1) (b.1) (omega (arith, p.1.1)) (omega (arith, q.1.1)) t1 in
    λ i. (e0 i, e1 i)
one_part row.balance_row a b p q e =
    let t0 : decimal (a) ≡ decimal (b) = cc in
    decimal_same (a) (b) (omega (arith, p.1)) (omega (arith, q.1)) t0
one_part row.row_row a b p q e =
    let t0 : decimal (a.0) ≡ decimal (b.0) = cc in
    let t1 : decimal (a.1) ≡ decimal (b.1) = cc in
    let t2 : map bit_byte (a.2) ≡ map bit_byte (b.2) = cc in
    let e0 = decimal_same (a.0) (b.0) (omega (arith, p.0)) (omega (arith, q.0)) t0 in
    let e1 = decimal_same (a.1) (b.1) (omega (arith, p.1.1)) (omega (arith, q.1.1)) t1 in
    let e2 = bits_same (a.2) (b.2) t2 in
    λ i. (e0 i, e1 i, e2 i)
one_part row.submit_row a b p q e = submission_same a b p q e
one_part row.verdict_row a b p q e = verdict_same a b p q e
one_part row.threshold_row a b p q e =
    let t0 : fraction_text (a.0) ≡ fraction_text (b.0) = cc in
    let t1 : fraction_text (a.1) ≡ fraction_text (b.1) = cc in
    let e0 = fraction_same (a.0) (b.0) p.0 q.0 t0 in
    let e1 = fraction_same (a.1) (b.1) p.1 q.1 t1 in
    λ i. (e0 i, e1 i)
one_part row.payment_row a b p q e =
    let t0 : (a.0) ≡ (b.0) = cc in
    let t1 : signed_decimal (a.1) ≡ signed_decimal (b.1) = cc in
    let t2 : fraction_text (a.2) ≡ fraction_text (b.2) = cc in
    let t3 : fraction_text (a.3) ≡ fraction_text (b.3) = cc in
    let e0 = t0 in
    let e1 = from_same 0 (10 ^ 15) (a.1) (b.1) (omega arith) p.1 q.1 t1 in
    let e2 = fraction_same (a.2) (b.2) p.2 q.2 t2 in
    let e3 = fraction_same (a.3) (b.3) p.3 q.3 t3 in
    λ i. (e0 i, e1 i, e2 i, e3 i)
one_part row.spent_row a b p q e =
    let t0 : signed_decimal (a.0) ≡ signed_decimal (b.0) = cc in
    let t1 : signed_decimal (a.1) ≡ signed_decimal (b.1) = cc in
    let e0 = total_same (a.0) (b.0) p.0 q.0 t0 in
    let e1 = between_same (2 ^ 127) (2 ^ 127 - 1) (a.1) (b.1) (omega arith) (omega arith) p.1 q.1 t1 in
    λ i. (e0 i, e1 i)
one_part row.limit_row a b p q e =
    let t0 : stage_word (a.0) ≡ stage_word (b.0) = cc in
    let t1 : limit_word (a.1) ≡ limit_word (b.1) = cc in
    let t2 : signed_decimal (a.2) ≡ signed_decimal (b.2) = cc in
    let t3 : decimal (a.3) ≡ decimal (b.3) = cc in
    let e0 = stage_same (a.0) (b.0) t0 in
    let e1 = limit_same (a.1) (b.1) t1 in
    let e2 = from_same 0 (2 ^ 100) (a.2) (b.2) (omega arith) p.1 q.1 t2 in
    let e3 = decimal_same (a.3) (b.3) (omega (arith, p.2.1)) (omega (arith, q.2.1)) t3 in
    λ i. (e0 i, e1 i, e2 i, e3 i)
one_part row.pool_row a b p q e =
    let t0 : decimal (a.0) ≡ decimal (b.0) = cc in
    let t1 : map bit_byte (a.1) ≡ map bit_byte (b.1) = cc in
    let e0 = decimal_same (a.0) (b.0) (omega (arith, p.0)) (omega (arith, q.0)) t0 in
    let e1 = bits_same (a.1) (b.1) t1 in
    λ i. (e0 i, e1 i)
one_part row.end_row a b p q e =
    let t0 : end_word (a) ≡ end_word (b) = cc in
    end_same (a) (b) t0
one_part row.refused_row a b p q e =
    let t0 : decimal (a.0) ≡ decimal (b.0) = cc in
    let t1 : decimal (a.1) ≡ decimal (b.1) = cc in
    let t2 : (a.2) ≡ (b.2) = cc in
    let e0 = decimal_same (a.0) (b.0) (omega (arith, p.0.1)) (omega (arith, q.0.1)) t0 in
    let e1 = decimal_same (a.1) (b.1) (omega (arith, p.1.1)) (omega (arith, q.1.1)) t1 in
    let e2 = t2 in
    λ i. (e0 i, e1 i, e2 i)
one_part row.unread_row a b p q e =
    let t0 : decimal (a) ≡ decimal (b) = cc in
    decimal_same (a) (b) (omega (arith, p.1)) (omega (arith, q.1)) t0

pub one_record : (a b : Record) → IsRecord a → IsRecord b → fields_of a ≡ fields_of b → a ≡ b
one_record a b p q e =
    let found = row_of b in
    let at = in_row found.0 (part_fields found.0 found.1.0) a (sym (fields_are found.0 found.1.0) ∙ sym (ap fields_of found.1.1) ∙ sym e) in
    let same = one_part found.0 at.0 found.1.0 (subst IsRecord at.1 p) (subst IsRecord found.1.1 q) (sym at.2) in
    at.1 ∙ ap (make found.0) same ∙ sym found.1.1

-- a text is the spelling of one record
pub one_spelling : (a b : Record) → IsRecord a → IsRecord b → text_of a ≡ text_of b → a ≡ b
one_spelling a b p q e = one_record a b p q (sym (fields_of_text a p) ∙ ap fields e ∙ fields_of_text b q)

-- a record that is found by its fields is the one of the text
pub text_found : (text : List ℕ) (r : Option Record) → Finds r IsRecord fields_of (fields text) → Reads r IsRecord text_of text
text_found text None none = λ x lawful e. none x lawful (ap fields e ∙ fields_of_text x lawful)
text_found text (Some x) found =
    let spelled : text ≡ text_of x = sym (join_with_byte-slice_split 32 text) ∙ ap (join_with_byte 32) found.1 in
    (found.0, spelled, λ y lawful e. one_spelling y x lawful found.0 (sym e ∙ spelled))
