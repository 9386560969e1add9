-- Bytes are the lines of one list of records, or have one least line at fault.
use Rattle.std.proofs.Common.{◌≡◌, ℕ, ◌<◌, ltb, List, [], ◌∷◌, ◌++◌, length, Contains, refl, sym, ap, ◌∙◌, append_assoc, arith, Result, Ok, Err}
use Rattle.std.specs.List.{AllByRecursion, join_with_byte}
use Rattle.std.proofs.lemmas.Bool.{ltb-true, and_parts}
use Rattle.std.proofs.lemmas.List.{append-nil}
use Rattle.std.proofs.lemmas.List.Concat.{flat_map-cons}
use Rattle.std.proofs.lemmas.List.Elements.{Contains-append_right}
use Rattle.ice_defs.proofs.Lists.{all-append}
use Rattle.ice_journal.specs.Records.{Record}
use Rattle.ice_journal.specs.Ranges.{IsRecord}
use Rattle.ice_journal.specs.Spelling.{fields_of, text_of, line_of}
use Rattle.ice_journal.specs.Journal.{bytes_of, IsJournal, IsNoRecord, ComesTo, LinesFault, grammar, unended, IsJournalOf}
use Rattle.ice_journal.proofs.Clear.{IsClear, AreClear, is_clear, clear_record}
use Rattle.ice_journal.proofs.OneSpelling.{one_spelling}

-- no newline
abbrev pub IsOneLine : List ℕ → Type 0
IsOneLine text = AllByRecursion (λ b. b ≡ 10 → ⊥) text

pub one_line : (text : List ℕ) → (Contains text 10 → ⊥) → IsOneLine text
one_line [] none = tt
one_line (b ∷ bs) none = (λ e. none (0, omega arith, e), one_line bs (λ h. none (Contains-append_right (b ∷ []) bs 10 h)))

pub clear_line : (field : List ℕ) → IsClear field → IsOneLine field
clear_line [] p = tt
clear_line (b ∷ bs) p =
    let h = and_parts (ltb 32 b) (is_clear bs) p in
    let above : 32 < b = ltb-true 32 b h.0 in
    (λ e. absurd (omega arith), clear_line bs h.1)

joined_line : (all : List (List ℕ)) → AreClear all → IsOneLine (join_with_byte 32 all)
joined_line [] p = tt
joined_line (f ∷ []) p = clear_line f p.0
joined_line (f ∷ g ∷ fs) p = all-append (λ b. b ≡ 10 → ⊥) f (32 ∷ join_with_byte 32 (g ∷ fs)) (clear_line f p.0) (λ e. absurd (omega arith), joined_line (g ∷ fs) p.1)

pub record_line : (r : Record) → IsRecord r → IsOneLine (text_of r)
record_line r h = joined_line (fields_of r) (clear_record r h)

-- the first newline ends the first line
pub first_line : (a b x y : List ℕ) → IsOneLine a → IsOneLine b → a ++ 10 ∷ x ≡ b ++ 10 ∷ y → (a ≡ b) × (x ≡ y)
first_line [] [] x y p q e = (refl, cc)
first_line [] (b ∷ bs) x y p q e = absurd (q.0 (cc))
first_line (a ∷ more) [] x y p q e = absurd (p.0 (cc))
first_line (a ∷ more) (b ∷ bs) x y p q e =
    let rest : more ++ 10 ∷ x ≡ bs ++ 10 ∷ y = cc in
    let h = first_line more bs x y p.1 q.1 rest in
    let heads : a ≡ b = cc in
    (λ i. heads i ∷ h.0 i, h.1)

pub no_newline : (a b x : List ℕ) → IsOneLine a → a ≡ b ++ 10 ∷ x → ⊥
no_newline [] [] x p e = absurd cc
no_newline [] (b ∷ bs) x p e = absurd cc
no_newline (a ∷ more) [] x p e = p.0 (cc)
no_newline (a ∷ more) (b ∷ bs) x p e = no_newline more bs x p.1 (cc)

pub some_line : (text after : List ℕ) → [] ≡ text ++ 10 ∷ after → ⊥
some_line [] after e = absurd cc
some_line (b ∷ bs) after e = absurd cc

-- no line of a record comes next
abbrev pub IsStuck : List ℕ → Type 0
IsStuck rest = (r : Record) (after : List ℕ) → IsRecord r → rest ≡ text_of r ++ 10 ∷ after → ⊥

stuck_nil : IsStuck []
stuck_nil r after h e = some_line (text_of r) after e

stuck_grammar : (text after : List ℕ) → IsOneLine text → IsNoRecord text → IsStuck (text ++ 10 ∷ after)
stuck_grammar text after p none r more h e = none r h (first_line text (text_of r) after more p (record_line r h) e).0

stuck_unended : (text : List ℕ) → IsOneLine text → IsStuck (text ++ [])
stuck_unended text p r after h e = no_newline text (text_of r) after p (sym (append-nil text) ∙ e)

pub lines_then : (r : Record) (rs : List Record) (after : List ℕ) → bytes_of (r ∷ rs) ++ after ≡ text_of r ++ 10 ∷ (bytes_of rs ++ after)
lines_then r rs after = rw flat_map-cons (append_assoc (line_of r) (bytes_of rs) after ∙ append_assoc (text_of r) (10 ∷ []) (bytes_of rs ++ after))

abbrev pub SameLines : List Record → List Record → List ℕ → List ℕ → Type 0
SameLines a b x y = (a ≡ b) × (x ≡ y)

same_lines : (a b : List Record) (x y : List ℕ) → AllByRecursion IsRecord a → AllByRecursion IsRecord b → IsStuck x → IsStuck y → bytes_of a ++ x ≡ bytes_of b ++ y → SameLines a b x y
same_lines [] [] x y p q sx sy e = (refl, e)
same_lines [] (b ∷ bs) x y p q sx sy e = absurd (sx b (bytes_of bs ++ y) q.0 (e ∙ lines_then b bs y))
same_lines (a ∷ rest) [] x y p q sx sy e = absurd (sy a (bytes_of rest ++ x) p.0 (sym e ∙ lines_then a rest x))
same_lines (a ∷ rest) (b ∷ bs) x y p q sx sy e =
    let cut = first_line (text_of a) (text_of b) (bytes_of rest ++ x) (bytes_of bs ++ y) (record_line a p.0) (record_line b q.0) (sym (lines_then a rest x) ∙ e ∙ lines_then b bs y) in
    let heads : a ≡ b = one_spelling a b p.0 q.0 cut.0 in
    let later = same_lines rest bs x y p.1 q.1 sx sy cut.1 in
    (λ i. heads i ∷ later.0 i, later.1)

-- the records at the front of bytes, and what stands after them
record Front (bytes : List ℕ) (records : List Record) (rest : List ℕ) : Type 0 where
  lawful : AllByRecursion IsRecord records
  bytes_are : bytes ≡ bytes_of records ++ rest
  stuck : IsStuck rest

same_fronts : (bytes : List ℕ) (a b : List Record) (x y : List ℕ) → Front bytes a x → Front bytes b y → SameLines a b x y
same_fronts bytes a b x y p q = same_lines a b x y p.lawful q.lawful p.stuck q.stuck (sym p.bytes_are ∙ q.bytes_are)

journal_front : (bytes : List ℕ) (records : List Record) → IsJournal bytes records → Front bytes records []
journal_front bytes records j = record { lawful = j.lawful; bytes_are = j.spelled ∙ sym (append-nil (bytes_of records)); stuck = stuck_nil }

grammar_front : (bytes text after : List ℕ) (n : ℕ) (comes : ComesTo bytes n text (10 ∷ after)) → IsNoRecord text → Front bytes comes.before (text ++ 10 ∷ after)
grammar_front bytes text after n comes none = record { lawful = comes.lawful; bytes_are = comes.bytes_are; stuck = stuck_grammar text after (one_line text comes.one_line) none }

unended_front : (bytes text : List ℕ) (n : ℕ) (comes : ComesTo bytes n text []) → Front bytes comes.before (text ++ [])
unended_front bytes text n comes = record { lawful = comes.lawful; bytes_are = comes.bytes_are; stuck = stuck_unended text (one_line text comes.one_line) }

same_number : (bytes t u x y : List ℕ) (m n : ℕ) (a : ComesTo bytes m t x) (b : ComesTo bytes n u y) → a.before ≡ b.before → m ≡ n
same_number bytes t u x y m n a b e = omega (arith, a.number_is, b.number_is, ap length e)

not_both : (text u after : List ℕ) → IsOneLine u → text ++ 10 ∷ after ≡ u ++ [] → ⊥
not_both text u after p e = no_newline u text after p (sym (append-nil u) ∙ sym e)

pub one_answer : (bytes : List ℕ) (a b : Result (List Record) LinesFault) → IsJournalOf bytes a → IsJournalOf bytes b → a ≡ b
one_answer bytes (Ok a) (Ok b) p q = ap (λ x. Ok x) (same_fronts bytes a b [] [] (journal_front bytes a p) (journal_front bytes b q)).0
one_answer bytes (Ok a) (Err (grammar n)) p (text, after, comes, none) =
    absurd (some_line text after (same_fronts bytes a comes.before [] (text ++ 10 ∷ after) (journal_front bytes a p) (grammar_front bytes text after n comes none)).1)
one_answer bytes (Ok a) (Err (unended n)) p (text, comes, some) =
    absurd (omega (arith, some, ap length ((same_fronts bytes a comes.before [] (text ++ []) (journal_front bytes a p) (unended_front bytes text n comes)).1 ∙ append-nil text)))
one_answer bytes (Err (grammar n)) (Ok b) (text, after, comes, none) q =
    absurd (some_line text after (same_fronts bytes b comes.before [] (text ++ 10 ∷ after) (journal_front bytes b q) (grammar_front bytes text after n comes none)).1)
one_answer bytes (Err (unended n)) (Ok b) (text, comes, some) q =
    absurd (omega (arith, some, ap length ((same_fronts bytes b comes.before [] (text ++ []) (journal_front bytes b q) (unended_front bytes text n comes)).1 ∙ append-nil text)))
one_answer bytes (Err (grammar m)) (Err (grammar n)) (t, x, a, p) (u, y, b, q) =
    ap (λ k. Err (grammar k)) (same_number bytes t u (10 ∷ x) (10 ∷ y) m n a b (same_fronts bytes a.before b.before (t ++ 10 ∷ x) (u ++ 10 ∷ y) (grammar_front bytes t x m a p) (grammar_front bytes u y n b q)).0)
one_answer bytes (Err (grammar m)) (Err (unended n)) (t, x, a, p) (u, b, some) =
    absurd (not_both t u x (one_line u b.one_line) (same_fronts bytes a.before b.before (t ++ 10 ∷ x) (u ++ []) (grammar_front bytes t x m a p) (unended_front bytes u n b)).1)
one_answer bytes (Err (unended m)) (Err (grammar n)) (t, a, some) (u, y, b, q) =
    absurd (not_both u t y (one_line t a.one_line) (same_fronts bytes b.before a.before (u ++ 10 ∷ y) (t ++ []) (grammar_front bytes u y n b q) (unended_front bytes t m a)).1)
one_answer bytes (Err (unended m)) (Err (unended n)) (t, a, some) (u, b, more) =
    ap (λ k. Err (unended k)) (same_number bytes t u [] [] m n a b (same_fronts bytes a.before b.before (t ++ []) (u ++ []) (unended_front bytes t m a) (unended_front bytes u n b)).0)
