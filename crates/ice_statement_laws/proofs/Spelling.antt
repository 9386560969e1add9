-- Each line of a statement has one spelling, and bytes are the
-- lines of one statement or have one least line at fault.
use Rattle.std.proofs.Common.{◌≡◌, ℕ, Bool, true, false, ltb, List, [], ◌∷◌, ◌++◌, map, length, codes, refl, sym, ap, ◌∙◌, append_assoc, arith}
use Rattle.std.specs.List.{AllByRecursion, list_all}
use Rattle.std.proofs.lemmas.Bool.{and_parts, ltb-true}
use Rattle.std.proofs.lemmas.List.{append-nil}
use Rattle.std.proofs.lemmas.List.Concat.{flat_map-cons}
use Rattle.ice_defs.specs.declared.Verdict.TheVariants as verdict
use Rattle.ice_defs.specs.Steps.{branch, leaf, dead}
use Rattle.ice_journal.specs.Records.{Record, EndWord, assign_end, exchange_end, prices_end, regret_end, closed_end, open_end, spent_end, limit_end}
use Rattle.ice_journal.specs.Records as line
use Rattle.ice_journal.specs.Ranges.{IsName, IsRecord}
use Rattle.ice_journal.specs.Spelling.{bit_byte, bits, text_of}
use Rattle.ice_journal.specs.Journal.{LinesFault, grammar, unended}
use Rattle.ice_statement_laws.specs.Statement.{StatementLine, named, shown, kept, offered, ended, statement_text}
use Rattle.ice_statement_laws.specs.Texts.{IsLine, line_text, bytes_of_lines, AreLines, IsNoLine, LinesComeTo, IsLineFault}
use Rattle.ice_journal.proofs.Journals.{IsOneLine, one_line, clear_line, first_line, no_newline, some_line}
use Rattle.ice_journal.proofs.Clear.{clear_name}
use Rattle.ice_journal.proofs.OneSpelling.{bits_same}

-- ---- no line of a record is another line of a statement

-- the first two bytes, and the fifth and sixth
abbrev first : List ℕ → ℕ
first [] = 0
first (b ∷ bs) = b

abbrev later : List ℕ → List ℕ
later [] = []
later (b ∷ bs) = bs

abbrev second : List ℕ → ℕ
second bs = first (later bs)

abbrev sixth : List ℕ → ℕ
sixth bs = first (later (later (later (later (later bs)))))

end_sixth : (word : EndWord) → sixth (text_of (line.end word)) ≡ 116 → ⊥
end_sixth assign_end e = absurd (omega (arith, e))
end_sixth exchange_end e = absurd (omega (arith, e))
end_sixth prices_end e = absurd (omega (arith, e))
end_sixth regret_end e = absurd (omega (arith, e))
end_sixth closed_end e = absurd (omega (arith, e))
end_sixth open_end e = absurd (omega (arith, e))
end_sixth spent_end e = absurd (omega (arith, e))
end_sixth limit_end e = absurd (omega (arith, e))

named_apart : (r : Record) → first (text_of r) ≡ 115 → second (text_of r) ≡ 116 → ⊥
named_apart (line.step (leaf [])) e f = absurd (omega (arith, e))
named_apart (line.step (leaf (m ∷ ms))) e f = absurd (omega (arith, e))
named_apart (line.step (branch b n)) e f = absurd (omega (arith, e))
named_apart (line.step (dead b)) e f = absurd (omega (arith, e))
named_apart (line.verdict verdict.Accepted) e f = absurd (omega (arith, e))
named_apart (line.verdict (verdict.Loosened n)) e f = absurd (omega (arith, e))
named_apart (line.verdict (verdict.Crossed n)) e f = absurd (omega (arith, e))
named_apart (line.verdict other) e f = absurd (omega (arith, e))
named_apart (line.settings s) e f = absurd (omega (arith, f))
named_apart (line.settle n) e f = absurd (omega (arith, f))
named_apart (line.set s) e f = absurd (omega (arith, f))
named_apart (line.submit s) e f = absurd (omega (arith, f))
named_apart (line.spent v b) e f = absurd (omega (arith, f))
named_apart other e f = absurd (omega (arith, e))

kept_apart : (r : Record) → first (text_of r) ≡ 107 → ⊥
kept_apart (line.step (leaf [])) e = absurd (omega (arith, e))
kept_apart (line.step (leaf (m ∷ ms))) e = absurd (omega (arith, e))
kept_apart (line.step (branch b n)) e = absurd (omega (arith, e))
kept_apart (line.step (dead b)) e = absurd (omega (arith, e))
kept_apart (line.verdict verdict.Accepted) e = absurd (omega (arith, e))
kept_apart (line.verdict (verdict.Loosened n)) e = absurd (omega (arith, e))
kept_apart (line.verdict (verdict.Crossed n)) e = absurd (omega (arith, e))
kept_apart (line.verdict other) e = absurd (omega (arith, e))
kept_apart other e = absurd (omega (arith, e))

offered_apart : (r : Record) → first (text_of r) ≡ 111 → ⊥
offered_apart (line.step (leaf [])) e = absurd (omega (arith, e))
offered_apart (line.step (leaf (m ∷ ms))) e = absurd (omega (arith, e))
offered_apart (line.step (branch b n)) e = absurd (omega (arith, e))
offered_apart (line.step (dead b)) e = absurd (omega (arith, e))
offered_apart (line.verdict verdict.Accepted) e = absurd (omega (arith, e))
offered_apart (line.verdict (verdict.Loosened n)) e = absurd (omega (arith, e))
offered_apart (line.verdict (verdict.Crossed n)) e = absurd (omega (arith, e))
offered_apart (line.verdict other) e = absurd (omega (arith, e))
offered_apart other e = absurd (omega (arith, e))

ended_apart : (r : Record) → first (text_of r) ≡ 101 → second (text_of r) ≡ 110 → sixth (text_of r) ≡ 116 → ⊥
ended_apart (line.step (leaf [])) e f g = absurd (omega (arith, e))
ended_apart (line.step (leaf (m ∷ ms))) e f g = absurd (omega (arith, e))
ended_apart (line.step (branch b n)) e f g = absurd (omega (arith, e))
ended_apart (line.step (dead b)) e f g = absurd (omega (arith, e))
ended_apart (line.verdict verdict.Accepted) e f g = absurd (omega (arith, e))
ended_apart (line.verdict (verdict.Loosened n)) e f g = absurd (omega (arith, e))
ended_apart (line.verdict (verdict.Crossed n)) e f g = absurd (omega (arith, e))
ended_apart (line.verdict other) e f g = absurd (omega (arith, e))
ended_apart (line.exact name) e f g = absurd (omega (arith, f))
ended_apart (line.end word) e f g = end_sixth word g
ended_apart other e f g = absurd (omega (arith, e))

-- ---- one spelling

module _ (one_spelling : (a b : Record) → IsRecord a → IsRecord b → text_of a ≡ text_of b → a ≡ b) where
  pub one_line_spelling : (a b : StatementLine) → IsLine a → IsLine b → statement_text a ≡ statement_text b → a ≡ b
  one_line_spelling (named n) (named m) p q e = ap named (ap (λ bs. later (later (later (later (later (later (later (later (later (later bs)))))))))) e)
  one_line_spelling (named n) (shown r) p q e = absurd (named_apart r (sym (ap first e)) (sym (ap second e)))
  one_line_spelling (named n) (kept s) p q e = absurd (omega (arith, ap first e))
  one_line_spelling (named n) (offered s) p q e = absurd (omega (arith, ap first e))
  one_line_spelling (named n) ended p q e = absurd (omega (arith, ap first e))
  one_line_spelling (shown r) (named n) p q e = absurd (named_apart r (ap first e) (ap second e))
  one_line_spelling (shown r) (shown s) p q e = ap shown (one_spelling r s p q e)
  one_line_spelling (shown r) (kept s) p q e = absurd (kept_apart r (ap first e))
  one_line_spelling (shown r) (offered s) p q e = absurd (offered_apart r (ap first e))
  one_line_spelling (shown r) ended p q e = absurd (ended_apart r (ap first e) (ap second e) (ap sixth e))
  one_line_spelling (kept s) (named n) p q e = absurd (omega (arith, ap first e))
  one_line_spelling (kept s) (shown r) p q e = absurd (kept_apart r (sym (ap first e)))
  one_line_spelling (kept s) (kept t) p q e = ap kept (bits_same s t (ap (λ bs. later (later (later (later (later bs))))) e))
  one_line_spelling (kept s) (offered t) p q e = absurd (omega (arith, ap first e))
  one_line_spelling (kept s) ended p q e = absurd (omega (arith, ap first e))
  one_line_spelling (offered s) (named n) p q e = absurd (omega (arith, ap first e))
  one_line_spelling (offered s) (shown r) p q e = absurd (offered_apart r (sym (ap first e)))
  one_line_spelling (offered s) (kept t) p q e = absurd (omega (arith, ap first e))
  one_line_spelling (offered s) (offered t) p q e = ap offered (bits_same s t (ap (λ bs. later (later (later (later (later (later (later (later bs)))))))) e))
  one_line_spelling (offered s) ended p q e = absurd (omega (arith, ap first e))
  one_line_spelling ended (named n) p q e = absurd (omega (arith, ap first e))
  one_line_spelling ended (shown r) p q e = absurd (ended_apart r (sym (ap first e)) (sym (ap second e)) (sym (ap sixth e)))
  one_line_spelling ended (kept s) p q e = absurd (omega (arith, ap first e))
  one_line_spelling ended (offered s) p q e = absurd (omega (arith, ap first e))
  one_line_spelling ended ended p q e = refl

-- ---- lines

name_line : (name : List ℕ) → IsName name → IsOneLine name
name_line name h = clear_line name (clear_name name h)

bits_line : (s : List Bool) → IsOneLine (map bit_byte s)
bits_line [] = tt
bits_line (true ∷ s) = (λ e. absurd (omega (arith, e)), bits_line s)
bits_line (false ∷ s) = (λ e. absurd (omega (arith, e)), bits_line s)

-- literal bytes before others
with_front : (front text : List ℕ) → IsOneLine front → IsOneLine text → IsOneLine (front ++ text)
with_front [] text p q = q
with_front (b ∷ front) text p q = (p.0, with_front front text p.1 q)

literal : (text : List ℕ) → list_all (λ b. ltb 10 b) text ≡ true → IsOneLine text
literal [] h = tt
literal (b ∷ bs) h =
    let p = and_parts (ltb 10 b) (list_all (λ c. ltb 10 c) bs) h in
    (λ e. absurd (omega (arith, e, ltb-true 10 b p.0)), literal bs p.1)

module _ (one_spelling : (a b : Record) → IsRecord a → IsRecord b → text_of a ≡ text_of b → a ≡ b) (record_line : (r : Record) → IsRecord r → IsOneLine (text_of r)) where
  line_is : (l : StatementLine) → IsLine l → IsOneLine (statement_text l)
  line_is (named name) h = with_front (codes "statement ") name (literal (codes "statement ") refl) (name_line name h)
  line_is (shown r) h = record_line r h
  line_is (kept s) h = with_front (codes "kept ") (bits s) (literal (codes "kept ") refl) (bits_line s)
  line_is (offered s) h = with_front (codes "offered ") (bits s) (literal (codes "offered ") refl) (bits_line s)
  line_is ended h = literal (codes "end statement") refl

  -- no line of a statement comes next
  abbrev IsStuck : List ℕ → Type 0
  IsStuck rest = (l : StatementLine) (after : List ℕ) → IsLine l → rest ≡ statement_text l ++ 10 ∷ after → ⊥

  stuck_nil : IsStuck []
  stuck_nil l after h e = some_line (statement_text l) after e

  stuck_grammar : (text after : List ℕ) → IsOneLine text → IsNoLine text → IsStuck (text ++ 10 ∷ after)
  stuck_grammar text after p none l more h e = none l h (first_line text (statement_text l) after more p (line_is l h) e).0

  stuck_unended : (text : List ℕ) → IsOneLine text → IsStuck (text ++ [])
  stuck_unended text p l after h e = no_newline text (statement_text l) after p (sym (append-nil text) ∙ e)

  lines_then : (l : StatementLine) (ls : List StatementLine) (after : List ℕ) → bytes_of_lines (l ∷ ls) ++ after ≡ statement_text l ++ 10 ∷ (bytes_of_lines ls ++ after)
  lines_then l ls after = rw flat_map-cons (append_assoc (line_text l) (bytes_of_lines ls) after ∙ append_assoc (statement_text l) (10 ∷ []) (bytes_of_lines ls ++ after))

  abbrev SameLines : List StatementLine → List StatementLine → List ℕ → List ℕ → Type 0
  SameLines a b x y = (a ≡ b) × (x ≡ y)

  same_lines : (a b : List StatementLine) (x y : List ℕ) → AllByRecursion IsLine a → AllByRecursion IsLine b → IsStuck x → IsStuck y → bytes_of_lines a ++ x ≡ bytes_of_lines b ++ y → SameLines a b x y
  same_lines [] [] x y p q sx sy e = (refl, e)
  same_lines [] (b ∷ bs) x y p q sx sy e = absurd (sx b (bytes_of_lines bs ++ y) q.0 (e ∙ lines_then b bs y))
  same_lines (a ∷ rest) [] x y p q sx sy e = absurd (sy a (bytes_of_lines rest ++ x) p.0 (sym e ∙ lines_then a rest x))
  same_lines (a ∷ rest) (b ∷ bs) x y p q sx sy e =
      let cut = first_line (statement_text a) (statement_text b) (bytes_of_lines rest ++ x) (bytes_of_lines bs ++ y) (line_is a p.0) (line_is b q.0) (sym (lines_then a rest x) ∙ e ∙ lines_then b bs y) in
      let heads : a ≡ b = one_line_spelling one_spelling a b p.0 q.0 cut.0 in
      let later = same_lines rest bs x y p.1 q.1 sx sy cut.1 in
      (λ i. heads i ∷ later.0 i, later.1)

  -- the lines at the front of bytes, and what stands after them
  record Front (bytes : List ℕ) (lines : List StatementLine) (rest : List ℕ) : Type 0 where
    lawful : AllByRecursion IsLine lines
    bytes_are : bytes ≡ bytes_of_lines lines ++ rest
    stuck : IsStuck rest

  same_fronts : (bytes : List ℕ) (a b : List StatementLine) (x y : List ℕ) → Front bytes a x → Front bytes b y → SameLines a b x y
  same_fronts bytes a b x y p q = same_lines a b x y p.lawful q.lawful p.stuck q.stuck (sym p.bytes_are ∙ q.bytes_are)

  whole_front : (bytes : List ℕ) (lines : List StatementLine) → AreLines bytes lines → Front bytes lines []
  whole_front bytes lines j = record { lawful = j.lawful; bytes_are = j.spelled ∙ sym (append-nil (bytes_of_lines lines)); stuck = stuck_nil }

  grammar_front : (bytes text after : List ℕ) (n : ℕ) (comes : LinesComeTo bytes n text (10 ∷ after)) → IsNoLine text → Front bytes comes.before (text ++ 10 ∷ after)
  grammar_front bytes text after n comes none = record { lawful = comes.lawful; bytes_are = comes.bytes_are; stuck = stuck_grammar text after (one_line text comes.one_line) none }

  unended_front : (bytes text : List ℕ) (n : ℕ) (comes : LinesComeTo bytes n text []) → Front bytes comes.before (text ++ [])
  unended_front bytes text n comes = record { lawful = comes.lawful; bytes_are = comes.bytes_are; stuck = stuck_unended text (one_line text comes.one_line) }

  pub lines_tell : (bytes : List ℕ) (a b : List StatementLine) → AreLines bytes a → AreLines bytes b → a ≡ b
  lines_tell bytes a b p q = (same_fronts bytes a b [] [] (whole_front bytes a p) (whole_front bytes b q)).0

  pub no_fault : (bytes : List ℕ) (a : List StatementLine) (fault : LinesFault) → AreLines bytes a → IsLineFault bytes fault → ⊥
  no_fault bytes a (grammar n) p (text, after, comes, none) = some_line text after (same_fronts bytes a comes.before [] (text ++ 10 ∷ after) (whole_front bytes a p) (grammar_front bytes text after n comes none)).1
  no_fault bytes a (unended n) p (text, comes, some) =
      absurd (omega (arith, some, ap length ((same_fronts bytes a comes.before [] (text ++ []) (whole_front bytes a p) (unended_front bytes text n comes)).1 ∙ append-nil text)))

  same_number : (bytes t u x y : List ℕ) (m n : ℕ) (a : LinesComeTo bytes m t x) (b : LinesComeTo bytes n u y) → a.before ≡ b.before → m ≡ n
  same_number bytes t u x y m n a b e = omega (arith, a.number_is, b.number_is, ap length e)

  not_both : (text u after : List ℕ) → IsOneLine u → text ++ 10 ∷ after ≡ u ++ [] → ⊥
  not_both text u after p e = no_newline u text after p (sym (append-nil u) ∙ sym e)

  pub one_fault : (bytes : List ℕ) (a b : LinesFault) → IsLineFault bytes a → IsLineFault bytes b → a ≡ b
  one_fault bytes (grammar m) (grammar n) (t, x, a, p) (u, y, b, q) =
      ap grammar (same_number bytes t u (10 ∷ x) (10 ∷ y) m n a b (same_fronts bytes a.before b.before (t ++ 10 ∷ x) (u ++ 10 ∷ y) (grammar_front bytes t x m a p) (grammar_front bytes u y n b q)).0)
  one_fault bytes (grammar m) (unended n) (t, x, a, p) (u, b, some) =
      absurd (not_both t u x (one_line u b.one_line) (same_fronts bytes a.before b.before (t ++ 10 ∷ x) (u ++ []) (grammar_front bytes t x m a p) (unended_front bytes u n b)).1)
  one_fault bytes (unended m) (grammar n) (t, a, some) (u, y, b, q) =
      absurd (not_both u t y (one_line t a.one_line) (same_fronts bytes b.before a.before (u ++ 10 ∷ y) (t ++ []) (grammar_front bytes u y n b q) (unended_front bytes t m a)).1)
  one_fault bytes (unended m) (unended n) (t, a, some) (u, b, more) =
      ap unended (same_number bytes t u [] [] m n a b (same_fronts bytes a.before b.before (t ++ []) (u ++ []) (unended_front bytes t m a) (unended_front bytes u n b)).0)
