-- What one more line makes of the whole lines.
use Rattle.std.proofs.Common.{◌≡◌, ◌<◌, ◌≤◌, ◌+◌, ℕ, suc, List, [], ◌∷◌, ◌++◌, length, Contains, refl, sym, ◌∙◌, ap, subst, arith, append_assoc, append-nil, add-one}
use Rattle.ice_journal.specs.Records.{Record}
use Rattle.ice_journal.specs.Ranges.{IsRecord}
use Rattle.ice_journal.specs.Spelling.{line_of}
use Rattle.ice_journal.specs.Journal.{bytes_of, IsNoRecord, grammar, unended, IsLinesFault}
use Rattle.ice_journal_laws.specs.Progress.{Progress, nothing, Leads}
use Rattle.ice_journal_laws.proofs.Leading.{leads_more}
use Rattle.ice_check_records.specs.Checking.{Checking, HasCome, ComesTo}
use Rattle.ice_reading.proofs.SoFar.{HasRead, one_read, grammar_fault, unended_fault, all_read}
use Rattle.ice_check.specs.Standing.{AreTaken, ReadsOn, IsWithin}
use Rattle.std.specs.Prelude.{Option, Some, Result, Ok, Err, OnOk, OnErr}
use Rattle.ice_check.specs.declared.lines.Lines.{Lines}
use Rattle.ice_check.specs.declared.lines.Lines.TheVariants as known

-- where the tests of the records have come
record HasComeTo (c : Checking) (records : List Record) : Type 0 where
  progress : Progress
  leads : Leads nothing records progress
  come : HasCome c progress

-- the taken lines, before bytes that come after them
before : (c : Checking) (whole rest : List ℕ) (h : AreTaken c whole) → HasRead (HasComeTo c) (whole ++ rest) rest (length h.journal)
before c whole rest h = record {
  records = h.journal;
  lawful = h.spelled.lawful;
  count_is = refl;
  bytes_are = ap (λ (l : List ℕ). l ++ rest) h.spelled.spelled;
  known = record { progress = h.progress; leads = h.leads; come = h.come };
}

-- the line of a record
pub one_more : (c d : Checking) (whole : List ℕ) (r : Record) → AreTaken c whole → IsRecord r → ((p : Progress) → HasCome c p → ComesTo p r d) → d.line ≡ suc c.line → AreTaken d (whole ++ line_of r)
one_more c d whole r h is takes line =
    let after : HasRead (HasComeTo d) (whole ++ line_of r) [] (length h.journal + 1) =
    one_read (whole ++ line_of r) (line_of r) [] (length h.journal) r (before c whole (line_of r) h) is (sym (append-nil (line_of r))) (λ records known.
    let next = takes known.progress known.come in
    record { progress = next.after; leads = leads_more nothing known.progress next.after records r known.leads next.leads; come = next.come }) in
    record {
      journal = after.records;
      spelled = all_read (whole ++ line_of r) [] (length h.journal + 1) after refl;
      line = omega (arith, line, h.line, after.count_is);
      progress = after.known.progress;
      leads = after.known.leads;
      come = after.known.come;
    }

-- the line of no record
pub at_fault : (c : Checking) (whole text : List ℕ) → AreTaken c whole → ¬ Contains text 10 → IsNoRecord text → IsLinesFault (whole ++ (text ++ 10 ∷ [])) (grammar c.line)
at_fault c whole text h one_line none =
    subst (λ (n : ℕ). IsLinesFault (whole ++ (text ++ 10 ∷ [])) (grammar n)) (add-one (length h.journal) ∙ sym h.line)
    (grammar_fault (whole ++ (text ++ 10 ∷ [])) (text ++ 10 ∷ []) text [] (length h.journal) (before c whole (text ++ 10 ∷ []) h) refl one_line none)

-- a line that has begun, where nothing more comes
pub not_ended : (c : Checking) (whole text : List ℕ) → AreTaken c whole → ¬ Contains text 10 → 0 < length text → IsLinesFault (whole ++ text) (unended c.line)
not_ended c whole text h one_line some =
    subst (λ (n : ℕ). IsLinesFault (whole ++ text) (unended n)) (add-one (length h.journal) ∙ sym h.line)
    (unended_fault (whole ++ text) text (length h.journal) (before c whole text h) one_line some)

-- the least line at fault stays it
pub fault_stays : (whole more : List ℕ) (n : ℕ) → IsLinesFault whole (grammar n) → IsLinesFault (whole ++ more) (grammar n)
fault_stays whole more n (text, after, comes, none) = (
  text,
  after ++ more,
  record {
    before = comes.before;
    lawful = comes.lawful;
    number_is = comes.number_is;
    bytes_are =
        ap (λ (l : List ℕ). l ++ more) comes.bytes_are ∙ append_assoc (bytes_of comes.before) (text ++ 10 ∷ after) more
        ∙ ap (λ (l : List ℕ). bytes_of comes.before ++ l) (append_assoc text (10 ∷ after) more);
    one_line = comes.one_line;
  },
  none,
)

-- ---- a line more

-- that of a record
pub record_reads_on : {E : Type 0} (result : Result (Unit {0}) E) (c d : Checking) (r : Record) → IsRecord r → OnOk result ((p : Progress) → HasCome c p → ComesTo p r d) → OnOk result (d.line ≡ suc c.line)
    → OnOk result (ReadsOn (known.Records c) (Some r) (known.Records d))
record_reads_on (Ok unit) c d r is takes line = λ whole text taken one_line reads. subst (λ (t : List ℕ). AreTaken d (whole ++ (t ++ 10 ∷ []))) (sym reads.1) (one_more c d whole r taken is takes line)
record_reads_on (Err error) c d r is takes line = tt

-- behind a line that is none
pub fault_reads_on : (n : ℕ) (found : Option Record) → ReadsOn (known.Grammar n) found (known.Grammar n)
fault_reads_on n found = λ whole text fault one_line reads. fault_stays whole (text ++ 10 ∷ []) n fault

pub within_more : (m n : ℕ) (lines : Lines) → m ≤ n → IsWithin m lines → IsWithin n lines
within_more m n (known.Records checker) le h = omega (arith, le, h)
within_more m n (known.Grammar line) le h = tt

-- the number of the next line, where a record is taken or no memory is left for it
pub within_fed : {E : Type 0} (result : Result (Unit {0}) E) (n line after : ℕ) → line ≤ n → OnOk result (after ≡ suc line) → OnErr result (after ≡ line) → after ≤ suc n
within_fed (Ok unit) n line after le up still = omega (arith, le, up)
within_fed (Err error) n line after le up still = omega (arith, le, still)
