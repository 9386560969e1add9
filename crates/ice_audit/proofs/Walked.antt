-- What is known of the lines so far, line by line.
use Rattle.std.proofs.Common.{◌≡◌, ◌≢◌, ◌∙◌, refl, ap, sym, subst, ℕ, suc, List, [], ◌∷◌, ◌++◌, length, Contains, arith, append_assoc, length-append}
use Rattle.std.specs.Prelude.{Option, Some, None, option_map, Ok}
use Rattle.std.specs.List.{AllByRecursion}
use Rattle.std.proofs.lemmas.Option.{none-some}
use Rattle.std.proofs.lemmas.List.{append-nil}
use Rattle.std.proofs.lemmas.List.Concat.{flat_map-append}
use Rattle.ice_line.specs.Reading.{Reads}
use Rattle.ice_line.specs.Lines.{BeginsWithLine}
use Rattle.ice_defs.specs.Fraction.{Fraction}
use Rattle.ice_defs.specs.Session.{Payment}
use Rattle.ice_journal.specs.Journal.{grammar}
use Rattle.ice_journal.specs.Lines.{fraction_of}
use Rattle.ice_journal_laws.specs.declared.rule.Rule.{Rule}
use Rattle.ice_journal_laws.specs.declared.rule.Rule.TheVariants as rule
use Rattle.ice_journal_laws.specs.Checks.{Failure}
use Rattle.ice_statement_laws.specs.Statement.{StatementLine, statement_text}
use Rattle.ice_statement_laws.specs.Audit.{at_name, at_section, at_regret, at_kept, at_offered, at_prices, at_round, at_verdict, at_threshold, at_payment, at_end, done, AuditState, audit_begun, spot_next, to_line, Audited, passes, is_short, fails, goes_on, IsAudit}
use Rattle.ice_statement_laws.specs.Texts.{IsLine, line_text, bytes_of_lines, AreLines, LinesComeTo, IsLineFault, payment_or, payment_in_line, paid_in}
use Rattle.ice_audit.specs.declared.answer.AuditAnswer.{AuditAnswer}
use Rattle.ice_audit.specs.declared.answer.AuditAnswer.TheVariants.{Yes, No}
use Rattle.ice_audit.specs.Answers.{AnswersAudit}
use Rattle.ice_audit.specs.declared.auditor.Auditor.{Auditor}
use Rattle.ice_audit.specs.declared.auditor.Auditor.TheVariants as so_far
use Rattle.ice_audit.specs.declared.standing.Standing.{Standing}
use Rattle.ice_audit.specs.declared.standing.Standing.TheVariants.{Going, Failed}
use Rattle.ice_audit.specs.declared.next.Next.{Next}
use Rattle.ice_audit.specs.declared.next.Next.TheVariants as next
use Rattle.ice_audit.specs.declared.settlements.Settlements.{Settlements}
use Rattle.ice_audit.specs.Standing.{IsAt, paid_of, payment_at_end}
use Rattle.ice_audit.specs.Taking.{FailsFirst, paid_after}
use Rattle.ice_audit.specs.Auditing.{StandsFor, paid_by, end_of, GoesFurther, HasPassed, Follows, GoesBehind, AnswersLines}

-- ---- one more line

line_behind : (o : Option AuditState) (n : ℕ) (after : AuditState) → option_map (to_line n) o ≡ Some after → after.line ≡ n
line_behind None n after e = absurd (none-some after e)
line_behind (Some s) n after e = ap (λ (t : AuditState). t.line) (sym (same (to_line n s) after e))
  where
    same : (a b : AuditState) → Some a ≡ Some b → a ≡ b
    same a b f = cc

longer : (before : List StatementLine) (l : StatementLine) → length (before ++ l ∷ []) ≡ suc (length before)
longer before l = omega (arith, length-append before (l ∷ []))

paid_more : (before : List StatementLine) (l : StatementLine) → paid_in (before ++ l ∷ []) ≡ paid_after (paid_in before) l
paid_more [] l = refl
paid_more (k ∷ before) l = by (payment_in_line k) (paid_more before l)
  where
    by : (o : Option Payment) → paid_in (before ++ l ∷ []) ≡ paid_after (paid_in before) l → payment_or o (paid_in (before ++ l ∷ [])) ≡ paid_after (payment_or o (paid_in before)) l
    by (Some p) e = refl
    by None e = e

-- one line moves from the lines to come to those before
moved : (before : List StatementLine) (l : StatementLine) (rest : List StatementLine) (end : Option Failure) → IsAudit (before ++ l ∷ rest) end → IsAudit ((before ++ l ∷ []) ++ rest) end
moved before l rest end h = subst (λ (ls : List StatementLine). IsAudit ls end) (sym (append_assoc before (l ∷ []) rest)) h

pub on_further : (number : ℕ) (a : Auditor) (l : StatementLine) (after : Auditor) → GoesFurther a l after → GoesBehind number (Going a) l (Going after)
on_further number a l after g = record {
  kept = g.kept;
  follows = λ before e h.
      let to = g.goes h.state h.stands in
      record {
        state = to.state;
        stands = to.stands;
        line = line_behind (spot_next h.state h.state.spot l) (suc h.state.line) to.state to.passes.next ∙ ap suc (h.line ∙ sym (longer before l));
        leads = λ rest end audited. moved before l rest end (h.leads (l ∷ rest) end (goes_on to.passes.none to.passes.verdict to.passes.next audited));
        paid = paid_more before l ∙ ap (λ (o : Option Fraction). paid_after o l) h.paid ∙ sym g.paid;
      };
}

pub fails_behind : (number : ℕ) (a : Auditor) (l : StatementLine) (rule : Rule) → ((s : AuditState) → StandsFor a s → FailsFirst s l rule) → GoesBehind number (Going a) l (Failed number rule)
fails_behind number a l rule f = record {
  kept = tt;
  follows = λ before e h rest.
      let first = f h.state h.stands in
      moved before l rest (Some (record { line = number; rule = rule })) (h.leads (l ∷ rest) (Some (record { line = number; rule = rule }))
      (subst (λ (n : ℕ). Audited h.state (l ∷ rest) (Some (record { line = n; rule = rule }))) (h.line ∙ sym e) (fails first.fails first.first)));
}

-- ---- the answer

some_same : (a b : Fraction) → Some a ≡ Some b → a ≡ b
some_same a b e = cc

ended_at : (x : Settlements) (s : AuditState) (n : Next) (payment : Fraction) → payment_at_end n ≡ Some payment → IsAt x n s → (s.spot ≡ done) × (paid_of n ≡ Some payment)
ended_at x s (next.Nothing p) payment e at = (at, e)
ended_at x s other payment e at = absurd (none-some payment e)

ended_for : (a : Auditor) (s : AuditState) (payment : Fraction) → end_of a ≡ Some payment → StandsFor a s → (s.spot ≡ done) × (paid_by a ≡ Some payment)
ended_for (so_far.Settlements x) s payment e st = ended_at x s x.next payment e st.at
ended_for other s payment e st = absurd (none-some payment e)

goes_at : (x : Settlements) (s : AuditState) (n : Next) → payment_at_end n ≡ None → IsAt x n s → s.spot ≢ done
goes_at x s next.Regret e at f = absurd (let h : at_regret ≡ done = sym at.0 ∙ f in cc)
goes_at x s (next.Kept regret) e at f = absurd (let h : at_kept ≡ done = sym at.0 ∙ f in cc)
goes_at x s next.Offered e at f = absurd (let h : at_offered ≡ done = sym at.0 ∙ f in cc)
goes_at x s next.Prices e at f = absurd (let h : at_prices ≡ done = sym at.0 ∙ f in cc)
goes_at x s next.Round e at f = absurd (let h : at_round ≡ done = sym at.0 ∙ f in cc)
goes_at x s (next.Verdict due) e at f = absurd (let h : at_verdict at.0.submission ≡ done = sym at.0.spot ∙ f in cc)
goes_at x s next.Threshold e at f = absurd (let h : at_threshold ≡ done = sym at.0 ∙ f in cc)
goes_at x s (next.Payment cut) e at f = absurd (let h : at_payment ≡ done = sym at.0 ∙ f in cc)
goes_at x s (next.End payment) e at f = absurd (let h : at_end ≡ done = sym at ∙ f in cc)
goes_at x s (next.Nothing payment) e at f = absurd (none-some (fraction_of payment) (sym e))

goes_for : (a : Auditor) (s : AuditState) → end_of a ≡ None → StandsFor a s → s.spot ≢ done
goes_for so_far.Name s e st f = absurd (let h : at_name ≡ done = sym st.0 ∙ f in cc)
goes_for (so_far.Section own) s e st f = absurd (let h : at_section ≡ done = sym st.spot ∙ f in cc)
goes_for (so_far.Settlements x) s e st f = goes_at x s x.next e st.at f

whole : (lines : List StatementLine) (end : Option Failure) → IsAudit (lines ++ []) end → IsAudit lines end
whole lines end h = subst (λ (ls : List StatementLine). IsAudit ls end) (append-nil lines) h

pub passes_whole : (a : Auditor) (lines : List StatementLine) (payment : Fraction) → end_of a ≡ Some payment → HasPassed lines a → IsAudit lines None × (paid_in lines ≡ Some payment)
passes_whole a lines payment e h =
    let at_end = ended_for a h.state payment e h.stands in
    (whole lines None (h.leads [] None (passes at_end.0)), h.paid ∙ at_end.1)

pub short_whole : (a : Auditor) (lines : List StatementLine) (number : ℕ) → end_of a ≡ None → number ≡ suc (length lines) → HasPassed lines a → IsAudit lines (Some (record { line = number; rule = rule.Short }))
short_whole a lines number e n h =
    whole lines (Some (record { line = number; rule = rule.Short })) (h.leads [] (Some (record { line = number; rule = rule.Short }))
    (subst (λ (k : ℕ). Audited h.state [] (Some (record { line = k; rule = rule.Short }))) (h.line ∙ sym n) (is_short (goes_for a h.state e h.stands))))

pub failed_whole : (lines : List StatementLine) (place : ℕ) (rule : Rule) → Follows (Failed place rule) lines → IsAudit lines (Some (record { line = place; rule = rule }))
failed_whole lines place rule h = whole lines (Some (record { line = place; rule = rule })) (h [])

-- ---- the bytes

-- lines of a statement stand before the rest of the bytes
pub record HasRead (bytes rest : List ℕ) (number : ℕ) (standing : Standing) : Type 0 where
  pub before : List StatementLine
  pub lawful : AllByRecursion IsLine before
  pub bytes_are : bytes ≡ bytes_of_lines before ++ rest
  pub number_is : number ≡ suc (length before)
  pub follows : Follows standing before

pub none_read : (bytes : List ℕ) → HasRead bytes bytes 1 (Going so_far.Name)
none_read bytes = record {
  before = [];
  lawful = tt;
  bytes_are = refl;
  number_is = refl;
  follows = record { state = audit_begun; stands = (refl, refl); line = refl; leads = λ rest end h. h; paid = refl };
}

all_more : (before : List StatementLine) (l : StatementLine) → AllByRecursion IsLine before → IsLine l → AllByRecursion IsLine (before ++ l ∷ [])
all_more [] l all h = (h, tt)
all_more (k ∷ before) l all h = (all.0, all_more before l all.1 h)

one_more : (before : List StatementLine) (l : StatementLine) → bytes_of_lines (before ++ l ∷ []) ≡ bytes_of_lines before ++ line_text l
one_more before l = flat_map-append line_text before (l ∷ []) ∙ ap (λ (t : List ℕ). bytes_of_lines before ++ t) (append-nil (line_text l))

pub read_more : (bytes rest text after : List ℕ) (number : ℕ) (old new : Standing) (l : StatementLine) → HasRead bytes rest number old → BeginsWithLine rest text after → Reads (Some l) IsLine statement_text text → GoesBehind number old l new
    → HasRead bytes after (suc number) new
read_more bytes rest text after number old new l read begins reads goes = record {
  before = read.before ++ l ∷ [];
  lawful = all_more read.before l read.lawful reads.0;
  bytes_are =
      read.bytes_are
      ∙ ap (λ (t : List ℕ). bytes_of_lines read.before ++ t) (begins.0 ∙ ap (λ (t : List ℕ). t ++ 10 ∷ after) reads.1 ∙ sym (append_assoc (statement_text l) (10 ∷ []) after))
      ∙ sym (append_assoc (bytes_of_lines read.before) (line_text l) after)
      ∙ ap (λ (t : List ℕ). t ++ after) (sym (one_more read.before l));
  number_is = ap suc (read.number_is ∙ sym (longer read.before l));
  follows = goes.follows read.before read.number_is read.follows;
}

comes_to : (bytes rest text after : List ℕ) (number : ℕ) (standing : Standing) → HasRead bytes rest number standing → rest ≡ text ++ after → ¬ Contains text 10 → LinesComeTo bytes number text after
comes_to bytes rest text after number standing read e none = record {
  before = read.before;
  lawful = read.lawful;
  number_is = omega (arith, read.number_is);
  bytes_are = read.bytes_are ∙ ap (λ (t : List ℕ). bytes_of_lines read.before ++ t) e;
  one_line = none;
}

pub no_line : (bytes rest text after : List ℕ) (number : ℕ) (standing : Standing) → HasRead bytes rest number standing → BeginsWithLine rest text after → Reads {A = StatementLine} None IsLine statement_text text → IsLineFault bytes (grammar number)
no_line bytes rest text after number standing read begins none = (text, after, comes_to bytes rest text (10 ∷ after) number standing read begins.0 begins.1, none)

-- the answer to all of them
pub all_read : (bytes rest : List ℕ) (number : ℕ) (standing : Standing) (answer : AuditAnswer) → HasRead bytes rest number standing → rest ≡ [] → ((lines : List StatementLine) → number ≡ suc (length lines) → Follows standing lines → AnswersLines lines answer)
    → AnswersAudit bytes (Ok answer)
all_read bytes rest number standing answer read none answers = by answer (answers read.before read.number_is read.follows)
  where
    are : AreLines bytes read.before
    are = record { lawful = read.lawful; spelled = read.bytes_are ∙ ap (λ (t : List ℕ). bytes_of_lines read.before ++ t) none ∙ append-nil (bytes_of_lines read.before) }

    by : (a : AuditAnswer) → AnswersLines read.before a → AnswersAudit bytes (Ok a)
    by (Yes payment) h = (read.before, are, h.0, h.1)
    by (No place test) h = (read.before, are, h)
