-- Bytes have one answer, and it is the one that the progress of their records ends with.
use Rattle.std.proofs.Common.{◌≡◌, ℕ, ℤ, List, [], ◌∷◌, refl, sym, ◌∙◌, ap, subst}
use Rattle.std.specs.Prelude.{Some, None, Result, Ok, Err}
use Rattle.std.proofs.lemmas.Option.{none-some, same_Some}
use Rattle.ice_defs.specs.Trade.{total_value}
use Rattle.ice_defs.specs.Weighing.{lower_weights}
use Rattle.ice_defs.specs.Bounds.{Bounds}
use Rattle.ice_defs.specs.Fraction.{Fraction}
use Rattle.ice_journal.specs.Records.{Record, Kind, assign_kind, regret_kind, session_kind}
use Rattle.ice_journal.specs.Records as line
use Rattle.ice_journal.specs.Journal.{LinesFault, grammar, unended, IsJournal, IsLinesFault}
use Rattle.ice_journal.specs.Plain.{plain}
use Rattle.ice_journal.proofs.Journals.{one_answer as bytes_tell}
use Rattle.ice_section.specs.Laws.{SectionIsLawful, SectionRecords}
use Rattle.ice_section.proofs.Whole.{section_is_lawful, section_records_are}
use Rattle.ice_journal_laws.specs.declared.answer.Answer.{Answer}
use Rattle.ice_journal_laws.specs.declared.answer.Answer.TheVariants.{Assign, Regret, Closed, No}
use Rattle.ice_journal_laws.specs.declared.answer.CheckEnd.{CheckEnd}
use Rattle.ice_journal_laws.specs.declared.answer.CheckEnd.TheVariants.{Grammar, Unended, OtherKind, NoMemory}
use Rattle.ice_journal_laws.specs.declared.rule.Rule.{Rule}
use Rattle.ice_journal_laws.specs.State.{State}
use Rattle.ice_journal_laws.specs.Checks.{Failure, IsChecked, FirstFailure}
use Rattle.ice_journal_laws.specs.Progress.{nothing, other_kind, passing, failed, out_of_memory, Leads}
use Rattle.ice_journal_laws.specs.Theorems.{Yes, of_assigned, of_regret, of_session, IsYes, assigned_at}
use Rattle.ice_journal_laws.specs.Answers.{HasYes, HasNo, AnswersJournal, AnswersBytes, EndsWith, EndIsAnswer, OneAnswer}
use Rattle.ice_journal_laws.proofs.Single.{same_failure}
use Rattle.ice_journal_laws.proofs.Leading.{finds}
use Rattle.ice_journal_laws.proofs.Said.{value_said, value_of_assigned}
use Rattle.ice_journal_laws.proofs.Amount.{amount_said, amount_of_regretted}
use Rattle.ice_journal_laws.proofs.SaidSession.{regret_said, regret_of_session, surplus_said, surplus_of_session}
use Rattle.ice_journal_laws.proofs.Assigned.{done_is_assigned}
use Rattle.ice_journal_laws.proofs.Regretted.{done_is_right as done_is_regretted}
use Rattle.ice_journal_laws.proofs.SessionRight.{session_is_yes}

-- ---- one answer

yes_says : (journal : List Record) (value : ℤ) → IsYes journal (of_assigned value) → value ≡ value_said (plain journal)
yes_says journal value (a, says, right, is) = is ∙ sym (value_of_assigned a right) ∙ ap value_said (sym says)

regret_says : (journal : List Record) (amount : ℤ) → IsYes journal (of_regret amount) → amount ≡ amount_said (plain journal)
regret_says journal amount (r, says, right, is) = is ∙ sym (amount_of_regretted r) ∙ ap amount_said (sym says)

closing_says : (journal : List Record) (regret : ℤ) (surplus : Fraction) → IsYes journal (of_session regret surplus) → (regret ≡ regret_said (plain journal)) × (surplus ≡ surplus_said (plain journal))
closing_says journal regret surplus (x, says, right, headline, regret_is, surplus_is) =
    (regret_is ∙ sym (regret_of_session x) ∙ ap regret_said (sym says), surplus_is ∙ sym (surplus_of_session x) ∙ ap surplus_said (sym says))

-- a journal is of one kind
abbrev kind_said : List Record → Kind
kind_said (line.head version kind ∷ rest) = kind
kind_said (other ∷ rest) = assign_kind
kind_said [] = assign_kind

abbrev kind_of : Yes → Kind
kind_of (of_assigned value) = assign_kind
kind_of (of_regret amount) = regret_kind
kind_of (of_session regret surplus) = session_kind

says_kind : (journal : List Record) (said : Yes) → IsYes journal said → kind_said (plain journal) ≡ kind_of said
says_kind journal (of_assigned value) (a, says, right, is) = ap kind_said says
says_kind journal (of_regret amount) (r, says, right, is) = ap kind_said says
says_kind journal (of_session regret surplus) (x, says, right, headline, regret_is, surplus_is) = ap kind_said says

one_kind : (journal : List Record) (one other : Yes) → HasYes journal one → HasYes journal other → kind_of one ≡ kind_of other
one_kind journal one other h k = sym (says_kind journal one h.1) ∙ says_kind journal other k.1

abbrev failure : ℕ → Rule → Failure
failure line test = record { line = line; rule = test }

yes_is_no : (journal : List Record) (said : Yes) (line : ℕ) (test : Rule) → HasYes journal said → HasNo journal (failure line test) → ⊥
yes_is_no journal said line test (checks, says) (checked, fails) = none-some (failure line test) (same_failure journal None (Some (failure line test)) checks.1 fails)

assigned_regret : assign_kind ≡ regret_kind → ⊥
assigned_regret e = cc

assigned_session : assign_kind ≡ session_kind → ⊥
assigned_session e = cc

regret_session : regret_kind ≡ session_kind → ⊥
regret_session e = cc

pub same_answer : (journal : List Record) (one other : Answer) → AnswersJournal journal one → AnswersJournal journal other → one ≡ other
same_answer journal (Assign v) (Assign w) (checks, says) (checks', says') = ap Assign (yes_says journal v says ∙ sym (yes_says journal w says'))
same_answer journal (Regret v) (Regret w) (checks, says) (checks', says') = ap Regret (regret_says journal v says ∙ sym (regret_says journal w says'))
same_answer journal (Closed v x) (Closed w y) (checks, says) (checks', says') =
    let one = closing_says journal v x says in
    let other = closing_says journal w y says' in
    ap (λ (n : ℤ). Closed n x) (one.0 ∙ sym other.0) ∙ ap (Closed w) (one.1 ∙ sym other.1)
same_answer journal (Assign v) (Regret w) h k = absurd (assigned_regret (one_kind journal (of_assigned v) (of_regret w) h k))
same_answer journal (Regret v) (Assign w) h k = absurd (assigned_regret (one_kind journal (of_assigned w) (of_regret v) k h))
same_answer journal (Assign v) (Closed w y) h k = absurd (assigned_session (one_kind journal (of_assigned v) (of_session w y) h k))
same_answer journal (Closed v x) (Assign w) h k = absurd (assigned_session (one_kind journal (of_assigned w) (of_session v x) k h))
same_answer journal (Regret v) (Closed w y) h k = absurd (regret_session (one_kind journal (of_regret v) (of_session w y) h k))
same_answer journal (Closed v x) (Regret w) h k = absurd (regret_session (one_kind journal (of_regret w) (of_session v x) k h))
same_answer journal (Assign v) (No line test) h k = absurd (yes_is_no journal (of_assigned v) line test h k)
same_answer journal (Regret v) (No line test) h k = absurd (yes_is_no journal (of_regret v) line test h k)
same_answer journal (Closed v x) (No line test) h k = absurd (yes_is_no journal (of_session v x) line test h k)
same_answer journal (No line test) (Assign v) h k = absurd (yes_is_no journal (of_assigned v) line test k h)
same_answer journal (No line test) (Regret v) h k = absurd (yes_is_no journal (of_regret v) line test k h)
same_answer journal (No line test) (Closed v x) h k = absurd (yes_is_no journal (of_session v x) line test k h)
same_answer journal (No line test) (No line' test') (checked, fails) (checked', fails') =
    same (same_failure journal (Some (failure line test)) (Some (failure line' test')) fails fails')
  where
    same : Some (failure line test) ≡ Some (failure line' test') → No line test ≡ No line' test'
    same e = ap (λ (f : Failure). No f.line f.rule) (same_Some (failure line test) (failure line' test') e)

answered_is_checked : (journal : List Record) (answer : Answer) → AnswersJournal journal answer → IsChecked journal
answered_is_checked journal (Assign value) h = h.0.0
answered_is_checked journal (Regret amount) h = h.0.0
answered_is_checked journal (Closed regret surplus) h = h.0.0
answered_is_checked journal (No line test) h = h.0

abbrev refused : CheckEnd → Result Answer CheckEnd
refused end = Err end

module _ (one_journal : (bytes : List ℕ) (j k : List Record) → IsJournal bytes j → IsJournal bytes k → j ≡ k)
    (no_fault : (bytes : List ℕ) (j : List Record) (fault : LinesFault) → IsJournal bytes j → IsLinesFault bytes fault → ⊥)
    (one_fault : (bytes : List ℕ) (f g : LinesFault) → IsLinesFault bytes f → IsLinesFault bytes g → f ≡ g) where
  pub one_answer : OneAnswer
  one_answer bytes (Ok a) (Ok b) (j, is, h) (k, is', h') n m = ap Ok (same_answer k a b (subst (λ (x : List Record). AnswersJournal x a) (one_journal bytes j k is is') h) h')
  one_answer bytes (Ok a) (Err (Grammar line)) (j, is, h) f n m = absurd (no_fault bytes j (grammar line) is f)
  one_answer bytes (Ok a) (Err (Unended line)) (j, is, h) f n m = absurd (no_fault bytes j (unended line) is f)
  one_answer bytes (Ok a) (Err OtherKind) (j, is, h) (k, is', h') n m = absurd (h' (subst IsChecked (one_journal bytes j k is is') (answered_is_checked j a h)))
  one_answer bytes (Ok a) (Err NoMemory) h f n m = absurd (m refl)
  one_answer bytes (Err (Grammar line)) (Ok a) f (j, is, h) n m = absurd (no_fault bytes j (grammar line) is f)
  one_answer bytes (Err (Unended line)) (Ok a) f (j, is, h) n m = absurd (no_fault bytes j (unended line) is f)
  one_answer bytes (Err OtherKind) (Ok a) (k, is', h') (j, is, h) n m = absurd (h' (subst IsChecked (one_journal bytes j k is is') (answered_is_checked j a h)))
  one_answer bytes (Err NoMemory) other h f n m = absurd (n refl)
  one_answer bytes (Err (Grammar line)) (Err (Grammar line')) f g n m = same (one_fault bytes (grammar line) (grammar line') f g)
    where
      same : grammar line ≡ grammar line' → refused (Grammar line) ≡ refused (Grammar line')
      same e = cc
  one_answer bytes (Err (Grammar line)) (Err (Unended line')) f g n m = same (one_fault bytes (grammar line) (unended line') f g)
    where
      same : grammar line ≡ unended line' → refused (Grammar line) ≡ refused (Unended line')
      same e = cc
  one_answer bytes (Err (Unended line)) (Err (Grammar line')) f g n m = same (one_fault bytes (unended line) (grammar line') f g)
    where
      same : unended line ≡ grammar line' → refused (Unended line) ≡ refused (Grammar line')
      same e = cc
  one_answer bytes (Err (Unended line)) (Err (Unended line')) f g n m = same (one_fault bytes (unended line) (unended line') f g)
    where
      same : unended line ≡ unended line' → refused (Unended line) ≡ refused (Unended line')
      same e = cc
  one_answer bytes (Err (Grammar line)) (Err OtherKind) f (j, is, h) n m = absurd (no_fault bytes j (grammar line) is f)
  one_answer bytes (Err (Unended line)) (Err OtherKind) f (j, is, h) n m = absurd (no_fault bytes j (unended line) is f)
  one_answer bytes (Err OtherKind) (Err (Grammar line)) (j, is, h) f n m = absurd (no_fault bytes j (grammar line) is f)
  one_answer bytes (Err OtherKind) (Err (Unended line)) (j, is, h) f n m = absurd (no_fault bytes j (unended line) is f)
  one_answer bytes (Err OtherKind) (Err OtherKind) h h' n m = refl
  one_answer bytes one (Err NoMemory) h f n m = absurd (m refl)

-- ---- the answer at the end

module _ (lawful : SectionIsLawful) (described : SectionRecords) where
  ends_passing : (bytes : List ℕ) (journal : List Record) (s : State) (answer : Result Answer CheckEnd) → IsJournal bytes journal → Leads nothing journal (passing s) → EndsWith (passing s) answer → AnswersBytes bytes answer
  ends_passing bytes journal s (Ok (Assign value)) is l (place, kind, value_is) =
      let found = finds journal (passing s) l in
      let right = done_is_assigned lawful described journal s is.lawful l place kind in
      (journal, is, ((found.0, found.1 place), (assigned_at s, right.says, right.right, value_is ∙ ap (λ (b : List Bounds). total_value s.final.sets (lower_weights b)) right.bounds)))
  ends_passing bytes journal s (Ok (Regret amount)) is l (place, kind, amount_is) =
      let found = finds journal (passing s) l in
      let (r, right) = done_is_regretted journal s is.lawful l place kind in
      (journal, is, ((found.0, found.1 place), (r, right.says, right.right, amount_is ∙ sym right.regret)))
  ends_passing bytes journal s (Ok (Closed regret surplus)) is l (place, kind, regret_is, surplus_is) =
      let found = finds journal (passing s) l in
      let (x, says, right, headline, same_regret, same_surplus) = session_is_yes journal s is.lawful l place kind in
      (journal, is, ((found.0, found.1 place), (x, says, right, headline, regret_is ∙ same_regret, surplus_is ∙ same_surplus)))
  ends_passing bytes journal s (Ok (No line test)) is l (place, line_is, test_is) =
      let found = finds journal (passing s) l in
      (journal, is, (found.0, subst (λ (f : Failure). FirstFailure journal (Some f)) (λ i. record { line = sym line_is i; rule = sym test_is i }) (found.2 place)))
  ends_passing bytes journal s (Err fault) is l h = absurd h

  pub end_is_answer : EndIsAnswer
  end_is_answer bytes journal nothing answer is l e = subst (AnswersBytes bytes) (sym e) (journal, is, finds journal nothing l)
  end_is_answer bytes journal other_kind answer is l e = subst (AnswersBytes bytes) (sym e) (journal, is, finds journal other_kind l)
  end_is_answer bytes journal out_of_memory answer is l e = absurd (finds journal out_of_memory l)
  end_is_answer bytes journal (failed failure) answer is l e = subst (AnswersBytes bytes) (sym e) (journal, is, finds journal (failed failure) l)
  end_is_answer bytes journal (passing s) answer is l e = ends_passing bytes journal s answer is l e

pub end_answers : EndIsAnswer
end_answers = end_is_answer section_is_lawful section_records_are

-- bytes are one journal, or have one least line at fault
pub ok_same : (j k : List Record) → (let a : Result (List Record) LinesFault = Ok j in a) ≡ Ok k → j ≡ k
ok_same j k e = cc

pub ok_err : (j : List Record) (fault : LinesFault) → (let a : Result (List Record) LinesFault = Ok j in a) ≡ Err fault → ⊥
ok_err j fault e = cc

pub err_same : (f g : LinesFault) → (let a : Result (List Record) LinesFault = Err f in a) ≡ Err g → f ≡ g
err_same f g e = cc

pub one_answer_of_bytes : OneAnswer
one_answer_of_bytes =
    one_answer
    (λ bytes j k is is'. ok_same j k (bytes_tell bytes (Ok j) (Ok k) is is'))
    (λ bytes j fault is f. ok_err j fault (bytes_tell bytes (Ok j) (Err fault) is f))
    (λ bytes f g is is'. err_same f g (bytes_tell bytes (Err f) (Err g) is is'))
