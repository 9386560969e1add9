-- A journal has one answer.
use Rattle.std.proofs.Common.{◌≡◌, ℕ, Bool, true, false, cond, List, [], ◌∷◌, refl, sym, ◌∙◌, ap, subst}
use Rattle.std.specs.Prelude.{◌-◌, Result, Ok, Err}
use Rattle.ice_journal.specs.Records.{Record}
use Rattle.ice_journal.specs.Records as line
use Rattle.ice_journal.specs.Journal.{LinesFault, grammar, unended, IsJournal, IsLinesFault}
use Rattle.ice_journal.proofs.Journals.{one_answer as bytes_tell}
use Rattle.ice_journal_laws.specs.declared.answer.Answer.{Answer}
use Rattle.ice_journal_laws.specs.declared.answer.CheckEnd.{CheckEnd}
use Rattle.ice_journal_laws.specs.declared.answer.CheckEnd.TheVariants.{Grammar, Unended, OtherKind, NoMemory}
use Rattle.ice_journal_laws.specs.declared.rule.Rule.{Rule}
use Rattle.ice_journal_laws.specs.State.{State, begun}
use Rattle.ice_journal_laws.specs.Next.{next}
use Rattle.ice_journal_laws.specs.Tests.{ended_list}
use Rattle.ice_journal_laws.specs.Checks.{is_checked, IsChecked}
use Rattle.ice_journal_laws.specs.Progress.{Progress, nothing, other_kind, passing, failed, out_of_memory, after_head, TakesOn, passes_on, fails_at, list_fails_at, IsAfter}
use Rattle.ice_journal_laws.proofs.Single.{some_same, same_first}
use Rattle.ice_journal_laws.proofs.Answered.{one_answer_of_bytes, ok_same, ok_err}
use Rattle.ice_gap_laws.specs.declared.answer.GapAnswer.{GapAnswer}
use Rattle.ice_gap_laws.specs.Gap.{GapProgress, checking, in_group, at_close, ended, no_gap, unless_stopped, in_its_group, IsGapAfter, GapLeads, stays, goes}
use Rattle.ice_gap_laws.specs.Answers.{gap_answer, GivesGap, AnswersGap}
use Rattle.ice_gap_laws.specs.Laws.{OneGapAnswer}

-- ---- a record makes one thing of the tests

pub takes_same : (s : State) (r : Record) (p q : Progress) → TakesOn s r p → TakesOn s r q → p ≡ q
takes_same s r p q (passes_on {after = a} list none holds is) (passes_on {after = b} list' none' holds' is') = ap passing (some_same (next s r) a b is is')
takes_same s r p q (passes_on list none holds is) (fails_at {x = x} list' first) = absurd (none x first.0)
takes_same s r p q (passes_on list none holds is) (list_fails_at {x = x} e fails) = absurd (fails (list x e))
takes_same s r p q (fails_at {x = x} list first) (passes_on list' none holds is) = absurd (none x first.0)
takes_same s r p q (fails_at {x = x} list first) (fails_at {x = y} list' first') =
    ap (λ (z : Rule). failed (record { line = s.line; rule = z })) (same_first x y s r first first')
takes_same s r p q (fails_at list first) (list_fails_at {x = x} e fails) = absurd (fails (list x e))
takes_same s r p q (list_fails_at {x = x} e fails) (passes_on list none holds is) = absurd (fails (list x e))
takes_same s r p q (list_fails_at {x = x} e fails) (fails_at list first) = absurd (fails (list x e))
takes_same s r p q (list_fails_at {x = x} e fails) (list_fails_at {x = y} e' fails') =
    ap (λ (z : Rule). failed (record { line = s.line - 1; rule = z })) (some_same (ended_list s.place r) x y e e')

after_same : (p : Progress) (r : Record) (q other : Progress) → IsAfter p r q → IsAfter p r other → q ≡ other
after_same nothing r q other a b = a ∙ sym b
after_same other_kind r q other a b = a ∙ sym b
after_same (passing s) r q other a b = takes_same s r q other a b
after_same (failed failure) r q other a b = a ∙ sym b
after_same out_of_memory r q other a b = absurd a

gap_after_same : (p : GapProgress) (r : Record) (q other : GapProgress) → IsGapAfter p r q → IsGapAfter p r other → q ≡ other
gap_after_same (checking p) r q other (a, is, e) (b, is', f) = e ∙ ap (unless_stopped p r) (after_same p r a b is is') ∙ sym f
gap_after_same (in_group gap s) r q other (a, is, e) (b, is', f) = e ∙ ap (in_its_group gap) (takes_same s r a b is is') ∙ sym f
gap_after_same (at_close gap n) r q other a b = a ∙ sym b
gap_after_same (ended gap n) r q other a b = a ∙ sym b
gap_after_same (no_gap n) r q other a b = a ∙ sym b

gap_leads_same : (p : GapProgress) (records : List Record) (a b : GapProgress) → GapLeads p records a → GapLeads p records b → a ≡ b
gap_leads_same p [] a b stays stays = refl
gap_leads_same p (r ∷ rest) a b (goes {q = mine} is l) (goes {q = other} is' l') =
    gap_leads_same mine rest a b l (subst (λ (q : GapProgress). GapLeads q rest b) (gap_after_same p r other mine is' is) l')

gives_same : (journal : List Record) (a b : GapAnswer) → GivesGap journal a → GivesGap journal b → (let o : Result GapAnswer CheckEnd = Ok a in o) ≡ Ok b
gives_same journal a b (p, l, e) (q, l', e') = sym e ∙ ap gap_answer (gap_leads_same (checking nothing) journal p q l l') ∙ e'

-- ---- a journal of another kind

stays_other : (records : List Record) (p : GapProgress) → GapLeads (checking other_kind) records p → p ≡ checking other_kind
stays_other [] p stays = refl
stays_other (r ∷ rest) p (goes {q = mine} (q, is, e) l) =
    stays_other rest p (subst (λ (x : GapProgress). GapLeads x rest p) (e ∙ ap checking is) l)

unchecked_head : (r : Record) (rest : List Record) → ¬ IsChecked (r ∷ rest) → after_head r ≡ other_kind
unchecked_head (line.head version kind) rest other = by (is_checked version kind) refl
  where
    by : (b : Bool) → is_checked version kind ≡ b → cond b (passing (begun version kind)) other_kind ≡ other_kind
    by true e = absurd (other e)
    by false e = refl
unchecked_head other rest h = refl

abbrev refused : CheckEnd → Result GapAnswer CheckEnd
refused end = Err end

unchecked : (journal : List Record) (p : GapProgress) → ¬ IsChecked journal → GapLeads (checking nothing) journal p → gap_answer p ≡ Err OtherKind
unchecked [] p other stays = refl
unchecked (r ∷ rest) p other (goes {q = mine} (q, is, e) l) =
    ap gap_answer (stays_other rest p (subst (λ (x : GapProgress). GapLeads x rest p) (e ∙ ap checking (is ∙ unchecked_head r rest other)) l))

ok_is_err : (a : GapAnswer) (end : CheckEnd) → (let o : Result GapAnswer CheckEnd = Ok a in o) ≡ Err end → ⊥
ok_is_err a end e = cc

answered_is_checked : (journal : List Record) (a : GapAnswer) → GivesGap journal a → ¬ ¬ IsChecked journal
answered_is_checked journal a (p, l, e) other = ok_is_err a OtherKind (sym e ∙ unchecked journal p other l)

-- ---- one answer

one_journal : (bytes : List ℕ) (j k : List Record) → IsJournal bytes j → IsJournal bytes k → j ≡ k
one_journal bytes j k is is' = ok_same j k (bytes_tell bytes (Ok j) (Ok k) is is')

no_fault : (bytes : List ℕ) (j : List Record) (fault : LinesFault) → IsJournal bytes j → IsLinesFault bytes fault → ⊥
no_fault bytes j fault is f = ok_err j fault (bytes_tell bytes (Ok j) (Err fault) is f)

ok_or_end : (bytes : List ℕ) (a : GapAnswer) (end : CheckEnd) → AnswersGap bytes (Ok a) → AnswersGap bytes (Err end) → (refused end ≡ Err NoMemory → ⊥) → ⊥
ok_or_end bytes a (Grammar n) (j, is, h) f memory = no_fault bytes j (grammar n) is f
ok_or_end bytes a (Unended n) (j, is, h) f memory = no_fault bytes j (unended n) is f
ok_or_end bytes a OtherKind (j, is, h) (k, is', other) memory =
    answered_is_checked k a (subst (λ (x : List Record). GivesGap x a) (one_journal bytes j k is is') h) other
ok_or_end bytes a NoMemory h f memory = memory refl

same_end : (one other : CheckEnd) → (let o : Result Answer CheckEnd = Err one in o) ≡ Err other → refused one ≡ refused other
same_end one other e = ap refused cc

is_memory : (end : CheckEnd) → (let o : Result Answer CheckEnd = Err end in o) ≡ Err NoMemory → refused end ≡ Err NoMemory
is_memory end e = same_end end NoMemory e

pub one_gap_answer : OneGapAnswer
one_gap_answer bytes (Ok a) (Ok b) (j, is, h) (k, is', h') n m = gives_same k a b (subst (λ (x : List Record). GivesGap x a) (one_journal bytes j k is is') h) h'
one_gap_answer bytes (Ok a) (Err end) h f n m = absurd (ok_or_end bytes a end h f m)
one_gap_answer bytes (Err end) (Ok a) f h n m = absurd (ok_or_end bytes a end h f n)
one_gap_answer bytes (Err one) (Err other) f g n m =
    same_end one other (one_answer_of_bytes bytes (Err one) (Err other) f g (λ e. n (is_memory one e)) (λ e. m (is_memory other e)))
