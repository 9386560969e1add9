-- But for want of memory, bytes have one last settlement, or one reason why there is none.
use Rattle.std.proofs.Common.{◌≡◌, ℕ, List, refl, sym, ◌∙◌, ap}
use Rattle.std.specs.Prelude.{Some, None, Result, Ok, Err}
use Rattle.std.proofs.lemmas.Option.{none-some, same_Some}
use Rattle.ice_journal.specs.Records.{Record}
use Rattle.ice_journal_laws.specs.declared.answer.CheckEnd.TheVariants.{OtherKind}
use Rattle.ice_journal_laws.specs.declared.rule.Rule.{Rule}
use Rattle.ice_journal_laws.specs.Checks.{Failure, FirstFailure}
use Rattle.ice_journal_laws.specs.Written.{session_records}
use Rattle.ice_journal_laws.proofs.Single.{same_failure}
use Rattle.ice_fair.specs.Lasts.{LastTrade}
use Rattle.ice_last_laws.specs.Last.{payments_said, amounts}
use Rattle.ice_last_laws.proofs.Lasts.{session_said}
use Rattle.ice_reading.specs.declared.end.JournalEnd.{JournalEnd}
use Rattle.ice_reading.specs.declared.end.JournalEnd.TheVariants.{Unjudged, FailsTest}
use Rattle.ice_reading.proofs.Deciding.{Finds, of_journal, end_found, one_found}
use Rattle.ice_last.specs.Lasts.{IsSession, IsLastOf, FailsFirst, LastsBytes}
use Rattle.ice_last.specs.Laws.{SaySame, AnswerTheSame, OneLastAnswer}

-- ---- what a journal answers

data Answers (journal : List Record) : Result LastTrade JournalEnd → Type 0 where
  closes : (last : LastTrade) → IsLastOf last journal → Answers journal (Ok last)
  of_no_session : ¬ IsSession journal → Answers journal (Err (Unjudged OtherKind))
  fails : (place : ℕ) (test : Rule) → IsSession journal → FirstFailure journal (Some (record { line = place; rule = test })) → Answers journal (Err (FailsTest place test))

-- a journal says one session's records
same_session : (one other : LastTrade) (journal : List Record) → IsLastOf one journal → IsLastOf other journal → SaySame one other
same_session one other journal h k =
    let records : session_records h.stated ≡ session_records k.stated = sym h.says ∙ k.says in
    record {
      mine = h.stated;
      others = k.stated;
      records = records;
      one_is = h.is;
      other_is = k.is;
      payments =
          ap (λ (l : LastTrade). l.paid.payments) h.is ∙ ap amounts (sym (session_said h.stated) ∙ ap payments_said records ∙ session_said k.stated)
          ∙ sym (ap (λ (l : LastTrade). l.paid.payments) k.is);
    }

passes_fails : (journal : List Record) (f : Failure) → FirstFailure journal None → FirstFailure journal (Some f) → ⊥
passes_fails journal f passes failed = none-some f (same_failure journal None (Some f) passes failed)

of_one_journal : (journal : List Record) (one other : Result LastTrade JournalEnd) → Answers journal one → Answers journal other → AnswerTheSame one other
of_one_journal journal _ _ (closes x h) (closes y k) = same_session x y journal h k
of_one_journal journal _ _ (closes x h) (of_no_session none) = absurd (none h.session)
of_one_journal journal _ _ (closes x h) (fails m test is first) = absurd (passes_fails journal (record { line = m; rule = test }) h.checks.1 first)
of_one_journal journal _ _ (of_no_session none) (closes x h) = absurd (none h.session)
of_one_journal journal _ _ (of_no_session none) (of_no_session none') = refl
of_one_journal journal _ _ (of_no_session none) (fails m test is first) = absurd (none is)
of_one_journal journal _ _ (fails m test is first) (closes x h) = absurd (passes_fails journal (record { line = m; rule = test }) h.checks.1 first)
of_one_journal journal _ _ (fails m test is first) (of_no_session none) = absurd (none is)
of_one_journal journal _ _ (fails m x is first) (fails n y is' first') =
    let f : Failure = record { line = m; rule = x } in
    let g : Failure = record { line = n; rule = y } in
    ap (λ (f : Failure). FailsTest f.line f.rule) (same_Some f g (same_failure journal (Some f) (Some g) first first'))

-- ---- what bytes answer

-- a journal's end among the answers
abbrev said : JournalEnd → Result LastTrade JournalEnd
said end = Err end

finds : (bytes : List ℕ) (answer : Result LastTrade JournalEnd) → LastsBytes bytes answer → Finds said Answers bytes answer
finds bytes (Ok x) (j, is, h) = of_journal j (Ok x) is (closes x h)
finds bytes (Err end) h =
    end_found said Answers (λ journal. ¬ IsSession journal) FailsFirst (λ journal none. of_no_session none) (λ journal line rule fails_so. fails line rule fails_so.0 fails_so.1) bytes end h

same_end : (end : JournalEnd) → AnswerTheSame (Err end) (Err end)
same_end end = refl

pub one_last_answer : OneLastAnswer
one_last_answer bytes one other h k = one_found said Answers AnswerTheSame same_end of_one_journal bytes one other (finds bytes one h) (finds bytes other k)
