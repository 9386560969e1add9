-- `check` on told bytes, with no fault of the outside: the
-- checker's answer on the bytes decides what is written.
use Rattle.std.proofs.Common.{◌≡◌, ◌≢◌, ◌∙◌, refl, ap, sym, subst, inl, inr, ◌⊎◌, ℕ, List, [], length, get_or, Some, Option, Result, Ok, Err, arith}
use Rattle.ice_defs.specs.FileFault.{FileFault}
use Rattle.ice_edge.specs.declared.status.Status.{Status}
use Rattle.ice_edge.specs.declared.status.Status.TheVariants.{Done, Words, Input, No, Spent, Limit, ReadFault, WriteFault, NoMemory, StillOpen}
use Rattle.ice_journal_laws.specs.declared.answer.Answer.{Answer}
use Rattle.ice_journal_laws.specs.declared.answer.CheckEnd.{CheckEnd}
use Rattle.ice_journal_laws.specs.declared.answer.CheckEnd.TheVariants as ending
use Rattle.ice_journal_laws.specs.Answers.{AnswersBytes}
use Rattle.ice_journal_laws.proofs.Answered.{one_answer_of_bytes}
use Rattle.ice_command_parts.specs.Call.{Call, IsTold, journal_limit, OfTold, too_long, at_fault}
use Rattle.ice_words.specs.Command.{check, best, regret, xor, run, gen, migrate, simulate, IsCommand, replay, statement, audit, fair, gap}
use Rattle.ice_commands.specs.Ends.{IsEndFault}
use Rattle.ice_commands.specs.CheckServed.{CheckAnswers, WritesAnswer, answer_line, answer_status}
use Rattle.ice_command_parts.specs.Lines.{refused_line}
use Rattle.ice_command_parts.specs.Refusals.{no_record, not_ended, other_kind}
use Rattle.ice_cli.specs.Served.{IsServed, no_command, answers, cut_short}
use Rattle.ice_cli.specs.Completeness.{IsFaultless, ReadsBytes, CheckCompletes, CheckIsDecided}

-- ---- the call answers `check`

check_answers : (call : Call) (journal : List ℕ) → IsServed call → IsCommand call.words (check journal) → IsFaultless call → CheckAnswers call journal call.status
check_answers call journal (no_command refuses) is faultless = absurd (refuses.none (check journal) is)
check_answers call journal (answers (check name) other answer) is faultless =
    let P : List ℕ → Type 0 = λ file. CheckAnswers call file call.status in
    subst P (ap (λ (words : List (List ℕ)). get_or words 1 []) (sym other.1 ∙ is.1)) answer
check_answers call journal (answers (best exchange prices) other answer) is faultless =
    let lengths : 3 ≡ 2 = ap (λ (words : List (List ℕ)). length words) (sym other.1 ∙ is.1) in
    absurd (omega (arith, lengths))
check_answers call journal (answers (regret exchange) other answer) is faultless =
    let lengths : 6 ≡ 5 = ap (λ (words : List (List ℕ)). length (get_or words 0 [])) (sym other.1 ∙ is.1) in
    absurd (omega (arith, lengths))
check_answers call journal (answers (xor file) other answer) is faultless =
    let lengths : 3 ≡ 5 = ap (λ (words : List (List ℕ)). length (get_or words 0 [])) (sym other.1 ∙ is.1) in
    absurd (omega (arith, lengths))
check_answers call journal (answers (replay name number) other answer) is faultless =
    let lengths : 6 ≡ 5 = ap (λ (words : List (List ℕ)). length (get_or words 0 [])) (sym other.1 ∙ is.1) in
    absurd (omega (arith, lengths))
check_answers call journal (answers (run exchange rounds) other answer) is faultless =
    let lengths : 3 ≡ 5 = ap (λ (words : List (List ℕ)). length (get_or words 0 [])) (sym other.1 ∙ is.1) in
    absurd (omega (arith, lengths))
check_answers call journal (answers (gen number) other answer) is faultless =
    let lengths : 3 ≡ 5 = ap (λ (words : List (List ℕ)). length (get_or words 0 [])) (sym other.1 ∙ is.1) in
    absurd (omega (arith, lengths))
check_answers call journal (answers (migrate name) other answer) is faultless =
    let lengths : 7 ≡ 5 = ap (λ (words : List (List ℕ)). length (get_or words 0 [])) (sym other.1 ∙ is.1) in
    absurd (omega (arith, lengths))
check_answers call journal (answers (simulate name truths) other answer) is faultless =
    let lengths : 3 ≡ 2 = ap (λ (words : List (List ℕ)). length words) (sym other.1 ∙ is.1) in
    absurd (omega (arith, lengths))
check_answers call journal (answers (statement name bidder) other answer) is faultless =
    let lengths : 3 ≡ 2 = ap (λ (words : List (List ℕ)). length words) (sym other.1 ∙ is.1) in
    absurd (omega (arith, lengths))
check_answers call journal (answers (audit file) other answer) is faultless =
    let letters : 97 ≡ 99 = ap (λ (words : List (List ℕ)). get_or (get_or words 0 []) 0 0) (sym other.1 ∙ is.1) in
    absurd (omega (arith, letters))
check_answers call journal (answers (fair name) other answer) is faultless =
    let lengths : 4 ≡ 5 = ap (λ (words : List (List ℕ)). length (get_or words 0 [])) (sym other.1 ∙ is.1) in
    absurd (omega (arith, lengths))
check_answers call journal (answers (gap name) other answer) is faultless =
    let lengths : 3 ≡ 5 = ap (λ (words : List (List ℕ)). length (get_or words 0 [])) (sym other.1 ∙ is.1) in
    absurd (omega (arith, lengths))
check_answers call journal (cut_short text status failed rose served front) is faultless = absurd (faultless.writes rose)

-- ---- the status

ends : (call : Call) (journal : List ℕ) (status : Status) → IsFaultless call → CheckAnswers call journal status → (status ≡ Done) ⊎ (status ≡ Input) ⊎ (status ≡ No) ⊎ (status ≡ NoMemory)
ends call journal Done faultless answer = inl refl
ends call journal Input faultless answer = inr (inl refl)
ends call journal No faultless answer = inr (inr (inl refl))
ends call journal NoMemory faultless answer = inr (inr (inr refl))
ends call journal ReadFault faultless answer = absurd (faultless.reads journal answer.0)
ends call journal Words faultless answer = absurd answer
ends call journal Spent faultless answer = absurd answer
ends call journal Limit faultless answer = absurd answer
ends call journal WriteFault faultless answer = absurd answer
ends call journal StillOpen faultless answer = absurd answer

pub check_completes : CheckCompletes
check_completes call journal bytes checks = ends call journal call.status checks.faultless (check_answers call journal checks.served checks.is checks.faultless)

-- ---- what the checker answers decides the status and the text

abbrev fault_of_end : CheckEnd → FileFault
fault_of_end (ending.Grammar line) = no_record line
fault_of_end (ending.Unended line) = not_ended line
fault_of_end ending.OtherKind = other_kind
fault_of_end ending.NoMemory = other_kind

abbrev status_of : Result Answer CheckEnd → Status
status_of (Ok answer) = answer_status answer
status_of (Err end) = Input

abbrev text_of : Result Answer CheckEnd → List ℕ
text_of (Ok answer) = answer_line answer
text_of (Err end) = refused_line 1 (fault_of_end end)

record IsDecided (call : Call) (bytes : List ℕ) (status : Status) : Type 0 where
  answer : Result Answer CheckEnd
  is : AnswersBytes bytes answer
  remembered : answer ≢ Err ending.NoMemory
  ended : status ≡ status_of answer
  wrote : call.text ≡ text_of answer

-- a told file is read as what is told
pub same_bytes : (told : Option (Option (List ℕ))) (bytes other : List ℕ) → told ≡ Some (Some bytes) → OfTold journal_limit (λ read. read ≡ other) told → other ≡ bytes
same_bytes told bytes other is h = let P : Option (Option (List ℕ)) → Type 0 = λ t. OfTold journal_limit (λ read. read ≡ other) t in sym (subst P is h).1

writes_answer : (call : Call) (journal bytes : List ℕ) (status : Status) → IsTold call journal bytes → WritesAnswer call journal status → IsDecided call bytes status
writes_answer call journal bytes status told (answer, (read, is, held), ended, text) =
    let P : List ℕ → Type 0 = λ b. AnswersBytes b (Ok answer) in
    record {
      answer = Ok answer;
      is = subst P (same_bytes (call.before.holds journal) bytes read told held) is;
      remembered = λ e. absurd (cc);
      ended = sym ended;
      wrote = text;
    }

end_is_fault : (end : CheckEnd) (fault : FileFault) → IsEndFault end fault → fault ≡ fault_of_end end
end_is_fault (ending.Grammar line) fault is = is
end_is_fault (ending.Unended line) fault is = is
end_is_fault ending.OtherKind fault is = is
end_is_fault ending.NoMemory fault is = absurd is

pub end_remembers : (end : CheckEnd) (fault : FileFault) → IsEndFault end fault → end ≢ ending.NoMemory
end_remembers (ending.Grammar line) fault is e = cc
end_remembers (ending.Unended line) fault is e = cc
end_remembers ending.OtherKind fault is e = cc
end_remembers ending.NoMemory fault is e = absurd is

decided : (call : Call) (journal bytes : List ℕ) (status : Status) → IsFaultless call → IsTold call journal bytes → CheckAnswers call journal status → status ≢ NoMemory → IsDecided call bytes status
decided call journal bytes Done faultless told answer has = writes_answer call journal bytes Done told answer
decided call journal bytes No faultless told answer has = writes_answer call journal bytes No told answer
decided call journal bytes Input faultless told (fault, too_long rose long, text) has = absurd (faultless.lengths journal journal_limit rose)
decided call journal bytes Input faultless told (fault, at_fault read (end, is, at_end) held, text) has =
    let P : List ℕ → Type 0 = λ b. AnswersBytes b (Err end) in
    record {
      answer = Err end;
      is = subst P (same_bytes (call.before.holds journal) bytes read told held) is;
      remembered = λ e. end_remembers end fault at_end (cc);
      ended = refl;
      wrote = text ∙ ap (refused_line 1) (end_is_fault end fault at_end);
    }
decided call journal bytes NoMemory faultless told answer has = absurd (has refl)
decided call journal bytes ReadFault faultless told answer has = absurd (faultless.reads journal answer.0)
decided call journal bytes Words faultless told answer has = absurd answer
decided call journal bytes Spent faultless told answer has = absurd answer
decided call journal bytes Limit faultless told answer has = absurd answer
decided call journal bytes WriteFault faultless told answer has = absurd answer
decided call journal bytes StillOpen faultless told answer has = absurd answer

of_check : (call : Call) (journal bytes : List ℕ) → ReadsBytes call (check journal) journal bytes → call.status ≢ NoMemory → IsDecided call bytes call.status
of_check call journal bytes checks has =
    decided call journal bytes call.status checks.faultless checks.told (check_answers call journal checks.served checks.is checks.faultless) has

pub check_is_decided : CheckIsDecided
check_is_decided one other journal name bytes checks_one checks_other has_one has_other =
    let a = of_check one journal bytes checks_one has_one in
    let b = of_check other name bytes checks_other has_other in
    let same = one_answer_of_bytes bytes a.answer b.answer a.is b.is a.remembered b.remembered in
    (a.ended ∙ ap status_of same ∙ sym b.ended, a.wrote ∙ ap text_of same ∙ sym b.wrote)
