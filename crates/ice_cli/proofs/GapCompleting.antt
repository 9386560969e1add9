-- `gap` on what a command wrote whose branches are spent, with no fault of the outside.
use Rattle.std.proofs.Common.{◌≡◌, ◌≢◌, ◌∙◌, ◌⊎◌, inl, inr, ℕ, List, [], get_or, refl, sym, ap, subst, Result, Ok, Err, arith}
use Rattle.ice_edge.specs.declared.status.Status.{Status}
use Rattle.ice_edge.specs.declared.status.Status.TheVariants.{Done, Words, Input, No, Spent, Limit, ReadFault, WriteFault, NoMemory, StillOpen}
use Rattle.ice_journal.specs.Records.{Record}
use Rattle.ice_journal.specs.Journal.{IsJournal}
use Rattle.ice_journal_laws.specs.declared.answer.CheckEnd.{CheckEnd}
use Rattle.ice_journal_laws.specs.declared.answer.CheckEnd.TheVariants as ending
use Rattle.ice_gap_laws.specs.declared.answer.GapAnswer.{GapAnswer}
use Rattle.ice_gap_laws.specs.declared.answer.GapAnswer.TheVariants as answer
use Rattle.ice_gap_laws.specs.Gap.{Gap}
use Rattle.ice_gap_laws.specs.Answers.{AnswersGap}
use Rattle.ice_gap_laws.proofs.Single.{one_gap_answer}
use Rattle.ice_session_laws.specs.Written.{HasGapAnswer}
use Rattle.ice_words.specs.Command.{check, best, regret, xor, replay, gen, run, migrate, simulate, statement, audit, fair, gap, IsCommand}
use Rattle.ice_command_parts.specs.Call.{Call, IsTold, journal_limit, too_long, at_fault}
use Rattle.ice_commands.specs.CheckServed.{CheckAnswers}
use Rattle.ice_commands.specs.BestServed.{BestAnswers}
use Rattle.ice_commands.specs.RegretServed.{RegretAnswers}
use Rattle.ice_commands.specs.XorServed.{XorAnswers}
use Rattle.ice_commands.specs.ReplayServed.{ReplayAnswers}
use Rattle.ice_commands.specs.MigrateServed.{MigrateAnswers}
use Rattle.ice_commands.specs.StatementServed.{StatementAnswers}
use Rattle.ice_commands.specs.AuditServed.{AuditAnswers}
use Rattle.ice_commands.specs.FairServed.{FairAnswers}
use Rattle.ice_commands.specs.GapServed.{gap_line, gap_status, GapAnswers, WritesGap}
use Rattle.ice_session_commands.specs.RunServed.{RunAnswers}
use Rattle.ice_session_commands.specs.SimulateServed.{SimulateAnswers}
use Rattle.ice_session_commands.specs.GenServed.{GenAnswers}
use Rattle.ice_cli.specs.Served.{IsServed, no_command, answers, cut_short}
use Rattle.ice_cli.specs.Completeness.{IsFaultless, WritesGapOf, SpentHasGap}
use Rattle.ice_cli.proofs.Completing.{same_bytes, end_remembers}
use Rattle.ice_cli.proofs.RunCompleting.{letters}

-- ---- a command whose branches are spent

-- what it wrote is a journal for which `gap` has a gap
abbrev StatesGap : Call → Type 0
StatesGap call = (journal : List Record) × IsJournal call.text journal × HasGapAnswer journal

states_gap : (call : Call) → IsServed call → call.status ≡ Spent → StatesGap call
states_gap call (no_command refuses) spent = let clash : Words ≡ Spent = sym refuses.status ∙ spent in absurd (cc)
states_gap call (answers (regret name) is answer) spent = let h = subst (RegretAnswers call name) spent answer in (h.journal, h.written, h.gap)
states_gap call (answers (run name rounds) is answer) spent = let h = subst (RunAnswers call name rounds) spent answer in (h.journal, h.written, h.gap)
states_gap call (answers (simulate name truths) is answer) spent = let h = subst (SimulateAnswers call name truths) spent answer in (h.journal, h.written, h.gap)
states_gap call (answers (gen number) is answer) spent = let h = subst (GenAnswers call.text number) spent answer in (h.0, h.1.written, h.3)
states_gap call (answers (check name) is answer) spent = absurd (subst (CheckAnswers call name) spent answer)
states_gap call (answers (best name prices) is answer) spent = absurd (subst (BestAnswers call name prices) spent answer)
states_gap call (answers (xor file) is answer) spent = absurd (subst (XorAnswers call file) spent answer)
states_gap call (answers (replay name number) is answer) spent = absurd (subst (ReplayAnswers call name number) spent answer)
states_gap call (answers (migrate name) is answer) spent = absurd (subst (MigrateAnswers call name) spent answer)
states_gap call (answers (statement name bidder) is answer) spent = absurd (subst (StatementAnswers call name bidder) spent answer)
states_gap call (answers (audit file) is answer) spent = absurd (subst (AuditAnswers call file) spent answer)
states_gap call (answers (fair name) is answer) spent = absurd (subst (FairAnswers call name) spent answer)
states_gap call (answers (gap name) is answer) spent = absurd (subst (GapAnswers call name) spent answer)
states_gap call (cut_short text status failed rose served front) spent = let clash : WriteFault ≡ Spent = sym failed ∙ spent in absurd (cc)

-- ---- the call answers `gap`

gap_answers : (call : Call) (journal : List ℕ) → IsServed call → IsCommand call.words (gap journal) → IsFaultless call → GapAnswers call journal call.status
gap_answers call journal (no_command refuses) is faultless = absurd (refuses.none (gap journal) is)
gap_answers call journal (answers (gap name) other answer) is faultless =
    let P : List ℕ → Type 0 = λ file. GapAnswers call file call.status in
    subst P (ap (λ (words : List (List ℕ)). get_or words 1 []) (sym other.1 ∙ is.1)) answer
gap_answers call journal (answers (check name) other answer) is faultless = let differ : 25445 ≡ 26480 = ap letters (sym other.1 ∙ is.1) in absurd (omega (arith, differ))
gap_answers call journal (answers (best name prices) other answer) is faultless = let differ : 25203 ≡ 26480 = ap letters (sym other.1 ∙ is.1) in absurd (omega (arith, differ))
gap_answers call journal (answers (regret name) other answer) is faultless = let differ : 29287 ≡ 26480 = ap letters (sym other.1 ∙ is.1) in absurd (omega (arith, differ))
gap_answers call journal (answers (xor file) other answer) is faultless = let differ : 30834 ≡ 26480 = ap letters (sym other.1 ∙ is.1) in absurd (omega (arith, differ))
gap_answers call journal (answers (replay name number) other answer) is faultless = let differ : 29296 ≡ 26480 = ap letters (sym other.1 ∙ is.1) in absurd (omega (arith, differ))
gap_answers call journal (answers (gen number) other answer) is faultless = let differ : 26478 ≡ 26480 = ap letters (sym other.1 ∙ is.1) in absurd (omega (arith, differ))
gap_answers call journal (answers (run name rounds) other answer) is faultless = let differ : 29294 ≡ 26480 = ap letters (sym other.1 ∙ is.1) in absurd (omega (arith, differ))
gap_answers call journal (answers (migrate name) other answer) is faultless = let differ : 28007 ≡ 26480 = ap letters (sym other.1 ∙ is.1) in absurd (omega (arith, differ))
gap_answers call journal (answers (simulate name truths) other answer) is faultless = let differ : 29549 ≡ 26480 = ap letters (sym other.1 ∙ is.1) in absurd (omega (arith, differ))
gap_answers call journal (answers (statement name bidder) other answer) is faultless = let differ : 29537 ≡ 26480 = ap letters (sym other.1 ∙ is.1) in absurd (omega (arith, differ))
gap_answers call journal (answers (audit file) other answer) is faultless = let differ : 24932 ≡ 26480 = ap letters (sym other.1 ∙ is.1) in absurd (omega (arith, differ))
gap_answers call journal (answers (fair name) other answer) is faultless = let differ : 26217 ≡ 26480 = ap letters (sym other.1 ∙ is.1) in absurd (omega (arith, differ))
gap_answers call journal (cut_short text status failed rose served front) is faultless = absurd (faultless.writes rose)

-- ---- bytes that state a gap have no other answer

abbrev told_gap : Gap → GapAnswer
told_gap x = answer.Gap x.group x.value x.bound

abbrev told : Gap → Result GapAnswer CheckEnd
told x = Ok (told_gap x)

module _ (call : Call) (journal bytes : List ℕ) (x : Gap) (states : AnswersGap bytes (told x)) (is_told : IsTold call journal bytes) (faultless : IsFaultless call) where
  one_answer : (other : Result GapAnswer CheckEnd) → AnswersGap bytes other → other ≢ Err ending.NoMemory → other ≡ told x
  one_answer other is remembered = one_gap_answer bytes other (told x) is states remembered (λ e. absurd (cc))

  is_gap : (status : Status) → (writes : WritesGap call journal status) → writes.0 ≡ told_gap x
  is_gap status (other, (read, is, held), ended, text) =
      let P : List ℕ → Type 0 = λ b. AnswersGap b (Ok other) in
      let same : Ok other ≡ told x = one_answer (Ok other) (subst P (same_bytes (call.before.holds journal) bytes read is_told held) is) (λ e. absurd (cc)) in
      cc

  abbrev Ends : Status → Type 0
  Ends status = ((status ≡ Done) × (call.text ≡ gap_line (told_gap x))) ⊎ (status ≡ NoMemory)

  ends : (status : Status) → GapAnswers call journal status → Ends status
  ends Done writes = inl (refl, writes.3 ∙ ap gap_line (is_gap Done writes))
  ends No writes = let clash : Done ≡ No = sym (ap gap_status (is_gap No writes)) ∙ writes.2 in absurd (cc)
  ends Input (fault, too_long rose long, text) = absurd (faultless.lengths journal journal_limit rose)
  ends Input (fault, at_fault read (end, is, at_end) held, text) =
      let P : List ℕ → Type 0 = λ b. AnswersGap b (Err end) in
      let clash : Err end ≡ told x = one_answer (Err end) (subst P (same_bytes (call.before.holds journal) bytes read is_told held) is) (λ e. end_remembers end fault at_end (cc)) in
      absurd (cc)
  ends NoMemory answer = inr refl
  ends ReadFault answer = absurd (faultless.reads journal answer.0)
  ends Words answer = absurd answer
  ends Spent answer = absurd answer
  ends Limit answer = absurd answer
  ends WriteFault answer = absurd answer
  ends StillOpen answer = absurd answer

  writes_gap : Ends call.status → WritesGapOf call bytes ⊎ (call.status ≡ NoMemory)
  writes_gap (inl (done, text)) = inl (record { status = done; gap = x; states = states; text = text })
  writes_gap (inr memory) = inr memory

pub spent_has_gap : SpentHasGap
spent_has_gap call asked journal served spent reads =
    let (records, written, (x, gives)) = states_gap call served spent in
    writes_gap asked journal call.text x (records, written, gives) reads.told reads.faultless
    (ends asked journal call.text x (records, written, gives) reads.told reads.faultless asked.status (gap_answers asked journal reads.served reads.is reads.faultless))
