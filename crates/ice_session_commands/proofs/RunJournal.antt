-- The journal that `run` writes is one of which its contract speaks.
use Rattle.std.proofs.Common.{◌≡◌, ◌∙◌, ◌+◌, ◌<◌, ◌≤◌, ℕ, suc, List, [], ◌∷◌, ◌++◌, length, map, drop, refl, sym, ap, subst, arith, append_assoc, Some, Ok, length-append}
use Rattle.std.specs.Prelude.{slice_get}
use Rattle.std.specs.List.{AllByRecursion}
use Rattle.std.proofs.lemmas.List.{append-nil}
use Rattle.ice_edge.specs.Told.{Told}
use Rattle.ice_edge.specs.declared.status.Status.{Status}
use Rattle.ice_edge.specs.declared.status.Status.TheVariants.{Done, Input, Spent, Limit, ReadFault, NoMemory, StillOpen}
use Rattle.ice_edge.specs.Taken.{Taken}
use Rattle.ice_defs.specs.FileFault.{FileFault}
use Rattle.ice_defs.specs.Round.{Submission, Judged}
use Rattle.ice_defs.specs.Exchange.{Exchange, exact_of}
use Rattle.ice_defs.specs.Session.{Going}
use Rattle.ice_journal.specs.Records.{Record, version_2, session_kind, open_end}
use Rattle.ice_journal.specs.Records as line
use Rattle.ice_journal.specs.Ranges.{IsRecord}
use Rattle.ice_journal.specs.Journal.{bytes_of}
use Rattle.ice_journal_laws.specs.ShowingSession.{going_in, goings_in}
use Rattle.ice_journal_laws.specs.SoFar.{IsSoFar}
use Rattle.ice_journal_laws.specs.Positions.{Position, position_records}
use Rattle.ice_search.specs.declared.results.Found.{Found}
use Rattle.ice_search.specs.declared.results.Spent as results
use Rattle.ice_regret.specs.declared.lead.Regret.{Regret}
use Rattle.ice_price.specs.declared.ends.PriceLimit.{PriceLimit}
use Rattle.ice_round.specs.SessionAt.{SessionAt, RoundAt}
use Rattle.ice_settled.specs.Shown.{closed_of}
use Rattle.ice_round.specs.Shown.{IsClosing}
use Rattle.ice_settled.specs.declared.settled.Closing.{Closing}
use Rattle.ice_write_session.specs.Records.{closing_records, spent_records, limit_records}
use Rattle.ice_session_laws.specs.Running.{IsInRound}
use Rattle.ice_session_laws.specs.Stops.{StopsRound, no_file, file_refused, file_unread}
use Rattle.ice_session_laws.specs.Laws.{sought_records}
use Rattle.ice_session_laws.specs.Written.{begun_records, run_records, round_records, closed_session, IsUnended, IsSpentJournal, IsLimitedJournal}
use Rattle.ice_round.proofs.GoingOn.{more_rounds}
use Rattle.ice_session_laws.proofs.Sessions.{run_is_unended, run_closes}
use Rattle.ice_session_laws.proofs.RoundStops.{round_is_unended, round_stops, round_stays_open}
use Rattle.ice_session_laws.specs.Branches.{enough_for_session}
use Rattle.ice_command_parts.specs.declared.refusal.Refusal.{Refusal}
use Rattle.ice_command_parts.specs.declared.refusal.Refusal.TheVariants as refusal
use Rattle.ice_command_parts.specs.Call.{Call, FaultRose, file_limit, OfFile, IsRefused}
use Rattle.ice_command_parts.specs.Files.{IsExchangeOf, IsExchangeFault, HoldsExchange, IsRoundFault}
use Rattle.ice_command_parts.specs.Journals.{WritesBehind}
use Rattle.ice_command_parts.specs.Lines.{refused_line, unread_line}
use Rattle.ice_command_parts.specs.Parts.{Answers, Serves}
use Rattle.ice_command_parts.specs.Refusals.{fault_of, refusal_text, refusal_status, Refuses}
use Rattle.ice_command_parts.proofs.Parts.{told_in_call, told_also}
use Rattle.ice_session_commands.specs.Rounds.{rounds_in, BeginsRound, HasRoundsOf, submissions_of, AreRoundsOf, IsRunSoFar}
use Rattle.ice_session_commands.specs.RunServed.{IsRunText, nothing, of_journal, RunAnswers}
use Rattle.ice_session_commands.specs.RunServed as served
use Rattle.ice_session_commands.specs.SessionEnds.{EndsSettling, without_memory, finds, offers, opens, closes, spends, limits}
use Rattle.ice_session_commands.specs.RunJournal.{HasRun, HasOpened, IsRunJournal, RunsTo, settles, in_round, stays_open, refuses, fails_to_read}
use Rattle.ice_session_commands.proofs.Begun.{has_exchange}
use Rattle.ice_session_commands.proofs.RoundFaults.{round_fault_is_record}
use Rattle.ice_session_commands.proofs.RunRounds.{IsOther, SettlesOnce, settles_more, position_settles, closed_settles, spent_other, limit_other, sought_settles, once_behind, none_behind, round_behind, begins_none, whole_rounds, last_round, rounds_count}

module _ (call : Call) (name : List ℕ) (files : List (List ℕ)) where
  abbrev goings : Exchange → List Going → List Record
  goings ex going = goings_in version_2 (length (exact_of ex)) 0 going

  -- what is written so far, of a run with more behind it
  module _ (s : SessionAt) (going : List Going) (told : OfFile call name file_limit (λ bytes. IsExchangeOf bytes (Ok s.exchange))) where
    so_far_behind : (more : List Record) (rounds : List (List Submission)) → rounds_in (run_records s.exchange going ++ more) ≡ rounds → HasRoundsOf call files rounds → IsSoFar session_kind (run_records s.exchange going ++ more)
        → IsRunSoFar call name files session_kind (run_records s.exchange going ++ more)
    so_far_behind more rounds e has so_far = record {
      so_far = so_far;
      exchange_is = has_exchange call name s.exchange (run_records s.exchange going ++ more) (goings s.exchange going ++ more) told (append_assoc (begun_records s.exchange) (goings s.exchange going) more);
      rounds_are = subst (HasRoundsOf call files) (sym e) has;
    }

    once_so_far : AreRoundsOf call files going → (number : ℕ) (more : List Record) → SettlesOnce number more → IsSoFar session_kind (run_records s.exchange going ++ more) → IsRunSoFar call name files session_kind (run_records s.exchange going ++ more)
    once_so_far are number more once so_far =
        so_far_behind more (map submissions_of going ++ [] ∷ []) (once_behind s.exchange going number more once) (last_round call files going [] are (begins_none call (drop (length going) files))) so_far

    -- ---- nothing stopped

    between_answers : HasRun call files going s → call.text ≡ bytes_of (run_records s.exchange going) → RunAnswers call name files NoMemory
    between_answers has text =
        let found : IsUnended (run_records s.exchange going) = run_is_unended going s has.running in
        let is : IsRunSoFar call name files session_kind (run_records s.exchange going) = record {
          so_far = found.so_far;
          exchange_is = has_exchange call name s.exchange (run_records s.exchange going) (goings s.exchange going) told refl;
          rounds_are = subst (HasRoundsOf call files) (sym (none_behind s.exchange going)) (whole_rounds call files going has.rounds);
        } in
        subst (IsRunText call name files) (sym text) (of_journal is found.unstopped found.groups)

    found_answers : HasRun call files going s → (number : ℕ) (more : List Record) → SettlesOnce number more → IsUnended (run_records s.exchange going ++ more) → call.text ≡ bytes_of (run_records s.exchange going ++ more) → RunAnswers call name files NoMemory
    unfolding once_so_far so_far_behind
    found_answers has number more once found text =
        subst (IsRunText call name files) (sym text) (of_journal (once_so_far has.rounds number more once found.so_far) found.unstopped found.groups)

    -- ---- it closed

    close_answers : (c : Closing) → HasRun call files going s → IsClosing s c → AllByRecursion IsRecord (closing_records c) → call.text ≡ bytes_of (run_records s.exchange going ++ closing_records c) → RunAnswers call name files Done
    close_answers c has is records text =
        let ended = run_closes going s has.running c is records in
        record {
          journal = run_records s.exchange going ++ closing_records c;
          session = closed_session going s c;
          written = record { lawful = ended.so_far.lawful; spelled = text };
          says = ended.says;
          so_far = once_so_far has.rounds c.number (closing_records c) (closed_settles version_2 (length (exact_of c.exchange)) c.number (closed_of c.exchange c)) ended.so_far;
          exchange_is = told;
          rounds_are = has.rounds;
          right = ended.right;
          checks = (refl, ended.passes);
          headline = ended.headline;
        }

    -- ---- a search was spent, or the pricing ended at a limit

    spent_answers : (at : Position) (spent : results.Spent) → HasRun call files going s → s.exchange.settings.branches < enough_for_session s.exchange → IsSpentJournal (run_records s.exchange going ++ position_records version_2 (length (exact_of s.exchange)) s.number at ++ spent_records s.exchange spent)
        → call.text ≡ bytes_of (run_records s.exchange going ++ position_records version_2 (length (exact_of s.exchange)) s.number at ++ spent_records s.exchange spent) → RunAnswers call name files Spent
    spent_answers at spent has fewer is text =
        let position : List Record = position_records version_2 (length (exact_of s.exchange)) s.number at in
        let grouped = append_assoc (run_records s.exchange going) position (spent_records s.exchange spent) in
        record {
          journal = run_records s.exchange going ++ position ++ spent_records s.exchange spent;
          written = record { lawful = is.so_far.lawful; spelled = text };
          so_far = subst (IsRunSoFar call name files session_kind) (sym grouped)
              (once_so_far has.rounds s.number (position ++ spent_records s.exchange spent) (settles_more s.number position (spent_records s.exchange spent) (position_settles version_2 (length (exact_of s.exchange)) s.number at) (spent_other s.exchange spent))
              (subst (IsSoFar session_kind) grouped is.so_far));
          spent = is.spent;
          gap = is.gap;
          few = told_also (call.before.holds name) file_limit (λ bytes. IsExchangeOf bytes (Ok s.exchange)) _ (λ bytes exchange. (s.exchange, exchange, fewer)) told;
        }

    limit_answers : (final : Found) (amount : Regret) (offered : Found) (limit : PriceLimit) → HasRun call files going s → 0 < s.exchange.settings.rounds → IsLimitedJournal (run_records s.exchange going ++ sought_records s final amount offered ++ limit_records limit)
        → call.text ≡ bytes_of (run_records s.exchange going ++ sought_records s final amount offered ++ limit_records limit) → RunAnswers call name files Limit
    limit_answers final amount offered limit has rounds is text =
        let sought : List Record = sought_records s final amount offered in
        let grouped = append_assoc (run_records s.exchange going) sought (limit_records limit) in
        record {
          journal = run_records s.exchange going ++ sought ++ limit_records limit;
          written = record { lawful = is.so_far.lawful; spelled = text };
          so_far = subst (IsRunSoFar call name files session_kind) (sym grouped)
              (once_so_far has.rounds s.number (sought ++ limit_records limit)
              (settles_more s.number sought (limit_records limit) (sought_settles s final amount offered) (limit_other limit))
              (subst (IsSoFar session_kind) grouped is.so_far));
          limited = is.limited;
          allows_rounds = told_also (call.before.holds name) file_limit (λ bytes. IsExchangeOf bytes (Ok s.exchange)) _ (λ bytes exchange. (s.exchange, exchange, rounds)) told;
        }

  -- ---- a round

  module _ (s : SessionAt) (going : List Going) (last : Going) (r : RoundAt) (told : OfFile call name file_limit (λ bytes. IsExchangeOf bytes (Ok s.exchange))) where
    abbrev here : List Record
    here = going_in version_2 (length (exact_of s.exchange)) s.number last

    round_so_far : (more : List Record) → AllByRecursion IsOther more → AreRoundsOf call files going → BeginsRound call (drop (length going) files) (submissions_of last) → IsSoFar session_kind (round_records s going last ++ more)
        → IsRunSoFar call name files session_kind (round_records s going last ++ more)
    round_so_far more others are begins so_far = record {
      so_far = so_far;
      exchange_is = has_exchange call name s.exchange (round_records s going last ++ more) (goings s.exchange going ++ (here ++ more)) told
          (append_assoc (run_records s.exchange going) here more ∙ append_assoc (begun_records s.exchange) (goings s.exchange going) (here ++ more));
      rounds_are = subst (HasRoundsOf call files) (sym (round_behind s going last more others)) (last_round call files going (submissions_of last) are begins);
    }

    rounds_here : rounds_in (round_records s going last) ≡ map submissions_of going ++ submissions_of last ∷ []
    rounds_here = ap rounds_in (sym (append-nil (round_records s going last))) ∙ round_behind s going last [] tt

    in_round_answers : IsInRound going s last r → AreRoundsOf call files going → BeginsRound call (drop (length going) files) (submissions_of last) → call.text ≡ bytes_of (round_records s going last) → RunAnswers call name files NoMemory
    in_round_answers round are begins text =
        let found : IsUnended (round_records s going last) = round_is_unended going s last r round in
        let is : IsRunSoFar call name files session_kind (round_records s going last) = record {
          so_far = found.so_far;
          exchange_is = has_exchange call name s.exchange (round_records s going last) (goings s.exchange going ++ here) told (append_assoc (begun_records s.exchange) (goings s.exchange going) here);
          rounds_are = subst (HasRoundsOf call files) (sym rounds_here) (last_round call files going (submissions_of last) are begins);
        } in
        subst (IsRunText call name files) (sym text) (of_journal is found.unstopped found.groups)

    -- ---- a round that stops

    module _ (opened : HasOpened call files going s last r) where
      none_here : submissions_of last ≡ []
      none_here = ap (λ (js : List Judged). map (λ j. j.submission) js) opened.none

      begins_here : BeginsRound call (drop (length going) files) (submissions_of last)
      begins_here = subst (BeginsRound call (drop (length going) files)) (sym none_here) (begins_none call (drop (length going) files))

      stops_so_far : (stop : Record) → IsOther stop → StopsRound s.number stop → IsRecord stop → IsRunSoFar call name files session_kind (round_records s going last ++ stop ∷ [])
      stops_so_far stop other stops fits = round_so_far (stop ∷ []) (other, tt) opened.rounds begins_here (round_stops going s last r opened.in_round opened.none stop stops fits)

      count_here : length (rounds_in (round_records s going last)) ≡ suc (length going)
      count_here = ap length rounds_here ∙ rounds_count call going (submissions_of last)

      few_files : length going ≤ 19
      few_files =
          let few = opened.in_round.running.exchange.settings.rounds in
          let more = more_rounds s.exchange.settings s.number last.settlement.regret opened.in_round.goes_on opened.in_round.running.few in
          omega (arith, few, more, opened.in_round.running.number)

      stays_answers : length going ≡ length files → call.text ≡ bytes_of (round_records s going last ++ line.end open_end ∷ []) → RunAnswers call name files StillOpen
      stays_answers all text =
          let is = round_stays_open going s last r opened.in_round opened.none in
          record {
            journal = round_records s going last ++ line.end open_end ∷ [];
            session = record { exchange = s.exchange; going = going ++ last ∷ [] };
            written = record { lawful = is.so_far.lawful; spelled = text };
            says = is.says;
            so_far = stops_so_far (line.end open_end) tt no_file tt;
            all_rounds = omega (arith, length-append going (last ∷ []), all);
            right = is.right;
          }

      refuse_answers : (file : List ℕ) (fault : FileFault) → slice_get files (length going) ≡ Some file → IsRefused call file file_limit IsRoundFault fault
          → call.text ≡ bytes_of (round_records s going last ++ line.refused (length going + 2) fault.number fault.place ∷ []) → RunAnswers call name files Input
      refuse_answers file fault there refused text =
          served.in_round (round_records s going last) (length going) file fault count_here there refused
          (stops_so_far (line.refused (length going + 2) fault.number fault.place) tt
          (subst (λ (k : ℕ). StopsRound k (line.refused (length going + 2) fault.number fault.place)) opened.in_round.running.number (file_refused fault.number fault.place))
          (round_fault_is_record call file (length going + 2) fault (omega arith, omega (arith, few_files)) refused))
          text

      unread_answers : (file : List ℕ) → slice_get files (length going) ≡ Some file → FaultRose call file → call.text ≡ bytes_of (round_records s going last ++ line.unread (length going + 2) ∷ []) → RunAnswers call name files ReadFault
      unread_answers file there rose text =
          served.in_round (round_records s going last) (length going) file count_here there rose
          (stops_so_far (line.unread (length going + 2)) tt (subst (λ (k : ℕ). StopsRound k (line.unread (length going + 2))) opened.in_round.running.number file_unread) (omega arith, omega (arith, few_files)))
          text

-- a settlement that ends the session
settled_answers : (call : Call) (name : List ℕ) (files : List (List ℕ)) (going : List Going) (s : SessionAt) (told : OfFile call name file_limit (λ bytes. IsExchangeOf bytes (Ok s.exchange))) → HasRun call files going s
    → (journal : List Record) (status : Status) → EndsSettling going s journal status → call.text ≡ bytes_of journal → RunAnswers call name files status
settled_answers call name files going s told has _ _ without_memory text = between_answers call name files s going told has text
settled_answers call name files going s told has _ _ (finds at is) text =
    found_answers call name files s going told has s.number (position_records version_2 (length (exact_of s.exchange)) s.number at) (position_settles version_2 (length (exact_of s.exchange)) s.number at) is text
settled_answers call name files going s told has _ _ (offers final amount offered is) text =
    found_answers call name files s going told has s.number (sought_records s final amount offered) (sought_settles s final amount offered) is text
settled_answers call name files going s told has _ _ (opens last r round none) text =
    in_round_answers call name files s going last r told round has.rounds (begins_here call name files s going last r told (record { in_round = round; none = none; rounds = has.rounds })) text
settled_answers call name files going s told has _ _ (closes c is records) text = close_answers call name files s going told c has is records text
settled_answers call name files going s told has _ _ (spends at spent fewer is) text = spent_answers call name files s going told at spent has fewer is text
settled_answers call name files going s told has _ _ (limits final amount offered limit rounds is) text = limit_answers call name files s going told final amount offered limit has rounds is text

-- what is written answers the call
pub run_answers : (call : Call) (name : List ℕ) (files : List (List ℕ)) (ex : Exchange) (journal : List Record) (status : Status) → OfFile call name file_limit (λ bytes. IsExchangeOf bytes (Ok ex)) → IsRunJournal call files ex journal status
    → call.text ≡ bytes_of journal → RunAnswers call name files status
run_answers call name files _ journal status told (settles going s has ends) text = settled_answers call name files going s told has journal status ends text
run_answers call name files _ _ _ told (in_round going s last r round are begins) text = in_round_answers call name files s going last r told round are begins text
run_answers call name files _ _ _ told (stays_open going s last r opened all) text = stays_answers call name files s going last r told opened all text
run_answers call name files _ _ _ told (refuses going s last r file fault opened there refused) text = refuse_answers call name files s going last r told opened file fault there refused text
run_answers call name files _ _ _ told (fails_to_read going s last r file opened there rose) text = unread_answers call name files s going last r told opened file there rose text

-- ---- what `run` answers

pub journal_serves : (before after : Told) (name : List ℕ) (files : List (List ℕ)) (ex : Exchange) (old new : Taken) (result : Status) → HoldsExchange before name ex → WritesBehind [] (RunsTo ex files before after) old new result
    → Serves (λ call. RunAnswers call name files) before after old new result
journal_serves before after name files ex old new result told (rest, status, is, said) = (
  bytes_of rest,
  status,
  λ call part text. run_answers call name files ex rest status (told_in_call call before after name file_limit (λ bytes. IsExchangeOf bytes (Ok ex)) part told) (is call part) text,
  said,
)

pub refusal_serves : (before after : Told) (name : List ℕ) (files : List (List ℕ)) (given : Refusal) → Refuses 1 name file_limit IsExchangeFault before after given → Answers (λ call. RunAnswers call name files) before after (refusal_text given) (refusal_status given)
refusal_serves before after name files (refusal.File number fault) why call part text =
    let h = why call part in
    served.at_start (fault_of fault) h.1 (text ∙ ap (λ n. refused_line n (fault_of fault)) h.0)
refusal_serves before after name files (refusal.Unread number) why call part text =
    let h = why call part in
    served.at_start h.1 (text ∙ ap unread_line h.0)
refusal_serves before after name files refusal.NoMemory why call part text = subst (IsRunText call name files) (sym text) nothing
