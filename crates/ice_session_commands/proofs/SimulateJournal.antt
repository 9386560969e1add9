-- The journal that `simulate` writes is one of which its contract speaks.
use Rattle.std.proofs.Common.{◌≡◌, ◌∙◌, ◌<◌, ℕ, List, [], ◌∷◌, ◌++◌, length, drop, refl, sym, ap, subst, append_assoc, Ok, ℤ}
use Rattle.std.specs.List.{AllByRecursion}
use Rattle.std.proofs.lemmas.List.{append-nil}
use Rattle.ice_edge.specs.Told.{Told}
use Rattle.ice_edge.specs.declared.status.Status.{Status}
use Rattle.ice_edge.specs.declared.status.Status.TheVariants.{Done, Spent, Limit, NoMemory}
use Rattle.ice_edge.specs.Taken.{Taken}
use Rattle.ice_defs.specs.Bounds.{Bounds}
use Rattle.ice_defs.specs.Round.{Submission}
use Rattle.ice_defs.specs.Exchange.{Exchange, exact_of, opening_bounds}
use Rattle.ice_defs.specs.Session.{Going, standings}
use Rattle.ice_headline_laws.specs.Right.{bounds_after_rounds, bounds_after_round}
use Rattle.ice_journal.specs.Records.{Record, version_2, session_kind}
use Rattle.ice_journal.specs.Records as line
use Rattle.ice_journal.specs.Ranges.{IsRecord}
use Rattle.ice_journal.specs.Journal.{bytes_of}
use Rattle.ice_journal_laws.specs.State.{begun}
use Rattle.ice_journal_laws.specs.ShowingSession.{going_in, goings_in}
use Rattle.ice_journal_laws.specs.SoFar.{IsSoFar}
use Rattle.ice_journal_laws.specs.Positions.{Position, position_records}
use Rattle.ice_search.specs.declared.results.Found.{Found}
use Rattle.ice_search.specs.declared.results.Spent as results
use Rattle.ice_regret.specs.declared.lead.Regret.{Regret}
use Rattle.ice_price.specs.declared.ends.PriceLimit.{PriceLimit}
use Rattle.ice_round.specs.SessionAt.{SessionAt, RoundAt}
use Rattle.ice_settled.specs.Shown.{closed_of}
use Rattle.ice_round.specs.Shown.{IsClosing}
use Rattle.ice_settled.specs.declared.settled.Closing.{Closing}
use Rattle.ice_write_session.specs.Records.{closing_records, spent_records, limit_records}
use Rattle.ice_session_laws.specs.Running.{IsRunning, IsInRound}
use Rattle.ice_session_laws.specs.Laws.{sought_records}
use Rattle.ice_session_laws.specs.Written.{begun_records, run_records, round_records, closed_session, IsUnended, IsSpentJournal, IsLimitedJournal}
use Rattle.ice_session_laws.proofs.Sessions.{run_is_unended, run_closes}
use Rattle.ice_session_laws.proofs.RoundStops.{round_is_unended}
use Rattle.ice_session_laws.specs.Branches.{enough_for_session}
use Rattle.ice_proxy.specs.Sessions.{IsProxyFrom, HoldTruths, AreAccepted, HoldThroughout}
use Rattle.ice_proxy.proofs.Sessions.{proxies_hold, proxies_reach_regret}
use Rattle.ice_proxy_laws.specs.Journals.{SubmitsProxies}
use Rattle.ice_proxy_laws.specs.Laws.{IsQuiet, IsProxyFront, IsRest, nothing, begins, goes_on}
use Rattle.ice_proxy_laws.proofs.Written.{run_submits_proxies}
use Rattle.ice_simulation.specs.TruthFile.{truth_lists}
use Rattle.ice_command_parts.specs.declared.refusal.Refusal.{Refusal}
use Rattle.ice_command_parts.specs.declared.refusal.Refusal.TheVariants as refusal
use Rattle.ice_command_parts.specs.Call.{Call, file_limit, OfFile}
use Rattle.ice_command_parts.specs.Files.{IsExchangeOf, IsExchangeFault, HoldsExchange}
use Rattle.ice_command_parts.specs.Journals.{WritesBehind}
use Rattle.ice_command_parts.specs.Lines.{refused_line, unread_line}
use Rattle.ice_command_parts.specs.Parts.{Answers, Serves}
use Rattle.ice_command_parts.specs.Refusals.{fault_of, refusal_text, refusal_status, Refuses, exchange_unread, other_unread}
use Rattle.ice_command_parts.proofs.Parts.{told_in_call, told_also}
use Rattle.ice_session_commands.specs.TruthParts.{AreTruthsOf, IsTruthFault, HoldsTruths, OfTruths}
use Rattle.ice_session_commands.specs.SimulateServed.{IsSimulatedSoFar, IsSimulatedText, of_journal, exchange_refused, truths_refused, IsProxied, SimulateAnswers}
use Rattle.ice_session_commands.specs.SimulateServed as served
use Rattle.ice_session_commands.specs.SessionEnds.{EndsSettling, without_memory, finds, offers, opens, spends, limits}
use Rattle.ice_session_commands.specs.SessionEnds as settling
use Rattle.ice_session_commands.specs.SimulateJournal.{IsSimulatedJournal, settles, in_round}
use Rattle.ice_session_commands.proofs.Begun.{has_exchange}
use Rattle.ice_session_commands.proofs.RunRounds.{IsOther, SettlesOnce, settles_more, position_settles, closed_settles, spent_other, limit_other, sought_settles}

-- ---- records that neither settle nor submit

other_is_quiet : (r : Record) → IsOther r → IsQuiet r
other_is_quiet (line.settle number) is = absurd is
other_is_quiet (line.submit s) is = absurd is
other_is_quiet other is = record { no_submission = refl; no_settlement = refl }

others_are_quiet : (records : List Record) → AllByRecursion IsOther records → AllByRecursion IsQuiet records
others_are_quiet [] are = tt
others_are_quiet (r ∷ records) are = (other_is_quiet r are.0, others_are_quiet records are.1)

-- each settlement's bids are accepted
all_accepted : (ex : Exchange) (truths : List (List ℤ)) (bounds : List Bounds) (going : List Going) → HoldThroughout ex truths bounds going → AllByRecursion (λ (g : Going). AreAccepted g.judged) going
all_accepted ex truths bounds [] hold = tt
all_accepted ex truths bounds (g ∷ later) hold = (hold.1, all_accepted ex truths (bounds_after_round ex bounds g) later hold.2)

-- ---- what is written so far

module _ (call : Call) (name file : List ℕ) (s : SessionAt) (bids : List Submission) (going : List Going) (run : IsRunning going s)
    (proxies : IsProxyFrom s.exchange (truth_lists s.exchange.bidders bids) (opening_bounds s.exchange) going)
    (told : OfFile call name file_limit (λ bytes. IsExchangeOf bytes (Ok s.exchange))) (said : OfFile call file file_limit (λ bytes. AreTruthsOf s.exchange bytes bids)) where
  abbrev truths : List (List ℤ)
  truths = truth_lists s.exchange.bidders bids

  abbrev goings : List Record
  goings = goings_in version_2 (length (exact_of s.exchange)) 0 going

  of_truths : (P : List Submission → Type 0) → P bids → OfTruths call file s.exchange P
  of_truths P is = told_also (call.before.holds file) file_limit (λ bytes. AreTruthsOf s.exchange bytes bids) _ (λ bytes are. (bids, are, is)) said

  submits : (rest : List Record) → IsRest version_2 s.exchange truths (length going) (bounds_after_rounds s.exchange (opening_bounds s.exchange) going) rest
      → SubmitsProxies (begun version_2 session_kind) truths (drop 1 (run_records s.exchange going ++ rest))
  submits rest is = run_submits_proxies version_2 s.exchange truths going rest run.exchange run.shown proxies is

  simulated : (rest journal : List Record) → journal ≡ run_records s.exchange going ++ rest → IsRest version_2 s.exchange truths (length going) (bounds_after_rounds s.exchange (opening_bounds s.exchange) going) rest → IsSoFar session_kind journal
      → IsSimulatedSoFar call name file journal
  simulated rest journal e is so_far = record {
    so_far = so_far;
    exchange_is = has_exchange call name s.exchange journal (goings ++ rest) told (e ∙ append_assoc (begun_records s.exchange) goings rest);
    submissions = told_also (call.before.holds name) file_limit (λ bytes. IsExchangeOf bytes (Ok s.exchange)) _
        (λ bytes exchange. (
          s.exchange,
          exchange,
          of_truths (λ ts. SubmitsProxies (begun version_2 session_kind) (truth_lists s.exchange.bidders ts) (drop 1 journal))
              (subst (λ (js : List Record). SubmitsProxies (begun version_2 session_kind) (truth_lists s.exchange.bidders bids) (drop 1 js)) (sym e) (submits rest is)),
        )) told;
  }

  -- a settlement without a round
  once_rest : (number : ℕ) (rest : List Record) → number ≡ s.number → SettlesOnce number rest → IsRest version_2 s.exchange truths (length going) (bounds_after_rounds s.exchange (opening_bounds s.exchange) going) rest
  once_rest number rest e once =
      subst (IsRest version_2 s.exchange truths (length going) (bounds_after_rounds s.exchange (opening_bounds s.exchange) going)) (sym once.is)
      (subst (λ (n : ℕ). IsRest version_2 s.exchange truths (length going) (bounds_after_rounds s.exchange (opening_bounds s.exchange) going) (line.settle n ∷ once.rest)) (run.number ∙ sym e)
      (begins once.rest (others_are_quiet once.rest once.others)))

  -- one with a round as far as it has come
  round_rest : (last : Going) (r : RoundAt) → IsInRound going s last r → IsProxyFront last.prices s.exchange.settings.improve (standings s.exchange s.bounds last.provisional.sets) truths last.judged
      → IsRest version_2 s.exchange truths (length going) (bounds_after_rounds s.exchange (opening_bounds s.exchange) going) (going_in version_2 (length (exact_of s.exchange)) s.number last)
  round_rest last r is front =
      subst (λ (bs : List Bounds). IsRest version_2 s.exchange truths (length going) bs (going_in version_2 (length (exact_of s.exchange)) s.number last)) (sym run.bounds)
      (subst (λ (n : ℕ). IsRest version_2 s.exchange truths n s.bounds (going_in version_2 (length (exact_of s.exchange)) s.number last)) (sym run.number)
      (goes_on last is.goes_on is.shown front))

  -- ---- nothing stopped

  between_answers : call.text ≡ bytes_of (run_records s.exchange going) → SimulateAnswers call name file NoMemory
  unfolding simulated
  between_answers text =
      let found = run_is_unended going s run in
      let is = simulated [] (run_records s.exchange going) (sym (append-nil (run_records s.exchange going))) nothing found.so_far in
      subst (IsSimulatedText call name file) (sym text) (of_journal is found.unstopped found.groups)

  found_answers : (more : List Record) → SettlesOnce s.number more → IsUnended (run_records s.exchange going ++ more) → call.text ≡ bytes_of (run_records s.exchange going ++ more) → SimulateAnswers call name file NoMemory
  unfolding simulated
  found_answers more once found text =
      let is = simulated more (run_records s.exchange going ++ more) refl (once_rest s.number more refl once) found.so_far in
      subst (IsSimulatedText call name file) (sym text) (of_journal is found.unstopped found.groups)

  in_round_answers : (last : Going) (r : RoundAt) → IsInRound going s last r → IsProxyFront last.prices s.exchange.settings.improve (standings s.exchange s.bounds last.provisional.sets) truths last.judged
      → call.text ≡ bytes_of (round_records s going last) → SimulateAnswers call name file NoMemory
  unfolding simulated
  in_round_answers last r round front text =
      let found = round_is_unended going s last r round in
      let is = simulated (going_in version_2 (length (exact_of s.exchange)) s.number last) (round_records s going last) refl (round_rest last r round front) found.so_far in
      subst (IsSimulatedText call name file) (sym text) (of_journal is found.unstopped found.groups)

  -- ---- it closed

  close_answers : (c : Closing) → HoldTruths (opening_bounds s.exchange) truths → IsClosing s c → AllByRecursion IsRecord (closing_records c) → call.text ≡ bytes_of (run_records s.exchange going ++ closing_records c) → SimulateAnswers call name file Done
  close_answers c hold is records text =
      let ended = run_closes going s run c is records in
      let held = proxies_hold (closed_session going s c) truths ended.right hold proxies in
      record {
        journal = run_records s.exchange going ++ closing_records c;
        session = closed_session going s c;
        written = record { lawful = ended.so_far.lawful; spelled = text };
        says = ended.says;
        so_far = simulated (closing_records c) (run_records s.exchange going ++ closing_records c) refl
            (once_rest c.number (closing_records c) is.number (closed_settles version_2 (length (exact_of c.exchange)) c.number (closed_of c.exchange c))) ended.so_far;
        exchange_is = told;
        truths_are = of_truths (λ ts. IsProxied (closed_session going s c) (truth_lists s.exchange.bidders ts))
            (record { proxies = proxies; hold = held.0; none_beats = proxies_reach_regret (closed_session going s c) truths ended.right hold proxies });
        accepted = all_accepted s.exchange truths (opening_bounds s.exchange) going held.0;
        right = ended.right;
        checks = (refl, ended.passes);
        headline = ended.headline;
      }

  -- ---- a search was spent, or the pricing ended at a limit

  spent_answers : (at : Position) (spent : results.Spent) → s.exchange.settings.branches < enough_for_session s.exchange → IsSpentJournal (run_records s.exchange going ++ position_records version_2 (length (exact_of s.exchange)) s.number at ++ spent_records s.exchange spent)
      → call.text ≡ bytes_of (run_records s.exchange going ++ position_records version_2 (length (exact_of s.exchange)) s.number at ++ spent_records s.exchange spent) → SimulateAnswers call name file Spent
  spent_answers at spent fewer is text =
      let position : List Record = position_records version_2 (length (exact_of s.exchange)) s.number at in
      record {
        journal = run_records s.exchange going ++ position ++ spent_records s.exchange spent;
        written = record { lawful = is.so_far.lawful; spelled = text };
        so_far = simulated (position ++ spent_records s.exchange spent) (run_records s.exchange going ++ position ++ spent_records s.exchange spent)
            (append_assoc (run_records s.exchange going) position (spent_records s.exchange spent))
            (once_rest s.number (position ++ spent_records s.exchange spent) refl
            (settles_more s.number position (spent_records s.exchange spent) (position_settles version_2 (length (exact_of s.exchange)) s.number at) (spent_other s.exchange spent))) is.so_far;
        spent = is.spent;
        gap = is.gap;
        few = told_also (call.before.holds name) file_limit (λ bytes. IsExchangeOf bytes (Ok s.exchange)) _ (λ bytes exchange. (s.exchange, exchange, fewer)) told;
      }

  limit_answers : (final : Found) (amount : Regret) (offered : Found) (limit : PriceLimit) → 0 < s.exchange.settings.rounds → IsLimitedJournal (run_records s.exchange going ++ sought_records s final amount offered ++ limit_records limit)
      → call.text ≡ bytes_of (run_records s.exchange going ++ sought_records s final amount offered ++ limit_records limit) → SimulateAnswers call name file Limit
  limit_answers final amount offered limit rounds is text =
      let sought : List Record = sought_records s final amount offered in
      record {
        journal = run_records s.exchange going ++ sought ++ limit_records limit;
        written = record { lawful = is.so_far.lawful; spelled = text };
        so_far = simulated (sought ++ limit_records limit) (run_records s.exchange going ++ sought ++ limit_records limit) (append_assoc (run_records s.exchange going) sought (limit_records limit))
            (once_rest s.number (sought ++ limit_records limit) refl
            (settles_more s.number sought (limit_records limit) (sought_settles s final amount offered) (limit_other limit))) is.so_far;
        limited = is.limited;
        allows_rounds = told_also (call.before.holds name) file_limit (λ bytes. IsExchangeOf bytes (Ok s.exchange)) _ (λ bytes exchange. (s.exchange, exchange, rounds)) told;
      }

  settled_answers : HoldTruths (opening_bounds s.exchange) truths → (journal : List Record) (status : Status) → EndsSettling going s journal status → call.text ≡ bytes_of journal → SimulateAnswers call name file status
  settled_answers hold _ _ without_memory text = between_answers text
  settled_answers hold _ _ (finds at is) text =
      found_answers (position_records version_2 (length (exact_of s.exchange)) s.number at) (position_settles version_2 (length (exact_of s.exchange)) s.number at) is text
  settled_answers hold _ _ (offers final amount offered is) text = found_answers (sought_records s final amount offered) (sought_settles s final amount offered) is text
  settled_answers hold _ _ (opens last r round none) text =
      in_round_answers last r round (subst (IsProxyFront last.prices s.exchange.settings.improve (standings s.exchange s.bounds last.provisional.sets) truths) (sym none) tt) text
  settled_answers hold _ _ (settling.closes c is records) text = close_answers c hold is records text
  settled_answers hold _ _ (spends at spent fewer is) text = spent_answers at spent fewer is text
  settled_answers hold _ _ (limits final amount offered limit rounds is) text = limit_answers final amount offered limit rounds is text

-- what is written answers the call
pub simulate_answers : (call : Call) (name file : List ℕ) (ex : Exchange) (bids : List Submission) (journal : List Record) (status : Status) → OfFile call name file_limit (λ bytes. IsExchangeOf bytes (Ok ex))
    → OfFile call file file_limit (λ bytes. AreTruthsOf ex bytes bids) → HoldTruths (opening_bounds ex) (truth_lists ex.bidders bids)
    → IsSimulatedJournal (truth_lists ex.bidders bids) ex journal status → call.text ≡ bytes_of journal → SimulateAnswers call name file status
simulate_answers call name file _ bids journal status told said hold (settles going s run proxies ends) text = settled_answers call name file s bids going run proxies told said hold journal status ends text
simulate_answers call name file _ bids _ _ told said hold (in_round going s last r round proxies front) text = in_round_answers call name file s bids going round.running proxies told said last r round front text

-- ---- what `simulate` answers

pub journal_serves : (before after : Told) (name file : List ℕ) (ex : Exchange) (bids : List Submission) (old new : Taken) (result : Status) → HoldsExchange before name ex → HoldsTruths before file ex bids
    → HoldTruths (opening_bounds ex) (truth_lists ex.bidders bids) → WritesBehind [] (IsSimulatedJournal (truth_lists ex.bidders bids) ex) old new result
    → Serves (λ call. SimulateAnswers call name file) before after old new result
journal_serves before after name file ex bids old new result told said hold (rest, status, is, put) = (
  bytes_of rest,
  status,
  λ call part text. simulate_answers call name file ex bids rest status (told_in_call call before after name file_limit (λ bytes. IsExchangeOf bytes (Ok ex)) part told)
      (told_in_call call before after file file_limit (λ bytes. AreTruthsOf ex bytes bids) part said) hold is text,
  put,
)

-- the first file is refused
pub refusal_serves : (before after : Told) (name file : List ℕ) (given : Refusal) → Refuses 1 name file_limit IsExchangeFault before after given
    → Answers (λ call. SimulateAnswers call name file) before after (refusal_text given) (refusal_status given)
refusal_serves before after name file (refusal.File number fault) why call part text =
    let h = why call part in
    exchange_refused (fault_of fault) h.1 (text ∙ ap (λ n. refused_line n (fault_of fault)) h.0)
refusal_serves before after name file (refusal.Unread number) why call part text =
    let h = why call part in
    exchange_unread h.1 (text ∙ ap unread_line h.0)
refusal_serves before after name file refusal.NoMemory why call part text = subst (IsSimulatedText call name file) (sym text) served.nothing

-- or the second
pub truths_refusal_serves : (before after : Told) (name file : List ℕ) (ex : Exchange) (given : Refusal) → HoldsExchange before name ex → Refuses 2 file file_limit (IsTruthFault ex) before after given
    → Answers (λ call. SimulateAnswers call name file) before after (refusal_text given) (refusal_status given)
truths_refusal_serves before after name file ex (refusal.File number fault) told why call part text =
    let h = why call part in
    truths_refused (fault_of fault) ex (told_in_call call before after name file_limit (λ bytes. IsExchangeOf bytes (Ok ex)) part told) h.1 (text ∙ ap (λ n. refused_line n (fault_of fault)) h.0)
truths_refusal_serves before after name file ex (refusal.Unread number) told why call part text =
    let h = why call part in
    other_unread ex (told_in_call call before after name file_limit (λ bytes. IsExchangeOf bytes (Ok ex)) part told) h.1 (text ∙ ap unread_line h.0)
truths_refusal_serves before after name file ex refusal.NoMemory told why call part text = subst (IsSimulatedText call name file) (sym text) served.nothing
