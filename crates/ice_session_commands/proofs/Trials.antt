-- What `gen` answers: the figures of a trial, or its journal.
use Rattle.std.proofs.Common.{◌≡◌, ◌∙◌, ℕ, Bool, true, false, cond, List, [], ◌∷◌, ◌++◌, length, map, ℤ, pos, ◌≤ℤ◌, refl, sym, ap, subst, arith, append_assoc, IsTrue, Option, Some, None, inl, inr}
use Rattle.std.specs.Prelude.{int_le, int_lt, ◌<ℤ◌, ◌||◌, ◌==◌, IfSome}
use Rattle.std.specs.List.{AllByRecursion, flat_map}
use Rattle.std.proofs.lemmas.List.{append-nil}
use Rattle.std.proofs.lemmas.List.Folds.{flat_map-map}
use Rattle.std.proofs.lemmas.Int.{ints, by_lt_z}
use Rattle.ice_edge.specs.Told.{Told}
use Rattle.ice_edge.specs.declared.status.Status.{Status}
use Rattle.ice_edge.specs.declared.status.Status.TheVariants.{Done, Spent, Limit}
use Rattle.ice_edge.specs.Taken.{Taken}
use Rattle.ice_defs.specs.declared.Verdict.TheVariants.{Accepted}
use Rattle.ice_defs.specs.Bounds.{Bounds}
use Rattle.ice_defs.specs.Round.{Submission, Judged}
use Rattle.ice_defs.specs.Exchange.{Exchange, exact_of, market_of}
use Rattle.ice_regret_laws.proofs.Regrets.{regret_is_not_negative}
use Rattle.ice_journal.specs.Records.{Record, version_2, session_kind}
use Rattle.ice_journal.specs.Records as line
use Rattle.ice_journal.specs.Ranges.{IsRecord}
use Rattle.ice_journal.specs.Journal.{bytes_of}
use Rattle.ice_journal_laws.specs.Written.{judged_records}
use Rattle.ice_journal_laws.specs.Showing.{group_records}
use Rattle.ice_journal_laws.specs.ShowingSession.{going_in, goings_in}
use Rattle.ice_journal_laws.specs.Stops.{IsSpent}
use Rattle.ice_journal_laws.specs.SoFar.{IsSoFar}
use Rattle.ice_journal_laws.specs.Positions.{before_provisional, position_records}
use Rattle.ice_search.specs.declared.results.Spent as results
use Rattle.ice_search.specs.Results.{proved_found}
use Rattle.ice_price.specs.declared.ends.PriceLimit.{PriceLimit}
use Rattle.ice_round.specs.SessionAt.{SessionAt}
use Rattle.ice_settled.specs.Shown.{settlement_of, going_of}
use Rattle.ice_round.specs.Ends.{IsHaltOf, IsSpentAt, IsLimitAt}
use Rattle.ice_settled.specs.declared.settled.Opening.{Opening}
use Rattle.ice_settled.specs.declared.settled.Halt.{Halt}
use Rattle.ice_write_session.specs.Records.{opening_records, halt_records, spent_records, limit_records}
use Rattle.ice_write_session.specs.Writable.{IsWritableOpening}
use Rattle.ice_write.proofs.Loops.{bytes_flat}
use Rattle.ice_write_session.proofs.Lawful.{halt_are_records, spent_are_records, limit_are_records}
use Rattle.ice_session_laws.specs.Laws.{sought_records}
use Rattle.ice_session_laws.specs.Stops.{IsLimited}
use Rattle.ice_session_laws.specs.Written.{begun_records, run_records, HasGapAnswer}
use Rattle.ice_session_laws.proofs.Ends.{spends, is_limited, spent_may_be_written, limit_may_be_written}
use Rattle.ice_gen.specs.Generated.{generated_exchange, truths}
use Rattle.ice_trial.specs.declared.summary.Summary.{Summary}
use Rattle.ice_trial.specs.declared.trial.TruthRound.{TruthRound}
use Rattle.ice_trial.specs.Summaries.{AreFinal, bounds_at, IsSummary}
use Rattle.ice_trial.specs.Rounds.{acceptances, goings_of, IsTruthRound}
use Rattle.ice_trial.specs.Ends.{IsTrial}
use Rattle.ice_command_parts.specs.Call.{IsPrefix}
use Rattle.ice_session_commands.specs.Rounds.{rounds_in, submissions_of}
use Rattle.ice_command_parts.specs.Parts.{Serves}
use Rattle.ice_session_commands.specs.GenServed.{Says, summary_text, AreTruthRounds, GenStops, GenAnswers}
use Rattle.ice_session_commands.specs.GenJournal.{accepted_text, first_records, trial_records}
use Rattle.ice_session_commands.proofs.Settling.{halt_at, halt_at_prices}
use Rattle.ice_session_commands.proofs.RunRounds.{SettlesOnce, settles_more, position_settles, spent_other, limit_other, offered_other, once_behind}

-- ---- the session closed

-- where only a regret of 0 closes, and six rounds are left, the close test is one of the sign
abbrev closing_number : Bool → ℕ
closing_number b = cond (b || (0 == 6)) 0 1

abbrev number_by_sign : Bool → ℕ
number_by_sign b = cond b 1 0

sign_decides : (r : ℤ) → closing_number (int_le r (pos 0)) ≡ number_by_sign (int_lt (pos 0) r)
sign_decides r =
    by_lt_z (pos 0) r
    (λ less. ap closing_number (above r less) ∙ sym (ap number_by_sign (positive r less)))
    (λ le. ap closing_number (below r le) ∙ sym (ap number_by_sign (not_positive r le)))
  where
    above : (z : ℤ) → pos 0 <ℤ z → int_le z (pos 0) ≡ false
    above z less = grind (arith, ints)

    positive : (z : ℤ) → pos 0 <ℤ z → int_lt (pos 0) z ≡ true
    positive z less = grind (arith, ints)

    below : (z : ℤ) → z ≤ℤ pos 0 → int_le z (pos 0) ≡ true
    below z le = grind (arith, ints)

    not_positive : (z : ℤ) → z ≤ℤ pos 0 → int_lt (pos 0) z ≡ false
    not_positive z le = grind (arith, ints)

or_no : (b : Bool) → IsTrue (b || false) → b ≡ true
or_no true h = refl
or_no false h = h

-- a settlement of number 0 or 1 closes by its regret alone
small_regret : (b : Bool) (number : ℕ) (r : ℤ) → number ≡ cond b 0 1 → IsTrue (int_le r (pos 0) || (number == 6)) → r ≤ℤ pos 0
small_regret true number r e h = let low = or_no (int_le r (pos 0)) (subst (λ (k : ℕ). IsTrue (int_le r (pos 0) || (k == 6))) e h) in grind (arith, ints, low)
small_regret false number r e h = let low = or_no (int_le r (pos 0)) (subst (λ (k : ℕ). IsTrue (int_le r (pos 0) || (k == 6))) e h) in grind (arith, ints, low)

not_negative : (ex : Exchange) (bounds : List Bounds) (value regret : ℤ) → AreFinal ex bounds value regret → pos 0 ≤ℤ regret
not_negative ex bounds value regret (best, (final, feasible, has, is)) = regret_is_not_negative (market_of ex) bounds final regret feasible is

pub closed_answers : (text : List ℕ) (number : ℕ) (s : Summary) → IsSummary (generated_exchange number) (truths number) s → text ≡ summary_text number s → GenAnswers text number Done
closed_answers text number s is written =
    let low = not_negative (generated_exchange number) (bounds_at (generated_exchange number) (truths number) s.settled) s.total s.regret is.closing in
    let high = small_regret (int_le s.opened_regret (pos 0) || (0 == 6)) s.settled s.regret is.settled is.closes in
    record { summary = s; written = written; is = is; settled = is.settled ∙ sign_decides s.opened_regret; no_regret = omega (arith, ints, low, high) }

-- ---- what is said

-- what is said of a text is said of a call that wrote it
pub serves_said : (IsAnswer : List ℕ → Status → Type 0) (before after : Told) (old new : Taken) (result : Status) → Says IsAnswer old new result → Serves (λ call. IsAnswer call.text) before after old new result
serves_said IsAnswer before after old new result (text, status, is, said) = (text, status, λ call part same. subst (λ (t : List ℕ). IsAnswer t status) (sym same) is, said)

-- ---- the journal

-- the opening of the round may be written for the same exchange
pub first_writable : (ex same : Exchange) (truths : List Bounds) (first : Option TruthRound) → same ≡ ex → IfSome first (IsTruthRound ex truths) → IfSome first (λ r. IsWritableOpening (length (exact_of same)) r.opening)
first_writable ex same truths None e h = tt
first_writable ex same truths (Some r) e h = subst (λ (x : Exchange). IsWritableOpening (length (exact_of x)) r.opening) (sym e) h.writable

judged_bids : (bids : List Submission) → map (λ (j : Judged). j.submission) (acceptances bids) ≡ bids
judged_bids [] = refl
judged_bids (b ∷ bids) = ap (λ (bs : List Submission). b ∷ bs) (judged_bids bids)

pub accepted_bytes : (bids : List Submission) → bytes_of (flat_map judged_records (acceptances bids)) ≡ flat_map accepted_text bids
accepted_bytes bids = bytes_flat judged_records (acceptances bids) ∙ flat_map-map (λ (j : Judged). bytes_of (judged_records j)) (λ (bid : Submission). record { submission = bid; verdict = Accepted }) bids

-- a settlement that opened a round, with its bids
opened_are : (ex : Exchange) (o : Opening) (judged : List Judged) → o.number ≡ 0 → opening_records ex o ++ flat_map judged_records judged ≡ goings_in version_2 (length (exact_of ex)) 0 (going_of o judged ∷ [])
opened_are ex o judged first =
    ap (λ (n : ℕ). opening_records ex (record o { number = n }) ++ flat_map judged_records judged) first ∙ sym (append-nil (going_in version_2 (length (exact_of ex)) 0 (going_of o judged)))

module _ (number : ℕ) (first : Option TruthRound) (s : SessionAt) (trial : IsTrial (generated_exchange number) (truths number) first s) where
  begun_are : trial_records s.exchange first ≡ run_records s.exchange (goings_of first)
  begun_are = by first trial.round
    where
      by : (r : Option TruthRound) → IfSome r (IsTruthRound (generated_exchange number) (truths number)) → trial_records s.exchange r ≡ run_records s.exchange (goings_of r)
      by None h = refl
      by (Some r) h = ap (λ (rs : List Record). begun_records s.exchange ++ rs) (opened_are s.exchange r.opening (acceptances r.bids.items) h.number)

  rounds_are : (rounds : List (List Submission)) → rounds ≡ map submissions_of (goings_of first) ++ [] ∷ [] → AreTruthRounds number rounds
  rounds_are rounds e = by first trial.round e
    where
      by : (r : Option TruthRound) → IfSome r (IsTruthRound (generated_exchange number) (truths number)) → rounds ≡ map submissions_of (goings_of r) ++ [] ∷ [] → AreTruthRounds number rounds
      by None h same = inl same
      by (Some r) h same = inr (same ∙ ap (λ (bs : List Submission). bs ∷ [] ∷ []) (judged_bids r.bids.items ∙ h.bids))

  -- records behind the round that settle once
  module _ (rest : List Record) (once : SettlesOnce s.number rest) where
    same_rounds : rounds_in (trial_records s.exchange first ++ rest) ≡ map submissions_of (goings_of first) ++ [] ∷ []
    same_rounds = ap (λ (rs : List Record). rounds_in (rs ++ rest)) begun_are ∙ once_behind s.exchange (goings_of first) s.number rest once

    stops : (text : List ℕ) → IsSoFar session_kind (run_records s.exchange (goings_of first) ++ rest) → text ≡ bytes_of (trial_records s.exchange first ++ rest) → GenStops text number (trial_records s.exchange first ++ rest)
    stops text so_far spelled =
        let here : IsSoFar session_kind (trial_records s.exchange first ++ rest) = subst (λ (rs : List Record). IsSoFar session_kind (rs ++ rest)) (sym begun_are) so_far in
        record {
          written = record { lawful = here.lawful; spelled = spelled };
          so_far = here;
          exchange = subst (λ (x : Exchange). IsPrefix (begun_records x) (trial_records s.exchange first ++ rest)) trial.exchange
              (first_records s.exchange first ++ rest, append_assoc (begun_records s.exchange) (first_records s.exchange first) rest);
          rounds = rounds_are (rounds_in (trial_records s.exchange first ++ rest)) same_rounds;
        }

  pub spent_answers : (text : List ℕ) (h : Halt) (spent : results.Spent) → IsHaltOf s h → IsSpentAt s h.best h.regret h.provisional h.marginals.items spent → IsRecord (line.spent spent.value spent.bound)
      → text ≡ bytes_of (trial_records h.exchange first ++ (halt_records h ++ spent_records h.exchange spent)) → GenAnswers text number Spent
  spent_answers text h spent halt is fits written =
      let (at, comes, writes) = spends (goings_of first) s h.best h.regret h.provisional h.marginals.items spent trial.running is in
      let may = spent_may_be_written (goings_of first) s h spent trial.running halt is in
      let position : List Record = position_records version_2 (length (exact_of s.exchange)) s.number at in
      let same : halt_records h ≡ position_records version_2 (length (exact_of s.exchange)) s.number at = halt_at s h halt at comes in
      let ended = writes (subst (AllByRecursion IsRecord) same (halt_are_records h may.0)) (spent_are_records s.exchange spent may.1 fits) in
      let behind : List Record = position ++ spent_records s.exchange spent in
      let grouped = append_assoc (run_records s.exchange (goings_of first)) position (spent_records s.exchange spent) in
      let spelled : text ≡ bytes_of (trial_records s.exchange first ++ (position ++ spent_records s.exchange spent)) =
      written ∙ ap (λ (x : Exchange). bytes_of (trial_records x first ++ (halt_records h ++ spent_records x spent))) halt.exchange
      ∙ ap (λ (rs : List Record). bytes_of (trial_records s.exchange first ++ (rs ++ spent_records s.exchange spent))) same in (
        trial_records s.exchange first ++ behind,
        stops behind (settles_more s.number position (spent_records s.exchange spent) (position_settles version_2 (length (exact_of s.exchange)) s.number at) (spent_other s.exchange spent)) text
            (subst (IsSoFar session_kind) grouped ended.so_far) spelled,
        subst (IsSpent session_kind) (grouped ∙ ap (λ (rs : List Record). rs ++ behind) (sym begun_are)) ended.spent,
        subst HasGapAnswer (grouped ∙ ap (λ (rs : List Record). rs ++ behind) (sym begun_are)) ended.gap,
      )

module _ (number : ℕ) (s : SessionAt) (trial : IsTrial (generated_exchange number) (truths number) None s) where
  pub limited_answers : (text : List ℕ) (h : Halt) (limit : PriceLimit) → IsHaltOf s h → IsLimitAt s h.best h.regret h.provisional h.marginals.items limit
      → text ≡ bytes_of (begun_records h.exchange ++ (halt_records h ++ limit_records limit)) → GenAnswers text number Limit
  limited_answers text h limit halt is written =
      let (sought, writes) = is_limited [] s h.best h.regret h.provisional h.marginals.items limit trial.running is in
      let may = limit_may_be_written [] s h limit trial.running halt is in
      let said : List Record = sought_records s sought.final sought.amount sought.offered in
      let same : halt_records h ≡ sought_records s sought.final sought.amount sought.offered = halt_at_prices s h halt sought in
      let ended = writes (subst (AllByRecursion IsRecord) same (halt_are_records h may.0)) (limit_are_records limit may.1) in
      let behind : List Record = said ++ limit_records limit in
      let position : List Record = position_records version_2 (length (exact_of s.exchange)) s.number (before_provisional (settlement_of sought.final sought.amount)) in
      let grouped = append_assoc (run_records s.exchange []) said (limit_records limit) in
      let once : SettlesOnce s.number (said ++ limit_records limit) =
      settles_more s.number said (limit_records limit)
      (settles_more s.number position (group_records version_2 (length (exact_of s.exchange)) (line.provisional sought.offered.value) (proved_found sought.offered))
      (position_settles version_2 (length (exact_of s.exchange)) s.number (before_provisional (settlement_of sought.final sought.amount))) (offered_other version_2 (length (exact_of s.exchange)) (proved_found sought.offered)))
      (limit_other limit) in
      let spelled : text ≡ bytes_of (trial_records s.exchange None ++ (said ++ limit_records limit)) =
      written ∙ ap (λ (x : Exchange). bytes_of (begun_records x ++ (halt_records h ++ limit_records limit))) halt.exchange
      ∙ ap (λ (rs : List Record). bytes_of (begun_records s.exchange ++ (rs ++ limit_records limit))) same
      ∙ ap (λ (rs : List Record). bytes_of (rs ++ behind)) (sym (append-nil (begun_records s.exchange))) in (
        trial_records s.exchange None ++ behind,
        stops number None s trial behind once text (subst (IsSoFar session_kind) grouped ended.so_far) spelled,
        same_rounds number None s trial behind once,
        subst IsLimited (grouped ∙ ap (λ (rs : List Record). rs ++ behind) (sym (begun_are number None s trial))) ended.limited,
      )
