-- What sources of bids lead to: in a settlement that ends the session, in a round, and behind it.
use Rattle.std.proofs.Common.{◌≡◌, ◌∙◌, ◌+◌, ℕ, List, [], ◌∷◌, ◌++◌, length, map, drop, refl, sym, ap, subst, arith, append_assoc, Some, length-append, ℤ}
use Rattle.std.specs.Prelude.{string_bytes, slice_get}
use Rattle.std.proofs.lemmas.List.{append-nil}
use Rattle.ice_edge.specs.Told.{Told, IsLater}
use Rattle.ice_edge.specs.declared.status.Status.{Status}
use Rattle.ice_edge.specs.declared.status.Status.TheVariants.{Input, ReadFault, NoMemory}
use Rattle.ice_edge.specs.Taken.{Taken}
use Rattle.ice_defs.specs.Bounds.{Bounds}
use Rattle.ice_defs.specs.Round.{Submission, Judged}
use Rattle.ice_defs.specs.Exchange.{Exchange, opening_bounds}
use Rattle.ice_defs.specs.Session.{Going, standings}
use Rattle.ice_journal.specs.Records.{Record}
use Rattle.ice_journal.specs.Records as line
use Rattle.ice_journal.specs.Journal.{bytes_of}
use Rattle.ice_round.specs.SessionAt.{SessionAt, RoundAt, session_after}
use Rattle.ice_round.proofs.GoingOn.{more_rounds}
use Rattle.ice_session_laws.specs.Running.{IsRunning, IsInRound}
use Rattle.ice_session_laws.specs.Written.{round_records}
use Rattle.ice_trial.specs.Rounds.{submissions_in}
use Rattle.ice_proxy.specs.Sessions.{IsProxyFrom, HoldTruths}
use Rattle.ice_proxy_laws.specs.Laws.{IsProxyFront}
use Rattle.ice_simulation.specs.TruthFile.{truth_lists}
use Rattle.ice_simulation.specs.Rounds.{AreProxyBidsIn}
use Rattle.ice_simulation.proofs.Running.{round_stands, proxy_round_goes_on, proxy_round_ends}
use Rattle.ice_command_parts.specs.declared.refusal.Refusal.{Refusal}
use Rattle.ice_command_parts.specs.declared.refusal.Refusal.TheVariants as refusal
use Rattle.ice_command_parts.specs.Call.{Call, file_limit, OfTold, IsPrefix}
use Rattle.ice_command_parts.specs.Files.{IsRoundFault, HoldsBids}
use Rattle.ice_command_parts.specs.Parts.{HasPart, IsSaid}
use Rattle.ice_command_parts.specs.Refusals.{fault_of, refusal_text, refusal_status, Refuses}
use Rattle.ice_command_parts.proofs.Parts.{later_part, told_in_call, told_also}
use Rattle.ice_session_commands.specs.declared.source.NoBids.{NoBids}
use Rattle.ice_session_commands.specs.declared.source.NoBids.TheVariants.{NoFile, Refused}
use Rattle.ice_session_commands.specs.declared.source.Source.{Source}
use Rattle.ice_session_commands.specs.declared.source.Source.TheVariants.{Files, Proxies}
use Rattle.ice_session_commands.specs.Rounds.{OfBids, BeginsRound, submissions_of, AreRoundsOf}
use Rattle.ice_session_commands.specs.SessionEnds.{EndsSettling}
use Rattle.ice_session_commands.specs.RunJournal.{IsRunJournal, in_round, stays_open, refuses, fails_to_read, RunsTo}
use Rattle.ice_session_commands.specs.RunJournal as run
use Rattle.ice_session_commands.specs.SimulateJournal as simulated
use Rattle.ice_session_commands.specs.NoBids.{stop_records, stop_status}
use Rattle.ice_session_commands.specs.Sources.{LeadsTo, MayBegin, AreHeld, IsLeft, MayGive, Gives}
use Rattle.ice_session_commands.specs.SessionSteps.{LacksFile, EndsInRound}
use Rattle.ice_session_commands.proofs.Putting.{one_line}
use Rattle.ice_session_commands.proofs.RunRounds.{begins_none, longer_rounds}

-- ---- the files

file_there : (done later : List (List ℕ)) (file : List ℕ) → slice_get (done ++ file ∷ later) (length done) ≡ Some file
file_there [] later file = refl
file_there (one ∷ done) later file = file_there done later file

files_left : (done later : List (List ℕ)) → drop (length done) (done ++ later) ≡ later
files_left [] later = refl
files_left (one ∷ done) later = files_left done later

held_later : (before shelf : Told) → IsLater before shelf → (file : List ℕ) (bids : List Submission) → HoldsBids before file bids → HoldsBids shelf file bids
held_later before shelf later file bids holds = subst (OfTold file_limit _) (sym (later.holds file)) holds

-- what is held as a part of a call begins are rounds of the call
held_rounds : (call : Call) (before after : Told) → HasPart call before after → (files : List (List ℕ)) (going : List Going) → AreHeld before files going → AreRoundsOf call files going
held_rounds call before after part files [] held = tt
held_rounds call before after part [] (g ∷ later) held = absurd held
held_rounds call before after part (file ∷ files) (g ∷ later) held = (
  told_in_call call before after file file_limit _ part (told_also (before.holds file) file_limit _ _ (λ bytes e. (submissions_of g, e, refl)) held.0),
  held_rounds call before after part files later held.1,
)

-- one more file, and its round
more_held : (shelf : Told) (files : List (List ℕ)) (going : List Going) (file : List ℕ) (g : Going) → length files ≡ length going → AreHeld shelf files going → HoldsBids shelf file (submissions_of g) → AreHeld shelf (files ++ file ∷ []) (going ++ g ∷ [])
more_held shelf [] [] file g same held bids = (bids, tt)
more_held shelf [] (first ∷ later) file g same held bids = absurd held
more_held shelf (one ∷ files) [] file g same held bids = absurd (omega (arith, same))
more_held shelf (one ∷ files) (first ∷ later) file g same held bids = (held.0, more_held shelf files later file g (omega (arith, same)) held.1 bids)

-- it is held later too
later_held : (before shelf : Told) → IsLater before shelf → (files : List (List ℕ)) (going : List Going) → AreHeld before files going → AreHeld shelf files going
later_held before shelf later files [] held = tt
later_held before shelf later [] (g ∷ rest) held = absurd held
later_held before shelf later (file ∷ files) (g ∷ rest) held = (held_later before shelf later file (submissions_of g) held.0, later_held before shelf later files rest held.1)

-- the rounds so far are those of all files
rounds_so_far : (call : Call) (before after : Told) → HasPart call before after → (files done left : List (List ℕ)) (going : List Going) → files ≡ done ++ left → AreHeld before done going → AreRoundsOf call files going
rounds_so_far call before after part files done left going all held =
    subst (λ (fs : List (List ℕ)). AreRoundsOf call fs going) (sym all) (longer_rounds call done left going (held_rounds call before after part done going held))

-- the first bids of the next file
begins_next : (call : Call) (before after : Told) → HasPart call before after → (files done left : List (List ℕ)) (name : List ℕ) (going : List Going) (bids round : List Submission)
    → files ≡ done ++ name ∷ left → length done ≡ length going → HoldsBids before name bids → IsPrefix round bids → BeginsRound call (drop (length going) files) round
begins_next call before after part files done left name going bids round all count holds front =
    subst (λ (fs : List (List ℕ)). BeginsRound call (drop (length going) fs) round) (sym all)
    (subst (λ (n : ℕ). BeginsRound call (drop n (done ++ name ∷ left)) round) count
    (subst (λ (fs : List (List ℕ)). BeginsRound call fs round) (sym (files_left done (name ∷ left)))
    (λ some. of_bids)))
  where
    of_bids : OfBids call name (IsPrefix round)
    of_bids = told_in_call call before after name file_limit _ part (told_also (before.holds name) file_limit _ _ (λ bytes e. (bids, e, front)) holds)

-- ---- a settlement ends the session

pub settling_leads : (whole left : Source) (going : List Going) (s : SessionAt) (before after : Told) (journal : List Record) (status : Status) → IsRunning going s → IsLeft before whole going s left
    → EndsSettling going s journal status → LeadsTo whole s.exchange before after journal status
settling_leads (Files names) (Files left) going s before after journal status running (done, all, count, held) ends =
    λ call part. run.settles going s (record { running = running; rounds = rounds_so_far call before after part (map string_bytes names.now) done (map string_bytes left.now) going all held }) ends
settling_leads (Files names) (Proxies same) going s before after journal status running is ends = absurd is
settling_leads (Proxies truths) (Files left) going s before after journal status running is ends = absurd is
settling_leads (Proxies truths) (Proxies same) going s before after journal status running (e, proxies, hold) ends = simulated.settles going s running proxies ends

-- what leads to a journal from later on leads to it
pub leads_sooner : (whole : Source) (ex : Exchange) (before shelf after : Told) (journal : List Record) (status : Status) → IsLater before shelf → LeadsTo whole ex shelf after journal status → LeadsTo whole ex before after journal status
leads_sooner (Files names) ex before shelf after journal status later is = λ call part. is call (later_part call before shelf after part later)
leads_sooner (Proxies truths) ex before shelf after journal status later is = is

-- ---- a round as far as it comes

pub all_submitted : (last : Going) (judged : List Judged) → last.judged ≡ [] → submissions_of (record last { judged = last.judged ++ judged }) ≡ submissions_in judged
all_submitted last judged none = ap (λ (js : List Judged). submissions_in (js ++ judged)) none

module _ (going : List Going) (s : SessionAt) (last : Going) (r : RoundAt) (is : IsInRound going s last r) where
  -- a source may be asked in the round
  pub may_give : (shelf : Told) (whole source : Source) → IsLeft shelf whole going s source → MayGive source r
  may_give shelf (Files names) (Files left) so_far = omega (arith, is.running.exchange.settings.rounds, more_rounds s.exchange.settings s.number last.settlement.regret is.goes_on is.running.few, is.number)
  may_give shelf (Files names) (Proxies same) so_far = absurd so_far
  may_give shelf (Proxies truths) (Files left) so_far = absurd so_far
  may_give shelf (Proxies truths) (Proxies same) (e, proxies, hold) = (
    round_stands going s last r is,
    subst (λ (ex : Exchange). HoldTruths r.round.bounds (truth_lists ex.bidders same.now)) (sym is.exchange)
        (subst (λ (bs : List Bounds). HoldTruths bs (truth_lists s.exchange.bidders same.now)) (sym is.bounds)
        (subst (λ (bids : List Submission). HoldTruths s.bounds (truth_lists s.exchange.bidders bids)) (sym e) hold)),
  )

  -- proxies' bids for the true values of the exchange
  proxies_give : (truths same bids : List Submission) → same ≡ truths → AreProxyBidsIn r (truth_lists r.exchange.bidders same) bids → AreProxyBidsIn r (truth_lists s.exchange.bidders truths) bids
  proxies_give truths same bids e gives =
      subst (λ (ts : List Submission). AreProxyBidsIn r (truth_lists s.exchange.bidders ts) bids) e (subst (λ (ex : Exchange). AreProxyBidsIn r (truth_lists ex.bidders same) bids) is.exchange gives)

  module _ (none : last.judged ≡ []) (judged : List Judged) (after_round : RoundAt) (more : IsInRound going s (record last { judged = last.judged ++ judged }) after_round) where
    -- its first bids are judged
    pub round_leads : (before after : Told) (whole source left : Source) (bids : List Submission) → IsLeft before whole going s source → Gives source before r bids left → IsPrefix (submissions_in judged) bids
        → LeadsTo whole s.exchange before after (round_records s going (record last { judged = last.judged ++ judged })) NoMemory
    round_leads before after (Files names) (Files now) (Files left) bids (done, all, count, held) (name, next, holds) front =
        let files : map string_bytes names.now ≡ done ++ name ∷ map string_bytes left.now = all ∙ ap (λ (fs : List (List ℕ)). done ++ fs) next in
        λ call part. in_round going s (record last { judged = last.judged ++ judged }) after_round more (rounds_so_far call before after part (map string_bytes names.now) done (map string_bytes now.now) going all held)
        (begins_next call before after part (map string_bytes names.now) done (map string_bytes left.now) name going bids (submissions_of (record last { judged = last.judged ++ judged })) files count holds
        (subst (λ (ss : List Submission). IsPrefix ss bids) (sym (all_submitted last judged none)) front))
    round_leads before after (Files names) (Files now) (Proxies left) bids so_far gives front = absurd gives
    round_leads before after (Files names) (Proxies now) left bids so_far gives front = absurd so_far
    round_leads before after (Proxies truths) (Files now) left bids so_far gives front = absurd so_far
    round_leads before after (Proxies truths) (Proxies now) (Files left) bids so_far gives front = absurd gives
    round_leads before after (Proxies truths) (Proxies now) (Proxies left) bids (e, proxies, hold) (same, gives) (rest, all) =
        let lists : List (List ℤ) = truth_lists s.exchange.bidders truths.now in
        let are : AreProxyBidsIn r (truth_lists s.exchange.bidders truths.now) (submissions_in judged ++ rest) =
        subst (AreProxyBidsIn r (truth_lists s.exchange.bidders truths.now)) all (proxies_give truths.now now.now bids e gives) in
        simulated.in_round going s (record last { judged = last.judged ++ judged }) after_round more proxies
        (subst (λ (js : List Judged). IsProxyFront last.prices s.exchange.settings.improve (standings s.exchange s.bounds last.provisional.sets) lists (js ++ judged)) (sym none)
        (proxy_round_goes_on lists going s last r judged rest is are))

    -- all are judged, and the session goes on with what is left of the source
    pub next_left : (before shelf : Told) → IsLater before shelf → (whole source left : Source) (bids : List Submission) → IsLeft before whole going s source → Gives source before r bids left → submissions_in judged ≡ bids
        → IsLeft shelf whole (going ++ record last { judged = last.judged ++ judged } ∷ []) (session_after after_round) left
    next_left before shelf later (Files names) (Files now) (Files left) bids (done, all, count, held) (name, next, holds) same =
        let g : Going = record last { judged = last.judged ++ judged } in
        let here : HoldsBids shelf name (submissions_of (record last { judged = last.judged ++ judged })) =
        held_later before shelf later name (submissions_of (record last { judged = last.judged ++ judged })) (subst (HoldsBids before name) (sym (all_submitted last judged none ∙ same)) holds) in (
          done ++ name ∷ [],
          all ∙ ap (λ (fs : List (List ℕ)). done ++ fs) next ∙ sym (append_assoc done (name ∷ []) (map string_bytes left.now)),
          omega (arith, length-append done (name ∷ []), length-append going (record last { judged = last.judged ++ judged } ∷ []), count),
          more_held shelf done going name g count (later_held before shelf later done going held) here,
        )
    next_left before shelf later (Files names) (Files now) (Proxies left) bids so_far gives same = absurd gives
    next_left before shelf later (Files names) (Proxies now) left bids so_far gives same = absurd so_far
    next_left before shelf later (Proxies truths) (Files now) left bids so_far gives same = absurd so_far
    next_left before shelf later (Proxies truths) (Proxies now) (Files left) bids so_far gives same = absurd gives
    next_left before shelf later (Proxies truths) (Proxies now) (Proxies left) bids (e, proxies, hold) (kept, gives) same =
        let lists : List (List ℤ) = truth_lists s.exchange.bidders truths.now in
        let are : AreProxyBidsIn r (truth_lists s.exchange.bidders truths.now) (submissions_in judged) =
        subst (AreProxyBidsIn r (truth_lists s.exchange.bidders truths.now)) (sym same) (proxies_give truths.now now.now bids e gives) in
        let alone : record last { judged = last.judged ++ judged } ≡ record last { judged = judged } = ap (λ (js : List Judged). record last { judged = js ++ judged }) none in
        let ends = proxy_round_ends lists going s last r after_round judged is hold proxies are (subst (λ (g : Going). IsInRound going s g after_round) alone more) in
        let ex_same : after_round.exchange ≡ s.exchange = more.exchange in (
          kept ∙ e,
          subst (λ (ex : Exchange). IsProxyFrom ex (truth_lists ex.bidders truths.now) (opening_bounds ex) (going ++ record last { judged = last.judged ++ judged } ∷ [])) (sym ex_same)
              (subst (λ (g : Going). IsProxyFrom s.exchange lists (opening_bounds s.exchange) (going ++ g ∷ [])) (sym alone) ends.0),
          subst (λ (ex : Exchange). HoldTruths (session_after after_round).bounds (truth_lists ex.bidders truths.now)) (sym ex_same) ends.1,
        )

-- ---- a session begins

pub begins_left : (shelf : Told) (source : Source) (ex : Exchange) (s : SessionAt) → s ≡ record { exchange = ex; bounds = opening_bounds ex; number = 0; branches = ex.settings.branches } → MayBegin source ex → IsLeft shelf source [] s source
begins_left shelf (Files names) ex s is may = ([], refl, refl, tt)
begins_left shelf (Proxies truths) ex s is may = (refl, tt, subst (λ (x : SessionAt). HoldTruths x.bounds (truth_lists x.exchange.bidders truths.now)) (sym is) may)

-- ---- no bids for a round

-- the file that stands next isn't had
pub refusal_lacks : (r : RoundAt) (name : List ℕ) (later : List (List ℕ)) (before after : Told) (given : Refusal) → Refuses (r.number + 2) name file_limit IsRoundFault before after given → LacksFile (name ∷ later) r before after (Refused given)
refusal_lacks r name later before after (refusal.File file fault) is going s last done round none same played call part =
    let there : slice_get (done ++ name ∷ later) (length going) ≡ Some name = subst (λ (n : ℕ). slice_get (done ++ name ∷ later) n ≡ Some name) same (file_there done later name) in
    let number : r.number + 2 ≡ length going + 2 = omega (arith, round.number, round.running.number) in
    let h = is call part in
    subst (λ (n : ℕ). IsRunJournal call (done ++ name ∷ later) s.exchange (round_records s going last ++ line.refused n (fault_of fault).number (fault_of fault).place ∷ []) Input) (sym (h.0 ∙ number))
    (refuses going s last r name (fault_of fault) (record { in_round = round; none = none; rounds = longer_rounds call done (name ∷ later) going (held_rounds call before after part done going played) }) there h.1)
refusal_lacks r name later before after (refusal.Unread file) is going s last done round none same played call part =
    let there : slice_get (done ++ name ∷ later) (length going) ≡ Some name = subst (λ (n : ℕ). slice_get (done ++ name ∷ later) n ≡ Some name) same (file_there done later name) in
    let number : r.number + 2 ≡ length going + 2 = omega (arith, round.number, round.running.number) in
    let h = is call part in
    subst (λ (n : ℕ). IsRunJournal call (done ++ name ∷ later) s.exchange (round_records s going last ++ line.unread n ∷ []) ReadFault) (sym (h.0 ∙ number))
    (fails_to_read going s last r name (record { in_round = round; none = none; rounds = longer_rounds call done (name ∷ later) going (held_rounds call before after part done going played) }) there h.1)
refusal_lacks r name later before after refusal.NoMemory is going s last done round none same played call part =
    subst (λ (rs : List Record). IsRunJournal call (done ++ name ∷ later) s.exchange rs NoMemory) (sym (append-nil (round_records s going last)))
    (in_round going s last r round (longer_rounds call done (name ∷ later) going (held_rounds call before after part done going played))
    (subst (BeginsRound call (drop (length going) (done ++ name ∷ later))) (sym (ap submissions_in none)) (begins_none call (drop (length going) (done ++ name ∷ later)))))

-- no file is left
pub open_lacks : (r : RoundAt) (before after : Told) → LacksFile [] r before after NoFile
open_lacks r before after going s last done round none same played call part =
    let all : done ++ [] ≡ done = append-nil done in
    stays_open going s last r (record { in_round = round; none = none; rounds = longer_rounds call done [] going (held_rounds call before after part done going played) }) (sym same ∙ ap length (sym all))

-- the source is files of these names, or proxies
abbrev pub HasFiles : Source → List (List ℕ) → Type 0
HasFiles (Files names) files = map string_bytes names.now ≡ files
HasFiles (Proxies truths) files = ⊥

abbrev pub HasProxies : Source → Type 0
HasProxies (Files names) = ⊥
HasProxies (Proxies truths) = Unit {0}

pub lacks_ends : (source : Source) (files : List (List ℕ)) (r : RoundAt) (before after : Told) (given : NoBids) → HasFiles source files → LacksFile files r before after given → EndsInRound source r before after given
lacks_ends source files r before after given has lacks = λ whole going s last round none so_far. by source whole going s last has round none so_far
  where
    by : (source whole : Source) (going : List Going) (s : SessionAt) (last : Going) → HasFiles source files → IsInRound going s last r → last.judged ≡ [] → IsLeft before whole going s source
        → LeadsTo whole s.exchange before after (round_records s going last ++ stop_records given) (stop_status given)
    by (Proxies truths) whole going s last has round none so_far = absurd has
    by (Files now) (Proxies truths) going s last has round none so_far = absurd so_far
    by (Files now) (Files names) going s last has round none (done, all, count, held) =
        let same : map string_bytes names.now ≡ done ++ files = all ∙ ap (λ (fs : List (List ℕ)). done ++ fs) has in
        subst (λ (fs : List (List ℕ)). RunsTo s.exchange fs before after (round_records s going last ++ stop_records given) (stop_status given)) (sym same) (lacks going s last done round none count held)

-- proxies have no memory for them
pub proxies_end : (source : Source) (r : RoundAt) (before after : Told) → HasProxies source → EndsInRound source r before after (Refused refusal.NoMemory)
proxies_end source r before after has = λ whole going s last round none so_far. by source whole going s last has round none so_far
  where
    by : (source whole : Source) (going : List Going) (s : SessionAt) (last : Going) → HasProxies source → IsInRound going s last r → last.judged ≡ [] → IsLeft before whole going s source
        → LeadsTo whole s.exchange before after (round_records s going last ++ []) NoMemory
    by (Files now) whole going s last has round none so_far = absurd has
    by (Proxies now) (Files names) going s last has round none so_far = absurd so_far
    by (Proxies now) (Proxies truths) going s last has round none (e, proxies, hold) =
        subst (λ (rs : List Record). LeadsTo (Proxies truths) s.exchange before after rs NoMemory) (sym (append-nil (round_records s going last)))
        (simulated.in_round going s last r round proxies
        (subst (IsProxyFront last.prices s.exchange.settings.improve (standings s.exchange s.bounds last.provisional.sets) (truth_lists s.exchange.bidders truths.now)) (sym none) tt))

-- ---- what is said then

pub said_refusal : (given : Refusal) (result : Status) (old new : Taken) → IsSaid (refusal_text given) (refusal_status given) old new result → IsSaid (bytes_of (stop_records (Refused given))) (refusal_status given) old new result
said_refusal (refusal.File file fault) result old new said = one_line (line.refused file (fault_of fault).number (fault_of fault).place) Input result old new said
said_refusal (refusal.Unread file) result old new said = one_line (line.unread file) ReadFault result old new said
said_refusal refusal.NoMemory result old new said = said
