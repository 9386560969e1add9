-- The rest of a session is put: each step behind what was put before.
use Rattle.std.proofs.Common.{◌≡◌, ◌∙◌, ◌+◌, ◌-◌, ◌<◌, ℕ, List, [], ◌∷◌, ◌++◌, length, refl, sym, ap, subst, arith, append_assoc}
use Rattle.std.specs.List.{flat_map}
use Rattle.std.proofs.lemmas.List.{append-nil}
use Rattle.std.proofs.lemmas.List.Concat.{flat_map-append}
use Rattle.ice_edge.specs.Puts.{Takes, FailsIn}
use Rattle.ice_edge.specs.Told.{Told, IsLater}
use Rattle.ice_edge.specs.declared.status.Status.{Status}
use Rattle.ice_edge.specs.declared.status.Status.TheVariants.{WriteFault, NoMemory}
use Rattle.ice_edge.specs.Taken.{Taken}
use Rattle.ice_defs.specs.Round.{Submission, Judged}
use Rattle.ice_defs.specs.Exchange.{Exchange, exact_of, opening_bounds}
use Rattle.ice_defs.specs.Lawful.{IsExchange}
use Rattle.ice_defs.specs.Session.{Going}
use Rattle.ice_journal.specs.Records.{Record, version_2}
use Rattle.ice_journal.specs.Records as line
use Rattle.ice_journal.specs.Journal.{bytes_of}
use Rattle.ice_journal_laws.specs.Written.{judged_records}
use Rattle.ice_journal_laws.specs.Showing.{regret_group_records}
use Rattle.ice_journal_laws.specs.ShowingSession.{opening_in, going_in, goings_in}
use Rattle.ice_round.specs.SessionAt.{SessionAt, RoundAt, session_after}
use Rattle.ice_round.proofs.GoingOn.{more_rounds}
use Rattle.ice_session_laws.specs.Running.{IsRunning}
use Rattle.ice_session_laws.specs.Written.{begun_records, run_records, round_records}
use Rattle.ice_session_laws.proofs.Rounds.{run_begins, round_ends, goings_more}
use Rattle.ice_command_parts.specs.Journals.{WritesBehind}
use Rattle.ice_command_parts.specs.Parts.{IsSaid}
use Rattle.ice_command_parts.proofs.Writing.{nothing_more, failed_piece, piece_then}
use Rattle.ice_session_commands.specs.declared.source.NoBids.{NoBids}
use Rattle.ice_session_commands.specs.declared.source.Source.{Source}
use Rattle.ice_session_commands.specs.NoBids.{stop_records, stop_status}
use Rattle.ice_session_commands.specs.SessionEnds.{EndsSettling, without_memory}
use Rattle.ice_session_commands.specs.Sources.{LeadsTo, MayBegin, IsLeft, MayGive, Gives}
use Rattle.ice_session_commands.specs.SessionSteps.{OpensRound, EndsHere, EndsRound, FailsInRound, EndsInRound, Plays}
use Rattle.ice_session_commands.proofs.Putting.{said_piece, writes_also}
use Rattle.ice_session_commands.proofs.Sources.{settling_leads, leads_sooner, round_leads, may_give, next_left, begins_left}

-- the records of a round with more submissions
round_more : (s : SessionAt) (going : List Going) (last : Going) (judged : List Judged) → round_records s going last ++ flat_map judged_records judged ≡ round_records s going (record last { judged = last.judged ++ judged })
round_more s going last judged =
    let quiet : List Record = line.settle s.number ∷ regret_group_records version_2 (length (exact_of s.exchange)) last.settlement ++ opening_in version_2 (length (exact_of s.exchange)) last in
    append_assoc (run_records s.exchange going) (quiet ++ flat_map judged_records last.judged) (flat_map judged_records judged)
    ∙ ap (λ (rs : List Record). run_records s.exchange going ++ rs)
    (append_assoc quiet (flat_map judged_records last.judged) (flat_map judged_records judged)
    ∙ ap (λ (rs : List Record). quiet ++ rs) (sym (flat_map-append judged_records last.judged judged)))

one_more : (s : SessionAt) (going : List Going) (last : Going) (judged : List Judged) → length going ≡ s.number → last.judged ≡ []
    → run_records s.exchange (going ++ record last { judged = last.judged ++ judged } ∷ []) ≡ round_records s going last ++ flat_map judged_records judged
one_more s going last judged number none =
    ap (λ (rs : List Record). begun_records s.exchange ++ rs) (goings_more version_2 (length (exact_of s.exchange)) 0 going (record last { judged = last.judged ++ judged }))
    ∙ ap (λ (k : ℕ). begun_records s.exchange ++ (goings_in version_2 (length (exact_of s.exchange)) 0 going ++ going_in version_2 (length (exact_of s.exchange)) k (record last { judged = last.judged ++ judged }))) (omega (arith, number))
    ∙ sym (append_assoc (begun_records s.exchange) (goings_in version_2 (length (exact_of s.exchange)) 0 going) (going_in version_2 (length (exact_of s.exchange)) s.number (record last { judged = last.judged ++ judged })))
    ∙ sym (round_more s going last judged)

module _ (source : Source) (s : SessionAt) (before after : Told) where
  -- it ends with the next settlement
  pub plays_ends : (old new : Taken) (result : Status) → EndsHere s old new result → Plays source s before after old new result
  plays_ends old new result ends whole going run so_far =
      writes_also (run_records s.exchange going) (EndsSettling going s) (LeadsTo whole s.exchange before after) result old new
      (λ journal status is. settling_leads whole source going s before after journal status run so_far is) (ends going run)

  module _ (r : RoundAt) (old mid : Taken) (opened : OpensRound s r old mid) where
    -- there are no bids for the round
    pub plays_in_round : (given : NoBids) (new : Taken) (result : Status) → EndsInRound source r before after given → IsSaid (bytes_of (stop_records given)) (stop_status given) mid new result → Plays source s before after old new result
    plays_in_round given new result ends said whole going run so_far =
        let (last, round, none, takes) = opened going run in
        piece_then (run_records s.exchange going) (LeadsTo whole s.exchange before after) (going_in version_2 (length (exact_of s.exchange)) s.number last) result old mid new takes
        (said_piece (round_records s going last) (LeadsTo whole s.exchange before after) (stop_records given) (stop_status given) result mid new (ends whole going s last round none so_far) said)

    module _ (bids : List Submission) (left : Source) (gives : Gives source before r bids left) where
      -- the sink fails in the round
      pub plays_fails : (new : Taken) (result : Status) → FailsInRound r bids mid new result → Plays source s before after old new result
      plays_fails new result (e, (after_round, fault, judges)) whole going run so_far =
          let (last, round, none, takes) = opened going run in
          let more = judges.goes_on going s last round in
          let leads : LeadsTo whole s.exchange before after (round_records s going last ++ flat_map judged_records judges.judged) NoMemory =
          subst (λ (rs : List Record). LeadsTo whole s.exchange before after rs NoMemory) (sym (round_more s going last judges.judged))
          (round_leads going s last r round none judges.judged after_round more before after whole source left bids so_far gives judges.front) in
          subst (WritesBehind (run_records s.exchange going) (LeadsTo whole s.exchange before after) old new) (sym e)
          (piece_then (run_records s.exchange going) (LeadsTo whole s.exchange before after) (going_in version_2 (length (exact_of s.exchange)) s.number last) WriteFault old mid new takes
          (failed_piece (round_records s going last) (LeadsTo whole s.exchange before after) (flat_map judged_records judges.judged) NoMemory mid new leads judges.is_put))

      -- or the session goes on behind it
      pub plays_on : (next : SessionAt) (shelf : Told) (now new : Taken) (result : Status) → IsLater before shelf → EndsRound r bids next mid now
          → Plays left next shelf after now new result → Plays source s before after old new result
      plays_on next shelf now new result later (after_round, e, judges) plays whole going run so_far =
          let (last, round, none, opening) = opened going run in
          let more = judges.goes_on going s last round in
          let running : IsRunning (going ++ record last { judged = last.judged ++ judges.judged } ∷ []) (session_after after_round) = round_ends going s (record last { judged = last.judged ++ judges.judged }) after_round more in
          let left_then : IsLeft shelf whole (going ++ record last { judged = last.judged ++ judges.judged } ∷ []) (session_after after_round) left =
          next_left going s last r round none judges.judged after_round more before shelf later whole source left bids so_far gives judges.all in
          let from_next : Plays left (session_after after_round) shelf after now new result = subst (λ (x : SessionAt). Plays left x shelf after now new result) e plays in
          let rest : WritesBehind (run_records after_round.exchange (going ++ record last { judged = last.judged ++ judges.judged } ∷ [])) (LeadsTo whole after_round.exchange shelf after) now new result =
          from_next whole (going ++ record last { judged = last.judged ++ judges.judged } ∷ []) running left_then in
          let here : WritesBehind (run_records s.exchange (going ++ record last { judged = last.judged ++ judges.judged } ∷ [])) (LeadsTo whole s.exchange shelf after) now new result =
          subst (λ (x : Exchange). WritesBehind (run_records x (going ++ record last { judged = last.judged ++ judges.judged } ∷ [])) (LeadsTo whole x shelf after) now new result) more.exchange rest in
          let front : run_records s.exchange (going ++ record last { judged = last.judged ++ judges.judged } ∷ []) ≡ round_records s going last ++ flat_map judged_records judges.judged = one_more s going last judges.judged run.number none in
          let behind : WritesBehind (round_records s going last ++ flat_map judged_records judges.judged) (LeadsTo whole s.exchange before after) now new result =
          writes_also (round_records s going last ++ flat_map judged_records judges.judged) (LeadsTo whole s.exchange shelf after) (LeadsTo whole s.exchange before after) result now new
          (λ journal status is. leads_sooner whole s.exchange before shelf after journal status later is)
          (subst (λ (rs : List Record). WritesBehind rs (LeadsTo whole s.exchange shelf after) now new result) front here) in
          piece_then (run_records s.exchange going) (LeadsTo whole s.exchange before after) (going_in version_2 (length (exact_of s.exchange)) s.number last) result old mid new opening
          (piece_then (round_records s going last) (LeadsTo whole s.exchange before after) (flat_map judged_records judges.judged) result mid now new judges.is_put behind)

-- ---- what a session that holds rounds needs

-- it runs behind settlements whose rounds the source gave
abbrev pub IsPlayed : Told → Source → SessionAt → Type 0
IsPlayed shelf source s = (whole : Source) × (going : List Going) × IsRunning going s × IsLeft shelf whole going s source

-- it came from the first session and source to these, and with what puts the rest of these it puts
-- the rest of the first
pub record ComesOn (first : Source) (start : SessionAt) (begun : Told) (old : Taken) (source : Source) (s : SessionAt) (shelf : Told) (now : Taken) : Type 0 where
  pub played : IsPlayed shelf source s
  pub on : (after : Told) (new : Taken) (result : Status) → Plays source s shelf after now new result → Plays first start begun after old new result
  pub kept : shelf ≡ begun
  pub later : IsLater begun shelf

module _ (source : Source) (s : SessionAt) (r : RoundAt) (before : Told) (played : IsPlayed before source s) (old mid : Taken) (opened : OpensRound s r old mid) where
  pub round_may : MayGive source r
  round_may =
      let (whole, going, run, so_far) = played in
      let (last, round, none, takes) = opened going run in
      may_give going s last r round before whole source so_far

  module _ (bids : List Submission) (left : Source) (gives : Gives source before r bids left) (next : SessionAt) (shelf : Told) (later : IsLater before shelf) (now : Taken) (ended : EndsRound r bids next mid now) where
    pub played_next : IsPlayed shelf left next
    played_next =
        let (whole, going, run, so_far) = played in
        let (last, round, none, takes) = opened going run in
        let (after_round, e, judges) = ended in
        let more = judges.goes_on going s last round in
        subst (IsPlayed shelf left) (sym e) (
          whole,
          going ++ record last { judged = last.judged ++ judges.judged } ∷ [],
          round_ends going s (record last { judged = last.judged ++ judges.judged }) after_round more,
          next_left going s last r round none judges.judged after_round more before shelf later whole source left bids so_far gives judges.all,
        )

    -- fewer rounds are left
    pub fewer_left : next.exchange.settings.rounds - next.number < s.exchange.settings.rounds - s.number
    fewer_left =
        let (whole, going, run, so_far) = played in
        let (last, round, none, takes) = opened going run in
        let (after_round, e, judges) = ended in
        let more = judges.goes_on going s last round in
        let rounds : next.exchange.settings.rounds ≡ s.exchange.settings.rounds = ap (λ (x : SessionAt). x.exchange.settings.rounds) e ∙ ap (λ (x : Exchange). x.settings.rounds) more.exchange in
        let number : next.number ≡ s.number + 1 = ap (λ (x : SessionAt). x.number) e ∙ omega (arith, more.number) in
        omega (arith, rounds, number, more_rounds s.exchange.settings s.number last.settlement.regret round.goes_on run.few)

-- ---- a session begins

pub begins : (source : Source) (ex : Exchange) (s : SessionAt) (before after : Told) (old mid new : Taken) (result : Status) → IsExchange ex → MayBegin source ex
    → s ≡ record { exchange = ex; bounds = opening_bounds ex; number = 0; branches = ex.settings.branches }
    → Takes (bytes_of (begun_records ex)) old mid → Plays source s before after mid new result → WritesBehind [] (LeadsTo source ex before after) old new result
begins source ex s before after old mid new result lawful may is takes plays =
    piece_then [] (LeadsTo source ex before after) (begun_records ex) result old mid new takes
    (subst (λ (rs : List Record). WritesBehind rs (LeadsTo source ex before after) mid new result) (append-nil (begun_records ex))
    (subst (λ (x : Exchange). WritesBehind (run_records x []) (LeadsTo source x before after) mid new result) (ap (λ (x : SessionAt). x.exchange) is) (plays source [] (run_begins ex s lawful is) (begins_left before source ex s is may))))

pub begins_played : (source : Source) (ex : Exchange) (s : SessionAt) (shelf : Told) → IsExchange ex → MayBegin source ex → s ≡ record { exchange = ex; bounds = opening_bounds ex; number = 0; branches = ex.settings.branches } → IsPlayed shelf source s
begins_played source ex s shelf lawful may is = (source, [], run_begins ex s lawful is, begins_left shelf source ex s is may)

first_session : Exchange → SessionAt
first_session ex = record { exchange = ex; bounds = opening_bounds ex; number = 0; branches = ex.settings.branches }

only_begun : (source : Source) (ex : Exchange) (before after : Told) → IsExchange ex → MayBegin source ex → LeadsTo source ex before after (begun_records ex) NoMemory
unfolding first_session
only_begun source ex before after lawful may =
    subst (λ (rs : List Record). LeadsTo source ex before after rs NoMemory) (append-nil (begun_records ex))
    (settling_leads source source [] (first_session ex) before after (run_records ex []) NoMemory (run_begins ex (first_session ex) lawful refl) (begins_left before source ex (first_session ex) refl may) without_memory)

pub begins_without_memory : (source : Source) (ex : Exchange) (before after : Told) (old new : Taken) → IsExchange ex → MayBegin source ex → Takes (bytes_of (begun_records ex)) old new → WritesBehind [] (LeadsTo source ex before after) old new NoMemory
begins_without_memory source ex before after old new lawful may takes =
    piece_then [] (LeadsTo source ex before after) (begun_records ex) NoMemory old new new takes (nothing_more (begun_records ex) (LeadsTo source ex before after) new NoMemory (only_begun source ex before after lawful may))

pub begin_fails : (source : Source) (ex : Exchange) (before after : Told) (old new : Taken) → IsExchange ex → MayBegin source ex → FailsIn (bytes_of (begun_records ex)) old new → WritesBehind [] (LeadsTo source ex before after) old new WriteFault
begin_fails source ex before after old new lawful may fails = failed_piece [] (LeadsTo source ex before after) (begun_records ex) NoMemory old new (only_begun source ex before after lawful may) fails
