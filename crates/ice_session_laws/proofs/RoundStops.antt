-- What the journal of a session is in a round, and where it stops there.
use Rattle.std.proofs.Common.{◌≡◌, ◌+◌, ℕ, suc, List, [], ◌∷◌, ◌++◌, length, arith, refl, sym, subst, ◌∙◌, ap, append_assoc, length-append}
use Rattle.std.specs.List.{AllByRecursion}
use Rattle.ice_defs.specs.Round.{Judged}
use Rattle.ice_defs.specs.Exchange.{Exchange, exact_of, opening_bounds}
use Rattle.ice_defs.specs.Session.{Going}
use Rattle.ice_defs.proofs.Lists.{all-append}
use Rattle.ice_journal.specs.Records.{Record, version_1, version_2, session_kind, open_end}
use Rattle.ice_journal.specs.Records as line
use Rattle.ice_journal.specs.Ranges.{IsRecord}
use Rattle.ice_journal.specs.Plain.{plain}
use Rattle.ice_section.specs.Described.{section_records}
use Rattle.ice_section.proofs.Describing.{described_are_taken}
use Rattle.ice_journal_laws.specs.State.{State, begun}
use Rattle.ice_journal_laws.specs.Written.{going_records}
use Rattle.ice_journal_laws.specs.Carrying.{Carries}
use Rattle.ice_journal_laws.specs.ShowingSession.{going_in, goings_in, AreShownGoing, last_going}
use Rattle.ice_journal_laws.specs.SoFar.{IsSoFar}
use Rattle.ice_journal_laws.specs.Stops.{all_going_records, AreGoing}
use Rattle.ice_journal_laws.proofs.CarriedGoing.{with_going}
use Rattle.ice_journal_laws.proofs.CarriedRound.{resting_at}
use Rattle.ice_journal_laws.proofs.CarriedOpen.{CarriesToRest, open_carries, bounds_at_last}
use Rattle.ice_journal_laws.proofs.CarriedPlain.{going_plain}
use Rattle.ice_journal_laws.proofs.CarriedReached.{open_says}
use Rattle.ice_journal_laws.proofs.CarriedStops.{RoundStop, round_stop_so_far}
use Rattle.ice_journal_laws.proofs.CarriedStops as stop
use Rattle.ice_round.specs.SessionAt.{SessionAt, RoundAt, session_after}
use Rattle.ice_session_laws.specs.Running.{IsRunning, IsInRound}
use Rattle.ice_session_laws.specs.Stops.{StopsRound, no_file, file_refused, file_unread}
use Rattle.ice_session_laws.specs.Written.{begun_records, run_records, round_records, IsUnended, IsOpenJournal}
use Rattle.ice_session_laws.proofs.Rounds.{goings_more, round_ends}
use Rattle.ice_session_laws.proofs.Sessions.{run_are}
use Rattle.ice_session_laws.proofs.Between.{unended, rests_between}

-- the settlements with one more at their end, from the first on
first_of : Going → List Going → Going
first_of last [] = last
first_of last (g ∷ later) = g

rest_of : Going → List Going → List Going
rest_of last [] = []
rest_of last (g ∷ later) = later ++ last ∷ []

split : (going : List Going) (last : Going) → going ++ last ∷ [] ≡ first_of last going ∷ rest_of last going
unfolding first_of rest_of
split [] last = refl
split (g ∷ later) last = refl

last_in : (g : Going) (later : List Going) (last : Going) → last_going g (later ++ last ∷ []) ≡ last
last_in g [] last = refl
last_in g (other ∷ later) last = last_in other later last

last_is : (going : List Going) (last : Going) → last_going (first_of last going) (rest_of last going) ≡ last
unfolding first_of rest_of
last_is [] last = refl
last_is (g ∷ later) last = last_in g later last

rest_count : (going : List Going) (last : Going) → length (rest_of last going) ≡ length going
unfolding rest_of
rest_count [] last = refl
rest_count (g ∷ later) last = length-append later (last ∷ []) ∙ omega arith

-- version 1 says settlements as they are
goings_plain : (goods number : ℕ) (going : List Going) → goings_in version_1 goods number going ≡ all_going_records number going
goings_plain goods number [] = refl
goings_plain goods number (g ∷ later) =
    ap (λ (rs : List Record). rs ++ goings_in version_1 goods (suc number) later) (going_plain goods number g) ∙ ap (λ (rs : List Record). going_records number g ++ rs) (goings_plain goods (suc number) later)

module _ (going : List Going) (s : SessionAt) (last : Going) (r : RoundAt) (is : IsInRound going s last r) where
  abbrev goods : ℕ
  goods = length (exact_of s.exchange)

  abbrev all : List Going
  all = going ++ last ∷ []

  ended : IsRunning (going ++ last ∷ []) (session_after r)
  ended = round_ends going s last r is

  shown : AreShownGoing s.exchange 0 (opening_bounds s.exchange) (going ++ last ∷ [])
  shown = subst (λ (x : Exchange). AreShownGoing x 0 (opening_bounds x) (going ++ last ∷ [])) is.exchange ended.shown

  right : AreGoing s.exchange 0 (opening_bounds s.exchange) (going ++ last ∷ [])
  right = subst (λ (x : Exchange). AreGoing x 0 (opening_bounds x) (going ++ last ∷ [])) is.exchange ended.right

  -- the records of the last settlement stand behind those of the others
  all_records : goings_in version_2 (length (exact_of s.exchange)) 0 (going ++ last ∷ []) ≡ goings_in version_2 (length (exact_of s.exchange)) 0 going ++ going_in version_2 (length (exact_of s.exchange)) s.number last
  all_records =
      goings_more version_2 goods 0 going last
      ∙ ap (λ (k : ℕ). goings_in version_2 goods 0 going ++ going_in version_2 goods k last) (omega (arith, is.running.number))

  journal_is : round_records s going last ≡ begun_records s.exchange ++ goings_in version_2 (length (exact_of s.exchange)) 0 (going ++ last ∷ [])
  journal_is =
      append_assoc (begun_records s.exchange) (goings_in version_2 goods 0 going) (going_in version_2 goods s.number last)
      ∙ ap (λ (rs : List Record). begun_records s.exchange ++ rs) (sym all_records)

  pub round_are : AllByRecursion IsRecord (round_records s going last)
  round_are = all-append IsRecord (run_records s.exchange going) (going_in version_2 goods s.number last) (run_are going s is.running) is.records

  carries : CarriesToRest (begun version_2 session_kind) (section_records s.exchange ++ goings_in version_2 (length (exact_of s.exchange)) 0 (first_of last going ∷ rest_of last going)) (last_going (first_of last going) (rest_of last going)) version_2 s.exchange (length (rest_of last going))
      (bounds_at_last s.exchange (opening_bounds s.exchange) (first_of last going) (rest_of last going))
  carries =
      open_carries described_are_taken version_2 s.exchange is.running.exchange (first_of last going) (rest_of last going)
      (subst (AreShownGoing s.exchange 0 (opening_bounds s.exchange)) (split going last) shown)

  abbrev At : State
  At = with_going (last_going (first_of last going) (rest_of last going)) carries.state

  carried : Carries (begun version_2 session_kind) (section_records s.exchange ++ goings_in version_2 (length (exact_of s.exchange)) 0 (going ++ last ∷ []))
      (resting_at (last_going (first_of last going) (rest_of last going)).balance last.judged (with_going (last_going (first_of last going) (rest_of last going)) carries.state))
  carried =
      subst (λ (gs : List Going). Carries (begun version_2 session_kind) (section_records s.exchange ++ goings_in version_2 goods 0 gs) (resting_at (last_going (first_of last going) (rest_of last going)).balance last.judged At)) (sym (split going last))
      (subst (λ (js : List Judged). Carries (begun version_2 session_kind) (section_records s.exchange ++ goings_in version_2 goods 0 (first_of last going ∷ rest_of last going)) (resting_at (last_going (first_of last going) (rest_of last going)).balance js At))
      (ap (λ (g : Going). g.judged) (last_is going last)) carries.carries)

  pub round_is_unended : IsUnended (round_records s going last)
  round_is_unended =
      subst IsUnended (sym journal_is)
      (unended (section_records s.exchange ++ goings_in version_2 goods 0 all) (resting_at (last_going (first_of last going) (rest_of last going)).balance last.judged At) carried
      (subst (AllByRecursion IsRecord) journal_is round_are) (rests_between (last_going (first_of last going) (rest_of last going)).balance last.judged))

  -- ---- where no submission came yet

  module _ (none : last.judged ≡ []) where
    number_is : carries.state.number ≡ s.number
    number_is = omega (arith, is.running.number, rest_count going last, carries.number_is)

    stop_is : (x : Record) → StopsRound s.number x → RoundStop (with_going (last_going (first_of last going) (rest_of last going)) carries.state) x
    stop_is _ no_file = stop.no_file
    stop_is _ (file_refused fault place) = subst (λ (k : ℕ). RoundStop At (line.refused (k + 2) fault place)) number_is (stop.file_refused fault place)
    stop_is _ file_unread = subst (λ (k : ℕ). RoundStop At (line.unread (k + 2))) number_is stop.file_unread

    pub round_stops : (x : Record) → StopsRound s.number x → IsRecord x → IsSoFar session_kind (round_records s going last ++ x ∷ [])
    round_stops x stops fits =
        subst (λ (rs : List Record). IsSoFar session_kind (rs ++ x ∷ [])) (sym journal_is)
        (round_stop_so_far session_kind (section_records s.exchange ++ goings_in version_2 goods 0 all) At (last_going (first_of last going) (rest_of last going)).balance x
        (subst (λ (js : List Judged). Carries (begun version_2 session_kind) (section_records s.exchange ++ goings_in version_2 goods 0 all) (resting_at (last_going (first_of last going) (rest_of last going)).balance js At)) none carried)
        carries.holds (stop_is x stops)
        (subst (λ (rs : List Record). AllByRecursion IsRecord (rs ++ x ∷ [])) journal_is (all-append IsRecord (round_records s going last) (x ∷ []) round_are (fits, tt))))

    pub round_stays_open : IsOpenJournal (round_records s going last ++ line.end open_end ∷ []) (record { exchange = s.exchange; going = going ++ last ∷ [] })
    round_stays_open = record {
      says =
          ap (λ (rs : List Record). plain (rs ++ line.end open_end ∷ [])) journal_is
          ∙ ap plain (append_assoc (begun_records s.exchange) (goings_in version_2 goods 0 all) (line.end open_end ∷ []))
          ∙ open_says s.exchange all shown
          ∙ ap (λ (rs : List Record). line.head version_1 session_kind ∷ section_records s.exchange ++ (rs ++ line.end open_end ∷ [])) (goings_plain goods 0 all)
          ∙ sym (append_assoc (line.head version_1 session_kind ∷ section_records s.exchange) (all_going_records 0 all) (line.end open_end ∷ []));
      so_far = round_stops (line.end open_end) no_file tt;
      right = record { exchange = is.running.exchange; some = omega (arith, length-append going (last ∷ [])); settlements = right };
    }
