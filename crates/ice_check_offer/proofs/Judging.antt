-- What a record makes of an offer in its round.
use Rattle.std.proofs.Common.{◌≡◌, ◌≢◌, ℕ, suc, Bool, false, eqb, [], ◌∷◌, ◌++◌, List, length, replicate, refl, sym, ◌∙◌, ap, subst}
use Rattle.std.specs.Prelude.{Option, None, option_and_then}
use Rattle.std.proofs.lemmas.Bool.{eq-eqb}
use Rattle.ice_defs.specs.declared.Verdict.{Verdict}
use Rattle.ice_defs.specs.Bounds.{Bounds}
use Rattle.ice_defs.specs.Trade.{Assignment}
use Rattle.ice_defs.specs.Prices.{Prices}
use Rattle.ice_defs.specs.Round.{Submission, Judged, IsNextVerdict, next_bounds}
use Rattle.ice_defs.specs.Exchange.{Exchange}
use Rattle.ice_defs.specs.Session.{standings}
use Rattle.ice_journal.specs.Records.{Record}
use Rattle.ice_journal.specs.Records as line
use Rattle.ice_journal_laws.specs.declared.rule.Rule.TheVariants as rule
use Rattle.ice_journal_laws.specs.State.{State, at_round, at_verdict, exchange_at}
use Rattle.ice_journal_laws.specs.Fields.{settlement_in, verdict_in}
use Rattle.ice_journal_laws.specs.Next.{to_line, go_to, if_true, next_settlement, to_settlement}
use Rattle.ice_journal_laws.specs.Progress.{passing, TakesOn}
use Rattle.ice_journal_laws.proofs.Priced.{round_submits, round_settles, round_missing, verdict_missing, verdict_wrong, verdict_right}
use Rattle.ice_round_laws.proofs.Taking.{verdict_is_one}
use Rattle.ice_verdicts.specs.Judges.{Round, IsRoundOf, bidders_in, round_after, IsAfter}
use Rattle.ice_verdicts.proofs.Submitting.{Asked, asked_in, after_asked}
use Rattle.ice_check_offer.specs.declared.fault.Fault.TheVariants.{Here}
use Rattle.ice_check_offer.specs.declared.place.Place.TheVariants as place
use Rattle.ice_check_offer.specs.declared.offer.Offer.{Offer}
use Rattle.ice_check_offer.specs.Offers.{IsOfferOf, IsKept}
use Rattle.ice_check_offer.specs.Rounds.{CanOpen}
use Rattle.ice_check_offer.specs.Taking.{GoesOn, GoesToSettlement, FailsBy}
use Rattle.ice_check_offer.proofs.Standing.{from_place, at_now}

-- ---- what a settlement is told

record Told : Type 0 where
  exchange : Exchange
  bounds : List Bounds
  sets : Assignment

module _ (ex : Exchange) (number : ℕ) (o : Offer) where
  -- ---- the round

  pub round_opens : o.place ≡ place.Round → (r : Record) → CanOpen ex number o r
  round_opens now r s st n =
      let at = at_now ex o s st place.Round now in
      record {
        prices = at.1;
        after = at.2;
        submits = λ x e. subst (λ (y : Record). TakesOn s y (passing (to_line (suc s.line) (go_to (at_verdict x) s)))) (sym e) (from_place s at_round (line.submit x) _ at.0 (round_submits s x));
        settles = λ e. subst (λ (y : Record). TakesOn s y (passing (to_line (suc s.line) (next_settlement s)))) (sym e) (from_place s at_round (line.settle (suc s.number)) _ at.0 (round_settles s (suc s.number) (eq-eqb (suc s.number) (suc s.number) refl)));
        fails = λ e f. from_place s at_round r _ at.0 (round_missing s r e f);
      }

  pub submission_taken : (x : Submission) (judge : Round) (due : Verdict) → judge ≡ round_after ex o.judge (record { submission = x; verdict = due }) → IsRoundOf ex judge
      → ((judged : List Judged) → IsAfter ex judged o.judge → IsNextVerdict o.judge.prices ex.settings.improve (bidders_in ex o.judge) judged x due)
      → ((judged : List Judged) → IsAfter ex judged o.judge → IsAfter ex (judged ++ record { submission = x; verdict = due } ∷ []) judge)
      → IsKept ex o → CanOpen ex number o (line.submit x) → GoesOn ex number o (line.submit x) (record o { place = place.Verdict due; judge = judge })
  submission_taken x judge due changed round next after kept opens = record {
    kept = record { round = round; low = kept.low; high = kept.high; den = kept.den; den_fits = kept.den_fits };
    bounds = ap (λ (a : Asked). a.bounds) same;
    goes = λ s st n.
        let opened = opens s st n in
        record {
          state = to_line (suc s.line) (go_to (at_verdict x) s);
          passes = opened.submits x refl;
          line = refl;
          same = refl;
          stands = record {
            exchange = st.exchange;
            bounds = st.bounds ∙ sym (ap (λ (a : Asked). a.bounds) same);
            offered = st.offered ∙ sym (ap (λ (a : Asked). a.sets) same);
            at = (
              record {
                submission = x;
                place = refl;
                next = subst (λ (a : Asked). IsNextVerdict a.prices ex.settings.improve (standings ex a.bounds a.sets) s.judged x due) (sym same) (next s.judged opened.after);
                after = after s.judged opened.after;
              },
              opened.prices ∙ sym (ap (λ (a : Asked). a.prices) same),
            );
          };
        };
  }
    where
      same : asked_in judge ≡ asked_in o.judge
      same = ap asked_in changed ∙ after_asked ex o.judge (record { submission = x; verdict = due })

  -- ---- the next settlement

  not_settled : (s : State) (other : ℕ) → s.number ≡ number → eqb other (suc number) ≡ false → to_settlement s (line.settle other) ≡ None
  not_settled s other n e = ap (λ (t : Bool). if_true t (next_settlement s)) (ap (λ k. eqb other (suc k)) n ∙ e)

  pub settlement_misnumbered : (other : ℕ) → eqb other (suc number) ≡ false → CanOpen ex number o (line.settle other) → FailsBy ex number o (line.settle other) (Here rule.Order)
  settlement_misnumbered other e opens s st n = (opens s st n).fails refl (not_settled s other n e)

  -- neither a submission nor a settlement
  no_settlement : (s : State) (r : Record) → settlement_in r ≡ None → to_settlement s r ≡ None
  no_settlement s r none = ap (λ (found : Option ℕ). option_and_then (λ k. if_true (eqb k (suc s.number)) (next_settlement s)) found) none

  pub settlement_taken : (other : ℕ) (judge : Round) → other ≡ suc number → judge ≡ record o.judge { bounds = o.judge.next; marks = replicate (length o.judge.marks) false } → IsRoundOf ex judge
      → IsKept ex o → CanOpen ex number o (line.settle other) → GoesToSettlement ex number o (line.settle other) (record o { place = place.Prices; judge = judge })
  settlement_taken other judge follows changed round kept opens = record {
    kept = record { round = round; low = kept.low; high = kept.high; den = kept.den; den_fits = kept.den_fits };
    fresh = record {
      next = ap (λ (r : Round). r.next) changed ∙ sym (ap (λ (r : Round). r.bounds) changed);
      marks = ap (λ (r : Round). r.marks) changed ∙ ap (λ n. replicate n false) kept.round.marks_count;
    };
    passes = λ s st n. (opens s st n).settles (ap line.settle (follows ∙ ap suc (sym n)));
    bounds = λ s st n.
        ap (λ (a : Told). next_bounds (standings a.exchange a.bounds a.sets) s.judged) (told s st)
        ∙ sym ((opens s st n).after.next)
        ∙ sym (ap (λ (r : Round). r.bounds) changed);
  }
    where
      told : (s : State) → IsOfferOf ex o s → (let t : Told = record { exchange = exchange_at s; bounds = s.bounds; sets = s.offered } in t) ≡ record { exchange = ex; bounds = o.judge.bounds; sets = o.judge.sets }
      told s st = λ i. record { exchange = st.exchange i; bounds = st.bounds i; sets = st.offered i }

  -- ---- the verdict

  module _ (due : Verdict) (now : o.place ≡ place.Verdict due) where
    pub verdict_other : (r : Record) → verdict_in r ≡ None → FailsBy ex number o r (Here rule.Order)
    verdict_other r none s st n =
        let at = at_now ex o s st (place.Verdict due) now in
        from_place s (at_verdict at.0.submission) r _ at.0.place (verdict_missing s at.0.submission r none)

    record Settling : Type 0 where
      exchange : Exchange
      bounds : List Bounds
      sets : Assignment
      prices : Prices

    abbrev Due : State → Submission → Verdict → Settling → Type 0
    Due s x v t = IsNextVerdict t.prices t.exchange.settings.improve (standings t.exchange t.bounds t.sets) s.judged x v

    settling : (s : State) (st : IsOfferOf ex o s) → (let t : Settling = record { exchange = exchange_at s; bounds = s.bounds; sets = s.offered; prices = s.prices } in t)
        ≡ record { exchange = ex; bounds = o.judge.bounds; sets = o.judge.sets; prices = o.judge.prices }
    settling s st = (let at = at_now ex o s st (place.Verdict due) now in λ i. record { exchange = st.exchange i; bounds = st.bounds i; sets = st.offered i; prices = at.1 i })

    pub verdict_fails : (v : Verdict) → v ≢ due → FailsBy ex number o (line.verdict v) (Here rule.Verdict)
    verdict_fails v other s st n =
        let at = at_now ex o s st (place.Verdict due) now in
        from_place s (at_verdict at.0.submission) (line.verdict v) _ at.0.place
        (verdict_wrong s at.0.submission v (λ h. other (verdict_is_one o.judge.prices ex.settings.improve (bidders_in ex o.judge) s.judged at.0.submission v due (subst (Due s at.0.submission v) (settling s st) h) at.0.next)))

    pub verdict_taken : IsKept ex o → GoesOn ex number o (line.verdict due) (record o { place = place.Round })
    verdict_taken kept = record {
      kept = record { round = kept.round; low = kept.low; high = kept.high; den = kept.den; den_fits = kept.den_fits };
      bounds = refl;
      goes = λ s st n.
          let at = at_now ex o s st (place.Verdict due) now in
          record {
            state = to_line (suc s.line) (go_to at_round (record s { judged = s.judged ++ record { submission = at.0.submission; verdict = due } ∷ [] }));
            passes = from_place s (at_verdict at.0.submission) (line.verdict due) _ at.0.place
                (verdict_right s at.0.submission due (subst (Due s at.0.submission due) (sym (settling s st)) at.0.next));
            line = refl;
            same = refl;
            stands = record { exchange = st.exchange; bounds = st.bounds; offered = st.offered; at = (refl, at.1, at.0.after) };
          };
    }
