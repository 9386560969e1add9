-- A round of true values, whose bids are all accepted.
use Rattle.std.proofs.Common.{◌≡◌, ◌∙◌, List, [], ◌∷◌, length, refl, sym, ap, subst, arith, Result, Ok, Err}
use Rattle.std.specs.Prelude.{IfOk}
use Rattle.std.specs.List.{AllByRecursion}
use Rattle.std.proofs.lemmas.List.{length-map}
use Rattle.ice_defs.specs.declared.Verdict.{Verdict}
use Rattle.ice_defs.specs.declared.Verdict.TheVariants.{Accepted}
use Rattle.ice_defs.specs.Trade.{Assignment}
use Rattle.ice_defs.specs.Bounds.{Bounds}
use Rattle.ice_defs.specs.Round.{Submission, Judged, next_bounds}
use Rattle.ice_defs.specs.Exchange.{Exchange, Bidder, exact_of, trees_of, names_of}
use Rattle.ice_defs.specs.Session.{standings}
use Rattle.ice_terms.specs.Terms.{ArePriceTerms}
use Rattle.ice_round.specs.SessionAt.{SessionAt, RoundAt, session_after}
use Rattle.ice_journal.proofs.Tested.{prices_are}
use Rattle.ice_settled.specs.Shown.{going_of}
use Rattle.ice_round.specs.Shown.{IsOpening}
use Rattle.ice_settled.specs.declared.settled.Opening.{Opening}
use Rattle.ice_write_session.specs.Writable.{IsWritableOpening}
use Rattle.ice_write_session.proofs.Lawful.{opening_are_records}
use Rattle.ice_session_laws.specs.Running.{IsRunning, IsInRound}
use Rattle.ice_session_laws.proofs.Rounds.{round_begins, round_ends}
use Rattle.ice_session_laws.proofs.Ends.{opening_may_be_written}
use Rattle.ice_trial.specs.Truths.{AreTruths, AreExact, truth_bids}
use Rattle.ice_trial.proofs.Accepted.{truths_are_accepted}
use Rattle.ice_trial.specs.declared.trial.TruthRound.{TruthRound}
use Rattle.ice_trial.specs.Rounds.{submissions_in, acceptances, Submits, IsTold}

-- nothing is said of what an error gives
pub none_given : {T E : Type 0} (P : T → Type 0) (r : Result T E) (e : E) → r ≡ Err e → IfOk r P
none_given P (Ok x) e is = absurd (cc)
none_given P (Err f) e is = tt

-- ---- lists

-- true values are exact
pub exact_truths : (bounds truths : List Bounds) → AreTruths bounds truths → AreExact truths
exact_truths [] [] are = tt
exact_truths [] (t ∷ truths) are = absurd are
exact_truths (b ∷ bounds) [] are = absurd are
exact_truths (b ∷ bounds) (t ∷ truths) are = (are.0.exact, exact_truths bounds truths are.1)

-- there are as many as bounds
count_truths : (bounds truths : List Bounds) → AreTruths bounds truths → length truths ≡ length bounds
count_truths [] [] are = refl
count_truths [] (t ∷ truths) are = absurd are
count_truths (b ∷ bounds) [] are = absurd are
count_truths (b ∷ bounds) (t ∷ truths) are = omega (arith, count_truths bounds truths are.1)

pub truths_count : (s : SessionAt) (r : RoundAt) (o : Opening) (truths : List Bounds) → IsRunning [] s → IsOpening s r o → AreTruths s.bounds truths → length truths ≡ length r.exchange.bidders
truths_count s r o truths run is are =
    count_truths s.bounds truths are ∙ run.lawful.same_length ∙ length-map s.exchange.bidders (λ (b : Bidder). b.tree) ∙ ap (λ (x : Exchange). length x.bidders) (sym is.exchange)

-- bids that are all accepted
accepted_are : (judged : List Judged) → AllByRecursion (λ j. j.verdict ≡ Accepted) judged → judged ≡ acceptances (submissions_in judged)
accepted_are [] all = refl
accepted_are (j ∷ judged) all =
    ap (λ (v : Verdict). record { submission = j.submission; verdict = v } ∷ judged) all.0 ∙ ap (λ (js : List Judged). record { submission = j.submission; verdict = Accepted } ∷ js) (accepted_are judged all.1)

-- ---- the round

module _ (s : SessionAt) (r after : RoundAt) (o : Opening) (truths : List Bounds) (run : IsRunning [] s) (is : IsOpening s r o) (terms : ArePriceTerms o.pricing.prices) (are : AreTruths s.bounds truths)
    (bids : List Submission) (bids_are : bids ≡ truth_bids (names_of s.exchange) truths) (submits : Submits r after bids) where
  abbrev judged : List Judged
  judged = submits.0

  writable : IsWritableOpening (length (exact_of s.exchange)) o
  writable = opening_may_be_written [] s r o run is terms

  begins : IsInRound [] s (going_of o []) r
  begins = round_begins [] s r o run is (opening_are_records s.exchange o writable (prices_are o.pricing.prices terms))

  here : IsInRound [] s (going_of o submits.0) after
  here = submits.2 [] s (going_of o []) begins

  same_bidders : length (trees_of s.exchange) ≡ length s.exchange.bidders
  same_bidders = length-map s.exchange.bidders (λ (b : Bidder). b.tree)

  told : AllByRecursion (λ j. j.verdict ≡ Accepted) submits.0 × (next_bounds (standings s.exchange s.bounds o.provisional.best) submits.0 ≡ truths)
  told =
      let sets = here.right.provisional.feasible in
      truths_are_accepted s.exchange s.bounds truths o.provisional.best o.pricing.prices s.exchange.settings.improve submits.0 run.exchange (run.lawful.same_length ∙ same_bidders)
      (λ b h. run.lawful.each b (omega (arith, h, same_bidders))) (sets.same_length ∙ same_bidders) (λ b h. sets.satisfied b (omega (arith, h, same_bidders))) are here.right.round (submits.1 ∙ bids_are)

  pub next_are : after.round.next ≡ truths
  next_are =
      here.after.next ∙ ap (λ (bs : List Bounds). next_bounds (standings s.exchange bs after.round.sets) submits.0) here.bounds
      ∙ ap (λ (a : Assignment). next_bounds (standings s.exchange s.bounds a) submits.0) here.sets ∙ told.1

  pub same_exchange : after.exchange ≡ r.exchange
  same_exchange = here.exchange ∙ sym is.exchange

  running : IsRunning (going_of o (acceptances bids) ∷ []) (session_after after)
  running =
      subst (λ (js : List Judged). IsRunning (going_of o js ∷ []) (session_after after)) (accepted_are submits.0 told.0 ∙ ap acceptances submits.1) (round_ends [] s (going_of o submits.0) after here)

  pub truths_told : (first : TruthRound) → first.opening ≡ o → first.bids.items ≡ bids → IsTold (session_after after) first
  truths_told first opened said = record {
    running = subst (λ (x : Opening). IsRunning (going_of x (acceptances first.bids.items) ∷ []) (session_after after)) (sym opened)
        (subst (λ (bs : List Submission). IsRunning (going_of o (acceptances bs) ∷ []) (session_after after)) (sym said) running);
    round = record {
      number = ap (λ (x : Opening). x.number) opened ∙ is.number ∙ sym run.number;
      bids = said ∙ bids_are ∙ ap (λ (x : Exchange). truth_bids (names_of x) truths) (sym here.exchange) ∙ ap (truth_bids (names_of after.exchange)) (sym next_are);
      writable = subst (λ (x : Opening). IsWritableOpening (length (exact_of after.exchange)) x) (sym opened) (subst (λ (x : Exchange). IsWritableOpening (length (exact_of x)) o) (sym here.exchange) writable);
    };
    exact = subst AreExact (sym next_are) (exact_truths s.bounds truths are);
  }
