-- Bids that are submitted one after another.
use Rattle.std.proofs.Common.{◌≡◌, ◌∙◌, ◌+◌, ◌<◌, ◌≤◌, ℕ, Bool, true, false, cond, List, [], ◌∷◌, ◌++◌, length, take, get_or, refl, sym, ap, subst, append_assoc, Option, Some, None}
use Rattle.std.specs.List.{AllByRecursion}
use Rattle.std.proofs.lemmas.List.{append-nil, map_push, take_all, take_more}
use Rattle.ice_defs.specs.Round.{Submission, Judged, is_accepted, IsNextVerdict}
use Rattle.ice_defs.specs.Exchange.{Exchange}
use Rattle.ice_journal.specs.Ranges.{IsRecord}
use Rattle.ice_journal_laws.specs.Written.{judged_records}
use Rattle.ice_verdicts.specs.Judges.{Round, bidders_in, bidder_named, with_taken, round_after, IsAfter}
use Rattle.ice_round.specs.SessionAt.{RoundAt}
use Rattle.ice_session_laws.specs.Running.{IsInRound}
use Rattle.ice_session_laws.proofs.Rounds.{round_goes_on}
use Rattle.ice_trial.specs.Rounds.{GoesOnBy, Submits, HaveSubmitted}

-- ---- what a submission leaves as it was

record Keeps (before after : Round) : Type 0 where
  bounds : after.bounds ≡ before.bounds
  sets : after.sets ≡ before.sets
  prices : after.prices ≡ before.prices

keeps_taken : (r : Round) (named : Option ℕ) (s : Submission) → Keeps r (with_taken r named s)
keeps_taken r None s = record { bounds = refl; sets = refl; prices = refl }
keeps_taken r (Some b) s = record { bounds = refl; sets = refl; prices = refl }

keeps_after : (ex : Exchange) (r : Round) (j : Judged) → Keeps r (round_after ex r j)
keeps_after ex r j = by (is_accepted j)
  where
    by : (b : Bool) → Keeps r (cond b (with_taken r (bidder_named ex j.submission.name) j.submission) r)
    by true = keeps_taken r (bidder_named ex j.submission.name) j.submission
    by false = record { bounds = refl; sets = refl; prices = refl }

-- ---- one bid

pub goes_on_one : (before after : RoundAt) (j : Judged)
    → ((judged : List Judged) → IsAfter before.exchange judged before.round → IsNextVerdict before.round.prices before.exchange.settings.improve (bidders_in before.exchange before.round) judged j.submission j.verdict)
    → after ≡ record before { round = round_after before.exchange before.round j } → ((judged : List Judged) → IsAfter before.exchange judged before.round → IsAfter before.exchange (judged ++ j ∷ []) after.round)
    → AllByRecursion IsRecord (judged_records j) → GoesOnBy before after (j ∷ [])
goes_on_one before after j next changed more fits going s last is =
    let here : IsAfter before.exchange last.judged before.round = subst (λ (x : Exchange). IsAfter x last.judged before.round) (sym is.exchange) is.after in
    let kept : Keeps before.round (round_after before.exchange before.round j) = keeps_after before.exchange before.round j in
    let round_is : after.round ≡ round_after before.exchange before.round j = ap (λ (r : RoundAt). r.round) changed in
    subst (IsInRound going s (record last { judged = last.judged ++ j ∷ [] })) (sym changed)
    (round_goes_on going s last before (round_after before.exchange before.round j) j is (next last.judged here) fits kept.bounds kept.sets kept.prices
    (subst (λ (r : Round). IsAfter before.exchange (last.judged ++ j ∷ []) r) round_is (more last.judged here)))

pub goes_on_more : (before mid after : RoundAt) (judged more : List Judged) → GoesOnBy before mid judged → GoesOnBy mid after more → GoesOnBy before after (judged ++ more)
goes_on_more before mid after judged more one other going s last is =
    subst (λ (js : List Judged). IsInRound going s (record last { judged = js }) after) (append_assoc last.judged judged more)
    (other going s (record last { judged = last.judged ++ judged }) (one going s last is))

pub goes_on_none : (r : RoundAt) → GoesOnBy r r []
goes_on_none r going s last is = subst (λ (js : List Judged). IsInRound going s (record last { judged = js }) r) (sym (append-nil last.judged)) is

-- ---- one after another

pub none_submitted : (r : RoundAt) (bids : List Submission) → HaveSubmitted r r bids 0
none_submitted r bids = record { judged = []; bids_are = refl; goes_on = goes_on_none r }

pub one_submitted : (before mid after : RoundAt) (bids : List Submission) (n : ℕ) (bid : Submission) → n < length bids → get_or bids n bid ≡ bid → (j : Judged) → j.submission ≡ bid → GoesOnBy mid after (j ∷ [])
    → HaveSubmitted before mid bids n → HaveSubmitted before after bids (n + 1)
one_submitted before mid after bids n bid there is j same one so_far = record {
  judged = so_far.judged ++ j ∷ [];
  bids_are = map_push (λ (x : Judged). x.submission) so_far.judged j ∙ ap (λ (ss : List Submission). ss ++ j.submission ∷ []) so_far.bids_are
      ∙ ap (λ (x : Submission). take n bids ++ x ∷ []) (same ∙ sym is) ∙ sym (take_more bids n bid there);
  goes_on = goes_on_more before mid after so_far.judged (j ∷ []) so_far.goes_on one;
}

pub all_submitted : (before after : RoundAt) (bids : List Submission) (n : ℕ) → length bids ≤ n → HaveSubmitted before after bids n → Submits before after bids
all_submitted before after bids n all so_far = (so_far.judged, so_far.bids_are ∙ take_all n bids all, so_far.goes_on)
