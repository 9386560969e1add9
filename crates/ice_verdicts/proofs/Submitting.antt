-- What a submission makes of a round, by the bidder that is found under its name.
use Rattle.std.proofs.Common.{ℕ, ◌≡◌, List, [], ◌∷◌, ◌++◌, Bool, true, false, cond, Option, Some, None, refl, sym, ◌∙◌, ap, subst}
use Rattle.ice_defs.specs.declared.Verdict.{Verdict}
use Rattle.ice_defs.specs.Trade.{Assignment}
use Rattle.ice_defs.specs.Bounds.{Bounds}
use Rattle.ice_defs.specs.Prices.{Prices}
use Rattle.ice_defs.specs.Round.{Submission, Judged, is_acceptance, is_accepted, IsNextVerdict}
use Rattle.ice_defs.specs.Exchange.{Exchange}
use Rattle.ice_defs.specs.Lawful.{IsExchange}
use Rattle.ice_verdicts.specs.Judges.{Round, IsRoundOf, bidders_in, bidder_named, with_taken, IsVerdictOf, IsVerdictIn, round_after, IsAfter}
use Rattle.ice_verdicts.proofs.Leading.{verdict_is_next, round_goes_on}

-- ---- what it leaves as it is

pub record Asked : Type 0 where
  pub bounds : List Bounds
  pub sets : Assignment
  pub prices : Prices

abbrev pub asked_in : Round → Asked
asked_in r = record { bounds = r.bounds; sets = r.sets; prices = r.prices }

taken_asked : (r : Round) (found : Option ℕ) (s : Submission) → asked_in (with_taken r found s) ≡ asked_in r
taken_asked r None s = refl
taken_asked r (Some b) s = refl

pub after_asked : (ex : Exchange) (r : Round) (j : Judged) → asked_in (round_after ex r j) ≡ asked_in r
after_asked ex r j = by (is_accepted j)
  where
    by : (t : Bool) → asked_in (cond t (with_taken r (bidder_named ex j.submission.name) j.submission) r) ≡ asked_in r
    by true = taken_asked r (bidder_named ex j.submission.name) j.submission
    by false = refl

-- ---- what it changes

module _ (ex : Exchange) (r : Round) (s : Submission) (verdict : Verdict) (found : Option ℕ) (named : bidder_named ex s.name ≡ found) (gives : IsVerdictOf ex r found s verdict) where
  pub verdict_in : IsVerdictIn ex r s verdict
  verdict_in = let P : Option ℕ → Type 0 = λ f. IsVerdictOf ex r f s verdict in subst P (sym named) gives

  abbrev judged_so : Judged
  judged_so = record { submission = s; verdict = verdict }

  module _ (after : Round) (taken : after ≡ cond (is_acceptance verdict) (with_taken r found s) r) where
    pub changed_in : after ≡ round_after ex r judged_so
    changed_in = taken ∙ ap (λ (f : Option ℕ). cond (is_acceptance verdict) (with_taken r f s) r) (sym named)

    module _ (lawful : IsExchange ex) (is : IsRoundOf ex r) (judged : List Judged) (leads : IsAfter ex judged r) where
      pub next_in : IsNextVerdict r.prices ex.settings.improve (bidders_in ex r) judged s verdict
      next_in = verdict_is_next ex r judged s verdict lawful is leads verdict_in

      pub after_in : IsAfter ex (judged ++ judged_so ∷ []) after
      after_in = subst (IsAfter ex (judged ++ judged_so ∷ [])) (sym changed_in) (round_goes_on ex r judged judged_so lawful is leads verdict_in)
