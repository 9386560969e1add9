-- The round of a trial: bids that are submitted one after another.
use Rattle.std.specs.Prelude.{ℕ, ◌≡◌, List, [], ◌∷◌, ◌++◌, length, map, take, Option, Some, None}
use Rattle.ice_defs.specs.declared.Verdict.TheVariants.{Accepted}
use Rattle.ice_defs.specs.Bounds.{Bounds}
use Rattle.ice_defs.specs.Round.{Submission, Judged}
use Rattle.ice_defs.specs.Exchange.{Exchange, exact_of, names_of}
use Rattle.ice_defs.specs.Session.{Going}
use Rattle.ice_round.specs.SessionAt.{SessionAt, RoundAt}
use Rattle.ice_settled.specs.Shown.{going_of}
use Rattle.ice_write_session.specs.Writable.{IsWritableOpening}
use Rattle.ice_session_laws.specs.Running.{IsRunning, IsInRound}
use Rattle.ice_trial.specs.Truths.{AreExact, truth_bids}
use Rattle.ice_trial.specs.declared.trial.TruthRound.{TruthRound}

-- ---- bids one after another

abbrev pub submissions_in : List Judged → List Submission
submissions_in judged = map (λ j. j.submission) judged

-- with these judged submissions the round goes on
abbrev pub GoesOnBy : RoundAt → RoundAt → List Judged → Type 0
GoesOnBy before after judged =
    (going : List Going) (s : SessionAt) (last : Going) → IsInRound going s last before
    → IsInRound going s (record last { judged = last.judged ++ judged }) after

-- and they are these bids in their order
abbrev pub Submits : RoundAt → RoundAt → List Submission → Type 0
Submits before after bids = (judged : List Judged) × (submissions_in judged ≡ bids) × GoesOnBy before after judged

-- the first of these bids are submitted
pub record HaveSubmitted (before after : RoundAt) (bids : List Submission) (count : ℕ) : Type 0 where
  pub judged : List Judged
  pub bids_are : submissions_in judged ≡ take count bids
  pub goes_on : GoesOnBy before after judged

-- ---- a round of true values

abbrev pub acceptances : List Submission → List Judged
acceptances bids = map (λ bid. record { submission = bid; verdict = Accepted }) bids

-- the settlement that opened it, with all its bids accepted
abbrev pub goings_of : Option TruthRound → List Going
goings_of None = []
goings_of (Some r) = going_of r.opening (acceptances r.bids.items) ∷ []

-- settlement 0 opened it, its bids are those of the true values, and its opening may be written
pub record IsTruthRound (ex : Exchange) (truths : List Bounds) (r : TruthRound) : Type 0 where
  pub number : r.opening.number ≡ 0
  pub bids : r.bids.items ≡ truth_bids (names_of ex) truths
  pub writable : IsWritableOpening (length (exact_of ex)) r.opening

-- the session behind it, whose bounds are the true values
pub record IsTold (s : SessionAt) (r : TruthRound) : Type 0 where
  pub running : IsRunning (goings_of (Some r)) s
  pub round : IsTruthRound s.exchange s.bounds r
  pub exact : AreExact s.bounds
