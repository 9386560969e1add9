-- The journal of a generated session, as far as settlement 0 and the round of the true values.
use Rattle.std.specs.Prelude.{ℕ, List, [], ◌++◌, Option, None, Some}
use Rattle.std.specs.List.{flat_map}
use Rattle.ice_defs.specs.declared.Verdict.TheVariants.{Accepted}
use Rattle.ice_defs.specs.Round.{Submission}
use Rattle.ice_defs.specs.Exchange.{Exchange}
use Rattle.ice_journal.specs.Records.{Record}
use Rattle.ice_journal.specs.Journal.{bytes_of}
use Rattle.ice_journal_laws.specs.Written.{judged_records}
use Rattle.ice_write_session.specs.Records.{opening_records}
use Rattle.ice_session_laws.specs.Written.{begun_records}
use Rattle.ice_trial.specs.declared.trial.TruthRound.{TruthRound}
use Rattle.ice_trial.specs.Rounds.{acceptances}

-- a bid with its acceptance
abbrev pub accepted_text : Submission → List ℕ
accepted_text bid = bytes_of (judged_records (record { submission = bid; verdict = Accepted }))

module _ (ex : Exchange) where
  -- the settlement that opened the round, with its bids, if there was one
  abbrev pub first_records : Option TruthRound → List Record
  first_records None = []
  first_records (Some r) = opening_records ex r.opening ++ flat_map judged_records (acceptances r.bids.items)

  -- the head, the exchange, and that
  abbrev pub trial_records : Option TruthRound → List Record
  trial_records first = begun_records ex ++ first_records first
