-- Laws of replays.
use Rattle.std.specs.Prelude.{ℕ, ◌≡◌, ◌≢◌, List, Result, Ok, Err}
use Rattle.ice_reading.specs.Ends.{in_want}
use Rattle.ice_replay.specs.declared.settlement.Replay.{Replay}
use Rattle.ice_replay.specs.declared.settlement.ReplayEnd.{ReplayEnd}
use Rattle.ice_replay.specs.declared.settlement.ReplayEnd.TheVariants.{Journal}
use Rattle.ice_replay.specs.Replays.{names_in, bounds_in, ReplaysBytes}

-- two replays say the same
pub record SaySame (one other : Replay) : Type 0 where
  pub number : one.number ≡ other.number
  pub names : names_in one.bidders.items ≡ names_in other.bidders.items
  pub bounds : bounds_in one.bidders.items ≡ bounds_in other.bidders.items
  pub final : one.final_value ≡ other.final_value
  pub regret : one.regret ≡ other.regret
  pub prices : one.prices ≡ other.prices

-- so do two answers: both are such replays, or the same reason why there is none
abbrev pub AnswerTheSame : Result Replay ReplayEnd → Result Replay ReplayEnd → Type 0
AnswerTheSame (Ok one) (Ok other) = SaySame one other
AnswerTheSame (Err one) (Err other) = one ≡ other
AnswerTheSame one other = ⊥

-- but for want of memory, bytes have one replay of a settlement, or one reason why there is none
abbrev pub OneReplayAnswer : Type 0
OneReplayAnswer =
    (bytes : List ℕ) (number : ℕ) (one other : Result Replay ReplayEnd) → ReplaysBytes bytes number one → ReplaysBytes bytes number other
    → one ≢ Err (Journal in_want) → other ≢ Err (Journal in_want) → AnswerTheSame one other
