-- What a session holds, and what is kept of it between rounds.
use Rattle.std.specs.Prelude.{◌≤◌}
use Rattle.ice_verdicts.specs.Judges.{IsRoundOf}
use Rattle.ice_round.specs.SessionAt.{SessionAt, RoundAt, IsFresh}
use Rattle.ice_round.specs.declared.session.Session.{Session}

-- as it is seen between rounds
abbrev pub session_at : Session → SessionAt
session_at s = record { exchange = s.exchange; bounds = s.judge.bounds; number = s.number; branches = s.branches }

-- as it is seen in a round
abbrev pub round_at : Session → RoundAt
round_at s = record { exchange = s.exchange; number = s.number; branches = s.branches; round = s.judge }

-- between rounds: no submission came yet, and no limit is passed
pub record IsKept (s : Session) : Type 0 where
  pub round : IsRoundOf s.exchange s.judge
  pub fresh : IsFresh s.exchange s.judge
  pub number : s.number ≤ s.exchange.settings.rounds
  pub branches : s.branches ≤ 50000
