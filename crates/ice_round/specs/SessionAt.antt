-- Where a session stands, between rounds and in one.
use Rattle.std.specs.Prelude.{ℕ, suc, ◌<◌, ◌≤◌, ◌≡◌, false, List, length, replicate}
use Rattle.ice_defs.specs.Bounds.{Bounds}
use Rattle.ice_defs.specs.Exchange.{Exchange, trees_of}
use Rattle.ice_defs.specs.Conditions.{AreBoundsOf}
use Rattle.ice_verdicts.specs.Judges.{Round, IsRoundOf}

-- the exchange, the bidders' bounds, the settlement that comes next, and the branches left for it
-- and those after it
pub record SessionAt : Type 0 where
  pub exchange : Exchange
  pub bounds : List Bounds
  pub number : ℕ
  pub branches : ℕ

-- the bounds are of the bidders' trees, and no limit is passed
pub record IsSessionAt (s : SessionAt) : Type 0 where
  pub bounds : AreBoundsOf (trees_of s.exchange) s.bounds
  pub number : s.number ≤ s.exchange.settings.rounds
  pub branches : s.branches ≤ 50000

-- the exchange, the settlement that opened the round, the branches left, and the round
pub record RoundAt : Type 0 where
  pub exchange : Exchange
  pub number : ℕ
  pub branches : ℕ
  pub round : Round

-- a further settlement may come
pub record IsRoundAt (r : RoundAt) : Type 0 where
  pub round : IsRoundOf r.exchange r.round
  pub number : r.number < r.exchange.settings.rounds
  pub branches : r.branches ≤ 50000

-- the session after the round
abbrev pub session_after : RoundAt → SessionAt
session_after r = record { exchange = r.exchange; bounds = r.round.next; number = suc r.number; branches = r.branches }

-- no bounds are changed, and no bidder is marked
pub record IsFresh (ex : Exchange) (r : Round) : Type 0 where
  pub next : r.next ≡ r.bounds
  pub marks : r.marks ≡ replicate (length ex.bidders) false
