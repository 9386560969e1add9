-- The submissions of a session's journal, as far as it is written, are those of proxies.
use Rattle.std.specs.Prelude.{ℕ, zero, suc, ◌≡◌, List, [], ◌∷◌, length, slice_get, Some, IfSome, ℤ}
use Rattle.ice_defs.specs.Round.{Submission, Standing}
use Rattle.ice_defs.specs.Session.{standings}
use Rattle.ice_journal.specs.Records.{Record}
use Rattle.ice_journal_laws.specs.Fields.{submission_in, settlement_in}
use Rattle.ice_journal_laws.specs.State.{State, exchange_at, settings_at, trees_at}
use Rattle.ice_journal_laws.specs.Next.{next}
use Rattle.ice_proxy.specs.Proposals.{IsProxyBid}

-- the submission that comes next in a round is the proxy bid of the next bidder
abbrev pub IsNextProxy : State → List (List ℤ) → Submission → Type 0
IsNextProxy s truths x =
    (b : Standing) × (truth : List ℤ) × (slice_get (standings (exchange_at s) s.bounds s.offered) (length s.judged) ≡ Some b)
    × (slice_get truths (length s.judged) ≡ Some truth) × IsProxyBid s.prices (settings_at s).improve b truth x

-- a settlement after the first one follows a round with a submission of every bidder
abbrev pub HasWholeRound : State → ℕ → Type 0
HasWholeRound s zero = Unit {0}
HasWholeRound s (suc number) = length s.judged ≡ length (trees_at s)

abbrev pub SubmitsRecord : State → List (List ℤ) → Record → Type 0
SubmitsRecord s truths r = IfSome (submission_in r) (IsNextProxy s truths) × IfSome (settlement_in r) (HasWholeRound s)

-- the submissions of a session are proxy bids, as far as they are written
abbrev pub SubmitsProxies : State → List (List ℤ) → List Record → Type 0
SubmitsProxies s truths [] = Unit {0}
SubmitsProxies s truths (r ∷ rest) = SubmitsRecord s truths r × ((after : State) → next s r ≡ Some after → SubmitsProxies after truths rest)
