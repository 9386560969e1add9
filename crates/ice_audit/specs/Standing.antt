-- What the audit keeps of a statement, and the states of its definition that it stands for.
use Rattle.std.specs.Prelude.{ℕ, ◌<◌, ◌≡◌, Bool, true, false, List, [], ◌∷◌, ◌++◌, length, slice_index_or, Option, Some, None}
use Rattle.std.specs.List.{list_any}
use Rattle.ice_defs.specs.declared.Verdict.{Verdict}
use Rattle.ice_defs.specs.Tree.{Tree}
use Rattle.ice_defs.specs.Trade.{tree_of, set_of}
use Rattle.ice_defs.specs.Bounds.{Bounds, bounds_of}
use Rattle.ice_defs.specs.Round.{Submission, Judged, is_accepted, IsVerdict, bounds_after}
use Rattle.ice_defs.specs.Fraction.{Fraction}
use Rattle.ice_defs.specs.Exchange.{Exchange, trees_of, names_of}
use Rattle.ice_frac.specs.Lowest.{IsLowest}
use Rattle.ice_journal.specs.Lines.{fraction_of}
use Rattle.ice_section.specs.Section.{exchange_in}
use Rattle.ice_verdicts.specs.Judges.{Round, IsRoundOf, is_marked}
use Rattle.ice_statement_laws.specs.Audit.{at_regret, at_kept, at_offered, at_prices, at_round, at_verdict}
use Rattle.ice_statement_laws.specs.Audit.{at_threshold, at_payment, at_end, done}
use Rattle.ice_statement_laws.specs.Audit.{AuditState, settings_at, standing_at}
use Rattle.ice_audit.specs.declared.next.Next.{Next}
use Rattle.ice_audit.specs.declared.next.Next.TheVariants as next
use Rattle.ice_audit.specs.declared.settlements.Settlements.{Settlements}

-- the tree and the name of the one bidder
abbrev pub own_tree : Exchange → Tree
own_tree ex = tree_of (trees_of ex) 0

abbrev pub own_name : Exchange → List ℕ
own_name ex = slice_index_or (names_of ex) 0 []

-- ---- what is kept by itself

-- a final set is one of the tree, a cut's denominator isn't 0, and a payment is in lowest terms
abbrev pub IsFit : Settlements → Next → Type 0
IsFit x next.Threshold = length x.kept ≡ length (own_tree x.exchange)
IsFit x (next.Payment cut) = (length x.kept ≡ length (own_tree x.exchange)) × (0 < cut.den)
IsFit x (next.End payment) = IsLowest (fraction_of payment)
IsFit x (next.Nothing payment) = IsLowest (fraction_of payment)
IsFit x other = Unit {0}

-- the round of an exchange with one bidder
pub record IsKept (x : Settlements) : Type 0 where
  pub one : length x.exchange.bidders ≡ 1
  pub round : IsRoundOf x.exchange x.judge
  pub count : length x.offered ≡ 1
  pub nodes : length (set_of x.offered 0) ≡ length (own_tree x.exchange)
  pub fit : IsFit x x.next

-- ---- the states that it stands for

-- these submissions of the round were judged
pub record HasJudged (r : Round) (bounds : Bounds) (judged : List Judged) : Type 0 where
  pub marked : is_marked r 0 ≡ list_any is_accepted judged
  pub after : bounds_of r.next 0 ≡ bounds_after bounds judged

-- a submission came, and this verdict is due
pub record Awaits (r : Round) (due : Verdict) (s : AuditState) : Type 0 where
  pub submission : Submission
  pub spot : s.spot ≡ at_verdict submission
  pub due_is : IsVerdict s.prices (settings_at s).improve (standing_at s) (list_any is_accepted s.judged) submission due
  pub after : HasJudged r s.bounds (s.judged ++ record { submission = submission; verdict = due } ∷ [])

abbrev pub IsAt : Settlements → Next → AuditState → Type 0
IsAt x next.Regret s = (s.spot ≡ at_regret) × HasJudged x.judge s.bounds s.judged
IsAt x (next.Kept regret) s = (s.spot ≡ at_kept) × (s.regret ≡ regret) × HasJudged x.judge s.bounds s.judged
IsAt x next.Offered s = (s.spot ≡ at_offered) × HasJudged x.judge s.bounds s.judged
IsAt x next.Prices s = (s.spot ≡ at_prices) × (s.offered ≡ set_of x.judge.sets 0) × HasJudged x.judge s.bounds s.judged
IsAt x next.Round s =
    (s.spot ≡ at_round) × (s.offered ≡ set_of x.judge.sets 0) × (s.prices ≡ x.judge.prices)
    × HasJudged x.judge s.bounds s.judged
IsAt x (next.Verdict due) s = Awaits x.judge due s × (s.offered ≡ set_of x.judge.sets 0) × (s.prices ≡ x.judge.prices)
IsAt x next.Threshold s = (s.spot ≡ at_threshold) × (s.kept ≡ x.kept)
IsAt x (next.Payment cut) s = (s.spot ≡ at_payment) × (s.kept ≡ x.kept) × (s.cut ≡ fraction_of cut)
IsAt x (next.End payment) s = s.spot ≡ at_end
IsAt x (next.Nothing payment) s = s.spot ≡ done

pub record Stands (x : Settlements) (s : AuditState) : Type 0 where
  pub exchange : exchange_in s.section ≡ x.exchange
  pub named : s.name ≡ own_name x.exchange
  pub bounds : s.bounds ≡ bounds_of x.judge.bounds 0
  pub number : s.number ≡ x.number
  pub at : IsAt x x.next s

-- what comes next behind a final set, where the session closes or not
abbrev pub behind_kept : Bool → Next
behind_kept true = next.Threshold
behind_kept false = next.Offered

-- the payment that came
abbrev pub paid_of : Next → Option Fraction
paid_of (next.End payment) = Some (fraction_of payment)
paid_of (next.Nothing payment) = Some (fraction_of payment)
paid_of other = None

-- it, where nothing comes next
abbrev pub payment_at_end : Next → Option Fraction
payment_at_end (next.Nothing payment) = Some (fraction_of payment)
payment_at_end other = None
