-- Laws of what is known of a round, as statements.
use Rattle.std.specs.Prelude.{◌≡◌, false, List, [], ◌∷◌, ◌++◌, length, replicate}
use Rattle.ice_defs.specs.declared.Verdict.{Verdict}
use Rattle.ice_defs.specs.Round.{Submission, Judged, IsNextVerdict}
use Rattle.ice_defs.specs.Exchange.{Exchange}
use Rattle.ice_defs.specs.Lawful.{IsExchange}
use Rattle.ice_verdicts.specs.Judges.{Round, IsRoundOf, bidders_in, IsVerdictIn, round_after, IsAfter}

-- where no bounds are changed and no bidder is marked, no submission came yet
abbrev pub RoundBegins : Type 0
RoundBegins = (ex : Exchange) (r : Round) → IsRoundOf ex r → r.next ≡ r.bounds → r.marks ≡ replicate (length ex.bidders) false
    → IsAfter ex [] r

-- the verdict by what is known is the next one
abbrev pub VerdictIsNext : Type 0
VerdictIsNext = (ex : Exchange) (r : Round) (judged : List Judged) (s : Submission) (verdict : Verdict)
    → IsExchange ex → IsRoundOf ex r → IsAfter ex judged r → IsVerdictIn ex r s verdict
    → IsNextVerdict r.prices ex.settings.improve (bidders_in ex r) judged s verdict

-- and what it changes leads on
abbrev pub RoundGoesOn : Type 0
RoundGoesOn = (ex : Exchange) (r : Round) (judged : List Judged) (j : Judged)
    → IsExchange ex → IsRoundOf ex r → IsAfter ex judged r → IsVerdictIn ex r j.submission j.verdict
    → IsAfter ex (judged ++ j ∷ []) (round_after ex r j)
