-- Bounds stay bounds of the bidders' trees, round after round.
use Rattle.std.proofs.Common.{ℕ, suc, List, [], ◌∷◌, length, ◌∙◌}
use Rattle.std.proofs.lemmas.List.{length-map}
use Rattle.ice_defs.specs.Bounds.{Bounds}
use Rattle.ice_defs.specs.Exchange.{Exchange, opening_bounds}
use Rattle.ice_defs.specs.Session.{Going, Closed}
use Rattle.ice_headline_laws.specs.Right.{IsRightFrom, bounds_after_round, bounds_after_rounds}
use Rattle.ice_round_laws.specs.Keeping.{HaveBounds}
use Rattle.ice_round_laws.proofs.Keeping.{rounds_keep_bounds, opening_have_bounds}
use Rattle.ice_headline_laws.specs.Promises.{FinalBoundsAreBounds}

after_rounds : (ex : Exchange) (number : ℕ) (bounds : List Bounds) (going : List Going) (c : Closed) → HaveBounds ex.bidders bounds → IsRightFrom ex number bounds going c → HaveBounds ex.bidders (bounds_after_rounds ex bounds going)
after_rounds ex number bounds [] c are is = are
after_rounds ex number bounds (g ∷ later) c are (fails, right, rest) =
    after_rounds ex (suc number) (bounds_after_round ex bounds g) later c
    (rounds_keep_bounds g.prices ex.settings.improve g.judged ex.bidders bounds g.provisional.sets (right.provisional.feasible.same_length ∙ length-map ex.bidders _) are right.round) rest

-- ---- from the opening on

pub final_bounds_are_bounds : FinalBoundsAreBounds
final_bounds_are_bounds s right =
    after_rounds s.exchange 0 (opening_bounds s.exchange) s.going s.closed (opening_have_bounds (length s.exchange.goods) s.exchange.bidders right.exchange.bidders) right.settlements
