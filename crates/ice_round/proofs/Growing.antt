-- What the market is worth without each bidder, one more at a time.
use Rattle.std.proofs.Common.{ℕ, suc, ◌+◌, List, [], ◌∷◌, ◌++◌, length, subst, arith}
use Rattle.ice_vickrey.specs.Economy.{Economy}
use Rattle.ice_vickrey.specs.Marginals.{IsMarginalOf, AreMarginalsFrom}
use Rattle.ice_vickrey.specs.declared.marginal.Marginal.{Marginal}

pub marginals_push : (e : Economy) (b : ℕ) (ms : List Marginal) (m : Marginal) → AreMarginalsFrom e b ms → IsMarginalOf e (b + length ms) m → AreMarginalsFrom e b (ms ++ m ∷ [])
marginals_push e b [] m are is = (subst (λ n. IsMarginalOf e n m) (omega arith) is, tt)
marginals_push e b (first ∷ ms) m are is = (are.0, marginals_push e (suc b) ms m are.1 (subst (λ n. IsMarginalOf e n m) (omega arith) is))
