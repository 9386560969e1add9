-- Logs that are walked step by step.
use Rattle.std.proofs.Common.{Bool, List, [], ◌∷◌, ◌++◌, ℤ, sym, subst}
use Rattle.std.proofs.lemmas.List.{append_assoc, append-nil}
use Rattle.ice_defs.specs.Tree.{Tree}
use Rattle.ice_defs.specs.Set.{Weights}
use Rattle.ice_defs.specs.Derived.{Means}
use Rattle.ice_defs.specs.Steps.{Step, Side, sides_after}
use Rattle.ice_refute.proofs.Reading.{Stands, stands_at_start, stands_more, stands_closed}
use Rattle.ice_derivation.specs.Walks.{IsWalked, at_start, one_more}
use Rattle.ice_derivation.specs.Laws.{WalkedPasses}

module _ (means : Means) (ts : List Tree) (exact : List Bool) (ws : List Weights) (target : ℤ) (start : Side) where
  -- whatever steps follow, the open sides are left to them
  stands : {log : List Step} {sides : List Side} → IsWalked means ts exact ws target start log sides → (rest : List Step)
      → Stands means ts exact ws target start (log ++ rest) sides rest
  stands at_start rest = stands_at_start means ts exact ws target start rest
  stands (one_more {log = log} {side = side} {sides = sides} x walked passes) rest =
      subst (λ (l : List Step). Stands means ts exact ws target start l (sides_after (side ∷ sides) x) rest) (sym (append_assoc log (x ∷ []) rest))
      (stands_more means ts exact ws target start (log ++ x ∷ rest) side sides x rest passes (stands walked (x ∷ rest)))

pub walked_passes : WalkedPasses
walked_passes means ts exact ws target start log walked =
    let closed = stands means ts exact ws target start walked [] in
    stands_closed means ts exact ws target start log (subst (λ (l : List Step). Stands means ts exact ws target start l [] []) (append-nil log) closed)
