-- Reading the open sides one after another.
use Rattle.std.proofs.Common.{ℕ, ◌<◌, ◌≡◌, Bool, List, [], ◌∷◌, length, drop, Result, Ok, Err, ℤ, inl, inr, arith, ap, sym, subst, length-drop}
use Rattle.ice_defs.specs.declared.Mark.TheVariants.{Must, Never}
use Rattle.ice_defs.specs.Tree.{Tree}
use Rattle.ice_defs.specs.Set.{Weights}
use Rattle.ice_defs.specs.Bound.{Multipliers}
use Rattle.ice_defs.specs.Derived.{Means}
use Rattle.ice_defs.specs.Steps.{Step, branch, leaf, dead, Side, with_mark, sides_after}
use Rattle.ice_defs.specs.Log.{IsFreeNode, Fault, short, ReadsBy, ends, branches, stops, is_fixed, has_sign, is_dead_leaf, closes, is_above, is_dead, is_alive, PassesBy}
use Rattle.ice_refute.specs.declared.fault.LogFault.{LogFault}
use Rattle.ice_refute.specs.declared.fault.LogFault.TheVariants as faults
use Rattle.ice_refute.specs.Passing.{PassesAtBy, HasFaultBy}
use Rattle.ice_refute.specs.declared.fault.StepFault.{StepFault}
use Rattle.ice_refute.specs.declared.fault.StepFault.TheVariants.{Fixed, Sign, Above, NotDead}
use Rattle.ice_refute.specs.Faults.{fault_at, IsLogFault}
use Rattle.ice_refute.proofs.Same.{Reads-same}

module _ (means : Means) (ts : List Tree) (exact : List Bool) (ws : List Weights) (target : ℤ) where
  pub data ReadsAll : List Side → List Step → Result (List Step) Fault → Type 0 where
    all_read : {log : List Step} → ReadsAll [] log (Ok log)
    first_read : {side : Side} {sides : List Side} {log left : List Step} {end : Result (List Step) Fault}
        → ReadsBy means ts exact ws target side log (Ok left) → ReadsAll sides left end → ReadsAll (side ∷ sides) log end
    first_fault : {side : Side} {sides : List Side} {log : List Step} {fault : Fault}
        → ReadsBy means ts exact ws target side log (Err fault) → ReadsAll (side ∷ sides) log (Err fault)

  -- a branch puts two sides in the place of one
  ReadsAll-branch : {side : Side} {b n : ℕ} {sides : List Side} {rest : List Step} {end : Result (List Step) Fault} → IsFreeNode ts side b n
      → ReadsAll (with_mark side b n Must ∷ with_mark side b n Never ∷ sides) rest end → ReadsAll (side ∷ sides) (branch b n ∷ rest) end
  ReadsAll-branch free (first_read must (first_read never more)) = first_read (branches free must never) more
  ReadsAll-branch free (first_read must (first_fault never)) = first_fault (branches free must never)
  ReadsAll-branch free (first_fault must) = first_fault (stops free must)

  -- at the end the one side is read
  Reads-from_all : {side : Side} {log : List Step} {end : Result (List Step) Fault} → ReadsAll (side ∷ []) log end → ReadsBy means ts exact ws target side log end
  Reads-from_all (first_read is all_read) = is
  Reads-from_all (first_fault is) = is

  -- whatever the rest gives at the open sides, the whole log gives at its start
  pub record Stands (start : Side) (log : List Step) (sides : List Side) (rest : List Step) : Type 0 where
    pub whole : (end : Result (List Step) Fault) → ReadsAll sides rest end → ReadsBy means ts exact ws target start log end

  pub stands_at_start : (start : Side) (log : List Step) → Stands start log (start ∷ []) log
  stands_at_start start log = record { whole = λ end all. Reads-from_all all }

  leaf_reads : (side : Side) (m : Multipliers) (rest : List Step) → PassesAtBy means ts exact ws target side (leaf m) → ReadsBy means ts exact ws target side (leaf m ∷ rest) (Ok rest)
  leaf_reads side m rest (signs, inl none) = is_dead_leaf signs none
  leaf_reads side m rest (signs, inr bound) = closes signs bound.1 bound.2

  -- a step that passes
  pub stands_more : (start : Side) (log : List Step) (side : Side) (sides : List Side) (step : Step) (rest : List Step) → PassesAtBy means ts exact ws target side step
      → Stands start log (side ∷ sides) (step ∷ rest) → Stands start log (sides_after (side ∷ sides) step) rest
  stands_more start log side sides (branch b n) rest passes is = record { whole = λ end all. is.whole end (ReadsAll-branch passes all) }
  stands_more start log side sides (leaf m) rest passes is = record { whole = λ end all. is.whole end (first_read (leaf_reads side m rest passes) all) }
  stands_more start log side sides (dead b) rest passes is = record { whole = λ end all. is.whole end (first_read (is_dead passes) all) }

  fault_reads : (side : Side) (step : Step) (rest : List Step) (fault : StepFault) → HasFaultBy means ts exact ws target side step fault
      → ReadsBy means ts exact ws target side (step ∷ rest) (Err (fault_at (step ∷ rest) fault))
  fault_reads side (branch b n) rest Fixed none = is_fixed none
  fault_reads side (leaf m) rest Sign wrong = has_sign wrong
  fault_reads side (leaf m) rest (Above v) (signs, bound, large) = is_above signs bound large
  fault_reads side (dead b) rest NotDead none = is_alive none
  fault_reads side step rest other h = absurd h

  -- a step at fault
  pub stands_fault : (start : Side) (log : List Step) (side : Side) (sides : List Side) (step : Step) (rest : List Step) (fault : StepFault) (k : ℕ) → k < length log
      → drop k log ≡ step ∷ rest → HasFaultBy means ts exact ws target side step fault → Stands start log (side ∷ sides) (step ∷ rest)
      → IsLogFault means ts exact ws target start log (faults.At k fault)
  stands_fault start log side sides step rest fault k l e has is =
      (l, subst (λ r. ReadsBy means ts exact ws target start log (Err (fault_at r fault))) (sym e) (is.whole (Err (fault_at (step ∷ rest) fault)) (first_fault (fault_reads side step rest fault has))))

  -- a step behind the last side
  pub stands_long : (start : Side) (log : List Step) (k : ℕ) → k < length log → Stands start log [] (drop k log) → IsLogFault means ts exact ws target start log (faults.Long k)
  stands_long start log k l is = (l, is.whole (Ok (drop k log)) all_read)

  -- the steps end
  pub stands_short : (start : Side) (log : List Step) (side : Side) (sides : List Side) → Stands start log (side ∷ sides) [] → IsLogFault means ts exact ws target start log faults.Short
  stands_short start log side sides is = is.whole (Err short) (first_fault ends)

  pub stands_closed : (start : Side) (log : List Step) → Stands start log [] [] → PassesBy means ts exact ws target start log
  stands_closed start log is = is.whole (Ok []) all_read

  -- a log with a fault doesn't pass
  pub fault_fails : (start : Side) (log : List Step) (fault : LogFault) → IsLogFault means ts exact ws target start log fault → ¬ PassesBy means ts exact ws target start log
  fault_fails start log (faults.At k fault) is passes = let e = Reads-same means ts exact ws target is.1 passes in cc
  fault_fails start log faults.Short is passes = let e = Reads-same means ts exact ws target is passes in cc
  fault_fails start log (faults.Long k) is passes =
      let e = Reads-same means ts exact ws target is.1 passes in
      let none : drop k log ≡ [] = cc in
      let there : k < length log = is.0 in
      omega (arith, there, length-drop k log, ap length none)
