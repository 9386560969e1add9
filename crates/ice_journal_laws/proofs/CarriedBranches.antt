-- How many branch steps records have, piece by piece.
use Rattle.std.proofs.Common.{◌≡◌, ◌+◌, List, [], ◌∷◌, ◌++◌, map, refl, ◌∙◌, arith}
use Rattle.std.specs.List.{AllByRecursion}
use Rattle.ice_defs.specs.Steps.{Step, branch, leaf, dead, branch_count}
use Rattle.ice_defs.specs.Trade.{Assignment}
use Rattle.ice_defs.specs.Session.{Proved, Settlement}
use Rattle.ice_journal.specs.Records.{Record}
use Rattle.ice_journal.specs.Records as line
use Rattle.ice_journal_laws.specs.Written.{proved_records, regret_records}
use Rattle.ice_journal_laws.specs.StepsTaken.{branches_in}
use Rattle.ice_journal_laws.proofs.CarriedTaken.{IsNoStep}

pub branches_join : (a b : List Record) → branches_in (a ++ b) ≡ branches_in a + branches_in b
branches_join [] b = omega arith
branches_join (line.step s ∷ a) b = omega (arith, branches_join a b)
branches_join (r ∷ a) b = branches_join a b

pub branches_none : (a : List Record) → AllByRecursion IsNoStep a → branches_in a ≡ 0
branches_none [] h = refl
branches_none (line.step s ∷ a) h = absurd h.0
branches_none (line.near changes ∷ a) h = absurd h.0
branches_none (r ∷ a) h = branches_none a h.1

branches_sets : (sets : Assignment) → branches_in (map line.set sets) ≡ 0
branches_sets [] = refl
branches_sets (x ∷ sets) = branches_sets sets

pub branches_log : (log : List Step) → branches_in (map line.step log) ≡ branch_count log
branches_log [] = refl
branches_log (branch b n ∷ log) = omega (arith, branches_log log)
branches_log (leaf m ∷ log) = omega (arith, branches_log log)
branches_log (dead b ∷ log) = omega (arith, branches_log log)

-- a group has those of its log
pub branches_group : (first : Record) (p : Proved) → branches_in (first ∷ []) ≡ 0 → branches_in (proved_records first p) ≡ branch_count p.log
branches_group first p none =
    branches_join (first ∷ map line.set p.sets) (map line.step p.log)
    ∙ omega (arith, branches_join (first ∷ []) (map line.set p.sets), none, branches_sets p.sets, branches_log p.log)

-- a settlement's groups
pub branches_settlement : (x : Settlement) → branches_in (regret_records x) ≡ branch_count x.final.log + branch_count x.rival.log
branches_settlement x =
    branches_join (proved_records (line.final x.final.value) x.final ++ proved_records (line.rival x.rival.value) x.rival) (line.regret x.regret ∷ [])
    ∙ omega (arith, branches_join (proved_records (line.final x.final.value) x.final) (proved_records (line.rival x.rival.value) x.rival), branches_group (line.final x.final.value) x.final refl, branches_group (line.rival x.rival.value) x.rival refl)
