-- The steps of a log, one after another.
use Rattle.std.proofs.Common.{◌≡◌, ◌∙◌, ap, sym, ℕ, suc, ◌+◌, ◌<◌, List, ◌++◌, length, drop, get_or, arith, add-one, drop-cons}
use Rattle.std.proofs.lemmas.List.{length-map, get_or-map}
use Rattle.std.proofs.lemmas.List.Concat.{flat_map-cons}
use Rattle.ice_defs.specs.Bound.{Multipliers}
use Rattle.ice_defs.specs.Steps.{Step}
use Rattle.ice_refute.specs.Code.{step_of, steps_of}
use Rattle.ice_refute.specs.declared.step.Step as code
use Rattle.ice_journal.specs.Records.{version_2}
use Rattle.ice_journal.specs.Spelling.{line_of}
use Rattle.ice_journal.specs.Journal.{bytes_of}
use Rattle.ice_journal_laws.specs.Fields.{multipliers_after}
use Rattle.ice_journal_laws.specs.Showing.{step_record, step_records}

pub step_opens : (log : List Step) (i : ℕ) (x : Step) (m : Multipliers) → i < length log → get_or log i x ≡ x
    → bytes_of (step_records version_2 m (drop i log)) ≡ line_of (step_record version_2 m x) ++ bytes_of (step_records version_2 (multipliers_after m x) (drop (i + 1) log))
step_opens log i x m there is =
    rw (drop-cons log i x there, is, add-one i) (flat_map-cons line_of (step_record version_2 m x) (step_records version_2 (multipliers_after m x) (drop (suc i) log)))

-- a step of the code stands in the log
pub step_there : (log : List Step) (items : List code.Step) (i : ℕ) (item : code.Step) → steps_of items ≡ log → i < length items → item ≡ get_or items i item → get_or log i (step_of item) ≡ step_of item
step_there log items i item are there is = ap (λ (l : List Step). get_or l i (step_of item)) (sym are) ∙ get_or-map step_of items i item (step_of item) there ∙ ap step_of (sym is)

pub step_inside : (log : List Step) (items : List code.Step) (i : ℕ) → steps_of items ≡ log → i < length items → i < length log
step_inside log items i are there = omega (arith, there, length-map items step_of, ap (λ (l : List Step). length l) are)
