-- What a leaf changes, good by good, and that it may stand in a record.
use Rattle.std.proofs.Common.{◌≡◌, ◌≢◌, ℕ, suc, ◌+◌, ◌<◌, ◌≤◌, Bool, true, false, ◌&&◌, cond, List, [], ◌∷◌, length, drop, get_or, ℤ, pos, refl, arith, add-one, drop-cons}
use Rattle.std.specs.Prelude.{int_le}
use Rattle.std.specs.List.{AllByRecursion}
use Rattle.std.proofs.lemmas.Int.{ints}
use Rattle.ice_defs.specs.Bound.{Multipliers}
use Rattle.ice_defs.specs.Steps.{Step, branch, leaf, dead}
use Rattle.ice_refute.specs.Code.{CountsGoods}
use Rattle.ice_journal.specs.Records.{version_2, Change}
use Rattle.ice_journal.specs.Ranges.{IsMultiplier, Ascends, IsChange, IsStepRecord, IsRecord}
use Rattle.ice_journal.specs.Plain.{changes_from}
use Rattle.ice_journal_laws.specs.Showing.{step_record}

differs : (a b : ℤ) (t : Bool) → (int_le a b && int_le b a) ≡ t → a ≢ b → t ≡ false
differs a b t e ne = grind (arith, ints)

module _ (old new : Multipliers) (g : ℕ) (there : g < length old) (also : g < length new) where
  abbrev later : List Change
  later = changes_from (g + 1) (drop (g + 1) old) (drop (g + 1) new)

  opened : changes_from g (drop g old) (drop g new) ≡ cond (int_le (get_or old g (pos 0)) (get_or new g (pos 0)) && int_le (get_or new g (pos 0)) (get_or old g (pos 0))) (changes_from (g + 1) (drop (g + 1) old) (drop (g + 1) new)) (record { good = g; multiplier = get_or new g (pos 0) } ∷ changes_from (g + 1) (drop (g + 1) old) (drop (g + 1) new))
  opened = rw (drop-cons old g (pos 0) there, drop-cons new g (pos 0) also, add-one g) refl

-- ---- in a record

ascends_lower : (g : ℕ) (cs : List Change) → Ascends (suc g) cs → Ascends g cs
ascends_lower g [] h = tt
ascends_lower g (c ∷ cs) h = (omega (arith, h.0), h.1)

abbrev pub FitFrom : ℕ → List Change → Type 0
FitFrom g cs = (g + length cs ≤ 32) × Ascends g cs × AllByRecursion IsChange cs

fit_more : (t : Bool) (g : ℕ) (b : ℤ) (cs : List Change) → g ≤ 31 → IsMultiplier b → FitFrom (suc g) cs → FitFrom g (cond t cs (record { good = g; multiplier = b } ∷ cs))
fit_more true g b cs few range h = (omega (arith, h.0), ascends_lower g cs h.1, h.2)
fit_more false g b cs few range h = (omega (arith, h.0), (omega arith, h.1), ((few, range), h.2))

pub changes_fit : (g : ℕ) (old new : Multipliers) → g + length new ≤ 32 → AllByRecursion IsMultiplier new → FitFrom g (changes_from g old new)
changes_fit g [] new few range = (omega (arith, few), tt, tt)
changes_fit g (a ∷ old) [] few range = (omega (arith, few), tt, tt)
changes_fit g (a ∷ old) (b ∷ new) few range =
    fit_more (int_le a b && int_le b a) g b (changes_from (suc g) old new) (omega (arith, few)) range.0 (changes_fit (suc g) old new (omega (arith, few)) range.1)

-- the record of a step behind multipliers of as many goods
pub step_is_record : (goods : ℕ) (m : Multipliers) (x : Step) → length m ≡ goods → goods ≤ 32 → CountsGoods goods x → IsStepRecord x → IsRecord (step_record version_2 m x)
step_is_record goods m (branch bidder n) count few counts is = is
step_is_record goods m (leaf new) count few counts is =
    let fit = changes_fit 0 m new (omega (arith, few, counts)) is.1 in
    (omega (arith, fit.0), fit.1, fit.2)
step_is_record goods m (dead bidder) count few counts is = is
