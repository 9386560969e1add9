-- What a leaf changes of the leaf before it, good by good, and that it may stand in a record.
use Rattle.std.proofs.Common.{◌≡◌, ℕ, ◌≤◌, List, [], ◌∷◌, ◌++◌, length, drop, refl, sym, ap, subst, ◌∙◌, arith}
use Rattle.std.specs.List.{AllByRecursion}
use Rattle.std.proofs.lemmas.List.{append-nil}
use Rattle.std.proofs.Math.ListN.{drop_of_length-le}
use Rattle.ice_defs.specs.Bound.{Multipliers}
use Rattle.ice_journal.specs.Records.{Change}
use Rattle.ice_journal.specs.Records as line
use Rattle.ice_journal.specs.Ranges.{HasLength, IsMultiplier, IsRecord}
use Rattle.ice_journal.specs.Plain.{changes_from}
use Rattle.ice_write.proofs.Changing as written

-- past the end of either nothing is changed
pub none_changed : (g : ℕ) (old : Multipliers) → changes_from g old [] ≡ []
none_changed g [] = refl
none_changed g (a ∷ old) = refl

-- past the end of the later ones no more is changed
pub all_changed : (done whole : List Change) (g : ℕ) (old new : Multipliers) → length new ≤ g → done ++ changes_from g (drop g old) (drop g new) ≡ whole → done ≡ whole
all_changed done whole g old new past e =
    let nothing : changes_from g (drop g old) (drop g new) ≡ [] = ap (changes_from g (drop g old)) (drop_of_length-le new past) ∙ none_changed g (drop g old) in
    sym (append-nil done) ∙ sym (ap (λ (cs : List Change). done ++ cs) nothing) ∙ e

-- ---- in a record

-- what a leaf changes may stand in a record
pub leaf_fits : (old new : Multipliers) (cs : List Change) → HasLength 1 32 new × AllByRecursion IsMultiplier new → cs ≡ changes_from 0 old new → IsRecord (line.near cs)
leaf_fits old new cs range is =
    let h = written.changes_fit 0 old new (omega (arith, range.0.1)) range.1 in
    subst (λ (changes : List Change). IsRecord (line.near changes)) (sym is) (omega (arith, h.0), h.1, h.2)
