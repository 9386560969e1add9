-- A submission looks at its bidder's entry alone, and changes that one alone.
use Rattle.std.proofs.Common.{ℕ, zero, suc, ◌<◌, ◌≡◌, Bool, true, false, not, ◌&&◌, cond, IsTrue, List, [], ◌∷◌, length, slice_index_or, ℤ, refl, sym, ◌∙◌, ap, arith}
use Rattle.std.specs.List.{AllByRecursion, IsDistinct}
use Rattle.std.specs.Str.{bytes_eq}
use Rattle.std.proofs.lemmas.Bool.{false≢true, or_right, or_left, or_parts}
use Rattle.ice_defs.specs.declared.Verdict.{Verdict}
use Rattle.ice_defs.specs.Prices.{Prices}
use Rattle.ice_defs.specs.Round.{Submission, Judged, stated_bounds, is_accepted, IsVerdict}
use Rattle.ice_round_laws.specs.Entries.{Entry, with_bounds, entry_after, entries_after, is_entered}
use Rattle.ice_round_laws.specs.Running.{names_in, OneEntryDecides, NoEntryDecides, OneEntryChanges, AcceptedIsTaken, OthersChangeNothing, OtherEntriesStay}
use Rattle.ice_round_laws.proofs.Names.{false_at_others}
use Rattle.ice_defs.proofs.Naming.{same-bytes_eq, bytes_eq-same}

-- ---- names apart

abbrev IsNot : List ℕ → List ℕ → Type 0
IsNot name other = bytes_eq name other ≡ false

-- a name that none of these has
apart_at : (name : List ℕ) (entries : List Entry) (b : ℕ) (d : Entry) → AllByRecursion (IsNot name) (names_in entries) → b < length entries → IsNot name (slice_index_or entries b d).standing.name
apart_at name [] b d all l = absurd (omega (arith, l))
apart_at name (e ∷ entries) zero d all l = all.0
apart_at name (e ∷ entries) (suc b) d all l = apart_at name entries b d all.1 (omega (arith, l))

never_same : (a b name : List ℕ) → IsNot a b → a ≡ name → b ≡ name → ⊥
never_same a b name apart e f = false≢true (sym apart ∙ bytes_eq-same a b (e ∙ sym f))

-- ---- verdicts

module _ (p : Prices) (improve : ℤ) (s : Submission) (verdict : Verdict) where
  abbrev Gives : Entry → Type 0
  Gives e = IsVerdict p improve e.standing e.is_taken s verdict

  abbrev Asks : Entry → Type 0
  Asks e = IsTrue (bytes_eq e.standing.name s.name) → Gives e

  asked : (entries : List Entry) (b : ℕ) (d : Entry) → AllByRecursion Asks entries → b < length entries → (slice_index_or entries b d).standing.name ≡ s.name → Gives (slice_index_or entries b d)
  asked [] b d all l e = absurd (omega (arith, l))
  asked (first ∷ entries) zero d all l e = all.0 (bytes_eq-same first.standing.name s.name e)
  asked (first ∷ entries) (suc b) d all l e = asked entries b d all.1 (omega (arith, l)) e

  -- entries of other names are not asked
  unasked : (name : List ℕ) (entries : List Entry) → name ≡ s.name → AllByRecursion (IsNot name) (names_in entries) → AllByRecursion Asks entries
  unasked name [] same all = tt
  unasked name (e ∷ entries) same all = (λ is. absurd (never_same name e.standing.name s.name all.0 same (same-bytes_eq e.standing.name s.name is)), unasked name entries same all.1)

  all_asked : (entries : List Entry) (b : ℕ) (d : Entry) → IsDistinct bytes_eq (names_in entries) → b < length entries → (slice_index_or entries b d).standing.name ≡ s.name
      → Gives (slice_index_or entries b d) → AllByRecursion Asks entries
  unfolding IsDistinct
  all_asked [] b d apart l e gives = tt
  all_asked (first ∷ entries) zero d apart l e gives = (λ is. gives, unasked first.standing.name entries e apart.0)
  all_asked (first ∷ entries) (suc b) d apart l e gives = (
    λ is. absurd (never_same first.standing.name (slice_index_or entries b d).standing.name s.name (apart_at first.standing.name entries b d apart.0 (omega (arith, l))) (same-bytes_eq first.standing.name s.name is) e),
    all_asked entries b d apart.1 (omega (arith, l)) e gives,
  )

is_entered_at : (entries : List Entry) (b : ℕ) (d : Entry) (name : List ℕ) → b < length entries → (slice_index_or entries b d).standing.name ≡ name → is_entered entries name ≡ true
is_entered_at [] b d name l e = absurd (omega (arith, l))
is_entered_at (first ∷ entries) zero d name l e = or_left (bytes_eq first.standing.name name) (is_entered entries name) (bytes_eq-same first.standing.name name e)
is_entered_at (first ∷ entries) (suc b) d name l e = or_right (bytes_eq first.standing.name name) (is_entered entries name) (is_entered_at entries b d name (omega (arith, l)) e)

pub one_entry_decides : OneEntryDecides
one_entry_decides p improve entries b d s verdict apart l e = (
  λ by. asked p improve s verdict entries b d by.1 l e,
  λ gives. (λ none. absurd (false≢true (sym none ∙ is_entered_at entries b d s.name l e)), all_asked p improve s verdict entries b d apart l e gives),
)

none_asked : (p : Prices) (improve : ℤ) (s : Submission) (verdict : Verdict) (entries : List Entry) → is_entered entries s.name ≡ false → AllByRecursion (Asks p improve s verdict) entries
none_asked p improve s verdict [] none = tt
none_asked p improve s verdict (e ∷ entries) none =
    let parts : (bytes_eq e.standing.name s.name ≡ false) × (is_entered entries s.name ≡ false) = or_parts (bytes_eq e.standing.name s.name) (is_entered entries s.name) none in
    (λ is. absurd (false≢true (sym parts.0 ∙ is)), none_asked p improve s verdict entries parts.1)

pub no_entry_decides : NoEntryDecides
no_entry_decides p improve entries s verdict none = (λ by. by.0 none, λ e. (λ _. e, none_asked p improve s verdict entries none))

-- ---- changes

pub other_entries_stay : OtherEntriesStay
other_entries_stay e j n = by (bytes_eq e.standing.name j.submission.name) (false_at_others e.standing.name j.submission.name n)
  where
    by : (b : Bool) → b ≡ false → cond (b && (not e.is_taken && is_accepted j)) (with_bounds (stated_bounds j.submission) e) e ≡ e
    by true h = absurd (false≢true (sym h))
    by false h = refl

others_stay : (name : List ℕ) (entries : List Entry) (j : Judged) → name ≡ j.submission.name → AllByRecursion (IsNot name) (names_in entries) → entries_after entries j ≡ entries
others_stay name [] j same all = refl
others_stay name (e ∷ entries) j same all =
    let first : entry_after j e ≡ e = other_entries_stay e j (λ is. never_same name e.standing.name j.submission.name all.0 same is) in
    cc (first, others_stay name entries j same all.1)

pub one_entry_changes : OneEntryChanges
unfolding IsDistinct
one_entry_changes [] b d j apart l e = absurd (omega (arith, l))
one_entry_changes (first ∷ entries) zero d j apart l e = ap (λ (rest : List Entry). entry_after j first ∷ rest) (others_stay first.standing.name entries j e apart.0)
one_entry_changes (first ∷ entries) (suc b) d j apart l e =
    let stays : entry_after j first ≡ first = other_entries_stay first j
    (λ is. never_same first.standing.name (slice_index_or entries b d).standing.name j.submission.name (apart_at first.standing.name entries b d apart.0 (omega (arith, l))) is e) in
    cc (stays, one_entry_changes entries b d j apart.1 (omega (arith, l)) e)

pub accepted_is_taken : AcceptedIsTaken
accepted_is_taken e j same free accepted = by (bytes_eq e.standing.name j.submission.name) e.is_taken (is_accepted j) (bytes_eq-same e.standing.name j.submission.name same) free accepted
  where
    by : (b t a : Bool) → b ≡ true → t ≡ false → a ≡ true → cond (b && (not t && a)) (with_bounds (stated_bounds j.submission) e) e ≡ with_bounds (stated_bounds j.submission) e
    by true false true f g h = refl
    by true false false f g h = absurd (false≢true h)
    by true true a f g h = absurd (false≢true (sym g))
    by false t a f g h = absurd (false≢true f)

pub others_change_nothing : OthersChangeNothing
others_change_nothing [] j none = refl
others_change_nothing (e ∷ entries) j none =
    let first : entry_after j e ≡ e = by (bytes_eq e.standing.name j.submission.name) (not e.is_taken) (is_accepted j) none in
    cc (first, others_change_nothing entries j none)
  where
    by : (b t a : Bool) → a ≡ false → cond (b && (t && a)) (with_bounds (stated_bounds j.submission) e) e ≡ e
    by false t a h = refl
    by true false a h = refl
    by true true false h = refl
    by true true true h = absurd (false≢true (sym h))
