-- The rounds to which judged submissions lead.
use Rattle.std.proofs.Common.{ℕ, suc, ◌+◌, ◌<◌, ◌≤◌, ◌≡◌, Bool, true, false, not, cond, List, [], ◌∷◌, ◌++◌, length, map, replicate, slice_index_or, slice_set, Option, Some, None, refl, sym, ◌∙◌, ap, subst, arith}
use Rattle.std.specs.Prelude.{nat_lt}
use Rattle.std.specs.List.{list_any, position, position_or_len, IsDistinct}
use Rattle.std.specs.Str.{bytes_eq}
use Rattle.std.proofs.lemmas.List.{map-set, length-map, get_or-map, get_or_default}
use Rattle.std.proofs.lemmas.List.Quantifiers.{position-Some}
use Rattle.std.proofs.lemmas.Bool.{false≢true, or_from}
use borrow.Author.Tests.{ltb-false}
use Rattle.ice_defs.specs.declared.Verdict.{Verdict}
use Rattle.ice_defs.specs.Bounds.{Bounds, no_bounds}
use Rattle.ice_defs.specs.Trade.{Assignment, tree_of}
use Rattle.ice_defs.specs.Round.{Submission, Judged, Standing, stated_bounds, is_accepted, is_acceptance, of_name, IsVerdict, next_bounds}
use Rattle.ice_defs.specs.Exchange.{Exchange, Bidder, names_of, trees_of}
use Rattle.ice_defs.specs.Lawful.{IsExchange}
use Rattle.ice_defs.specs.Session.{standings_from}
use Rattle.ice_defs.proofs.Naming.{same-bytes_eq, bytes_eq-same}
use Rattle.ice_round_laws.specs.Entries.{Entry, with_bounds, entry_after, entries_after, is_entered, IsVerdictBy, entry_of, entries_of}
use Rattle.ice_round_laws.specs.Running.{names_in}
use Rattle.ice_round_laws.proofs.Names.{false_at_others}
use Rattle.ice_round_laws.proofs.Naming.{standings_are_named, standing_is}
use Rattle.ice_round_laws.proofs.Single.{one_entry_decides, no_entry_decides, one_entry_changes, accepted_is_taken, others_change_nothing}
use Rattle.ice_round_laws.proofs.Entering.{entries_go_on, entries_tell_bounds}
use Rattle.ice_round_laws.proofs.Taking.{entries_tell_verdict}
use Rattle.ice_verdicts.specs.Judges.{Round, IsRoundOf, bidders_in, bidder_in, is_marked, bidder_named, IsVerdictOf, with_taken, marks_after, IsAfter}
use Rattle.ice_verdicts.specs.Laws.{RoundBegins, VerdictIsNext, RoundGoesOn}

-- ---- no submission yet

bounds_begin : (bidders : List Bidder) (bounds : List Bounds) (sets : Assignment) → length bounds ≡ length bidders → length sets ≡ length bidders → bounds ≡ next_bounds (standings_from bidders bounds sets) []
bounds_begin [] [] sets e f = refl
bounds_begin [] (now ∷ bounds) sets e f = absurd (omega arith)
bounds_begin (b ∷ bidders) [] sets e f = absurd (omega arith)
bounds_begin (b ∷ bidders) (now ∷ bounds) [] e f = absurd (omega arith)
bounds_begin (b ∷ bidders) (now ∷ bounds) (s ∷ sets) e f = ap (λ (rest : List Bounds). now ∷ rest) (bounds_begin bidders bounds sets (omega arith) (omega arith))

marks_begin : (bidders : List Bidder) (bounds : List Bounds) (sets : Assignment) → length bounds ≡ length bidders → length sets ≡ length bidders → replicate (length bidders) false ≡ marks_after (standings_from bidders bounds sets) []
marks_begin [] bounds sets e f = refl
marks_begin (b ∷ bidders) [] sets e f = absurd (omega arith)
marks_begin (b ∷ bidders) (now ∷ bounds) [] e f = absurd (omega arith)
marks_begin (b ∷ bidders) (now ∷ bounds) (s ∷ sets) e f = ap (λ (rest : List Bool). false ∷ rest) (marks_begin bidders bounds sets (omega arith) (omega arith))

pub round_begins : RoundBegins
round_begins ex r is next marks = record {
  next = next ∙ bounds_begin ex.bidders r.bounds r.sets is.bounds_count is.sets_count;
  marks = marks ∙ marks_begin ex.bidders r.bounds r.sets is.bounds_count is.sets_count;
}

-- ---- the entries

names_of_entries : (bidders : List Standing) (judged : List Judged) → names_in (entries_of bidders judged) ≡ map (λ (bidder : Standing). bidder.name) bidders
names_of_entries [] judged = refl
names_of_entries (bidder ∷ bidders) judged = ap (λ (rest : List (List ℕ)). bidder.name ∷ rest) (names_of_entries bidders judged)

entries_tell_marks : (bidders : List Standing) (judged : List Judged) → map (λ (e : Entry). e.is_taken) (entries_of bidders judged) ≡ marks_after bidders judged
entries_tell_marks [] judged = refl
entries_tell_marks (bidder ∷ bidders) judged = ap (λ (rest : List Bool). list_any is_accepted (of_name bidder.name judged) ∷ rest) (entries_tell_marks bidders judged)

none_passes : (name : List ℕ) (entries : List Entry) → length (names_in entries) ≤ position_or_len (bytes_eq name) (names_in entries) → is_entered entries name ≡ false
none_passes name [] le = refl
none_passes name (e ∷ entries) le = by (bytes_eq name e.standing.name) refl (λ fewer. none_passes name entries fewer)
  where
    first : (b : Bool) → bytes_eq name e.standing.name ≡ b → suc (length (names_in entries)) ≤ cond (not b) (1 + position_or_len (bytes_eq name) (names_in entries)) 0
    first b h = subst (λ t. suc (length (names_in entries)) ≤ cond (not t) (1 + position_or_len (bytes_eq name) (names_in entries)) 0) h le

    by : (b : Bool) → bytes_eq name e.standing.name ≡ b → (length (names_in entries) ≤ position_or_len (bytes_eq name) (names_in entries) → is_entered entries name ≡ false) → is_entered (e ∷ entries) name ≡ false
    by true h rest = absurd (omega (arith, first true h))
    by false h rest =
        let other : bytes_eq e.standing.name name ≡ false = false_at_others e.standing.name name (λ same. false≢true (sym h ∙ bytes_eq-same name e.standing.name (sym same))) in
        or_from (bytes_eq e.standing.name name) (is_entered entries name) other (rest (omega (arith, first false h)))

none_found : (n count : ℕ) (t : Bool) → nat_lt n count ≡ t → cond t (Some n) None ≡ None → count ≤ n
none_found n count true h e = absurd cc
none_found n count false h e = omega (arith, ltb-false n count h)

none_entered : (name : List ℕ) (entries : List Entry) → position (bytes_eq name) (names_in entries) ≡ None → is_entered entries name ≡ false
none_entered name entries none =
    let n = position_or_len (bytes_eq name) (names_in entries) in
    none_passes name entries (none_found n (length (names_in entries)) (nat_lt n (length (names_in entries))) refl none)

nobody : Bidder
nobody = record { name = []; own = []; tree = []; bounds = no_bounds }

-- a bidder of the exchange, where it is named
module _ (ex : Exchange) (r : Round) (judged : List Judged) (is : IsRoundOf ex r) where
  abbrev entries : List Entry
  entries = entries_of (bidders_in ex r) judged

  entry_names : names_in entries ≡ names_of ex
  entry_names = names_of_entries (bidders_in ex r) judged ∙ standings_are_named ex r.bounds r.sets is.bounds_count is.sets_count

  entries_count : length entries ≡ length ex.bidders
  entries_count =
      sym (length-map entries (λ (e : Entry). e.standing.name)) ∙ ap length entry_names ∙ length-map ex.bidders (λ (bidder : Bidder). bidder.name)

  module _ (b : ℕ) (there : b < length ex.bidders) where
    abbrev entry : Entry
    entry = entry_of judged (bidder_in ex r b)

    stands : slice_index_or (bidders_in ex r) b (bidder_in ex r b) ≡ bidder_in ex r b
    stands =
        let bidder = slice_index_or ex.bidders b nobody in
        let named : slice_index_or (names_of ex) b [] ≡ bidder.name = get_or-map (λ (x : Bidder). x.name) ex.bidders b nobody [] there in
        let grown : tree_of (trees_of ex) b ≡ bidder.tree = get_or-map (λ (x : Bidder). x.tree) ex.bidders b nobody [] there in
        let found = standing_is ex r.bounds r.sets b (bidder_in ex r b) bidder is.bounds_count is.sets_count there (get_or_default ex.bidders b bidder nobody there) in
        cc (found, named, grown)

    at_entry : slice_index_or entries b entry ≡ entry
    at_entry =
        let count : b < length (bidders_in ex r) = omega (arith, entries_count, length-map (bidders_in ex r) (entry_of judged)) in
        get_or-map (entry_of judged) (bidders_in ex r) b (bidder_in ex r b) entry count ∙ ap (entry_of judged) stands

    marked : (after : IsAfter ex judged r) → is_marked r b ≡ entry.is_taken
    marked after =
        let count : b < length entries = omega (arith, entries_count) in
        ap (λ (marks : List Bool). slice_index_or marks b false) (after.marks ∙ sym (entries_tell_marks (bidders_in ex r) judged))
        ∙ get_or-map (λ (e : Entry). e.is_taken) entries b entry false count
        ∙ ap (λ (e : Entry). e.is_taken) at_entry

    module _ (lawful : IsExchange ex) (name : List ℕ) (at : slice_index_or (names_of ex) b [] ≡ name) where
      apart : IsDistinct bytes_eq (names_in entries)
      apart = subst (IsDistinct bytes_eq) (sym entry_names) lawful.names

      within : b < length entries
      within = omega (arith, entries_count)

      named : (slice_index_or entries b entry).standing.name ≡ name
      named = ap (λ (e : Entry). e.standing.name) at_entry ∙ at

found_named : (ex : Exchange) (name : List ℕ) (b : ℕ) → bidder_named ex name ≡ Some b → (b < length ex.bidders) × (slice_index_or (names_of ex) b [] ≡ name)
found_named ex name b at =
    let found = position-Some (bytes_eq name) (names_of ex) b [] at in
    (omega (arith, found.0, length-map ex.bidders (λ (bidder : Bidder). bidder.name)), sym (same-bytes_eq name (slice_index_or (names_of ex) b []) found.1))

-- ---- the next verdict

module _ (ex : Exchange) (r : Round) (judged : List Judged) (lawful : IsExchange ex) (is : IsRoundOf ex r) (after : IsAfter ex judged r) where
  abbrev so_far : List Entry
  so_far = entries ex r judged is

  by_bidder : (s : Submission) (verdict : Verdict) (b : ℕ) → (b < length ex.bidders) × (slice_index_or (names_of ex) b [] ≡ s.name)
      → IsVerdictOf ex r (Some b) s verdict → IsVerdictBy r.prices ex.settings.improve so_far s verdict
  by_bidder s verdict b (there, name) gives =
      let here = entry ex r judged is b there in
      let P : Entry → Type 0 = λ e. IsVerdict r.prices ex.settings.improve e.standing e.is_taken s verdict in
      let Q : Bool → Type 0 = λ t. IsVerdict r.prices ex.settings.improve (bidder_in ex r b) t s verdict in
      (one_entry_decides r.prices ex.settings.improve so_far b here s verdict (apart ex r judged is b there lawful s.name name) (within ex r judged is b there lawful s.name name) (named ex r judged is b there lawful s.name name)).1
      (subst P (sym (at_entry ex r judged is b there)) (subst Q (marked ex r judged is b there after) gives))

  by_name : (s : Submission) (verdict : Verdict) (found : Option ℕ) → bidder_named ex s.name ≡ found → IsVerdictOf ex r found s verdict → IsVerdictBy r.prices ex.settings.improve so_far s verdict
  by_name s verdict None none unknown =
      (no_entry_decides r.prices ex.settings.improve so_far s verdict
      (none_entered s.name so_far (ap (position (bytes_eq s.name)) (entry_names ex r judged is) ∙ none))).1 unknown
  by_name s verdict (Some b) at gives = by_bidder s verdict b (found_named ex s.name b at) gives

  -- ---- the round after it

  module _ (j : Judged) where
    leads : (changed : List Entry) → entries_after so_far j ≡ changed
        → (map (λ (e : Entry). e.next) changed ≡ next_bounds (bidders_in ex r) (judged ++ j ∷ [])) × (map (λ (e : Entry). e.is_taken) changed ≡ marks_after (bidders_in ex r) (judged ++ j ∷ []))
    leads changed e =
        let same : changed ≡ entries_of (bidders_in ex r) (judged ++ j ∷ []) = sym e ∙ sym (entries_go_on (bidders_in ex r) judged j) in (
          ap (map (λ (e : Entry). e.next)) same ∙ entries_tell_bounds (bidders_in ex r) (judged ++ j ∷ []),
          ap (map (λ (e : Entry). e.is_taken)) same ∙ entries_tell_marks (bidders_in ex r) (judged ++ j ∷ []),
        )

    next_now : r.next ≡ map (λ (e : Entry). e.next) so_far
    next_now = after.next ∙ sym (entries_tell_bounds (bidders_in ex r) judged)

    marks_now : r.marks ≡ map (λ (e : Entry). e.is_taken) so_far
    marks_now = after.marks ∙ sym (entries_tell_marks (bidders_in ex r) judged)

    unmarked : (b : ℕ) (t : Bool) → is_accepted j ≡ true → IsVerdict r.prices ex.settings.improve (bidder_in ex r b) t j.submission j.verdict → t ≡ false
    unmarked b true accepted repeated = absurd (false≢true (ap is_acceptance (sym repeated) ∙ accepted))
    unmarked b false accepted gives = refl

    stays : is_accepted j ≡ false → IsAfter ex (judged ++ j ∷ []) r
    stays refused =
        let led = leads so_far (others_change_nothing so_far j refused) in
        record { next = next_now ∙ led.0; marks = marks_now ∙ led.1 }

    changes : (b : ℕ) → (b < length ex.bidders) × (slice_index_or (names_of ex) b [] ≡ j.submission.name) → is_accepted j ≡ true
        → IsVerdictOf ex r (Some b) j.submission j.verdict → IsAfter ex (judged ++ j ∷ []) (with_taken r (Some b) j.submission)
    changes b (there, name) accepted gives =
        let here = entry ex r judged is b there in
        let taken = with_bounds (stated_bounds j.submission) here in
        let free : here.is_taken ≡ false = sym (marked ex r judged is b there after) ∙ unmarked b (is_marked r b) accepted gives in
        let one : entries_after so_far j ≡ slice_set so_far b (entry_after j (slice_index_or so_far b here)) =
        one_entry_changes so_far b here j (apart ex r judged is b there lawful j.submission.name name) (within ex r judged is b there lawful j.submission.name name) (named ex r judged is b there lawful j.submission.name name) in
        let two : entry_after j (slice_index_or so_far b here) ≡ taken = ap (entry_after j) (at_entry ex r judged is b there) ∙ accepted_is_taken here j name free accepted in
        let led = leads (slice_set so_far b taken) (one ∙ ap (slice_set so_far b) two) in
        record {
          next = ap (λ (xs : List Bounds). slice_set xs b (stated_bounds j.submission)) next_now ∙ sym (map-set (λ (e : Entry). e.next) so_far b taken) ∙ led.0;
          marks = ap (λ (xs : List Bool). slice_set xs b true) marks_now ∙ sym (map-set (λ (e : Entry). e.is_taken) so_far b taken) ∙ led.1;
        }

    goes_on : (a : Bool) (found : Option ℕ) → is_accepted j ≡ a → bidder_named ex j.submission.name ≡ found → IsVerdictOf ex r found j.submission j.verdict
        → IsAfter ex (judged ++ j ∷ []) (cond a (with_taken r found j.submission) r)
    goes_on false found refused at gives = stays refused
    goes_on true None accepted at unknown = absurd (false≢true (ap is_acceptance (sym unknown) ∙ accepted))
    goes_on true (Some b) accepted at gives = changes b (found_named ex j.submission.name b at) accepted gives

pub verdict_is_next : VerdictIsNext
verdict_is_next ex r judged s verdict lawful is after gives = (entries_tell_verdict r.prices ex.settings.improve (bidders_in ex r) judged s verdict).1 (by_name ex r judged lawful is after s verdict (bidder_named ex s.name) refl gives)

pub round_goes_on : RoundGoesOn
round_goes_on ex r judged j lawful is after gives = goes_on ex r judged lawful is after j (is_accepted j) (bidder_named ex j.submission.name) refl refl gives
