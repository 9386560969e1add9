-- The entries that submissions leave, one after another, are the definition's.
use Rattle.std.proofs.Common.{◌≡◌, Bool, true, false, not, ◌||◌, ◌&&◌, cond, List, [], ◌∷◌, ◌++◌, refl, sym, ◌∙◌, ap}
use Rattle.std.specs.List.{list_any}
use Rattle.std.specs.Str.{bytes_eq}
use Rattle.std.proofs.lemmas.List.{append-nil, append_assoc}
use Rattle.ice_defs.specs.Bounds.{Bounds}
use Rattle.ice_defs.specs.Round.{Judged, Standing, stated_bounds, is_accepted, of_name, bounds_after}
use Rattle.ice_round_laws.specs.Entries.{Entry, begun, with_bounds, entry_after, entries_after_all, entry_of, entries_of}
use Rattle.ice_round_laws.specs.Running.{EntriesBegin, EntriesGoOn, EntriesAreDefined, EntriesTellBounds}
use Rattle.ice_round_laws.proofs.Names.{of_name_push, of_name_stays}

-- ---- the bounds and the mark of one bidder, after one submission more

pub bounds_push : (old : Bounds) (judged : List Judged) (j : Judged)
    → bounds_after old (judged ++ j ∷ []) ≡ cond (not (list_any is_accepted judged) && is_accepted j) (stated_bounds j.submission) (bounds_after old judged)
bounds_push old [] j = refl
bounds_push old (x ∷ judged) j = by (is_accepted x) (bounds_push old judged j)
  where
    by : (b : Bool) → bounds_after old (judged ++ j ∷ []) ≡ cond (not (list_any is_accepted judged) && is_accepted j) (stated_bounds j.submission) (bounds_after old judged)
        → cond b (stated_bounds x.submission) (bounds_after old (judged ++ j ∷ [])) ≡ cond (not (b || list_any is_accepted judged) && is_accepted j) (stated_bounds j.submission) (cond b (stated_bounds x.submission) (bounds_after old judged))
    by true rest = refl
    by false rest = rest

pub taken_push : (judged : List Judged) (j : Judged) → list_any is_accepted (judged ++ j ∷ []) ≡ (list_any is_accepted judged || is_accepted j)
taken_push [] j = by (is_accepted j)
  where
    by : (b : Bool) → (b || false) ≡ (false || b)
    by true = refl
    by false = refl
taken_push (x ∷ judged) j = by (is_accepted x) (taken_push judged j)
  where
    by : (b : Bool) → list_any is_accepted (judged ++ j ∷ []) ≡ (list_any is_accepted judged || is_accepted j) → (b || list_any is_accepted (judged ++ j ∷ [])) ≡ ((b || list_any is_accepted judged) || is_accepted j)
    by true rest = refl
    by false rest = rest

-- ---- one entry

same_entry : (bidder : Standing) (x y : Bounds) (b c : Bool) → x ≡ y → b ≡ c → ◌≡◌ {A = Entry} (record { standing = bidder; next = x; is_taken = b }) (record { standing = bidder; next = y; is_taken = c })
same_entry bidder x y b c e f = cc

entry_push : (earlier : List Judged) (j : Judged) (bidder : Standing) → entry_of (earlier ++ j ∷ []) bidder ≡ entry_after j (entry_of earlier bidder)
entry_push earlier j bidder = by (bytes_eq bidder.name j.submission.name) refl
  where
    own : List Judged
    own = of_name bidder.name earlier

    marked : (t b : Bool)
        → ◌≡◌ {A = Entry} (record { standing = bidder; next = cond (not t && b) (stated_bounds j.submission) (bounds_after bidder.bounds own); is_taken = t || b })
        (cond (not t && b) (with_bounds (stated_bounds j.submission) (record { standing = bidder; next = bounds_after bidder.bounds own; is_taken = t })) (record { standing = bidder; next = bounds_after bidder.bounds own; is_taken = t }))
    marked true b = refl
    marked false true = refl
    marked false false = refl

    by : (b : Bool) → bytes_eq bidder.name j.submission.name ≡ b
        → entry_of (earlier ++ j ∷ []) bidder ≡ cond (b && (not (list_any is_accepted own) && is_accepted j)) (with_bounds (stated_bounds j.submission) (entry_of earlier bidder)) (entry_of earlier bidder)
    by true e =
        same_entry bidder (bounds_after bidder.bounds (of_name bidder.name (earlier ++ j ∷ []))) _ (list_any is_accepted (of_name bidder.name (earlier ++ j ∷ []))) _
        (ap (bounds_after bidder.bounds) (of_name_push bidder.name earlier j e) ∙ bounds_push bidder.bounds own j)
        (ap (list_any is_accepted) (of_name_push bidder.name earlier j e) ∙ taken_push own j)
        ∙ marked (list_any is_accepted own) (is_accepted j)
    by false e =
        same_entry bidder (bounds_after bidder.bounds (of_name bidder.name (earlier ++ j ∷ []))) _ (list_any is_accepted (of_name bidder.name (earlier ++ j ∷ []))) _
        (ap (bounds_after bidder.bounds) (of_name_stays bidder.name earlier j e))
        (ap (list_any is_accepted) (of_name_stays bidder.name earlier j e))

-- ---- all entries

pub entries_begin : EntriesBegin
entries_begin [] = refl
entries_begin (bidder ∷ bidders) = ap (λ (rest : List Entry). begun bidder ∷ rest) (entries_begin bidders)

pub entries_go_on : EntriesGoOn
entries_go_on [] earlier j = refl
entries_go_on (bidder ∷ bidders) earlier j = cc (entry_push earlier j bidder, entries_go_on bidders earlier j)

-- the entries after some submissions, and then after others
after_both : (bidders : List Standing) (earlier later : List Judged) → entries_after_all (entries_of bidders earlier) later ≡ entries_of bidders (earlier ++ later)
after_both bidders earlier [] = ap (entries_of bidders) (sym (append-nil earlier))
after_both bidders earlier (j ∷ later) =
    ap (λ (entries : List Entry). entries_after_all entries later) (sym (entries_go_on bidders earlier j)) ∙ after_both bidders (earlier ++ j ∷ []) later ∙ ap (entries_of bidders) (append_assoc earlier (j ∷ []) later)

pub entries_are_defined : EntriesAreDefined
entries_are_defined bidders judged = ap (λ (entries : List Entry). entries_after_all entries judged) (sym (entries_begin bidders)) ∙ after_both bidders [] judged

pub entries_tell_bounds : EntriesTellBounds
entries_tell_bounds [] judged = refl
entries_tell_bounds (bidder ∷ bidders) judged = ap (λ (rest : List Bounds). bounds_after bidder.bounds (of_name bidder.name judged) ∷ rest) (entries_tell_bounds bidders judged)
