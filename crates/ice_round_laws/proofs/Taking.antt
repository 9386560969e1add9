-- Verdicts that are taken one at a time, by the entries
-- that the earlier ones left, are those of a round.
use Rattle.std.proofs.Common.{ℕ, ◌≡◌, ◌↔◌, Bool, true, false, ◌||◌, IsTrue, List, [], ◌∷◌, ◌++◌, map, ℤ, refl, sym, ◌∙◌, ap, subst}
use Rattle.std.specs.List.{list_any, AllByRecursion}
use Rattle.std.specs.Str.{bytes_eq}
use Rattle.std.proofs.lemmas.List.{append-nil, append_assoc}
use Rattle.ice_defs.specs.declared.Verdict.{Verdict}
use Rattle.ice_defs.specs.declared.Verdict.TheVariants.{UnknownBidder}
use Rattle.ice_defs.specs.Prices.{Prices}
use Rattle.ice_defs.specs.Round.{Submission, Judged, Standing, is_accepted, of_name, IsVerdict, JudgesInOrder, is_known, IsRound, IsNextVerdict}
use Rattle.ice_round_laws.specs.Entries.{Entry, is_entered, AreVerdictsBy, entry_of, entries_of}
use Rattle.ice_round_laws.specs.Running.{EntriesTellVerdict, RoundsBegin, RoundsGoOn, VerdictsMakeRound, VerdictIsOne}
use Rattle.ice_round_laws.proofs.Names.{of_name_push, of_name_stays}
use Rattle.ice_round_laws.proofs.Verdicts.{one_verdict}
use Rattle.ice_round_laws.proofs.Entering.{entries_begin, entries_go_on}

-- ---- the entries tell the next verdict

all_mapped : {X Y : Type 0} (P : Y → Type 0) (f : X → Y) (xs : List X) → AllByRecursion (λ x. P (f x)) xs ↔ AllByRecursion P (map f xs)
all_mapped P f [] = (λ all. all, λ all. all)
all_mapped P f (x ∷ xs) = (λ all. (all.0, (all_mapped P f xs).0 all.1), λ all. (all.0, (all_mapped P f xs).1 all.1))

entered_known : (bidders : List Standing) (earlier : List Judged) (name : List ℕ) → is_entered (entries_of bidders earlier) name ≡ is_known bidders name
entered_known [] earlier name = refl
entered_known (bidder ∷ bidders) earlier name = ap (λ (b : Bool). bytes_eq bidder.name name || b) (entered_known bidders earlier name)

abbrev IsVerdictAt : Prices → ℤ → Submission → Verdict → Entry → Type 0
IsVerdictAt p improve s verdict e = IsTrue (bytes_eq e.standing.name s.name) → IsVerdict p improve e.standing e.is_taken s verdict

pub entries_tell_verdict : EntriesTellVerdict
entries_tell_verdict p improve bidders earlier s verdict = (
  λ next. (λ none. next.0 (sym (entered_known bidders earlier s.name) ∙ none), (all_mapped (IsVerdictAt p improve s verdict) (entry_of earlier) bidders).0 next.1),
  λ by. (λ none. by.0 (entered_known bidders earlier s.name ∙ none), (all_mapped (IsVerdictAt p improve s verdict) (entry_of earlier) bidders).1 by.1),
)

-- ---- one submission more

all_push : {X : Type 0} (P : X → Type 0) (xs : List X) (x : X) → AllByRecursion P (xs ++ x ∷ []) ↔ (AllByRecursion P xs × P x)
all_push P [] x = (λ all. (tt, all.0), λ all. (all.1, tt))
all_push P (y ∷ xs) x = (λ all. let rest : AllByRecursion P xs × P x = (all_push P xs x).0 all.1 in ((all.0, rest.0), rest.1), λ all. ((all.0).0, (all_push P xs x).1 ((all.0).1, all.1)))

module _ (p : Prices) (improve : ℤ) (bidder : Standing) where
  abbrev Judges : Bool → List Judged → Type 0
  Judges taken judged = JudgesInOrder p improve bidder taken judged

  abbrev Is : Bool → Judged → Type 0
  Is taken j = IsVerdict p improve bidder taken j.submission j.verdict

  or_false : (b : Bool) → b ≡ (b || false)
  or_false true = refl
  or_false false = refl

  or_assoc : (a b c : Bool) → ((a || b) || c) ≡ (a || (b || c))
  or_assoc true b c = refl
  or_assoc false b c = refl

  judges_push : (taken : Bool) (judged : List Judged) (j : Judged) → Judges taken (judged ++ j ∷ []) ↔ (Judges taken judged × Is (taken || list_any is_accepted judged) j)
  judges_push taken [] j = (λ all. (tt, subst (λ (b : Bool). Is b j) (or_false taken) all.0), λ all. (subst (λ (b : Bool). Is b j) (sym (or_false taken)) all.1, tt))
  judges_push taken (x ∷ judged) j = (
    λ all. let rest : Judges (taken || is_accepted x) judged × Is ((taken || is_accepted x) || list_any is_accepted judged) j = (judges_push (taken || is_accepted x) judged j).0 all.1 in
        ((all.0, rest.0), subst (λ (b : Bool). Is b j) (or_assoc taken (is_accepted x) (list_any is_accepted judged)) rest.1),
    λ all. ((all.0).0, (judges_push (taken || is_accepted x) judged j).1 ((all.0).1, subst (λ (b : Bool). Is b j) (sym (or_assoc taken (is_accepted x) (list_any is_accepted judged))) all.1)),
  )

  -- the next verdict, if the submission is of this bidder
  abbrev Next : List Judged → Judged → Type 0
  Next earlier j = IsTrue (bytes_eq bidder.name j.submission.name) → Is (list_any is_accepted (of_name bidder.name earlier)) j

  own_push : (earlier : List Judged) (j : Judged) → Judges false (of_name bidder.name (earlier ++ j ∷ [])) ↔ (Judges false (of_name bidder.name earlier) × Next earlier j)
  own_push earlier j = by (bytes_eq bidder.name j.submission.name) refl
    where
      by : (b : Bool) → bytes_eq bidder.name j.submission.name ≡ b → Judges false (of_name bidder.name (earlier ++ j ∷ [])) ↔ (Judges false (of_name bidder.name earlier) × Next earlier j)
      by true e =
          let same : of_name bidder.name (earlier ++ j ∷ []) ≡ of_name bidder.name earlier ++ j ∷ [] = of_name_push bidder.name earlier j e in (
            λ all. let both : Judges false (of_name bidder.name earlier) × Is (list_any is_accepted (of_name bidder.name earlier)) j
                = (judges_push false (of_name bidder.name earlier) j).0 (subst (λ (xs : List Judged). Judges false xs) same all) in (both.0, λ _. both.1),
            λ all. subst (λ (xs : List Judged). Judges false xs) (sym same) ((judges_push false (of_name bidder.name earlier) j).1 (all.0, all.1 e)),
          )
      by false e =
          let same : of_name bidder.name (earlier ++ j ∷ []) ≡ of_name bidder.name earlier = of_name_stays bidder.name earlier j e in (
            λ all. (subst (λ (xs : List Judged). Judges false xs) same all, λ is. let other : true ≡ false = sym is ∙ e in absurd (cc)),
            λ all. subst (λ (xs : List Judged). Judges false xs) (sym same) all.0,
          )

each_push : (p : Prices) (improve : ℤ) (bidders : List Standing) (earlier : List Judged) (j : Judged)
    → AllByRecursion (λ bidder. JudgesInOrder p improve bidder false (of_name bidder.name (earlier ++ j ∷ []))) bidders
    ↔ (AllByRecursion (λ bidder. JudgesInOrder p improve bidder false (of_name bidder.name earlier)) bidders
    × AllByRecursion (λ bidder. IsTrue (bytes_eq bidder.name j.submission.name) → IsVerdict p improve bidder (list_any is_accepted (of_name bidder.name earlier)) j.submission j.verdict) bidders)
each_push p improve [] earlier j = (λ all. (tt, tt), λ all. tt)
each_push p improve (bidder ∷ bidders) earlier j = (
  λ all. let first : JudgesInOrder p improve bidder false (of_name bidder.name earlier) × Next p improve bidder earlier j = (own_push p improve bidder earlier j).0 all.0 in
      let rest = (each_push p improve bidders earlier j).0 all.1 in ((first.0, rest.0), (first.1, rest.1)),
  λ all. ((own_push p improve bidder earlier j).1 ((all.0).0, (all.1).0), (each_push p improve bidders earlier j).1 ((all.0).1, (all.1).1)),
)

abbrev IsUnknown : List Standing → Judged → Type 0
IsUnknown bidders j = is_known bidders j.submission.name ≡ false → j.verdict ≡ UnknownBidder

pub rounds_go_on : RoundsGoOn
rounds_go_on p improve bidders earlier j = (
  λ round. let unknown = (all_push (IsUnknown bidders) earlier j).0 round.unknown in
      let each = (each_push p improve bidders earlier j).0 round.each in
      (record { unknown = unknown.0; each = each.0 }, (unknown.1, each.1)),
  λ both. record { unknown = (all_push (IsUnknown bidders) earlier j).1 ((both.0).unknown, (both.1).0); each = (each_push p improve bidders earlier j).1 ((both.0).each, (both.1).1) },
)

-- ---- a whole round

module _ (p : Prices) (improve : ℤ) (bidders : List Standing) where
  abbrev Round : List Judged → Type 0
  Round judged = IsRound p improve bidders judged

  abbrev Verdicts : List Entry → List Judged → Type 0
  Verdicts entries judged = AreVerdictsBy p improve entries judged

  from_round : (earlier later : List Judged) → Round (earlier ++ later) → Round earlier × Verdicts (entries_of bidders earlier) later
  from_round earlier [] round = (subst Round (append-nil earlier) round, tt)
  from_round earlier (j ∷ later) round =
      let both : Round (earlier ++ j ∷ []) × Verdicts (entries_of bidders (earlier ++ j ∷ [])) later = from_round (earlier ++ j ∷ []) later (subst Round (sym (append_assoc earlier (j ∷ []) later)) round) in
      let parts : Round earlier × IsNextVerdict p improve bidders earlier j.submission j.verdict = (rounds_go_on p improve bidders earlier j).0 both.0 in
      (parts.0, ((entries_tell_verdict p improve bidders earlier j.submission j.verdict).0 parts.1, subst (λ (entries : List Entry). Verdicts entries later) (entries_go_on bidders earlier j) both.1))

  to_round : (earlier later : List Judged) → Round earlier → Verdicts (entries_of bidders earlier) later → Round (earlier ++ later)
  to_round earlier [] round by = subst Round (sym (append-nil earlier)) round
  to_round earlier (j ∷ later) round by =
      let more : Round (earlier ++ j ∷ []) = (rounds_go_on p improve bidders earlier j).1 (round, (entries_tell_verdict p improve bidders earlier j.submission j.verdict).1 by.0) in
      subst Round (append_assoc earlier (j ∷ []) later) (to_round (earlier ++ j ∷ []) later more (subst (λ (entries : List Entry). Verdicts entries later) (sym (entries_go_on bidders earlier j)) by.1))

no_submissions : (p : Prices) (improve : ℤ) (bidders : List Standing) → AllByRecursion (λ bidder. JudgesInOrder p improve bidder false (of_name bidder.name [])) bidders
no_submissions p improve [] = tt
no_submissions p improve (bidder ∷ bidders) = (tt, no_submissions p improve bidders)

pub rounds_begin : RoundsBegin
rounds_begin p improve bidders = record { unknown = tt; each = no_submissions p improve bidders }

pub verdicts_make_round : VerdictsMakeRound
verdicts_make_round p improve bidders judged = (
  λ round. subst (λ (entries : List Entry). AreVerdictsBy p improve entries judged) (entries_begin bidders) (from_round p improve bidders [] judged round).1,
  λ by. to_round p improve bidders [] judged (rounds_begin p improve bidders) (subst (λ (entries : List Entry). AreVerdictsBy p improve entries judged) (sym (entries_begin bidders)) by),
)

-- ---- one verdict

of_known : (p : Prices) (improve : ℤ) (bidders : List Standing) (earlier : List Judged) (s : Submission) (one other : Verdict) → is_known bidders s.name ≡ true
    → AllByRecursion (λ bidder. IsTrue (bytes_eq bidder.name s.name) → IsVerdict p improve bidder (list_any is_accepted (of_name bidder.name earlier)) s one) bidders
    → AllByRecursion (λ bidder. IsTrue (bytes_eq bidder.name s.name) → IsVerdict p improve bidder (list_any is_accepted (of_name bidder.name earlier)) s other) bidders → one ≡ other
of_known p improve [] earlier s one other known a b = absurd (cc)
of_known p improve (bidder ∷ bidders) earlier s one other known a b = by (bytes_eq bidder.name s.name) refl known (λ later. of_known p improve bidders earlier s one other later a.1 b.1)
  where
    by : (c : Bool) → bytes_eq bidder.name s.name ≡ c → (c || is_known bidders s.name) ≡ true → (is_known bidders s.name ≡ true → one ≡ other) → one ≡ other
    by true e known goes_on = one_verdict p improve bidder (list_any is_accepted (of_name bidder.name earlier)) s one other (a.0 e) (b.0 e)
    by false e known goes_on = goes_on known

pub verdict_is_one : VerdictIsOne
verdict_is_one p improve bidders earlier s one other a b = by (is_known bidders s.name) refl
  where
    by : (c : Bool) → is_known bidders s.name ≡ c → one ≡ other
    by true known = of_known p improve bidders earlier s one other known a.1 b.1
    by false none = a.0 none ∙ sym (b.0 none)
