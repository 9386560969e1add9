-- The verdicts of a round, taken one after another.
use Rattle.std.proofs.Common.{◌≡◌, Bool, true, false, cond, ◌||◌, List, [], ◌∷◌, ◌++◌, refl, sym, ◌∙◌, ap, subst, ℤ}
use Rattle.std.specs.Prelude.{IsTrue}
use Rattle.std.specs.List.{AllByRecursion, list_any}
use Rattle.std.specs.Str.{bytes_eq}
use Rattle.std.proofs.lemmas.Bool.{false≢true}
use Rattle.std.proofs.lemmas.List.Elements.{filter-append}
use Rattle.std.proofs.lemmas.List.Folds.{list_any-append}
use Rattle.ice_defs.specs.declared.Verdict.TheVariants.{UnknownBidder}
use Rattle.ice_defs.specs.Prices.{Prices}
use Rattle.ice_defs.specs.Round.{Judged, Standing, is_accepted, of_name, IsVerdict, JudgesInOrder, is_known}
use Rattle.ice_journal_laws.specs.ShowingSession.{AreShownVerdicts}

or_false : (b : Bool) → (b || false) ≡ b
or_false true = refl
or_false false = refl

module _ (p : Prices) (improve : ℤ) where
  -- so far, one of a bidder's submissions was accepted or not
  abbrev taken_by : List Judged → Standing → Bool
  taken_by earlier bidder = list_any is_accepted (of_name bidder.name earlier)

  -- the bidder's submissions after the earlier ones are judged in their order
  abbrev Later : List Judged → List Judged → Standing → Type 0
  Later earlier later bidder = JudgesInOrder p improve bidder (taken_by earlier bidder) (of_name bidder.name later)

  -- the next submission of a bidder, and those after it
  pub record Next (earlier : List Judged) (j : Judged) (later : List Judged) (bidder : Standing) : Type 0 where
    pub now : IsTrue (bytes_eq bidder.name j.submission.name) → IsVerdict p improve bidder (taken_by earlier bidder) j.submission j.verdict
    pub more : Later (earlier ++ j ∷ []) later bidder

  one_more : (earlier : List Judged) (j : Judged) (bidder : Standing) → taken_by (earlier ++ j ∷ []) bidder ≡ (taken_by earlier bidder || list_any is_accepted (of_name bidder.name (j ∷ [])))
  one_more earlier j bidder =
      ap (list_any is_accepted) (filter-append (λ (k : Judged). bytes_eq bidder.name k.submission.name) earlier (j ∷ []))
      ∙ list_any-append is_accepted (of_name bidder.name earlier) (of_name bidder.name (j ∷ []))

  next_of : (earlier : List Judged) (j : Judged) (later : List Judged) (bidder : Standing) → Later earlier (j ∷ later) bidder → Next earlier j later bidder
  next_of earlier j later bidder h = by (bytes_eq bidder.name j.submission.name) refl h (one_more earlier j bidder)
    where
      by : (mine : Bool) → bytes_eq bidder.name j.submission.name ≡ mine → JudgesInOrder p improve bidder (taken_by earlier bidder) (cond mine (j ∷ of_name bidder.name later) (of_name bidder.name later))
          → taken_by (earlier ++ j ∷ []) bidder ≡ (taken_by earlier bidder || list_any is_accepted (cond mine (j ∷ []) [])) → Next earlier j later bidder
      by true is f same = record {
        now = λ own. f.0;
        more = subst (λ (taken : Bool). JudgesInOrder p improve bidder taken (of_name bidder.name later)) (sym (same ∙ ap (λ (b : Bool). taken_by earlier bidder || b) (or_false (is_accepted j)))) f.1;
      }
      by false is f same = record {
        now = λ own. absurd (false≢true (sym is ∙ own));
        more = subst (λ (taken : Bool). JudgesInOrder p improve bidder taken (of_name bidder.name later)) (sym (same ∙ or_false (taken_by earlier bidder))) f;
      }

  all_next : (earlier : List Judged) (j : Judged) (later : List Judged) (bidders : List Standing) → AllByRecursion (Later earlier (j ∷ later)) bidders → AllByRecursion (Next earlier j later) bidders
  all_next earlier j later [] h = tt
  all_next earlier j later (bidder ∷ bidders) h = (next_of earlier j later bidder h.0, all_next earlier j later bidders h.1)

  all_now : (earlier : List Judged) (j : Judged) (later : List Judged) (bidders : List Standing) → AllByRecursion (Next earlier j later) bidders
      → AllByRecursion (λ bidder. IsTrue (bytes_eq bidder.name j.submission.name) → IsVerdict p improve bidder (list_any is_accepted (of_name bidder.name earlier)) j.submission j.verdict) bidders
  all_now earlier j later [] h = tt
  all_now earlier j later (bidder ∷ bidders) h = (h.0.now, all_now earlier j later bidders h.1)

  all_more : (earlier : List Judged) (j : Judged) (later : List Judged) (bidders : List Standing) → AllByRecursion (Next earlier j later) bidders → AllByRecursion (Later (earlier ++ j ∷ []) later) bidders
  all_more earlier j later [] h = tt
  all_more earlier j later (bidder ∷ bidders) h = (h.0.more, all_more earlier j later bidders h.1)

  module _ (bidders : List Standing) where
    shown_from : (earlier later : List Judged) → AllByRecursion (λ j. is_known bidders j.submission.name ≡ false → j.verdict ≡ UnknownBidder) later → AllByRecursion (Later earlier later) bidders
        → AreShownVerdicts p improve bidders earlier later
    shown_from earlier [] unknown each = tt
    shown_from earlier (j ∷ later) unknown each =
        let next : AllByRecursion (Next earlier j later) bidders = all_next earlier j later bidders each in
        ((unknown.0, all_now earlier j later bidders next), shown_from (earlier ++ j ∷ []) later unknown.1 (all_more earlier j later bidders next))
