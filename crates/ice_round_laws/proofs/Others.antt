-- A verdict looks at the earlier submissions of its own name alone.
use Rattle.std.proofs.Common.{ℕ, ◌≡◌, Bool, true, false, IsTrue, List, [], ◌∷◌, ◌++◌, ℤ, refl, sym, ◌∙◌, ap, subst}
use Rattle.std.specs.List.{list_any, AllByRecursion}
use Rattle.std.specs.Str.{bytes_eq}
use Rattle.std.proofs.lemmas.List.Elements.{filter-append}
use Rattle.ice_defs.specs.declared.Verdict.{Verdict}
use Rattle.ice_defs.specs.Prices.{Prices}
use Rattle.ice_defs.specs.Round.{Submission, Judged, Standing, is_accepted, of_name, IsVerdict}
use Rattle.ice_round_laws.specs.Laws.{OwnSubmissionsTell, SameOfEach, OthersSwap}
use Rattle.ice_round_laws.proofs.Names.{of_name_push, of_name_stays}
use Rattle.ice_defs.proofs.Naming.{same-bytes_eq}

own_tell : (p : Prices) (improve : ℤ) (bidders : List Standing) (one other : List Judged) (s : Submission) (verdict : Verdict) → of_name s.name one ≡ of_name s.name other
    → AllByRecursion (λ bidder. IsTrue (bytes_eq bidder.name s.name) → IsVerdict p improve bidder (list_any is_accepted (of_name bidder.name one)) s verdict) bidders
    → AllByRecursion (λ bidder. IsTrue (bytes_eq bidder.name s.name) → IsVerdict p improve bidder (list_any is_accepted (of_name bidder.name other)) s verdict) bidders
own_tell p improve [] one other s verdict same all = tt
own_tell p improve (bidder ∷ bidders) one other s verdict same all = (
  λ is. subst (λ (b : Bool). IsVerdict p improve bidder b s verdict) (ap (list_any is_accepted) (own is)) (all.0 is),
  own_tell p improve bidders one other s verdict same all.1,
)
  where
    own : IsTrue (bytes_eq bidder.name s.name) → of_name bidder.name one ≡ of_name bidder.name other
    own is = subst (λ (n : List ℕ). of_name n one ≡ of_name n other) (sym (same-bytes_eq bidder.name s.name is)) same

pub own_submissions_tell : OwnSubmissionsTell
own_submissions_tell p improve bidders one other s verdict same next = (next.0, own_tell p improve bidders one other s verdict same next.1)

-- ---- the same submissions of each name

pub same_push : (one other : List Judged) (j : Judged) → SameOfEach one other → SameOfEach (one ++ j ∷ []) (other ++ j ∷ [])
same_push one other j same name = filter-append (λ k. bytes_eq name k.submission.name) one (j ∷ []) ∙ ap (λ (xs : List Judged). xs ++ of_name name (j ∷ [])) (same name)
    ∙ sym (filter-append (λ k. bytes_eq name k.submission.name) other (j ∷ []))

pub others_swap : OthersSwap
others_swap judged j k apart name = by (bytes_eq name j.submission.name) (bytes_eq name k.submission.name) refl refl
  where
    by : (b c : Bool) → bytes_eq name j.submission.name ≡ b → bytes_eq name k.submission.name ≡ c → of_name name ((judged ++ j ∷ []) ++ k ∷ []) ≡ of_name name ((judged ++ k ∷ []) ++ j ∷ [])
    by true true e f = absurd (apart (sym (same-bytes_eq name j.submission.name e) ∙ same-bytes_eq name k.submission.name f))
    by true false e f =
        of_name_stays name (judged ++ j ∷ []) k f ∙ of_name_push name judged j e ∙ ap (λ (xs : List Judged). xs ++ j ∷ []) (sym (of_name_stays name judged k f)) ∙ sym (of_name_push name (judged ++ k ∷ []) j e)
    by false true e f =
        of_name_push name (judged ++ j ∷ []) k f ∙ ap (λ (xs : List Judged). xs ++ k ∷ []) (of_name_stays name judged j e) ∙ sym (of_name_push name judged k f) ∙ sym (of_name_stays name (judged ++ k ∷ []) j e)
    by false false e f = of_name_stays name (judged ++ j ∷ []) k f ∙ of_name_stays name judged j e ∙ sym (of_name_stays name judged k f) ∙ sym (of_name_stays name (judged ++ k ∷ []) j e)
