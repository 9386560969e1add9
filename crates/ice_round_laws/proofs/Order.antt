-- Rounds with the same submissions of each name in the same order give the same verdicts.
use Rattle.std.proofs.Common.{ℕ, ◌≡◌, Bool, true, false, ◌||◌, cond, List, [], ◌∷◌, map, ℤ, refl, sym, ◌∙◌, ap, subst}
use Rattle.std.specs.List.{AllByRecursion}
use Rattle.std.specs.Str.{bytes_eq}
use Rattle.ice_defs.specs.declared.Verdict.{Verdict}
use Rattle.ice_defs.specs.declared.Verdict.TheVariants.{UnknownBidder}
use Rattle.ice_defs.specs.Prices.{Prices}
use Rattle.ice_defs.specs.Round.{Submission, Judged, Standing, is_accepted, of_name, IsVerdict, JudgesInOrder, is_known, IsRound, bounds_after, next_bounds}
use Rattle.ice_round_laws.specs.Laws.{submissions_of, OrderIsFree}
use Rattle.ice_round_laws.proofs.Apart.{AreJudged}
use Rattle.ice_round_laws.proofs.Verdicts.{one_verdict}
use Rattle.ice_defs.proofs.Naming.{same-bytes_eq}

-- ---- the submissions of one bidder

abbrev Stated : List Judged → List Submission
Stated judged = map (λ j. j.submission) judged

same_judged : (s t : Submission) (v w : Verdict) → s ≡ t → v ≡ w → ◌≡◌ {A = Judged} (record { submission = s; verdict = v }) (record { submission = t; verdict = w })
same_judged s t v w e f = cc

heads : (s t : Submission) (rest more : List Submission) → s ∷ rest ≡ t ∷ more → s ≡ t
heads s t rest more e = cc

tails : (s t : Submission) (rest more : List Submission) → s ∷ rest ≡ t ∷ more → rest ≡ more
tails s t rest more e = cc

module _ (p : Prices) (improve : ℤ) (bidder : Standing) where
  same_order : (taken : Bool) (one other : List Judged) → Stated one ≡ Stated other → JudgesInOrder p improve bidder taken one → JudgesInOrder p improve bidder taken other → one ≡ other
  same_order taken [] [] e a b = refl
  same_order taken [] (k ∷ rest) e a b = absurd (cc)
  same_order taken (j ∷ later) [] e a b = absurd (cc)
  same_order taken (j ∷ later) (k ∷ rest) e a b =
      let said : j.submission ≡ k.submission = heads j.submission k.submission (Stated later) (Stated rest) e in
      let is : IsVerdict p improve bidder taken j.submission k.verdict = subst (λ (s : Submission). IsVerdict p improve bidder taken s k.verdict) (sym said) b.0 in
      let first : j ≡ k = same_judged j.submission k.submission j.verdict k.verdict said (one_verdict p improve bidder taken j.submission j.verdict k.verdict a.0 is) in
      let others : later ≡ rest = same_order (taken || is_accepted j) later rest (tails j.submission k.submission (Stated later) (Stated rest) e) a.1
      (subst (λ (x : Judged). JudgesInOrder p improve bidder (taken || is_accepted x) rest) (sym first) b.1) in
      cc (first, others)

-- ---- the submissions of a name that no bidder has

abbrev IsUnknown : List Standing → Judged → Type 0
IsUnknown bidders j = is_known bidders j.submission.name ≡ false → j.verdict ≡ UnknownBidder

abbrev refused : Submission → Judged
refused s = record { submission = s; verdict = UnknownBidder }

unknown_all : (bidders : List Standing) (name : List ℕ) → is_known bidders name ≡ false → (judged : List Judged) → AllByRecursion (IsUnknown bidders) judged
    → of_name name judged ≡ map refused (submissions_of name judged)
unknown_all bidders name none [] all = refl
unknown_all bidders name none (j ∷ later) all = by (bytes_eq name j.submission.name) refl (unknown_all bidders name none later all.1)
  where
    by : (b : Bool) → bytes_eq name j.submission.name ≡ b → of_name name later ≡ map refused (submissions_of name later)
        → cond b (j ∷ of_name name later) (of_name name later) ≡ map refused (map (λ j. j.submission) (cond b (j ∷ of_name name later) (of_name name later)))
    by true e rest =
        let is : j.verdict ≡ UnknownBidder = all.0 (subst (λ (n : List ℕ). is_known bidders n ≡ false) (same-bytes_eq name j.submission.name e) none) in
        let first : j ≡ record { submission = j.submission; verdict = UnknownBidder } = same_judged j.submission j.submission j.verdict UnknownBidder refl is in
        cc (first, rest)
    by false e rest = rest

-- ---- any name

known_same : (p : Prices) (improve : ℤ) (bidders : List Standing) (one other : List Judged) (name : List ℕ) → is_known bidders name ≡ true
    → AreJudged p improve bidders one → AreJudged p improve bidders other → submissions_of name one ≡ submissions_of name other → of_name name one ≡ of_name name other
known_same p improve [] one other name known a b e = absurd (cc)
known_same p improve (bidder ∷ bidders) one other name known a b e = by (bytes_eq bidder.name name) refl known (λ others. known_same p improve bidders one other name others a.1 b.1 e)
  where
    by : (c : Bool) → bytes_eq bidder.name name ≡ c → (c || is_known bidders name) ≡ true → (is_known bidders name ≡ true → of_name name one ≡ of_name name other) → of_name name one ≡ of_name name other
    by false is others goes_on = goes_on others
    by true is others goes_on =
        let same : bidder.name ≡ name = same-bytes_eq bidder.name name is in
        same_order p improve bidder false (of_name name one) (of_name name other) e
        (subst (λ (n : List ℕ). JudgesInOrder p improve bidder false (of_name n one)) same a.0)
        (subst (λ (n : List ℕ). JudgesInOrder p improve bidder false (of_name n other)) same b.0)

same_verdicts : (p : Prices) (improve : ℤ) (bidders : List Standing) (one other : List Judged) (name : List ℕ) → IsRound p improve bidders one → IsRound p improve bidders other
    → submissions_of name one ≡ submissions_of name other → of_name name one ≡ of_name name other
same_verdicts p improve bidders one other name a b e = by (is_known bidders name) refl
  where
    by : (c : Bool) → is_known bidders name ≡ c → of_name name one ≡ of_name name other
    by true known = known_same p improve bidders one other name known a.each b.each e
    by false none = unknown_all bidders name none one a.unknown ∙ ap (map refused) e ∙ sym (unknown_all bidders name none other b.unknown)

pub same_bounds : (bidders : List Standing) (one other : List Judged) → ((name : List ℕ) → of_name name one ≡ of_name name other) → next_bounds bidders one ≡ next_bounds bidders other
same_bounds [] one other same = refl
same_bounds (bidder ∷ bidders) one other same =
    let first : bounds_after bidder.bounds (of_name bidder.name one) ≡ bounds_after bidder.bounds (of_name bidder.name other) = ap (bounds_after bidder.bounds) (same bidder.name) in
    cc (first, same_bounds bidders one other same)

pub order_is_free : OrderIsFree
order_is_free p improve bidders one other a b same =
    let each : (name : List ℕ) → of_name name one ≡ of_name name other = λ name. same_verdicts p improve bidders one other name a b (same name) in
    (each, same_bounds bidders one other each)
