-- Bids that state true values are accepted, and are the next bounds.
use Rattle.std.proofs.Common.{ℕ, suc, ◌<◌, ◌≡◌, true, false, List, [], ◌∷◌, length, map, drop, slice_index_or, ℤ, refl, sym, ap, subst, arith, ◌∙◌}
use Rattle.std.specs.List.{AllByRecursion, AllZip, IsDistinct}
use Rattle.std.specs.Str.{bytes_eq}
use Rattle.std.proofs.lemmas.Bool.{eq-eqb}
use Rattle.ice_defs.specs.declared.Verdict.{Verdict}
use Rattle.ice_defs.specs.declared.Verdict.TheVariants.{Accepted}
use Rattle.ice_defs.specs.Tree.{Tree}
use Rattle.ice_defs.specs.Set.{IsSatisfied}
use Rattle.ice_defs.specs.Trade.{Assignment, tree_of, set_of}
use Rattle.ice_defs.specs.Bounds.{Bounds, bounds_of}
use Rattle.ice_defs.specs.Prices.{Prices}
use Rattle.ice_defs.specs.Judging.{IsJudged}
use Rattle.ice_defs.specs.Round.{Submission, Judged, Standing, stated_bounds, is_acceptance, is_accepted, of_name, IsVerdict, JudgesInOrder, bounds_after, next_bounds, has_tree_length}
use Rattle.ice_defs.specs.Exchange.{Bidder, names_of}
use Rattle.ice_defs.specs.Lawful.{AreBounds}
use Rattle.ice_defs.specs.Session.{standings_from, standings}
use Rattle.ice_defs.proofs.Naming.{bytes_eq-same}
use Rattle.ice_round_laws.proofs.Naming.{standings_are_named}
use Rattle.ice_round_laws.proofs.Apart.{AreOthers, AreJudged, others_judged, others_next}
use Rattle.ice_rules.proofs.Exact.{exact_is_accepted, accepted_alone}
use Rattle.ice_trial.specs.Truths.{IsTruth, AreTruths, truth_bids}
use Rattle.ice_trial.specs.Laws.{TruthsAreAccepted}

-- ---- one bidder

-- a satisfied set, bounds of the tree, and true values inside them
record IsSure (bidder : Standing) (truth : Bounds) : Type 0 where
  satisfied : IsSatisfied bidder.tree bidder.set
  nodes : length bidder.bounds.lo ≡ length bidder.tree
  is_truth : IsTruth bidder.bounds truth

abbrev bid : List ℕ → Bounds → Submission
bid name truth = record { name = name; lo = truth.lo; hi = truth.hi }

counts_nodes : (bidder : Standing) (truth : Bounds) → IsSure bidder truth → has_tree_length bidder.tree (bid bidder.name truth) ≡ true
counts_nodes bidder truth sure =
    let lo : length truth.lo ≡ length bidder.tree = sure.is_truth.inside.same_length ∙ sure.nodes in
    let hi : length truth.hi ≡ length bidder.tree = ap length sure.is_truth.exact ∙ lo in
    rw (eq-eqb (length truth.lo) (length bidder.tree) lo, eq-eqb (length truth.hi) (length bidder.tree) hi) refl

truth_accepted : (p : Prices) (improve : ℤ) (bidder : Standing) (truth : Bounds) (verdict : Verdict) → IsSure bidder truth → IsVerdict p improve bidder false (bid bidder.name truth) verdict → verdict ≡ Accepted
truth_accepted p improve bidder truth verdict sure is =
    let exact : IsJudged bidder.tree p improve bidder.set bidder.bounds (record { lo = truth.lo; hi = truth.lo }) Accepted =
    exact_is_accepted bidder.tree p improve bidder.set bidder.bounds truth.lo sure.satisfied (sure.is_truth.inside.same_length ∙ sure.nodes) sure.is_truth.inside in
    accepted_alone bidder.tree p improve bidder.set bidder.bounds (record { lo = truth.lo; hi = truth.hi }) verdict (is.0 (counts_nodes bidder truth sure))
    (subst (λ (hi : List ℤ). IsJudged bidder.tree p improve bidder.set bidder.bounds (record { lo = truth.lo; hi = hi }) Accepted) (sym sure.is_truth.exact) exact)

-- ---- names apart

first_is : {x y : Submission} {xs ys : List Submission} → x ∷ xs ≡ y ∷ ys → x ≡ y
first_is {x} e = ap (λ (l : List Submission). slice_index_or l 0 x) e

rest_are : {x y : Submission} {xs ys : List Submission} → x ∷ xs ≡ y ∷ ys → xs ≡ ys
rest_are e = ap (drop 1) e

-- the bids of others are none of this name
none_named : (name : List ℕ) (bidders : List Standing) (truths : List Bounds) (judged : List Judged) → AreOthers name bidders
    → map (λ (j : Judged). j.submission) judged ≡ truth_bids (map (λ (b : Standing). b.name) bidders) truths → of_name name judged ≡ []
none_named name bidders truths [] others said = refl
none_named name [] truths (j ∷ judged) others said = absurd (cc)
none_named name (b ∷ bidders) [] (j ∷ judged) others said = absurd (cc)
none_named name (b ∷ bidders) (t ∷ truths) (j ∷ judged) others said =
    let is : bytes_eq name j.submission.name ≡ false = ap (λ (s : Submission). bytes_eq name s.name) (first_is said) ∙ others.0 in
    rw is (none_named name bidders truths judged others.1 (rest_are said))

-- ---- all bidders

taken : (old truth : Bounds) (name : List ℕ) (j : Judged) → j.submission ≡ bid name truth → j.verdict ≡ Accepted → bounds_after old (j ∷ []) ≡ truth
taken old truth name j said accepted =
    let is : is_accepted j ≡ true = ap is_acceptance accepted in
    rw is (ap stated_bounds said)

all_accepted : (p : Prices) (improve : ℤ) (bidders : List Standing) (truths : List Bounds) (judged : List Judged) → IsDistinct bytes_eq (map (λ (b : Standing). b.name) bidders) → AllZip IsSure bidders truths
    → AreJudged p improve bidders judged → map (λ (j : Judged). j.submission) judged ≡ truth_bids (map (λ (b : Standing). b.name) bidders) truths
    → AllByRecursion (λ j. j.verdict ≡ Accepted) judged × (next_bounds bidders judged ≡ truths)
unfolding IsDistinct
all_accepted p improve [] [] [] distinct sure are said = (tt, refl)
all_accepted p improve [] [] (j ∷ judged) distinct sure are said = absurd (cc)
all_accepted p improve [] (t ∷ truths) judged distinct sure are said = absurd sure
all_accepted p improve (b ∷ bidders) [] judged distinct sure are said = absurd sure
all_accepted p improve (b ∷ bidders) (t ∷ truths) [] distinct sure are said = absurd (cc)
all_accepted p improve (b ∷ bidders) (t ∷ truths) (j ∷ judged) distinct sure are said =
    let first : j.submission ≡ bid b.name t = first_is said in
    let named : j.submission.name ≡ b.name = ap (λ (s : Submission). s.name) first in
    let own : bytes_eq b.name j.submission.name ≡ true = bytes_eq-same b.name j.submission.name (sym named) in
    let alone : of_name b.name judged ≡ [] = none_named b.name bidders truths judged distinct.0 (rest_are said) in
    let mine : of_name b.name (j ∷ judged) ≡ j ∷ [] = rw own (ap (λ (js : List Judged). j ∷ js) alone) in
    let judges : JudgesInOrder p improve b false (j ∷ []) = subst (JudgesInOrder p improve b false) mine are.0 in
    let accepted : j.verdict ≡ Accepted = truth_accepted p improve b t j.verdict sure.0 (subst (λ (s : Submission). IsVerdict p improve b false s j.verdict) first judges.0) in
    let rest = all_accepted p improve bidders truths judged distinct.1 sure.1 (others_judged p improve b.name bidders j judged distinct.0 named are.1) (rest_are said) in (
      (accepted, rest.0),
      ap (λ (js : List Judged). bounds_after b.bounds js ∷ next_bounds bidders (j ∷ judged)) mine
          ∙ ap (λ (x : Bounds). x ∷ next_bounds bidders (j ∷ judged)) (taken b.bounds t b.name j first accepted)
          ∙ ap (λ (bs : List Bounds). t ∷ bs) (others_next b.name bidders j judged distinct.0 named ∙ rest.1),
    )

-- ---- the bidders of an exchange

abbrev trees_in : List Bidder → List Tree
trees_in bidders = map (λ (bidder : Bidder). bidder.tree) bidders

all_sure : (bidders : List Bidder) (bounds truths : List Bounds) (sets : Assignment) → length bounds ≡ length bidders → length sets ≡ length bidders
    → ((b : ℕ) → b < length bidders → AreBounds (length (tree_of (trees_in bidders) b)) (bounds_of bounds b))
    → ((b : ℕ) → b < length bidders → IsSatisfied (tree_of (trees_in bidders) b) (set_of sets b)) → AreTruths bounds truths → AllZip IsSure (standings_from bidders bounds sets) truths
all_sure [] [] [] sets same count bounded satisfied are = tt
all_sure [] [] (t ∷ truths) sets same count bounded satisfied are = absurd are
all_sure [] (now ∷ bounds) truths sets same count bounded satisfied are = absurd (omega (arith, same))
all_sure (b ∷ bidders) [] truths sets same count bounded satisfied are = absurd (omega (arith, same))
all_sure (b ∷ bidders) (now ∷ bounds) truths [] same count bounded satisfied are = absurd (omega (arith, count))
all_sure (b ∷ bidders) (now ∷ bounds) [] (s ∷ sets) same count bounded satisfied are = absurd are
all_sure (b ∷ bidders) (now ∷ bounds) (t ∷ truths) (s ∷ sets) same count bounded satisfied are = (
  record { satisfied = satisfied 0 (omega arith); nodes = (bounded 0 (omega arith)).lo_count; is_truth = are.0 },
  all_sure bidders bounds truths sets (omega (arith, same)) (omega (arith, count)) (λ c h. bounded (suc c) (omega (arith, h))) (λ c h. satisfied (suc c) (omega (arith, h))) are.1,
)

pub truths_are_accepted : TruthsAreAccepted
truths_are_accepted ex bounds truths sets p improve judged lawful same bounded count satisfied are round said =
    let named : map (λ (b : Standing). b.name) (standings ex bounds sets) ≡ names_of ex = standings_are_named ex bounds sets same count in
    all_accepted p improve (standings ex bounds sets) truths judged (subst (IsDistinct bytes_eq) (sym named) lawful.names)
    (all_sure ex.bidders bounds truths sets same count bounded satisfied are) round.each (subst (λ (names : List (List ℕ)). map (λ (j : Judged). j.submission) judged ≡ truth_bids names truths) (sym named) said)
