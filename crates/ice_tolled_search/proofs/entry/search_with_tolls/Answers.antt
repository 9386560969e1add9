use Rattle.std.proofs.Common.{◌≡◌, Bool, List, ◌∙◌, arith, ap, sym, subst, refl, rules, [], append-nil, FitsSigned, to_z, of_z}
use mir.Syntax.{w128}
use Rattle.std.proofs.lemmas.Int.{to_z-of_z, ints}
use Rattle.ice_defs.specs.Tree.{Tree}
use Rattle.ice_defs.specs.Exchange.{trees_of, exact_of}
use Rattle.ice_defs.specs.Trade.{IsFeasible, MeetsAll, total_value}
use Rattle.ice_defs.specs.Follows.{AreLawful}
use Rattle.ice_tolled_search.specs.declared.stated.Stated.{Stated}
use Rattle.ice_tolled_search.specs.Pass.{IsPass, IsWhole}
use Rattle.ice_tolled_search.specs.Stated.{IsMore, AddsShown}
use Rattle.ice_tolled_search.proofs.Found.{whole_is_found}
use Rattle.ice_tolled_search.proofs.Shown.{adds_none}
use Rattle.ice_tolled_search.proofs.entry.search_with_tolls.Goals as goal
use Rattle.ice_tolled_search.proofs.entry.search_with_tolls.Goals.{then-finds+in_ok-find, else-finds+in_ok-take_stated}

-- they are lawful, and more than before
abbrev IsBegun : List Tree → List Bool → Stated → Stated → Type 0
IsBegun ts exact old new = AreLawful ts exact new.goods.goods × IsMore old.goods new.goods × AddsShown ts exact old.shown.items new.shown.items

pub find-requires-clause-lawful : goal.find-requires-clause-lawful
find-requires-clause-lawful c =
    subst (λ t. AreLawful t c.new-room.result c.args.stated.now.goods.goods) (sym c.trees-trees.ensures.value)
    (subst (λ x. AreLawful (trees_of c.args.exchange.now) x c.args.stated.now.goods.goods) (sym (c.new-room.ensures ∙ c.exact.ensures)) c.requires.lawful)

pub loop-pass-init : goal.loop-pass-init
loop-pass-init c =
    let ts = trees_of c.args.exchange.now in
    let exact = exact_of c.args.exchange.now in
    let ws = c.args.weights.now in
    let same : c.copy_from.new.self ≡ c.args.first.now = c.copy_from.ensures in
    let fits : FitsSigned w128 c.value-value.result = search rules in
    let has : total_value c.copy_from.new.self ws ≡ to_z w128 (of_z w128 c.value-value.result) = sym (to_z-of_z w128 c.value-value.result fits ∙ c.value-value.ensures.value) in
    let begun : IsBegun ts exact c.args.stated.now c.if-finds.stated =
    elim c.if-finds.branch [
      | then-finds+in_ok-find w ↦
          subst (IsBegun ts exact c.args.stated.now) (sym w.stated-is)
          (subst (λ t. IsBegun t exact c.args.stated.now w.find.new.stated) c.trees-trees.ensures.value
          (subst (λ x. IsBegun c.trees-trees.result.now x c.args.stated.now w.find.new.stated) (c.new-room.ensures ∙ c.exact.ensures)
          (w.in_ok-find.ensures.lawful, w.in_ok-find.ensures.more, w.in_ok-find.ensures.shown)))
      | else-finds+in_ok-take_stated w ↦
          subst (IsBegun ts exact c.args.stated.now) (sym w.stated-is) (
            c.requires.lawful,
            record { more = []; goods = sym (append-nil c.args.stated.now.goods.goods); nodes = refl; most = refl },
            adds_none ts exact c.args.stated.now.shown.items c.args.stated.now.shown.items refl,
          )
    ] in
    record {
      incumbent = record {
        feasible = subst (IsFeasible ts exact) (sym same) c.requires.feasible;
        meets = subst (λ a. MeetsAll a c.args.start.now) (sym same) c.requires.meets;
        has = has;
        no_less = omega (arith, ints, has, ap (λ a. total_value a ws) same);
      };
      nodes = begun.1.nodes ∙ c.requires.nodes;
      lawful = begun.0;
      more = begun.1;
      shown = begun.2;
      branches = refl;
    }

pub returns-in-Whole-clause-found : goal.returns-in-Whole-clause-found
returns-in-Whole-clause-found c =
    let ts = trees_of c.args.exchange.now in
    let exact = exact_of c.args.exchange.now in
    let ws = c.args.weights.now in
    let start = c.args.start.now in
    let v = to_z w128 c.loop-pass.value-bits in
    let log = c.in-Whole.log in
    let lawful = subst (AreLawful ts exact) (sym c.in_ok-log.ensures.same.goods) c.loop-pass.invariant.lawful in
    let passed = subst (IsPass c.loop-pass.stated.goods.goods ts exact ws v start c.loop-pass.branches) c.in-Whole.is c.in_ok-log.ensures.pass in
    let whole = subst (λ ds. IsWhole ds ts exact ws v start log) (sym c.in_ok-log.ensures.same.goods) passed.0 in
    record {
      found = whole_is_found c.pass.new.stated.goods.goods ts exact ws start c.args.first.now (record { value = v; sets = c.loop-pass.best; log = log }) lawful c.loop-pass.invariant.incumbent whole;
      counts = whole.counts;
    }

pub returns-in-Whole-clause-lawful : goal.returns-in-Whole-clause-lawful
returns-in-Whole-clause-lawful c = subst (AreLawful (trees_of c.args.exchange.now) (exact_of c.args.exchange.now)) (sym c.pass.ensures.same.goods) c.loop-pass.invariant.lawful

pub returns-then-not-is_feasible-clause-lawful : goal.returns-then-not-is_feasible-clause-lawful
returns-then-not-is_feasible-clause-lawful c = subst (AreLawful (trees_of c.args.exchange.now) (exact_of c.args.exchange.now)) (sym c.pass.ensures.same.goods) c.loop-pass.invariant.lawful

pub returns-then-worth-value-clause-lawful : goal.returns-then-worth-value-clause-lawful
returns-then-worth-value-clause-lawful c = subst (AreLawful (trees_of c.args.exchange.now) (exact_of c.args.exchange.now)) (sym c.pass.ensures.same.goods) c.loop-pass.invariant.lawful

pub returns-in-GivenUp-clause-lawful : goal.returns-in-GivenUp-clause-lawful
returns-in-GivenUp-clause-lawful c = subst (AreLawful (trees_of c.args.exchange.now) (exact_of c.args.exchange.now)) (sym c.pass.ensures.same.goods) c.loop-pass.invariant.lawful

pub loop-pass-preserved : goal.loop-pass-preserved
loop-pass-preserved c =
    let ts = trees_of c.args.exchange.now in
    let exact = exact_of c.args.exchange.now in
    let ws = c.args.weights.now in
    let is : IsFeasible ts exact c.in-Better.sets × MeetsAll c.in-Better.sets c.args.start.now = search rules in
    let fits : FitsSigned w128 c.value-worth.result = search rules in
    let has : total_value c.in-Better.sets ws ≡ to_z w128 (of_z w128 c.value-worth.result) = sym (to_z-of_z w128 c.value-worth.result fits ∙ c.value-worth.ensures.value) in
    record {
      incumbent = record {
        feasible = is.0;
        meets = is.1;
        has = has;
        no_less = omega (arith, ints, c.loop-pass.invariant.incumbent.no_less, c.if-worth-value.false, to_z-of_z w128 c.value-worth.result fits);
      };
      nodes = c.pass.ensures.same.nodes ∙ c.loop-pass.invariant.nodes;
      lawful = subst (AreLawful ts exact) (sym c.pass.ensures.same.goods) c.loop-pass.invariant.lawful;
      more = search rules;
      shown = record { more = c.loop-pass.invariant.shown.more; items = c.pass.ensures.shown ∙ c.loop-pass.invariant.shown.items; each = c.loop-pass.invariant.shown.each };
      branches = c.loop-pass.invariant.branches;
    }
