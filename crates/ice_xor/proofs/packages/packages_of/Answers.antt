use Rattle.std.proofs.Common.{◌≡◌, ◌<◌, ◌∙◌, ◌++◌, ◌∷◌, [], length, vec_len, Err, decimal, refl, sym, ap, arith, rules}
use Rattle.std.proofs.lemmas.Bool.{eqb-true, eq-eqb}
use Rattle.serde_json.specs.View.{view}
use Rattle.ice_defs.specs.Lawful.{good_names}
use Rattle.ice_read.specs.declared.cause.ReadCause.TheVariants.{NoPackages, NoMemory}
use Rattle.ice_read.specs.declared.fault.ReadFault.{ReadFault}
use Rattle.ice_read.specs.Fault.{fault_at}
use Rattle.ice_read.specs.Values.{at_index}
use Rattle.ice_read.proofs.PlacesOfFaults.{refused, fault_below}
use Rattle.ice_read.proofs.ArrayElements.{first, next, stops}
use Rattle.ice_xor.specs.FlatFile.{package_at, packages_at}
use Rattle.ice_xor.proofs.Listed.{packages-listed, no-packages, positive}
use Rattle.ice_xor.proofs.packages.packages_of.Goals as goal

pub returns-then-is_empty-clause-reading : goal.returns-then-is_empty-clause-reading
returns-then-is_empty-clause-reading c = λ other path.
    let empty : vec_len c.in_ok-items.items.now ≡ 0 = eqb-true (vec_len c.in_ok-items.items.now) 0 (sym c.is_empty.ensures ∙ c.if-is_empty.true) in
    let none : length c.in_ok-items.items.now.items ≡ 0 = omega (arith, empty) in
    no-packages (good_names c.args.exchange.now) path (view c.args.value.now) c.in_ok-items.items.now.items (c.in_ok-items.ensures.reading path) none
    ∙ refused 91 NoPackages c.of.result c.of.ensures refl path

pub loop-index-init : goal.loop-index-init
loop-index-init c =
    let names = good_names c.args.exchange.now in
    let some : 0 < length c.in_ok-items.items.now.items = positive _ (λ none. let is = eq-eqb (vec_len c.in_ok-items.items.now) 0 (omega (arith, none, c.deref-item-items.ensures.len, ap length c.deref-item-items.ensures.value)) in let not = sym c.is_empty.ensures ∙ c.if-is_empty.false in absurd cc) in
    record {
      read = λ path. rw (c.deref-item-items.ensures.value, c.new-packages.ensures.items)
          (first (package_at names) (packages_at names path (view c.args.value.now)) path c.in_ok-items.items.now.items (packages-listed names path (view c.args.value.now) c.in_ok-items.items.now.items (c.in_ok-items.ensures.reading path) some));
    }

pub returns-in-Err-clause-reading : goal.returns-in-Err-clause-reading
returns-in-Err-clause-reading c = λ other path.
    let names = good_names c.args.exchange.now in
    let i = c.loop-index.index in
    let known = λ (memory : c.in-Err.fault.cause ≡ NoMemory). other (ap (λ (fault : ReadFault). fault.cause) c.at_any.ensures.fault ∙ memory) in
    stops (package_at names) (packages_at names path (view c.args.value.now)) path c.deref-item-items.result.now i c.loop-index.packages.items c.item-item.result (fault_at (at_index path i) c.in-Err.fault) (c.loop-index.invariant.read path)
    c.loop-index-test.true c.item-item.is (c.in-Err.ensures.reading known (at_index path i))
    ∙ ap Err (fault_below (decimal i) c.in-Err.fault c.at_any.result c.at_any.ensures.fault path)

pub loop-index-preserved : goal.loop-index-preserved
loop-index-preserved c =
    let names = good_names c.args.exchange.now in
    let i = c.loop-index.index in
    let pushed : c.push.new.self.items ≡ c.loop-index.packages.items ++ c.in-Ok.package ∷ [] = search rules in
    record {
      read = λ path. rw pushed (next (package_at names) (packages_at names path (view c.args.value.now)) path c.deref-item-items.result.now i c.loop-index.packages.items c.item-item.result c.in-Ok.package (c.loop-index.invariant.read path)
          c.loop-index-test.true c.item-item.is (c.in-Ok.ensures.reading (at_index path i)));
    }
