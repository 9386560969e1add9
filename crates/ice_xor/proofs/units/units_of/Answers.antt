use Rattle.std.proofs.Common.{◌≡◌, ◌<◌, ◌∙◌, List, length, rules, refl, sym, ap}
use Rattle.serde_json.specs.View.{view, members_view}
use Rattle.ice_defs.specs.FileFault.{Read, ◌>>=◌}
use Rattle.ice_defs.specs.Lawful.{good_names}
use Rattle.ice_read.specs.declared.cause.ReadCause.TheVariants.{NoUnits}
use Rattle.ice_read.proofs.PlacesOfFaults.{refused}
use Rattle.ice_xor.specs.declared.units.GoodUnits.{GoodUnits}
use Rattle.ice_xor.specs.FlatFile.{units_one, units_from}
use Rattle.ice_xor.proofs.Listed.{units-listed, no-units, positive}
use Rattle.ice_xor.proofs.units.units_of.Goals as goal

pub returns-then-is_empty-clause-reading : goal.returns-then-is_empty-clause-reading
returns-then-is_empty-clause-reading c = λ other path.
    let none : length c.in_ok-members.members.now.entries ≡ 0 = c.is_empty.ensures.0 c.if-is_empty.true in
    no-units (good_names c.args.exchange.now) path (view c.args.value.now) c.in_ok-members.members.now.entries (c.in_ok-members.ensures.reading path) none
    ∙ refused 90 NoUnits c.of.result c.of.ensures refl path

pub returns-in-Err-clause-reading : goal.returns-in-Err-clause-reading
returns-in-Err-clause-reading c = λ other path.
    let names = good_names c.args.exchange.now in
    let some : 0 < length c.in_ok-members.members.now.entries = positive _ (λ none. let is = c.is_empty.ensures.1 none in let not = c.if-is_empty.false in absurd cc) in
    let gives : c.into_iter-name-iterator.result ≡ c.in_ok-members.members.now.entries = search (rules, c.into_iter-name-iterator.ensures.into_iter_gives) in
    let items = c.loop-name.units.items in
    let later = λ (r : Read (List GoodUnits)). r >>= λ more. units_from names path more (members_view c.next.new.self) in
    units-listed names path (view c.args.value.now) c.in_ok-members.members.now.entries (c.in_ok-members.ensures.reading path) some
    ∙ ap (λ us. units_from names path us (members_view c.in_ok-members.members.now.entries)) (sym c.new-units.ensures.items)
    ∙ ap (λ es. units_from names path c.new-units.result.items (members_view es)) (sym gives)
    ∙ c.loop-name.invariant.rest path
    ∙ ap (λ es. units_from names path items (members_view es)) c.in-Some.ensures.steps
    ∙ ap (λ name. later (units_one names path items name (view c.in-Some.value.now))) (sym c.as_str.ensures.value)
    ∙ ap later (c.in-Err.ensures.refused other path)

pub returns-clause-reading : goal.returns-clause-reading
returns-clause-reading c = λ path.
    let names = good_names c.args.exchange.now in
    let some : 0 < length c.in_ok-members.members.now.entries = positive _ (λ none. let is = c.is_empty.ensures.1 none in let not = c.if-is_empty.false in absurd cc) in
    let gives : c.into_iter-name-iterator.result ≡ c.in_ok-members.members.now.entries = search (rules, c.into_iter-name-iterator.ensures.into_iter_gives) in
    units-listed names path (view c.args.value.now) c.in_ok-members.members.now.entries (c.in_ok-members.ensures.reading path) some
    ∙ ap (λ us. units_from names path us (members_view c.in_ok-members.members.now.entries)) (sym c.new-units.ensures.items)
    ∙ ap (λ es. units_from names path c.new-units.result.items (members_view es)) (sym gives)
    ∙ c.loop-name.invariant.rest path
    ∙ ap (λ es. units_from names path c.loop-name.units.items (members_view es)) c.in-None.ensures.steps.0
