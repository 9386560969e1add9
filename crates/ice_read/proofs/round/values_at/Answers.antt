use Rattle.std.proofs.Common.{◌≡◌, ◌<◌, ◌≤◌, ◌∷◌, [], ◌++◌, refl, ◌∙◌, ap, arith, rules, length, decimal, lit<}
use Rattle.std.proofs.lemmas.Fmt.{length-decimal-le}
use Rattle.serde_json.specs.View.{view}
use Rattle.ice_read.specs.declared.cause.ReadCause.TheVariants.{Range}
use Rattle.ice_read.proofs.PlacesOfFaults.{refused}
use Rattle.ice_read.proofs.RoundParts.{place_length, too_long, none_read, one_more, all_read, fault_read}
use Rattle.ice_read.proofs.round.values_at.Goals as goal

pub returns-then-len-gt-MOST_VALUES-clause-reading : goal.returns-then-len-gt-MOST_VALUES-clause-reading
returns-then-len-gt-MOST_VALUES-clause-reading c = λ path. too_long path _ c.in_ok-items.items.now.items (c.in_ok-items.ensures.reading path) (omega arith) ∙ refused 4 Range c.of.result c.of.ensures refl path

pub loop-index-init : goal.loop-index-init
loop-index-init c = rw (c.deref-item-items.ensures.value, c.new-values.ensures) (none_read (view c.args.value.now) c.in_ok-items.items.now.items c.in_ok-items.ensures.reading (omega arith))

pub loop-index-preserved : goal.loop-index-preserved
loop-index-preserved c =
    let pushed : c.push.new.self.items ≡ c.loop-index.values.items ++ c.in-Ok.number ∷ [] = search rules in
    rw pushed (one_more (view c.args.value.now) c.deref-item-items.result.now c.loop-index.index c.loop-index.values.items c.item-item.result c.in-Ok.number c.loop-index.invariant c.loop-index-test.true c.item-item.is
    c.in-Ok.ensures.reading c.in-Ok.ensures.between)

pub push-requires : goal.push-requires
push-requires c = let room : length c.loop-index.values.items < 200 = omega (arith, c.deref-item-items.ensures.len) in (lit< tt, room)

pub returns-in-Err-clause-reading : goal.returns-in-Err-clause-reading
returns-in-Err-clause-reading c =
    fault_read (view c.args.value.now) c.deref-item-items.result.now c.loop-index.index c.loop-index.values.items c.item-item.result c.in-Err.fault c.at.result c.loop-index.invariant c.loop-index-test.true c.item-item.is
    c.in-Err.ensures.reading c.at.ensures.fault

pub returns-in-Err-clause-place : goal.returns-in-Err-clause-place
returns-in-Err-clause-place c =
    let short : length (decimal c.loop-index.index) ≤ 3 = length-decimal-le 3 c.loop-index.index (omega arith) (omega (arith, c.deref-item-items.ensures.len)) (omega (arith, c.deref-item-items.ensures.len)) in
    omega (arith, short, place_length (decimal c.loop-index.index) c.in-Err.fault c.at.result c.at.ensures.fault, ap length c.in-Err.ensures.place)

pub returns-clause-reading : goal.returns-clause-reading
returns-clause-reading c = all_read (view c.args.value.now) c.deref-item-items.result.now c.loop-index.index c.loop-index.values.items c.loop-index.invariant c.loop-index-test.false

pub returns-clause-values : goal.returns-clause-values
returns-clause-values c = record { few = omega (arith, c.deref-item-items.ensures.len, c.loop-index.invariant.count); each = c.loop-index.invariant.lawful }
