use Rattle.std.proofs.Common.{arith, ◌∙◌, ◌∷◌}
use Rattle.ice_migrate.proofs.Located.{located, split_is, stands_behind}
use Rattle.ice_migrate.proofs.behind.order_fault.Goals as goal

pub returns-in_err-counts : goal.returns-in_err-counts
returns-in_err-counts c = λ journal is old stops.
    let x = located c.args.stop journal old stops in
    absurd (c.in_err-counts.ensures.counts x.before (x.first ∷ x.after) (split_is c.args.bytes.now c.new-records.result journal c.args.stop x c.new-records.ensures is) (omega (arith, x.count, c.saturating_sub-before.ensures)))

pub returns-in_err-first : goal.returns-in_err-first
returns-in_err-first c = λ journal is old stops.
    let x = located c.args.stop journal old stops in
    let counts = c.in_ok-counts.ensures.counts x.before (x.first ∷ x.after) (split_is c.args.bytes.now c.new-records.result journal c.args.stop x c.new-records.ensures is) (omega (arith, x.count, c.saturating_sub-before.ensures)) in
    absurd (c.in_err-first.ensures.next (x.first ∷ x.after) counts.2)

pub returns : goal.returns
returns c = λ journal is old stops.
    let x = located c.args.stop journal old stops in
    let counts = c.in_ok-counts.ensures.counts x.before (x.first ∷ x.after) (split_is c.args.bytes.now c.new-records.result journal c.args.stop x c.new-records.ensures is) (omega (arith, x.count, c.saturating_sub-before.ensures)) in
    let next = c.in_ok-first.ensures.next (x.first ∷ x.after) counts.2 in
    x.order
    ∙ c.first_out_of_order.ensures x.now x.after next.1
    (stands_behind journal c.args.stop x c.in_ok-counts.counts c.behind-place.result c.in_ok-first.first c.saturating_sub-before.result (omega (arith, x.count, c.saturating_sub-before.ensures)) counts.0 counts.1 next.0 c.behind-place.ensures.place)
