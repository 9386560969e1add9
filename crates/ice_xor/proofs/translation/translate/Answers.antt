use Rattle.std.proofs.Common.{◌≡◌, ◌∙◌, None, length, get_or, ap, arith, rules}
use Rattle.ice_xor.specs.Faults.{maker_fault_number}
use Rattle.ice_trade.specs.Parts.{with_bidder}
use Rattle.ice_xor.specs.FlatBids.{translated_bidder}
use Rattle.ice_xor.proofs.Translated.{due_at, due_number, translating-more, translating-refused}
use Rattle.ice_xor.proofs.translation.translate.Goals as goal

pub returns-in-Err-clause-refused : goal.returns-in-Err-clause-refused
returns-in-Err-clause-refused c =
    let flat = c.args.flat.now in
    let ex = c.loop-bidder.exchange in
    let i = c.loop-bidder.bidder in
    let b = c.flat_bidder-item.result in
    let items = c.bidders-flat_bidder-items.ensures.value in
    let item : b ≡ get_or flat.bidders i b = c.flat_bidder-item.is ∙ ap (λ xs. get_or xs i b) items in
    let due = due_number _ (maker_fault_number c.in-Err.cause) c.in-Err.ensures.refused.0 c.in-Err.ensures.refused.1 in
    (due.0, due.1, translating-refused flat ex i b c.loop-bidder.invariant.translating (omega (arith, ap length items)) item due.0 due.2)

pub loop-bidder-preserved : goal.loop-bidder-preserved
loop-bidder-preserved c =
    let flat = c.args.flat.now in
    let ex = c.loop-bidder.exchange in
    let i = c.loop-bidder.bidder in
    let b = c.flat_bidder-item.result in
    let items = c.bidders-flat_bidder-items.ensures.value in
    let item : b ≡ get_or flat.bidders i b = c.flat_bidder-item.is ∙ ap (λ xs. get_or xs i b) items in
    let none : due_at (length ex.goods) ex.bidders b ≡ None = search rules in
    let made : c.add_bidder.new.exchange ≡ with_bidder ex (translated_bidder b) = search rules in
    record { translating = translating-more flat ex i b c.loop-bidder.invariant.translating (omega (arith, ap length items)) item c.add_bidder.new.exchange none made }
