use Rattle.std.proofs.Common.{◌≡◌, ◌≤◌, sym, ap, ◌∙◌, [], ◌∷◌, ◌++◌, arith, rules, length, decimal}
use Rattle.std.specs.Prelude.{codes}
use Rattle.std.proofs.lemmas.Fmt.{length-decimal-le}
use Rattle.serde_json.specs.View.{view}
use Rattle.ice_read.specs.declared.fault.ReadFault.{ReadFault}
use Rattle.ice_read.specs.Values.{at_member, at_index}
use Rattle.ice_read.specs.RoundFile.{bid_at, bids_of_value}
use Rattle.ice_read.proofs.ArrayElements.{next}
use Rattle.ice_read.proofs.FaultNumbers.{numbered, no_memory, bid_plain}
use Rattle.ice_read.proofs.RoundParts.{place_length, bid_fault}
use Rattle.ice_read.proofs.round.bids_of.Goals as goal

pub under-requires : goal.under-requires
under-requires c =
    let short : length (decimal c.loop-index.index) ≤ 3 =
    length-decimal-le 3 c.loop-index.index (omega arith) (omega (arith, c.deref-item-items.ensures.len, c.in_ok-items.ensures.few)) (omega (arith, c.deref-item-items.ensures.len, c.in_ok-items.ensures.few)) in
    omega (arith, short, place_length (decimal c.loop-index.index) c.in-Err.fault c.at.result c.at.ensures.fault, c.in-Err.ensures.place)

pub returns-in-Err-clause-answer : goal.returns-in-Err-clause-answer
returns-in-Err-clause-answer c = λ other.
    bid_fault (bids_of_value (view c.args.file.now)) c.deref-item-items.result.now c.loop-index.index c.loop-index.bids.items c.item-item.result c.in-Err.fault c.at.result c.under.result c.loop-index.invariant c.loop-index-test.true c.item-item.is
    c.in-Err.ensures.reading c.at.ensures.fault c.under.ensures

pub returns-in-Err-clause-memory : goal.returns-in-Err-clause-memory
returns-in-Err-clause-memory c = λ memory.
    let same = sym (ap (λ (fault : ReadFault). fault.cause) c.at.ensures.fault) ∙ sym (ap (λ (fault : ReadFault). fault.cause) c.under.ensures) ∙ memory in
    absurd (no_memory (bid_at [] (view c.item-item.result)) [] c.in-Err.fault (numbered _ (bid_plain [] (view c.item-item.result))) (c.in-Err.ensures.reading []) same)

pub loop-index-preserved : goal.loop-index-preserved
loop-index-preserved c =
    let pushed : c.push.new.self.items ≡ c.loop-index.bids.items ++ c.in-Ok.bid ∷ [] = search rules in
    rw pushed (next bid_at (bids_of_value (view c.args.file.now)) (at_member [] (codes "bids")) c.deref-item-items.result.now c.loop-index.index c.loop-index.bids.items c.item-item.result c.in-Ok.bid c.loop-index.invariant c.loop-index-test.true c.item-item.is
    (c.in-Ok.ensures.reading (at_index (at_member [] (codes "bids")) c.loop-index.index)))
