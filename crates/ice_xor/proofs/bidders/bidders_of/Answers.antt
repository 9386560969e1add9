use Rattle.std.proofs.Common.{◌≡◌, ◌∙◌, [], Err, decimal, refl, sym, ap}
use Rattle.serde_json.specs.View.{items_view}
use Rattle.ice_defs.specs.FileFault.{◌>>=◌}
use Rattle.ice_defs.specs.Lawful.{good_names}
use Rattle.ice_read.specs.declared.fault.ReadFault.{ReadFault}
use Rattle.ice_read.specs.declared.cause.ReadCause.TheVariants.{NoMemory}
use Rattle.ice_read.specs.Values.{at_index}
use Rattle.ice_read.proofs.PlacesOfFaults.{fault_below}
use Rattle.ice_xor.specs.FlatFile.{flat_bidders_from}
use Rattle.ice_xor.proofs.BiddersRead.{no-bidders, bad-bidder}
use Rattle.ice_xor.proofs.bidders.bidders_of.Goals as goal

pub loop-index-init : goal.loop-index-init
loop-index-init c = rw c.new-bidders.ensures.items (record { count = refl; lawful = no-bidders _; rest = λ path. refl })

pub returns-in-Err-clause-reading : goal.returns-in-Err-clause-reading
returns-in-Err-clause-reading c = λ other path.
    let names = good_names c.args.exchange.now in
    let vs = c.deref-item-items.result.now in
    let i = c.loop-index.index in
    let known = λ (memory : c.in-Err.fault.cause ≡ NoMemory). other (ap (λ (fault : ReadFault). fault.cause) c.at.ensures.fault ∙ memory) in
    ap (λ r. r >>= flat_bidders_from names path 0 []) (c.in_ok-items.ensures.reading path)
    ∙ ap (λ xs. flat_bidders_from names path 0 [] (items_view xs)) (sym c.deref-item-items.ensures.value)
    ∙ c.loop-index.invariant.rest path
    ∙ bad-bidder names path vs i c.loop-index.bidders.items c.item-item.result c.loop-index-test.true c.item-item.is _ (c.in-Err.ensures.refused known (at_index path i))
    ∙ ap Err (fault_below (decimal i) c.in-Err.fault c.at.result c.at.ensures.fault path)
