use Rattle.std.proofs.Common.{◌∙◌, sym, ap}
use Rattle.std.specs.Prelude.{option_map}
use Rattle.ice_simulation.specs.Faults.{fault_of}
use Rattle.ice_simulation.specs.TruthFile.{truth_fault}
use Rattle.ice_simulation.proofs.Holding.{truths_hold}
use Rattle.ice_session_commands.proofs.truths.truths_of.Goals as goal

pub returns-in-None-clause-hold : goal.returns-in-None-clause-hold
returns-in-None-clause-hold c =
    let ex = c.args.exchange.now in
    truths_hold ex c.in-Ok.bids.items c.bidders-bidders.ensures.lawful (ap (truth_fault ex) (sym c.deref.ensures.value) ∙ sym c.truth_fault.ensures ∙ ap (option_map fault_of) c.in-None.is)
