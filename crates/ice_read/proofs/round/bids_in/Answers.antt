use Rattle.std.proofs.Common.{refl, sym, ap, ◌∙◌, [], arith}
use Rattle.std.specs.Prelude.{codes, Err}
use Rattle.serde_json.specs.View.{view}
use Rattle.ice_read.specs.Values.{array_of, at_member}
use Rattle.ice_read.specs.declared.fault.ReadFault.{ReadFault}
use Rattle.ice_read.specs.declared.cause.ReadCause.TheVariants.{Range}
use Rattle.ice_read.proofs.PlacesOfFaults.{refused, fault_below}
use Rattle.ice_read.proofs.FaultNumbers.{numbered, no_memory, array_plain}
use Rattle.ice_read.proofs.RoundParts.{bids_listed, too_many}
use Rattle.ice_read.proofs.round.bids_in.Goals as goal

pub returns-in-Ok-clause-reading : goal.returns-in-Ok-clause-reading
returns-in-Ok-clause-reading c =
    bids_listed (view c.args.file.now) (view c.in_ok-member.field-0.now) c.in-Ok.items.now.items (sym c.if-not-has_exactly.ensures) c.in_ok-member.ensures c.in-Ok.ensures.reading (omega arith)

pub returns-in-Ok-2-clause-reading : goal.returns-in-Ok-2-clause-reading
returns-in-Ok-2-clause-reading c =
    too_many (view c.args.file.now) (view c.in_ok-member.field-0.now) c.in-Ok.items.now.items (sym c.if-not-has_exactly.ensures) c.in_ok-member.ensures c.in-Ok.ensures.reading (omega arith)
    ∙ refused 4 Range c.of-in-Ok-2.result c.of-in-Ok-2.ensures refl (at_member [] (codes "bids"))
    ∙ ap Err (fault_below (codes "bids") c.of-in-Ok-2.result c.under.result c.under.ensures [])

pub returns-in-Err-clause-place : goal.returns-in-Err-clause-place
returns-in-Err-clause-place c = λ memory.
    absurd (no_memory (array_of [] (view c.in_ok-member.field-0.now)) [] c.in-Err.fault (numbered _ (array_plain [] (view c.in_ok-member.field-0.now))) (c.in-Err.ensures.reading []) (sym (ap (λ (fault : ReadFault). fault.cause) c.under-in-Err.ensures) ∙ memory))
