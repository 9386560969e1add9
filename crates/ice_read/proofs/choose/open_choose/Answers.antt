use Rattle.std.proofs.Common.{◌≡◌, ◌∙◌, Ok, Some, None, refl, sym, ap, rules}
use Rattle.serde_json.specs.View.{view, items_view}
use Rattle.ice_defs.specs.declared.NodeKind.TheVariants.{Choose}
use Rattle.ice_defs.specs.Making.{draft_refusal, with_open}
use Rattle.ice_tree.specs.Fault.{tree_fault_number}
use Rattle.ice_read.specs.declared.cause.ReadCause.TheVariants.{Tree}
use Rattle.ice_read.specs.Reading.{made_so_far}
use Rattle.ice_read.specs.TreeFile.{Interval}
use Rattle.ice_read.proofs.PlacesOfFaults.{refused}
use Rattle.ice_read.proofs.Refusals.{opened_chain, made, unmade}
use Rattle.ice_read.proofs.choose.open_choose.Goals as goal

pub returns-in-Ok-clause-opened : goal.returns-in-Ok-clause-opened
returns-in-Ok-clause-opened c =
    let d = c.args.maker.now.draft in
    let interval : Interval = record { least = c.in_ok-interval.interval.least; most = c.in_ok-interval.interval.most } in
    let due : draft_refusal c.args.maker.now.goods d (Choose interval.least interval.most) c.in_ok-lo.lo c.in_ok-hi.hi ≡ None = search rules in
    let after : c.open_choose.new.self.draft ≡ with_open d (Choose interval.least interval.most) c.in_ok-lo.lo c.in_ok-hi.hi = search rules in (
      interval,
      λ goods path.
          opened_chain goods d path (view c.args.value.now) interval c.in_ok-lo.lo c.in_ok-hi.hi (items_view c.in_ok-items.items.now.items) (c.in_ok-interval.ensures.reading path) (c.in_ok-lo.ensures.reading path) (c.in_ok-hi.ensures.reading path) (c.in_ok-items.ensures.reading path)
          ∙ rw (made goods d (Choose interval.least interval.most) c.in_ok-lo.lo c.in_ok-hi.hi path c.requires.going c.requires.deep due)
          (ap (λ x. Ok (record { interval = interval; items = items_view c.in_ok-items.items.now.items; made = made_so_far x })) (sym after)),
    )

pub returns-in-Err-clause-refused : goal.returns-in-Err-clause-refused
returns-in-Err-clause-refused c =
    let d = c.args.maker.now.draft in
    let interval : Interval = record { least = c.in_ok-interval.interval.least; most = c.in_ok-interval.interval.most } in
    let due : draft_refusal c.args.maker.now.goods d (Choose interval.least interval.most) c.in_ok-lo.lo c.in_ok-hi.hi ≡ Some (tree_fault_number c.in-Err.fault) = search rules in
    λ goods path.
    opened_chain goods d path (view c.args.value.now) interval c.in_ok-lo.lo c.in_ok-hi.hi (items_view c.in_ok-items.items.now.items) (c.in_ok-interval.ensures.reading path) (c.in_ok-lo.ensures.reading path) (c.in_ok-hi.ensures.reading path) (c.in_ok-items.ensures.reading path)
    ∙ rw (unmade goods d (Choose interval.least interval.most) c.in_ok-lo.lo c.in_ok-hi.hi path (tree_fault_number c.in-Err.fault) c.requires.going c.requires.deep due)
    (refused (tree_fault_number c.in-Err.fault) (Tree c.in-Err.fault) c.of.result c.of.ensures refl path)
