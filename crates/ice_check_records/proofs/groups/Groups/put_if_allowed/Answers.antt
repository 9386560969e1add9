use Rattle.std.proofs.Common.{sym, ◌∙◌}
use Rattle.std.proofs.lemmas.Bool.{true≢false}
use Rattle.ice_check_records.specs.Groups.{at_hand}
use Rattle.ice_check_records.proofs.Grouped.{left_out_set}
use Rattle.ice_check_records.proofs.groups.Groups.put_if_allowed.Goals as goal

pub returns-then-is_left_out : goal.returns-then-is_left_out
returns-then-is_left_out c =
    let g = c.args.self.now in
    left_out_set c.args.group g c.args.set.now c.requires.ready.1 c.requires.satisfied ((c.is_left_out.ensures (at_hand g) (sym c.taken.ensures)).0 c.if-is_left_out.true)

pub put_set-requires-clause-taken : goal.put_set-requires-clause-taken
put_set-requires-clause-taken c = λ left. true≢false (sym ((c.is_left_out.ensures (at_hand c.args.self.now) (sym c.taken.ensures)).1 left) ∙ c.if-is_left_out.false)
