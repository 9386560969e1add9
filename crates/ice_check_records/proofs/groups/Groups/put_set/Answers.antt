use Rattle.std.proofs.Common.{sym, ◌∙◌}
use Rattle.std.proofs.lemmas.Bool.{true≢false}
use Rattle.ice_check_records.proofs.Grouped.{set_taken, sets_closed}
use Rattle.ice_check_records.proofs.groups.Groups.put_set.Goals as goal

pub returns-then-is_full : goal.returns-then-is_full
returns-then-is_full c =
    sets_closed c.args.self.now c.args.set.now c.requires.ready.1 c.requires.satisfied c.args.group c.requires.ready.0 c.requires.taken c.put.new.self c.end_sets.result c.end_sets.new.self c.requires.kept c.requires.ready.2 c.put.ensures
    (c.is_full.ensures.0 c.if-is_full.true) c.end_sets.ensures

pub returns-else-is_full : goal.returns-else-is_full
returns-else-is_full c =
    set_taken c.args.group c.args.self.now c.args.set.now c.requires.ready.1 c.requires.satisfied c.requires.taken c.put.new.self c.requires.next c.requires.kept c.requires.ready.0 c.requires.ready.2 c.put.ensures
    (λ e. true≢false (sym (c.is_full.ensures.1 e) ∙ c.if-is_full.false))
