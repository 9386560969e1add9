use Rattle.ice_search.proofs.Opened.{are_opened}
use Rattle.ice_search.proofs.frontier.open_children.Goals as goal

pub returns-clause-opened : goal.returns-clause-opened
returns-clause-opened c =
    are_opened c.args.open_parts.now.items c.take_out.new.open_parts.items c.push_open.new.open_parts.items c.push_open-2.new.open_parts.items c.args.place c.args.first c.args.must c.args.never
    c.take_out.ensures.others c.push_open.ensures.opened c.push_open.ensures.closed c.push_open-2.ensures.opened c.push_open-2.ensures.closed
