use Rattle.std.proofs.Common.{rules, ◌<◌, length, get_or-set_same, subst, sym}
use Rattle.ice_bound.specs.Tables.{IsNetTable}
use Rattle.ice_bound.proofs.Tables.{other_table, marked_table}
use Rattle.ice_bound.proofs.found.Found.renew_mark.Goals as goal

pub find-requires-clause-table : goal.find-requires-clause-table
find-requires-clause-table c =
    let (w, m, before, differ, tables) = c.requires.before in
    let there : c.args.bidder < length c.args.self.now.tables.items = search rules in
    let table : IsNetTable c.args.tree.now w m before c.index_mut.result.now = subst (IsNetTable c.args.tree.now w m before) (sym c.index_mut.ensures.value) (tables c.index_mut.result.now) in (
      w,
      m,
      c.args.fixing.now,
      λ d. other_table c.args.tree.now w m c.args.fixing.now _ c.renew_mark.new.self
          (get_or-set_same c.args.self.now.tables.items c.args.bidder c.renew_mark.new.self d there)
          (marked_table c.args.tree.now w m before c.args.fixing.now c.index_mut.result.now c.renew_mark.new.self c.renew_mark.ensures.nets c.renew_mark.ensures.entries table),
    )

pub returns-clause-renewed : goal.returns-clause-renewed
returns-clause-renewed c = λ w m before differ tables.
    let there : c.args.bidder < length c.args.self.now.tables.items = search rules in
    let table : IsNetTable c.args.tree.now w m before c.index_mut.result.now = subst (IsNetTable c.args.tree.now w m before) (sym c.index_mut.ensures.value) (tables c.index_mut.result.now) in
    c.find.ensures.renewed w m c.args.fixing.now
    (λ d. other_table c.args.tree.now w m c.args.fixing.now _ c.renew_mark.new.self
    (get_or-set_same c.args.self.now.tables.items c.args.bidder c.renew_mark.new.self d there)
    (marked_table c.args.tree.now w m before c.args.fixing.now c.index_mut.result.now c.renew_mark.new.self c.renew_mark.ensures.nets c.renew_mark.ensures.entries table))
