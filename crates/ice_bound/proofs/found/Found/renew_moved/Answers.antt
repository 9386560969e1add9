use Rattle.std.proofs.Common.{rules, refl, ◌<◌, ◌≡◌, true, sym, subst, length, get_or-set_same}
use Rattle.ice_defs.specs.Trade.{set_of}
use Rattle.ice_bound.specs.Kept.{IsFound, Stands, net_of}
use Rattle.ice_bound.proofs.Staying.{stays_best}
use Rattle.ice_bound.proofs.Tables.{other_table}
use Rattle.ice_bound.proofs.found.Found.renew_moved.Goals as goal

pub find-requires-clause-table : goal.find-requires-clause-table
find-requires-clause-table c =
    let there : c.args.bidder < length c.args.self.now.tables.items = search rules in (
      c.args.marked.now.weights.now,
      c.args.m.now,
      c.args.marked.now.fixing.now,
      λ d. other_table c.args.marked.now.tree.now c.args.marked.now.weights.now c.args.m.now c.args.marked.now.fixing.now _ c.renew_good.new.self
          (get_or-set_same c.args.self.now.tables.items c.args.bidder c.renew_good.new.self d there) c.renew_good.ensures,
    )

pub returns-then-not-stands-clause-renewed : goal.returns-then-not-stands-clause-renewed
returns-then-not-stands-clause-renewed c =
    let there : c.args.bidder < length c.args.self.now.tables.items = search rules in
    c.find.ensures.renewed c.args.marked.now.weights.now c.args.m.now c.args.marked.now.fixing.now
    (λ d. other_table c.args.marked.now.tree.now c.args.marked.now.weights.now c.args.m.now c.args.marked.now.fixing.now _ c.renew_good.new.self
    (get_or-set_same c.args.self.now.tables.items c.args.bidder c.renew_good.new.self d there) c.renew_good.ensures)

pub returns-else-not-stands-clause-renewed : goal.returns-else-not-stands-clause-renewed
returns-else-not-stands-clause-renewed c =
    let (before, moves, found, small, tables) = c.requires.before in
    let t = c.args.marked.now.tree.now in
    let w = c.args.marked.now.weights.now in
    let x = c.args.marked.now.fixing.now in
    let b = c.args.bidder in
    let s = set_of c.args.self.now.sets b in
    let net = net_of c.args.self.now.nets.items b in
    let yes : c.stands.result ≡ true = search rules in
    let stands : Stands t s c.args.good c.args.direction (length t) = subst (λ u. Stands t u c.args.good c.args.direction (length t)) c.of-set.ensures (c.stands.ensures yes) in
    record {
      nets_there = refl;
      sets_there = refl;
      nodes = c.requires.set;
      found = subst (λ m. IsFound t w m x net s) (sym moves.is) (stays_best before c.args.good moves.number moves.there c.args.direction moves.moves t w s stands x net found);
      small = small;
      other_nets = λ k ne. refl;
      other_sets = λ k ne. refl;
    }
