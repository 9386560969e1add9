use Rattle.std.proofs.Common.{arith, ◌<◌, ◌≡◌, ◌∙◌, length, []}
use Rattle.std.proofs.lemmas.List.{get_or_default}
use Rattle.ice_defs.specs.Trade.{tree_of}
use Rattle.ice_bound.proofs.Renewing.{renewed_at, renewed_room, one_more}
use Rattle.ice_bound.proofs.Tables.{table_renewed_at, one_table_more}
use Rattle.ice_bound.proofs.found.Found.renew_all.Goals as goal

pub loop-bidder-preserved : goal.loop-bidder-preserved
loop-bidder-preserved c =
    let i = c.loop-bidder.invariant in
    let b = c.loop-bidder.bidder in
    let ts = c.args.trees.now in
    let ws = c.args.weights.now in
    let xs = c.args.marks.now in
    let m = c.args.m.now in
    let nets = c.loop-bidder.self.nets.items in
    let sets = c.loop-bidder.self.sets in
    let tables = c.loop-bidder.self.tables.items in
    let there : b < length ts = omega arith in
    let tree : c.index-trees-bidder.result ≡ tree_of ts b = c.index-trees-bidder.is ∙ get_or_default ts b c.index-trees-bidder.result [] there in
    let new = c.renew.new.self in
    let is = renewed_at ts ws m xs nets new.nets.items sets new.sets b _ _ _ tree c.of.ensures c.of-in-loop-bidder.ensures c.renew.ensures.renewed in
    let table = table_renewed_at ts ws m xs tables new.tables.items b _ _ _ tree c.of.ensures c.of-in-loop-bidder.ensures c.renew.ensures.table in
    record {
      room = renewed_room ts ws m xs nets new.nets.items sets new.sets b is i.room;
      found = one_more ts ws m xs nets new.nets.items sets new.sets b is i.found;
      tables = one_table_more ts ws m xs tables new.tables.items b table i.tables;
      exact = c.renew.ensures.exact ∙ i.exact;
    }
