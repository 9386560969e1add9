use Rattle.std.proofs.Common.{◌<◌, ap, length, arith}
use Rattle.std.specs.List.{flat_map}
use Rattle.std.proofs.lemmas.Result.{err_from_is_err_and}
use Rattle.ice_defs.specs.Sum.{numbers_below}
use Rattle.ice_defs.specs.Set.{weight_of}
use Rattle.ice_defs.specs.Tree.{kind_of, children_of}
use Rattle.ice_defs.proofs.Below.{length-numbers_below, get_or-numbers_below}
use Rattle.ice_journal.specs.Spelling.{line_of}
use Rattle.ice_journal.specs.Journal.{bytes_of}
use Rattle.ice_journal.specs.Nodes.{node_record}
use Rattle.ice_journal.specs.Lines.{record_of}
use Rattle.ice_section.specs.Described.{node_records}
use Rattle.ice_write.specs.Bidders.{with_tree}
use Rattle.ice_write.specs.Pieces.{node_text}
use Rattle.ice_write.proofs.Loops.{fails_as, takes_as, one_more, one_fails, all_put, bytes_map}
use Rattle.ice_write.proofs.exchange.put_nodes.Goals as goal

pub returns-in_err-put_record : goal.returns-in_err-put_record
returns-in_err-put_record g c =
    let t = c.args.tree.now in
    let b = c.args.bounds.now in
    let nodes = numbers_below (length t) in
    let i = c.loop-node.node in
    let inside : i < length t = omega (arith, c.nodes-node-end.ensures.value) in
    let there : i < length nodes = omega (arith, inside, length-numbers_below (length t)) in
    let p = err_from_is_err_and c.from_residual.result c.from_residual.ensures.1 in
    fails_as (bytes_of (node_records (with_tree t b))) (flat_map (node_text t b) nodes) c.from_residual.result p.0 p.1
    (bytes_map (λ n. node_record (kind_of t n) (length (children_of t n)) (weight_of b.lo n) (weight_of b.hi n)) nodes)
    (one_fails (node_text t b) nodes i i there (get_or-numbers_below (length t) i i inside) (line_of (record_of c.node_line.result)) (flat_map (node_text t b) nodes) (ap line_of c.node_line.ensures.line) c.loop-node.invariant c.in_err-put_record.ensures)

pub loop-node-preserved : goal.loop-node-preserved
loop-node-preserved g c =
    let t = c.args.tree.now in
    let b = c.args.bounds.now in
    let nodes = numbers_below (length t) in
    let i = c.loop-node.node in
    let inside : i < length t = omega (arith, c.nodes-node-end.ensures.value) in
    let there : i < length nodes = omega (arith, inside, length-numbers_below (length t)) in
    one_more (node_text t b) nodes i i there (get_or-numbers_below (length t) i i inside) (line_of (record_of c.node_line.result)) (flat_map (node_text t b) nodes) (ap line_of c.node_line.ensures.line) c.loop-node.invariant c.in_ok-put_record.ensures

pub returns : goal.returns
returns g c =
    let t = c.args.tree.now in
    let b = c.args.bounds.now in
    let nodes = numbers_below (length t) in
    takes_as (bytes_of (node_records (with_tree t b))) (flat_map (node_text t b) nodes)
    (bytes_map (λ n. node_record (kind_of t n) (length (children_of t n)) (weight_of b.lo n) (weight_of b.hi n)) nodes)
    (all_put (node_text t b) nodes c.loop-node.node (flat_map (node_text t b) nodes) (omega (arith, length-numbers_below (length t), c.nodes-node-end.ensures.value)) c.loop-node.invariant)
