use Rattle.std.proofs.Common.{◌∙◌, ap, get_or}
use Rattle.std.proofs.lemmas.Result.{IfOk-weaker}
use Rattle.serde_json.specs.View.{view}
use Rattle.ice_read.proofs.ListSpelling.{tree_same, bidder_written}
use Rattle.ice_read.proofs.write.bidder_value.Goals as goal

pub returns : goal.returns
returns c =
    let tree = tree_same c.args.ex.now c.args.bidder c.index-trees-bidder.result c.index-bounds-bidder.result 16 0 c.requires
    (c.index-trees-bidder.is ∙ ap (λ l. get_or l c.args.bidder c.index-trees-bidder.result) c.trees.ensures.value)
    (c.index-bounds-bidder.is ∙ ap (λ l. get_or l c.args.bidder c.index-bounds-bidder.result) c.bounds.ensures.value) in
    IfOk-weaker c.named_value.result _ _ (λ v is. is ∙ bidder_written c.args.ex.now c.args.bidder c.bidder_name.result.now (view c.in_ok-own.own) (view c.in_ok-root.root) c.requires c.bidder_name.ensures c.in_ok-own.ensures (c.in_ok-root.ensures ∙ tree)) c.named_value.ensures
