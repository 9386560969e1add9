use Rattle.std.proofs.Common.{ap, ◌∙◌, subst}
use Rattle.ice_defs.specs.Derived.{goods_alone}
use Rattle.ice_defs.specs.Steps.{with_mark}
use Rattle.ice_defs.specs.Sweep.{IsLive}
use Rattle.ice_search_log.proofs.Marked.{bound_is_live}
use Rattle.ice_tolled_search.proofs.sweep.is_live_with.Goals as goal

pub returns-in-AtMost-clause-live : goal.returns-in-AtMost-clause-live
returns-in-AtMost-clause-live c = λ t. subst (IsLive c.args.trees.now)
    (c.mark.ensures ∙ ap (λ xs. with_mark xs c.args.node.bidder c.args.node.node c.args.mark) c.copy_fixings.ensures)
    (bound_is_live goods_alone c.args.trees.now c.args.desk.now.room c.args.weights.now c.zero-zeros.result c.mark.new.self c.in-AtMost.field-0 c.in-AtMost.ensures.answer)
