use Rattle.std.proofs.Common.{◌∙◌, List, sym, subst}
use Rattle.ice_defs.specs.Bounds.{Bounds}
use Rattle.ice_defs.specs.Exchange.{Exchange, opening_bounds}
use Rattle.ice_gen.specs.Generated.{generated_exchange, truths}
use Rattle.ice_trial.specs.Truths.{AreTruths}
use Rattle.ice_trial.specs.Ends.{IsTrialEnd}
use Rattle.ice_trial.proofs.Generating.{generated_truths}
use Rattle.ice_trial.proofs.generated.try_generated.Goals as goal

pub try_truths-requires : goal.try_truths-requires
try_truths-requires c =
    subst (λ (bs : List Bounds). AreTruths (opening_bounds c.in-Ok.made.exchange) bs) (sym (c.deref.ensures.value ∙ c.in-Ok.ensures.truth))
    (subst (λ (x : Exchange). AreTruths (opening_bounds x) (truths c.args.number)) (sym c.in-Ok.ensures.exchange) (generated_truths c.args.number))

pub returns-in-Ok : goal.returns-in-Ok
returns-in-Ok c =
    subst (λ (bs : List Bounds). IsTrialEnd (generated_exchange c.args.number) bs c.try_truths.result) (c.deref.ensures.value ∙ c.in-Ok.ensures.truth)
    (subst (λ (x : Exchange). IsTrialEnd x c.deref.result.now c.try_truths.result) c.in-Ok.ensures.exchange c.try_truths.ensures)
