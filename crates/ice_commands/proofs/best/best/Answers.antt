use Rattle.std.proofs.Common.{List, sym, subst}
use Rattle.ice_edge.specs.declared.status.Status.TheVariants.{Done}
use Rattle.ice_commands.specs.declared.best_set.BestSet.{BestSet}
use Rattle.ice_commands.specs.Bests.{best_text}
use Rattle.ice_commands.specs.BestFound.{AreBestOf}
use Rattle.ice_command_parts.specs.Refusals.{refusal_text, refusal_status}
use Rattle.ice_command_parts.proofs.Writing.{put_said}
use Rattle.ice_commands.proofs.Besting.{sets_answer, refusal_answers}
use Rattle.ice_commands.proofs.best.best.Goals as goal

pub returns-in-Ok-clause-served : goal.returns-in-Ok-clause-served
returns-in-Ok-clause-served g c =
    let before = g.H.Shelf.told c.args.shelf.now in
    let after = g.H.Shelf.told c.best_of_files.new.shelf in
    let exchange = c.args.exchange.now in
    let prices = c.args.prices.now in
    let sets = c.deref.result.now in
    let found : AreBestOf before exchange prices sets =
    subst (λ (bests : List BestSet). AreBestOf before exchange prices bests) (sym c.deref.ensures.value) c.in-Ok.ensures.sets in (
      best_text sets,
      Done,
      sets_answer before after exchange prices sets found,
      put_said c.put_best.result (best_text sets) Done c.ended.result (g.K.Sink.taken c.args.out.now) (g.K.Sink.taken c.put_best.new.out) c.put_best.ensures c.ended.ensures,
    )

pub returns-in-Err-clause-served : goal.returns-in-Err-clause-served
returns-in-Err-clause-served g c =
    let before = g.H.Shelf.told c.args.shelf.now in
    let after = g.H.Shelf.told c.best_of_files.new.shelf in
    let refusal = c.in-Err.refusal in
    (refusal_text refusal, refusal_status refusal, refusal_answers before after c.args.exchange.now c.args.prices.now refusal c.in-Err.ensures.refusal, c.say.ensures)
