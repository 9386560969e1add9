use Rattle.std.proofs.Common.{refl, [], ◌∷◌, codes, List, subst}
use Rattle.std.specs.Fmt.{signed_decimal}
use Rattle.std.proofs.lemmas.Result.{err_from_is_err_and}
use Rattle.ice_journal.specs.Records as line
use Rattle.ice_journal.specs.Spelling.{line_of}
use Rattle.ice_edge.specs.Puts.{IsPut, Takes, FailsIn}
use Rattle.ice_write.proofs.Loops.{fails_as, first_fails, then_put}
use Rattle.ice_command_parts.specs.Lines.{line_text}
use Rattle.ice_commands.specs.Bests.{lines_of}
use Rattle.ice_commands.proofs.best_set.BestSet.put.Goals as goal

pub returns-in_err-put : goal.returns-in_err-put
returns-in_err-put g c =
    let best = c.args.self.now in
    let p = err_from_is_err_and c.from_residual.result c.from_residual.ensures.1 in
    let net = line_text (codes "best" ∷ best.name ∷ signed_decimal best.net ∷ []) in
    let fails = subst (λ (t : List _). FailsIn t (g.K.Sink.taken c.args.out.now) (g.K.Sink.taken c.put.new.self)) c.write_net.ensures c.in_err-put.ensures in
    fails_as (lines_of best) (lines_of best) c.from_residual.result p.0 p.1 refl (first_fails net (line_of (line.set best.set)) fails)

pub returns : goal.returns
returns g c =
    let best = c.args.self.now in
    let net = line_text (codes "best" ∷ best.name ∷ signed_decimal best.net ∷ []) in
    let first = subst (λ (t : List _). Takes t (g.K.Sink.taken c.args.out.now) (g.K.Sink.taken c.put.new.self)) c.write_net.ensures c.in_ok-put.ensures in
    let second = subst (λ (t : List _). IsPut t c.put-2.result (g.K.Sink.taken c.put.new.self) (g.K.Sink.taken c.put-2.new.self)) c.write_set.ensures c.put-2.ensures in
    then_put net (line_of (line.set best.set)) c.put-2.result (g.K.Sink.taken c.put-2.new.self) first second
