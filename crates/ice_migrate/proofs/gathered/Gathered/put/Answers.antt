use Rattle.std.proofs.Common.{◌∙◌, ℕ, List, subst}
use Rattle.ice_edge.specs.Puts.{Takes}
use Rattle.ice_migrate.proofs.Gathering.{put_at_once}
use Rattle.ice_migrate.proofs.gathered.Gathered.put.Goals as goal

pub returns : goal.returns
returns g c =
    let text = c.args.text.now in
    let old = g.K.Sink.taken c.args.out.now in
    let mid = g.K.Sink.taken c.flush.new.out in
    let new = g.K.Sink.taken c.put.new.self in
    let flushed = subst (λ (t : List ℕ). Takes t old mid) (c.gather.ensures.none c.if-gather.false) c.in_ok-flush.ensures.put in
    let nothing = c.gather-2.ensures.none c.if-gather-2.false ∙ c.in_ok-flush.ensures.ok in
    put_at_once c.gather-2.new.self c.args.self.now text c.put.result old mid new nothing flushed c.put.ensures
