use Rattle.std.proofs.Common.{◌∙◌, ap, ℕ, replicate, pos}
use Rattle.ice_derivation.proofs.Views.{begun_is}
use Rattle.ice_derivation.proofs.walk.TollWalk.begin.Goals as goal

pub returns : goal.returns
returns c =
    let i = c.self.inside in
    begun_is i.derived.goods i.derived.most i.walk.nodes i.desk.room i.rates i.derived.tolls i.walk.sides c.args.self.now c.self.view_is
    c.clear_tolls.new.self.goods c.clear_tolls.new.self.most c.begin.new.self.nodes c.zero-self-inside.result c.clear_tolls.new.self.tolls c.begin.new.self.sides c.args.start.now
    c.self.invariant.tolls c.clear_tolls.ensures.goods c.clear_tolls.ensures.most c.begin.ensures.nodes
    (c.zero-self-inside.ensures ∙ ap (λ (n : ℕ). replicate n (pos 0)) c.len.ensures.value) c.clear_tolls.ensures.tolls c.begin.ensures.side
