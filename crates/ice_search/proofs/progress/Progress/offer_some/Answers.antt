use Rattle.ice_search.specs.State.{state_of}
use Rattle.ice_search.proofs.Turning.{better}
use Rattle.ice_search.proofs.progress.Progress.offer_some.Goals as goal

pub invariant_of-self : goal.invariant_of-self
invariant_of-self c =
    let s = state_of c.self.inside.space c.self.inside.incumbent c.self.inside.parts.items c.self.inside.open_parts.items in
    better s c.self.invariant c.self.inside.space.side c.consider.new.incumbent c.consider.ensures.incumbent c.consider.ensures.no_less
