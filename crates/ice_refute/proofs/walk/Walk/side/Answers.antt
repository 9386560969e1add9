use Rattle.std.proofs.Common.{ap}
use Rattle.ice_refute.specs.Waiting.{WalkView}
use Rattle.ice_refute.proofs.Opening.{first_is}
use Rattle.ice_refute.proofs.walk.Walk.side.Goals as goal

pub returns-clause-side : goal.returns-clause-side
returns-clause-side c =
    first_is c.self.inside.is_open c.self.inside.marks c.self.inside.branches.items c.args.self.now.sides (ap (λ (v : WalkView). v.sides) c.self.view_is) c.requires
