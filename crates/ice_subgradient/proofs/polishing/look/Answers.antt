use Rattle.ice_subgradient.proofs.polishing.look.Goals as goal

pub unreachable-requires : goal.unreachable-requires
unreachable-requires c = let (s, is) = c.requires.live _ c.in-Dead.ensures.answer.there in c.in-Dead.ensures.answer.dead s is
