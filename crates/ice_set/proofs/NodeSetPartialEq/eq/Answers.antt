use Rattle.std.proofs.Common.{◌∙◌, sym}
use Rattle.std.proofs.lemmas.Bool.{ne_eqb}
use Rattle.ice_set.specs.Packing.{words_eq-bits, lengths_ne-bits}
use Rattle.ice_set.proofs.NodeSetPartialEq.eq.Goals as goal

pub returns-then-self-other : goal.returns-then-self-other
returns-then-self-other c =
    rw (← c.self.view_is, ← c.other.view_is) (c.eq.ensures ∙ words_eq-bits _ _ _ _ c.self.invariant c.other.invariant c.if-self-other.true)

pub returns-else-self-other : goal.returns-else-self-other
returns-else-self-other c =
    rw (← c.self.view_is, ← c.other.view_is) (ne_eqb _ _ c.if-self-other.false ∙ sym (lengths_ne-bits _ _ _ _ c.self.invariant c.other.invariant c.if-self-other.false))
