use Rattle.std.proofs.Common.{◌∙◌, length, ap, sym}
use Rattle.ice_set.specs.Bits.{length-bits_of}
use Rattle.ice_set.proofs.NodeSet.len.Goals as goal

pub returns-clause-value : goal.returns-clause-value
returns-clause-value c = sym (length-bits_of _ _) ∙ ap length c.self.view_is
