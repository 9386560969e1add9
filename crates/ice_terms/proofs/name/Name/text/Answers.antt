use Rattle.ice_terms.proofs.Names.{name_text}
use Rattle.ice_terms.proofs.name.Name.text.Goals as goal

pub unreachable-requires : goal.unreachable-requires
unreachable-requires c = c.in_default.ensures.cases.0 (rw c.bytes.ensures.bytes (name_text c.args.self.now c.bytes.ensures.name))
