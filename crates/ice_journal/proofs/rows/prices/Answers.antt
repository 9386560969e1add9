use Rattle.ice_journal.proofs.Numerators.{numerators}
use Rattle.ice_journal.proofs.rows.prices.Goals as goal

pub from_terms-requires : goal.from_terms-requires
from_terms-requires c = record { den = c.in_ok-den.ensures.0; count = c.in_ok-nums.ensures.0.0; each = numerators _ c.in_ok-nums.ensures.0.1 }
