use Rattle.ice_section.proofs.Describing.{described_are_taken}
use Rattle.ice_journal_laws.proofs.CarriedLaws.{regret_is_written}
use Rattle.ice_journal_laws.proofs.regret_is_written.Goals as goal

pub returns : goal.returns
returns c = regret_is_written described_are_taken
