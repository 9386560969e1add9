use Rattle.ice_section.proofs.Describing.{described_are_taken}
use Rattle.ice_journal_laws.proofs.CarriedLaws.{session_is_written}
use Rattle.ice_journal_laws.proofs.session_is_written.Goals as goal

pub returns : goal.returns
returns c = session_is_written described_are_taken
