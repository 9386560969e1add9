-- The statements of a writer's journals.
use Rattle.ice_section.specs.Laws.{DescribedAreTaken}
use Rattle.ice_journal_laws.specs.WrittenLaws.{RegretIsWritten, SessionIsWritten, FrontIsSoFar, CarriedAreJoined}
use Rattle.ice_journal_laws.proofs.Carried.{carries_join}
use Rattle.ice_journal_laws.proofs.CarriedRegret.{regretted_checks, regretted_records_check}
use Rattle.ice_journal_laws.proofs.CarriedVersions.{regretted_says}
use Rattle.ice_journal_laws.proofs.CarriedSession.{session_checks}
use Rattle.ice_journal_laws.proofs.CarriedPlain.{session_records_check}
use Rattle.ice_journal_laws.proofs.CarriedSays.{session_says}
use Rattle.ice_journal_laws.proofs.CarriedSoFar.{front_so_far}

pub regret_is_written : DescribedAreTaken → RegretIsWritten
regret_is_written taken r is = (regretted_records_check taken r is, λ v. regretted_checks taken v r is, regretted_says r is)

pub session_is_written : DescribedAreTaken → SessionIsWritten
session_is_written taken s is = (session_records_check taken s is, λ v. session_checks taken v s is, session_says s is)

pub front_is_so_far : FrontIsSoFar
front_is_so_far = front_so_far

pub carried_are_joined : CarriedAreJoined
carried_are_joined = carries_join
