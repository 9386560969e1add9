-- What may be written of fair prices: the numbers of all records are in their ranges.
use Rattle.std.specs.Prelude.{◌≤◌, ◌≡◌, length}
use Rattle.std.specs.List.{AllByRecursion}
use Rattle.ice_journal.specs.Ranges.{IsViolationField}
use Rattle.ice_fair_laws.specs.Fair.{FairCertificate}
use Rattle.ice_fair.specs.declared.answer.Fair.{Fair}
use Rattle.ice_fair_stage.specs.declared.ends.FairLimit.{FairLimit}
use Rattle.ice_write_session.specs.Writable.{IsWritableRow, IsWritableCertificate, IsWritableMember}

-- two numbers for each of at most 40 bidders
pub record IsWritableFairCertificate (c : FairCertificate) : Type 0 where
  pub few : length c.low ≤ 40
  pub count : length c.high ≡ length c.low
  pub rows : AllByRecursion IsWritableRow c.rows

pub record IsWritableFair (f : Fair) : Type 0 where
  pub violation : IsViolationField f.delta
  pub accuracy : IsWritableCertificate f.accuracy
  pub certificate : IsWritableFairCertificate f.certificate

abbrev pub IsWritableFairLimit : FairLimit → Type 0
IsWritableFairLimit l = AllByRecursion IsWritableMember l.pool.items
