-- What is found of a journal that is to be brought to version 2.
use Rattle.std.specs.Prelude.{List, Option, Some, None}
use Rattle.ice_journal.specs.Records.{Record}
use Rattle.ice_migrate.specs.declared.behind.FailedTest.{FailedTest}
use Rattle.ice_migrate.specs.Migrating.{IsMigrated, IsFailing}
use Rattle.ice_migrate.specs.Stopped.{failure_of}

-- it is brought to version 2, or fails this test
abbrev pub Tells : List Record → Option FailedTest → Type 0
Tells journal None = IsMigrated journal
Tells journal (Some failed) = IsFailing journal (failure_of failed)
