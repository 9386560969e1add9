-- The texts of the records that are put one after another.
use Rattle.std.specs.Prelude.{ℕ, List}
use Rattle.ice_defs.specs.Rows.{Row}
use Rattle.ice_defs.specs.PricingRun.{Member}
use Rattle.ice_defs.specs.Session.{Payment}
use Rattle.ice_journal.specs.Spelling.{line_of}
use Rattle.ice_journal_laws.specs.Written.{row_record, payment_record}
use Rattle.ice_write_session.specs.Records.{member_record}

abbrev pub row_text : Row → List ℕ
row_text row = line_of (row_record row)

abbrev pub payment_text : Payment → List ℕ
payment_text p = line_of (payment_record p)

abbrev pub member_text : Member → List ℕ
member_text m = line_of (member_record m)
