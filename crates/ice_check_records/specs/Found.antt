-- What is found in a record.
use Rattle.std.specs.Prelude.{◌≡◌, Option, Some, None}
use Rattle.ice_journal.specs.Records.{Record}
use Rattle.ice_check_records.specs.declared.head.Head.{Head}
use Rattle.ice_check_records.specs.Heads.{version_of_head, kind_of_head}
use Rattle.ice_journal_laws.specs.State.{begun}
use Rattle.ice_journal_laws.specs.Progress.{passing, other_kind, after_head}

-- this is found where that is looked for
abbrev pub IsFound : {X : Type 0} → Option X → Option X → Type 0
IsFound None wanted = wanted ≡ None
IsFound (Some x) wanted = wanted ≡ Some x

-- the head that a record is, of a kind that is checked
abbrev pub IsHeadIn : Record → Option Head → Type 0
IsHeadIn r None = after_head r ≡ other_kind
IsHeadIn r (Some head) = after_head r ≡ passing (begun (version_of_head head) (kind_of_head head))
