-- The heads of journals that are checked, and the groups of each.
use Rattle.std.specs.Prelude.{ℕ, ◌==◌, Bool, false}
use Rattle.ice_defs.specs.declared.Group.{Group}
use Rattle.ice_defs.specs.declared.Group.TheVariants as group
use Rattle.ice_journal.specs.Records.{Record, Version, version_1, Kind, assign_kind, regret_kind, session_kind}
use Rattle.ice_journal.specs.Records.{EndWord, assign_end, regret_end, closed_end}
use Rattle.ice_journal.specs.Records as line
use Rattle.ice_journal.specs.Lines.{version_of}
use Rattle.ice_check_records.specs.declared.head.Head.{Head}
use Rattle.ice_check_records.specs.declared.head.Head.TheVariants.{Assign, Regret, Session}

abbrev pub version_of_head : Head → Version
version_of_head Assign = version_1
version_of_head (Regret version) = version_of version
version_of_head (Session version) = version_of version

abbrev pub kind_of_head : Head → Kind
kind_of_head Assign = assign_kind
kind_of_head (Regret version) = regret_kind
kind_of_head (Session version) = session_kind

abbrev pub end_of : Head → EndWord
end_of Assign = assign_end
end_of (Regret version) = regret_end
end_of (Session version) = closed_end

-- the record begins the first settlement
abbrev pub begins_first : Record → Bool
begins_first (line.settle number) = number == 0
begins_first other = false

-- the journal states an amount of regret
abbrev pub HasRegret : Head → Type 0
HasRegret Assign = ⊥
HasRegret (Regret version) = Unit {0}
HasRegret (Session version) = Unit {0}

abbrev pub IsSession : Head → Type 0
IsSession (Session version) = Unit {0}
IsSession head = ⊥

-- the groups of a journal
abbrev pub IsGroupOf : Head → Group → Type 0
IsGroupOf Assign group.Assign = Unit {0}
IsGroupOf (Regret version) group.Final = Unit {0}
IsGroupOf (Regret version) group.Rival = Unit {0}
IsGroupOf (Session version) group.Final = Unit {0}
IsGroupOf (Session version) group.Rival = Unit {0}
IsGroupOf (Session version) group.Provisional = Unit {0}
IsGroupOf (Session version) (group.Without b) = Unit {0}
IsGroupOf head other = ⊥

-- those whose sets a log follows
abbrev pub HasLog : Group → Type 0
HasLog group.Assign = ⊥
HasLog other = Unit {0}

-- how many values without a bidder are complete before a group
abbrev pub withouts_before : Group → ℕ
withouts_before (group.Without b) = b
withouts_before other = 0
