-- What the record behind a complete exchange begins.
use Rattle.std.specs.Prelude.{◌≡◌, Bool, true, false, ◌||◌, is_some, [], ℤ, pos, Option, Some, None}
use Rattle.ice_defs.specs.declared.Group.TheVariants as group
use Rattle.ice_journal.specs.Records.{Record}
use Rattle.ice_check_records.specs.declared.head.Head.{Head}
use Rattle.ice_check_records.specs.declared.head.Head.TheVariants.{Assign, Regret, Session}
use Rattle.ice_check_records.specs.declared.next.Next.{Next}
use Rattle.ice_check_records.specs.declared.next.Next.TheVariants as next
use Rattle.ice_check_records.specs.declared.opening.Opening.{Opening}
use Rattle.ice_check_records.specs.declared.opening.Opening.TheVariants.{Sets, Settlement}
use Rattle.ice_check_records.specs.Heads.{begins_first}
use Rattle.ice_journal_laws.specs.State.{Place, at_group, at_sets}
use Rattle.ice_journal_laws.specs.Fields.{is_assign, final_value, is_spent}

abbrev pub opened_next : Opening → Next
opened_next (Sets g value) = next.Set g
opened_next Settlement = next.Head group.Final

abbrev pub opened_value : Opening → ℤ
opened_value (Sets g value) = value
opened_value Settlement = pos 0

-- where the tests then are
abbrev pub opened_place : Opening → Place
opened_place (Sets g value) = at_sets g (record { value = value; sets = [] })
opened_place Settlement = at_group group.Final

-- a record begins this in a journal with this head
abbrev pub Opens : Head → Record → Opening → Type 0
Opens Assign r (Sets group.Assign value) = (is_assign r ≡ true) × (value ≡ pos 0)
Opens (Regret version) r (Sets group.Final value) = final_value r ≡ Some value
Opens (Session version) r Settlement = begins_first r ≡ true
Opens head r other = ⊥

-- some record does
abbrev pub CanOpen : Head → Opening → Type 0
CanOpen head opening = (r : Record) × Opens head r opening

-- whether a record begins anything
abbrev pub opens : Head → Record → Bool
opens Assign r = is_assign r
opens (Regret version) r = is_some (final_value r)
opens (Session version) r = begins_first r

abbrev pub IsOpening : Head → Record → Option Opening → Type 0
IsOpening head r None = opens head r ≡ false
IsOpening head r (Some opening) = Opens head r opening

-- a stop in its place
abbrev pub stops_first : Head → Record → Bool
stops_first Assign r = false
stops_first (Regret version) r = is_spent r
stops_first (Session version) r = false

-- the record may stand behind a complete exchange: what is stated then begins, or a stop stands
-- in its place
abbrev pub ends_section : Head → Record → Bool
ends_section head r = opens head r || stops_first head r
