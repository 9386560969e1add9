-- Why a command has no answer: the line that is written, the status, and the cause.
use Rattle.std.specs.Prelude.{◌≡◌, ℕ, List, [], codes, Ok}
use Rattle.ice_edge.specs.declared.status.Status.{Status}
use Rattle.ice_edge.specs.declared.status.Status.TheVariants as status
use Rattle.ice_edge.specs.Told.{Told}
use Rattle.ice_defs.specs.Exchange.{Exchange}
use Rattle.ice_defs.specs.FileFault.{FileFault, at_line}
use Rattle.ice_read.specs.Places.{place_text}
use Rattle.ice_command_parts.specs.declared.refusal.FileFault as declared
use Rattle.ice_command_parts.specs.declared.refusal.FileFault.TheVariants.{AtLine, AtPlace, NoRecord, NotEnded}
use Rattle.ice_command_parts.specs.declared.refusal.FileFault.TheVariants.{OtherKind, NoSettlement, NoBidder, TooLong}
use Rattle.ice_command_parts.specs.declared.refusal.Refusal.{Refusal}
use Rattle.ice_command_parts.specs.declared.refusal.Refusal.TheVariants.{File, Unread, NoMemory}
use Rattle.ice_command_parts.specs.Call.{Call, FaultRose, file_limit, OfFile, overlong_file, IsRefused}
use Rattle.ice_command_parts.specs.Files.{IsExchangeOf}
use Rattle.ice_command_parts.specs.Lines.{refused_line, unread_line}
use Rattle.ice_command_parts.specs.Parts.{HasPart}

-- the least line of a journal, or of a statement, that is at fault
abbrev pub no_record : ℕ → FileFault
no_record line = at_line 50 line

abbrev pub not_ended : ℕ → FileFault
not_ended line = at_line 51 line

-- faults of a file as a whole
abbrev pub other_kind : FileFault
other_kind = record { number = 53; place = codes "-" }

abbrev pub no_settlement : FileFault
no_settlement = record { number = 52; place = codes "-" }

abbrev pub no_bidder : FileFault
no_bidder = record { number = 94; place = codes "-" }

-- the number and the place of a file's fault
abbrev pub fault_of : declared.FileFault → FileFault
fault_of (AtLine number line) = at_line number line
fault_of (AtPlace number place) = record { number = number; place = place_text place }
fault_of (NoRecord line) = no_record line
fault_of (NotEnded line) = not_ended line
fault_of OtherKind = other_kind
fault_of NoSettlement = no_settlement
fault_of NoBidder = no_bidder
fault_of TooLong = overlong_file

abbrev pub refusal_text : Refusal → List ℕ
refusal_text (File file fault) = refused_line file (fault_of fault)
refusal_text (Unread file) = unread_line file
refusal_text NoMemory = []

abbrev pub refusal_status : Refusal → Status
refusal_status (File file fault) = status.Input
refusal_status (Unread file) = status.ReadFault
refusal_status NoMemory = status.NoMemory

-- the file with this number and name is refused in the
-- call, or it can't be read, or there is no memory
abbrev pub IsRefusal : Call → ℕ → List ℕ → ℕ → (List ℕ → FileFault → Type 0) → Refusal → Type 0
IsRefusal call number name limit HasFault (File file fault) = (file ≡ number) × IsRefused call name limit HasFault (fault_of fault)
IsRefusal call number name limit HasFault (Unread file) = (file ≡ number) × FaultRose call name
IsRefusal call number name limit HasFault NoMemory = Unit {0}

-- and so it is in every call that has this part
abbrev pub Refuses : ℕ → List ℕ → ℕ → (List ℕ → FileFault → Type 0) → Told → Told → Refusal → Type 0
Refuses number name limit HasFault before after refusal = (call : Call) → HasPart call before after
    → IsRefusal call number name limit HasFault refusal

-- bytes that have no fault
abbrev pub NoFault : List ℕ → FileFault → Type 0
NoFault bytes fault = ⊥

-- the bytes of the file with this number have such a fault, or there is no memory
abbrev pub IsFaultOf : ℕ → (FileFault → Type 0) → Refusal → Type 0
IsFaultOf number IsFault (File file fault) = (file ≡ number) × IsFault (fault_of fault)
IsFaultOf number IsFault (Unread file) = ⊥
IsFaultOf number IsFault NoMemory = Unit {0}

-- one of two files can't be read, and the count of that rose;
-- the second is fetched where the first is an exchange
pub data IsOneUnread (call : Call) (exchange other : List ℕ) : Type 0 where
  exchange_unread : FaultRose call exchange → call.text ≡ unread_line 1 → IsOneUnread call exchange other
  other_unread : (ex : Exchange) → OfFile call exchange file_limit (λ bytes. IsExchangeOf bytes (Ok ex)) → FaultRose call other
      → call.text ≡ unread_line 2 → IsOneUnread call exchange other
