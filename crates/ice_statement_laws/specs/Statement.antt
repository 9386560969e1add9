-- What a closed journal says to one bidder: what is published, and what is its own.
use Rattle.std.specs.Prelude.{ℕ, ◌≡◌, Bool, true, false, if◌then◌else◌, List, [], ◌∷◌, ◌++◌, map, filter, codes, slice_index_or, slice_get}
use Rattle.std.specs.Prelude.{Some}
use Rattle.std.specs.List.{flat_map, join_with_byte}
use Rattle.ice_defs.specs.Set.{NodeSet}
use Rattle.ice_defs.specs.Round.{Judged, of_name}
use Rattle.ice_defs.specs.Exchange.{Bidder}
use Rattle.ice_journal.specs.Records.{Record}
use Rattle.ice_journal.specs.Records as line
use Rattle.ice_journal.specs.Spelling.{text_of, bits}
use Rattle.ice_section.specs.Described.{bidder_records}
use Rattle.ice_defs.specs.Session.{Payment, Going, Session}
use Rattle.ice_journal_laws.specs.Written.{payment_record, judged_records}

-- what everybody is shown
abbrev pub is_published : Record → Bool
is_published (line.settings s) = true
is_published (line.good name) = true
is_published (line.exact name) = true
is_published (line.settle number) = true
is_published (line.regret amount) = true
is_published (line.prices p) = true
is_published (line.threshold cut surplus) = true
is_published other = false

abbrev pub public_records : List Record → List Record
public_records journal = filter is_published journal

-- a bidder's part of a settlement that goes on: its final set, its
-- provisional set, its submissions with their verdicts
pub record OwnGoing : Type 0 where
  pub kept : NodeSet
  pub offered : NodeSet
  pub judged : List Judged

-- what is a bidder's own
pub record Own : Type 0 where
  pub bidder : Bidder
  pub going : List OwnGoing
  pub kept : NodeSet
  pub payment : Payment

abbrev pub own_going : ℕ → List ℕ → Going → OwnGoing
own_going b name g =
    record {
      kept = slice_index_or g.settlement.final.sets b [];
      offered = slice_index_or g.provisional.sets b [];
      judged = of_name name g.judged;
    }

-- the own part of the bidder with this number and name, in a session
pub record IsOwn (s : Session) (name : List ℕ) (own : Own) : Type 0 where
  pub number : ℕ
  pub bidder : slice_get s.exchange.bidders number ≡ Some own.bidder
  pub named : own.bidder.name ≡ name
  pub going : own.going ≡ map (own_going number name) s.going
  pub kept : own.kept ≡ slice_index_or s.closed.settlement.final.sets number []
  pub payment : slice_get s.closed.payments number ≡ Some own.payment

-- ---- the statement

pub data StatementLine : Type 0 where
  named : (name : List ℕ) → StatementLine
  shown : Record → StatementLine
  kept : NodeSet → StatementLine
  offered : NodeSet → StatementLine
  ended : StatementLine

abbrev pub fields_text : List (List ℕ) → List ℕ
fields_text fields = join_with_byte 32 fields

abbrev pub statement_text : StatementLine → List ℕ
statement_text (named name) = fields_text (codes "statement" ∷ name ∷ [])
statement_text (shown r) = text_of r
statement_text (kept s) = fields_text (codes "kept" ∷ bits s ∷ [])
statement_text (offered s) = fields_text (codes "offered" ∷ bits s ∷ [])
statement_text ended = codes "end statement"

-- the settlements, from what is published and what is the bidder's own
abbrev pub settlement_lines : List Record → List OwnGoing → NodeSet → Payment → List StatementLine
settlement_lines (line.settle n ∷ line.regret a ∷ line.prices p ∷ later) (own ∷ going) last payment =
    shown (line.settle n) ∷ shown (line.regret a) ∷ kept own.kept ∷ offered own.offered ∷ shown (line.prices p)
    ∷ map shown (flat_map judged_records own.judged) ++ settlement_lines later going last payment
settlement_lines (line.settle n ∷ line.regret a ∷ line.threshold cut surplus ∷ later) going last payment =
    shown (line.settle n) ∷ shown (line.regret a) ∷ kept last ∷ shown (line.threshold cut surplus) ∷ shown (payment_record payment) ∷ []
settlement_lines other going last payment = []

abbrev pub is_header : Record → Bool
is_header (line.settings s) = true
is_header (line.good name) = true
is_header (line.exact name) = true
is_header other = false

abbrev pub header_lines : List Record → List Record
header_lines shown_records = filter is_header shown_records

abbrev pub later_records : List Record → List Record
later_records shown_records = filter (λ r. if is_header r then false else true) shown_records

-- the lines of the statement, from what is published and what is own alone
abbrev pub statement_lines : List Record → Own → List StatementLine
statement_lines shown_records own =
    named own.bidder.name ∷ map shown (header_lines shown_records) ++ map shown (bidder_records own.bidder)
    ++ settlement_lines (later_records shown_records) own.going own.kept own.payment ++ ended ∷ []

abbrev pub statement_of : List Record → Own → List ℕ
statement_of shown_records own = flat_map (λ l. statement_text l ++ 10 ∷ []) (statement_lines shown_records own)
