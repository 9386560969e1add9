-- How the lines of a statement are gathered, record by record, with no other look at the journal.
use Rattle.std.specs.Prelude.{ℕ, suc, ◌≡◌, ◌==◌, Bool, true, false, ◌&&◌, if◌then◌else◌, List, [], ◌∷◌, ◌++◌}
use Rattle.std.specs.Str.{bytes_eq}
use Rattle.ice_defs.specs.Set.{NodeSet}
use Rattle.ice_journal.specs.Records.{Record}
use Rattle.ice_journal.specs.Records as line
use Rattle.ice_statement_laws.specs.Statement.{public_records, Own, StatementLine, named, shown, kept, offered, ended, statement_lines}
use Rattle.ice_statement_laws.specs.Texts.{IsOwnOf}

-- where the sets of a group go
pub data Slot : Type 0 where
  to_kept to_offered nowhere : Slot

-- the name that is looked for; how many bidders came, and the number of the one with
-- the name, if it came; whether the last bidder or submission has the name; where
-- the sets go, and how many came; the bidder's final and provisional sets
pub record Gathering : Type 0 where
  pub name : List ℕ
  pub bidders : ℕ
  pub number : ℕ
  pub found : Bool
  pub is_own : Bool
  pub slot : Slot
  pub sets : ℕ
  pub kept : NodeSet
  pub offered : NodeSet

abbrev pub new_gathering : List ℕ → Gathering
new_gathering name =
    record { name = name; bidders = 0; number = 0; found = false; is_own = false; slot = nowhere; sets = 0; kept = []; offered = [] }

abbrev pub is_to_kept : Slot → Bool
is_to_kept to_kept = true
is_to_kept other = false

abbrev pub is_to_offered : Slot → Bool
is_to_offered to_offered = true
is_to_offered other = false

-- the next set, which is the bidder's where it has its number
abbrev pub with_set : Gathering → NodeSet → Gathering
with_set g s = record g {
  sets = suc g.sets;
  kept = if is_to_kept g.slot && (g.sets == g.number) then s else g.kept;
  offered = if is_to_offered g.slot && (g.sets == g.number) then s else g.offered;
}

abbrev pub with_bidder : Gathering → List ℕ → Gathering
with_bidder g name = record g {
  bidders = suc g.bidders;
  number = if bytes_eq g.name name then g.bidders else g.number;
  found = if bytes_eq g.name name then true else g.found;
  is_own = bytes_eq g.name name;
}

-- behind a record
abbrev pub gathering_after : Gathering → Record → Gathering
gathering_after g (line.bidder name own) = with_bidder g name
gathering_after g (line.final value) = record g { slot = to_kept; sets = 0 }
gathering_after g (line.rival value) = record g { slot = nowhere; sets = 0 }
gathering_after g (line.provisional value) = record g { slot = to_offered; sets = 0 }
gathering_after g (line.without b value) = record g { slot = nowhere; sets = 0 }
gathering_after g (line.set s) = with_set g s
gathering_after g (line.submit s) = record g { is_own = bytes_eq g.name s.name }
gathering_after g other = g

abbrev pub shown_if : Bool → Record → List StatementLine
shown_if b r = if b then shown r ∷ [] else []

-- what a record adds
abbrev pub lines_at : Gathering → Record → List StatementLine
lines_at g (line.settings s) = shown (line.settings s) ∷ []
lines_at g (line.good name) = shown (line.good name) ∷ []
lines_at g (line.exact name) = shown (line.exact name) ∷ []
lines_at g (line.bidder name own) = shown_if (bytes_eq g.name name) (line.bidder name own)
lines_at g (line.choose least most children lo hi) = shown_if g.is_own (line.choose least most children lo hi)
lines_at g (line.buy good units lo hi) = shown_if g.is_own (line.buy good units lo hi)
lines_at g (line.sell good units lo hi) = shown_if g.is_own (line.sell good units lo hi)
lines_at g (line.settle number) = shown (line.settle number) ∷ []
lines_at g (line.regret amount) = shown (line.regret amount) ∷ kept g.kept ∷ []
lines_at g (line.prices p) = offered g.offered ∷ shown (line.prices p) ∷ []
lines_at g (line.submit s) = shown_if (bytes_eq g.name s.name) (line.submit s)
lines_at g (line.verdict v) = shown_if g.is_own (line.verdict v)
lines_at g (line.threshold cut surplus) = shown (line.threshold cut surplus) ∷ []
lines_at g (line.payment name vickrey discount payment) = shown_if (bytes_eq g.name name) (line.payment name vickrey discount payment)
lines_at g other = []

abbrev pub lines_gathered : Gathering → List Record → List StatementLine
lines_gathered g [] = []
lines_gathered g (r ∷ rest) = lines_at g r ++ lines_gathered (gathering_after g r) rest

abbrev pub gathering_after_all : Gathering → List Record → Gathering
gathering_after_all g [] = g
gathering_after_all g (r ∷ rest) = gathering_after_all (gathering_after g r) rest

-- all lines, where the records are the whole journal
abbrev pub gathered_lines : List ℕ → List Record → List StatementLine
gathered_lines name journal = (named name ∷ lines_gathered (new_gathering name) journal) ++ ended ∷ []

-- what is gathered of a journal that says a right session is the statement of its named bidder
abbrev pub GatheredIsStatement : Type 0
GatheredIsStatement = (journal : List Record) (name : List ℕ) (own : Own) → IsOwnOf journal name own
    → gathered_lines name journal ≡ statement_lines (public_records journal) own

-- so a bidder's own is told by the journal: two of them make the same lines
abbrev pub LinesAreOne : Type 0
LinesAreOne = (journal : List Record) (name : List ℕ) (a b : Own) → IsOwnOf journal name a → IsOwnOf journal name b
    → statement_lines (public_records journal) a ≡ statement_lines (public_records journal) b
