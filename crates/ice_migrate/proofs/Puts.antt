-- The records behind a head, put one after another.
use Rattle.std.proofs.Common.{◌≡◌, ◌∙◌, ℕ, true, List, [], ◌∷◌, ◌++◌, refl, sym, ap, subst}
use Rattle.std.specs.Prelude.{Some, None, Result, Err}
use Rattle.std.specs.Borrow.{Bor}
use Rattle.std.proofs.lemmas.List.{append-nil}
use Rattle.std.proofs.lemmas.Bool.{false≢true}
use Rattle.ice_edge.specs.declared.sink.SinkFault.{SinkFault}
use Rattle.ice_edge.specs.Puts.{Takes, FailsIn, IsPut, TakesAllBut}
use Rattle.ice_edge.specs.Taken.{Taken}
use Rattle.ice_defs.specs.Bound.{Multipliers}
use Rattle.ice_defs.specs.Steps.{branch, leaf, dead}
use Rattle.ice_journal.specs.declared.line.Line.{Line}
use Rattle.ice_journal.specs.declared.line.Line.TheVariants as shown
use Rattle.ice_journal.specs.declared.line.Version.{Version as ShownVersion}
use Rattle.ice_journal.specs.declared.line.Kind.{Kind as ShownKind}
use Rattle.ice_journal.specs.Records as line
use Rattle.ice_journal.specs.Ranges.{IsRecord}
use Rattle.ice_journal.specs.Records.{Record, version_1, version_2, Kind, assign_kind, regret_kind, session_kind}
use Rattle.ice_journal.specs.Spelling.{line_of}
use Rattle.ice_journal.specs.Journal.{IsJournal, bytes_of}
use Rattle.ice_journal.specs.Lines.{kind_of}
use Rattle.ice_journal.specs.Plain.{goods_in, all_zero, packed_records, in_version_2}
use Rattle.ice_write.proofs.Loops.{bytes_cons, fails_as, put_as, first_fails, then_put}
use Rattle.ice_reading.specs.Records.{Starts, HasLine}
use Rattle.ice_migrate.specs.Packing.{before_of, packed_record, packed_after, PutsPacked}
use Rattle.ice_migrate.specs.Migrating.{is_old, IsMigrated}
use Rattle.ice_migrate.specs.declared.packing.Packing.{Packing}
use Rattle.ice_migrate.proofs.Coming as coming
use Rattle.ice_migrate.proofs.Gathering.{next_gathered, next_fails, rest_put}

-- all is put but what is gathered, and the records of the bytes behind it
pub record IsPutSoFar (goods : ℕ) (p : Packing) (gathered bytes : List ℕ) (all : List Record) (old new : Taken) : Type 0 where
  pub rest : List Record
  pub journal : IsJournal bytes rest
  pub left : TakesAllBut (gathered ++ bytes_of (packed_records goods (before_of p) rest)) (bytes_of (packed_records goods (all_zero goods) all)) old new

-- ---- a record in version 2

-- the first record, and those behind it
pub packed_cons : (goods : ℕ) (m : Multipliers) (r : Record) (rest : List Record) → packed_records goods m (r ∷ rest) ≡ packed_record m r ∷ packed_records goods (packed_after goods m r) rest
packed_cons goods m (line.step (leaf new)) rest = refl
packed_cons goods m (line.step (branch b n)) rest = refl
packed_cons goods m (line.step (dead b)) rest = refl
packed_cons goods m other rest = refl

-- ---- one after another

module _ (goods : ℕ) (p q : Packing) (gathered bytes after : List ℕ) (text : Bor (List ℕ)) (all : List Record) (old mid new : Taken) (x : IsPutSoFar goods p gathered bytes all old mid)
    (starts : (left : List Record) → IsJournal bytes left → HasLine left (Some text) after) (same : p.goods ≡ goods)
    (moves : (r : Record) → IsRecord r → text.now ≡ line_of r → before_of q ≡ packed_after p.goods (before_of p) r) where
  more : coming.HasNext text.now after x.rest
  more = coming.has_next text after x.rest (starts x.rest x.journal)

  abbrev packed_line : List ℕ
  packed_line = line_of (packed_record (before_of p) more.first)

  before_is : before_of q ≡ packed_after goods (before_of p) more.first
  before_is = moves more.first more.lawful more.text_is ∙ ap (λ (n : ℕ). packed_after n (before_of p) more.first) same

  text_is : bytes_of (packed_records goods (before_of p) x.rest) ≡ packed_line ++ bytes_of (packed_records goods (before_of q) more.rest)
  text_is =
      ap (λ (l : List Record). bytes_of (packed_records goods (before_of p) l)) more.is
      ∙ ap bytes_of (packed_cons goods (before_of p) more.first more.rest)
      ∙ bytes_cons (packed_record (before_of p) more.first) (packed_records goods (packed_after goods (before_of p) more.first) more.rest)
      ∙ ap (λ (m : Multipliers). packed_line ++ bytes_of (packed_records goods m more.rest)) (sym before_is)

  abbrev others : List ℕ
  others = bytes_of (packed_records goods (before_of q) more.rest)

  abbrev whole : List ℕ
  whole = bytes_of (packed_records goods (all_zero goods) all)

  -- a record more is gathered
  pub one_gathered : (later : List ℕ) → ((r : Record) → IsRecord r → text.now ≡ line_of r → TakesAllBut later (gathered ++ line_of (packed_record (before_of p) r)) mid new) → IsPutSoFar goods q later after all old new
  one_gathered later left = record {
    rest = more.rest;
    journal = more.journal;
    left = next_gathered gathered packed_line others (bytes_of (packed_records goods (before_of p) x.rest)) whole old mid new text_is x.left later (left more.first more.lawful more.text_is);
  }

  -- or the sink fails in it
  pub one_fails : ((r : Record) → IsRecord r → text.now ≡ line_of r → FailsIn (gathered ++ line_of (packed_record (before_of p) r)) mid new) → FailsIn whole old new
  one_fails fails = next_fails gathered packed_line others (bytes_of (packed_records goods (before_of p) x.rest)) whole old mid new text_is x.left (fails more.first more.lawful more.text_is)

-- no record is left, and what is gathered is put
pub all_put : (goods : ℕ) (p : Packing) (gathered bytes after : List ℕ) (all : List Record) (put : Result (Unit {0}) SinkFault) (old mid new : Taken)
    → IsPutSoFar goods p gathered bytes all old mid → ((left : List Record) → IsJournal bytes left → HasLine left None after) → IsPut gathered put mid new → IsPut (bytes_of (packed_records goods (all_zero goods) all)) put old new
all_put goods p gathered bytes after all put old mid new x starts is =
    let whole = bytes_of (packed_records goods (all_zero goods) all) in
    let none : x.rest ≡ [] = coming.no_next after x.rest (starts x.rest x.journal) in
    let left : TakesAllBut (gathered ++ []) whole old mid = subst (λ (l : List Record). TakesAllBut (gathered ++ bytes_of (packed_records goods (before_of p) l)) whole old mid) none x.left in
    rest_put gathered whole put old mid new (subst (λ (t : List ℕ). TakesAllBut t whole old mid) (append-nil gathered) left) is

-- ---- the head

abbrev kind_in : Record → Kind
kind_in (line.head version kind) = kind
kind_in other = assign_kind

-- behind the head of an old journal, and in version 2
pub record HasHead (journal : List Record) (kind : Kind) (after : List ℕ) : Type 0 where
  pub rest : List Record
  pub is : IsJournal after rest
  pub lawful : IsRecord (line.head version_2 kind)
  pub packed_is : bytes_of (in_version_2 journal) ≡ line_of (line.head version_2 kind) ++ bytes_of (packed_records (goods_in journal) (all_zero (goods_in journal)) rest)

has_kind : (kind : Kind) (rest : List Record) (k : Kind) (after : List ℕ) → k ≡ kind → IsRecord (line.head version_2 kind) → IsJournal after rest → HasHead (line.head version_1 kind ∷ rest) k after
has_kind kind rest k after same lawful is = record {
  rest = rest;
  is = is;
  lawful = subst (λ (y : Kind). IsRecord (line.head version_2 y)) (sym same) lawful;
  packed_is = subst
      (λ (y : Kind). bytes_of (in_version_2 (line.head version_1 kind ∷ rest)) ≡ line_of (line.head version_2 y) ++ bytes_of (packed_records (goods_in rest) (all_zero (goods_in rest)) rest)) (sym same)
      (bytes_cons (line.head version_2 kind) (packed_records (goods_in rest) (all_zero (goods_in rest)) rest));
}

pub has_head : (journal : List Record) (found : Line) (v : ShownVersion) (k : ShownKind) (after : List ℕ) → is_old journal ≡ true → found ≡ shown.Head v k → Starts journal (Some found) after → HasHead journal (kind_of k) after
has_head journal found v k after old same starts = by journal old (subst (λ (l : Line). Starts journal (Some l) after) same starts)
  where
    by : (all : List Record) → is_old all ≡ true → Starts all (Some (shown.Head v k)) after → HasHead all (kind_of k) after
    by (line.head version_1 regret_kind ∷ rest) is h = has_kind regret_kind rest (kind_of k) after (ap kind_in h.0) tt h.1
    by (line.head version_1 session_kind ∷ rest) is h = has_kind session_kind rest (kind_of k) after (ap kind_in h.0) tt h.1
    by other is h = absurd (false≢true is)

-- ---- the whole journal

module _ (journal : List Record) (old : Taken) (migrated : IsMigrated journal) (kind : Kind) (after : List ℕ) (h : HasHead journal kind after) where
  abbrev head : List ℕ
  head = line_of (line.head version_2 kind)

  abbrev behind : List ℕ
  behind = bytes_of (packed_records (goods_in journal) (all_zero (goods_in journal)) h.rest)

  pub head_fails : (put : Result (Unit {0}) SinkFault) (fault : SinkFault) (new : Taken) → put ≡ Err fault → FailsIn (line_of (line.head version_2 kind)) old new → PutsPacked journal put old new
  head_fails put fault new is fails = record {
    migrated = migrated;
    is_put = fails_as (bytes_of (in_version_2 journal)) (head ++ behind) put fault is h.packed_is (first_fails head behind fails);
  }

  pub head_then : (goods : ℕ) (mid : Taken) (put : Result (Unit {0}) SinkFault) (new : Taken) → goods ≡ goods_in journal → Takes (line_of (line.head version_2 kind)) old mid
      → IsPut (bytes_of (packed_records goods (all_zero goods) h.rest)) put mid new → PutsPacked journal put old new
  head_then goods mid put new same takes puts = record {
    migrated = migrated;
    is_put = put_as (bytes_of (in_version_2 journal)) (head ++ behind) put old new h.packed_is
        (then_put head behind put new takes (subst (λ (n : ℕ). IsPut (bytes_of (packed_records n (all_zero n) h.rest)) put mid new) same puts));
  }
