-- The records that are left, taken one after another.
use Rattle.std.proofs.Common.{◌≡◌, ◌+◌, ◌<◌, ℕ, List, [], ◌∷◌, ◌++◌, length, refl, sym, ap, arith}
use Rattle.std.specs.Prelude.{Some, None}
use Rattle.std.specs.Borrow.{Bor}
use Rattle.ice_journal.specs.declared.line.Line.{Line}
use Rattle.ice_journal.specs.Records.{Record}
use Rattle.ice_journal.specs.Ranges.{IsRecord}
use Rattle.ice_journal.specs.Spelling.{line_of}
use Rattle.ice_journal.specs.Journal.{IsJournal}
use Rattle.ice_journal.specs.Lines.{record_of}
use Rattle.ice_journal.specs.Plain.{goods_in}
use Rattle.ice_journal_laws.proofs.Plaining.{goods_more}
use Rattle.ice_reading.specs.Records.{Starts, HasLine}
use Rattle.ice_migrate.specs.Reading.{bidders_in}
use Rattle.ice_migrate.specs.declared.counts.Counts.{Counts}
use Rattle.ice_migrate.proofs.Walking.{bidders_more}

-- what is left where a record is taken
pub record Opens (found : Line) (after : List ℕ) (left : List Record) : Type 0 where
  pub rest : List Record
  pub journal : IsJournal after rest
  pub is : left ≡ record_of found ∷ rest

pub opens : (found : Line) (after : List ℕ) (left : List Record) → Starts left (Some found) after → Opens found after left
opens found after [] h = absurd h
opens found after (r ∷ rest) h = record { rest = rest; journal = h.1; is = ap (λ (x : Record). x ∷ rest) (sym h.0) }

-- nothing is left where there is none
pub none_left : (after : List ℕ) (left : List Record) → Starts left None after → left ≡ []
none_left after [] h = refl
none_left after (r ∷ rest) h = absurd h

-- the same by its line
pub record HasNext (text : List ℕ) (after : List ℕ) (left : List Record) : Type 0 where
  pub first : Record
  pub rest : List Record
  pub lawful : IsRecord first
  pub text_is : text ≡ line_of first
  pub journal : IsJournal after rest
  pub is : left ≡ first ∷ rest

pub has_next : (text : Bor (List ℕ)) (after : List ℕ) (left : List Record) → HasLine left (Some text) after → HasNext text.now after left
has_next text after [] h = absurd h
has_next text after (r ∷ rest) h = record { first = r; rest = rest; lawful = h.0; text_is = h.1; journal = h.2; is = refl }

-- nothing is left where there is no line
pub no_next : (after : List ℕ) (left : List Record) → HasLine left None after → left ≡ []
no_next after [] h = refl
no_next after (r ∷ rest) h = absurd h

-- of these records so many are still to be counted, and the others have these counts
pub record IsLeft (bytes : List ℕ) (c : Counts) (taken : ℕ) (before after : List Record) : Type 0 where
  pub rest : List Record
  pub journal : IsJournal bytes (rest ++ after)
  pub count : taken + length rest ≡ length before
  pub goods : c.goods + goods_in rest ≡ goods_in before
  pub bidders : c.bidders + bidders_in rest ≡ bidders_in before

pub all_left : (bytes : List ℕ) (c : Counts) (before after : List Record) → c.goods ≡ 0 → c.bidders ≡ 0 → IsJournal bytes (before ++ after) → IsLeft bytes c 0 before after
all_left bytes c before after goods bidders is = record { rest = before; journal = is; count = omega arith; goods = omega (arith, goods); bidders = omega (arith, bidders) }

-- one record more is counted
pub one_less : (bytes next : List ℕ) (c d : Counts) (taken : ℕ) (before after : List Record) (text : Bor (List ℕ)) → taken < length before → IsLeft bytes c taken before after
    → ((left : List Record) → IsJournal bytes left → HasLine left (Some text) next) → ((r : Record) → text.now ≡ line_of r → d.goods ≡ c.goods + goods_in (r ∷ [])) → ((r : Record) → text.now ≡ line_of r → d.bidders ≡ c.bidders + bidders_in (r ∷ []))
    → IsLeft next d (taken + 1) before after
one_less bytes next c d taken before after text more h starts goods bidders = by h.rest h.journal h.count h.goods h.bidders
  where
    by : (rest : List Record) → IsJournal bytes (rest ++ after) → taken + length rest ≡ length before → c.goods + goods_in rest ≡ goods_in before → c.bidders + bidders_in rest ≡ bidders_in before → IsLeft next d (taken + 1) before after
    by [] is count g b = absurd (omega (arith, count, more))
    by (r ∷ rest) is count g b =
        let h : IsRecord r × (text.now ≡ line_of r) × IsJournal next (rest ++ after) = starts (r ∷ rest ++ after) is in
        record {
          rest = rest;
          journal = h.2;
          count = omega (arith, count);
          goods = omega (arith, g, goods r h.1, goods_more (r ∷ []) rest);
          bidders = omega (arith, b, bidders r h.1, bidders_more r rest);
        }

-- a record is there where some are left
pub not_none : (bytes next : List ℕ) (c : Counts) (taken : ℕ) (before after : List Record) → taken < length before → IsLeft bytes c taken before after
    → ((left : List Record) → IsJournal bytes left → HasLine left None next) → ⊥
not_none bytes next c taken before after more h starts = by h.rest h.journal h.count
  where
    by : (rest : List Record) → IsJournal bytes (rest ++ after) → taken + length rest ≡ length before → ⊥
    by [] is count = omega (arith, count, more)
    by (r ∷ rest) is count = starts (r ∷ rest ++ after) is

-- all of them are counted
pub counted_all : (bytes : List ℕ) (c : Counts) (before after : List Record) (n : ℕ) → n ≡ length before → IsLeft bytes c n before after → (c.goods ≡ goods_in before) × (c.bidders ≡ bidders_in before) × IsJournal bytes after
counted_all bytes c before after n all h = by h.rest h.journal h.count h.goods h.bidders
  where
    by : (rest : List Record) → IsJournal bytes (rest ++ after) → n + length rest ≡ length before → c.goods + goods_in rest ≡ goods_in before → c.bidders + bidders_in rest ≡ bidders_in before → (c.goods ≡ goods_in before) × (c.bidders ≡ bidders_in before) × IsJournal bytes after
    by [] is count g b = (omega (arith, g), omega (arith, b), is)
    by (r ∷ rest) is count g b = absurd (omega (arith, all, count))

-- ---- the goods of a whole journal

abbrev pub GoodsLeft : List ℕ → ℕ → ℕ → Type 0
GoodsLeft bytes goods all = (rest : List Record) × IsJournal bytes rest × (goods + goods_in rest ≡ all)

pub one_counted : (bytes next : List ℕ) (n m all : ℕ) (text : Bor (List ℕ)) → GoodsLeft bytes n all → ((left : List Record) → IsJournal bytes left → HasLine left (Some text) next) → ((r : Record) → text.now ≡ line_of r → m ≡ n + goods_in (r ∷ [])) → GoodsLeft next m all
one_counted bytes next n m all text h starts more =
    let x = has_next text next h.0 (starts h.0 h.1) in
    (x.rest, x.journal, omega (arith, h.2, more x.first x.text_is, ap goods_in x.is, goods_more (x.first ∷ []) x.rest))
