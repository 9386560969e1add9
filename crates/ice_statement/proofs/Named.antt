-- A bidder of a closed session journal has something of its own in it, and nobody else has.
use Rattle.std.proofs.Common.{◌≡◌, ◌∙◌, refl, ap, sym, ℕ, zero, suc, ℤ, Bool, true, false, List, [], ◌∷◌, ◌++◌, map, length, append_assoc}
use Rattle.std.specs.Prelude.{if◌then◌else◌, Some, None, slice_get, slice_index_or}
use Rattle.std.specs.List.{flat_map}
use Rattle.std.specs.Str.{bytes_eq}
use Rattle.std.proofs.lemmas.Bool.{false≢true}
use Rattle.std.proofs.lemmas.Option.{none-some}
use Rattle.std.proofs.lemmas.List.Concat.{flat_map-cons}
use Rattle.ice_defs.proofs.Naming.{bytes_eq-same, same-bytes_eq}
use Rattle.ice_defs.specs.declared.NodeKind.{NodeKind}
use Rattle.ice_defs.specs.declared.NodeKind.TheVariants.{Choose, Buy, Sell}
use Rattle.ice_defs.specs.Sum.{numbers_below}
use Rattle.ice_defs.specs.Tree.{kind_of, children_of}
use Rattle.ice_defs.specs.Set.{weight_of}
use Rattle.ice_defs.specs.Bound.{Multipliers}
use Rattle.ice_defs.specs.Exchange.{Good, Bidder, opening_bounds}
use Rattle.ice_defs.specs.Session.{Going, Payment, Closed, Session}
use Rattle.ice_headline_laws.specs.Right.{IsRight}
use Rattle.ice_journal.specs.Records.{Record, version_2}
use Rattle.ice_journal.specs.Records as line
use Rattle.ice_journal.specs.Nodes.{node_record}
use Rattle.ice_journal.specs.Plain.{after_changes, all_zero, goods_in, plain_records, plain}
use Rattle.ice_section.specs.Section.{good_record}
use Rattle.ice_section.specs.Described.{bidder_records}
use Rattle.ice_journal_laws.specs.Theorems.{Says}
use Rattle.ice_journal_laws.specs.Written.{settlement_records, session_records}
use Rattle.ice_statement_laws.specs.Statement.{Own, own_going}
use Rattle.ice_statement_laws.specs.Texts.{IsOwnOf}
use Rattle.ice_statement_laws.proofs.Gathered.{last_names}
use Rattle.ice_statement.specs.Judging.{end_at, answer_or, has_bidder}

module _ (name : List ℕ) where
  -- nodes are passed
  node_passed : (kind : NodeKind) (children : ℕ) (lo hi : ℤ) (rest : List Record) → has_bidder name (node_record kind children lo hi ∷ rest) ≡ has_bidder name rest
  node_passed (Choose least most) children lo hi rest = refl
  node_passed (Buy good units) children lo hi rest = refl
  node_passed (Sell good units) children lo hi rest = refl

  nodes_passed : (kind : ℕ → NodeKind) (children : ℕ → ℕ) (lo hi : ℕ → ℤ) (ns : List ℕ) (rest : List Record) → has_bidder name (map (λ n. node_record (kind n) (children n) (lo n) (hi n)) ns ++ rest) ≡ has_bidder name rest
  nodes_passed kind children lo hi [] rest = refl
  nodes_passed kind children lo hi (n ∷ ns) rest =
      node_passed (kind n) (children n) (lo n) (hi n) (map (λ i. node_record (kind i) (children i) (lo i) (hi i)) ns ++ rest) ∙ nodes_passed kind children lo hi ns rest

  -- so are goods
  good_passed : (x : Good) (rest : List Record) → has_bidder name (good_record x ∷ rest) ≡ has_bidder name rest
  good_passed x rest = by x.exact
    where
      by : (t : Bool) → has_bidder name ((if t then line.exact x.name else line.good x.name) ∷ rest) ≡ has_bidder name rest
      by true = refl
      by false = refl

  goods_passed : (goods : List Good) (rest : List Record) → has_bidder name (map good_record goods ++ rest) ≡ has_bidder name rest
  goods_passed [] rest = refl
  goods_passed (x ∷ goods) rest = good_passed x (map good_record goods ++ rest) ∙ goods_passed goods rest

  -- among these bidders is one with the name
  abbrev among : List Bidder → Bool
  among [] = false
  among (b ∷ bidders) = if bytes_eq name b.name then true else among bidders

  branch : (t later : Bool) → answer_or (if t then Some true else None) later ≡ (if t then true else later)
  branch true later = refl
  branch false later = refl

  bidders_told : (bidders : List Bidder) (rest : List Record) → has_bidder name rest ≡ false → has_bidder name (flat_map bidder_records bidders ++ rest) ≡ among bidders
  bidders_told [] rest none = none
  bidders_told (b ∷ bidders) rest none =
      ap (λ (rs : List Record). has_bidder name (rs ++ rest)) (flat_map-cons bidder_records b bidders)
      ∙ ap (has_bidder name) (append_assoc (bidder_records b) (flat_map bidder_records bidders) rest)
      ∙ branch (bytes_eq name b.name) (has_bidder name (later ++ (flat_map bidder_records bidders ++ rest)))
      ∙ ap (λ (t : Bool). if bytes_eq name b.name then true else t)
      (nodes_passed (kind_of b.tree) (λ n. length (children_of b.tree n)) (weight_of b.bounds.lo) (weight_of b.bounds.hi) (numbers_below (length b.tree)) (flat_map bidder_records bidders ++ rest) ∙ bidders_told bidders rest none)
    where
      later : List Record
      later = map (λ n. node_record (kind_of b.tree n) (length (children_of b.tree n)) (weight_of b.bounds.lo n) (weight_of b.bounds.hi n)) (numbers_below (length b.tree))

  -- at the first settlement the search ends
  settle_ends : (number : ℕ) (going : List Going) (c : Closed) → has_bidder name (settlement_records number going c) ≡ false
  settle_ends number [] c = refl
  settle_ends number (x ∷ later) c = refl

  session_told : (x : Session) → has_bidder name (session_records x) ≡ among x.exchange.bidders
  session_told x =
      ap (has_bidder name) (append_assoc (map good_record x.exchange.goods) (flat_map bidder_records x.exchange.bidders) (settlement_records 0 x.going x.closed))
      ∙ goods_passed x.exchange.goods (flat_map bidder_records x.exchange.bidders ++ settlement_records 0 x.going x.closed)
      ∙ bidders_told x.exchange.bidders (settlement_records 0 x.going x.closed) (settle_ends 0 x.going x.closed)

  plain_told : (goods : ℕ) (m : Multipliers) (records : List Record) → has_bidder name (plain_records goods m records) ≡ has_bidder name records
  plain_told goods m [] = refl
  plain_told goods m (line.near changes ∷ rest) = plain_told goods (after_changes m changes) rest
  plain_told goods m (line.step s ∷ rest) = plain_told goods m rest
  plain_told goods m (r ∷ rest) = ap (answer_or (end_at name r)) (plain_told goods (all_zero goods) rest)

  told_plain : (journal : List Record) → has_bidder name (plain journal) ≡ has_bidder name journal
  told_plain (line.head version_2 kind ∷ rest) = plain_told (goods_in rest) (all_zero (goods_in rest)) rest
  told_plain other = refl

  journal_told : (journal : List Record) (x : Session) → Says journal (session_records x) → has_bidder name journal ≡ among x.exchange.bidders
  journal_told journal x says = sym (told_plain journal) ∙ ap (has_bidder name) says ∙ session_told x

  -- one that is there
  abbrev HasPlace : List Bidder → Type 0
  HasPlace bidders = (i : ℕ) × (b : Bidder) × (slice_get bidders i ≡ Some b) × (b.name ≡ name)

  at_place : (bidders : List Bidder) → among bidders ≡ true → HasPlace bidders
  at_place [] e = absurd (false≢true e)
  at_place (b ∷ bidders) e = by (bytes_eq name b.name) refl (λ later. at_place bidders later) e
    where
      by : (t : Bool) → bytes_eq name b.name ≡ t → (among bidders ≡ true → HasPlace bidders) → (if t then true else among bidders) ≡ true → HasPlace (b ∷ bidders)
      by true same more e2 = (0, b, refl, sym (same-bytes_eq name b.name same))
      by false other more e2 = let (i, x, is, called) = more e2 in (suc i, x, is, called)

  is_among : (bidders : List Bidder) (i : ℕ) (b : Bidder) → slice_get bidders i ≡ Some b → b.name ≡ name → among bidders ≡ true
  is_among [] i b is called = absurd (none-some b is)
  is_among (y ∷ bidders) zero b is called =
      let same : y ≡ b = cc in
      ap (λ (t : Bool). if t then true else among bidders) (bytes_eq-same name y.name (sym (ap (λ (x : Bidder). x.name) same ∙ called)))
  is_among (y ∷ bidders) (suc i) b is called = by (bytes_eq name y.name) (is_among bidders i b is called)
    where
      by : (t : Bool) → among bidders ≡ true → (if t then true else among bidders) ≡ true
      by true e = refl
      by false e = e

-- its payment
payment_at : (payments : List Payment) (bidders : List Bidder) (i : ℕ) (b : Bidder) → map (λ (p : Payment). p.name) payments ≡ map (λ (y : Bidder). y.name) bidders → slice_get bidders i ≡ Some b → (p : Payment) × (slice_get payments i ≡ Some p)
payment_at payments [] i b e is = absurd (none-some b is)
payment_at [] (y ∷ bidders) i b e is = absurd (by e)
  where
    by : [] ≡ y.name ∷ map (λ (x : Bidder). x.name) bidders → ⊥
    by e2 = cc
payment_at (p ∷ payments) (y ∷ bidders) zero b e is = (p, refl)
payment_at (p ∷ payments) (y ∷ bidders) (suc i) b e is =
    let later : map (λ (q : Payment). q.name) payments ≡ map (λ (x : Bidder). x.name) bidders = cc in
    payment_at payments bidders i b later is

pub has_own : (journal : List Record) (name : List ℕ) (x : Session) → Says journal (session_records x) → IsRight x → has_bidder name journal ≡ true → (own : Own) × IsOwnOf journal name own
has_own journal name x says right found =
    let (i, b, is, called) = at_place name x.exchange.bidders (sym (journal_told name journal x says) ∙ found) in
    let (p, paid) = payment_at x.closed.payments x.exchange.bidders i b (last_names x.exchange 0 (opening_bounds x.exchange) x.going x.closed right.settlements) is in (
      record { bidder = b; going = map (own_going i name) x.going; kept = slice_index_or x.closed.settlement.final.sets i []; payment = p },
      record { session = x; says = says; right = right; is_own = record { number = i; bidder = is; named = called; going = refl; kept = refl; payment = paid } },
    )

pub has_none : (journal : List Record) (name : List ℕ) (own : Own) → has_bidder name journal ≡ false → ¬ IsOwnOf journal name own
has_none journal name own none is =
    false≢true (sym none ∙ journal_told name journal is.session is.says ∙ is_among name is.session.exchange.bidders is.is_own.number own.bidder is.is_own.bidder is.is_own.named)
