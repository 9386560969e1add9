-- What is published of a session.
use Rattle.std.proofs.Common.{◌≡◌, ℕ, suc, Bool, true, false, cond, List, [], ◌∷◌, ◌++◌, map, length, ℤ, refl, ◌∙◌, ap}
use Rattle.std.specs.Prelude.{filter}
use Rattle.std.specs.List.{flat_map, AllByRecursion}
use Rattle.std.proofs.lemmas.List.{append-nil}
use Rattle.std.proofs.lemmas.List.Elements.{filter-append}
use Rattle.std.proofs.lemmas.List.Concat.{flat_map-cons}
use Rattle.ice_defs.specs.declared.NodeKind.{NodeKind}
use Rattle.ice_defs.specs.declared.NodeKind.TheVariants.{Choose, Buy, Sell}
use Rattle.ice_defs.specs.Sum.{numbers_below}
use Rattle.ice_defs.specs.Tree.{kind_of, children_of}
use Rattle.ice_defs.specs.Set.{NodeSet, weight_of}
use Rattle.ice_defs.specs.Steps.{Step}
use Rattle.ice_defs.specs.Bound.{Multipliers}
use Rattle.ice_defs.specs.Rows.{Row}
use Rattle.ice_defs.specs.Round.{Judged}
use Rattle.ice_defs.specs.Exchange.{Good, Bidder, Exchange}
use Rattle.ice_defs.specs.Session.{Proved, Settlement, Going, Payment, Closed, Session}
use Rattle.ice_journal.specs.Records.{Record, version_2, closed_end}
use Rattle.ice_journal.specs.Records as line
use Rattle.ice_journal.specs.Nodes.{node_record}
use Rattle.ice_journal.specs.Plain.{after_changes, all_zero, goods_in, plain_records, plain}
use Rattle.ice_section.specs.Section.{good_record}
use Rattle.ice_section.specs.Described.{node_records, bidder_records, section_records}
use Rattle.ice_journal_laws.specs.Written.{proved_records, regret_records, row_record, judged_records, opening_records, going_records, without_records, payment_record, closed_records, settlement_records, session_records}
use Rattle.ice_statement_laws.specs.Statement.{is_published, public_records, is_header, header_lines, later_records}

-- ---- lists of which all are shown, or none

pub none_kept : {X : Type 0} (f : X → Bool) (xs : List X) → AllByRecursion (λ x. f x ≡ false) xs → filter f xs ≡ []
none_kept f [] all = refl
none_kept f (x ∷ xs) (is, all) = ap (λ (b : Bool). cond b (x ∷ filter f xs) (filter f xs)) is ∙ none_kept f xs all

pub all_kept : {X : Type 0} (f : X → Bool) (xs : List X) → AllByRecursion (λ x. f x ≡ true) xs → filter f xs ≡ xs
all_kept f [] all = refl
all_kept f (x ∷ xs) (is, all) = ap (λ (b : Bool). cond b (x ∷ filter f xs) (filter f xs)) is ∙ ap (λ ys. x ∷ ys) (all_kept f xs all)

-- of a map
pub each_of : {X Y : Type 0} (P : Y → Type 0) (f : X → Y) (xs : List X) → ((x : X) → P (f x)) → AllByRecursion P (map f xs)
each_of P f [] h = tt
each_of P f (x ∷ xs) h = (h x, each_of P f xs h)

-- ---- what a session publishes

pub published-append : (xs ys : List Record) → public_records (xs ++ ys) ≡ public_records xs ++ public_records ys
published-append xs ys = filter-append is_published xs ys

node_hidden : (kind : NodeKind) (children : ℕ) (lo hi : ℤ) → is_published (node_record kind children lo hi) ≡ false
node_hidden (Choose least most) children lo hi = refl
node_hidden (Buy good units) children lo hi = refl
node_hidden (Sell good units) children lo hi = refl

bidder_hidden : (b : Bidder) → public_records (bidder_records b) ≡ []
bidder_hidden b =
    none_kept is_published (node_records b)
    (each_of (λ r. is_published r ≡ false) (λ n. node_record (kind_of b.tree n) (length (children_of b.tree n)) (weight_of b.bounds.lo n) (weight_of b.bounds.hi n)) (numbers_below (length b.tree))
    (λ n. node_hidden (kind_of b.tree n) (length (children_of b.tree n)) (weight_of b.bounds.lo n) (weight_of b.bounds.hi n)))

bidders_hidden : (bidders : List Bidder) → public_records (flat_map bidder_records bidders) ≡ []
bidders_hidden [] = refl
bidders_hidden (b ∷ bidders) =
    ap public_records (flat_map-cons bidder_records b bidders) ∙ published-append (bidder_records b) (flat_map bidder_records bidders)
    ∙ ap (λ (rs : List Record). rs ++ public_records (flat_map bidder_records bidders)) (bidder_hidden b) ∙ bidders_hidden bidders

good_shown : (g : Good) → is_published (good_record g) ≡ true
good_shown g = by g.exact
  where
    by : (b : Bool) → is_published (cond b (line.exact g.name) (line.good g.name)) ≡ true
    by true = refl
    by false = refl

section_shown : (ex : Exchange) → public_records (section_records ex) ≡ line.settings ex.settings ∷ map good_record ex.goods
section_shown ex =
    ap (λ (rs : List Record). line.settings ex.settings ∷ rs)
    (published-append (map good_record ex.goods) (flat_map bidder_records ex.bidders)
    ∙ ap (λ (rs : List Record). rs ++ public_records (flat_map bidder_records ex.bidders)) (all_kept is_published (map good_record ex.goods) (each_of (λ r. is_published r ≡ true) good_record ex.goods good_shown))
    ∙ ap (λ (rs : List Record). map good_record ex.goods ++ rs) (bidders_hidden ex.bidders) ∙ append-nil (map good_record ex.goods))

-- a group but for its head
group_hidden : (sets : List NodeSet) (log : List Step) → public_records (map line.set sets ++ map line.step log) ≡ []
group_hidden [] log = none_kept is_published (map line.step log) (each_of (λ r. is_published r ≡ false) line.step log (λ x. refl))
group_hidden (s ∷ sets) log = group_hidden sets log

-- a group whose head is hidden
proved_hidden : (first : Record) (p : Proved) → is_published first ≡ false → public_records (proved_records first p) ≡ []
proved_hidden first p is = ap (λ (b : Bool). cond b (first ∷ public_records (map line.set p.sets ++ map line.step p.log)) (public_records (map line.set p.sets ++ map line.step p.log))) is ∙ group_hidden p.sets p.log

both : (xs ys : List Record) (a : List Record) (b : List Record) → public_records xs ≡ a → public_records ys ≡ b → public_records (xs ++ ys) ≡ a ++ b
both xs ys a b e f = published-append xs ys ∙ ap (λ (rs : List Record). rs ++ public_records ys) e ∙ ap (λ (rs : List Record). a ++ rs) f

regret_shown : (x : Settlement) → public_records (regret_records x) ≡ line.regret x.regret ∷ []
regret_shown x =
    both (proved_records (line.final x.final.value) x.final ++ proved_records (line.rival x.rival.value) x.rival) (line.regret x.regret ∷ []) [] (line.regret x.regret ∷ [])
    (both (proved_records (line.final x.final.value) x.final) (proved_records (line.rival x.rival.value) x.rival) [] [] (proved_hidden (line.final x.final.value) x.final refl)
    (proved_hidden (line.rival x.rival.value) x.rival refl))
    refl

rows_hidden : (rows : List Row) → public_records (map row_record rows) ≡ []
rows_hidden rows = none_kept is_published (map row_record rows) (each_of (λ r. is_published r ≡ false) row_record rows (λ x. refl))

judged_hidden : (judged : List Judged) → public_records (flat_map judged_records judged) ≡ []
judged_hidden [] = refl
judged_hidden (j ∷ judged) = ap public_records (flat_map-cons judged_records j judged) ∙ judged_hidden judged

opening_shown : (g : Going) → public_records (opening_records g) ≡ line.prices g.prices ∷ []
opening_shown g =
    both (proved_records (line.provisional g.provisional.value) g.provisional ++ line.prices g.prices ∷ line.accuracy g.violation g.accuracy.den ∷ map row_record g.accuracy.rows)
    (line.balance g.balance.den ∷ map row_record g.balance.rows) (line.prices g.prices ∷ []) []
    (both (proved_records (line.provisional g.provisional.value) g.provisional) (line.prices g.prices ∷ line.accuracy g.violation g.accuracy.den ∷ map row_record g.accuracy.rows) [] (line.prices g.prices ∷ [])
    (proved_hidden (line.provisional g.provisional.value) g.provisional refl) (ap (λ (rs : List Record). line.prices g.prices ∷ rs) (rows_hidden g.accuracy.rows)))
    (rows_hidden g.balance.rows)

-- a settlement that goes on
going_shown : (number : ℕ) (g : Going) → public_records (going_records number g) ≡ line.settle number ∷ line.regret g.settlement.regret ∷ line.prices g.prices ∷ []
going_shown number g =
    both ((line.settle number ∷ regret_records g.settlement) ++ opening_records g) (flat_map judged_records g.judged) (line.settle number ∷ line.regret g.settlement.regret ∷ line.prices g.prices ∷ []) []
    (both (line.settle number ∷ regret_records g.settlement) (opening_records g) (line.settle number ∷ line.regret g.settlement.regret ∷ []) (line.prices g.prices ∷ [])
    (ap (λ (rs : List Record). line.settle number ∷ rs) (regret_shown g.settlement)) (opening_shown g))
    (judged_hidden g.judged)

without_hidden : (b : ℕ) (ps : List Proved) → public_records (without_records b ps) ≡ []
without_hidden b [] = refl
without_hidden b (p ∷ later) = both (proved_records (line.without b p.value) p) (without_records (suc b) later) [] [] (proved_hidden (line.without b p.value) p refl) (without_hidden (suc b) later)

payments_hidden : (payments : List Payment) → public_records (map payment_record payments) ≡ []
payments_hidden payments = none_kept is_published (map payment_record payments) (each_of (λ r. is_published r ≡ false) payment_record payments (λ p. refl))

closed_shown : (number : ℕ) (c : Closed) → public_records (closed_records number c) ≡ line.settle number ∷ line.regret c.settlement.regret ∷ line.threshold c.cut c.surplus ∷ []
closed_shown number c =
    both (((line.settle number ∷ regret_records c.settlement) ++ without_records 0 c.withouts) ++ (line.threshold c.cut c.surplus ∷ map payment_record c.payments)) (line.end closed_end ∷ [])
    (line.settle number ∷ line.regret c.settlement.regret ∷ line.threshold c.cut c.surplus ∷ []) []
    (both ((line.settle number ∷ regret_records c.settlement) ++ without_records 0 c.withouts) (line.threshold c.cut c.surplus ∷ map payment_record c.payments)
    (line.settle number ∷ line.regret c.settlement.regret ∷ []) (line.threshold c.cut c.surplus ∷ [])
    (both (line.settle number ∷ regret_records c.settlement) (without_records 0 c.withouts) (line.settle number ∷ line.regret c.settlement.regret ∷ []) []
    (ap (λ (rs : List Record). line.settle number ∷ rs) (regret_shown c.settlement)) (without_hidden 0 c.withouts))
    (ap (λ (rs : List Record). line.threshold c.cut c.surplus ∷ rs) (payments_hidden c.payments)))
    refl

-- the settlements, as they are published
abbrev pub shown_from : ℕ → List Going → Closed → List Record
shown_from number [] c = line.settle number ∷ line.regret c.settlement.regret ∷ line.threshold c.cut c.surplus ∷ []
shown_from number (g ∷ later) c = line.settle number ∷ line.regret g.settlement.regret ∷ line.prices g.prices ∷ shown_from (suc number) later c

settlements_shown : (number : ℕ) (going : List Going) (c : Closed) → public_records (settlement_records number going c) ≡ shown_from number going c
settlements_shown number [] c = closed_shown number c
settlements_shown number (g ∷ later) c =
    both (going_records number g) (settlement_records (suc number) later c) (line.settle number ∷ line.regret g.settlement.regret ∷ line.prices g.prices ∷ []) (shown_from (suc number) later c) (going_shown number g)
    (settlements_shown (suc number) later c)

abbrev pub shown_of : Session → List Record
shown_of x = (line.settings x.exchange.settings ∷ map good_record x.exchange.goods) ++ shown_from 0 x.going x.closed

pub session_shown : (x : Session) → public_records (session_records x) ≡ shown_of x
session_shown x =
    both (section_records x.exchange) (settlement_records 0 x.going x.closed) (line.settings x.exchange.settings ∷ map good_record x.exchange.goods) (shown_from 0 x.going x.closed) (section_shown x.exchange)
    (settlements_shown 0 x.going x.closed)

-- ---- its header, and what comes behind it

good_header : (g : Good) → is_header (good_record g) ≡ true
good_header g = by g.exact
  where
    by : (b : Bool) → is_header (cond b (line.exact g.name) (line.good g.name)) ≡ true
    by true = refl
    by false = refl

no_header : (number : ℕ) (going : List Going) (c : Closed) → header_lines (shown_from number going c) ≡ []
no_header number [] c = refl
no_header number (g ∷ later) c = no_header (suc number) later c

all_later : (number : ℕ) (going : List Going) (c : Closed) → later_records (shown_from number going c) ≡ shown_from number going c
all_later number [] c = refl
all_later number (g ∷ later) c = ap (λ (rs : List Record). line.settle number ∷ line.regret g.settlement.regret ∷ line.prices g.prices ∷ rs) (all_later (suc number) later c)

pub header_of : (x : Session) → header_lines (shown_of x) ≡ line.settings x.exchange.settings ∷ map good_record x.exchange.goods
header_of x =
    ap (λ (rs : List Record). line.settings x.exchange.settings ∷ rs)
    (filter-append is_header (map good_record x.exchange.goods) (shown_from 0 x.going x.closed)
    ∙ ap (λ (rs : List Record). rs ++ header_lines (shown_from 0 x.going x.closed)) (all_kept is_header (map good_record x.exchange.goods) (each_of (λ r. is_header r ≡ true) good_record x.exchange.goods good_header))
    ∙ ap (λ (rs : List Record). map good_record x.exchange.goods ++ rs) (no_header 0 x.going x.closed) ∙ append-nil (map good_record x.exchange.goods))

goods_earlier : (goods : List Good) → later_records (map good_record goods) ≡ []
goods_earlier goods = none_kept (λ r. cond (is_header r) false true) (map good_record goods) (each_of (λ r. cond (is_header r) false true ≡ false) good_record goods (λ g. ap (λ (b : Bool). cond b false true) (good_header g)))

pub later_of : (x : Session) → later_records (shown_of x) ≡ shown_from 0 x.going x.closed
later_of x =
    filter-append (λ r. cond (is_header r) false true) (map good_record x.exchange.goods) (shown_from 0 x.going x.closed)
    ∙ ap (λ (rs : List Record). rs ++ later_records (shown_from 0 x.going x.closed)) (goods_earlier x.exchange.goods) ∙ all_later 0 x.going x.closed

-- ---- the same in either version

plain_published : (goods : ℕ) (m : Multipliers) (records : List Record) → public_records (plain_records goods m records) ≡ public_records records
plain_published goods m [] = refl
plain_published goods m (line.near changes ∷ rest) = plain_published goods (after_changes m changes) rest
plain_published goods m (line.step s ∷ rest) = plain_published goods m rest
plain_published goods m (r ∷ rest) = ap (λ (rs : List Record). cond (is_published r) (r ∷ rs) rs) (plain_published goods (all_zero goods) rest)

pub plain_shown : (journal : List Record) → public_records (plain journal) ≡ public_records journal
plain_shown (line.head version_2 kind ∷ rest) = plain_published (goods_in rest) (all_zero (goods_in rest)) rest
plain_shown other = refl
