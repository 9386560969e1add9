-- The lines of a statement are in the ranges of their fields, and state the bidder's payment.
use Rattle.std.proofs.Common.{◌≡◌, ℕ, zero, suc, Bool, true, false, List, [], ◌∷◌, ◌++◌, map, length, ℤ, refl, sym, ap, subst, ◌∙◌, arith}
use Rattle.std.specs.Prelude.{Option, Some, None, slice_get, if◌then◌else◌}
use Rattle.std.specs.List.{AllByRecursion, flat_map}
use Rattle.std.specs.Str.{bytes_eq}
use Rattle.std.proofs.lemmas.List.Concat.{flat_map-cons}
use Rattle.std.proofs.lemmas.List.{append-nil}
use Rattle.std.proofs.lemmas.Option.{none-some}
use Rattle.ice_defs.proofs.Lists.{all-first, all-last, all-append}
use Rattle.ice_defs.specs.Set.{NodeSet, IsSatisfied, weight_of}
use Rattle.ice_defs.specs.Lawful.{IsBidder}
use Rattle.ice_defs.specs.Exchange.{Settings, Good, Bidder}
use Rattle.ice_defs.specs.Bounds.{Bounds}
use Rattle.ice_defs.specs.Round.{Judged, of_name}
use Rattle.ice_defs.specs.Session.{Going, Payment, Closed, Session}
use Rattle.ice_journal.specs.Records.{Record, closed_end}
use Rattle.ice_journal.specs.Records as line
use Rattle.ice_journal.specs.Ranges.{IsBits, IsRecord}
use Rattle.ice_defs.specs.declared.NodeKind.{NodeKind}
use Rattle.ice_defs.specs.declared.NodeKind.TheVariants.{Choose, Buy, Sell}
use Rattle.ice_defs.specs.Sum.{numbers_below}
use Rattle.ice_defs.specs.Tree.{kind_of, children_of}
use Rattle.ice_journal.specs.Nodes.{node_record}
use Rattle.ice_section.specs.Section.{good_record}
use Rattle.ice_section.specs.Described.{bidder_records, section_records}
use Rattle.ice_journal_laws.specs.Fields.{payment_in}
use Rattle.ice_statement_laws.proofs.Shown.{each_of}
use Rattle.ice_section.specs.Laws.{DescribedAreRecords}
use Rattle.ice_journal_laws.specs.Written.{proved_records, regret_records, row_record, judged_records, opening_records, going_records, without_records, payment_record, closed_records, settlement_records}
use Rattle.ice_statement_laws.specs.Statement.{Own, StatementLine, named, shown}
use Rattle.ice_statement_laws.specs.Own.{OwnStep, OwnClosed, OwnSession, own_exchange, step_lines, closed_lines, lines_from, own_lines, IsOwnFrom, IsRightOwn}
use Rattle.ice_statement_laws.specs.Parts.{step_of, part_of}
use Rattle.ice_statement_laws.specs.Texts.{IsLine, payment_or, payment_in_line, paid_in}
use Rattle.ice_statement_laws.proofs.Tested.{IsShownRecord}

-- ---- what is shown

map_shown : (rs : List Record) → AllByRecursion IsRecord rs → AllByRecursion IsLine (map shown rs)
map_shown [] all = tt
map_shown (r ∷ rs) all = (all.0, map_shown rs all.1)

judged_own : (name : List ℕ) (judged : List Judged) → AllByRecursion IsShownRecord (flat_map judged_records judged) → AllByRecursion IsRecord (flat_map judged_records (of_name name judged))
judged_own name [] all = tt
judged_own name (j ∷ judged) all =
    let both : AllByRecursion IsShownRecord (judged_records j ++ flat_map judged_records judged) = subst (AllByRecursion IsShownRecord) (flat_map-cons judged_records j judged) all in
    by (bytes_eq name j.submission.name) both (judged_own name judged both.1.1)
  where
    by : (t : Bool) → AllByRecursion IsShownRecord (judged_records j ++ flat_map judged_records judged) → AllByRecursion IsRecord (flat_map judged_records (of_name name judged))
        → AllByRecursion IsRecord (flat_map judged_records (if t then j ∷ of_name name judged else of_name name judged))
    by true both more = subst (AllByRecursion IsRecord) (sym (flat_map-cons judged_records j (of_name name judged))) (both.0, (both.1.0, more))
    by false both more = more

module _ (bidder : Bidder) (goods : ℕ) (lawful : IsBidder goods bidder) where
  bits_are : (s : NodeSet) → IsSatisfied bidder.tree s → IsBits s
  bits_are s is = (omega (arith, is.same_length, lawful.tree.tree.rooted), omega (arith, is.same_length, lawful.tree.count))

  module _ (b : ℕ) (settings : Settings) where
    going_lawful : (number : ℕ) (g : Going) → AllByRecursion IsShownRecord (going_records number g) → IsSatisfied bidder.tree (step_of b bidder.name g).kept → IsSatisfied bidder.tree (step_of b bidder.name g).offered
        → AllByRecursion IsLine (shown (line.settle number) ∷ step_lines (step_of b bidder.name g))
    going_lawful number g all keeps offers =
        let front = all-first IsShownRecord ((line.settle number ∷ regret_records g.settlement) ++ opening_records g) (flat_map judged_records g.judged) all in
        let judged = all-last IsShownRecord ((line.settle number ∷ regret_records g.settlement) ++ opening_records g) (flat_map judged_records g.judged) all in
        let settled = all-first IsShownRecord (line.settle number ∷ regret_records g.settlement) (opening_records g) front in
        let opened = all-last IsShownRecord (line.settle number ∷ regret_records g.settlement) (opening_records g) front in
        let regret = all-last IsShownRecord (proved_records (line.final g.settlement.final.value) g.settlement.final ++ proved_records (line.rival g.settlement.rival.value) g.settlement.rival) (line.regret g.settlement.regret ∷ []) settled.1 in
        let priced = all-last IsShownRecord (proved_records (line.provisional g.provisional.value) g.provisional) (line.prices g.prices ∷ line.accuracy g.violation g.accuracy.den ∷ map row_record g.accuracy.rows)
        (all-first IsShownRecord (proved_records (line.provisional g.provisional.value) g.provisional ++ line.prices g.prices ∷ line.accuracy g.violation g.accuracy.den ∷ map row_record g.accuracy.rows)
        (line.balance g.balance.den ∷ map row_record g.balance.rows) opened) in
        (settled.0, (regret.0, (bits_are _ keeps, (bits_are _ offers, (priced.0, map_shown (flat_map judged_records (of_name bidder.name g.judged)) (judged_own bidder.name g.judged judged))))))

    payment_at : (payments : List Payment) (i : ℕ) (p : Payment) → slice_get payments i ≡ Some p → AllByRecursion IsShownRecord (map payment_record payments) → IsRecord (payment_record p)
    payment_at [] i p e all = absurd (none-some p e)
    payment_at (q ∷ payments) zero p e all = let same : q ≡ p = cc in subst (λ (x : Payment). IsRecord (payment_record x)) same all.0
    payment_at (q ∷ payments) (suc i) p e all = payment_at payments i p e all.1

    closed_lawful : (number : ℕ) (c : Closed) (s : NodeSet) (p : Payment) → AllByRecursion IsShownRecord (closed_records number c) → IsSatisfied bidder.tree s → slice_get c.payments b ≡ Some p
        → AllByRecursion IsLine (shown (line.settle number) ∷ closed_lines (record { regret = c.settlement.regret; kept = s; cut = c.cut; surplus = c.surplus; payment = p }))
    closed_lawful number c s p all keeps paid =
        let before : List Record = (line.settle number ∷ regret_records c.settlement) ++ without_records 0 c.withouts in
        let whole = all-first IsShownRecord (before ++ line.threshold c.cut c.surplus ∷ map payment_record c.payments) (line.end closed_end ∷ []) all in
        let settled = all-first IsShownRecord (line.settle number ∷ regret_records c.settlement) (without_records 0 c.withouts) (all-first IsShownRecord before (line.threshold c.cut c.surplus ∷ map payment_record c.payments) whole) in
        let charged = all-last IsShownRecord before (line.threshold c.cut c.surplus ∷ map payment_record c.payments) whole in
        let regret = all-last IsShownRecord (proved_records (line.final c.settlement.final.value) c.settlement.final ++ proved_records (line.rival c.settlement.rival.value) c.settlement.rival) (line.regret c.settlement.regret ∷ []) settled.1 in
        (settled.0, (regret.0, (bits_are s keeps, (charged.0, (payment_at c.payments b p paid charged.1, (tt, tt))))))

    from_lawful : (number : ℕ) (bounds : Bounds) (going : List Going) (c : Closed) (s : NodeSet) (p : Payment) → AllByRecursion IsShownRecord (settlement_records number going c) → slice_get c.payments b ≡ Some p
        → IsOwnFrom settings goods bidder number bounds (map (step_of b bidder.name) going) (record { regret = c.settlement.regret; kept = s; cut = c.cut; surplus = c.surplus; payment = p })
        → AllByRecursion IsLine (lines_from number (map (step_of b bidder.name) going) (record { regret = c.settlement.regret; kept = s; cut = c.cut; surplus = c.surplus; payment = p }))
    from_lawful number bounds [] c s p all paid (ends, is) = closed_lawful number c s p all is.kept paid
    from_lawful number bounds (g ∷ later) c s p all paid (goes, is, more) =
        all-append IsLine (shown (line.settle number) ∷ step_lines (step_of b bidder.name g)) (lines_from (suc number) (map (step_of b bidder.name) later) (record { regret = c.settlement.regret; kept = s; cut = c.cut; surplus = c.surplus; payment = p }))
        (going_lawful number g (all-first IsShownRecord (going_records number g) (settlement_records (suc number) later c) all) is.kept is.offered)
        (from_lawful (suc number) _ later c s p (all-last IsShownRecord (going_records number g) (settlement_records (suc number) later c) all) paid more)

-- ---- the payment that is stated

-- ---- a whole statement

module _ (records_of : DescribedAreRecords) where
  pub own_lawful : (x : Session) (own : Own) (b : ℕ) → AllByRecursion IsShownRecord (settlement_records 0 x.going x.closed) → slice_get x.closed.payments b ≡ Some own.payment → IsRightOwn (part_of x b own)
      → AllByRecursion IsLine (own_lines (part_of x b own))
  own_lawful x own b all paid right =
      all-append IsLine (named own.bidder.name ∷ map shown (section_records (own_exchange (part_of x b own)))) (lines_from 0 (part_of x b own).going (part_of x b own).closed)
      (right.exchange.bidders_named.0, map_shown (section_records (own_exchange (part_of x b own))) (records_of (own_exchange (part_of x b own)) right.exchange))
      (from_lawful own.bidder (length x.exchange.goods) right.exchange.bidders.0 b x.exchange.settings 0 own.bidder.bounds x.going x.closed own.kept own.payment all paid right.settlements)

-- ---- the payment that is stated

-- records that state no payment
abbrev IsUnpaid : StatementLine → Type 0
IsUnpaid l = payment_in_line l ≡ None

passed : (ls rest : List StatementLine) → AllByRecursion IsUnpaid ls → paid_in (ls ++ rest) ≡ paid_in rest
passed [] rest all = refl
passed (l ∷ ls) rest all = ap (λ (o : Option Payment). payment_or o (paid_in (ls ++ rest))) all.0 ∙ passed ls rest all.1

node_unpaid : (kind : NodeKind) (children : ℕ) (lo hi : ℤ) → payment_in (node_record kind children lo hi) ≡ None
node_unpaid (Choose least most) children lo hi = refl
node_unpaid (Buy good units) children lo hi = refl
node_unpaid (Sell good units) children lo hi = refl

map_unpaid : (rs : List Record) → AllByRecursion (λ r. payment_in r ≡ None) rs → AllByRecursion IsUnpaid (map shown rs)
map_unpaid [] all = tt
map_unpaid (r ∷ rs) all = (all.0, map_unpaid rs all.1)

goods_unpaid : (goods : List Good) → AllByRecursion (λ r. payment_in r ≡ None) (map good_record goods)
goods_unpaid [] = tt
goods_unpaid (g ∷ goods) = (by g.exact, goods_unpaid goods)
  where
    by : (t : Bool) → payment_in (if t then line.exact g.name else line.good g.name) ≡ None
    by true = refl
    by false = refl

bidder_unpaid : (b : Bidder) → AllByRecursion (λ r. payment_in r ≡ None) (bidder_records b)
bidder_unpaid b = (
  refl,
  each_of (λ r. payment_in r ≡ None) (λ n. node_record (kind_of b.tree n) (length (children_of b.tree n)) (weight_of b.bounds.lo n) (weight_of b.bounds.hi n)) (numbers_below (length b.tree))
      (λ n. node_unpaid (kind_of b.tree n) (length (children_of b.tree n)) (weight_of b.bounds.lo n) (weight_of b.bounds.hi n)),
)

judged_unpaid : (judged : List Judged) → AllByRecursion (λ r. payment_in r ≡ None) (flat_map judged_records judged)
judged_unpaid [] = tt
judged_unpaid (j ∷ judged) = subst (AllByRecursion (λ r. payment_in r ≡ None)) (sym (flat_map-cons judged_records j judged)) (refl, (refl, judged_unpaid judged))

from_pays : (number : ℕ) (going : List OwnStep) (c : OwnClosed) → paid_in (lines_from number going c) ≡ Some c.payment.payment
from_pays number [] c = refl
from_pays number (g ∷ later) c =
    passed (map shown (flat_map judged_records g.judged)) (lines_from (suc number) later c) (map_unpaid (flat_map judged_records g.judged) (judged_unpaid g.judged)) ∙ from_pays (suc number) later c

pub own_pays : (x : OwnSession) → paid_in (own_lines x) ≡ Some x.closed.payment.payment
own_pays x =
    passed (map shown (section_records (own_exchange x))) (lines_from 0 x.going x.closed)
    (map_unpaid (section_records (own_exchange x)) (
      refl,
      all-append (λ r. payment_in r ≡ None) (map good_record x.goods) (flat_map bidder_records (x.bidder ∷ [])) (goods_unpaid x.goods)
          (subst (AllByRecursion (λ r. payment_in r ≡ None)) (sym (flat_map-cons bidder_records x.bidder [] ∙ append-nil (bidder_records x.bidder))) (bidder_unpaid x.bidder)),
    ))
    ∙ from_pays 0 x.going x.closed
