-- The records of settlements are records: all numbers are in their ranges.
use Rattle.std.proofs.Common.{ℕ, ℤ, suc, ◌+◌, ◌≤◌, ◌≡◌, sym, subst, List, [], ◌∷◌, ◌++◌, length, map, Option, Some, None, arith}
use Rattle.std.specs.Prelude.{IfSome}
use Rattle.std.specs.Global.{Vec}
use Rattle.std.specs.List.{AllByRecursion}
use Rattle.ice_defs.specs.Rows.{Row}
use Rattle.ice_defs.specs.PricingRun.{Member}
use Rattle.ice_defs.specs.Exchange.{Exchange, exact_of, names_of}
use Rattle.ice_defs.specs.Session.{Proved, Settlement, Payment}
use Rattle.ice_defs.proofs.Lists.{all-append}
use Rattle.ice_journal.specs.Records.{Record, version_2, spent_end, limit_end, closed_end}
use Rattle.ice_journal.specs.Records as line
use Rattle.ice_journal.specs.Ranges.{IsRecord, IsStageRecord}
use Rattle.ice_journal_laws.specs.Written.{row_record, payment_record}
use Rattle.ice_journal_laws.specs.Showing.{group_records, regret_group_records}
use Rattle.ice_journal_laws.specs.ShowingSession.{without_group_records}
use Rattle.ice_search.specs.Results.{proved_found, proved_spent}
use Rattle.ice_search.specs.declared.results.Found.{Found}
use Rattle.ice_search.specs.declared.results.Spent.{Spent}
use Rattle.ice_regret.specs.Regretted.{proved_rival}
use Rattle.ice_regret.specs.declared.lead.Regret.{Regret}
use Rattle.ice_price.specs.declared.ends.PriceLimit.{PriceLimit}
use Rattle.ice_defs.specs.PricingLimit.{stage_of, limit_of}
use Rattle.ice_defs.specs.declared.PricingStage.{PricingStage}
use Rattle.ice_defs.specs.declared.PricingStage.TheVariants.{Accuracy, Balance}
use Rattle.ice_vickrey.specs.Marginals.{proved_without}
use Rattle.ice_vickrey.specs.declared.marginal.Marginal.{Marginal}
use Rattle.ice_settled.specs.Shown.{settlement_of, discounts_of, payments_of, closed_of, closing_with}
use Rattle.ice_settled.specs.declared.settled.Opening.{Opening}
use Rattle.ice_settled.specs.declared.settled.Closing.{Closing}
use Rattle.ice_settled.specs.declared.settled.Charged.{Charged}
use Rattle.ice_settled.specs.declared.settled.Halt.{Halt}
use Rattle.ice_write.proofs.Groups.{group_are_records}
use Rattle.ice_write_session.specs.Records.{member_record, rival_records, provisional_records, without_records, regret_records, opening_records, spent_records, found_final, found_regret, found_provisional, halt_records, closing_records, limit_records}
use Rattle.ice_write_session.specs.Writable.{IsWritable, IsWritableRegret, IsWritableSettlement, IsWritableRow, AreWritableWithout, IsWritableOpening, IsWritablePayment, IsWritableClosing, IsWritableCharged, IsWritableHalt, IsWritableMember, IsWritableLimit}

group_are : (goods : ℕ) (first : Record) (p : Proved) → IsRecord first → IsWritable goods p → AllByRecursion IsRecord (group_records version_2 goods first p)
group_are goods first p is may = group_are_records first goods p.sets p.log is may.group

settlement_are : (goods : ℕ) (x : Settlement) → IsWritableSettlement goods x → AllByRecursion IsRecord (regret_group_records version_2 goods x)
settlement_are goods x may =
    all-append IsRecord (group_records version_2 goods (line.final x.final.value) x.final ++ group_records version_2 goods (line.rival x.rival.value) x.rival) (line.regret x.regret ∷ [])
    (all-append IsRecord (group_records version_2 goods (line.final x.final.value) x.final) (group_records version_2 goods (line.rival x.rival.value) x.rival)
    (group_are goods (line.final x.final.value) x.final may.final.value may.final) (group_are goods (line.rival x.rival.value) x.rival may.rival.value may.rival))
    (may.regret, tt)

rows_are : (rows : List Row) → AllByRecursion IsWritableRow rows → AllByRecursion IsRecord (map row_record rows)
rows_are [] may = tt
rows_are (row ∷ rows) may = (may.0, rows_are rows may.1)

payments_are : (payments : List Payment) → AllByRecursion IsWritablePayment payments → AllByRecursion IsRecord (map payment_record payments)
payments_are [] may = tt
payments_are (p ∷ payments) may = (may.0, payments_are payments may.1)

members_are : (pool : List Member) → AllByRecursion IsWritableMember pool → AllByRecursion IsRecord (map member_record pool)
members_are [] may = tt
members_are (m ∷ pool) may = (may.0, members_are pool may.1)

withouts_are : (goods b : ℕ) (ms : List Marginal) → b + length ms ≤ 40 → AllByRecursion (λ m. IsWritable goods (proved_without m)) ms → AllByRecursion IsRecord (without_group_records version_2 goods b (map proved_without ms))
withouts_are goods b [] few may = tt
withouts_are goods b (m ∷ ms) few may =
    all-append IsRecord (group_records version_2 goods (line.without b m.without) (proved_without m)) (without_group_records version_2 goods (suc b) (map proved_without ms))
    (group_are goods (line.without b m.without) (proved_without m) (omega (arith, few), may.0.value) may.0) (withouts_are goods (suc b) ms (omega (arith, few)) may.1)

-- a settlement whose final sets and regret are found, with the groups without the first bidders
pub settling_are_records : (ex : Exchange) (number : ℕ) (best : Found) (r : Regret) (ms : List Marginal) → number ≤ 20 → IsWritableSettlement (length (exact_of ex)) (settlement_of best r) → AreWritableWithout (length (exact_of ex)) ms
    → AllByRecursion IsRecord ((line.settle number ∷ regret_records ex best r) ++ without_records ex ms)
settling_are_records ex number best r ms few settlement may =
    all-append IsRecord (line.settle number ∷ regret_records ex best r) (without_records ex ms) (few, settlement_are (length (exact_of ex)) (settlement_of best r) settlement)
    (withouts_are (length (exact_of ex)) 0 ms (omega (arith, may.few)) may.each)

-- or with the provisional sets
pub offered_are_records : (ex : Exchange) (number : ℕ) (best : Found) (r : Regret) (p : Found) → number ≤ 20 → IsWritableSettlement (length (exact_of ex)) (settlement_of best r) → IsWritable (length (exact_of ex)) (proved_found p)
    → AllByRecursion IsRecord ((line.settle number ∷ regret_records ex best r) ++ provisional_records ex p)
offered_are_records ex number best r p few settlement may =
    all-append IsRecord (line.settle number ∷ regret_records ex best r) (provisional_records ex p) (few, settlement_are (length (exact_of ex)) (settlement_of best r) settlement)
    (group_are (length (exact_of ex)) (line.provisional p.value) (proved_found p) may.value may)

-- where the prices are a record too
pub opening_are_records : (ex : Exchange) (o : Opening) → IsWritableOpening (length (exact_of ex)) o → IsRecord (line.prices o.pricing.prices) → AllByRecursion IsRecord (opening_records ex o)
opening_are_records ex o may prices =
    let goods = length (exact_of ex) in
    let offered = provisional_records ex o.provisional in
    let accurate : List Record = line.prices o.pricing.prices ∷ line.accuracy o.pricing.delta o.pricing.accuracy.den ∷ map row_record o.pricing.accuracy.rows in
    let balanced : List Record = line.balance o.pricing.balance.den ∷ map row_record o.pricing.balance.rows in
    all-append IsRecord (line.settle o.number ∷ regret_records ex o.best o.regret) ((offered ++ accurate) ++ balanced)
    (may.number, settlement_are goods (settlement_of o.best o.regret) may.settlement)
    (all-append IsRecord (offered ++ accurate) balanced
    (all-append IsRecord offered accurate (group_are goods (line.provisional o.provisional.value) (proved_found o.provisional) may.provisional.value may.provisional)
    (prices, ((may.pricing.violation, may.pricing.accuracy.den), rows_are o.pricing.accuracy.rows may.pricing.accuracy.rows)))
    (may.pricing.balance.den, rows_are o.pricing.balance.rows may.pricing.balance.rows))

pub closing_are_records : (c : Closing) → IsWritableClosing c → AllByRecursion IsRecord (closing_records c)
closing_are_records c may =
    let goods = length (exact_of c.exchange) in
    let settled : List Record = line.settle c.number ∷ regret_records c.exchange c.best c.regret in
    let withouts = without_records c.exchange c.marginals.items in
    let charged : List Record = line.threshold c.payments.cut c.payments.surplus ∷ map payment_record (closed_of c.exchange c).payments in
    let last : List Record = line.end closed_end ∷ [] in
    all-append IsRecord ((settled ++ withouts) ++ charged) last
    (all-append IsRecord (settled ++ withouts) charged
    (all-append IsRecord settled withouts (may.number, settlement_are goods (settlement_of c.best c.regret) may.settlement)
    (withouts_are goods 0 c.marginals.items (omega (arith, may.withouts.few)) may.withouts.each))
    ((may.cut, may.surplus), payments_are (closed_of c.exchange c).payments may.payments))
    (tt, tt)

-- what is put behind the groups without each bidder may be written where all of it may
pub charged_may : (c : Charged) (ms : Vec Marginal) → c.vickreys.items ≡ discounts_of ms.items → IsWritableClosing (closing_with c ms) → IsWritableCharged c
charged_may c ms same may =
    let names = names_of c.exchange in
    let ds = c.payments.discounts.items in
    let ps = c.payments.payments.items in
    record {
      cut = may.cut;
      surplus = may.surplus;
      payments_count = subst (λ (vs : List ℤ). length (payments_of names vs ds ps) ≡ length c.exchange.bidders) (sym same) may.payments_count;
      payments = subst (λ (vs : List ℤ). AllByRecursion IsWritablePayment (payments_of names vs ds ps)) (sym same) may.payments;
    }

-- where the head is a record too
pub spent_are_records : (ex : Exchange) (s : Spent) → IsWritable (length (exact_of ex)) (proved_spent s) → IsRecord (line.spent s.value s.bound) → AllByRecursion IsRecord (spent_records ex s)
spent_are_records ex s may is =
    all-append IsRecord (group_records version_2 (length (exact_of ex)) (line.spent s.value s.bound) (proved_spent s)) (line.end spent_end ∷ []) (group_are (length (exact_of ex)) (line.spent s.value s.bound) (proved_spent s) is may) (tt, tt)

-- ---- a halt

found_final_are : (ex : Exchange) (o : Option Found) → IfSome o (λ best. IsWritable (length (exact_of ex)) (proved_found best)) → AllByRecursion IsRecord (found_final ex o)
found_final_are ex None may = tt
found_final_are ex (Some best) may = group_are (length (exact_of ex)) (line.final best.value) (proved_found best) may.value may

found_regret_are : (ex : Exchange) (o : Option Regret) → IfSome o (IsWritableRegret (length (exact_of ex))) → AllByRecursion IsRecord (found_regret ex o)
found_regret_are ex None may = tt
found_regret_are ex (Some r) may =
    all-append IsRecord (rival_records ex r) (line.regret r.amount ∷ []) (group_are (length (exact_of ex)) (line.rival r.value) (proved_rival r) may.rival.value may.rival) (may.amount, tt)

found_provisional_are : (ex : Exchange) (o : Option Found) → IfSome o (λ p. IsWritable (length (exact_of ex)) (proved_found p)) → AllByRecursion IsRecord (found_provisional ex o)
found_provisional_are ex None may = tt
found_provisional_are ex (Some p) may = group_are (length (exact_of ex)) (line.provisional p.value) (proved_found p) may.value may

pub halt_are_records : (h : Halt) → IsWritableHalt h → AllByRecursion IsRecord (halt_records h)
halt_are_records h may =
    let begun : List Record = line.settle h.number ∷ [] in
    let final = found_final h.exchange h.best in
    let regret = found_regret h.exchange h.regret in
    let withouts = without_records h.exchange h.marginals.items in
    all-append IsRecord (((begun ++ final) ++ regret) ++ withouts) (found_provisional h.exchange h.provisional)
    (all-append IsRecord ((begun ++ final) ++ regret) withouts
    (all-append IsRecord (begun ++ final) regret
    (all-append IsRecord begun final (may.number, tt) (found_final_are h.exchange h.best may.final))
    (found_regret_are h.exchange h.regret may.regret))
    (withouts_are (length (exact_of h.exchange)) 0 h.marginals.items (omega (arith, may.withouts.few)) may.withouts.each))
    (found_provisional_are h.exchange h.provisional may.provisional)

stage_is : (stage : PricingStage) → IsStageRecord (stage_of stage)
stage_is Accuracy = tt
stage_is Balance = tt

pub limit_are_records : (limit : PriceLimit) → IsWritableLimit limit → AllByRecursion IsRecord (limit_records limit)
limit_are_records limit may =
    all-append IsRecord (line.limit (stage_of limit.stage) (limit_of limit.kind) limit.delta limit.den ∷ map member_record limit.pool.items) (line.end limit_end ∷ [])
    ((stage_is limit.stage, may.violation, may.den), members_are limit.pool.items may.pool) (tt, tt)
