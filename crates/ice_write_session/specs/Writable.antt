-- What may be written of a settlement: all numbers are in the ranges of their records.
use Rattle.std.specs.Prelude.{ℕ, ◌≤◌, ◌≡◌, List, length, IfSome, pos}
use Rattle.std.specs.List.{AllByRecursion}
use Rattle.ice_defs.specs.Rows.{Row, Certificate}
use Rattle.ice_defs.specs.PricingRun.{Member}
use Rattle.ice_defs.specs.Exchange.{exact_of, IsBetween}
use Rattle.ice_defs.specs.Session.{Proved, Settlement, Payment}
use Rattle.ice_search.specs.Results.{proved_found}
use Rattle.ice_pricing.specs.declared.certificate.Pricing.{Pricing}
use Rattle.ice_price.specs.declared.ends.PriceLimit.{PriceLimit}
use Rattle.ice_vickrey.specs.Marginals.{proved_without}
use Rattle.ice_vickrey.specs.declared.marginal.Marginal.{Marginal}
use Rattle.ice_regret.specs.declared.lead.Regret.{Regret}
use Rattle.ice_regret.specs.Regretted.{proved_rival}
use Rattle.ice_journal.specs.Ranges.{IsTotal, IsDen, IsViolationField, IsFractionField, IsRecord}
use Rattle.ice_journal_laws.specs.Written.{row_record, payment_record}
use Rattle.ice_settled.specs.Shown.{settlement_of, closed_of, charges_of}
use Rattle.ice_settled.specs.declared.settled.Opening.{Opening}
use Rattle.ice_settled.specs.declared.settled.Closing.{Closing}
use Rattle.ice_settled.specs.declared.settled.Charged.{Charged}
use Rattle.ice_settled.specs.declared.settled.Halt.{Halt}
use Rattle.ice_write.specs.Writable.{AreWritable}
use Rattle.ice_write_session.specs.Records.{member_record}

-- a value with the sets that have it and their log, of an exchange of so many goods
pub record IsWritable (goods : ℕ) (p : Proved) : Type 0 where
  pub value : IsTotal p.value
  pub group : AreWritable goods p.sets p.log

-- a rival with its regret
pub record IsWritableRegret (goods : ℕ) (r : Regret) : Type 0 where
  pub rival : IsWritable goods (proved_rival r)
  pub amount : IsBetween (pos 0) (pos 400000000000000) r.amount

-- final sets and their regret
pub record IsWritableSettlement (goods : ℕ) (x : Settlement) : Type 0 where
  pub final : IsWritable goods x.final
  pub rival : IsWritable goods x.rival
  pub regret : IsBetween (pos 0) (pos 400000000000000) x.regret

abbrev pub IsWritableRow : Row → Type 0
IsWritableRow row = IsRecord (row_record row)

pub record IsWritableCertificate (c : Certificate) : Type 0 where
  pub den : IsDen c.den
  pub rows : AllByRecursion IsWritableRow c.rows

-- prices with their certificates
pub record IsWritablePricing (p : Pricing) : Type 0 where
  pub violation : IsViolationField p.delta
  pub accuracy : IsWritableCertificate p.accuracy
  pub balance : IsWritableCertificate p.balance

pub record IsWritableOpening (goods : ℕ) (o : Opening) : Type 0 where
  pub number : o.number ≤ 20
  pub settlement : IsWritableSettlement goods (settlement_of o.best o.regret)
  pub provisional : IsWritable goods (proved_found o.provisional)
  pub pricing : IsWritablePricing o.pricing

-- at most 40 bidders
pub record AreWritableWithout (goods : ℕ) (ms : List Marginal) : Type 0 where
  pub few : length ms ≤ 40
  pub each : AllByRecursion (λ m. IsWritable goods (proved_without m)) ms

abbrev pub IsWritablePayment : Payment → Type 0
IsWritablePayment p = IsRecord (payment_record p)

-- one payment for each bidder
pub record IsWritableClosing (c : Closing) : Type 0 where
  pub number : c.number ≤ 20
  pub settlement : IsWritableSettlement (length (exact_of c.exchange)) (settlement_of c.best c.regret)
  pub withouts : AreWritableWithout (length (exact_of c.exchange)) c.marginals.items
  pub cut : IsFractionField c.payments.cut
  pub surplus : IsFractionField c.payments.surplus
  pub payments_count : length (closed_of c.exchange c).payments ≡ length c.exchange.bidders
  pub payments : AllByRecursion IsWritablePayment (closed_of c.exchange c).payments

-- what is put behind the groups without each bidder: one payment for each bidder
pub record IsWritableCharged (c : Charged) : Type 0 where
  pub cut : IsFractionField c.payments.cut
  pub surplus : IsFractionField c.payments.surplus
  pub payments_count : length (charges_of c) ≡ length c.exchange.bidders
  pub payments : AllByRecursion IsWritablePayment (charges_of c)

-- as far as it came
pub record IsWritableHalt (h : Halt) : Type 0 where
  pub number : h.number ≤ 20
  pub final : IfSome h.best (λ best. IsWritable (length (exact_of h.exchange)) (proved_found best))
  pub regret : IfSome h.regret (IsWritableRegret (length (exact_of h.exchange)))
  pub withouts : AreWritableWithout (length (exact_of h.exchange)) h.marginals.items
  pub provisional : IfSome h.provisional (λ p. IsWritable (length (exact_of h.exchange)) (proved_found p))

abbrev pub IsWritableMember : Member → Type 0
IsWritableMember m = IsRecord (member_record m)

pub record IsWritableLimit (limit : PriceLimit) : Type 0 where
  pub violation : IsViolationField limit.delta
  pub den : IsDen limit.den
  pub pool : AllByRecursion IsWritableMember limit.pool.items
