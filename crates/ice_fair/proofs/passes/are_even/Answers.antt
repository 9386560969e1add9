use Rattle.std.proofs.Common.{ℤ, ◌≡◌, ◌∙◌, ◌*ℤ◌, pos, ap, sym, arith, to_z, of_z}
use mir.Syntax.{w64, w128}
use Rattle.std.proofs.lemmas.Int.{ints}
use Rattle.ice_fair.specs.Trades.{asked_by, paid_sum}
use Rattle.ice_fair.proofs.Evenness.{even-moves}
use Rattle.ice_fair.proofs.Paying.{paid-within}
use Rattle.ice_fair.proofs.passes.are_even.Goals as goal

abbrev read : ℤ → ℤ
read z = to_z w128 (of_z w128 z)

module _ (c : goal.After-is_even) where
  abbrev asks : ℤ
  asks = asked_by c.args.paid.now.trade c.args.low.now c.args.high.now c.args.sums.now

  abbrev pays : ℤ
  pays = paid_sum c.args.low.now c.args.high.now c.args.paid.now.nums.now

  cut : read c.from.result ≡ pos c.args.paid.now.cut
  cut = omega (arith, ints, c.from.ensures, c.requires.numbers.few)

  den : read c.from-2.result ≡ pos c.args.priced.now.prices.now.den
  den = omega (arith, ints, c.from-2.ensures, c.den.ensures.den, c.den.ensures.limits)

  weigh : read c.from-4.result ≡ pos c.args.sums.now.weight
  weigh = omega (arith, ints, c.from-4.ensures, c.weight.ensures)

  certified : read c.from-3.result ≡ pos c.args.den
  certified = omega (arith, ints, c.from-3.ensures, c.requires.den)

  wants : read c.asked.result ≡ asks
  wants = omega (arith, ints, c.asked.ensures.value, c.asked.ensures.low, c.asked.ensures.high)

  capped : to_z w64 (of_z w64 c.cap.result) ≡ c.args.paid.now.trade.cap
  capped = omega (arith, ints, c.cap.ensures.value, c.cap.ensures.proper.cap_low, c.cap.ensures.proper.cap_high)

  cost : read c.at_cap.result ≡ c.args.paid.now.trade.cap *ℤ asks
  cost =
      let same : read c.at_cap.result ≡ c.at_cap.result = omega (arith, ints, c.at_cap.ensures.low, c.at_cap.ensures.high) in
      same ∙ c.at_cap.ensures.value ∙ ap (λ z. z *ℤ read c.asked.result) capped ∙ ap (λ z. c.args.paid.now.trade.cap *ℤ z) wants

  paid : read c.held_paid.result ≡ pays
  paid = omega (arith, ints, c.held_paid.ensures.value, c.held_paid.ensures.low, c.held_paid.ensures.high)

  worth : read c.worth.result ≡ c.args.sums.now.worth
  worth = omega (arith, ints, c.worth.ensures.value, c.worth.ensures.low, c.worth.ensures.high)

  violation : read c.args.priced.now.violation ≡ c.args.priced.now.violation
  violation = omega (arith, ints, c.requires.violation, c.requires.violation_high)

  gap : read c.args.priced.now.gap ≡ c.args.priced.now.gap
  gap = omega (arith, ints, c.requires.gap_low, c.requires.gap_high)

pub returns-clause-yes : goal.returns-clause-yes
returns-clause-yes c truth =
    even-moves (read c.args.priced.now.violation) c.args.priced.now.violation (read c.args.priced.now.gap) c.args.priced.now.gap (read c.from.result) (pos c.args.paid.now.cut) (read c.from-2.result) (pos c.args.priced.now.prices.now.den) (read c.from-3.result) (pos c.args.den)
    (read c.at_cap.result) (c.args.paid.now.trade.cap *ℤ asks c) (read c.from-4.result) (pos c.args.sums.now.weight) (read c.held_paid.result) (pays c) (read c.worth.result) c.args.sums.now.worth
    (violation c) (gap c) (cut c) (den c) (certified c) (cost c) (weigh c) (paid c) (worth c) (c.is_even.ensures.yes truth)

pub returns-clause-no : goal.returns-clause-no
returns-clause-no c even = c.is_even.ensures.no
    (even-moves c.args.priced.now.violation (read c.args.priced.now.violation) c.args.priced.now.gap (read c.args.priced.now.gap) (pos c.args.paid.now.cut) (read c.from.result) (pos c.args.priced.now.prices.now.den) (read c.from-2.result) (pos c.args.den) (read c.from-3.result)
    (c.args.paid.now.trade.cap *ℤ asks c) (read c.at_cap.result) (pos c.args.sums.now.weight) (read c.from-4.result) (pays c) (read c.held_paid.result) c.args.sums.now.worth (read c.worth.result)
    (sym (violation c)) (sym (gap c)) (sym (cut c)) (sym (den c)) (sym (certified c)) (sym (cost c)) (sym (weigh c)) (sym (paid c)) (sym (worth c)) even)

pub is_even-requires-clause-paid_low : goal.is_even-requires-clause-paid_low
is_even-requires-clause-paid_low c =
    let is = paid-within c.args.paid.now.trade c.args.paid.now.cut c.args.paid.now.nums.now c.args.low.now c.args.high.now c.requires.numbers c.requires.low_count c.requires.high_count c.requires.held in
    let a = is.low in omega (arith, ints, a, c.held_paid.ensures.value)

pub is_even-requires-clause-paid_high : goal.is_even-requires-clause-paid_high
is_even-requires-clause-paid_high c =
    let is = paid-within c.args.paid.now.trade c.args.paid.now.cut c.args.paid.now.nums.now c.args.low.now c.args.high.now c.requires.numbers c.requires.low_count c.requires.high_count c.requires.held in
    let b = is.high in omega (arith, ints, b, c.held_paid.ensures.value)
