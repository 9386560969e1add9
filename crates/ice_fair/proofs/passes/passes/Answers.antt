use Rattle.std.proofs.Common.{◌≡◌, length, refl, arith, ap, sym}
use Rattle.ice_defs.specs.Rows.{Certificate}
use Rattle.std.proofs.lemmas.Int.{ints}
use Rattle.ice_fair_laws.proofs.Held.{numbers-sum}
use Rattle.ice_fair.specs.Tested.{numbers_of}
use Rattle.ice_fair.proofs.Weights.{limited-so, worth-most}
use Rattle.ice_fair.proofs.Evenness.{even-of, of-even, sums-move}
use Rattle.ice_fair.proofs.passes.passes.Goals as goal

pub returns-then-total-from-clause-no : goal.returns-then-total-from-clause-no
returns-then-total-from-clause-no c tested =
    let dens : c.args.certificate.now.den ≡ c.certificate.inside.den = sym (ap (λ (z : Certificate). z.den) c.certificate.view_is) in
    absurd (omega (
      arith,
      ints,
      dens,
      tested.numbers,
      numbers-sum c.args.low.now,
      numbers-sum c.args.high.now,
      c.total.ensures.value,
      c.total.ensures.low,
      c.total.ensures.high,
      c.total-2.ensures.value,
      c.total-2.ensures.low,
      c.total-2.ensures.high,
      c.from.ensures,
      c.if-total-from.true,
    ))

pub sums-requires : goal.sums-requires
sums-requires c = limited-so (length c.args.paid.now.trade.trees) c.args.certificate.now c.args.low.now c.args.high.now c.requires.limited

pub are_even-requires-clause-worth : goal.are_even-requires-clause-worth
are_even-requires-clause-worth c =
    worth-most c.args.paid.now.trade (length c.args.paid.now.trade.trees) c.args.certificate.now c.args.low.now c.args.high.now c.in-Some.sums c.worth-worth.result c.requires.limited c.in-Some.ensures.sums.1 c.worth-worth.ensures.value c.worth-worth.ensures.sized

pub returns-in-Some-clause-yes : goal.returns-in-Some-clause-yes
returns-in-Some-clause-yes c truth =
    let dens : c.args.certificate.now.den ≡ c.certificate.inside.den = sym (ap (λ (z : Certificate). z.den) c.certificate.view_is) in
    record {
      rows = c.in-Some.ensures.sums.0;
      numbers = omega (
        arith,
        ints,
        dens,
        numbers-sum c.args.low.now,
        numbers-sum c.args.high.now,
        c.total.ensures.value,
        c.total.ensures.low,
        c.total.ensures.high,
        c.total-2.ensures.value,
        c.total-2.ensures.low,
        c.total-2.ensures.high,
        c.from.ensures,
        c.requires.limited.den_fits,
        c.if-total-from.false,
      );
      even = even-of c.args.paid.now.trade c.args.paid.now.cut c.args.paid.now.nums.now (numbers_of c.args.certificate.now c.args.low.now c.args.high.now) c.in-Some.sums c.in-Some.ensures.sums.1
          c.args.priced.now.prices.now c.args.priced.now.violation c.args.priced.now.gap c.requires.numbers.count
          (sums-move c.args.paid.now.trade c.args.paid.now.cut c.args.paid.now.nums.now c.certificate.inside.den c.args.certificate.now.den c.args.low.now c.args.high.now c.args.priced.now.prices.now
          c.args.priced.now.violation c.args.priced.now.violation c.args.priced.now.gap c.args.priced.now.gap c.in-Some.sums (sym dens) refl refl (c.are_even.ensures.yes truth));
    }

pub returns-in-Some-clause-no : goal.returns-in-Some-clause-no
returns-in-Some-clause-no c tested =
    let dens : c.args.certificate.now.den ≡ c.certificate.inside.den = sym (ap (λ (z : Certificate). z.den) c.certificate.view_is) in
    c.are_even.ensures.no
    (sums-move c.args.paid.now.trade c.args.paid.now.cut c.args.paid.now.nums.now c.args.certificate.now.den c.certificate.inside.den c.args.low.now c.args.high.now c.args.priced.now.prices.now
    c.args.priced.now.violation c.args.priced.now.violation c.args.priced.now.gap c.args.priced.now.gap c.in-Some.sums dens refl refl
    (of-even c.args.paid.now.trade c.args.paid.now.cut c.args.paid.now.nums.now (numbers_of c.args.certificate.now c.args.low.now c.args.high.now) c.in-Some.sums c.in-Some.ensures.sums.1
    c.args.priced.now.prices.now c.args.priced.now.violation c.args.priced.now.gap c.requires.numbers.count tested.even))

pub are_even-requires-clause-held : goal.are_even-requires-clause-held
are_even-requires-clause-held c =
    let dens : c.args.certificate.now.den ≡ c.certificate.inside.den = sym (ap (λ (z : Certificate). z.den) c.certificate.view_is) in
    omega (
      arith,
      ints,
      dens,
      numbers-sum c.args.low.now,
      numbers-sum c.args.high.now,
      c.total.ensures.value,
      c.total.ensures.low,
      c.total.ensures.high,
      c.total-2.ensures.value,
      c.total-2.ensures.low,
      c.total-2.ensures.high,
      c.from.ensures,
      c.requires.limited.den_fits,
      c.if-total-from.false,
    )
