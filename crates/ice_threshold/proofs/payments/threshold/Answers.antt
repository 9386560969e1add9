use Rattle.std.proofs.Common.{◌≡◌, ℤ, List, pos, ◌≤ℤ◌, ◌*◌, ◌^◌, arith, rules, subst, to_z, of_z}
use mir.Syntax.{w128}
use Rattle.std.specs.List.{AllByRecursion}
use Rattle.std.proofs.lemmas.Int.{ints}
use Rattle.std.proofs.lemmas.List.Elements.{recursion_from_All}
use Rattle.ice_defs.specs.Fraction.{Fraction, Equals, whole_number, minus}
use Rattle.ice_defs.specs.Cut.{IsCut, cut_sum}
use Rattle.ice_threshold.specs.CutOff.{AreCutDown, ArePaid}
use Rattle.ice_threshold.proofs.OneCut.{cut_down_is_threshold}
use Rattle.ice_threshold.proofs.Paid.{IsCut_moves, AreCutDown_moves, payments_from, surplus_of, balanced, surplus_small, total_high}
use Rattle.ice_threshold.proofs.payments.threshold.Goals as goal

pub least_cut-cut-requires-clause-total_high : goal.least_cut-cut-requires-clause-total_high
least_cut-cut-requires-clause-total_high c = omega (arith, ints, total_high c.args.values.now c.args.total c.requires.valued c.requires.summed c.requires.few)

pub surplus_at-requires-clause-high : goal.surplus_at-requires-clause-high
surplus_at-requires-clause-high c = omega (arith, ints, total_high c.args.values.now c.args.total c.requires.valued c.requires.summed c.requires.few)

pub returns : goal.returns
returns c =
    let vs : List ℤ = c.args.vickrey.now in
    let cut : Fraction = c.least_cut-cut.result in
    let reduced : Fraction = c.reduced.result in
    let ds : List Fraction = c.in_ok-discounts.discounts.items in
    let ps : List Fraction = c.in_ok-payments.payments.items in
    let same : to_z w128 (of_z w128 c.args.total) ≡ c.args.total = search rules in
    let cut_is : IsCut vs c.args.total cut = subst (λ (t : ℤ). IsCut vs t cut) same c.least_cut-cut.ensures in
    let moved : IsCut vs c.args.total reduced = IsCut_moves vs c.args.total cut reduced c.reduced.ensures.proper c.reduced.ensures.equal cut_is in
    let off : AreCutDown cut ds vs = c.in_ok-discounts.ensures.cut_down in
    let off_reduced : AreCutDown reduced ds vs = AreCutDown_moves cut reduced ds vs cut_is.payable.proper c.reduced.ensures.proper c.reduced.ensures.equal off in
    let low : AllByRecursion (λ v. pos 0 ≤ℤ v) vs = recursion_from_All (λ v. pos 0 ≤ℤ v) vs (λ k d l. (c.requires.limited k d l).low) in
    let paid : ArePaid cut ps c.args.values.now vs = c.in_ok-payments.ensures.paid in
    let left : Equals c.surplus_at.result (minus (whole_number c.args.total) (cut_sum cut vs)) = subst (λ (t : ℤ). Equals c.surplus_at.result (minus (whole_number t) (cut_sum cut vs))) same c.surplus_at.ensures.equal in
    let high : c.args.total ≤ℤ pos (10 ^ 15 * 40) = total_high c.args.values.now c.args.total c.requires.valued c.requires.summed c.requires.few in
    record {
      cut = moved;
      cut_down = off_reduced;
      discounts = cut_down_is_threshold vs c.args.total reduced ds low c.requires.rich moved off_reduced;
      payments = payments_from cut ds ps c.args.values.now vs cut_is.payable.proper c.requires.same_length off paid;
      surplus = surplus_of cut c.surplus_at.result ds vs c.args.total cut_is.payable.proper off c.surplus_at.ensures.proper left;
      balance = balanced cut c.surplus_at.result ps c.args.values.now vs c.args.total cut_is.payable.proper c.requires.same_length paid c.requires.summed left;
      small = record {
        cut_small = c.reduced.ensures.small;
        surplus_small = surplus_small vs c.args.total cut c.surplus_at.result low c.requires.rich high cut_is c.surplus_at.ensures.lowest left;
        discounts_small = c.in_ok-discounts.ensures.small;
        payments_small = c.in_ok-payments.ensures.small;
      };
    }
