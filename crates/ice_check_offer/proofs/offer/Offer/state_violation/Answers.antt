use Rattle.std.proofs.Common.{◌≡◌, ℤ, sym, ◌∙◌, subst, rules, to_z, of_z}
use Rattle.std.proofs.lemmas.Int.{to_z-of_z}
use mir.Syntax.{w128}
use mir.Val.{SFits}
use Rattle.ice_best.proofs.Sales.{greatest_unique}
use Rattle.ice_journal.specs.Records as line
use Rattle.ice_journal.specs.Ranges.{IsViolationField}
use Rattle.ice_check_offer.specs.declared.place.CertificateList.TheVariants as list
use Rattle.ice_check_offer.specs.declared.place.Place.TheVariants as place
use Rattle.ice_check_offer.specs.Offers.{trade_of}
use Rattle.ice_pricing.specs.Priced.{HasViolation}
use Rattle.ice_check_offer.specs.Taking.{GoesOn}
use Rattle.ice_check_offer.proofs.Priced.{violation_fails, violation_taken}
use Rattle.ice_check_offer.proofs.offer.Offer.state_violation.Goals as goal

pub returns-then-is_same : goal.returns-then-is_same
returns-then-is_same c =
    let at = c.args.at.now in
    let found = c.violation-found.result in
    let kept = to_z w128 (of_z w128 found) in
    let x = c.args.stated.now.violation in
    let den = c.args.stated.now.den in
    let tally = c.begin_list.new.self.tally in
    let one : SFits w128 found = search rules in
    let other : SFits w128 x = search rules in
    let e : kept ≡ x = c.is_same.ensures.yes c.if-is_same.true ∙ to_z-of_z w128 x other in
    subst (GoesOn at.exchange.now at.number c.args.self.now (line.accuracy x den)) (sym c.begin_list.ensures.same)
    (subst (λ (v : ℤ). GoesOn at.exchange.now at.number c.args.self.now (line.accuracy v den) (record c.args.self.now { place = place.Rows list.Accuracy; violation = kept; den = den; tally = tally })) e
    (violation_taken at.exchange.now at.number c.args.self.now c.requires.stands.place kept den tally
    (subst (HasViolation (trade_of at.exchange.now c.args.self.now) c.args.self.now.judge.prices) (sym (to_z-of_z w128 found one)) c.violation-found.ensures)
    (subst IsViolationField (sym e) c.requires.lawful.0, c.requires.lawful.1)
    (c.begin_list.ensures.none (trade_of at.exchange.now c.args.self.now) c.goods-goods.ensures.lawful.goods_count.1) c.requires.stands.kept))

pub returns-else-is_same : goal.returns-else-is_same
returns-else-is_same c =
    let at = c.args.at.now in
    let found = c.violation-found.result in
    let x = c.args.stated.now.violation in
    let one : SFits w128 found = search rules in
    let other : SFits w128 x = search rules in
    violation_fails at.exchange.now at.number c.args.self.now c.requires.stands.place x c.args.stated.now.den
    (λ h. c.is_same.ensures.no c.if-is_same.false (to_z-of_z w128 found one ∙ greatest_unique found x c.violation-found.ensures h ∙ sym (to_z-of_z w128 x other)))
