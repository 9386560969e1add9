use Rattle.std.proofs.Common.{◌≡◌, ◌∙◌, subst, rules, to_z, of_z}
use Rattle.std.proofs.lemmas.Int.{to_z-of_z}
use mir.Syntax.{w64}
use mir.Val.{SFits}
use Rattle.ice_pricing.specs.Lawful.{AreUnlawful}
use Rattle.ice_check_offer.proofs.pricing.are_lawful_in.Goals as goal

pub returns-clause-yes : goal.returns-clause-yes
returns-clause-yes c = λ h.
    let fits : SFits w64 c.cap_of-cap.result = search rules in
    let back : to_z w64 (of_z w64 c.cap_of-cap.result) ≡ c.cap_of-cap.result = to_z-of_z w64 c.cap_of-cap.result fits in
    subst (λ z. ¬ AreUnlawful z c.args.prices.now) (back ∙ c.cap_of-cap.ensures.value) (c.are_lawful.ensures.yes h)

pub returns-clause-no : goal.returns-clause-no
returns-clause-no c = λ h.
    let fits : SFits w64 c.cap_of-cap.result = search rules in
    let back : to_z w64 (of_z w64 c.cap_of-cap.result) ≡ c.cap_of-cap.result = to_z-of_z w64 c.cap_of-cap.result fits in
    subst (λ z. AreUnlawful z c.args.prices.now) (back ∙ c.cap_of-cap.ensures.value) (c.are_lawful.ensures.no h)
