use Rattle.std.proofs.Common.{◌≡◌, ◌≢◌, false, length, sym, ◌∙◌, subst, Some, ap, rules}
use Rattle.std.specs.Prelude.{is_some}
use Rattle.ice_section.specs.Kept.{section_from, IsHeld}
use Rattle.ice_section.proofs.HeldSections.{begun_drafting, held_bidder}
use Rattle.ice_section.proofs.section.Section.take_bidder.Goals as goal

pub invariant_of-self : goal.invariant_of-self
invariant_of-self c =
    let none : is_some c.self.inside.draft ≡ false = search rules in
    let goods : c.goods-goods.result ≡ length (section_from c.self.inside.maker c.self.inside.draft).goods = c.goods-goods.ensures.value ∙ ap (λ s. length s.goods) (sym c.self.view_is) in
    let some : length (section_from c.self.inside.maker c.self.inside.draft).goods ≢ 0 = λ e. c.if-goods-eq0.false (goods ∙ e) in
    let counted : length c.args.own.now.items ≡ length (section_from c.self.inside.maker c.self.inside.draft).goods = sym c.len.ensures.value ∙ c.if-len-goods.false ∙ goods in
    let same : c.new.result ≡ begun_drafting (length (section_from c.self.inside.maker c.self.inside.draft).goods) c.args.name.now c.args.own.now.items =
    c.new.ensures ∙ ap (λ n. begun_drafting n c.copy.result c.copy_of.result.items) goods
    ∙ ap (λ x. begun_drafting (length (section_from c.self.inside.maker c.self.inside.draft).goods) x c.copy_of.result.items) c.copy.ensures.copy
    ∙ ap (begun_drafting (length (section_from c.self.inside.maker c.self.inside.draft).goods) c.args.name.now) c.copy_of.ensures in
    subst (λ d. IsHeld c.self.inside.maker (Some d)) (sym same) (held_bidder c.self.inside.maker c.self.inside.draft c.args.name.now c.args.own.now.items c.self.invariant some none counted c.requires)
