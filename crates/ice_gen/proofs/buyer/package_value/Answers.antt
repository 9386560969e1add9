use Rattle.std.proofs.Common.{◌≡◌, ◌+◌, arith, ap, sym, ◌∙◌, refl}
use Rattle.ice_gen.specs.Generated.{draws, advanced}
use Rattle.ice_gen.specs.Drawing.{drawn, state_after}
use Rattle.ice_gen.proofs.Drawing.{state_after-more, sum-draws-more}
use Rattle.ice_gen.proofs.buyer.package_value.Goals as goal

pub loop-good-init : goal.loop-good-init
unfolding draws state_after
loop-good-init c = (refl, omega arith, refl)

pub loop-good-preserved : goal.loop-good-preserved
loop-good-preserved c =
    let sums = sum-draws-more c.loop-good._good 30 c.args.generator.now in
    let drawn_is : c.draw.result ≡ drawn (state_after c.loop-good._good c.args.generator.now) 30 = c.draw.ensures.value ∙ ap (λ x. drawn x 30) c.loop-good.invariant.2 in (
      omega (arith, sums),
      omega (arith, c.draw.ensures.small),
      c.draw.ensures.state ∙ ap advanced c.loop-good.invariant.2 ∙ sym (state_after-more c.loop-good._good c.args.generator.now),
    )

pub returns-clause-above : goal.returns-clause-above
returns-clause-above c =
    let all : c.loop-good._good ≡ c.args.goods = omega arith in
    let is : c.loop-good.generator ≡ state_after c.args.goods c.args.generator.now = c.loop-good.invariant.2 ∙ ap (λ n. state_after n c.args.generator.now) all in
    c.with_distances.ensures.above ∙ ap (λ x. drawn (advanced x) 10) is ∙ ap (λ x. drawn x 10) (sym (state_after-more c.args.goods c.args.generator.now))

pub returns-clause-state : goal.returns-clause-state
returns-clause-state c =
    let all : c.loop-good._good ≡ c.args.goods = omega arith in
    let is : c.loop-good.generator ≡ state_after c.args.goods c.args.generator.now = c.loop-good.invariant.2 ∙ ap (λ n. state_after n c.args.generator.now) all in
    let two : c.args.goods + 1 + 1 ≡ c.args.goods + 2 = omega arith in
    c.with_distances.ensures.state
    ∙ ap (λ x. advanced (advanced x)) is
    ∙ ap advanced (sym (state_after-more c.args.goods c.args.generator.now))
    ∙ sym (state_after-more (c.args.goods + 1) c.args.generator.now)
    ∙ ap (λ n. state_after n c.args.generator.now) two
