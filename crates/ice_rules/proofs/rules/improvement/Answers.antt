use Rattle.std.proofs.Common.{◌≡◌, arith, rules, refl, inl, inr, pos, ◌-ℤ◌, ◌*ℤ◌, ◌<ℤ◌}
use Rattle.std.proofs.lemmas.Int.{ints, by_lt_z}
use Rattle.ice_rules.proofs.Losses.{improves_not}
use Rattle.ice_rules.proofs.rules.improvement.Goals as goal

pub returns-then-left-eq0 : goal.returns-then-left-eq0
returns-then-left-eq0 c = (λ _. (c.loss.result, c.loss-left.result, c.loss.ensures.loss, c.loss-left.ensures.loss, inl (omega (arith, ints, c.if-left-eq0.true))), λ _. refl)

pub returns-then-left-most : goal.returns-then-left-most
returns-then-left-most c =
    let most : c.allowed_loss-most.result ≡ c.loss.result -ℤ (c.args.improve *ℤ pos c.args.at.now.prices.now.den) = search rules in (
      λ _. (c.loss.result, c.loss-left.result, c.loss.ensures.loss, c.loss-left.ensures.loss, inr (inl (omega (arith, ints, c.if-left-most.true, most)))),
      λ _. refl,
    )

pub returns : goal.returns
returns c =
    let most : c.allowed_loss-most.result ≡ c.loss.result -ℤ (c.args.improve *ℤ pos c.args.at.now.prices.now.den) = search rules in
    let gains = c.least_gain.ensures (c.loss.result -ℤ (c.args.improve *ℤ pos c.args.at.now.prices.now.den)) in (
      λ e.
          let less : c.allowed_loss-most.result <ℤ c.least_gain.result = search (rules, c.is_less.ensures.yes e) in
          (c.loss.result, c.loss-left.result, c.loss.ensures.loss, c.loss-left.ensures.loss, inr (inr (gains.1 (omega (arith, ints, less, most))))),
      λ improves.
          by_lt_z c.allowed_loss-most.result c.least_gain.result
          (λ less. c.is_less.ensures.no (search (rules, less)))
          (λ le.
          absurd
          (improves_not c.args.at.now.tree.now c.args.at.now.prices.now c.args.at.now.set.now c.args.at.now.bounds.now c.args.new.now c.args.improve c.loss.result c.loss-left.result c.requires.old c.requires.new
          c.loss.ensures.loss c.loss-left.ensures.loss (λ none. omega (arith, ints, none, c.if-left-eq0.false)) (λ low. omega (arith, ints, low, c.if-left-most.false, most))
          (λ more. omega (arith, ints, gains.0 more, le, most)) improves)),
    )
