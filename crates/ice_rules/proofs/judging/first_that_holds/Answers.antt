use Rattle.std.proofs.Common.{◌≡◌, true, false, refl, sym, subst, rules, to_z, of_z}
use Rattle.std.proofs.lemmas.Int.{to_z-of_z}
use mir.Syntax.{w64}
use mir.Val.{SFits}
use Rattle.ice_defs.specs.Rules.{IsMrpar, Improves}
use Rattle.ice_rules.proofs.Unrefused.{unrefused}
use Rattle.ice_rules.proofs.judging.first_that_holds.Goals as goal

pub unreachable-requires : goal.unreachable-requires
unreachable-requires c =
    let fine = unrefused _ c.args.lo.now c.args.hi.now c.requires.lo_nodes c.requires.hi_nodes c.requires.lo_values c.requires.hi_values c.in_default.ensures in
    let due = c.in_default-set_bounds.ensures.refused in
    cc (fine, due)

pub returns-then-not-mrpar-clause-judged : goal.returns-then-not-mrpar-clause-judged
returns-then-not-mrpar-clause-judged c = (
  record { uncrossed = c.in_default.ensures; tight = c.in_default-first_loosened.ensures },
  λ m.
      let h : false ≡ true = c.if-not-mrpar.ensures.1 (subst (λ b. IsMrpar c.args.at.now.tree.now c.args.at.now.prices.now c.args.at.now.set.now b) (sym c.in-Ok.ensures.made) m) in
      absurd (cc),
)

pub returns-then-not-improvement-clause-judged : goal.returns-then-not-improvement-clause-judged
returns-then-not-improvement-clause-judged c =
    let fits : SFits w64 c.args.improve = search rules in
    let back : to_z w64 (of_z w64 c.args.improve) ≡ c.args.improve = to_z-of_z w64 c.args.improve fits in (
      record { uncrossed = c.in_default.ensures; tight = c.in_default-first_loosened.ensures },
      subst (λ b. IsMrpar c.args.at.now.tree.now c.args.at.now.prices.now c.args.at.now.set.now b) c.in-Ok.ensures.made (c.if-not-mrpar.ensures.0 refl),
      λ i.
          let made = subst (λ b. Improves c.args.at.now.tree.now c.args.at.now.prices.now c.args.at.now.set.now c.args.at.now.bounds.now b c.args.improve) (sym c.in-Ok.ensures.made) i in
          let h : false ≡ true = c.if-not-improvement.ensures.1 (subst (λ z. Improves c.args.at.now.tree.now c.args.at.now.prices.now c.args.at.now.set.now c.args.at.now.bounds.now c.in-Ok.new z) (sym back) made) in
          absurd (cc),
    )

pub returns-clause-judged : goal.returns-clause-judged
returns-clause-judged c =
    let fits : SFits w64 c.args.improve = search rules in
    let back : to_z w64 (of_z w64 c.args.improve) ≡ c.args.improve = to_z-of_z w64 c.args.improve fits in (
      record { uncrossed = c.in_default.ensures; tight = c.in_default-first_loosened.ensures },
      subst (λ b. IsMrpar c.args.at.now.tree.now c.args.at.now.prices.now c.args.at.now.set.now b) c.in-Ok.ensures.made (c.if-not-mrpar.ensures.0 refl),
      subst (λ b. Improves c.args.at.now.tree.now c.args.at.now.prices.now c.args.at.now.set.now c.args.at.now.bounds.now b c.args.improve) c.in-Ok.ensures.made
          (subst (λ z. Improves c.args.at.now.tree.now c.args.at.now.prices.now c.args.at.now.set.now c.args.at.now.bounds.now c.in-Ok.new z) back (c.if-not-improvement.ensures.0 refl)),
    )
