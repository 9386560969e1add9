use Rattle.std.proofs.Common.{◌≡◌, true, false, refl, inl, inr}
use Rattle.ice_rules.proofs.Losses.{best_if_any, mrpar_gives}
use Rattle.ice_rules.proofs.rules.mrpar.Goals as goal

pub returns-then-not-is_best_throughout : goal.returns-then-not-is_best_throughout
returns-then-not-is_best_throughout c = (
  λ e. let h : false ≡ true = e in absurd (cc),
  λ m.
      c.if-not-is_best_throughout.ensures.no
      (best_if_any c.args.at.now.tree.now c.args.at.now.prices.now c.args.at.now.bounds.now c.requires.nodes c.best_at_centre-set.result c.args.at.now.set.now c.best_at_centre-set.ensures.good m),
)

pub returns-then-is_ahead : goal.returns-then-is_ahead
returns-then-is_ahead c = (
  λ _.
      (c.best_at_centre-set.result, c.best_at_centre-set.ensures.satisfied, c.if-not-is_best_throughout.ensures.yes refl, inr (c.if-is_ahead.ensures.yes refl)),
  λ _. refl,
)

pub returns : goal.returns
returns c = (
  λ e.
      (c.best_at_centre-set.result, c.best_at_centre-set.ensures.satisfied, c.if-not-is_best_throughout.ensures.yes refl, inl (c.is_best_throughout-2.ensures.yes e)),
  λ m.
      elim (mrpar_gives c.args.at.now.tree.now c.args.at.now.prices.now c.args.at.now.bounds.now c.requires.nodes c.best_at_centre-set.result c.args.at.now.set.now c.best_at_centre-set.ensures.good m) [
        | inl same ↦ c.is_best_throughout-2.ensures.no same
        | inr ahead ↦ let h : false ≡ true = c.if-is_ahead.ensures.no ahead in absurd (cc)
      ],
)
