use Rattle.std.proofs.Common.{Option, Some, None, ℤ}
use Rattle.std.specs.Option.{IfSome, IfNone}
use Rattle.ice_best.proofs.best_set.best.Goals as goal

if_some : (P Q : ℤ → Type 0) → ((v : ℤ) → P v → Q v) → (r : Option ℤ) → IfSome r P → IfSome r Q
if_some P Q each (Some v) h = each v h
if_some P Q each None h = tt

if_none : (P Q : Type 0) → (P → Q) → (r : Option ℤ) → IfNone r P → IfNone r Q
if_none P Q each (Some v) h = tt
if_none P Q each None h = each h

pub returns-clause-greatest : goal.returns-clause-greatest
returns-clause-greatest c = c.greatest.ensures.some c.args.tree.now c.args.weights.now c.args.fixing.now c.fill_all.ensures

pub returns-clause-set : goal.returns-clause-set
returns-clause-set c =
    if_some _ _ (c.best_set.ensures.set c.args.weights.now c.args.fixing.now c.fill_all.ensures) c.greatest.result
    (c.greatest.ensures.some c.args.tree.now c.args.weights.now c.args.fixing.now c.fill_all.ensures)

pub returns-clause-none : goal.returns-clause-none
returns-clause-none c = c.greatest.ensures.none c.args.tree.now c.args.weights.now c.args.fixing.now c.fill_all.ensures

pub returns-clause-empty : goal.returns-clause-empty
returns-clause-empty c =
    if_none _ _ (c.best_set.ensures.empty c.args.weights.now c.args.fixing.now c.fill_all.ensures) c.greatest.result
    (c.greatest.ensures.none c.args.tree.now c.args.weights.now c.args.fixing.now c.fill_all.ensures)
