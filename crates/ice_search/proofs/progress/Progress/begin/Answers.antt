use Rattle.std.proofs.Common.{sym, subst, ap, ◌∙◌, ◌≡◌, ◌++◌, ◌∷◌, []}
use Rattle.ice_defs.specs.Sweep.{IsLive}
use Rattle.ice_defs.specs.Steps.{Side}
use Rattle.ice_defs.specs.Conditions.{AreMultipliersOf}
use Rattle.ice_search_log.specs.Code.{parts_of}
use Rattle.ice_search.specs.Instance.{Instance, IsBoundAt}
use Rattle.ice_search.specs.State.{IsState}
use Rattle.ice_search.specs.Workspace.{IsOfferedAt}
use Rattle.ice_search.proofs.Beginning.{start_is_live, begun}
use Rattle.ice_search.proofs.progress.Progress.begin.Goals as goal

pub polish_from-bounded-requires-clause-live : goal.polish_from-bounded-requires-clause-live
polish_from-bounded-requires-clause-live c =
    let x = c.args.problem.now in
    let i = c.in_ok-incumbent.incumbent in
    let live = start_is_live x i.sets i.value c.in_ok-incumbent.ensures.incumbent in
    subst (λ ts. IsLive ts c.in_ok-space.space.side) (sym (ap (λ y. y.trees) c.in_ok-space.ensures.instance)) (subst (IsLive x.trees) (sym c.in_ok-space.ensures.side) live)

-- at the same instance and side
there : (P : Instance → Side → Type 0) (x y : Instance) (xs ys : Side) → y ≡ x → ys ≡ xs → P y ys → P x xs
there P x y xs ys e d p = subst (λ side. P x side) d (subst (λ i. P i ys) e p)

pub invariant_of-result : goal.invariant_of-result
invariant_of-result c =
    let x = c.args.problem.now in
    let space = c.in_ok-space.space in
    let same = c.in_ok-space.ensures.instance in
    let at = c.in_ok-space.ensures.side in
    let found = c.polish_from-bounded in
    let m = found.result.bounded.m in
    let v = found.result.bounded.key in
    let i = c.loop-candidate.incumbent in
    let parts = ap parts_of (c.in_ok-push.ensures.items ∙ ap (λ xs. xs ++ c.root.result ∷ []) c.new-parts.ensures.items) ∙ ap (λ q. q ∷ []) c.root.ensures in
    let numbers = c.in_ok-push-3.ensures.items ∙ ap (λ xs. xs ++ 0 ∷ []) c.new-open_parts.ensures.items in
    subst (λ y. IsState (record {
      instance = y;
      side = found.new.self.side;
      parts = parts_of c.push.new.self.items;
      sets = found.new.incumbent.sets;
      value = found.new.incumbent.value;
      open_parts = c.push-3.new.self.items;
    })) (sym (found.ensures.instance ∙ same))
    (begun x i found.new.incumbent m v (parts_of c.push.new.self.items) c.push-3.new.self.items found.new.self.side c.in_ok-incumbent.ensures.lawful c.loop-candidate.invariant
    (there (λ y side. IsOfferedAt y side i found.new.incumbent) x space.instance x.start space.side same at found.ensures.polished.offered)
    (subst (λ y. AreMultipliersOf y.exact m) same found.ensures.polished.multipliers)
    (there (λ y side. IsBoundAt y m side v) x space.instance x.start space.side same at found.ensures.polished.bound) parts numbers)
