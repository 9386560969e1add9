use Rattle.std.proofs.Common.{ap, sym, subst, ◌∙◌, replicate, length, pos}
use Rattle.ice_defs.specs.Sweep.{IsLive}
use Rattle.ice_search.specs.Instance.{IsBoundAt, IsSweepAt}
use Rattle.ice_search.proofs.Splitting.{live_there}
use Rattle.ice_search.proofs.Standing.{bound_there, swept_there}
use Rattle.ice_search.proofs.workspace.Workspace.sweep.Goals as goal

pub offer-requires-clause-live : goal.offer-requires-clause-live
offer-requires-clause-live c =
    let kept = c.improve_kept.new.kept in
    let alike = c.improve_kept.ensures.alike in
    let put = c.put_multipliers.ensures in
    live_there kept.trees c.self.inside.problem.trees c.self.inside.kept.marks kept.marks (sym (alike.trees ∙ put.trees ∙ c.self.invariant.trees)) (sym (alike.marks ∙ put.marks))
    (subst (λ l. IsLive l.instance.trees l.side) (sym c.self.view_is) c.requires.live)

pub kept_bound-requires : goal.kept_bound-requires
kept_bound-requires c =
    let kept = c.improve_kept.new.kept in
    let alike = c.improve_kept.ensures.alike in
    let put = c.put_multipliers.ensures in
    live_there kept.trees c.self.inside.problem.trees c.self.inside.kept.marks kept.marks (sym (alike.trees ∙ put.trees ∙ c.self.invariant.trees)) (sym (alike.marks ∙ put.marks))
    (subst (λ l. IsLive l.instance.trees l.side) (sym c.self.view_is) c.requires.live)

pub returns-clause-sweeps : goal.returns-clause-sweeps
returns-clause-sweeps c =
    let x = c.self.inside.problem in
    let put = c.put_multipliers in
    let old = put.new.self in
    let new = c.improve_kept.new.kept in
    let m = c.kept_bound.result.m in
    subst (λ l. IsSweepAt l.instance l.side m) c.self.view_is
    (swept_there x.trees old.trees x.exact old.exact x.weights old.weights old.marks c.self.inside.kept.marks (replicate (length x.exact) (pos 0)) old.multipliers m new.multipliers
    (put.ensures.trees ∙ c.self.invariant.trees) (put.ensures.exact ∙ c.self.invariant.exact) (put.ensures.weights ∙ c.self.invariant.weights) put.ensures.marks
    (put.ensures.multipliers ∙ c.zero.ensures ∙ ap (λ k. replicate k (pos 0)) c.goods.ensures.value) (sym c.kept_bound.ensures.multipliers) c.improve_kept.ensures.sweeps)

pub returns-clause-bound : goal.returns-clause-bound
returns-clause-bound c =
    let x = c.self.inside.problem in
    let kept = c.improve_kept.new.kept in
    let alike = c.improve_kept.ensures.alike in
    let put = c.put_multipliers.ensures in
    let found = c.kept_bound.result in
    subst (λ l. IsBoundAt l.instance found.m l.side found.key) c.self.view_is
    (bound_there x.trees kept.trees x.weights kept.weights found.m kept.multipliers kept.marks c.self.inside.kept.marks found.key (alike.trees ∙ put.trees ∙ c.self.invariant.trees)
    (alike.weights ∙ put.weights ∙ c.self.invariant.weights) (sym c.kept_bound.ensures.multipliers) (alike.marks ∙ put.marks) c.kept_bound.ensures.bound)
