use Rattle.std.proofs.Common.{rules, arith, length, sym, subst, ap, ◌∙◌, ◌≡◌, ◌++◌, FitsSigned, to_z, of_z}
use Rattle.std.specs.Int.{w128}
use Rattle.std.specs.List.{AllByRecursion}
use Rattle.std.proofs.lemmas.Int.{to_z-of_z}
use Rattle.ice_search_log.specs.Parts.{AreLater, log_of, is_closed}
use Rattle.ice_search_log.specs.Searching.{IsAboveWhole}
use Rattle.ice_search_log.specs.Code.{parts_of, IsRangedStep}
use Rattle.ice_search.specs.Results.{IsFoundBy}
use Rattle.ice_search.specs.State.{state_of}
use Rattle.ice_search.proofs.Finishing.{later, found_by, fewer_branches}
use Rattle.ice_search.proofs.progress.Progress.found.Goals as goal

pub write_log-requires-clause-later : goal.write_log-requires-clause-later
write_log-requires-clause-later c =
    let s = state_of c.self.inside.space c.self.inside.incumbent c.self.inside.parts.items c.self.inside.open_parts.items in
    subst (λ xs. AreLater (parts_of xs)) (sym c.deref.ensures.value) (later s c.self.invariant)

pub returns-clause-found : goal.returns-clause-found
returns-clause-found c =
    let s = state_of c.self.inside.space c.self.inside.incumbent c.self.inside.parts.items c.self.inside.open_parts.items in
    let v = c.self.inside.incumbent.value in
    let fits : FitsSigned w128 v = search rules in
    let value = to_z-of_z w128 v fits in
    let log = c.write_log.new.log in
    let written = subst (λ z. log ≡ log_of (is_closed z) (parts_of c.self.inside.parts.items)) value
    (c.in_ok-write_log.ensures.log ∙ ap (λ old. old ++ log_of (is_closed (to_z w128 (of_z w128 v))) (parts_of c.deref.result.now)) c.new-log.ensures
    ∙ ap (λ xs. log_of (is_closed (to_z w128 (of_z w128 v))) (parts_of xs)) c.deref.ensures.value) in
    let ranged = c.in_ok-write_log.ensures.range (subst (AllByRecursion IsRangedStep) (sym c.new-log.ensures) tt) in
    let whole = subst (λ t. IsAboveWhole t.parts t.value) (sym c.self.view_is) c.requires.whole in
    subst (λ t. IsFoundBy t.instance (record { best = c.self.inside.incumbent.sets; value = to_z w128 (of_z w128 v); log = log })) c.self.view_is
    (subst (λ z. IsFoundBy s.instance (record { best = c.self.inside.incumbent.sets; value = z; log = log })) (sym value) (found_by s c.self.invariant log whole written ranged))

pub returns-clause-branches : goal.returns-clause-branches
returns-clause-branches c =
    let s = state_of c.self.inside.space c.self.inside.incumbent c.self.inside.parts.items c.self.inside.open_parts.items in
    let v = c.self.inside.incumbent.value in
    let fits : FitsSigned w128 v = search rules in
    let value = to_z-of_z w128 v fits in
    let log = c.write_log.new.log in
    let written = subst (λ z. log ≡ log_of (is_closed z) (parts_of c.self.inside.parts.items)) value
    (c.in_ok-write_log.ensures.log ∙ ap (λ old. old ++ log_of (is_closed (to_z w128 (of_z w128 v))) (parts_of c.deref.result.now)) c.new-log.ensures
    ∙ ap (λ xs. log_of (is_closed (to_z w128 (of_z w128 v))) (parts_of xs)) c.deref.ensures.value) in
    let few = fewer_branches s c.self.invariant (is_closed v) log written in
    omega (arith, few, ap (λ t. length t.parts) c.self.view_is)
