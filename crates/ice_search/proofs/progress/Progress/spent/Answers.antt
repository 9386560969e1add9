use Rattle.std.proofs.Common.{rules, arith, length, sym, subst, ap, ◌∙◌, ◌++◌, FitsSigned, to_z, of_z}
use Rattle.std.specs.Int.{w128}
use Rattle.std.specs.List.{AllByRecursion}
use Rattle.std.proofs.lemmas.Int.{to_z-of_z}
use Rattle.std.proofs.lemmas.List.{length-map}
use Rattle.ice_defs.specs.Steps.{branch_count}
use Rattle.ice_search_log.specs.Parts.{AreLater, log_of, never_stops}
use Rattle.ice_search_log.specs.Searching.{IsNext}
use Rattle.ice_search_log.specs.Code.{part_of, parts_of, IsRangedStep}
use Rattle.ice_search_log.proofs.Assembling.{part_read}
use Rattle.ice_search.specs.Nodes.{IsSplitNode}
use Rattle.ice_search.specs.Results.{IsSpentBy}
use Rattle.ice_search.specs.State.{state_of, LooksAt}
use Rattle.ice_search.proofs.Finishing.{later, spent_by, all_branches}
use Rattle.ice_search.proofs.progress.Progress.spent.Goals as goal

pub write_log-requires-clause-later : goal.write_log-requires-clause-later
write_log-requires-clause-later c =
    let s = state_of c.self.inside.space c.self.inside.incumbent c.self.inside.parts.items c.self.inside.open_parts.items in
    subst (λ xs. AreLater (parts_of xs)) (sym c.deref.ensures.value) (later s c.self.invariant)

pub returns-clause-spent : goal.returns-clause-spent
returns-clause-spent c =
    let s = state_of c.self.inside.space c.self.inside.incumbent c.self.inside.parts.items c.self.inside.open_parts.items in
    let v = c.self.inside.incumbent.value in
    let fits : FitsSigned w128 v = search rules in
    let value = to_z-of_z w128 v fits in
    let log = c.write_log.new.log in
    let written = c.in_ok-write_log.ensures.log ∙ ap (λ old. old ++ log_of never_stops (parts_of c.deref.result.now)) c.new-log.ensures
    ∙ ap (λ xs. log_of never_stops (parts_of xs)) c.deref.ensures.value in
    let ranged = c.in_ok-write_log.ensures.range (subst (AllByRecursion IsRangedStep) (sym c.new-log.ensures) tt) in
    let looks = subst (λ t. LooksAt t c.args.number) (sym c.self.view_is) c.requires.looks in
    let next = subst (λ t. IsNext t.parts t.value c.args.number) (sym c.self.view_is) c.requires.next in
    let node = subst (λ t. IsSplitNode t.instance.trees t.side c.args.node.bidder c.args.node.node) (sym c.self.view_is) c.requires.node in
    let part = c.index.result.now in
    let key = c.key_of-bound.result in
    let key_fits : FitsSigned w128 key = search rules in
    let read = part_read c.self.inside.parts.items c.args.number part (omega (arith, looks.there, length-map c.self.inside.parts.items part_of)) c.index.ensures in
    let bound = to_z-of_z w128 key key_fits ∙ c.key_of-bound.ensures ∙ sym (ap (λ q. q.key) read) in
    subst (λ t. IsSpentBy t.instance (branch_count log) (record { found = c.self.inside.incumbent.sets; value = to_z w128 (of_z w128 v); bound = to_z w128 (of_z w128 key); log = log })) c.self.view_is
    (subst (λ z. IsSpentBy s.instance (branch_count log) (record { found = c.self.inside.incumbent.sets; value = z; bound = to_z w128 (of_z w128 key); log = log })) (sym value)
    (subst (λ z. IsSpentBy s.instance (branch_count log) (record { found = c.self.inside.incumbent.sets; value = v; bound = z; log = log })) (sym bound)
    (spent_by s c.self.invariant log c.args.number c.args.node.bidder c.args.node.node looks next node written ranged)))

pub returns-clause-branches : goal.returns-clause-branches
returns-clause-branches c =
    let s = state_of c.self.inside.space c.self.inside.incumbent c.self.inside.parts.items c.self.inside.open_parts.items in
    let log = c.write_log.new.log in
    let written = c.in_ok-write_log.ensures.log ∙ ap (λ old. old ++ log_of never_stops (parts_of c.deref.result.now)) c.new-log.ensures
    ∙ ap (λ xs. log_of never_stops (parts_of xs)) c.deref.ensures.value in
    let all = all_branches s c.self.invariant log written in
    omega (arith, all, ap (λ t. length t.parts) c.self.view_is)
