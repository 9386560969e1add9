use Rattle.std.proofs.Common.{ℕ, sym, subst, rules, Option, Some, None, FitsSigned, to_z, of_z}
use Rattle.std.specs.Int.{w128}
use Rattle.std.specs.Prelude.{IfNone}
use Rattle.std.proofs.lemmas.Int.{to_z-of_z}
use Rattle.ice_search_log.specs.Searching.{IsAboveWhole, IsAboveOpen, AreOpen}
use Rattle.ice_search_log.proofs.Ending.{none_is_left}
use Rattle.ice_search_log.specs.Code.{parts_of}
use Rattle.ice_search.specs.Open.{AreParts}
use Rattle.ice_search.proofs.progress.Progress.next.Goals as goal

pub greatest-requires : goal.greatest-requires
greatest-requires c =
    subst (λ xs. AreParts (parts_of xs) c.deref-2.result.now) (sym c.deref.ensures.value) (subst (AreParts (parts_of c.self.inside.parts.items)) (sym c.deref-2.ensures.value) c.self.invariant.numbered)

if_none : (o : Option ℕ) (P Q : Type 0) → (P → Q) → IfNone o P → IfNone o Q
if_none None P Q f p = f p
if_none (Some x) P Q f p = tt

pub returns-clause-none : goal.returns-clause-none
returns-clause-none c =
    let parts = c.self.inside.parts.items in
    let numbers = c.self.inside.open_parts.items in
    let fits : FitsSigned w128 c.self.inside.incumbent.value = search rules in
    let value = to_z-of_z w128 c.self.inside.incumbent.value fits in
    let seen : IfNone c.greatest.result (IsAboveOpen (parts_of parts) numbers c.self.inside.incumbent.value) =
    subst (λ v. IfNone c.greatest.result (IsAboveOpen (parts_of parts) numbers v)) value
    (subst (λ ns. IfNone c.greatest.result (IsAboveOpen (parts_of parts) ns (to_z w128 (of_z w128 c.self.inside.incumbent.value)))) c.deref-2.ensures.value
    (subst (λ xs. IfNone c.greatest.result (IsAboveOpen (parts_of xs) c.deref-2.result.now (to_z w128 (of_z w128 c.self.inside.incumbent.value)))) c.deref.ensures.value c.greatest.ensures.none)) in
    subst (λ s. IfNone c.greatest.result (IsAboveWhole s.parts s.value)) c.self.view_is
    (if_none c.greatest.result (IsAboveOpen (parts_of parts) numbers c.self.inside.incumbent.value) (IsAboveWhole (parts_of parts) c.self.inside.incumbent.value)
    (none_is_left (parts_of parts) c.self.inside.incumbent.value numbers c.self.invariant.opened) seen)

pub returns-clause-opened : goal.returns-clause-opened
returns-clause-opened c = subst (λ s. AreOpen s.parts s.value s.open_parts) c.self.view_is c.self.invariant.opened
