use Rattle.std.proofs.Common.{sym, subst, ap, ◌∙◌, ◌≡◌, false}
use Rattle.std.specs.List.{Contains}
use Rattle.ice_search_log.specs.Parts.{part_at}
use Rattle.ice_search_log.specs.Code.{parts_of}
use Rattle.ice_search.specs.State.{IsState, state_of, LooksAt, unswept_count}
use Rattle.ice_search.proofs.Turning.{live, swept, fewer}
use Rattle.ice_search.proofs.progress.Progress.sweep.Goals as goal

pub sweep-swept-requires-clause-live : goal.sweep-swept-requires-clause-live
sweep-swept-requires-clause-live c =
    let s = state_of c.self.inside.space c.self.inside.incumbent c.self.inside.parts.items c.self.inside.open_parts.items in
    live s c.self.invariant c.args.number (subst (λ t. LooksAt t c.args.number) (sym c.self.view_is) c.requires.looks)

pub invariant_of-self : goal.invariant_of-self
invariant_of-self c =
    let s = state_of c.self.inside.space c.self.inside.incumbent c.self.inside.parts.items c.self.inside.open_parts.items in
    let looks = subst (λ t. LooksAt t c.args.number) (sym c.self.view_is) c.requires.looks in
    let listed = subst (λ t. Contains t.open_parts c.args.number) (sym c.self.view_is) c.requires.listed in
    let found = c.sweep-swept.result in
    subst (λ x. IsState (record {
      instance = x;
      side = c.sweep-swept.new.self.side;
      parts = parts_of c.lower.new.parts.items;
      sets = c.sweep-swept.new.incumbent.sets;
      value = c.sweep-swept.new.incumbent.value;
      open_parts = c.self.inside.open_parts.items;
    })) (sym c.sweep-swept.ensures.instance)
    (swept s c.self.invariant c.args.number looks listed c.sweep-swept.new.incumbent c.sweep-swept.ensures.offered found.m found.key (parts_of c.lower.new.parts.items) c.sweep-swept.new.self.side
    c.sweep-swept.ensures.sweeps c.sweep-swept.ensures.bound c.lower.ensures.falls c.lower.ensures.stays)

pub returns-clause-fewer : goal.returns-clause-fewer
returns-clause-fewer c =
    let s = state_of c.self.inside.space c.self.inside.incumbent c.self.inside.parts.items c.self.inside.open_parts.items in
    let looks = subst (λ t. LooksAt t c.args.number) (sym c.self.view_is) c.requires.looks in
    let found = c.sweep-swept.result in
    let was = subst (λ t. (part_at t.parts c.args.number).swept ≡ false) (sym c.self.view_is) c.requires.unswept in
    fewer s c.self.invariant c.args.number looks found.m found.key (parts_of c.lower.new.parts.items) was c.lower.ensures.falls c.lower.ensures.stays ∙ ap (λ t. unswept_count t.parts) c.self.view_is
