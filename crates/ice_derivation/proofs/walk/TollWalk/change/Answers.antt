use mir.Syntax.{w64}
use mir.Val.{SFits}
use Rattle.std.proofs.lemmas.Int.{to_z-of_z}
use Rattle.ice_derived.specs.Ranges.{IsToll}
use Rattle.std.proofs.Common.{rules, ◌≡◌, ◌+◌, List, set, drop, get_or, ℤ, pos, sym, ◌∙◌, ap, subst}
use Rattle.ice_journal.specs.declared.line.Numbered.{Numbered}
use Rattle.ice_derivation.specs.Numbers.{changed}
use Rattle.ice_derivation.specs.Walks.{WalkView}
use Rattle.ice_derivation.proofs.Numbers.{changed_more, none_left, toll_at}
use Rattle.ice_derivation.proofs.walk.TollWalk.change.Goals as goal

pub put-requires : goal.put-requires
put-requires c =
    let x : Numbered = get_or c.args.changes.now c.loop-change.change-index (record { number = 0; amount = pos 0 }) in
    let fits : SFits w64 x.amount = search rules in
    subst IsToll (sym (to_z-of_z w64 x.amount fits)) (toll_at c.args.changes.now c.loop-change.change-index c.loop-change-test.true c.loop-change.invariant.in_range).0

pub loop-change-preserved : goal.loop-change-preserved
loop-change-preserved c =
    let changes = c.args.changes.now in
    let i = c.loop-change.change-index in
    let old = c.loop-change.self in
    let inv = c.loop-change.invariant in
    let x : Numbered = get_or changes i (record { number = 0; amount = pos 0 }) in
    let numbers : List ℤ = set old.numbers x.number x.amount in
    let fits : SFits w64 x.amount = search rules in
    let same : c.put.new.self ≡ record old { numbers = numbers } =
    c.put.ensures ∙ ap (λ (z : ℤ). record old { numbers = set old.numbers x.number z }) (to_z-of_z w64 x.amount fits) in
    record {
      changed_so = subst (λ (w : WalkView). changed w.numbers (drop (i + 1) changes) ≡ changed c.args.self.now.numbers changes) (sym same)
          (sym (changed_more old.numbers changes i c.loop-change-test.true) ∙ inv.changed_so);
      others = same ∙ ap (λ (w : WalkView). record w { numbers = numbers }) inv.others
          ∙ ap (λ (m : List ℤ). record c.args.self.now { numbers = m }) (sym (ap (λ (w : WalkView). w.numbers) same));
      in_range = (toll_at changes i c.loop-change-test.true inv.in_range).1;
    }

pub returns : goal.returns
returns c =
    let inv = c.loop-change.invariant in
    inv.others ∙ ap (λ (m : List ℤ). record c.args.self.now { numbers = m })
    (sym (none_left c.loop-change.self.numbers c.args.changes.now c.loop-change.change-index c.loop-change-test.false) ∙ inv.changed_so)
