use Rattle.std.proofs.Common.{◌≡◌, sym, ◌∙◌, ap, subst}
use Rattle.std.proofs.lemmas.Int.{to_z-of_z}
use mir.Syntax.{w64}
use mir.Val.{to_z, of_z}
use Rattle.ice_defs.specs.Bounds.{Bounds}
use Rattle.std.proofs.Common.{List}
use Rattle.ice_defs.specs.Exchange.{Exchange, trees_of, exact_of}
use Rattle.ice_defs.specs.Lawful.{IsExchange}
use Rattle.ice_defs.specs.Group.{group_weights}
use Rattle.ice_defs.specs.Conditions.{AreBoundsOf}
use Rattle.ice_check_records.specs.declared.next.Next.TheVariants as coming
use Rattle.ice_tree.specs.Alike.{HasSetPerTree}
use Rattle.ice_check_records.specs.Logs.{IsWalkOf}
use Rattle.ice_verdicts.proofs.Bounded.{round_bounds}
use Rattle.ice_check_records.proofs.groups.Groups.begin.Goals as goal

pub weigh-requires-clause-lawful : goal.weigh-requires-clause-lawful
weigh-requires-clause-lawful c = subst IsExchange (sym c.exchange.ensures) c.requires.lawful

pub weigh-requires-clause-walk : goal.weigh-requires-clause-walk
weigh-requires-clause-walk c = subst (λ (ex : Exchange). IsWalkOf (trees_of ex) (exact_of ex) c.args.self.now.log) (sym c.exchange.ensures) c.requires.walk

pub weigh-requires-clause-bounds : goal.weigh-requires-clause-bounds
weigh-requires-clause-bounds c =
    let g = c.args.self.now in
    subst (λ (ex : Exchange). AreBoundsOf (trees_of ex) c.bounds.result.now) (sym c.exchange.ensures)
    (subst (AreBoundsOf (trees_of g.stated.exchange)) (sym c.bounds.ensures) (round_bounds g.stated.exchange g.offer.judge c.requires.offer.round))

pub weigh-requires-clause-room : goal.weigh-requires-clause-room
weigh-requires-clause-room c = subst (λ (ex : Exchange). HasSetPerTree (trees_of ex) c.args.self.now.final_sets) (sym c.exchange.ensures) c.requires.room

pub returns : goal.returns
returns c =
    let g = c.args.self.now in
    let log = c.weigh.new.self in
    let same : to_z w64 (of_z w64 c.args.value) ≡ c.args.value = to_z-of_z w64 c.args.value c.ranges.value in
    record {
      same = λ i. record g { next = coming.Set c.args.group; value = same i; log = log };
      weights = c.weigh.ensures.weights ∙ ap (λ (ex : Exchange). group_weights ex.settings.weight c.bounds.result.now g.final_sets c.args.group) c.exchange.ensures
          ∙ ap (λ (bs : List Bounds). group_weights g.stated.exchange.settings.weight bs g.final_sets c.args.group) c.bounds.ensures;
      walk = subst (λ (ex : Exchange). IsWalkOf (trees_of ex) (exact_of ex) log) c.exchange.ensures c.weigh.ensures.walk;
    }
