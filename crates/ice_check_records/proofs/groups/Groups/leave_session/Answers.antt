use Rattle.std.proofs.Common.{◌≡◌, List, sym, ◌∙◌, subst}
use Rattle.ice_defs.specs.Bounds.{Bounds}
use Rattle.ice_defs.specs.Exchange.{Exchange, trees_of}
use Rattle.ice_defs.specs.Conditions.{AreBoundsOf}
use Rattle.ice_verdicts.proofs.Bounded.{round_bounds}
use Rattle.ice_check_records.proofs.groups.Groups.leave_session.Goals as goal

pub returns : goal.returns
returns c =
    let g = c.args.self in
    let parts = c.into_exchange_and_sets-exchange in
    let bounds : g.offer.judge.bounds ≡ c.in_ok-bounds.bounds.items = sym (c.in_ok-bounds.ensures ∙ c.bounds.ensures) in
    record {
      exchange = sym parts.ensures.exchange;
      bounds = bounds;
      final = sym parts.ensures.sets;
      cut = sym c.cut-cut.ensures.value;
      cut_few = c.cut-cut.ensures.few;
      lawful =
          subst (λ (ex : Exchange). AreBoundsOf (trees_of ex) c.in_ok-bounds.bounds.items) (sym parts.ensures.exchange)
          (subst (λ (bs : List Bounds). AreBoundsOf (trees_of g.stated.exchange) bs) bounds (round_bounds g.stated.exchange g.offer.judge c.requires.offer.round));
    }
