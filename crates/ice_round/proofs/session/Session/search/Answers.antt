use Rattle.std.proofs.Common.{ap, sym, subst, arith, refl, List, []}
use Rattle.ice_defs.specs.Bounds.{Bounds}
use Rattle.ice_defs.specs.Steps.{branch_count}
use Rattle.ice_defs.specs.Exchange.{trees_of}
use Rattle.ice_defs.specs.Conditions.{AreBoundsOf}
use Rattle.ice_search.specs.Results.{IsFoundBy, IsEnd}
use Rattle.ice_regret.specs.Regretted.{IsRegretOf, lower_search, rival_search}
use Rattle.ice_round.specs.Kept.{session_at}
use Rattle.ice_verdicts.proofs.Bounded.{round_bounds}
use Rattle.ice_round.proofs.Settlements.{begun_settling}
use Rattle.ice_round.proofs.Halting.{stopped_final, stopped_rival}
use Rattle.ice_round.proofs.session.Session.search.Goals as goal

pub stop-requires : goal.stop-requires
stop-requires c = stopped_final (session_at c.args.self) c.final_sets.new.branches c.in-Err.end c.in-Err.ensures.end

pub regret_among_ties-requires-clause-bounds : goal.regret_among_ties-requires-clause-bounds
regret_among_ties-requires-clause-bounds c = subst (AreBoundsOf (trees_of c.args.self.exchange)) (sym c.bounds.ensures) (round_bounds c.args.self.exchange c.args.self.judge c.requires.round)

pub regret_among_ties-requires-clause-found : goal.regret_among_ties-requires-clause-found
regret_among_ties-requires-clause-found c = subst (λ (bs : List Bounds). IsFoundBy (lower_search c.args.self.exchange bs) c.in-Ok.best) (sym c.bounds.ensures) c.in-Ok.ensures.found

pub stop-requires-in-Err-regret_among_ties : goal.stop-requires-in-Err-regret_among_ties
stop-requires-in-Err-regret_among_ties c =
    let s = session_at c.args.self in
    let best = c.regret_among_ties.new.best in
    let left = c.final_sets.new.branches in
    stopped_rival s c.regret_among_ties.new.branches best left c.in-Err-regret_among_ties.end
    (subst (λ (bs : List Bounds). IsFoundBy (lower_search s.exchange bs) best) c.bounds.ensures c.in-Err-regret_among_ties.ensures.found)
    (omega (arith, ap branch_count c.in-Err-regret_among_ties.ensures.log, c.in-Ok.ensures.branches))
    (subst (λ (bs : List Bounds). IsEnd (rival_search s.exchange bs best.best) left c.regret_among_ties.new.branches c.in-Err-regret_among_ties.end) c.bounds.ensures c.in-Err-regret_among_ties.ensures.end)

pub invariant_of-result : goal.invariant_of-result
invariant_of-result c =
    let s = session_at c.args.self in
    let best = c.regret_among_ties.new.best in
    let regret = c.in-Ok-regret_among_ties.regret in
    record {
      session = c.requires;
      done = [];
      found = record {
        found = begun_settling s best regret [] (record { bounds = round_bounds s.exchange c.args.self.judge c.requires.round; number = c.requires.number; branches = c.requires.branches })
            (subst (λ (bs : List Bounds). IsFoundBy (lower_search s.exchange bs) best) c.bounds.ensures c.in-Ok-regret_among_ties.ensures.found)
            (subst (λ (bs : List Bounds). IsRegretOf s.exchange bs best.best regret) c.bounds.ensures c.in-Ok-regret_among_ties.ensures.regret) refl;
        discounts = c.new-discounts.ensures.items;
        branches = omega (arith, ap branch_count c.in-Ok-regret_among_ties.ensures.log, c.in-Ok.ensures.branches, c.in-Ok-regret_among_ties.ensures.branches);
      };
    }

pub returns-clause-settling : goal.returns-clause-settling
returns-clause-settling c =
    let s = session_at c.args.self in
    let best = c.regret_among_ties.new.best in
    let regret = c.in-Ok-regret_among_ties.regret in
    record {
      found = begun_settling s best regret [] (record { bounds = round_bounds s.exchange c.args.self.judge c.requires.round; number = c.requires.number; branches = c.requires.branches })
          (subst (λ (bs : List Bounds). IsFoundBy (lower_search s.exchange bs) best) c.bounds.ensures c.in-Ok-regret_among_ties.ensures.found)
          (subst (λ (bs : List Bounds). IsRegretOf s.exchange bs best.best regret) c.bounds.ensures c.in-Ok-regret_among_ties.ensures.regret) refl;
      discounts = c.new-discounts.ensures.items;
      branches = omega (arith, ap branch_count c.in-Ok-regret_among_ties.ensures.log, c.in-Ok.ensures.branches, c.in-Ok-regret_among_ties.ensures.branches);
    }
