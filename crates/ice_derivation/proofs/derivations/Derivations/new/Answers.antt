use Rattle.std.proofs.Common.{◌∙◌, List, arith, ap, sym, subst}
use Rattle.std.proofs.lemmas.Int.{ints}
use Rattle.ice_defs.specs.Set.{Weights}
use Rattle.ice_defs.specs.Follows.{AreLawful}
use Rattle.ice_defs.specs.Conditions.{AreWeightsOf}
use Rattle.ice_refute.specs.Waiting.{nodes_of}
use Rattle.ice_derived.proofs.Charging.{zero_nodes}
use Rattle.ice_derived.proofs.Fitting.{amounts_are_weights, none_amounts}
use Rattle.ice_derivation.specs.Walks.{WalkView}
use Rattle.ice_derivation.proofs.derivations.Derivations.new.Goals as goal

pub returns-clause-kept : goal.returns-clause-kept
returns-clause-kept c =
    let ts = c.args.trees.now in
    record {
      of = record {
        lawful = subst (λ (w : WalkView). AreLawful c.args.trees.now w.exact w.derived) (sym c.in_ok-new.ensures) (λ k h. absurd (omega (arith, h)));
        nodes = ap (λ (w : WalkView). w.nodes) c.in_ok-new.ensures;
        free = c.in_ok-free.ensures;
        zeros = subst (AreWeightsOf c.args.trees.now) (sym c.in_ok-new-2.ensures) (amounts_are_weights ts _ (zero_nodes ts) (none_amounts ts));
        amounts = ap (λ (ws : List Weights). nodes_of ws) c.in_ok-none.ensures ∙ zero_nodes ts;
        limit = record { low = omega (arith, ints); high = omega (arith, ints) };
      };
      ready = tt;
    }
