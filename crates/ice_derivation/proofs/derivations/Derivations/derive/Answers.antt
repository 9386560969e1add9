use Rattle.std.proofs.Common.{◌<◌, ◌≤◌, ◌∙◌, List, length, ap, sym, subst, ◌⊎◌, inl, inr}
use Rattle.std.proofs.lemmas.Bool.{cases_lt, true≢false}
use Rattle.std.proofs.lemmas.Int.{to_z-of_z}
use mir.Syntax.{w64}
use Rattle.ice_defs.specs.Set.{Weights}
use Rattle.ice_refute.specs.Waiting.{nodes_of}
use Rattle.ice_derived.specs.Ranges.{IsLimit}
use Rattle.ice_derived.proofs.Charging.{zero_nodes}
use Rattle.ice_derivation.proofs.derivations.Derivations.derive.Goals as goal

pub returns-clause-kept : goal.returns-clause-kept
returns-clause-kept c =
    let of = c.requires.kept.of in
    let d = c.args.self.now in
    record {
      of = record {
        lawful = of.lawful;
        nodes = of.nodes;
        free = of.free;
        zeros = of.zeros;
        amounts = ap (λ (ws : List Weights). nodes_of ws) c.clear_amounts.ensures ∙ zero_nodes c.args.trees.now;
        limit = subst IsLimit (sym (to_z-of_z w64 c.args.limit c.ranges.limit)) c.requires.limit;
      };
      ready = by (cases_lt (length d.walk.derived) d.walk.most);
    }
  where
    by : (length c.args.self.now.walk.derived < c.args.self.now.walk.most) ⊎ (c.args.self.now.walk.most ≤ length c.args.self.now.walk.derived)
        → length c.args.self.now.walk.derived < c.args.self.now.walk.most
    by (inl h) = h
    by (inr h) = absurd (true≢false (sym (c.is_full.ensures.1 h) ∙ c.if-is_full.false))
