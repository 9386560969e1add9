use Rattle.std.proofs.Common.{ℕ, length, map, replicate, pos, ap, sym, ◌∙◌}
use Rattle.std.proofs.lemmas.Simd.{map-map}
use Rattle.ice_pairs.proofs.none.Goals as goal

pub returns : goal.returns
returns c = c.in_ok-amounts.ensures ∙ sym (map-map (λ (n : ℕ). replicate n (pos 0)) length c.args.trees.now) ∙ ap (map (λ (n : ℕ). replicate n (pos 0))) c.requires
