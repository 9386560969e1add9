-- Four trees of one node.
use Rattle.std.proofs.Common.{ℕ, zero, suc, ◌<◌, ◌≡◌, List, [], ◌∷◌, length, set, get_or, ℤ, refl, sym, subst, ap, ◌∙◌, arith}
use Rattle.std.proofs.lemmas.List.{length-set}
use Rattle.std.proofs.Math.Seq.{map-set_same}
use Rattle.ice_defs.specs.Tree.{Tree}
use Rattle.ice_defs.specs.Set.{Weights}
use Rattle.ice_defs.specs.Trade.{tree_of, weights_of}
use Rattle.ice_defs.specs.Bounds.{Bounds, bounds_of}
use Rattle.ice_defs.specs.Lawful.{AreBounds}
use Rattle.ice_defs.specs.Conditions.{AreBoundsOf}
use Rattle.ice_refute.specs.Waiting.{nodes_of}
use Rattle.ice_derived.proofs.Rows.{node_count}

-- ---- their bounds

at : (t : Tree) (x : Bounds) → length t ≡ 1 → AreBounds 1 x → AreBounds (length t) x
at t x one are = subst (λ n. AreBounds n x) (sym one) are

pub four : (s t u v : Tree) (w x y z : Bounds) → length s ≡ 1 → length t ≡ 1 → length u ≡ 1 → length v ≡ 1 → AreBounds 1 w → AreBounds 1 x → AreBounds 1 y → AreBounds 1 z
    → AreBoundsOf (s ∷ t ∷ u ∷ v ∷ []) (w ∷ x ∷ y ∷ z ∷ [])
four s t u v w x y z p q r o a b c d = record { same_length = refl; each = each }
  where
    each : (k : ℕ) → k < length (s ∷ t ∷ u ∷ v ∷ []) → AreBounds (length (tree_of (s ∷ t ∷ u ∷ v ∷ []) k)) (bounds_of (w ∷ x ∷ y ∷ z ∷ []) k)
    each zero h = at s w p a
    each (suc zero) h = at t x q b
    each (suc (suc zero)) h = at u y r c
    each (suc (suc (suc zero))) h = at v z o d
    each (suc (suc (suc (suc k)))) h = absurd (omega (arith, h))

-- ---- amounts of their nodes

pub four_nodes : (s t u v : Tree) → length s ≡ 1 → length t ≡ 1 → length u ≡ 1 → length v ≡ 1 → nodes_of (s ∷ t ∷ u ∷ v ∷ []) ≡ 1 ∷ 1 ∷ 1 ∷ 1 ∷ []
four_nodes s t u v p q r o =
    ap (λ n. n ∷ length t ∷ length u ∷ length v ∷ []) p ∙ ap (λ n. 1 ∷ n ∷ length u ∷ length v ∷ []) q
    ∙ ap (λ n. 1 ∷ 1 ∷ n ∷ length v ∷ []) r ∙ ap (λ n. 1 ∷ 1 ∷ 1 ∷ n ∷ []) o

ones : (b : ℕ) → b < 4 → ◌≡◌ {A = ℕ} (get_or (1 ∷ 1 ∷ 1 ∷ 1 ∷ []) b 0) 1
ones zero h = refl
ones (suc zero) h = refl
ones (suc (suc zero)) h = refl
ones (suc (suc (suc zero))) h = refl
ones (suc (suc (suc (suc k)))) h = absurd (omega (arith, h))

pub one_node : (ws : List Weights) (b : ℕ) → nodes_of ws ≡ 1 ∷ 1 ∷ 1 ∷ 1 ∷ [] → b < 4 → length (weights_of ws b) ≡ 1
one_node ws b are h = sym (node_count ws b) ∙ ap (λ (ns : List ℕ). get_or ns b 0) are ∙ ones b h

-- another amount of a node
pub same_nodes : (ws new : List Weights) (b n : ℕ) (z : ℤ) → new ≡ set ws b (set (weights_of ws b) n z) → nodes_of ws ≡ 1 ∷ 1 ∷ 1 ∷ 1 ∷ [] → nodes_of new ≡ 1 ∷ 1 ∷ 1 ∷ 1 ∷ []
same_nodes ws new b n z is are =
    ap nodes_of is ∙ map-set_same (λ (w : Weights). length w) ws b (set (weights_of ws b) n z) [] (length-set (weights_of ws b) n z) ∙ are
