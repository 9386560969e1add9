-- The refusals of nodes, part by part.
use Rattle.std.proofs.Common.{ℕ, suc, ◌+◌, ◌<◌, ◌≤◌, ◌≡◌, Bool, true, false, cond, ◌&&◌, eqb, leb, ltb, List, [], ◌∷◌, ◌++◌, length, Option, Some, None, ℤ, refl, sym, ap, ◌∙◌, arith}
use Rattle.std.proofs.lemmas.Bool.{ne_eqb}
use Rattle.std.proofs.lemmas.Bool.Decides.{nat_tests}
use Rattle.ice_defs.specs.declared.NodeKind.{NodeKind}
use Rattle.ice_defs.specs.Tree.{Tree}
use Rattle.ice_defs.specs.Making.{TreeDraft, node_refusal, draft_refusal}
use Rattle.ice_xor.specs.Translating.{depth_of, or_later, nodes_refusal}

pub or_later-assoc : (a b c : Option ℕ) → or_later (or_later a b) c ≡ or_later a (or_later b c)
or_later-assoc (Some n) b c = refl
or_later-assoc None b c = refl

pub nodes_refusal-append : (goods number : ℕ) (t u : Tree) (los mos his nis : List ℤ) → length los ≡ length t → length his ≡ length t
    → nodes_refusal goods number (t ++ u) (los ++ mos) (his ++ nis) ≡ or_later (nodes_refusal goods number t los his) (nodes_refusal goods (number + length t) u mos nis)
nodes_refusal-append goods number [] u [] mos [] nis l h = let e : number ≡ number + 0 = omega arith in ap (λ n. nodes_refusal goods n u mos nis) e
nodes_refusal-append goods number [] u (z ∷ los) mos his nis l h = absurd (omega arith)
nodes_refusal-append goods number [] u [] mos (z ∷ his) nis l h = absurd (omega arith)
nodes_refusal-append goods number (n ∷ t) u [] mos his nis l h = absurd (omega arith)
nodes_refusal-append goods number (n ∷ t) u (lo ∷ los) mos [] nis l h = absurd (omega arith)
nodes_refusal-append goods number (n ∷ t) u (lo ∷ los) mos (hi ∷ his) nis l h =
    let here = node_refusal goods number (depth_of number n.parent) n.kind lo hi in
    let e : suc number + length t ≡ number + suc (length t) = omega arith in
    ap (or_later here) (nodes_refusal-append goods (suc number) t u los mos his nis (omega arith) (omega arith))
    ∙ sym (or_later-assoc here (nodes_refusal goods (suc number) t los his) (nodes_refusal goods (suc number + length t) u mos nis))
    ∙ ap (λ k. or_later (or_later here (nodes_refusal goods (suc number) t los his)) (nodes_refusal goods k u mos nis)) e

-- where neither is refused
pub both_none : (a b : Option ℕ) → or_later a b ≡ None → (a ≡ None) × (b ≡ None)
both_none (Some n) b e = absurd cc
both_none None b e = (refl, e)

room : (goods nodes depth : ℕ) (kind : NodeKind) (lo hi : ℤ) → node_refusal goods nodes depth kind lo hi ≡ None → nodes < 200
room goods nodes depth kind lo hi e = by (leb 200 nodes) refl
  where
    by : (full : Bool) → leb 200 nodes ≡ full → nodes < 200
    by true is = let refused : node_refusal goods nodes depth kind lo hi ≡ Some 23 = rw is in cc
    by false is = grind (arith, nat_tests)

-- nodes that are not refused are at most 200 with those before them
pub nodes-few : (goods number : ℕ) (t : Tree) (los his : List ℤ) → length los ≡ length t → length his ≡ length t → 0 < length t → nodes_refusal goods number t los his ≡ None → number + length t ≤ 200
nodes-few goods number [] los his l h some e = absurd (omega arith)
nodes-few goods number (n ∷ t) [] his l h some e = absurd (omega arith)
nodes-few goods number (n ∷ t) (lo ∷ los) [] l h some e = absurd (omega arith)
nodes-few goods number (n ∷ []) (lo ∷ los) (hi ∷ his) l h some e =
    let first = both_none (node_refusal goods number (depth_of number n.parent) n.kind lo hi) (nodes_refusal goods (suc number) [] los his) e in
    omega (arith, room goods number (depth_of number n.parent) n.kind lo hi first.0)
nodes-few goods number (n ∷ m ∷ t) (lo ∷ los) (hi ∷ his) l h some e =
    let first = both_none (node_refusal goods number (depth_of number n.parent) n.kind lo hi) (nodes_refusal goods (suc number) (m ∷ t) los his) e in
    omega (arith, nodes-few goods (suc number) (m ∷ t) los his (omega arith) (omega arith) (omega arith) first.1)

-- ---- depths

pub depth-package : (number : ℕ) → 0 < number → depth_of number 0 ≡ 2
depth-package number some = ap (λ b. let d : ℕ = cond b 1 2 in d) (ne_eqb number 0 (λ e. absurd (omega (arith, e, some))))

pub depth-leaf : (number parent : ℕ) → 0 < number → 0 < parent → depth_of number parent ≡ 3
depth-leaf number parent some under =
    ap (λ b. let d : ℕ = cond b 1 (cond (eqb parent 0) 2 3) in d) (ne_eqb number 0 (λ e. absurd (omega (arith, e, some))))
    ∙ ap (λ b. let d : ℕ = cond b 2 3 in d) (ne_eqb parent 0 (λ e. absurd (omega (arith, e, under))))

-- ---- a maker in which a node is open

pub open-refusal : (goods : ℕ) (d : TreeDraft) (kind : NodeKind) (lo hi : ℤ) → 0 < length d.opened → draft_refusal goods d kind lo hi ≡ node_refusal goods (length d.tree) (suc (length d.opened)) kind lo hi
open-refusal goods d kind lo hi some =
    ap (λ b. cond b (Some 25) (node_refusal goods (length d.tree) (suc (length d.opened)) kind lo hi)) (going (ltb 0 (length d.tree)) (ne_eqb (length d.opened) 0 (λ e. absurd (omega (arith, e, some)))))
  where
    going : (b : Bool) → eqb (length d.opened) 0 ≡ false → (b && eqb (length d.opened) 0) ≡ false
    going true is = is
    going false is = refl
