-- Fixings that meet the conditions of bounds: those with every node free, and those with one more
-- mark.
use Rattle.std.proofs.Common.{ℕ, ◌<◌, ◌≤◌, ◌≡◌, List, [], length, map, replicate, set, arith, ap, sym, ◌∙◌, ◌⊎◌, inl, inr, get_or-set_same, get_or-set_other}
use Rattle.std.proofs.lemmas.Bool.{cases_lt, cases_eq}
use Rattle.std.proofs.lemmas.List.{length-map, get_or-map, length-replicate, length-set, get_or_past}
use Rattle.ice_defs.specs.declared.Mark.{Mark}
use Rattle.ice_defs.specs.declared.Mark.TheVariants.{Free}
use Rattle.ice_defs.specs.Tree.{Tree}
use Rattle.ice_defs.specs.Fixing.{Fixing, mark_of}
use Rattle.ice_defs.specs.Trade.{tree_of, fixing_of}
use Rattle.ice_defs.specs.Steps.{with_mark}
use Rattle.ice_best.specs.Entries.{DifferOnlyAtMark}
use Rattle.ice_defs.specs.Conditions.{AreFixingsOf}

-- every node free
pub free_fixings : (ts : List Tree) → AreFixingsOf ts (map (λ t. replicate (length t) Free) ts)
free_fixings ts = record {
  same_length = length-map ts (λ (t : Tree). replicate (length t) Free);
  nodes = λ b h. ap length (get_or-map (λ (t : Tree). replicate (length t) Free) ts b [] [] h) ∙ length-replicate (length (tree_of ts b)) Free;
}

-- a mark changes no length
pub length-with_mark : (xs : List Fixing) (b n : ℕ) (m : Mark) → length (with_mark xs b n m) ≡ length xs
length-with_mark xs b n m = length-set xs b (set (fixing_of xs b) n m)

pub nodes-with_mark : (xs : List Fixing) (b n c : ℕ) (m : Mark) → length (fixing_of (with_mark xs b n m) c) ≡ length (fixing_of xs c)
nodes-with_mark xs b n c m = by (cases_eq c b) (cases_lt b (length xs))
  where
    by : (c ≡ b) ⊎ (c ≡ b → ⊥) → (b < length xs) ⊎ (length xs ≤ b) → length (fixing_of (with_mark xs b n m) c) ≡ length (fixing_of xs c)
    by (inl e) (inl h) =
        ap (λ k. length (fixing_of (with_mark xs b n m) k)) e ∙ ap length (get_or-set_same xs b (set (fixing_of xs b) n m) [] h)
        ∙ length-set (fixing_of xs b) n m ∙ ap (λ k. length (fixing_of xs k)) (sym e)
    by (inl e) (inr h) =
        ap (λ k. length (fixing_of (with_mark xs b n m) k)) e ∙ ap length (get_or_past (with_mark xs b n m) b [] (omega (arith, h, length-with_mark xs b n m)))
        ∙ sym (ap length (get_or_past xs b [] h)) ∙ ap (λ k. length (fixing_of xs k)) (sym e)
    by (inr ne) h = ap length (get_or-set_other xs b c (set (fixing_of xs b) n m) [] ne)

pub marked_fixings : (ts : List Tree) (xs : List Fixing) (b n : ℕ) (m : Mark) → AreFixingsOf ts xs → AreFixingsOf ts (with_mark xs b n m)
marked_fixings ts xs b n m are = record {
  same_length = length-with_mark xs b n m ∙ are.same_length;
  nodes = λ c h. nodes-with_mark xs b n c m ∙ are.nodes c h;
}

-- and changes no other node's mark
pub marked_differs : (xs ys : List Fixing) (b n : ℕ) (m : Mark) (y : Fixing) → b < length xs → ys ≡ with_mark xs b n m → y ≡ fixing_of ys b → DifferOnlyAtMark n (fixing_of xs b) y
marked_differs xs ys b n m y h marked is k ne =
    sym (ap (λ x. mark_of x k) (is ∙ ap (λ zs. fixing_of zs b) marked ∙ get_or-set_same xs b (set (fixing_of xs b) n m) [] h) ∙ get_or-set_other (fixing_of xs b) n k m Free ne)

pub ruleset fixings = (free_fixings, marked_fixings)
