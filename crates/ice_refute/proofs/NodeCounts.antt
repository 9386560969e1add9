-- Fixings with the same numbers of nodes.
use Rattle.std.proofs.Common.{ℕ, zero, suc, ◌≡◌, List, [], ◌∷◌, length, map, replicate, get_or, refl, ap, sym, ◌∙◌}
use Rattle.std.proofs.lemmas.List.{length-map, length-replicate}
use Rattle.ice_defs.specs.declared.Mark.TheVariants.{Free}
use Rattle.ice_defs.specs.Tree.{Tree}
use Rattle.ice_defs.specs.Fixing.{Fixing}
use Rattle.ice_defs.specs.Conditions.{AreFixingsOf}
use Rattle.ice_refute.specs.Waiting.{nodes_of}

get_or-nodes_of : {X : Type 0} (lists : List (List X)) (b : ℕ) → get_or (nodes_of lists) b 0 ≡ length (get_or lists b [])
get_or-nodes_of [] b = refl
get_or-nodes_of (x ∷ lists) zero = refl
get_or-nodes_of (x ∷ lists) (suc b) = get_or-nodes_of lists b

pub same_count : {X Y : Type 0} (xs : List (List X)) (ys : List (List Y)) → nodes_of xs ≡ nodes_of ys → length xs ≡ length ys
same_count {X} {Y} xs ys e = sym (length-map xs (λ (x : List X). length x)) ∙ ap length e ∙ length-map ys (λ (y : List Y). length y)

pub same_nodes : {X Y : Type 0} (xs : List (List X)) (ys : List (List Y)) (b : ℕ) → nodes_of xs ≡ nodes_of ys → length (get_or xs b []) ≡ length (get_or ys b [])
same_nodes xs ys b e = sym (get_or-nodes_of xs b) ∙ ap (λ ns. get_or ns b 0) e ∙ get_or-nodes_of ys b

pub fixings_of_nodes : (ts : List Tree) (xs : List Fixing) → nodes_of xs ≡ nodes_of ts → AreFixingsOf ts xs
fixings_of_nodes ts xs e = record { same_length = same_count xs ts e; nodes = λ b h. same_nodes xs ts b e }

pub nodes_of-free : (ts : List Tree) → nodes_of (map (λ t. replicate (length t) Free) ts) ≡ nodes_of ts
nodes_of-free [] = refl
nodes_of-free (t ∷ ts) = ap (λ k. k ∷ nodes_of (map (λ t. replicate (length t) Free) ts)) (length-replicate (length t) Free) ∙ ap (λ r. length t ∷ r) (nodes_of-free ts)
