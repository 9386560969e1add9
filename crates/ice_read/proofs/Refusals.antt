-- What the maker of a tree refuses, and what the definitions refuse.
use Rattle.std.proofs.Common.{◌≡◌, ℕ, suc, ◌-◌, ◌≤◌, List, length, false, sym, ◌∙◌, arith}
use Rattle.std.specs.Prelude.{ℤ, pos, codes, Some, None, Ok}
use Rattle.ice_defs.specs.declared.NodeKind.{NodeKind}
use Rattle.ice_defs.specs.declared.NodeKind.TheVariants.{Choose}
use Rattle.ice_defs.specs.Making.{TreeDraft, innermost, is_complete, node_refusal, draft_refusal, with_node}
use Rattle.ice_defs.specs.FileFault.{Path, refuse, ◌>>=◌}
use Rattle.serde_json.specs.Data.{Data, Items}
use Rattle.ice_read.specs.declared.leaf.Side.{Side}
use Rattle.ice_read.specs.Values.{of_member, array_of, whole_of}
use Rattle.ice_read.specs.TreeFile.{Interval, good_at, value_at, interval_at, make}
use Rattle.ice_read.specs.Reading.{side_word, side_kind, made_so_far, levels_below, leaf_below, opened_below}

-- a maker with an incomplete tree refuses by the level of the node
draft_refusal-node : (goods : ℕ) (d : TreeDraft) (kind : NodeKind) (lo hi : ℤ) → is_complete d ≡ false → length d.opened ≤ 16
    → draft_refusal goods d kind lo hi ≡ node_refusal goods (length d.tree) (17 - levels_below d) kind lo hi
draft_refusal-node goods d kind lo hi going deep =
    let depth : 17 - (16 - length d.opened) ≡ suc (length d.opened) = omega arith in
    rw (going, depth)

pub made : (goods : List (List ℕ)) (d : TreeDraft) (kind : NodeKind) (lo hi : ℤ) (path : Path) → is_complete d ≡ false → length d.opened ≤ 16 → draft_refusal (length goods) d kind lo hi ≡ None
    → make goods (levels_below d) (innermost d.opened) path (made_so_far d) kind lo hi ≡ Ok (made_so_far (with_node d kind lo hi))
made goods d kind lo hi path going deep due =
    let is : node_refusal (length goods) (length d.tree) (17 - levels_below d) kind lo hi ≡ None = sym (draft_refusal-node (length goods) d kind lo hi going deep) ∙ due in
    rw is

pub unmade : (goods : List (List ℕ)) (d : TreeDraft) (kind : NodeKind) (lo hi : ℤ) (path : Path) (number : ℕ) → is_complete d ≡ false → length d.opened ≤ 16 → draft_refusal (length goods) d kind lo hi ≡ Some number
    → make goods (levels_below d) (innermost d.opened) path (made_so_far d) kind lo hi ≡ refuse number path
unmade goods d kind lo hi path number going deep due =
    let is : node_refusal (length goods) (length d.tree) (17 - levels_below d) kind lo hi ≡ Some number = sym (draft_refusal-node (length goods) d kind lo hi going deep) ∙ due in
    rw is

-- the parts of a leaf
pub leaf_chain : (goods : List (List ℕ)) (d : TreeDraft) (side : Side) (path : Path) (value : Data) (word : List ℕ) (good units : ℕ) (lo hi : ℤ) → word ≡ side_word side → of_member path value word (good_at goods) ≡ Ok good
    → of_member path value (codes "units") (λ p. whole_of p (pos 1) (pos 1000)) ≡ Ok (pos units) → of_member path value (codes "lo") value_at ≡ Ok lo → of_member path value (codes "hi") value_at ≡ Ok hi
    → leaf_below goods d side path value ≡ make goods (levels_below d) (innermost d.opened) path (made_so_far d) (side_kind side good units) lo hi
leaf_chain goods d side path value word good units lo hi is named counted low high =
    let named_good = rw is at named in
    rw (named_good, counted, low, high)

-- the parts of a choose node
pub opened_chain : (goods : List (List ℕ)) (d : TreeDraft) (path : Path) (value : Data) (interval : Interval) (lo hi : ℤ) (items : Items) → of_member path value (codes "choose") interval_at ≡ Ok interval
    → of_member path value (codes "lo") value_at ≡ Ok lo → of_member path value (codes "hi") value_at ≡ Ok hi → of_member path value (codes "of") array_of ≡ Ok items
    → opened_below goods d path value ≡ (make goods (levels_below d) (innermost d.opened) path (made_so_far d) (Choose interval.least interval.most) lo hi >>= λ made. Ok (record { interval = interval; items = items; made = made }))
opened_chain goods d path value interval lo hi items chosen low high children = rw (chosen, low, high, children)
