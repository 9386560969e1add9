-- A whole tree.
use Rattle.std.proofs.Common.{◌≡◌, ℕ, true, List, [], length, nat_eq, nat_lt, refl, arith, max, subst, map}
use Rattle.std.specs.Prelude.{Ok}
use Rattle.std.proofs.lemmas.Bool.Decides.{nat_tests}
use Rattle.ice_defs.specs.Exchange.{Good}
use Rattle.ice_defs.specs.Tree.{Tree}
use Rattle.ice_defs.specs.Lawful.{IsLimitedTree}
use Rattle.ice_defs.specs.Making.{TreeDraft, no_tree, is_complete}
use Rattle.ice_defs.specs.FileFault.{Path}
use Rattle.serde_json.specs.Data.{Data}
use Rattle.ice_read.specs.TreeFile.{no_draft, tree_at}
use Rattle.ice_read.specs.Reading.{made_so_far, node_below}
use Rattle.ice_read.proofs.NodesAdded.{AreAdded, node_at-added}
use Rattle.ice_read.proofs.NoGoods.{some_good}

pub tree_at-node : (goods : List (List ℕ)) (path : Path) (d : Data) → tree_at goods path d ≡ node_below goods no_tree path d
unfolding tree_at
tree_at-node goods path d = refl

-- a tree that was read is complete
pub complete : (goods : List (List ℕ)) (path : Path) (d : Data) (new : TreeDraft) → node_below goods no_tree path d ≡ Ok (made_so_far new) → new.opened ≡ [] → is_complete new ≡ true
complete goods path d new e closed =
    let added : AreAdded 0 1 [] new.tree = node_at-added goods 16 0 path no_draft (made_so_far new) d (record { under = λ l. absurd (omega arith); childless = λ n l. refl }) e in
    let some : nat_lt 0 (length new.tree) ≡ true = grind (arith, nat_tests, added.longer) in
    let none : nat_eq (length new.opened) 0 ≡ true = rw closed refl in
    rw (some, none)

pub limited : (goods : List Good) (path : Path) (d : Data) (new : TreeDraft) (count : ℕ) (t : Tree) → node_below (map (λ good. good.name) goods) no_tree path d ≡ Ok (made_so_far new) → count ≡ max 1 (length goods) → IsLimitedTree count t → IsLimitedTree (length goods) t
limited goods path d new count t e counts lawful =
    let some = some_good goods 16 0 path no_draft (made_so_far new) d e in
    let same : count ≡ length goods = omega arith in
    subst (λ n. IsLimitedTree n t) same lawful
