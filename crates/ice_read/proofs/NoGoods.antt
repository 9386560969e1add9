-- Where there is no good, no tree can be read.
use Rattle.std.proofs.Common.{◌≡◌, ℕ, zero, suc, ◌<◌, Bool, true, false, List, [], ◌∷◌, length, map, refl, sym, ap, ◌∙◌, arith}
use Rattle.std.specs.Prelude.{Ok, Err, codes}
use Rattle.ice_defs.specs.declared.NodeKind.{NodeKind}
use Rattle.ice_defs.specs.declared.NodeKind.TheVariants.{Buy, Sell}
use Rattle.ice_defs.specs.Exchange.{Good}
use Rattle.ice_defs.specs.FileFault.{Path, Read, refuse, ◌>>=◌}
use Rattle.serde_json.specs.Data.{Data, Items, no_items, item}
use Rattle.serde_json.specs.Events.{items_len}
use Rattle.ice_read.specs.Values.{at_member, at_index, member_or_null, text_of}
use Rattle.ice_read.specs.TreeFile.{Draft, Opened, leaf_at, opened_at, children_at, closed_at, choose_at, is_buy, is_sell, is_choose, no_child, node_of, node_at}
use Rattle.ice_read.proofs.NodesAdded.{step}

leaf_none : (levels parent : ℕ) (path : Path) (draft new : Draft) (word : List ℕ) (kind : ℕ → ℕ → NodeKind) (d : Data) → leaf_at [] levels parent path draft word kind d ≡ Ok new → ⊥
leaf_none levels parent path draft new word kind d e = by_text (text_of (at_member path word) (member_or_null word d)) refl
  where
    by_text : (read : Read (List ℕ)) → text_of (at_member path word) (member_or_null word d) ≡ read → ⊥
    by_text (Err fault) is = let refused : leaf_at [] levels parent path draft word kind d ≡ Err fault = rw is in cc
    by_text (Ok name) is = let refused : leaf_at [] levels parent path draft word kind d ≡ refuse 5 (at_member path word) = rw is in cc

choose_none : (levels parent : ℕ) (path : Path) (draft new : Draft) (read_child : ℕ → Path → Draft → Data → Read Draft) (d : Data) → ((parent : ℕ) (path : Path) (draft new : Draft) (d : Data) → read_child parent path draft d ≡ Ok new → ⊥)
    → choose_at [] levels parent path draft read_child d ≡ Ok new → ⊥
choose_none levels parent path draft new read_child d none e =
    let opened = step (opened_at [] levels parent path draft d) (λ o. children_at (read_child (length draft.tree)) (at_member path (codes "of")) 0 o.items o.made >>= λ full. closed_at path o.interval (items_len o.items) full) new e in
    by_items opened.0 opened.0.items refl opened.2
  where
    by_items : (o : Opened) (items : Items) → o.items ≡ items → (children_at (read_child (length draft.tree)) (at_member path (codes "of")) 0 o.items o.made >>= λ full. closed_at path o.interval (items_len o.items) full) ≡ Ok new → ⊥
    by_items o no_items is read =
        let refused : (children_at (read_child (length draft.tree)) (at_member path (codes "of")) 0 o.items o.made >>= λ full. closed_at path o.interval (items_len o.items) full) ≡ refuse 20 path = rw is in
        cc
    by_items o (item child rest) is read =
        let children = step (children_at (read_child (length draft.tree)) (at_member path (codes "of")) 0 o.items o.made) (λ full. closed_at path o.interval (items_len o.items) full) new read in
        let read_first : children_at (read_child (length draft.tree)) (at_member path (codes "of")) 0 (item child rest) o.made ≡ Ok children.0 = ap (λ xs. children_at (read_child (length draft.tree)) (at_member path (codes "of")) 0 xs o.made) (sym is) ∙ children.1 in
        let first = step (read_child (length draft.tree) (at_index (at_member path (codes "of")) 0) o.made child) (λ after. children_at (read_child (length draft.tree)) (at_member path (codes "of")) 1 rest after) children.0 read_first in
        none (length draft.tree) (at_index (at_member path (codes "of")) 0) o.made first.0 child first.1

node_of_none : (levels : ℕ) (read_child : ℕ → Path → Draft → Data → Read Draft) → ((parent : ℕ) (path : Path) (draft new : Draft) (d : Data) → read_child parent path draft d ≡ Ok new → ⊥)
    → (parent : ℕ) (path : Path) (draft new : Draft) (d : Data) → node_of [] levels read_child parent path draft d ≡ Ok new → ⊥
node_of_none levels read_child none parent path draft new d e = by_buy (is_buy d) refl
  where
    by_choose : (b : Bool) → is_buy d ≡ false → is_sell d ≡ false → is_choose d ≡ b → ⊥
    by_choose true no_buy no_sell is =
        let reads : node_of [] levels read_child parent path draft d ≡ choose_at [] levels parent path draft read_child d = rw (no_buy, no_sell, is) in
        choose_none levels parent path draft new read_child d none (sym reads ∙ e)
    by_choose false no_buy no_sell is = let refused : node_of [] levels read_child parent path draft d ≡ refuse 2 path = rw (no_buy, no_sell, is) in cc

    by_sell : (b : Bool) → is_buy d ≡ false → is_sell d ≡ b → ⊥
    by_sell true no_buy is =
        let reads : node_of [] levels read_child parent path draft d ≡ leaf_at [] levels parent path draft (codes "sell") Sell d = rw (no_buy, is) in
        leaf_none levels parent path draft new (codes "sell") Sell d (sym reads ∙ e)
    by_sell false no_buy is = by_choose (is_choose d) no_buy is refl

    by_buy : (b : Bool) → is_buy d ≡ b → ⊥
    by_buy true is =
        let reads : node_of [] levels read_child parent path draft d ≡ leaf_at [] levels parent path draft (codes "buy") Buy d = rw is in
        leaf_none levels parent path draft new (codes "buy") Buy d (sym reads ∙ e)
    by_buy false is = by_sell (is_sell d) is refl

node_at_none : (levels parent : ℕ) (path : Path) (draft new : Draft) (d : Data) → node_at [] levels parent path draft d ≡ Ok new → ⊥
node_at_none zero = node_of_none 0 no_child (λ parent path draft new d e. cc)
node_at_none (suc levels) = node_of_none (suc levels) (node_at [] levels) (node_at_none levels)

-- a tree that is read has a good
pub some_good : (goods : List Good) (levels parent : ℕ) (path : Path) (draft new : Draft) (d : Data) → node_at (map (λ good. good.name) goods) levels parent path draft d ≡ Ok new → 0 < length goods
some_good [] levels parent path draft new d e = absurd (node_at_none levels parent path draft new d e)
some_good (good ∷ goods) levels parent path draft new d e = omega arith
