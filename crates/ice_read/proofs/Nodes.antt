-- How a node is read: by its form, and a choose node child by child.
use Rattle.std.proofs.Common.{◌≡◌, ℕ, zero, suc, ◌+◌, ◌-◌, ◌<◌, ◌≤◌, true, false, nat_eq, nat_lt, List, ◌∷◌, length, drop, get_or, refl, sym, ap, ◌∙◌, arith, add-one, drop-cons}
use Rattle.std.specs.Prelude.{Some, None, Ok, Err, codes}
use Rattle.std.proofs.lemmas.Bool.Decides.{nat_tests}
use Rattle.std.proofs.lemmas.List.{drop_all}
use Rattle.std.proofs.lemmas.Bool.{and_right}
use Rattle.ice_defs.specs.declared.NodeKind.TheVariants.{Choose}
use Rattle.ice_defs.specs.Tree.{kind_of, children_of}
use Rattle.ice_defs.specs.Making.{TreeDraft, innermost, close_refusal}
use Rattle.ice_defs.specs.FileFault.{FileFault, Path, Read, refuse, ◌>>=◌}
use Rattle.ice_tree.specs.Making.{draft_close_refusal}
use Rattle.serde_json.specs.Data.{Data, Items}
use Rattle.serde_json.specs.Events.{items_len}
use Rattle.serde_json.specs.View.{view, items_view}
use Rattle.serde_json.specs.declared.value.Value.{Value}
use Rattle.ice_read.specs.declared.leaf.Side.TheVariants.{Buy, Sell}
use Rattle.ice_read.specs.Values.{at_member, at_index}
use Rattle.ice_read.specs.TreeFile.{Draft, Interval, Opened, children_at, closed_at, choose_at, is_buy, is_sell, is_choose, no_child, node_of, node_at}
use Rattle.ice_read.specs.Reading.{made_so_far, levels_below, leaf_below, opened_below, node_below, IsWaiting}
use Rattle.ice_read.proofs.Pairs.{items_len-items_view}
use Rattle.ice_read.proofs.NodesAdded.{IsHeld, AreAdded, IsOpened, opened-made, node_at-added, one_added, one_more, none_added, grown, opened_kind, no_child_yet}

-- how the children of a node are read
abbrev pub below : List (List ℕ) → ℕ → ℕ → Path → Draft → Data → Read Draft
below goods zero = no_child
below goods (suc levels) = node_at goods levels

node_at-any : (goods : List (List ℕ)) (levels parent : ℕ) (path : Path) (draft : Draft) (value : Data) → node_at goods levels parent path draft value ≡ node_of goods levels (below goods levels) parent path draft value
node_at-any goods zero parent path draft value = refl
node_at-any goods (suc levels) parent path draft value = refl

module _ (goods : List (List ℕ)) (d : TreeDraft) (path : Path) (value : Data) where
  any : node_below goods d path value ≡ node_of goods (levels_below d) (below goods (levels_below d)) (innermost d.opened) path (made_so_far d) value
  any = node_at-any goods (levels_below d) (innermost d.opened) path (made_so_far d) value

  pub buys : true ≡ is_buy value → node_below goods d path value ≡ leaf_below goods d Buy path value
  buys buy = any ∙ rw (← buy)

  pub sells : false ≡ is_buy value → true ≡ is_sell value → node_below goods d path value ≡ leaf_below goods d Sell path value
  sells buy sell = any ∙ rw (← buy, ← sell)

  pub has_no_form : false ≡ is_buy value → false ≡ is_sell value → false ≡ is_choose value → node_below goods d path value ≡ refuse 2 path
  has_no_form buy sell choose = any ∙ rw (← buy, ← sell, ← choose)

  chooses : false ≡ is_buy value → false ≡ is_sell value → true ≡ is_choose value → node_below goods d path value ≡ choose_at goods (levels_below d) (innermost d.opened) path (made_so_far d) (below goods (levels_below d)) value
  chooses buy sell choose = any ∙ rw (← buy, ← sell, ← choose)

  pub not_opened : false ≡ is_buy value → false ≡ is_sell value → true ≡ is_choose value → (fault : FileFault) → opened_below goods d path value ≡ Err fault → node_below goods d path value ≡ Err fault
  not_opened buy sell choose fault e = chooses buy sell choose ∙ rw e

  pub opened : false ≡ is_buy value → false ≡ is_sell value → true ≡ is_choose value → (o : Opened) (levels : ℕ) → opened_below goods d path value ≡ Ok o → levels_below d ≡ suc levels
      → node_below goods d path value ≡ (children_at (node_at goods levels (length d.tree)) (at_member path (codes "of")) 0 o.items o.made >>= λ full. closed_at path o.interval (items_len o.items) full)
  opened buy sell choose o levels e deep =
      chooses buy sell choose ∙ rw e (ap (λ l. children_at (below goods l (length d.tree)) (at_member path (codes "of")) 0 o.items o.made >>= λ full. closed_at path o.interval (items_len o.items) full) deep)

-- ---- children, one after another

module _ (read_child : Path → Draft → Data → Read Draft) (path : Path) (vs : List Value) (i : ℕ) (draft : Draft) where
  pub next_child : (v : Value) (after : Draft) → i < length vs → get_or vs i v ≡ v → read_child (at_index path i) draft (view v) ≡ Ok after
      → children_at read_child path i (items_view (drop i vs)) draft ≡ children_at read_child path (i + 1) (items_view (drop (i + 1) vs)) after
  next_child v after h e read = rw (drop-cons vs i v h, e, add-one i, read)

  pub bad_child : (v : Value) (fault : FileFault) → i < length vs → get_or vs i v ≡ v → read_child (at_index path i) draft (view v) ≡ Err fault → children_at read_child path i (items_view (drop i vs)) draft ≡ Err fault
  bad_child v fault h e read = rw (drop-cons vs i v h, e, read)

  pub no_more_child : length vs ≤ i → children_at read_child path i (items_view (drop i vs)) draft ≡ Ok draft
  no_more_child h = rw (drop_all i vs h)

-- ---- closing

some : (n : ℕ) → nat_eq (suc n) 0 ≡ false
some n = grind (arith, nat_tests)

pub closing : (d : TreeDraft) (number : ℕ) (outer : List ℕ) (interval : Interval) (count : ℕ) → d.opened ≡ number ∷ outer → kind_of d.tree number ≡ Choose interval.least interval.most → length (children_of d.tree number) ≡ count
    → draft_close_refusal d ≡ close_refusal interval.least interval.most count
closing d number outer interval count is kind children = rw (is, some (length outer), kind, children)

pub closed : (path : Path) (interval : Interval) (count : ℕ) (full : Draft) → close_refusal interval.least interval.most count ≡ None → closed_at path interval count full ≡ Ok full
closed path interval count full e = rw e

pub not_closed : (path : Path) (interval : Interval) (count number : ℕ) (full : Draft) → close_refusal interval.least interval.most count ≡ Some number → closed_at path interval count full ≡ refuse number path
not_closed path interval count number full e = rw e

-- ---- a choose node that was opened, with so many children

-- the tree as it was, the tree with the node, and the tree with some of its children
pub record IsGoing (old made now : TreeDraft) (count : ℕ) : Type 0 where
  pub opened : now.opened ≡ length old.tree ∷ old.opened
  pub levels : levels_below old ≡ suc (levels_below made)
  pub deep : length now.opened ≤ 16
  pub there : length old.tree < length made.tree
  pub few : length made.tree ≤ 200
  pub none_yet : length (children_of made.tree (length old.tree)) ≡ 0
  pub added : AreAdded (length old.tree) count made.tree now.tree

held : (d : TreeDraft) → IsWaiting d → IsHeld d.tree (innermost d.opened)
held d w = record { under = w.under; childless = w.childless }

pub begun : (goods : List (List ℕ)) (old made : TreeDraft) (interval : Interval) (items : Items) (path : Path) (value : Data) → IsWaiting old → opened_below goods old path value ≡ Ok (record { interval = interval; items = items; made = made_so_far made })
    → made.opened ≡ length old.tree ∷ old.opened → length made.opened ≤ 16 → IsGoing old made made 0
begun goods old made interval items path value waiting e opened deep =
    let o : IsOpened (innermost old.opened) (made_so_far old) (levels_below old) (record { interval = interval; items = items; made = made_so_far made }) = opened-made goods (levels_below old) (innermost old.opened) path (made_so_far old) value _ e in
    let h = held old waiting in
    let kind = Choose interval.least interval.most in
    let one = one_added old.tree kind (innermost old.opened) h o.made.room in
    let is : made.tree ≡ grown old.tree kind (innermost old.opened) h = ap (λ (m : Draft). m.tree) o.made.is in
    let count : length made.opened ≡ suc (length old.opened) = rw opened refl in
    record {
      opened = opened;
      levels = omega (arith, waiting.deep);
      deep = deep;
      there = rw is (omega (arith, one.longer));
      few = rw is (one.few (omega (arith, o.made.room)));
      none_yet = rw is (ap length (no_child_yet old.tree kind (innermost old.opened) h));
      added = rw is (none_added (length old.tree) (grown old.tree kind (innermost old.opened) h) one.childless);
    }

pub waiting_child : (old made now : TreeDraft) (count : ℕ) → IsGoing old made now count → IsWaiting now
waiting_child old made now count g = record {
  going = rw (g.opened, some (length old.opened)) (and_right (nat_lt 0 (length now.tree)) false refl);
  deep = g.deep;
  under = λ l. rw g.opened (omega (arith, g.there, g.added.longer));
  childless = g.added.childless;
}

-- one child more
pub with_child : (goods : List (List ℕ)) (old made now after : TreeDraft) (count : ℕ) (path : Path) (value : Data) → IsGoing old made now count → after.opened ≡ now.opened → node_below goods now path value ≡ Ok (made_so_far after)
    → IsGoing old made after (count + 1)
with_child goods old made now after count path value g same read =
    let waiting = waiting_child old made now count g in
    let under : IsHeld now.tree (length old.tree) = record { under = λ l. omega (arith, g.there, g.added.longer); childless = g.added.childless } in
    let is : node_at goods (levels_below now) (length old.tree) path (made_so_far now) value ≡ Ok (made_so_far after) = ap (λ opened. node_at goods (levels_below now) (innermost opened) path (made_so_far now) value) (sym g.opened) ∙ read in
    let one = node_at-added goods (levels_below now) (length old.tree) path (made_so_far now) (made_so_far after) value under is in
    record {
      opened = same ∙ g.opened;
      levels = g.levels;
      deep = rw same g.deep;
      there = g.there;
      few = g.few;
      none_yet = g.none_yet;
      added = one_more (length old.tree) count made.tree now.tree after.tree g.there g.added one;
    }

pub close_due : (old made now : TreeDraft) (interval : Interval) (count : ℕ) → IsGoing old made now count → kind_of made.tree (length old.tree) ≡ Choose interval.least interval.most
    → draft_close_refusal now ≡ close_refusal interval.least interval.most count
close_due old made now interval count g kind =
    closing now (length old.tree) old.opened interval count g.opened (g.added.kinds (length old.tree) g.there ∙ kind) (omega (arith, g.added.own g.there, g.none_yet))

pub kind_opened : (goods : List (List ℕ)) (old made : TreeDraft) (interval : Interval) (items : Items) (path : Path) (value : Data) → IsWaiting old → opened_below goods old path value ≡ Ok (record { interval = interval; items = items; made = made_so_far made })
    → kind_of made.tree (length old.tree) ≡ Choose interval.least interval.most
kind_opened goods old made interval items path value waiting e =
    let o : IsOpened (innermost old.opened) (made_so_far old) (levels_below old) (record { interval = interval; items = items; made = made_so_far made }) = opened-made goods (levels_below old) (innermost old.opened) path (made_so_far old) value _ e in
    let h = held old waiting in
    let kind = Choose interval.least interval.most in
    let is : made.tree ≡ grown old.tree kind (innermost old.opened) h = ap (λ (m : Draft). m.tree) o.made.is in
    rw is (opened_kind old.tree kind (innermost old.opened) h)

module _ (goods : List (List ℕ)) (old made now : TreeDraft) (interval : Interval) (vs : List Value) (path : Path) (value : Data) (buy : false ≡ is_buy value) (sell : false ≡ is_sell value) (choose : true ≡ is_choose value)
    (start : opened_below goods old path value ≡ Ok (record { interval = interval; items = items_view vs; made = made_so_far made })) where
  abbrev children : Read Draft
  children = children_at (node_at goods (levels_below made) (length old.tree)) (at_member path (codes "of")) 0 (items_view vs) (made_so_far made)

  chain : levels_below old ≡ suc (levels_below made) → node_below goods old path value ≡ (children >>= λ full. closed_at path interval (items_len (items_view vs)) full)
  chain levels = opened goods old path value buy sell choose _ (levels_below made) start levels

  -- a child is refused
  pub stopped : (count : ℕ) → IsGoing old made now count → (fault : FileFault) → children_at (node_at goods (levels_below made) (length old.tree)) (at_member path (codes "of")) 0 (items_view vs) (made_so_far made) ≡ Err fault
      → node_below goods old path value ≡ Err fault
  stopped count g fault e = chain g.levels ∙ rw e

  due : IsWaiting old → IsGoing old made now (length vs) → draft_close_refusal now ≡ close_refusal interval.least interval.most (items_len (items_view vs))
  due waiting g = close_due old made now interval (length vs) g (kind_opened goods old made interval (items_view vs) path value waiting start) ∙ ap (close_refusal interval.least interval.most) (sym (items_len-items_view vs))

  -- the node is closed
  pub finished : IsWaiting old → IsGoing old made now (length vs) → children_at (node_at goods (levels_below made) (length old.tree)) (at_member path (codes "of")) 0 (items_view vs) (made_so_far made) ≡ Ok (made_so_far now) → draft_close_refusal now ≡ None
      → node_below goods old path value ≡ Ok (made_so_far now)
  finished waiting g e none = chain g.levels ∙ rw e (closed path interval (items_len (items_view vs)) (made_so_far now) (sym (due waiting g) ∙ none))

  -- its close is refused
  pub not_finished : IsWaiting old → IsGoing old made now (length vs) → children_at (node_at goods (levels_below made) (length old.tree)) (at_member path (codes "of")) 0 (items_view vs) (made_so_far made) ≡ Ok (made_so_far now) → (number : ℕ)
      → draft_close_refusal now ≡ Some number → node_below goods old path value ≡ refuse number path
  not_finished waiting g e number some = chain g.levels ∙ rw e (not_closed path interval (items_len (items_view vs)) number (made_so_far now) (sym (due waiting g) ∙ some))

-- how a child of the node is read
pub child_read : (goods : List (List ℕ)) (old made now : TreeDraft) (count : ℕ) → IsGoing old made now count → made.opened ≡ length old.tree ∷ old.opened → (path : Path) (value : Data)
    → node_at goods (levels_below made) (length old.tree) path (made_so_far now) value ≡ node_below goods now path value
child_read goods old made now count g opened path value =
    ap (λ o. node_at goods (16 - length o) (length old.tree) path (made_so_far now) value) opened ∙ ap (λ o. node_at goods (16 - length o) (innermost o) path (made_so_far now) value) (sym g.opened)

pub same_levels : (old made now : TreeDraft) (count : ℕ) → IsGoing old made now count → made.opened ≡ length old.tree ∷ old.opened → levels_below now ≡ levels_below made
same_levels old made now count g opened = ap (λ o. 16 - length o) (g.opened ∙ sym opened)
