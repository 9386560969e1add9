-- What reading a node and its children adds to a tree.
use Rattle.std.proofs.Common.{◌≡◌, ◌≢◌, ℕ, zero, suc, ◌+◌, ◌-◌, ◌<◌, ◌≤◌, Bool, true, false, cond, ltb, eqb, List, [], ◌∷◌, ◌++◌, length, refl, sym, ap, subst, ◌∙◌, arith, length-append, append-nil, add-zero}
use Rattle.std.specs.Prelude.{ℤ, pos, codes, Option, Some, None, Ok, Err, ◌&&◌, nat_le, nat_lt}
use Rattle.std.proofs.lemmas.Bool.Decides.{nat_tests}
use Rattle.ice_defs.specs.declared.Node.{Node}
use Rattle.ice_defs.specs.declared.NodeKind.{NodeKind}
use Rattle.ice_defs.specs.declared.NodeKind.TheVariants.{Choose, Buy, Sell}
use Rattle.ice_defs.specs.Tree.{Tree, kind_of, children_of}
use Rattle.ice_defs.specs.Making.{close_refusal, node_refusal}
use Rattle.ice_defs.specs.FileFault.{Path, Read, refuse, ◌>>=◌}
use Rattle.ice_tree.proofs.MoreNodes.{old_node, last_node, children_of-new, children_of-other}
use Rattle.serde_json.specs.Data.{Data, Items, no_items, item}
use Rattle.serde_json.specs.Events.{items_len}
use Rattle.ice_read.specs.Values.{at_index, at_member, of_member, array_of, whole_of, natural}
use Rattle.ice_read.specs.TreeFile.{Draft, with_node, Interval, Opened, good_at, value_at, interval_at, make, leaf_at, opened_at, children_at, closed_at, choose_at, is_buy, is_sell, is_choose, no_child, node_of, node_at}

-- a tree in which no node is told to be under one that isn't there, and a parent that is there
pub record IsHeld (t : Tree) (parent : ℕ) : Type 0 where
  pub under : 0 < length t → parent < length t
  pub childless : (n : ℕ) → length t ≤ n → children_of t n ≡ []

-- so many nodes more under one of the nodes, with what is below them
pub record AreAdded (parent count : ℕ) (old new : Tree) : Type 0 where
  pub longer : length old + count ≤ length new
  pub few : length old ≤ 200 → length new ≤ 200
  pub childless : (n : ℕ) → length new ≤ n → children_of new n ≡ []
  pub kinds : (n : ℕ) → n < length old → kind_of new n ≡ kind_of old n
  pub own : parent < length old → length (children_of new parent) ≡ length (children_of old parent) + count
  pub others : (n : ℕ) → n < length old → n ≢ parent → length (children_of new n) ≡ length (children_of old n)

-- a node at the end
module _ (t : Tree) (kind : NodeKind) (parent : ℕ) (held : IsHeld t parent) where
  abbrev added : Node
  added = record { kind = kind; parent = parent }

  abbrev pub grown : Tree
  grown = t ++ record { kind = kind; parent = parent } ∷ []

  size : length grown ≡ length t + 1
  size = length-append t (added ∷ [])

  past : (n : ℕ) → length grown ≤ n → children_of grown n ≡ []
  past n l =
      children_of-new t added n
      ∙ ap (λ b. children_of t n ++ cond b (length t ∷ []) []) (none (length t) refl)
      ∙ append-nil (children_of t n) ∙ held.childless n (omega (arith, size))
    where
      none : (m : ℕ) → length t ≡ m → (ltb 0 (length t) && eqb parent n) ≡ false
      none zero e = rw e
      none (suc m) e = let there : parent < length t = held.under (omega arith) in grind (arith, nat_tests, size)

  own_child : parent < length t → length (children_of grown parent) ≡ length (children_of t parent) + 1
  own_child there =
      let here : (ltb 0 (length t) && eqb parent parent) ≡ true = grind (arith, nat_tests) in
      ap length (children_of-new t added parent ∙ ap (λ b. children_of t parent ++ cond b (length t ∷ []) []) here) ∙ length-append (children_of t parent) (length t ∷ [])

  pub one_added : length t < 200 → AreAdded parent 1 t grown
  one_added room = record {
    longer = omega (arith, size);
    few = λ _. omega (arith, size);
    childless = past;
    kinds = λ n l. ap (λ (x : Node). x.kind) (old_node t added n l);
    own = own_child;
    others = λ n l other. ap length (children_of-other t added n (λ e. other (sym e)));
  }

  pub opened_kind : kind_of grown (length t) ≡ kind
  opened_kind = ap (λ (x : Node). x.kind) (last_node t added)

  pub no_child_yet : children_of grown (length t) ≡ []
  no_child_yet =
      children_of-new t added (length t)
      ∙ ap (λ b. children_of t (length t) ++ cond b (length t ∷ []) []) (none (length t) refl)
      ∙ append-nil (children_of t (length t)) ∙ held.childless (length t) (omega arith)
    where
      none : (m : ℕ) → length t ≡ m → (ltb 0 (length t) && eqb parent (length t)) ≡ false
      none zero e = rw e
      none (suc m) e = let there : parent < length t = held.under (omega arith) in grind (arith, nat_tests)

-- one node with what is below it
pub node_added : (t : Tree) (kind : NodeKind) (parent count : ℕ) (full : Tree) (held : IsHeld t parent) → length t < 200 → AreAdded (length t) count (grown t kind parent held) full → AreAdded parent 1 t full
node_added t kind parent count full held room below =
    let one = one_added t kind parent held room in
    record {
      longer = omega (arith, one.longer, below.longer);
      few = λ l. below.few (one.few l);
      childless = below.childless;
      kinds = λ n l. below.kinds n (omega (arith, one.longer)) ∙ one.kinds n l;
      own = λ l. below.others parent (omega (arith, one.longer)) (omega arith) ∙ one.own l;
      others = λ n l other. below.others n (omega (arith, one.longer)) (omega arith) ∙ one.others n l other;
    }

pub none_added : (parent : ℕ) (t : Tree) → ((n : ℕ) → length t ≤ n → children_of t n ≡ []) → AreAdded parent 0 t t
none_added parent t childless = record { longer = omega arith; few = λ l. l; childless = childless; kinds = λ n l. refl; own = λ l. omega arith; others = λ n l other. refl }

-- one more child after those that were added
pub one_more : (parent count : ℕ) (old new more : Tree) → parent < length old → AreAdded parent count old new → AreAdded parent 1 new more → AreAdded parent (count + 1) old more
one_more parent count old new more there before next = record {
  longer = omega (arith, before.longer, next.longer);
  few = λ l. next.few (before.few l);
  childless = next.childless;
  kinds = λ n l. next.kinds n (omega (arith, before.longer)) ∙ before.kinds n l;
  own = λ l. omega (arith, before.own l, next.own (omega (arith, before.longer)));
  others = λ n l other. next.others n (omega (arith, before.longer)) other ∙ before.others n l other;
}

-- a node that is made
pub record IsMade (parent : ℕ) (draft : Draft) (kind : NodeKind) (lo hi : ℤ) (levels : ℕ) (new : Draft) : Type 0 where
  pub is : new ≡ with_node draft kind parent lo hi
  pub room : length draft.tree < 200
  pub deep : 0 < levels

allowed : (goods nodes depth : ℕ) (kind : NodeKind) (lo hi : ℤ) → node_refusal goods nodes depth kind lo hi ≡ None → (nodes < 200) × (depth ≤ 16)
allowed goods nodes depth kind lo hi e = by_count (nat_le 200 nodes) refl
  where
    by_depth : nodes < 200 → (deep : Bool) → nat_lt 16 depth ≡ deep → nat_le 200 nodes ≡ false → (nodes < 200) × (depth ≤ 16)
    by_depth room true is count = let refused : node_refusal goods nodes depth kind lo hi ≡ Some 24 = rw (count, is) in cc
    by_depth room false is count = (room, grind (arith, nat_tests))

    by_count : (full : Bool) → nat_le 200 nodes ≡ full → (nodes < 200) × (depth ≤ 16)
    by_count true is = let refused : node_refusal goods nodes depth kind lo hi ≡ Some 23 = rw is in cc
    by_count false is = by_depth (grind (arith, nat_tests)) (nat_lt 16 depth) refl is

pub make-made : (goods : List (List ℕ)) (levels parent : ℕ) (path : Path) (draft new : Draft) (kind : NodeKind) (lo hi : ℤ) → make goods levels parent path draft kind lo hi ≡ Ok new
    → IsMade parent draft kind lo hi levels new
make-made goods levels parent path draft new kind lo hi e = by_due (node_refusal (length goods) (length draft.tree) (17 - levels) kind lo hi) refl
  where
    by_due : (due : Option ℕ) → node_refusal (length goods) (length draft.tree) (17 - levels) kind lo hi ≡ due → IsMade parent draft kind lo hi levels new
    by_due (Some number) is = let refused : make goods levels parent path draft kind lo hi ≡ refuse number path = rw is in cc
    by_due None is =
        let is_made : make goods levels parent path draft kind lo hi ≡ Ok (with_node draft kind parent lo hi) = rw is in
        let room = allowed (length goods) (length draft.tree) (17 - levels) kind lo hi is in
        record { is = cc; room = room.0; deep = omega (arith, room.1) }

-- a step of a chain
pub step : {A B : Type 0} (m : Read A) (next : A → Read B) (y : B) → (m >>= next) ≡ Ok y → (x : A) × (m ≡ Ok x) × (next x ≡ Ok y)
step (Ok x) next y e = (x, refl, e)
step (Err fault) next y e = cc

-- children that are read one after another
children-added : (read_child : Path → Draft → Data → Read Draft) (parent : ℕ) → ((path : Path) (draft new : Draft) (d : Data) → IsHeld draft.tree parent → read_child path draft d ≡ Ok new → AreAdded parent 1 draft.tree new.tree)
    → (items : Items) (path : Path) (i count : ℕ) (old draft full : Draft) → parent < length old.tree → AreAdded parent count old.tree draft.tree → children_at read_child path i items draft ≡ Ok full
    → AreAdded parent (count + items_len items) old.tree full.tree
children-added read_child parent each no_items path i count old draft full there before e = let same : draft ≡ full = cc in subst (λ (d : Draft). AreAdded parent (count + 0) old.tree d.tree) same (rw (add-zero count) before)
children-added read_child parent each (item d rest) path i count old draft full there before e =
    let next = step (read_child (at_index path i) draft d) (λ after. children_at read_child path (suc i) rest after) full e in
    let held : IsHeld draft.tree parent = record { under = λ l. omega (arith, before.longer); childless = before.childless } in
    let one = one_more parent count old.tree draft.tree next.0.tree there before (each (at_index path i) draft next.0 d held next.1) in
    let counts : count + suc (items_len rest) ≡ count + 1 + items_len rest = omega arith in
    rw counts (children-added read_child parent each rest path (suc i) (count + 1) old next.0 full there one next.2)

-- what four steps that are read give to the last one
pub record AreRead {A B C D E : Type 0} (last : A → B → C → D → Read E) (a : Read A) (b : Read B) (c : Read C) (d : Read D) (result : Read E) : Type 0 where
  pub first : A
  pub second : B
  pub third : C
  pub fourth : D
  pub end : last first second third fourth ≡ result

four : {A B C D E : Type 0} (a : Read A) (b : Read B) (c : Read C) (d : Read D) (last : A → B → C → D → Read E) (y : E) → (a >>= λ w. b >>= λ x. c >>= λ y. d >>= λ z. last w x y z) ≡ Ok y → AreRead last a b c d (Ok y)
four (Err fault) b c d last y e = cc
four (Ok w) (Err fault) c d last y e = cc
four (Ok w) (Ok x) (Err fault) d last y e = cc
four (Ok w) (Ok x) (Ok y) (Err fault) last z e = cc
four (Ok w) (Ok x) (Ok y) (Ok z) last v e = record { first = w; second = x; third = y; fourth = z; end = e }

leaf-added : (goods : List (List ℕ)) (levels parent : ℕ) (path : Path) (draft new : Draft) (word : List ℕ) (kind : ℕ → ℕ → NodeKind) (d : Data) → IsHeld draft.tree parent → leaf_at goods levels parent path draft word kind d ≡ Ok new
    → AreAdded parent 1 draft.tree new.tree
leaf-added goods levels parent path draft new word kind d held e =
    let read = four (of_member path d word (good_at goods)) (of_member path d (codes "units") (λ p. whole_of p (pos 1) (pos 1000))) (of_member path d (codes "lo") value_at) (of_member path d (codes "hi") value_at)
    (λ good units lo hi. make goods levels parent path draft (kind good (natural units)) lo hi) new e in
    let made = make-made goods levels parent path draft new (kind read.first (natural read.second)) read.third read.fourth read.end in
    rw made.is (one_added draft.tree (kind read.first (natural read.second)) parent held made.room)

-- what opening a choose node makes
pub record IsOpened (parent : ℕ) (draft : Draft) (levels : ℕ) (o : Opened) : Type 0 where
  pub lo : ℤ
  pub hi : ℤ
  pub made : IsMade parent draft (Choose o.interval.least o.interval.most) lo hi levels o.made

pub opened-made : (goods : List (List ℕ)) (levels parent : ℕ) (path : Path) (draft : Draft) (d : Data) (o : Opened) → opened_at goods levels parent path draft d ≡ Ok o → IsOpened parent draft levels o
opened-made goods levels parent path draft d o e =
    let read = four (of_member path d (codes "choose") interval_at) (of_member path d (codes "lo") value_at) (of_member path d (codes "hi") value_at) (of_member path d (codes "of") array_of)
    (λ interval lo hi items. make goods levels parent path draft (Choose interval.least interval.most) lo hi >>= λ made. Ok (record { interval = interval; items = items; made = made })) o e in
    let made = step (make goods levels parent path draft (Choose read.first.least read.first.most) read.second read.third) (λ made. Ok (record { interval = read.first; items = read.fourth; made = made })) o read.end in
    let is : record { interval = read.first; items = read.fourth; made = made.0 } ≡ o = cc in
    subst (IsOpened parent draft levels) is (record { lo = read.second; hi = read.third; made = make-made goods levels parent path draft made.0 (Choose read.first.least read.first.most) read.second read.third made.1 })

closed-same : (path : Path) (interval : Interval) (count : ℕ) (draft new : Draft) → closed_at path interval count draft ≡ Ok new → draft ≡ new
closed-same path interval count draft new e = by_due (close_refusal interval.least interval.most count) refl
  where
    by_due : (due : Option ℕ) → close_refusal interval.least interval.most count ≡ due → draft ≡ new
    by_due (Some number) is = let refused : closed_at path interval count draft ≡ refuse number path = rw is in cc
    by_due None is = let same : closed_at path interval count draft ≡ Ok draft = rw is in cc

choose-added : (goods : List (List ℕ)) (levels parent : ℕ) (path : Path) (draft new : Draft) (read_child : ℕ → Path → Draft → Data → Read Draft) (d : Data) → ((parent : ℕ) (path : Path) (draft new : Draft) (d : Data) → IsHeld draft.tree parent → read_child parent path draft d ≡ Ok new → AreAdded parent 1 draft.tree new.tree)
    → IsHeld draft.tree parent → choose_at goods levels parent path draft read_child d ≡ Ok new → AreAdded parent 1 draft.tree new.tree
choose-added goods levels parent path draft new read_child d each held e =
    let opened = step (opened_at goods levels parent path draft d) (λ o. children_at (read_child (length draft.tree)) (at_member path (codes "of")) 0 o.items o.made >>= λ full. closed_at path o.interval (items_len o.items) full) new e in
    let o = opened.0 in
    let children = step (children_at (read_child (length draft.tree)) (at_member path (codes "of")) 0 o.items o.made) (λ full. closed_at path o.interval (items_len o.items) full) new opened.2 in
    let is_opened = opened-made goods levels parent path draft d o opened.1 in
    let kind = Choose o.interval.least o.interval.most in
    let one = one_added draft.tree kind parent held is_opened.made.room in
    let made : o.made.tree ≡ grown draft.tree kind parent held = ap (λ (m : Draft). m.tree) is_opened.made.is in
    let there : length draft.tree < length o.made.tree = rw made (omega (arith, one.longer)) in
    let start : AreAdded (length draft.tree) 0 o.made.tree o.made.tree = rw made (none_added (length draft.tree) (grown draft.tree kind parent held) one.childless) in
    let full = children-added (read_child (length draft.tree)) (length draft.tree) (each (length draft.tree)) o.items (at_member path (codes "of")) 0 0 o.made o.made children.0 there start children.1 in
    let whole = node_added draft.tree kind parent (0 + items_len o.items) children.0.tree held is_opened.made.room (rw made at full) in
    let same : children.0 ≡ new = closed-same path o.interval (items_len o.items) children.0 new children.2 in
    subst (λ (n : Draft). AreAdded parent 1 draft.tree n.tree) same whole

node_of-added : (goods : List (List ℕ)) (levels : ℕ) (read_child : ℕ → Path → Draft → Data → Read Draft) → ((parent : ℕ) (path : Path) (draft new : Draft) (d : Data) → IsHeld draft.tree parent → read_child parent path draft d ≡ Ok new → AreAdded parent 1 draft.tree new.tree)
    → (parent : ℕ) (path : Path) (draft new : Draft) (d : Data) → IsHeld draft.tree parent → node_of goods levels read_child parent path draft d ≡ Ok new → AreAdded parent 1 draft.tree new.tree
node_of-added goods levels read_child each parent path draft new d held e = by_buy (is_buy d) refl
  where
    by_choose : (b : Bool) → is_buy d ≡ false → is_sell d ≡ false → is_choose d ≡ b → AreAdded parent 1 draft.tree new.tree
    by_choose true no_buy no_sell is =
        let reads : node_of goods levels read_child parent path draft d ≡ choose_at goods levels parent path draft read_child d = rw (no_buy, no_sell, is) in
        choose-added goods levels parent path draft new read_child d each held (sym reads ∙ e)
    by_choose false no_buy no_sell is = let refused : node_of goods levels read_child parent path draft d ≡ refuse 2 path = rw (no_buy, no_sell, is) in cc

    by_sell : (b : Bool) → is_buy d ≡ false → is_sell d ≡ b → AreAdded parent 1 draft.tree new.tree
    by_sell true no_buy is =
        let reads : node_of goods levels read_child parent path draft d ≡ leaf_at goods levels parent path draft (codes "sell") Sell d = rw (no_buy, is) in
        leaf-added goods levels parent path draft new (codes "sell") Sell d held (sym reads ∙ e)
    by_sell false no_buy is = by_choose (is_choose d) no_buy is refl

    by_buy : (b : Bool) → is_buy d ≡ b → AreAdded parent 1 draft.tree new.tree
    by_buy true is =
        let reads : node_of goods levels read_child parent path draft d ≡ leaf_at goods levels parent path draft (codes "buy") Buy d = rw is in
        leaf-added goods levels parent path draft new (codes "buy") Buy d held (sym reads ∙ e)
    by_buy false is = by_sell (is_sell d) is refl

-- a node that is read is added with what is below it
pub node_at-added : (goods : List (List ℕ)) (levels parent : ℕ) (path : Path) (draft new : Draft) (d : Data) → IsHeld draft.tree parent → node_at goods levels parent path draft d ≡ Ok new → AreAdded parent 1 draft.tree new.tree
node_at-added goods zero = node_of-added goods 0 no_child (λ parent path draft new d held e. cc)
node_at-added goods (suc levels) = node_of-added goods (suc levels) (node_at goods levels) (node_at-added goods levels)
