-- Each fault of an exchange file has a number, and so it is no want of memory;
-- nor is it a sale above what is owned, but where a bidder is added.
use Rattle.std.proofs.Common.{◌≡◌, ℕ, zero, suc, Bool, cond, ℤ, pos, neg_ℤ, List, [], ◌∷◌, length, Option, Some, None, refl, subst, arith, ◌-◌, true, false, map}
use Rattle.std.specs.Prelude.{◌==◌, codes, replicate, position, is_some, Ok}
use Rattle.std.specs.Str.{bytes_eq}
use Rattle.serde_json.specs.Data.{Data, null, boolean, number, string, array, object, Items, no_items, item, Members, no_members, member}
use Rattle.serde_json.specs.Events.{items_len}
use Rattle.serde_json.specs.Find.{get, get_item}
use Rattle.ice_defs.specs.declared.NodeKind.{NodeKind}
use Rattle.ice_defs.specs.declared.NodeKind.TheVariants.{Choose, Buy, Sell}
use Rattle.ice_defs.specs.Making.{node_refusal, close_refusal, good_refusal, bidder_refusal}
use Rattle.ice_defs.specs.Exchange.{Good, Bidder}
use Rattle.ice_defs.specs.FileFault.{Path, Read, refuse}
use Rattle.ice_read.specs.Values.{at_member, at_index, object_of, array_of, has_exactly, member_or_null, natural}
use Rattle.ice_read.specs.TreeFile.{Draft, no_draft, value_at, good_at, make, leaf_at, Interval, bound_at, interval_at, children_at, closed_at, opened_at, choose_at, is_buy, is_sell, is_choose, no_child, node_of, node_at, tree_at}
use Rattle.ice_read.specs.ExchangeFile.{are_settings, settings_at, unless_refused, add_good, good_value, goods_from, goods_at, own_one, own_from, own_at, add_bidder, bidder_at, bidders_from, bidders_at}
use Rattle.ice_read.proofs.FaultNumbers.{NumberIs, IsNumber, IsPlainNumber, IsNumbered, IsPlain, numbered, then_is, plain_then, plain_if, array_plain, text_plain, whole_plain}

-- ---- what the makers refuse

abbrev IsDue : (ℕ → Type 0) → Option ℕ → Type 0
IsDue P None = Unit {0}
IsDue P (Some n) = P n

due_if : (P : ℕ → Type 0) (b : Bool) (x y : Option ℕ) → IsDue P x → IsDue P y → IsDue P (cond b x y)
due_if P true x y first second = first
due_if P false x y first second = second

-- the first of four refusals
due_of_four : (P : ℕ → Type 0) (a b c d : Bool) (i j k l : ℕ) → P i → P j → P k → P l → IsDue P (cond a (Some i) (cond b (Some j) (cond c (Some k) (cond d (Some l) None))))
due_of_four P a b c d i j k l first second third fourth =
    due_if P a (Some i) (cond b (Some j) (cond c (Some k) (cond d (Some l) None))) first (due_if P b (Some j) (cond c (Some k) (cond d (Some l) None)) second (due_if P c (Some k) (cond d (Some l) None) third (due_if P d (Some l) None fourth tt)))

node_due : (goods nodes depth : ℕ) (kind : NodeKind) (lo hi : ℤ) → IsDue IsPlainNumber (node_refusal goods nodes depth kind lo hi)
node_due goods nodes depth kind lo hi = due_of_four IsPlainNumber _ _ _ _ 23 24 22 21 (λ e. omega arith, λ e. omega arith) (λ e. omega arith, λ e. omega arith) (λ e. omega arith, λ e. omega arith) (λ e. omega arith, λ e. omega arith)

close_due : (least most children : ℕ) → IsDue IsPlainNumber (close_refusal least most children)
close_due least most children = due_if IsPlainNumber _ None (Some 20) tt (λ e. omega arith, λ e. omega arith)

good_due : (goods : List Good) (bidders : List Bidder) (name : List ℕ) → IsDue IsPlainNumber (good_refusal goods bidders name)
good_due goods bidders name = due_of_four IsPlainNumber _ _ _ _ 17 13 10 12 (λ e. omega arith, λ e. omega arith) (λ e. omega arith, λ e. omega arith) (λ e. omega arith, λ e. omega arith) (λ e. omega arith, λ e. omega arith)

unless_is : {X : Type 0} (P : ℕ → Type 0) (path : Path) (due : Option ℕ) (x : X) → IsDue P due → NumberIs P (unless_refused path due x)
unless_is P path (Some n) x is = is
unless_is P path None x is = tt

-- ---- trees

value_plain : (path : Path) (d : Data) → IsPlain (value_at path d)
value_plain path d = whole_plain (neg_ℤ (pos 1000000000)) (pos 1000000000) path d

good_plain : (goods : List (List ℕ)) (path : Path) (d : Data) → IsPlain (good_at goods path d)
good_plain goods path null = (λ e. omega arith, λ e. omega arith)
good_plain goods path (boolean b) = (λ e. omega arith, λ e. omega arith)
good_plain goods path (number n) = (λ e. omega arith, λ e. omega arith)
good_plain goods path (string name) = by (position (bytes_eq name) goods) refl
  where
    by : (found : Option ℕ) → position (bytes_eq name) goods ≡ found → IsPlain (good_at goods path (string name))
    by None is = rw is (λ e. omega arith, λ e. omega arith)
    by (Some g) is = rw is tt
good_plain goods path (array ds) = (λ e. omega arith, λ e. omega arith)
good_plain goods path (object ms) = (λ e. omega arith, λ e. omega arith)

make_plain : (goods : List (List ℕ)) (levels parent : ℕ) (path : Path) (draft : Draft) (kind : NodeKind) (lo hi : ℤ) → IsPlain (make goods levels parent path draft kind lo hi)
make_plain goods levels parent path draft kind lo hi = by (node_refusal (length goods) (length draft.tree) (17 - levels) kind lo hi) refl (node_due (length goods) (length draft.tree) (17 - levels) kind lo hi)
  where
    by : (due : Option ℕ) → node_refusal (length goods) (length draft.tree) (17 - levels) kind lo hi ≡ due → IsDue IsPlainNumber (node_refusal (length goods) (length draft.tree) (17 - levels) kind lo hi) → IsPlain (make goods levels parent path draft kind lo hi)
    by None is due = rw is tt
    by (Some n) is due = rw is (subst (IsDue IsPlainNumber) is due)

leaf_plain : (goods : List (List ℕ)) (levels parent : ℕ) (path : Path) (draft : Draft) (word : List ℕ) (kind : ℕ → ℕ → NodeKind) (d : Data) → IsPlain (leaf_at goods levels parent path draft word kind d)
leaf_plain goods levels parent path draft word kind d =
    plain_then _ _ (good_plain goods (at_member path word) (member_or_null word d)) (λ g.
    plain_then _ _ (whole_plain (pos 1) (pos 1000) (at_member path (codes "units")) (member_or_null (codes "units") d)) (λ units.
    plain_then _ _ (value_plain (at_member path (codes "lo")) (member_or_null (codes "lo") d)) (λ lo.
    plain_then _ _ (value_plain (at_member path (codes "hi")) (member_or_null (codes "hi") d)) (λ hi.
    make_plain goods levels parent path draft (kind g (natural units)) lo hi))))

bound_plain : (path : Path) (i : ℕ) (items : Items) → IsPlain (bound_at path i items)
bound_plain path i items = by (get_item i items) refl
  where
    by : (found : Option Data) → get_item i items ≡ found → IsPlain (bound_at path i items)
    by None is = rw is (λ e. omega arith, λ e. omega arith)
    by (Some d) is = rw is (whole_plain (pos 0) (pos 199) (at_index path i) d)

interval_plain : (path : Path) (d : Data) → IsPlain (interval_at path d)
interval_plain path d = plain_then (array_of path d) _ (array_plain path d) (λ items.
    plain_if (items_len items == 2) _ (refuse 2 path) (
    plain_then _ _ (bound_plain path 0 items) (λ least.
    plain_then _ _ (bound_plain path 1 items) (λ most. tt)))
    (λ e. omega arith, λ e. omega arith))

children_plain : (read_child : Path → Draft → Data → Read Draft) → ((path : Path) (draft : Draft) (d : Data) → IsPlain (read_child path draft d)) → (path : Path) (i : ℕ) (items : Items) (draft : Draft) → IsPlain (children_at read_child path i items draft)
children_plain read_child plain path i no_items draft = tt
children_plain read_child plain path i (item d rest) draft = plain_then _ _ (plain (at_index path i) draft d) (λ after. children_plain read_child plain path (suc i) rest after)

closed_plain : (path : Path) (interval : Interval) (children : ℕ) (draft : Draft) → IsPlain (closed_at path interval children draft)
closed_plain path interval children draft = by (close_refusal interval.least interval.most children) refl (close_due interval.least interval.most children)
  where
    by : (due : Option ℕ) → close_refusal interval.least interval.most children ≡ due → IsDue IsPlainNumber (close_refusal interval.least interval.most children) → IsPlain (closed_at path interval children draft)
    by None is due = rw is tt
    by (Some n) is due = rw is (subst (IsDue IsPlainNumber) is due)

opened_plain : (goods : List (List ℕ)) (levels parent : ℕ) (path : Path) (draft : Draft) (d : Data) → IsPlain (opened_at goods levels parent path draft d)
opened_plain goods levels parent path draft d =
    plain_then _ _ (interval_plain (at_member path (codes "choose")) (member_or_null (codes "choose") d)) (λ interval.
    plain_then _ _ (value_plain (at_member path (codes "lo")) (member_or_null (codes "lo") d)) (λ lo.
    plain_then _ _ (value_plain (at_member path (codes "hi")) (member_or_null (codes "hi") d)) (λ hi.
    plain_then _ _ (array_plain (at_member path (codes "of")) (member_or_null (codes "of") d)) (λ items.
    plain_then _ _ (make_plain goods levels parent path draft (Choose interval.least interval.most) lo hi) (λ made. tt)))))

node_plain_over : (goods : List (List ℕ)) (levels : ℕ) (read_child : ℕ → Path → Draft → Data → Read Draft) → ((parent : ℕ) (path : Path) (draft : Draft) (d : Data) → IsPlain (read_child parent path draft d))
    → (parent : ℕ) (path : Path) (draft : Draft) (d : Data) → IsPlain (node_of goods levels read_child parent path draft d)
node_plain_over goods levels read_child plain parent path draft d =
    plain_if (is_buy d) _ _ (leaf_plain goods levels parent path draft (codes "buy") Buy d) (
    plain_if (is_sell d) _ _ (leaf_plain goods levels parent path draft (codes "sell") Sell d) (
    plain_if (is_choose d) (choose_at goods levels parent path draft read_child d) (refuse 2 path) (
    plain_then _ _ (opened_plain goods levels parent path draft d) (λ o.
    plain_then _ _ (children_plain (read_child (length draft.tree)) (plain (length draft.tree)) (at_member path (codes "of")) 0 o.items o.made) (λ full.
    closed_plain path o.interval (items_len o.items) full)))
    (λ e. omega arith, λ e. omega arith)))

node_plain : (goods : List (List ℕ)) (levels parent : ℕ) (path : Path) (draft : Draft) (d : Data) → IsPlain (node_at goods levels parent path draft d)
node_plain goods zero parent path draft d = node_plain_over goods 0 no_child (λ p q r s. (λ e. omega arith, λ e. omega arith)) parent path draft d
node_plain goods (suc levels) parent path draft d = node_plain_over goods (suc levels) (node_at goods levels) (node_plain goods levels) parent path draft d

pub tree_plain : (goods : List (List ℕ)) (path : Path) (d : Data) → IsPlain (tree_at goods path d)
unfolding tree_at
tree_plain goods path d = node_plain goods 16 0 path no_draft d

-- ---- settings

pub settings_plain : (path : Path) (d : Data) → IsPlain (settings_at path d)
settings_plain path d = plain_if (are_settings d) _ (refuse 2 path) (
    plain_then _ _ (whole_plain (pos 0) (pos 100) (at_member path (codes "weight")) (member_or_null (codes "weight") d)) (λ weight.
    plain_then _ _ (whole_plain (pos 0) (pos 1000000000000) (at_member path (codes "close_regret")) (member_or_null (codes "close_regret") d)) (λ close_regret.
    plain_then _ _ (whole_plain (pos 1) (pos 1000000000) (at_member path (codes "cap")) (member_or_null (codes "cap") d)) (λ cap.
    plain_then _ _ (whole_plain (pos 0) (pos 1000000000) (at_member path (codes "improve")) (member_or_null (codes "improve") d)) (λ improve.
    plain_then _ _ (whole_plain (pos 0) (pos 20) (at_member path (codes "rounds")) (member_or_null (codes "rounds") d)) (λ rounds.
    plain_then _ _ (whole_plain (pos 0) (pos 50000) (at_member path (codes "branches")) (member_or_null (codes "branches") d)) (λ branches.
    plain_then _ _ (plain_if (is_some (get (codes "derived") d)) _ (Ok (pos 0)) (whole_plain (pos 0) (pos 2000) (at_member path (codes "derived")) (member_or_null (codes "derived") d)) tt) (λ derived. tt))))))))
    (λ e. omega arith, λ e. omega arith)

-- ---- goods

value_of_good_plain : (path : Path) (d : Data) → IsPlain (good_value path d)
value_of_good_plain path null = (λ e. omega arith, λ e. omega arith)
value_of_good_plain path (boolean b) = (λ e. omega arith, λ e. omega arith)
value_of_good_plain path (number n) = (λ e. omega arith, λ e. omega arith)
value_of_good_plain path (string name) = tt
value_of_good_plain path (array ds) = (λ e. omega arith, λ e. omega arith)
value_of_good_plain path (object ms) = plain_if (has_exactly (codes "exact" ∷ []) (object ms)) _ (refuse 2 path) (
    plain_then _ _ (text_plain (at_member path (codes "exact")) (member_or_null (codes "exact") (object ms))) (λ name. tt))
    (λ e. omega arith, λ e. omega arith)

goods_plain_from : (path : Path) (i : ℕ) (goods : List Good) (items : Items) → IsPlain (goods_from path i goods items)
goods_plain_from path i goods no_items = tt
goods_plain_from path i goods (item d rest) =
    plain_then _ _ (value_of_good_plain (at_index path i) d) (λ good.
    plain_then (add_good (at_index path i) goods good) _ (unless_is IsPlainNumber (at_index path i) _ _ (good_due goods [] good.name)) (λ more. goods_plain_from path (suc i) more rest))

pub goods_plain : (path : Path) (d : Data) → IsPlain (goods_at path d)
goods_plain path d = plain_then (array_of path d) _ (array_plain path d) (λ items. goods_plain_from path 0 [] items)

-- ---- bidders

object_plain : (path : Path) (d : Data) → IsPlain (object_of path d)
object_plain path null = (λ e. omega arith, λ e. omega arith)
object_plain path (boolean b) = (λ e. omega arith, λ e. omega arith)
object_plain path (number n) = (λ e. omega arith, λ e. omega arith)
object_plain path (string s) = (λ e. omega arith, λ e. omega arith)
object_plain path (array ds) = (λ e. omega arith, λ e. omega arith)
object_plain path (object ms) = tt

amount_plain : (goods : List (List ℕ)) (path : Path) (own name : List ℕ) (d : Data) → IsPlain (own_one goods path own name d)
amount_plain goods path own name d = by (position (bytes_eq name) goods) refl
  where
    by : (found : Option ℕ) → position (bytes_eq name) goods ≡ found → IsPlain (own_one goods path own name d)
    by None is = rw is (λ e. omega arith, λ e. omega arith)
    by (Some g) is = rw is (plain_then _ _ (whole_plain (pos 0) (pos 1000000) (at_member path name) d) (λ amount. tt))

own_plain_from : (goods : List (List ℕ)) (path : Path) (own : List ℕ) (ms : Members) → IsPlain (own_from goods path own ms)
own_plain_from goods path own no_members = tt
own_plain_from goods path own (member name d rest) = plain_then _ _ (amount_plain goods path own name d) (λ more. own_plain_from goods path more rest)

pub own_plain : (goods : List (List ℕ)) (path : Path) (d : Data) → IsPlain (own_at goods path d)
own_plain goods path d = plain_then (object_of path d) _ (object_plain path d) (λ members. own_plain_from goods path (replicate (length goods) 0) members)

bidder_plain : (goods : List (List ℕ)) (path : Path) (d : Data) → IsPlain (bidder_at goods path d)
bidder_plain goods path d = plain_if (has_exactly (codes "name" ∷ codes "own" ∷ codes "tree" ∷ []) d) _ (refuse 2 path) (
    plain_then _ _ (text_plain (at_member path (codes "name")) (member_or_null (codes "name") d)) (λ name.
    plain_then _ _ (own_plain goods (at_member path (codes "own")) (member_or_null (codes "own") d)) (λ own.
    plain_then _ _ (tree_plain goods (at_member path (codes "tree")) (member_or_null (codes "tree") d)) (λ draft. tt))))
    (λ e. omega arith, λ e. omega arith)

bidder_due : (goods : ℕ) (bidders : List Bidder) (b : Bidder) → IsDue IsNumber (bidder_refusal goods bidders b)
bidder_due goods bidders b = due_of_four IsNumber _ _ _ _ 13 11 12 14 (λ e. omega arith) (λ e. omega arith) (λ e. omega arith) (λ e. omega arith)

bidders_numbered_from : (goods : List (List ℕ)) (path : Path) (i : ℕ) (bidders : List Bidder) (items : Items) → IsNumbered (bidders_from goods path i bidders items)
bidders_numbered_from goods path i bidders no_items = tt
bidders_numbered_from goods path i bidders (item d rest) =
    then_is IsNumber _ _ (numbered _ (bidder_plain goods (at_index path i) d)) (λ b.
    then_is IsNumber (add_bidder (at_index path i) (length goods) bidders b) _ (unless_is IsNumber (at_index path i) _ _ (bidder_due (length goods) bidders b)) (λ more. bidders_numbered_from goods path (suc i) more rest))

pub bidders_numbered : (goods : List Good) (path : Path) (d : Data) → IsNumbered (bidders_at goods path d)
bidders_numbered goods path d = then_is IsNumber (array_of path d) _ (numbered _ (array_plain path d)) (λ items. bidders_numbered_from (map (λ good. good.name) goods) path 0 [] items)
