-- Values that are written one after another.
use Rattle.std.proofs.Common.{◌≡◌, ℕ, zero, suc, ◌+◌, ◌-◌, ◌<◌, ◌≤◌, false, cond, eqb, List, [], ◌∷◌, ◌++◌, length, map, take, drop, get_or, ℤ, pos, refl, sym, ap, ◌∙◌, arith, add-one, drop-cons}
use Rattle.std.specs.Prelude.{codes, slice_index, slice_index_or}
use Rattle.std.proofs.lemmas.Bool.{eq-eqb, ne_eqb, cond-true, cond-false}
use Rattle.std.proofs.lemmas.List.{map_more, map_push, take_all, get_or-map, drop_all}
use Rattle.serde_json.specs.Data.{Data, object, Members, no_members, put}
use Rattle.serde_json.specs.View.{view, items_view}
use Rattle.serde_json.specs.declared.value.Value.{Value}
use Rattle.ice_defs.specs.declared.NodeKind.{NodeKind}
use Rattle.ice_defs.specs.declared.NodeKind.TheVariants.{Choose, Buy, Sell}
use Rattle.ice_defs.specs.Tree.{Tree, kind_of, children_of}
use Rattle.ice_defs.specs.Set.{weight_of}
use Rattle.ice_defs.specs.Bounds.{Bounds, no_bounds}
use Rattle.ice_defs.specs.Market.{owned_amount}
use Rattle.ice_defs.specs.Exchange.{Good, Bidder, Exchange, trees_of, exact_of, opening_bounds, names_of, market_of}
use Rattle.ice_defs.specs.Lawful.{IsBidder, IsExchange, good_names}
use Rattle.ice_defs.specs.Trade.{is_exact}
use Rattle.ice_read.specs.Written.{whole_data, items_of, good_name, leaf_data, kind_data, node_data, own_members, bidder_data}
use Rattle.ice_read.specs.Parts.{with_tree, bidder_of, choose_data, named_data}
use Rattle.ice_read.proofs.NamePlaces.{all_at}

-- ---- lists

pub listed_more : {X : Type 0} (f : X → Data) (xs : List X) (i : ℕ) (d : X) (vs : List Value) (v : Value) → map view vs ≡ map f (take i xs) → i < length xs → view v ≡ f (get_or xs i d) → map view (vs ++ v ∷ []) ≡ map f (take (i + 1) xs)
listed_more f xs i d vs v before there here = map_push view vs v ∙ ap (λ l. l ++ view v ∷ []) before ∙ ap (λ w. map f (take i xs) ++ w ∷ []) here ∙ sym (map_more f xs i d there)

pub listed_all : {X : Type 0} (f : X → Data) (xs : List X) (i : ℕ) (vs : List Value) → map view vs ≡ map f (take i xs) → length xs ≤ i → items_view vs ≡ items_of (map f xs)
listed_all f xs i vs listed all = ap items_of (listed ∙ ap (map f) (take_all i xs all))

-- ---- goods

abbrev pub no_good : Good
no_good = record { name = []; exact = false }

pub good_there : (ex : Exchange) (g : ℕ) → g < length ex.goods → record { name = slice_index_or (good_names ex) g []; exact = is_exact (exact_of ex) g } ≡ get_or ex.goods g no_good
good_there ex g there =
    let named = get_or-map (λ (good : Good). good.name) ex.goods g no_good [] there in
    let marked = get_or-map (λ (good : Good). good.exact) ex.goods g no_good false there in
    λ i. record { name = named i; exact = marked i }

-- ---- owned amounts

module _ (ex : Exchange) (b : ℕ) (there : b < length ex.bidders) (is : IsExchange ex) where
  abbrev own : List ℕ
  own = (bidder_of ex b).own

  own_found : slice_index_or (map (λ (x : Bidder). x.own) ex.bidders) b [] ≡ own
  own_found = get_or-map (λ (x : Bidder). x.own) ex.bidders b (with_tree [] no_bounds) [] there

  pub bidder_lawful : IsBidder (length ex.goods) (bidder_of ex b)
  bidder_lawful = all_at (IsBidder (length ex.goods)) ex.bidders b (with_tree [] no_bounds) there is.bidders

  amount_is : (g amount : ℕ) → pos amount ≡ owned_amount (market_of ex) b g → amount ≡ slice_index own g
  amount_is g amount e = let same : pos amount ≡ pos (slice_index own g) = e ∙ ap (λ l. pos (slice_index l g)) own_found in cc

  own_open : (g : ℕ) → g < length ex.goods
      → own_members (drop g ex.goods) (drop g own) ≡ cond (eqb (slice_index own g) 0) (own_members (drop (g + 1) ex.goods) (drop (g + 1) own)) (put (get_or ex.goods g no_good).name (whole_data (pos (slice_index own g))) (own_members (drop (g + 1) ex.goods) (drop (g + 1) own)))
  own_open g inside =
      let size : length own ≡ length ex.goods = bidder_lawful.own_count in
      rw (drop-cons ex.goods g no_good inside, drop-cons own g 0 (omega arith), add-one g) refl

  -- nothing of the good is owned
  pub own_none : (g next amount : ℕ) (ms : Members) → next ≡ g + 1 → next ≤ length ex.goods → pos amount ≡ owned_amount (market_of ex) b g → amount ≡ 0 → ms ≡ own_members (drop next ex.goods) (drop next own)
      → ms ≡ own_members (drop g ex.goods) (drop g own)
  own_none g next amount ms e inside found zero_is before =
      before ∙ ap (λ n. own_members (drop n ex.goods) (drop n own)) e
      ∙ sym (own_open g (omega arith) ∙ cond-true (eqb (slice_index own g) 0) _ _ (eq-eqb _ _ (sym (amount_is g amount found) ∙ zero_is)))

  -- or some of it
  pub own_some : (g next amount : ℕ) (ms : Members) (name : List ℕ) → next ≡ g + 1 → next ≤ length ex.goods → pos amount ≡ owned_amount (market_of ex) b g → (amount ≡ 0 → ⊥) → ms ≡ own_members (drop next ex.goods) (drop next own)
      → name ≡ slice_index_or (good_names ex) g [] → put name (whole_data (pos amount)) ms ≡ own_members (drop g ex.goods) (drop g own)
  own_some g next amount ms name e inside found some before named =
      let same = amount_is g amount found in
      let called : name ≡ (get_or ex.goods g no_good).name = named ∙ get_or-map (λ (good : Good). good.name) ex.goods g no_good [] (omega arith) in
      ap (put name (whole_data (pos amount))) (before ∙ ap (λ n. own_members (drop n ex.goods) (drop n own)) e)
      ∙ ap (λ n. put n (whole_data (pos amount)) (own_members (drop (g + 1) ex.goods) (drop (g + 1) own))) called
      ∙ ap (λ n. put (get_or ex.goods g no_good).name (whole_data (pos n)) (own_members (drop (g + 1) ex.goods) (drop (g + 1) own))) same
      ∙ sym (own_open g (omega arith) ∙ cond-false (eqb (slice_index own g) 0) _ _ (ne_eqb _ _ (λ z. some (same ∙ z))))

pub own_start : (goods : List Good) (own : List ℕ) (n : ℕ) → length goods ≤ n → no_members ≡ own_members (drop n goods) (drop n own)
own_start goods own n all = ap (λ l. own_members l (drop n own)) (sym (drop_all n goods all))

-- ---- nodes

nodes_same : (goods : List Good) (b : Bidder) (levels n : ℕ) → node_data goods (with_tree b.tree b.bounds) levels n ≡ node_data goods b levels n
nodes_same goods b zero n = refl
nodes_same goods b (suc levels) n =
    ap (λ f. kind_data goods (kind_of b.tree n) (weight_of b.bounds.lo n) (weight_of b.bounds.hi n) (map f (children_of b.tree n))) (λ i m. nodes_same goods b levels m i)

-- the nodes of a bidder's tree
pub tree_same : (ex : Exchange) (b : ℕ) (tree : Tree) (bounds : Bounds) (levels n : ℕ) → b < length ex.bidders → tree ≡ slice_index_or (trees_of ex) b tree → bounds ≡ slice_index_or (opening_bounds ex) b bounds
    → node_data ex.goods (with_tree tree bounds) levels n ≡ node_data ex.goods (bidder_of ex b) levels n
tree_same ex b tree bounds levels n there of_tree of_bounds =
    let tree_is : tree ≡ (bidder_of ex b).tree = of_tree ∙ get_or-map (λ (x : Bidder). x.tree) ex.bidders b (with_tree [] no_bounds) tree there in
    let bounds_are : bounds ≡ (bidder_of ex b).bounds = of_bounds ∙ get_or-map (λ (x : Bidder). x.bounds) ex.bidders b (with_tree [] no_bounds) bounds there in
    ap (λ t. node_data ex.goods (with_tree t bounds) levels n) tree_is ∙ ap (λ l. node_data ex.goods (with_tree (bidder_of ex b).tree l) levels n) bounds_are ∙ nodes_same ex.goods (bidder_of ex b) levels n

-- a bidder of its parts
pub bidder_written : (ex : Exchange) (b : ℕ) (name : List ℕ) (owned tree : Data) → b < length ex.bidders → name ≡ slice_index_or (names_of ex) b [] → owned ≡ object (own_members ex.goods (bidder_of ex b).own)
    → tree ≡ node_data ex.goods (bidder_of ex b) 16 0 → named_data name owned tree ≡ bidder_data ex.goods (bidder_of ex b)
bidder_written ex b name owned tree there named own_is tree_is =
    let called : name ≡ (bidder_of ex b).name = named ∙ get_or-map (λ (x : Bidder). x.name) ex.bidders b (with_tree [] no_bounds) [] there in
    ap (λ n. named_data n owned tree) called ∙ ap (λ d. named_data (bidder_of ex b).name d tree) own_is ∙ ap (named_data (bidder_of ex b).name (object (own_members ex.goods (bidder_of ex b).own))) tree_is

module _ (ex : Exchange) (tree : Tree) (bounds : Bounds) (levels node : ℕ) (some : levels ≡ 0 → ⊥) where
  abbrev below : List Data
  below = map (node_data ex.goods (with_tree tree bounds) (levels - 1)) (children_of tree node)

  opened : (k : ℕ) → k ≡ levels → kind_data ex.goods (kind_of tree node) (weight_of bounds.lo node) (weight_of bounds.hi node) below ≡ node_data ex.goods (with_tree tree bounds) k node
  opened zero e = absurd (some (sym e))
  opened (suc k) e =
      let less : levels - 1 ≡ k = omega arith in
      ap (λ l. kind_data ex.goods (kind_of tree node) (weight_of bounds.lo node) (weight_of bounds.hi node) (map (node_data ex.goods (with_tree tree bounds) l) (children_of tree node))) less

  module _ (lo hi : ℤ) (lo_is : lo ≡ weight_of bounds.lo node) (hi_is : hi ≡ weight_of bounds.hi node) where
    at_kind : (kind : NodeKind) → kind ≡ kind_of tree node → kind_data ex.goods kind lo hi below ≡ node_data ex.goods (with_tree tree bounds) levels node
    at_kind kind is =
        ap (λ k. kind_data ex.goods k lo hi below) is ∙ ap (λ z. kind_data ex.goods (kind_of tree node) z hi below) lo_is
        ∙ ap (λ z. kind_data ex.goods (kind_of tree node) (weight_of bounds.lo node) z below) hi_is ∙ opened levels refl

    named : (g : ℕ) (name : List ℕ) → g < length ex.goods → name ≡ slice_index_or (good_names ex) g [] → name ≡ good_name ex.goods g
    named g name there is = is ∙ get_or-map (λ (good : Good). good.name) ex.goods g no_good [] there

    pub buy_written : (g u : ℕ) (name : List ℕ) → Buy g u ≡ kind_of tree node → g < length ex.goods → name ≡ slice_index_or (good_names ex) g []
        → leaf_data (codes "buy") name u lo hi ≡ node_data ex.goods (with_tree tree bounds) levels node
    buy_written g u name kind there is = ap (λ n. leaf_data (codes "buy") n u lo hi) (named g name there is) ∙ at_kind (Buy g u) kind

    pub sell_written : (g u : ℕ) (name : List ℕ) → Sell g u ≡ kind_of tree node → g < length ex.goods → name ≡ slice_index_or (good_names ex) g []
        → leaf_data (codes "sell") name u lo hi ≡ node_data ex.goods (with_tree tree bounds) levels node
    sell_written g u name kind there is = ap (λ n. leaf_data (codes "sell") n u lo hi) (named g name there is) ∙ at_kind (Sell g u) kind

    pub choose_written : (least most i : ℕ) (children : List ℕ) (vs : List Value) → Choose least most ≡ kind_of tree node → children ≡ children_of tree node
        → map view vs ≡ map (node_data ex.goods (with_tree tree bounds) (levels - 1)) (take i children) → length children ≤ i
        → choose_data least most lo hi (map view vs) ≡ node_data ex.goods (with_tree tree bounds) levels node
    choose_written least most i children vs kind are listed all =
        ap (choose_data least most lo hi) (listed ∙ ap (map (node_data ex.goods (with_tree tree bounds) (levels - 1))) (take_all i children all ∙ are)) ∙ at_kind (Choose least most) kind
