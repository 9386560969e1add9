-- What the makers take of a lawful exchange: its nodes, the
-- close of its choose nodes, its goods and its bidders.
use Rattle.std.proofs.Common.{ℕ, suc, ◌+◌, ◌<◌, ◌≤◌, ◌≡◌, true, false, ◌&&◌, ◌||◌, not, eqb, ltb, leb, List, [], ◌∷◌, length, map, ℤ, pos, neg_ℤ, ◌+ℤ◌, ◌≤ℤ◌, None, ap, ◌∙◌, refl, arith}
use Rattle.std.specs.Prelude.{int_lt, is_some, slice_index, slice_index_or}
use Rattle.std.specs.List.{AllByRecursion, list_any}
use Rattle.std.specs.Str.{bytes_eq}
use Rattle.std.proofs.lemmas.Int.{ints}
use Rattle.std.proofs.lemmas.Bool.{and_from, and_parts, or_from, lt-ltb, le-ltb, lt-leb, le-leb, ltb-true, eq-eqb, eqb-true, cond-true, cond-false}
use Rattle.std.proofs.lemmas.List.{length-map}
use Rattle.ice_defs.specs.declared.NodeKind.{NodeKind}
use Rattle.ice_defs.specs.declared.NodeKind.TheVariants.{Choose, Buy, Sell}
use Rattle.ice_defs.specs.Tree.{Tree, IsInterval, parent_of, is_child}
use Rattle.ice_defs.specs.Set.{NodeSet, IsSatisfied, units}
use Rattle.ice_defs.specs.Sale.{greatest_sale}
use Rattle.ice_defs.specs.Trade.{tree_of}
use Rattle.ice_defs.specs.Name.{is_name}
use Rattle.ice_defs.specs.Exchange.{Good, Bidder, Exchange}
use Rattle.ice_defs.specs.Lawful.{IsLimitedKind, IsExchange}
use Rattle.ice_defs.specs.Making.{is_value, is_lawful_kind, node_refusal, close_refusal, good_refusal, node_count, over_sale, bidder_refusal}
use Rattle.ice_defs.proofs.Below.{find-each, find-none}
use Rattle.ice_defs.proofs.Integers.{int_le-from, int_lt-not, int_lt-false}
use Rattle.ice_best.proofs.Sales.{greatest_sale-greatest}

-- ---- children

pub child_parent : (t : Tree) (p c : ℕ) → is_child t p c ≡ true → (0 < c) × (parent_of t c ≡ p)
child_parent t p c is = let (some, same) = and_parts (ltb 0 c) (eqb (parent_of t c) p) is in (ltb-true 0 c some, eqb-true _ _ same)

pub parent_child : (t : Tree) (p c : ℕ) → 0 < c → parent_of t c ≡ p → is_child t p c ≡ true
parent_child t p c some e = and_from (ltb 0 c) (eqb (parent_of t c) p) (lt-ltb 0 c some) (eq-eqb _ _ e)

-- ---- a node, and the close of a choose node

kind_passes : (goods : ℕ) (kind : NodeKind) → IsLimitedKind goods kind → is_lawful_kind goods kind ≡ true
kind_passes goods (Choose least most) fits = refl
kind_passes goods (Buy good units) fits = and_from _ _ (and_from _ _ (lt-ltb good goods fits.0) (le-leb 1 units fits.1)) (le-leb units 1000 fits.2)
kind_passes goods (Sell good units) fits = and_from _ _ (and_from _ _ (lt-ltb good goods fits.0) (le-leb 1 units fits.1)) (le-leb units 1000 fits.2)

pub node_passes : (goods nodes depth : ℕ) (kind : NodeKind) (lo hi : ℤ) → nodes < 200 → depth ≤ 16 → IsLimitedKind goods kind
    → neg_ℤ (pos 1000000000) ≤ℤ lo → lo ≤ℤ hi → hi ≤ℤ pos 1000000000 → node_refusal goods nodes depth kind lo hi ≡ None
node_passes goods nodes depth kind lo hi few shallow fits low ordered high =
    let low_passes : is_value lo ≡ true = and_from _ _ (int_le-from _ _ low) (int_le-from lo (pos 1000000000) (omega (arith, ints))) in
    let high_passes : is_value hi ≡ true = and_from _ _ (int_le-from (neg_ℤ (pos 1000000000)) hi (omega (arith, ints))) (int_le-from _ _ high) in
    let passes : (is_lawful_kind goods kind && is_value lo && is_value hi) ≡ true =
    and_from _ _ (and_from _ _ (kind_passes goods kind fits) low_passes) high_passes in
    cond-false (leb 200 nodes) _ _ (lt-leb 200 nodes few)
    ∙ cond-false (ltb 16 depth) _ _ (le-ltb 16 depth shallow)
    ∙ cond-false (not (is_lawful_kind goods kind && is_value lo && is_value hi)) _ _ (ap not passes)
    ∙ cond-false (int_lt hi lo) _ _ (int_lt-not hi lo ordered)

pub interval_closes : (least most children : ℕ) → IsInterval (Choose least most) children → close_refusal least most children ≡ None
interval_closes least most children fits =
    cond-true _ None _ (
    and_from (ltb 0 children && leb least most) (leb most children)
    (and_from (ltb 0 children) (leb least most) (lt-ltb 0 children fits.2) (le-leb least most fits.0)) (le-leb most children fits.1))

-- ---- a good, and a bidder

pub good_passes : (goods : List Good) (name : List ℕ) → is_name name ≡ true → list_any (λ other. bytes_eq other.name name) goods ≡ false
    → length goods < 32 → good_refusal goods [] name ≡ None
good_passes goods name named new few =
    cond-false (not (is_name name)) _ _ (ap not named)
    ∙ cond-false (list_any (λ other. bytes_eq other.name name) goods) _ _ new
    ∙ cond-false (leb 32 (length goods)) _ _ (lt-leb 32 (length goods) few)

pub bidder_passes : (goods : ℕ) (bidders : List Bidder) (b : Bidder) → is_name b.name ≡ true → list_any (λ other. bytes_eq other.name b.name) bidders ≡ false
    → length bidders < 40 → node_count bidders + length b.tree ≤ 2000 → over_sale goods b.tree b.own ≡ None → bidder_refusal goods bidders b ≡ None
bidder_passes goods bidders b named new few few_nodes owned =
    cond-false (not (is_name b.name)) _ _ (ap not named)
    ∙ cond-false (list_any (λ other. bytes_eq other.name b.name) bidders) _ _ new
    ∙ cond-false (leb 40 (length bidders) || ltb 2000 (node_count bidders + length b.tree)) _ _
    (or_from _ _ (lt-leb 40 (length bidders) few) (le-ltb 2000 (node_count bidders + length b.tree) few_nodes))
    ∙ cond-false (is_some (over_sale goods b.tree b.own)) _ _ (ap is_some owned)

-- ---- no good is sold above what is owned

pub sells_owned : (goods : ℕ) (t : Tree) (own : List ℕ) → over_sale goods t own ≡ None
    → (g : ℕ) (s : NodeSet) → g < goods → IsSatisfied t s → pos 0 ≤ℤ (pos (slice_index own g) +ℤ units t s g)
sells_owned goods t own none g s l is =
    let unsold = find-each (λ k. int_lt (pos (slice_index own k)) (greatest_sale t k)) goods none g l in
    let under = int_lt-false (pos (slice_index own g)) (greatest_sale t g) unsold in
    let most = greatest_sale-greatest t g in
    let sold = most.bound s is in
    omega (arith, ints, under, sold)

pub owned_sells : (goods : ℕ) (t : Tree) (own : List ℕ)
    → ((g : ℕ) (s : NodeSet) → g < goods → IsSatisfied t s → pos 0 ≤ℤ (pos (slice_index own g) +ℤ units t s g)) → over_sale goods t own ≡ None
owned_sells goods t own owned = find-none (λ g. int_lt (pos (slice_index own g)) (greatest_sale t g)) goods (λ g l.
    let (s, is, most) = (greatest_sale-greatest t g).attained in
    int_lt-not (pos (slice_index own g)) (greatest_sale t g) (omega (arith, ints, owned g s l is, most)))

owned_each : (goods : ℕ) (bidders : List Bidder)
    → ((b g : ℕ) (s : NodeSet) → b < length (map (λ x. x.tree) bidders) → g < goods → IsSatisfied (tree_of (map (λ x. x.tree) bidders) b) s
    → pos 0 ≤ℤ (pos (slice_index (slice_index_or (map (λ x. x.own) bidders) b []) g) +ℤ units (tree_of (map (λ x. x.tree) bidders) b) s g))
    → AllByRecursion (λ b. over_sale goods b.tree b.own ≡ None) bidders
owned_each goods [] owned = tt
owned_each goods (x ∷ bidders) owned = (
  owned_sells goods x.tree x.own (λ g s known is. owned 0 g s (omega arith) known is),
  owned_each goods bidders (λ b g s there known is. owned (suc b) g s (omega arith) known is),
)

-- no bidder of a lawful exchange sells more than it owns
pub owned_lawful : (ex : Exchange) → IsExchange ex → AllByRecursion (λ b. over_sale (length ex.goods) b.tree b.own ≡ None) ex.bidders
owned_lawful ex is = owned_each (length ex.goods) ex.bidders (λ b g s there known sat.
    is.owned b g s there (omega (arith, length-map ex.goods (λ (good : Good). good.exact))) sat)
