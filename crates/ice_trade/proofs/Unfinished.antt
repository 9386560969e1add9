-- An exchange that grows by a good or a bidder that isn't refused stays lawful.
use Rattle.std.proofs.Common.{ℕ, zero, suc, ◌+◌, ◌<◌, ◌≤◌, ◌≡◌, true, false, cond, Bool, ◌||◌, not, ltb, leb, List, [], ◌∷◌, ◌++◌, map, length, get_or, take, drop, pos, ◌+ℤ◌, ◌≤ℤ◌, Some, None, refl, arith, ap, sym, ◌∙◌, subst}
use Rattle.std.specs.Prelude.{IsTrue, is_some, slice_index, slice_index_or}
use Rattle.std.specs.List.{AllByRecursion, IsDistinct, list_any, position, position_or_len}
use Rattle.std.specs.Str.{bytes_eq}
use Rattle.std.proofs.Math.Numerals.{add-one}
use Rattle.std.proofs.lemmas.Bool.{le-ltb, false_from_ne_true, ltb-false, leb-false, or_parts, not-false}
use Rattle.std.proofs.lemmas.List.{length_push, length-map, get_or-map, length-take-le}
use Rattle.std.proofs.lemmas.Slice.Eq.{bytes_eq-Decides}
use Rattle.std.proofs.Math.Seq.{split_at, take-suc}
use Rattle.std.proofs.lemmas.List.Sums.{sum_by_push}
use Rattle.ice_defs.specs.Set.{NodeSet, IsSatisfied, units}
use Rattle.ice_defs.specs.Trade.{tree_of}
use Rattle.ice_defs.specs.Name.{is_name}
use Rattle.ice_defs.specs.Exchange.{Settings, AreSettings, Good, Bidder, Exchange}
use Rattle.ice_defs.specs.Lawful.{IsBidder, IsExchange, good_names}
use Rattle.ice_defs.specs.Making.{good_refusal, node_count, over_sale, bidder_refusal}
use Rattle.ice_trade.specs.Parts.{IsUnfinished, no_exchange, with_good, with_bidder}
use Rattle.ice_trade.proofs.Passing.{good_passes, sells_owned}
use Rattle.ice_defs.proofs.Lists.{all_push, all_middle}
use Rattle.ice_defs.proofs.Naming.{named_push, new_among}
use Rattle.ice_defs.proofs.Choices.{is_some-false, some_refused}

-- ---- what isn't refused

no_bidder : (bidders : List Bidder) → length bidders ≤ 0 → bidders ≡ []
no_bidder [] none = refl
no_bidder (b ∷ bidders) none = absurd (omega arith)

pub IsUnfinished-new : (settings : Settings) → AreSettings settings → IsUnfinished (no_exchange settings)
unfolding IsDistinct
IsUnfinished-new settings are = record {
  settings = are;
  goods_count = omega arith;
  bidders_count = omega arith;
  goods_named = tt;
  goods = tt;
  bidders_named = tt;
  names = tt;
  bidders = tt;
  nodes = omega arith;
  sold = tt;
}

-- what is known of a good that isn't refused
pub good_passed : (goods : List Good) (bidders : List Bidder) (name : List ℕ) → good_refusal goods bidders name ≡ None
    → (bidders ≡ []) × (is_name name ≡ true) × (list_any (λ other. bytes_eq other.name name) goods ≡ false) × (length goods < 32)
good_passed goods bidders name unrefused =
    let (none, r₁) = some_refused (ltb 0 (length bidders)) 17 _ unrefused in
    let (named, r₂) = some_refused (not (is_name name)) 13 _ r₁ in
    let (new, r₃) = some_refused (list_any (λ other. bytes_eq other.name name) goods) 10 _ r₂ in
    let (few, r₄) = some_refused (leb 32 (length goods)) 12 _ r₃ in
    (no_bidder bidders (ltb-false 0 (length bidders) none), not-false _ named, new, leb-false 32 (length goods) few)

pub IsUnfinished-good : (ex : Exchange) (good : Good) → IsUnfinished ex → good_refusal ex.goods ex.bidders good.name ≡ None → IsUnfinished (with_good ex good)
IsUnfinished-good ex good is unrefused =
    let (empty, named, new, few) = good_passed ex.goods ex.bidders good.name unrefused in
    let (names, distinct) = named_push (λ g. g.name) ex.goods good (is.goods_named, is.goods) named new in
    record {
      settings = is.settings;
      goods_count = omega (arith, length_push ex.goods good, few);
      bidders_count = is.bidders_count;
      goods_named = names;
      goods = distinct;
      bidders_named = is.bidders_named;
      names = is.names;
      bidders = subst (λ bidders. AllByRecursion (IsBidder (length (ex.goods ++ good ∷ []))) bidders) (sym empty) tt;
      nodes = is.nodes;
      sold = subst (λ bidders. AllByRecursion (λ b. over_sale (length (ex.goods ++ good ∷ [])) b.tree b.own ≡ None) bidders) (sym empty) tt;
    }

-- ---- its goods once more

module _ (ex : Exchange) (k : ℕ) (there : k < length ex.goods) where
  none_yet : Good
  none_yet = record { name = []; exact = false }

  split : ex.goods ≡ take k ex.goods ++ get_or ex.goods k none_yet ∷ drop (suc k) ex.goods
  split = split_at ex.goods k none_yet there

  pub good_again : IsUnfinished ex → good_refusal (take k ex.goods) [] (get_or (good_names ex) k []) ≡ None
  good_again is =
      let same = get_or-map (λ (g : Good). g.name) ex.goods k none_yet [] there in
      let goods = subst (λ goods. AllByRecursion (λ name. IsTrue (is_name name)) (map (λ g. g.name) goods) × IsDistinct bytes_eq (map (λ g. g.name) goods)) split (is.goods_named, is.goods) in
      rw same (good_passes (take k ex.goods) _
      (all_middle (λ name. IsTrue (is_name name)) (λ g. g.name) (take k ex.goods) _ _ goods.0)
      (new_among (λ g. g.name) (take k ex.goods) _ _ goods.1)
      (omega (arith, length-take-le k ex.goods (omega (arith, there)), there, is.goods_count)))

  pub grown : (flag : Bool) → flag ≡ get_or (map (λ good. good.exact) ex.goods) k false
      → take k ex.goods ++ record { name = get_or (good_names ex) k []; exact = flag } ∷ [] ≡ take (k + 1) ex.goods
  grown flag exact =
      rw (exact, get_or-map (λ (g : Good). g.name) ex.goods k none_yet [] there, get_or-map (λ (g : Good). g.exact) ex.goods k none_yet false there, add-one k)
      (sym (take-suc ex.goods k none_yet there))

-- ---- a bidder that isn't refused

pub bidder_passed : (goods : ℕ) (bidders : List Bidder) (b : Bidder) → bidder_refusal goods bidders b ≡ None
    → (is_name b.name ≡ true) × (list_any (λ other. bytes_eq other.name b.name) bidders ≡ false) × (length bidders < 40) × (node_count bidders + length b.tree ≤ 2000) × (over_sale goods b.tree b.own ≡ None)
bidder_passed goods bidders b unrefused =
    let (named, r₁) = some_refused (not (is_name b.name)) 13 _ unrefused in
    let (new, r₂) = some_refused (list_any (λ other. bytes_eq other.name b.name) bidders) 11 _ r₁ in
    let (few, r₃) = some_refused (leb 40 (length bidders) || ltb 2000 (node_count bidders + length b.tree)) 12 _ r₂ in
    let (sold, r₄) = some_refused (is_some (over_sale goods b.tree b.own)) 14 _ r₃ in
    let (few_bidders, few_nodes) = or_parts (leb 40 (length bidders)) (ltb 2000 (node_count bidders + length b.tree)) few in
    (not-false _ named, new, leb-false 40 (length bidders) few_bidders, ltb-false 2000 (node_count bidders + length b.tree) few_nodes, is_some-false _ sold)

pub IsUnfinished-bidder : (ex : Exchange) (b : Bidder) → IsUnfinished ex → IsBidder (length ex.goods) b → bidder_refusal (length ex.goods) ex.bidders b ≡ None → IsUnfinished (with_bidder ex b)
IsUnfinished-bidder ex b is bidder unrefused =
    let (named, new, few, few_nodes, sold) = bidder_passed (length ex.goods) ex.bidders b unrefused in
    let (names, distinct) = named_push (λ x. x.name) ex.bidders b (is.bidders_named, is.names) named new in
    record {
      settings = is.settings;
      goods_count = is.goods_count;
      bidders_count = omega (arith, length_push ex.bidders b, few);
      goods_named = is.goods_named;
      goods = is.goods;
      bidders_named = names;
      names = distinct;
      bidders = all_push (IsBidder (length ex.goods)) ex.bidders b is.bidders bidder;
      nodes = omega (arith, sum_by_push (λ x. length x.tree) ex.bidders b, few_nodes);
      sold = all_push (λ x. over_sale (length ex.goods) x.tree x.own ≡ None) ex.bidders b is.sold sold;
    }

-- ---- no good is sold above what is owned

sold_at : (goods : ℕ) (bidders : List Bidder) → AllByRecursion (λ b. over_sale goods b.tree b.own ≡ None) bidders → (b g : ℕ) (s : NodeSet)
    → b < length (map (λ x. x.tree) bidders) → g < goods → IsSatisfied (tree_of (map (λ x. x.tree) bidders) b) s
    → pos 0 ≤ℤ (pos (slice_index (slice_index_or (map (λ x. x.own) bidders) b []) g) +ℤ units (tree_of (map (λ x. x.tree) bidders) b) s g)
sold_at goods [] sold b g s there known is = absurd (omega arith)
sold_at goods (x ∷ bidders) sold zero g s there known is = sells_owned goods x.tree x.own sold.0 g s known is
sold_at goods (x ∷ bidders) sold (suc b) g s there known is = sold_at goods bidders sold.1 b g s (omega arith) known is

pub IsUnfinished-finished : (ex : Exchange) → IsUnfinished ex → 1 ≤ length ex.goods → 1 ≤ length ex.bidders → IsExchange ex
IsUnfinished-finished ex is good bidder = record {
  settings = is.settings;
  goods_count = (good, is.goods_count);
  bidders_count = (bidder, is.bidders_count);
  goods_named = is.goods_named;
  goods = is.goods;
  bidders_named = is.bidders_named;
  names = is.names;
  bidders = is.bidders;
  nodes = is.nodes;
  owned = λ b g s there known sat. sold_at (length ex.goods) ex.bidders is.sold b g s there (omega (arith, length-map ex.goods (λ (x : Good). x.exact))) sat;
}

-- ---- what is no name is the name of nothing

differs : (name x : List ℕ) → ¬ IsTrue (is_name name) → IsTrue (is_name x) → bytes_eq name x ≡ false
differs name x unlawful is = false_from_ne_true (bytes_eq name x) (λ e. unlawful (subst (λ n. IsTrue (is_name n)) (sym ((bytes_eq-Decides name x).0 e)) is))

all_pass : (name : List ℕ) (names : List (List ℕ)) → AllByRecursion (λ n. IsTrue (is_name n)) names → ¬ IsTrue (is_name name) → position_or_len (bytes_eq name) names ≡ length names
all_pass name [] all unlawful = refl
all_pass name (x ∷ names) all unlawful =
    ap (λ b. cond (not b) (1 + position_or_len (bytes_eq name) names) 0) (differs name x unlawful all.0) ∙ omega (arith, all_pass name names all.1 unlawful)

pub unlawful_absent : (name : List ℕ) (names : List (List ℕ)) → AllByRecursion (λ n. IsTrue (is_name n)) names → ¬ IsTrue (is_name name) → position (bytes_eq name) names ≡ None
unlawful_absent name names all unlawful =
    let n = position_or_len (bytes_eq name) names in
    let not_below : ltb n (length names) ≡ false = le-ltb n (length names) (omega (arith, all_pass name names all unlawful)) in
    ap (λ b. cond b (Some n) None) not_below

-- ---- what a bidder owns

owned_at : (goods : ℕ) (bidders : List Bidder) → AllByRecursion (IsBidder goods) bidders → (b : ℕ) → b < length bidders
    → (length (slice_index_or (map (λ x. x.own) bidders) b []) ≡ goods) × AllByRecursion (λ amount. amount ≤ 1000000) (slice_index_or (map (λ x. x.own) bidders) b [])
owned_at goods [] are b l = absurd (omega arith)
owned_at goods (x ∷ bidders) are zero l = (are.0.own_count, are.0.own)
owned_at goods (x ∷ bidders) are (suc b) l = owned_at goods bidders are.1 b (omega arith)

amount_at : (own : List ℕ) → AllByRecursion (λ amount. amount ≤ 1000000) own → (g : ℕ) → slice_index own g ≤ 1000000
amount_at [] are g = omega arith
amount_at (x ∷ own) are zero = are.0
amount_at (x ∷ own) are (suc g) = amount_at own are.1 g

pub owned_count : (goods : ℕ) (bidders : List Bidder) (b : ℕ) → AllByRecursion (IsBidder goods) bidders → b < length bidders → length (slice_index_or (map (λ x. x.own) bidders) b []) ≡ goods
owned_count goods bidders b are l = (owned_at goods bidders are b l).0

pub owned_most : (goods : ℕ) (bidders : List Bidder) (b g : ℕ) → AllByRecursion (IsBidder goods) bidders → b < length bidders → slice_index (slice_index_or (map (λ x. x.own) bidders) b []) g ≤ 1000000
owned_most goods bidders b g are l = amount_at (slice_index_or (map (λ x. x.own) bidders) b []) (owned_at goods bidders are b l).1 g

pub ruleset owning = (owned_count, owned_most)
