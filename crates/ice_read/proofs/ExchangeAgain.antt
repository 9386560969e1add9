-- An exchange that is written as a value is read again from it.
use Rattle.std.proofs.Common.{◌≡◌, ℕ, suc, ◌≤◌, ◌||◌, Bool, true, false, eqb, List, [], ◌∷◌, ◌++◌, length, map, None, Ok, refl, sym, ap, ◌∙◌, subst, arith, append_assoc, length-append}
use Rattle.std.specs.Prelude.{codes, IsTrue}
use Rattle.std.specs.List.{AllByRecursion, IsDistinct}
use Rattle.std.specs.Str.{bytes_eq}
use Rattle.std.proofs.lemmas.Bool.{or_from, ne_eqb, cond-false}
use Rattle.std.proofs.lemmas.List.{append-nil, length-map}
use Rattle.std.proofs.lemmas.List.Sums.{sum_by-append, sum_by-cons}
use Rattle.serde_json.specs.Data.{Data, array}
use Rattle.ice_defs.specs.Name.{is_name}
use Rattle.ice_defs.specs.Making.{good_refusal, node_count, over_sale, bidder_refusal, exchange_refusal}
use Rattle.ice_defs.specs.Lawful.{IsBidder, IsExchange}
use Rattle.ice_defs.specs.Exchange.{Settings, Good, Bidder, Exchange}
use Rattle.ice_defs.specs.FileFault.{Path, Read, ◌>>=◌}
use Rattle.ice_defs.proofs.Lists.{all_middle}
use Rattle.ice_defs.proofs.Naming.{AreNamed, new_among}
use Rattle.ice_trade.proofs.Passing.{good_passes, bidder_passes}
use Rattle.ice_read.specs.Values.{at_member, at_index}
use Rattle.ice_read.specs.TreeFile.{Draft, tree_at}
use Rattle.ice_read.specs.ExchangeFile.{unless_refused, add_good, good_value, goods_from, goods_at, add_bidder, bidder_at, bidders_from, bidders_at, not_empty, exchange_of_value}
use Rattle.ice_read.specs.Written.{items_of, good_data, node_data, bidder_data, exchange_data}
use Rattle.ice_read.proofs.PartsAgain.{settings_again}
use Rattle.ice_read.proofs.OwnedAmounts.{own_again}
use Rattle.ice_read.proofs.TreesAgain.{tree_again}

-- ---- goods

good_by : (path : Path) (name : List ℕ) (exact : Bool) → good_value path (good_data (record { name = name; exact = exact })) ≡ Ok (record { name = name; exact = exact })
good_by path name true = refl
good_by path name false = refl

good_again : (path : Path) (good : Good) → good_value path (good_data good) ≡ Ok good
good_again path good = good_by path good.name good.exact

goods_again : (path : Path) (i : ℕ) (before after : List Good) → AreNamed (λ good. good.name) (before ++ after) → length (before ++ after) ≤ 32
    → goods_from path i before (items_of (map good_data after)) ≡ Ok (before ++ after)
goods_again path i before [] named few = ap Ok (sym (append-nil before))
goods_again path i before (good ∷ after) named few =
    let next = append_assoc before (good ∷ []) after in
    let passes : good_refusal before [] good.name ≡ None =
    good_passes before good.name (all_middle (λ n. IsTrue (is_name n)) (λ g. g.name) before good after named.0) (new_among (λ g. g.name) before good after named.1) (omega (arith, length-append before (good ∷ after))) in
    ap (λ r. r >>= λ x. add_good (at_index path i) before x >>= λ more. goods_from path (suc i) more (items_of (map good_data after))) (good_again (at_index path i) good)
    ∙ ap (λ r. unless_refused (at_index path i) r (before ++ good ∷ []) >>= λ more. goods_from path (suc i) more (items_of (map good_data after))) passes
    ∙ goods_again path (suc i) (before ++ good ∷ []) after (subst (AreNamed (λ g. g.name)) (sym next) named) (omega (arith, ap length next))
    ∙ ap Ok next

-- ---- bidders

module _ (goods : List Good) (distinct : IsDistinct bytes_eq (map (λ good. good.name) goods)) where
  abbrev names : List (List ℕ)
  names = map (λ good. good.name) goods

  abbrev with_tree : Bidder → List ℕ → Draft → Read Bidder
  with_tree b own draft = Ok (record { name = b.name; own = own; tree = draft.tree; bounds = draft.bounds })

  bidder_again : (path : Path) (b : Bidder) → IsBidder (length goods) b → bidder_at names path (bidder_data goods b) ≡ Ok b
  bidder_again path b is =
      ap (λ (r : Read (List ℕ)). r >>= λ own. tree_at names (at_member path (codes "tree")) (node_data goods b 16 0) >>= with_tree b own) (own_again (at_member path (codes "own")) goods b.own distinct is.own_count is.own)
      ∙ ap (λ (r : Read Draft). r >>= with_tree b b.own) (tree_again goods distinct b is (at_member path (codes "tree")))

  abbrev pub AreOwned : List Bidder → Type 0
  AreOwned bidders = AllByRecursion (λ b. over_sale (length goods) b.tree b.own ≡ None) bidders

  bidders_again : (path : Path) (i : ℕ) (before after : List Bidder) → AllByRecursion (IsBidder (length goods)) after → AreOwned after → AreNamed (λ b. b.name) (before ++ after)
      → length (before ++ after) ≤ 40 → node_count (before ++ after) ≤ 2000 → bidders_from names path i before (items_of (map (bidder_data goods) after)) ≡ Ok (before ++ after)
  bidders_again path i before [] are owned named few few_nodes = ap Ok (sym (append-nil before))
  bidders_again path i before (b ∷ after) are owned named few few_nodes =
      let next = append_assoc before (b ∷ []) after in
      let count = sum_by-append (λ (x : Bidder). length x.tree) before (b ∷ after) in
      let more = sum_by-cons (λ (x : Bidder). length x.tree) b after in
      let size : length names ≡ length goods = length-map goods (λ (good : Good). good.name) in
      let passes : bidder_refusal (length names) before b ≡ None =
      ap (λ n. bidder_refusal n before b) size
      ∙ bidder_passes (length goods) before b (all_middle (λ n. IsTrue (is_name n)) (λ x. x.name) before b after named.0) (new_among (λ x. x.name) before b after named.1)
      (omega (arith, length-append before (b ∷ after))) (omega (arith, count, more)) owned.0 in
      ap (λ (r : Read Bidder). r >>= λ x. add_bidder (at_index path i) (length names) before x >>= λ more. bidders_from names path (suc i) more (items_of (map (bidder_data goods) after))) (bidder_again (at_index path i) b are.0)
      ∙ ap (λ r. unless_refused (at_index path i) r (before ++ b ∷ []) >>= λ more. bidders_from names path (suc i) more (items_of (map (bidder_data goods) after))) passes
      ∙ bidders_again path (suc i) (before ++ b ∷ []) after are.1 owned.1 (subst (AreNamed (λ x. x.name)) (sym next) named) (omega (arith, ap length next)) (omega (arith, ap node_count next))
      ∙ ap Ok next

-- ---- the whole

pub exchange_again : (ex : Exchange) → IsExchange ex → AllByRecursion (λ b. over_sale (length ex.goods) b.tree b.own ≡ None) ex.bidders → exchange_of_value (exchange_data ex) ≡ Ok ex
exchange_again ex is owned =
    let some : exchange_refusal ex.goods ex.bidders ≡ None =
    cond-false (eqb (length ex.goods) 0 || eqb (length ex.bidders) 0) _ _ (or_from _ _ (ne_eqb (length ex.goods) 0 (λ e. omega (arith, is.goods_count))) (ne_eqb (length ex.bidders) 0 (λ e. omega (arith, is.bidders_count)))) in
    ap (λ (r : Read Settings). r >>= λ settings. goods_at (codes "goods" ∷ []) goods_value >>= λ goods. bidders_at goods (codes "bidders" ∷ []) bidders_value >>= λ bidders. not_empty settings goods bidders) (settings_again (codes "settings" ∷ []) ex.settings is.settings)
    ∙ ap (λ (r : Read (List Good)). r >>= λ goods. bidders_at goods (codes "bidders" ∷ []) bidders_value >>= λ bidders. not_empty ex.settings goods bidders) (goods_again (codes "goods" ∷ []) 0 [] ex.goods (is.goods_named, is.goods) is.goods_count.1)
    ∙ ap (λ (r : Read (List Bidder)). r >>= λ bidders. not_empty ex.settings ex.goods bidders) (bidders_again ex.goods is.goods (codes "bidders" ∷ []) 0 [] ex.bidders is.bidders owned (is.bidders_named, is.names) is.bidders_count.1 is.nodes)
    ∙ ap (λ r. unless_refused [] r (record { settings = ex.settings; goods = ex.goods; bidders = ex.bidders })) some
  where
    goods_value : Data
    goods_value = array (items_of (map good_data ex.goods))

    bidders_value : Data
    bidders_value = array (items_of (map (bidder_data ex.goods) ex.bidders))
