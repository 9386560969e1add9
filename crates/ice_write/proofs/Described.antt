-- The parts of an exchange that are put.
use Rattle.std.proofs.Common.{◌≡◌, ◌∙◌, sym, ap, ℕ, ◌<◌, Bool, false, List, [], ◌∷◌, length, get_or}
use Rattle.std.specs.Prelude.{slice_index_or}
use Rattle.std.proofs.lemmas.List.{get_or-map}
use Rattle.ice_defs.specs.Tree.{Tree}
use Rattle.ice_defs.specs.Bounds.{Bounds, no_bounds}
use Rattle.ice_defs.specs.Trade.{is_exact}
use Rattle.ice_defs.specs.Exchange.{Good, Bidder, Exchange, trees_of, exact_of, names_of, opening_bounds}
use Rattle.ice_defs.specs.Lawful.{IsExchange, good_names}
use Rattle.ice_trade.proofs.Weighted.{bidder_bounds}
use Rattle.ice_journal.specs.Records as line
use Rattle.ice_section.specs.Described.{node_records, bidder_records}
use Rattle.ice_write.specs.Bidders.{no_bidder, with_tree, bidder_of}

pub good_is : (ex : Exchange) (g : ℕ) (name : List ℕ) (exact : Bool) → g < length ex.goods → name ≡ slice_index_or (good_names ex) g [] → exact ≡ is_exact (exact_of ex) g
    → get_or ex.goods g (record { name = name; exact = exact }) ≡ record { name = name; exact = exact }
good_is ex g name exact there named marked =
    let d : Good = record { name = name; exact = exact } in
    let n = named ∙ get_or-map (λ (good : Good). good.name) ex.goods g d [] there in
    let x = marked ∙ get_or-map (λ (good : Good). good.exact) ex.goods g d false there in
    sym (λ i. record { name = n i; exact = x i })

-- a bidder with other words for its parts
pub bidder_is : (ex : Exchange) (b : ℕ) (name own : List ℕ) (tree : Tree) (bounds : Bounds) → b < length ex.bidders → name ≡ slice_index_or (names_of ex) b [] → own ≡ (bidder_of ex b).own
    → tree ≡ slice_index_or (trees_of ex) b tree → bounds ≡ slice_index_or (opening_bounds ex) b bounds → bidder_records (bidder_of ex b) ≡ line.bidder name own ∷ node_records (with_tree tree bounds)
bidder_is ex b name own tree bounds there named owns of_tree of_bounds =
    let n = named ∙ get_or-map (λ (x : Bidder). x.name) ex.bidders b no_bidder [] there in
    let t = of_tree ∙ get_or-map (λ (x : Bidder). x.tree) ex.bidders b no_bidder tree there in
    let l = of_bounds ∙ get_or-map (λ (x : Bidder). x.bounds) ex.bidders b no_bidder bounds there in
    sym (λ i. line.bidder (n i) (owns i) ∷ node_records (with_tree (t i) (l i)))

-- a bidder's bounds have a value for each node of its tree
pub sized_bounds : (ex : Exchange) (b : ℕ) (tree : Tree) (bounds : Bounds) → IsExchange ex → b < length ex.bidders → tree ≡ slice_index_or (trees_of ex) b tree → bounds ≡ slice_index_or (opening_bounds ex) b bounds
    → length bounds.lo ≡ length tree
sized_bounds ex b tree bounds lawful there of_tree of_bounds =
    let t = of_tree ∙ get_or-map (λ (x : Bidder). x.tree) ex.bidders b no_bidder tree there in
    let l = of_bounds ∙ get_or-map (λ (x : Bidder). x.bounds) ex.bidders b no_bidder bounds there in
    let tree_there = get_or-map (λ (x : Bidder). x.tree) ex.bidders b no_bidder [] there in
    let bounds_there = get_or-map (λ (x : Bidder). x.bounds) ex.bidders b no_bidder no_bounds there in
    ap (λ (x : Bounds). length x.lo) (l ∙ sym bounds_there) ∙ (bidder_bounds ex b lawful there).lo_count ∙ ap (λ (x : Tree). length x) (tree_there ∙ sym t)
