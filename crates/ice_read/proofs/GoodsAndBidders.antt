-- The goods and bidders of an exchange, one after another.
use Rattle.std.proofs.Common.{◌≡◌, ℕ, suc, ◌+◌, ◌<◌, ◌≤◌, true, false, List, [], ◌∷◌, ◌++◌, length, drop, get_or, Option, Some, None, refl, sym, ap, ◌∙◌, rules, add-one, drop-cons}
use Rattle.std.specs.Prelude.{Ok, Err, IsSome, codes, unwrap_or}
use Rattle.std.proofs.lemmas.List.{drop_all}
use Rattle.ice_defs.specs.Exchange.{Good, Bidder, Exchange}
use Rattle.ice_defs.specs.FileFault.{FileFault, Path, Read, refuse, ◌>>=◌}
use Rattle.ice_defs.specs.Lawful.{good_names}
use Rattle.ice_defs.specs.Tree.{Tree}
use Rattle.ice_defs.specs.Bounds.{Bounds}
use Rattle.ice_defs.specs.Making.{bidder_refusal}
use Rattle.std.proofs.Math.ListN.{length-map}
use Rattle.ice_trade.specs.declared.faults.MakeFault.{MakeFault}
use Rattle.ice_trade.specs.Fault.{make_fault_number}
use Rattle.serde_json.specs.Data.{Data, null, boolean, number, string, array, object}
use Rattle.serde_json.specs.Find.{as_str}
use Rattle.serde_json.specs.View.{view, items_view}
use Rattle.serde_json.specs.declared.value.Value.{Value}
use Rattle.ice_read.specs.declared.fault.ReadFault.{ReadFault}
use Rattle.ice_read.specs.declared.cause.ReadCause.TheVariants.{Make}
use Rattle.ice_read.specs.Values.{at_index, has_exactly, of_member, text_of}
use Rattle.ice_read.specs.TreeFile.{tree_at}
use Rattle.ice_read.specs.ExchangeFile.{unless_refused, good_value, add_good, goods_from, bidder_at, add_bidder, bidders_from, own_at}
use Rattle.ice_read.specs.Reading.{goods_with, bidders_with}
use Rattle.ice_read.specs.Fault.{fault_at}
use Rattle.ice_read.proofs.PlacesOfFaults.{refused}

pub no_good : (d : Data) (path : Path) → None ≡ as_str d → false ≡ has_exactly (codes "exact" ∷ []) d → good_value path d ≡ refuse 2 path
no_good null path text exact = refl
no_good (boolean b) path text exact = refl
no_good (number n) path text exact = refl
no_good (string s) path text exact = cc
no_good (array ds) path text exact = refl
no_good (object ms) path text exact = rw (← exact)

none_is_some : IsSome {T = ℕ} None → ⊥
none_is_some h = search rules

-- what the exchange's maker refuses
pub unmade : {X : Type 0} (due : Option ℕ) (fault : MakeFault) (outer : ReadFault) (x : X) (path : Path) → due ≡ make_fault_number fault → IsSome due → outer ≡ record { place = []; cause = Make fault }
    → unless_refused path due x ≡ Err (fault_at path outer)
unmade None fault outer x path is some e = absurd (none_is_some some)
unmade (Some n) fault outer x path is some e = refused n (Make fault) outer e (ap (λ o. unwrap_or o 0) (sym is)) path

chained : {A B C : Type 0} (m : Read A) (f : A → Read B) (g : B → Read C) → (m >>= λ x. f x >>= g) ≡ ((m >>= f) >>= g)
chained (Ok x) f g = refl
chained (Err fault) f g = refl

module _ (ex : Exchange) (path : Path) (vs : List Value) (i : ℕ) where
  pub next_good : (v : Value) (goods : List Good) → i < length vs → get_or vs i v ≡ v → goods_with ex (at_index path i) (view v) ≡ Ok goods
      → goods_from path i ex.goods (items_view (drop i vs)) ≡ goods_from path (i + 1) goods (items_view (drop (i + 1) vs))
  next_good v goods h e read =
      rw (drop-cons vs i v h, e, add-one i)
      (chained (good_value (at_index path i) (view v)) (add_good (at_index path i) ex.goods) (λ more. goods_from path (suc i) more (items_view (drop (suc i) vs))) ∙ ap (λ r. r >>= λ more. goods_from path (suc i) more (items_view (drop (suc i) vs))) read)

  pub bad_good : (v : Value) (fault : FileFault) → i < length vs → get_or vs i v ≡ v → goods_with ex (at_index path i) (view v) ≡ Err fault → goods_from path i ex.goods (items_view (drop i vs)) ≡ Err fault
  bad_good v fault h e read =
      rw (drop-cons vs i v h, e)
      (chained (good_value (at_index path i) (view v)) (add_good (at_index path i) ex.goods) (λ more. goods_from path (suc i) more (items_view (drop (suc i) vs))) ∙ ap (λ r. r >>= λ more. goods_from path (suc i) more (items_view (drop (suc i) vs))) read)

  pub no_more_good : length vs ≤ i → goods_from path i ex.goods (items_view (drop i vs)) ≡ Ok ex.goods
  no_more_good h = rw (drop_all i vs h)

  pub next_bidder : (v : Value) (bidders : List Bidder) → i < length vs → get_or vs i v ≡ v → bidders_with ex (at_index path i) (view v) ≡ Ok bidders
      → bidders_from (good_names ex) path i ex.bidders (items_view (drop i vs)) ≡ bidders_from (good_names ex) path (i + 1) bidders (items_view (drop (i + 1) vs))
  next_bidder v bidders h e read =
      rw (drop-cons vs i v h, e, add-one i)
      (chained (bidder_at (good_names ex) (at_index path i) (view v)) (add_bidder (at_index path i) (length (good_names ex)) ex.bidders) (λ more. bidders_from (good_names ex) path (suc i) more (items_view (drop (suc i) vs)))
      ∙ ap (λ r. r >>= λ more. bidders_from (good_names ex) path (suc i) more (items_view (drop (suc i) vs))) read)

  pub bad_bidder : (v : Value) (fault : FileFault) → i < length vs → get_or vs i v ≡ v → bidders_with ex (at_index path i) (view v) ≡ Err fault → bidders_from (good_names ex) path i ex.bidders (items_view (drop i vs)) ≡ Err fault
  bad_bidder v fault h e read =
      rw (drop-cons vs i v h, e)
      (chained (bidder_at (good_names ex) (at_index path i) (view v)) (add_bidder (at_index path i) (length (good_names ex)) ex.bidders) (λ more. bidders_from (good_names ex) path (suc i) more (items_view (drop (suc i) vs)))
      ∙ ap (λ r. r >>= λ more. bidders_from (good_names ex) path (suc i) more (items_view (drop (suc i) vs))) read)

  pub no_more_bidder : length vs ≤ i → bidders_from (good_names ex) path i ex.bidders (items_view (drop i vs)) ≡ Ok ex.bidders
  no_more_bidder h = rw (drop_all i vs h)

-- ---- a bidder

module _ (ex : Exchange) (path : Path) (d : Data) (name own same : List ℕ) (tree : Tree) (bounds : Bounds) (exact : true ≡ has_exactly (codes "name" ∷ codes "own" ∷ codes "tree" ∷ []) d) (named : of_member path d (codes "name") text_of ≡ Ok name)
    (owned : of_member path d (codes "own") (own_at (good_names ex)) ≡ Ok own) (is : same ≡ own) (grown : of_member path d (codes "tree") (tree_at (good_names ex)) ≡ Ok (record { tree = tree; bounds = bounds })) where
  pub bidder_is : bidder_at (good_names ex) path d ≡ Ok (record { name = name; own = same; tree = tree; bounds = bounds })
  bidder_is = rw (← exact, named, owned, grown, is)

  pub bidder_chain : bidders_with ex path d ≡ add_bidder path (length (good_names ex)) ex.bidders (record { name = name; own = same; tree = tree; bounds = bounds })
  bidder_chain = ap (λ r. r >>= λ b. add_bidder path (length (good_names ex)) ex.bidders b) bidder_is

pub bidder_made : (ex : Exchange) (path : Path) (b : Bidder) → bidder_refusal (length ex.goods) ex.bidders b ≡ None → add_bidder path (length (good_names ex)) ex.bidders b ≡ Ok (ex.bidders ++ b ∷ [])
bidder_made ex path b due = rw (length-map ex.goods (λ good. good.name), due)

pub bidder_unmade : (ex : Exchange) (path : Path) (b : Bidder) (fault : MakeFault) (outer : ReadFault) → bidder_refusal (length ex.goods) ex.bidders b ≡ make_fault_number fault → IsSome (bidder_refusal (length ex.goods) ex.bidders b)
    → outer ≡ record { place = []; cause = Make fault } → add_bidder path (length (good_names ex)) ex.bidders b ≡ Err (fault_at path outer)
bidder_unmade ex path b fault outer due some is = rw (length-map ex.goods (λ good. good.name)) (unmade (bidder_refusal (length ex.goods) ex.bidders b) fault outer (ex.bidders ++ b ∷ []) path due some is)
