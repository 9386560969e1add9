-- The value that an assign journal says is a function of its records.
use Rattle.std.proofs.Common.{◌≡◌, ◌≤◌, ℕ, zero, suc, Bool, true, false, List, [], ◌∷◌, ◌++◌, length, map, take, ℤ, pos, refl, sym, ◌∙◌, ap, arith}
use Rattle.std.specs.Prelude.{if◌then◌else◌}
use Rattle.std.specs.List.{AllByRecursion, flat_map}
use Rattle.std.proofs.lemmas.List.{map-append, append_assoc, append-nil}
use Rattle.std.proofs.Math.Seq.{take-suc, take-length}
use Rattle.ice_defs.specs.declared.NodeKind.{NodeKind}
use Rattle.ice_defs.specs.declared.NodeKind.TheVariants.{Choose, Buy, Sell}
use Rattle.ice_defs.specs.Sum.{numbers_below}
use Rattle.ice_defs.specs.Tree.{kind_of, children_of}
use Rattle.ice_defs.specs.Set.{Weights, weight_of}
use Rattle.ice_defs.specs.Trade.{Assignment, total_value}
use Rattle.ice_defs.specs.Weighing.{lower_weights}
use Rattle.ice_defs.specs.Exchange.{Good, Bidder, opening_bounds}
use Rattle.ice_defs.specs.Lawful.{IsBidder}
use Rattle.ice_defs.specs.Session.{Assigned}
use Rattle.ice_journal.specs.Records.{Record, assign_end}
use Rattle.ice_journal.specs.Nodes.{node_record}
use Rattle.ice_journal.specs.Records as line
use Rattle.ice_section.specs.Section.{good_record}
use Rattle.ice_section.specs.Described.{bidder_records}
use Rattle.ice_journal_laws.specs.Written.{assigned_records}
use Rattle.ice_journal_laws.specs.Theorems.{IsRightAssigned}

-- the lower values of the nodes before the first bidder, and those of each bidder
pub record Lows : Type 0 where
  pub first : Weights
  pub later : List Weights

abbrev lows : List Record → Lows
lows [] = record { first = []; later = [] }
lows (line.bidder name own ∷ rest) = record { first = []; later = (lows rest).first ∷ (lows rest).later }
lows (line.choose least most children lo hi ∷ rest) = record { first = lo ∷ (lows rest).first; later = (lows rest).later }
lows (line.buy good units lo hi ∷ rest) = record { first = lo ∷ (lows rest).first; later = (lows rest).later }
lows (line.sell good units lo hi ∷ rest) = record { first = lo ∷ (lows rest).first; later = (lows rest).later }
lows (r ∷ rest) = lows rest

lows_of_sets : (sets : Assignment) → lows (map line.set sets ++ line.end assign_end ∷ []) ≡ record { first = []; later = [] }
lows_of_sets [] = refl
lows_of_sets (s ∷ sets) = lows_of_sets sets

lows_of_node : (kind : NodeKind) (children : ℕ) (lo hi : ℤ) (rest : List Record) → lows (node_record kind children lo hi ∷ rest) ≡ record { first = lo ∷ (lows rest).first; later = (lows rest).later }
lows_of_node (Choose least most) children lo hi rest = refl
lows_of_node (Buy good units) children lo hi rest = refl
lows_of_node (Sell good units) children lo hi rest = refl

module _ (kind : ℕ → NodeKind) (children : ℕ → ℕ) (lo hi : ℕ → ℤ) where
  lows_of_nodes : (ns : List ℕ) (rest : List Record)
      → lows (map (λ n. node_record (kind n) (children n) (lo n) (hi n)) ns ++ rest) ≡ record { first = map lo ns ++ (lows rest).first; later = (lows rest).later }
  lows_of_nodes [] rest = refl
  lows_of_nodes (n ∷ ns) rest =
      lows_of_node (kind n) (children n) (lo n) (hi n) (map (λ n. node_record (kind n) (children n) (lo n) (hi n)) ns ++ rest)
      ∙ ap (λ (l : Lows). let x : Lows = record { first = lo n ∷ l.first; later = l.later } in x) (lows_of_nodes ns rest)

-- the weights by number are the weights
weights_below : (w : Weights) (n : ℕ) → n ≤ length w → map (weight_of w) (numbers_below n) ≡ take n w
weights_below w zero h = refl
weights_below w (suc n) h =
    map-append (weight_of w) (numbers_below n) (n ∷ []) ∙ ap (λ (ws : Weights). ws ++ weight_of w n ∷ []) (weights_below w n (omega arith)) ∙ sym (take-suc w n (pos 0) (omega arith))

weights_all : (w : Weights) (n : ℕ) → length w ≡ n → map (weight_of w) (numbers_below n) ≡ w
weights_all w n e = weights_below w n (omega arith) ∙ ap (λ (k : ℕ). take k w) (sym e) ∙ take-length w

lows_of_bidders : (goods : ℕ) (bidders : List Bidder) (rest : List Record) → AllByRecursion (IsBidder goods) bidders → lows rest ≡ record { first = []; later = [] }
    → lows (flat_map bidder_records bidders ++ rest) ≡ record { first = []; later = map (λ b. b.bounds.lo) bidders }
lows_of_bidders goods [] rest each none = none
lows_of_bidders goods (b ∷ bidders) rest each none =
    ap lows (append_assoc (bidder_records b) (flat_map bidder_records bidders) rest)
    ∙ ap (λ (l : Lows). let x : Lows = record { first = []; later = l.first ∷ l.later } in x)
    (lows_of_nodes (kind_of b.tree) (λ n. length (children_of b.tree n)) (weight_of b.bounds.lo) (weight_of b.bounds.hi) (numbers_below (length b.tree)) (flat_map bidder_records bidders ++ rest)
    ∙ ap (λ (l : Lows). let x : Lows = record { first = map (weight_of b.bounds.lo) (numbers_below (length b.tree)) ++ l.first; later = l.later } in x) (lows_of_bidders goods bidders rest each.1 none)
    ∙ ap (λ (w : Weights). let x : Lows = record { first = w; later = map (λ b. b.bounds.lo) bidders } in x)
    (append-nil (map (weight_of b.bounds.lo) (numbers_below (length b.tree))) ∙ weights_all b.bounds.lo (length b.tree) each.0.bounds.lo_count))

lows_of_goods : (goods : List Good) (rest : List Record) → lows (map good_record goods ++ rest) ≡ lows rest
lows_of_goods [] rest = refl
lows_of_goods (good ∷ goods) rest = by good.exact (lows_of_goods goods rest)
  where
    by : (b : Bool) → lows (map good_record goods ++ rest) ≡ lows rest → lows ((if b then line.exact good.name else line.good good.name) ∷ (map good_record goods ++ rest)) ≡ lows rest
    by true e = e
    by false e = e

abbrev sets_said : List Record → Assignment
sets_said [] = []
sets_said (line.set s ∷ rest) = s ∷ sets_said rest
sets_said (r ∷ rest) = sets_said rest

sets_of_goods : (goods : List Good) (rest : List Record) → sets_said (map good_record goods ++ rest) ≡ sets_said rest
sets_of_goods [] rest = refl
sets_of_goods (good ∷ goods) rest = by good.exact (sets_of_goods goods rest)
  where
    by : (b : Bool) → sets_said (map good_record goods ++ rest) ≡ sets_said rest → sets_said ((if b then line.exact good.name else line.good good.name) ∷ (map good_record goods ++ rest)) ≡ sets_said rest
    by true e = e
    by false e = e

sets_of_node : (kind : NodeKind) (children : ℕ) (lo hi : ℤ) (rest : List Record) → sets_said (node_record kind children lo hi ∷ rest) ≡ sets_said rest
sets_of_node (Choose least most) children lo hi rest = refl
sets_of_node (Buy good units) children lo hi rest = refl
sets_of_node (Sell good units) children lo hi rest = refl

module _ (kind : ℕ → NodeKind) (children : ℕ → ℕ) (lo hi : ℕ → ℤ) where
  sets_of_nodes : (ns : List ℕ) (rest : List Record) → sets_said (map (λ n. node_record (kind n) (children n) (lo n) (hi n)) ns ++ rest) ≡ sets_said rest
  sets_of_nodes [] rest = refl
  sets_of_nodes (n ∷ ns) rest =
      sets_of_node (kind n) (children n) (lo n) (hi n) (map (λ n. node_record (kind n) (children n) (lo n) (hi n)) ns ++ rest) ∙ sets_of_nodes ns rest

sets_of_bidders : (bidders : List Bidder) (rest : List Record) → sets_said (flat_map bidder_records bidders ++ rest) ≡ sets_said rest
sets_of_bidders [] rest = refl
sets_of_bidders (b ∷ bidders) rest =
    ap sets_said (append_assoc (bidder_records b) (flat_map bidder_records bidders) rest)
    ∙ sets_of_nodes (kind_of b.tree) (λ n. length (children_of b.tree n)) (weight_of b.bounds.lo) (weight_of b.bounds.hi) (numbers_below (length b.tree)) (flat_map bidder_records bidders ++ rest)
    ∙ sets_of_bidders bidders rest

sets_of_sets : (sets : Assignment) → sets_said (map line.set sets ++ line.end assign_end ∷ []) ≡ sets
sets_of_sets [] = refl
sets_of_sets (s ∷ sets) = ap (λ (rest : Assignment). s ∷ rest) (sets_of_sets sets)

-- the records after the settings, grouped to the right
regrouped : (a : Assigned) → map good_record a.exchange.goods ++ flat_map bidder_records a.exchange.bidders ++ line.assign ∷ map line.set a.sets ++ line.end assign_end ∷ []
    ≡ map good_record a.exchange.goods ++ (flat_map bidder_records a.exchange.bidders ++ (line.assign ∷ (map line.set a.sets ++ line.end assign_end ∷ [])))
regrouped a =
    append_assoc (map good_record a.exchange.goods ++ flat_map bidder_records a.exchange.bidders) (line.assign ∷ map line.set a.sets) (line.end assign_end ∷ [])
    ∙ append_assoc (map good_record a.exchange.goods) (flat_map bidder_records a.exchange.bidders) (line.assign ∷ (map line.set a.sets ++ line.end assign_end ∷ []))

-- the value that records say
abbrev pub value_said : List Record → ℤ
value_said records = total_value (sets_said records) (lows records).later

pub value_of_assigned : (a : Assigned) → IsRightAssigned a → value_said (assigned_records a) ≡ total_value a.sets (lower_weights (opening_bounds a.exchange))
value_of_assigned a right = ap (λ (s : Assignment). total_value s (lows (assigned_records a)).later) sets ∙ ap (λ (w : List Weights). total_value a.sets w) lower
  where
    sets : sets_said (assigned_records a) ≡ a.sets
    sets =
        ap sets_said (regrouped a)
        ∙ sets_of_goods a.exchange.goods (flat_map bidder_records a.exchange.bidders ++ (line.assign ∷ (map line.set a.sets ++ line.end assign_end ∷ [])))
        ∙ sets_of_bidders a.exchange.bidders (line.assign ∷ (map line.set a.sets ++ line.end assign_end ∷ []))
        ∙ sets_of_sets a.sets

    lower : (lows (assigned_records a)).later ≡ lower_weights (opening_bounds a.exchange)
    lower =
        ap (λ (rs : List Record). (lows rs).later) (regrouped a)
        ∙ ap (λ (l : Lows). l.later) (lows_of_goods a.exchange.goods (flat_map bidder_records a.exchange.bidders ++ (line.assign ∷ (map line.set a.sets ++ line.end assign_end ∷ [])))
        ∙ lows_of_bidders (length a.exchange.goods) a.exchange.bidders (line.assign ∷ (map line.set a.sets ++ line.end assign_end ∷ [])) right.exchange.bidders (lows_of_sets a.sets))
        ∙ mapped a.exchange.bidders
      where
        mapped : (bidders : List Bidder) → map (λ (b : Bidder). b.bounds.lo) bidders ≡ lower_weights (map (λ (b : Bidder). b.bounds) bidders)
        mapped [] = refl
        mapped (b ∷ bidders) = ap (λ (w : List Weights). b.bounds.lo ∷ w) (mapped bidders)
