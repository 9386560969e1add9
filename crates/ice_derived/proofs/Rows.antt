-- What lies where in the one list of numbers of derived goods.
use Rattle.std.proofs.Common.{ℕ, zero, suc, ◌+◌, ◌-◌, ◌*◌, ◌<◌, ◌≤◌, ◌≡◌, List, [], ◌∷◌, ◌++◌, length, sum, take, drop, get_or, ℤ, pos, refl, arith, ap, sym, ◌∙◌, subst, ◌⊎◌, inl, inr}
use Rattle.std.proofs.lemmas.List.{get_or-take, get_or-drop, drop-drop, length-take-le, length-drop, take-append-le, drop-append-le, nil_from_length, get_or_past, get_or_append_left, get_or-append_right, get_or_push, length_push, length-append}
use Rattle.std.proofs.lemmas.List.Sums.{sum_by-cons, sum-map}
use Rattle.std.proofs.lemmas.List.Concat.{length-flat_map}
use Rattle.std.proofs.lemmas.Bool.{cases_lt}
use Rattle.std.proofs.lemmas.Int.{ints}
use Rattle.std.proofs.Math.Nat.{mul-le-mul_right}
use Rattle.std.proofs.Math.Seq.{take-append_seam, drop-append_seam}
use Rattle.ice_defs.specs.Set.{Weights, weight_of}
use Rattle.ice_defs.specs.Trade.{weights_of}
use Rattle.ice_defs.specs.Derived.{Derived, derived_at}
use Rattle.ice_refute.specs.Waiting.{nodes_of}
use Rattle.ice_derived.specs.Ranges.{IsAmount, AreAmounts, IsLimit, AreAllAmounts}
use Rattle.ice_derived.specs.Packing.{rows_of, goods_of, joined, PackedView, IsLaidOut, AreFit}

-- ---- one derived good

sum_cons : (n : ℕ) (nodes : List ℕ) → sum (n ∷ nodes) ≡ n + sum nodes
sum_cons n nodes = sum_by-cons (λ (k : ℕ). k) n nodes

pub node_count : {X : Type 0} (ws : List (List X)) (b : ℕ) → get_or (nodes_of ws) b 0 ≡ length (get_or ws b [])
node_count [] b = refl
node_count (w ∷ ws) zero = refl
node_count (w ∷ ws) (suc b) = node_count ws b

pub row_at : (nodes : List ℕ) (numbers : List ℤ) (b : ℕ) → b < length nodes → weights_of (rows_of nodes numbers) b ≡ take (get_or nodes b 0) (drop (sum (take b nodes)) numbers)
row_at [] numbers b h = absurd (omega (arith, h))
row_at (n ∷ nodes) numbers zero h = refl
row_at (n ∷ nodes) numbers (suc b) h =
    row_at nodes (drop n numbers) b (omega (arith, h))
    ∙ ap (take (get_or nodes b 0)) (drop-drop (sum (take b nodes)) n numbers ∙ ap (λ i. drop i numbers) (sym (sum_cons n (take b nodes))))

pub amount_at : (nodes : List ℕ) (numbers : List ℤ) (b n : ℕ) → b < length nodes → n < get_or nodes b 0
    → weight_of (weights_of (rows_of nodes numbers) b) n ≡ weight_of numbers (sum (take b nodes) + n)
amount_at nodes numbers b n h l =
    ap (λ (w : Weights). weight_of w n) (row_at nodes numbers b h)
    ∙ get_or-take (get_or nodes b 0) (drop (sum (take b nodes)) numbers) n (pos 0) l ∙ get_or-drop (sum (take b nodes)) numbers n (pos 0)

pub nodes_of-rows : (nodes : List ℕ) (numbers : List ℤ) → sum nodes ≤ length numbers → nodes_of (rows_of nodes numbers) ≡ nodes
nodes_of-rows [] numbers h = refl
nodes_of-rows (n ∷ nodes) numbers h =
    ap (λ k. k ∷ nodes_of (rows_of nodes (drop n numbers))) (length-take-le n numbers (omega (arith, h, sum_cons n nodes)))
    ∙ ap (λ ns. n ∷ ns) (nodes_of-rows nodes (drop n numbers) (omega (arith, h, sum_cons n nodes, length-drop n numbers)))

rows-append : (nodes : List ℕ) (numbers more : List ℤ) → sum nodes ≤ length numbers → rows_of nodes (numbers ++ more) ≡ rows_of nodes numbers
rows-append [] numbers more h = refl
rows-append (n ∷ nodes) numbers more h =
    let front : n ≤ length numbers = omega (arith, h, sum_cons n nodes) in
    ap (λ w. w ∷ rows_of nodes (drop n (numbers ++ more))) (take-append-le n numbers more front)
    ∙ ap (λ rest. take n numbers ∷ rows_of nodes rest) (drop-append-le n numbers more front)
    ∙ ap (λ rows. take n numbers ∷ rows) (rows-append nodes (drop n numbers) more (omega (arith, h, sum_cons n nodes, length-drop n numbers)))

pub rows-joined : (ws : List Weights) → rows_of (nodes_of ws) (joined ws) ≡ ws
rows-joined [] = refl
rows-joined (w ∷ ws) =
    ap (λ v. v ∷ rows_of (nodes_of ws) (drop (length w) (w ++ joined ws))) (take-append_seam w (joined ws))
    ∙ ap (λ rest. w ∷ rows_of (nodes_of ws) rest) (drop-append_seam w (joined ws)) ∙ ap (λ vs. w ∷ vs) (rows-joined ws)

-- where a row begins
pub start_more : (nodes : List ℕ) (b : ℕ) → b < length nodes → sum (take (suc b) nodes) ≡ sum (take b nodes) + get_or nodes b 0
start_more [] b h = absurd (omega (arith, h))
start_more (n ∷ nodes) zero h = omega (arith, sum_cons n [])
start_more (n ∷ nodes) (suc b) h = omega (arith, sum_cons n (take (suc b) nodes), sum_cons n (take b nodes), start_more nodes b (omega (arith, h)))

pub start_inside : (nodes : List ℕ) (b : ℕ) → b < length nodes → sum (take b nodes) + get_or nodes b 0 ≤ sum nodes
start_inside [] b h = absurd (omega (arith, h))
start_inside (n ∷ nodes) zero h = omega (arith, sum_cons n nodes)
start_inside (n ∷ nodes) (suc b) h = omega (arith, sum_cons n nodes, sum_cons n (take b nodes), start_inside nodes b (omega (arith, h)))

-- ---- all of them

pub length-goods : (nodes : List ℕ) (numbers limits : List ℤ) → length (goods_of nodes numbers limits) ≡ length limits
length-goods nodes numbers [] = refl
length-goods nodes numbers (l ∷ limits) = ap suc (length-goods nodes (drop (sum nodes) numbers) limits)

pub good_at : (nodes : List ℕ) (numbers limits : List ℤ) (k : ℕ) → k < length limits
    → derived_at (goods_of nodes numbers limits) k ≡ record { amounts = rows_of nodes (drop (k * sum nodes) numbers); limit = get_or limits k (pos 0) }
good_at nodes numbers [] k h = absurd (omega (arith, h))
good_at nodes numbers (l ∷ limits) zero h =
    let none : 0 ≡ 0 * sum nodes = omega arith in
    ap (λ i. let g : Derived = record { amounts = rows_of nodes (drop i numbers); limit = l } in g) none
good_at nodes numbers (l ∷ limits) (suc k) h =
    let next : sum nodes + k * sum nodes ≡ suc k * sum nodes = omega arith in
    good_at nodes (drop (sum nodes) numbers) limits k (omega (arith, h))
    ∙ ap (λ rest. let g : Derived = record { amounts = rows_of nodes rest; limit = get_or limits k (pos 0) } in g)
    (drop-drop (k * sum nodes) (sum nodes) numbers ∙ ap (λ i. drop i numbers) next)

pub goods-append : (nodes : List ℕ) (numbers limits more : List ℤ) (l : ℤ) → length numbers ≡ length limits * sum nodes
    → goods_of nodes (numbers ++ more) (limits ++ l ∷ []) ≡ goods_of nodes numbers limits ++ record { amounts = rows_of nodes more; limit = l } ∷ []
goods-append nodes numbers [] more l full =
    let none : numbers ≡ [] = nil_from_length numbers (omega (arith, full)) in
    ap (λ rest. goods_of nodes (rest ++ more) (l ∷ [])) none
goods-append nodes numbers (x ∷ limits) more l full =
    let s = sum nodes in
    let size : length numbers ≡ s + length limits * s = omega (arith, full) in
    let front : s ≤ length numbers = omega (arith, size) in
    ap (λ rows. let g : Derived = record { amounts = rows; limit = x } in g ∷ goods_of nodes (drop s (numbers ++ more)) (limits ++ l ∷ [])) (rows-append nodes numbers more front)
    ∙ ap (λ rest. let g : Derived = record { amounts = rows_of nodes numbers; limit = x } in g ∷ goods_of nodes rest (limits ++ l ∷ [])) (drop-append-le s numbers more front)
    ∙ ap (λ gs. let g : Derived = record { amounts = rows_of nodes numbers; limit = x } in g ∷ gs)
    (goods-append nodes (drop s numbers) limits more l (omega (arith, size, length-drop s numbers)))

-- ---- what is known of them

-- from the first number of a good to the last one
pub good-inside : (k count size : ℕ) → k < count → k * size + size ≤ count * size
good-inside k count size h = let fewer : suc k * size ≤ count * size = mul-le-mul_right size (omega (arith, h)) in omega (arith, fewer)

any_amount : (numbers : List ℤ) → ((i : ℕ) → i < length numbers → IsAmount (weight_of numbers i)) → (i : ℕ) → IsAmount (weight_of numbers i)
any_amount numbers are i = by (cases_lt i (length numbers))
  where
    by : (i < length numbers) ⊎ (length numbers ≤ i) → IsAmount (weight_of numbers i)
    by (inl h) = are i h
    by (inr h) = let none = get_or_past numbers i (pos 0) h in record { low = omega (arith, ints, none); high = omega (arith, ints, none) }

module _ (nodes : List ℕ) (size most : ℕ) (numbers limits : List ℤ) (laid : IsLaidOut nodes size most numbers limits) where
  view : PackedView
  view = record { goods = goods_of nodes numbers limits; nodes = nodes; most = most }

  counted : (k : ℕ) → k < length (goods_of nodes numbers limits) → k < length limits
  counted k h = omega (arith, length-goods nodes numbers limits, h)

  -- the numbers of a good go on at least for all its nodes
  enough : (k : ℕ) → k < length limits → sum nodes ≤ length (drop (k * sum nodes) numbers)
  enough k h =
      let fits = good-inside k (length limits) (sum nodes) h in
      let same : length limits * size ≡ length limits * sum nodes = ap (λ n. length limits * n) laid.sum_is in
      omega (arith, fits, same, laid.full, length-drop (k * sum nodes) numbers)

  -- the amount of a node
  pub amount_is : (k b n : ℕ) → k < length limits → b < length nodes → n < get_or nodes b 0
      → weight_of (weights_of (derived_at (goods_of nodes numbers limits) k).amounts b) n ≡ weight_of numbers (k * sum nodes + (sum (take b nodes) + n))
  amount_is k b n h i l =
      ap (λ (d : Derived). weight_of (weights_of d.amounts b) n) (good_at nodes numbers limits k h)
      ∙ amount_at nodes (drop (k * sum nodes) numbers) b n i l ∙ get_or-drop (k * sum nodes) numbers (sum (take b nodes) + n) (pos 0)

  pub limit_is : (k : ℕ) → k < length limits → (derived_at (goods_of nodes numbers limits) k).limit ≡ get_or limits k (pos 0)
  limit_is k h = ap (λ (d : Derived). d.limit) (good_at nodes numbers limits k h)

  -- the numbers of one good
  pub part_fits : (k : ℕ) → k < length limits → k * size + size ≤ length numbers
  part_fits k h = omega (arith, good-inside k (length limits) size h, laid.full)

  part_length : (k : ℕ) → k < length limits → length (take size (drop (k * size) numbers)) ≡ size
  part_length k h = length-take-le size (drop (k * size) numbers) (omega (arith, part_fits k h, length-drop (k * size) numbers))

  pub part_size : (k : ℕ) → k < length limits → length (take size (drop (k * size) numbers)) ≡ sum nodes
  part_size k h = part_length k h ∙ laid.sum_is

  pub part_amounts : (k : ℕ) → k < length limits → AreAmounts (take size (drop (k * size) numbers))
  part_amounts k h n l =
      let here : n < size = omega (arith, l, part_length k h) in
      subst IsAmount (sym (get_or-take size (drop (k * size) numbers) n (pos 0) here ∙ get_or-drop (k * size) numbers n (pos 0))) (any_amount numbers laid.amounts (k * size + n))

  pub part_is : (k b n : ℕ) → k < length limits → b < length nodes → n < get_or nodes b 0
      → weight_of (take size (drop (k * size) numbers)) (sum (take b nodes) + n) ≡ weight_of (weights_of (derived_at (goods_of nodes numbers limits) k).amounts b) n
  part_is k b n h i l =
      let here : sum (take b nodes) + n < size = omega (arith, start_inside nodes b i, laid.sum_is, l) in
      let index : k * size + (sum (take b nodes) + n) ≡ k * sum nodes + (sum (take b nodes) + n) = ap (λ s. k * s + (sum (take b nodes) + n)) laid.sum_is in
      get_or-take size (drop (k * size) numbers) (sum (take b nodes) + n) (pos 0) here
      ∙ get_or-drop (k * size) numbers (sum (take b nodes) + n) (pos 0) ∙ ap (weight_of numbers) index ∙ sym (amount_is k b n h i l)

  pub are_fit : AreFit (record { goods = goods_of nodes numbers limits; nodes = nodes; most = most })
  are_fit = record {
    few = omega (arith, length-goods nodes numbers limits, laid.room, laid.few);
    bidders = laid.bidders;
    nodes = λ k h.
        ap (λ (d : Derived). nodes_of d.amounts) (good_at nodes numbers limits k (counted k h))
        ∙ nodes_of-rows nodes (drop (k * sum nodes) numbers) (enough k (counted k h));
    amounts = λ k b n h i l. subst IsAmount (sym (amount_is k b n (counted k h) i l)) (any_amount numbers laid.amounts (k * sum nodes + (sum (take b nodes) + n)));
    limits = λ k h. subst IsLimit (sym (limit_is k (counted k h))) (laid.limits_fit k (counted k h));
  }

-- ---- one more

pub length-joined : (ws : List Weights) → length (joined ws) ≡ sum (nodes_of ws)
length-joined ws = length-flat_map (λ (w : Weights). w) ws ∙ sym (sum-map (λ (w : Weights). length w) ws)

joined_amounts : (ws : List Weights) → AreAllAmounts ws → (i : ℕ) → i < length (joined ws) → IsAmount (weight_of (joined ws) i)
joined_amounts [] are i h = absurd (omega (arith, h))
joined_amounts (w ∷ ws) are i h = by (cases_lt i (length w)) (joined_amounts ws (λ b k. are (suc b) (omega (arith, k))))
  where
    by : (i < length w) ⊎ (length w ≤ i) → ((j : ℕ) → j < length (joined ws) → IsAmount (weight_of (joined ws) j)) → IsAmount (weight_of (w ++ joined ws) i)
    by (inl l) rest = subst IsAmount (sym (get_or_append_left w (joined ws) (pos 0) i l)) (are 0 (omega arith) i l)
    by (inr l) rest =
        subst IsAmount (sym (get_or-append_right w (joined ws) (length w) i (pos 0) refl l)) (rest (i - length w) (omega (arith, h, l, length-append w (joined ws))))

pub laid_more : (nodes : List ℕ) (size most : ℕ) (numbers limits : List ℤ) (ws : List Weights) (l : ℤ) → IsLaidOut nodes size most numbers limits → nodes_of ws ≡ nodes → AreAllAmounts ws → IsLimit l
    → length limits < most → IsLaidOut nodes size most (numbers ++ joined ws) (limits ++ l ∷ [])
laid_more nodes size most numbers limits ws l laid same are is room = record {
  bidders = laid.bidders;
  sum_is = laid.sum_is;
  small = laid.small;
  few = laid.few;
  room = omega (arith, room, length_push limits l);
  full =
      let more : length (joined ws) ≡ size = length-joined ws ∙ ap sum same ∙ sym laid.sum_is in
      let product : (length limits + 1) * size ≡ length limits * size + size = omega arith in
      omega (arith, length-append numbers (joined ws), laid.full, more, product, ap (λ n. n * size) (length_push limits l));
  amounts = λ i h. by i h (cases_lt i (length numbers));
  limits_fit = λ k h. limited k h (cases_lt k (length limits));
}
  where
    by : (i : ℕ) → i < length (numbers ++ joined ws) → (i < length numbers) ⊎ (length numbers ≤ i) → IsAmount (weight_of (numbers ++ joined ws) i)
    by i h (inl k) = subst IsAmount (sym (get_or_append_left numbers (joined ws) (pos 0) i k)) (laid.amounts i k)
    by i h (inr k) =
        subst IsAmount (sym (get_or-append_right numbers (joined ws) (length numbers) i (pos 0) refl k))
        (joined_amounts ws are (i - length numbers) (omega (arith, h, k, length-append numbers (joined ws))))

    limited : (k : ℕ) → k < length (limits ++ l ∷ []) → (k < length limits) ⊎ (length limits ≤ k) → IsLimit (weight_of (limits ++ l ∷ []) k)
    limited k h (inl i) = subst IsLimit (sym (get_or_append_left limits (l ∷ []) (pos 0) k i)) (laid.limits_fit k i)
    limited k h (inr i) = subst IsLimit (sym (get_or_push limits l (pos 0) k (omega (arith, h, i, length_push limits l)))) is

pub goods_more : (nodes : List ℕ) (size most : ℕ) (numbers limits : List ℤ) (ws : List Weights) (l : ℤ) → IsLaidOut nodes size most numbers limits → nodes_of ws ≡ nodes
    → goods_of nodes (numbers ++ joined ws) (limits ++ l ∷ []) ≡ goods_of nodes numbers limits ++ record { amounts = ws; limit = l } ∷ []
goods_more nodes size most numbers limits ws l laid same =
    let rows : rows_of nodes (joined ws) ≡ ws = ap (λ ns. rows_of ns (joined ws)) (sym same) ∙ rows-joined ws in
    goods-append nodes numbers limits (joined ws) l (laid.full ∙ ap (λ n. length limits * n) laid.sum_is)
    ∙ ap (λ rs. let g : Derived = record { amounts = rs; limit = l } in goods_of nodes numbers limits ++ g ∷ []) rows
