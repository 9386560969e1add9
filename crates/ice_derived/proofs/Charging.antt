-- Another toll changes what nodes are charged.
use Rattle.std.proofs.Common.{ℕ, zero, suc, map, ◌+◌, ◌^◌, ◌<◌, ◌≤◌, ◌≡◌, ◌≢◌, cond, eqb, List, [], ◌∷◌, ◌++◌, length, set, replicate, get_or, ℤ, pos, ◌+ℤ◌, ◌-ℤ◌, ◌*ℤ◌, refl, arith, ap, sym, ◌∙◌, subst, ◌⊎◌, inl, inr}
use Rattle.std.specs.Prelude.{slice_index}
use Rattle.std.proofs.lemmas.Int.{ints}
use Rattle.std.proofs.lemmas.Bool.{cases_eq, cases_lt}
use Rattle.std.proofs.lemmas.List.{get_or-set_same, get_or-set_other, length-set, get_or_append_left, get_or_push, length_push, get_or-replicate, length-replicate, length-map, get_or_past}
use Rattle.std.proofs.Math.IntN.{*ℤ_comm, zero-*ℤ}
use Rattle.ice_defs.specs.Sum.{sum_below}
use Rattle.ice_defs.specs.Tree.{Tree}
use Rattle.ice_defs.specs.Set.{Weights, weight_of}
use Rattle.ice_defs.specs.Trade.{weights_of}
use Rattle.ice_defs.specs.Derived.{Derived, no_derived, derived_at, Tolls, toll_of, tolls_on_limits}
use Rattle.ice_defs.proofs.Sums.{sum_below-same, sum_below-add, sum_below-zero, sum_below-single, sum_below_more, sum_below-low, sum_below-high, at_same, at_other}
use Rattle.ice_defs.proofs.Multiples.{times_less}
use Rattle.ice_bound.specs.Laws.{tolls_on_node}
use Rattle.ice_refute.specs.Waiting.{nodes_of}
use Rattle.ice_derived.specs.Ranges.{IsToll, IsAmount, IsLimit, AreInRange}
use Rattle.ice_derived.specs.Packing.{PackedView, AreFit}
use Rattle.ice_derived.specs.Charges.{IsCharge, IsOnLimits, AreAllCharges, amount_of, AreChargesOf, MayBeCharged, AreChargedMore}
use Rattle.ice_derived.proofs.Rows.{node_count}
use Rattle.ice_derived.proofs.Products.{times_within-low, times_within-high}

-- ---- sums in which one toll is another

diff_times : (t o g : ℤ) → t *ℤ g ≡ (o *ℤ g) +ℤ ((t -ℤ o) *ℤ g)
diff_times t o g = omega (arith, ints, *ℤ_comm t g, *ℤ_comm o g, *ℤ_comm (t -ℤ o) g, times_less g t o)

module _ (tolls : Tolls) (k : ℕ) (t : ℤ) (there : k < length tolls) where
  change : ℤ
  change = t -ℤ toll_of tolls k

  one_other : (g : ℕ → ℤ) (j : ℕ) → toll_of (set tolls k t) j *ℤ g j ≡ (toll_of tolls j *ℤ g j) +ℤ cond (eqb k j) (change *ℤ g k) (pos 0)
  unfolding change
  one_other g j = by (cases_eq j k)
    where
      here : toll_of (set tolls k t) k *ℤ g k ≡ (toll_of tolls k *ℤ g k) +ℤ cond (eqb k k) ((t -ℤ toll_of tolls k) *ℤ g k) (pos 0)
      here =
          ap (λ z. z *ℤ g k) (get_or-set_same tolls k t (pos 0) there) ∙ diff_times t (toll_of tolls k) (g k)
          ∙ ap (λ z. (toll_of tolls k *ℤ g k) +ℤ z) (sym (at_same k k ((t -ℤ toll_of tolls k) *ℤ g k) refl))

      by : (j ≡ k) ⊎ (j ≢ k) → toll_of (set tolls k t) j *ℤ g j ≡ (toll_of tolls j *ℤ g j) +ℤ cond (eqb k j) ((t -ℤ toll_of tolls k) *ℤ g k) (pos 0)
      by (inl e) = subst (λ i. toll_of (set tolls k t) i *ℤ g i ≡ (toll_of tolls i *ℤ g i) +ℤ cond (eqb k i) ((t -ℤ toll_of tolls k) *ℤ g k) (pos 0)) (sym e) here
      by (inr ne) =
          let same = ap (λ z. z *ℤ g j) (get_or-set_other tolls k j t (pos 0) ne) in
          let none = at_other k j ((t -ℤ toll_of tolls k) *ℤ g k) (λ e. ne (sym e)) in
          omega (arith, ints, same, none)

  pub toll-changed : (g : ℕ → ℤ) (n : ℕ) → k < n
      → sum_below (λ j. toll_of (set tolls k t) j *ℤ g j) n ≡ sum_below (λ j. toll_of tolls j *ℤ g j) n +ℤ ((t -ℤ toll_of tolls k) *ℤ g k)
  unfolding change
  toll-changed g n h =
      sum_below-same (λ j. toll_of (set tolls k t) j *ℤ g j) (λ j. (toll_of tolls j *ℤ g j) +ℤ cond (eqb k j) ((t -ℤ toll_of tolls k) *ℤ g k) (pos 0)) n (λ j l. one_other g j)
      ∙ sum_below-add (λ j. toll_of tolls j *ℤ g j) (λ j. cond (eqb k j) ((t -ℤ toll_of tolls k) *ℤ g k) (pos 0)) n
      ∙ ap (λ z. sum_below (λ j. toll_of tolls j *ℤ g j) n +ℤ z) (sum_below-single k n ((t -ℤ toll_of tolls k) *ℤ g k) h)

  pub set_in_range : AreInRange tolls → IsToll t → AreInRange (set tolls k t)
  set_in_range range is j h = by (cases_eq j k)
    where
      by : (j ≡ k) ⊎ (j ≢ k) → IsToll (toll_of (set tolls k t) j)
      by (inl e) = subst IsToll (sym (ap (toll_of (set tolls k t)) e ∙ get_or-set_same tolls k t (pos 0) there)) is
      by (inr ne) = subst IsToll (sym (get_or-set_other tolls k j t (pos 0) ne)) (range j (omega (arith, h, length-set tolls k t)))

-- ---- how large charges are

module _ (ds : List Derived) (tolls : Tolls) (count : length tolls ≡ length ds) (few : length ds ≤ 2000) (range : AreInRange tolls) where
  pub node-charge : (b n : ℕ) → ((k : ℕ) → k < length ds → IsAmount (amount_of (derived_at ds k) b n)) → IsCharge (tolls_on_node ds tolls b n)
  node-charge b n amounts =
      let term = λ (k : ℕ). toll_of tolls k *ℤ amount_of (derived_at ds k) b n in
      let under = sum_below-low term (length ds) (2 ^ 82) (λ k h. let toll = range k (omega (arith, count, h)) in let amount = amounts k h in
      times_within-low (toll_of tolls k) (amount_of (derived_at ds k) b n) (2 ^ 62) (2 ^ 20) toll.low toll.high amount.low amount.high) in
      let over = sum_below-high term (length ds) (2 ^ 82) (λ k h. let toll = range k (omega (arith, count, h)) in let amount = amounts k h in
      times_within-high (toll_of tolls k) (amount_of (derived_at ds k) b n) (2 ^ 62) (2 ^ 20) toll.low toll.high amount.low amount.high) in
      record { low = omega (arith, ints, under, few); high = omega (arith, ints, over, few) }

  pub limits-charge : ((k : ℕ) → k < length ds → IsLimit (derived_at ds k).limit) → IsOnLimits (tolls_on_limits ds tolls)
  limits-charge limits =
      let term = λ (k : ℕ). toll_of tolls k *ℤ (derived_at ds k).limit in
      let under = sum_below-low term (length ds) (2 ^ 102) (λ k h. let toll = range k (omega (arith, count, h)) in let limit = limits k h in
      times_within-low (toll_of tolls k) (derived_at ds k).limit (2 ^ 62) (2 ^ 40) toll.low toll.high limit.low limit.high) in
      let over = sum_below-high term (length ds) (2 ^ 102) (λ k h. let toll = range k (omega (arith, count, h)) in let limit = limits k h in
      times_within-high (toll_of tolls k) (derived_at ds k).limit (2 ^ 62) (2 ^ 40) toll.low toll.high limit.low limit.high) in
      record { low = omega (arith, ints, under, few); high = omega (arith, ints, over, few) }

-- ---- what is charged, one step on

module _ (v : PackedView) (tolls : Tolls) (rows : List Weights) (on_limits : ℤ) (are : AreChargesOf v tolls rows on_limits) where
  module _ (k : ℕ) (t : ℤ) (there : k < length tolls) where
    inside : k < length v.goods
    inside = omega (arith, are.count, there)

    node-changed : (b n : ℕ) → b < length v.nodes → n < slice_index v.nodes b
        → weight_of (weights_of rows b) n +ℤ ((t -ℤ toll_of tolls k) *ℤ amount_of (derived_at v.goods k) b n) ≡ tolls_on_node v.goods (set tolls k t) b n
    node-changed b n h l =
        ap (λ z. z +ℤ ((t -ℤ toll_of tolls k) *ℤ amount_of (derived_at v.goods k) b n)) (are.each b n h l)
        ∙ sym (toll-changed tolls k t there (λ j. amount_of (derived_at v.goods j) b n) (length v.goods) inside)

    limits-changed : on_limits +ℤ ((t -ℤ toll_of tolls k) *ℤ (derived_at v.goods k).limit) ≡ tolls_on_limits v.goods (set tolls k t)
    limits-changed =
        ap (λ z. z +ℤ ((t -ℤ toll_of tolls k) *ℤ (derived_at v.goods k).limit)) are.on_all
        ∙ sym (toll-changed tolls k t there (λ j. (derived_at v.goods j).limit) (length v.goods) inside)

    set_count : length (set tolls k t) ≡ length v.goods
    set_count = length-set tolls k t ∙ are.count

    module _ (fit : AreFit v) (range : AreInRange tolls) (is : IsToll t) where
      pub may_be_charged : MayBeCharged v k (t -ℤ toll_of tolls k) rows
      may_be_charged b n h l =
          subst IsCharge (sym (node-changed b n h l))
          (node-charge v.goods (set tolls k t) set_count fit.few (set_in_range tolls k t there range is) b n (λ j i. fit.amounts j b n i h l))

      pub limits_stay : IsOnLimits (on_limits +ℤ ((t -ℤ toll_of tolls k) *ℤ (derived_at v.goods k).limit))
      limits_stay =
          subst IsOnLimits (sym limits-changed) (limits-charge v.goods (set tolls k t) set_count fit.few (set_in_range tolls k t there range is) (λ j i. fit.limits j i))

    pub charged : (more : List Weights) → nodes_of more ≡ v.nodes → AreChargedMore v k (t -ℤ toll_of tolls k) rows more
        → AreChargesOf v (set tolls k t) more (on_limits +ℤ ((t -ℤ toll_of tolls k) *ℤ (derived_at v.goods k).limit))
    charged more nodes each = record {
      nodes = nodes;
      count = set_count;
      each = λ b n h l. each b n h l ∙ node-changed b n h l;
      on_all = limits-changed;
    }

  -- one more derived good, with no toll
  pub one_more : (d : Derived) (after : PackedView) → after.goods ≡ v.goods ++ d ∷ [] → after.nodes ≡ v.nodes → AreChargesOf after (tolls ++ pos 0 ∷ []) rows on_limits
  one_more d after goods nodes = record {
    nodes = are.nodes ∙ sym nodes;
    count = length_push tolls (pos 0) ∙ ap (λ n. n + 1) are.count ∙ sym (ap length goods ∙ length_push v.goods d);
    each = λ b n h l.
        are.each b n (subst (λ ns. b < length ns) nodes h) (subst (λ ns. n < slice_index ns b) nodes l)
        ∙ sym (same (λ e. amount_of e b n));
    on_all = are.on_all ∙ sym (same (λ e. e.limit));
  }
    where
      term : (Derived → ℤ) → List Derived → Tolls → ℕ → ℤ
      term f ds ts j = toll_of ts j *ℤ f (derived_at ds j)

      same : (f : Derived → ℤ) → sum_below (λ j. toll_of (tolls ++ pos 0 ∷ []) j *ℤ f (derived_at after.goods j)) (length after.goods)
          ≡ sum_below (λ j. toll_of tolls j *ℤ f (derived_at v.goods j)) (length v.goods)
      same f =
          let at_end : toll_of (tolls ++ pos 0 ∷ []) (length v.goods) ≡ pos 0 = get_or_push tolls (pos 0) (pos 0) (length v.goods) are.count in
          ap (λ n. sum_below (λ j. toll_of (tolls ++ pos 0 ∷ []) j *ℤ f (derived_at after.goods j)) n) (ap length goods ∙ length_push v.goods d)
          ∙ sum_below_more (λ j. toll_of (tolls ++ pos 0 ∷ []) j *ℤ f (derived_at after.goods j)) (length v.goods)
          ∙ ap (λ z. sum_below (λ j. toll_of (tolls ++ pos 0 ∷ []) j *ℤ f (derived_at after.goods j)) (length v.goods) +ℤ z)
          (ap (λ z. z *ℤ f (derived_at after.goods (length v.goods))) at_end ∙ zero-*ℤ (f (derived_at after.goods (length v.goods))))
          ∙ omega (arith, ints)
          ∙ sum_below-same (λ j. toll_of (tolls ++ pos 0 ∷ []) j *ℤ f (derived_at after.goods j)) (λ j. toll_of tolls j *ℤ f (derived_at v.goods j)) (length v.goods) each
        where
          each : (j : ℕ) → j < length v.goods → toll_of (tolls ++ pos 0 ∷ []) j *ℤ f (derived_at after.goods j) ≡ toll_of tolls j *ℤ f (derived_at v.goods j)
          each j h =
              ap (λ z. z *ℤ f (derived_at after.goods j)) (get_or_append_left tolls (pos 0 ∷ []) (pos 0) j (omega (arith, are.count, h)))
              ∙ ap (λ e. toll_of tolls j *ℤ f e) (ap (λ ds. derived_at ds j) goods ∙ get_or_append_left v.goods (d ∷ []) no_derived j h)

-- no tolls
pub none_charged : (v : PackedView) (tolls : Tolls) (rows : List Weights) → tolls ≡ replicate (length v.goods) (pos 0) → nodes_of rows ≡ v.nodes
    → ((b n : ℕ) → b < length v.nodes → n < slice_index v.nodes b → weight_of (weights_of rows b) n ≡ pos 0) → AreChargesOf v tolls rows (pos 0)
none_charged v tolls rows none_yet nodes each = record {
  nodes = nodes;
  count = ap length none_yet ∙ length-replicate (length v.goods) (pos 0);
  each = λ b n h l. each b n h l ∙ sym (none (λ j. amount_of (derived_at v.goods j) b n));
  on_all = sym (none (λ j. (derived_at v.goods j).limit));
}
  where
    none : (g : ℕ → ℤ) → sum_below (λ j. toll_of tolls j *ℤ g j) (length v.goods) ≡ pos 0
    none g = sum_below-zero (λ j. toll_of tolls j *ℤ g j) (length v.goods)
        (λ j h. ap (λ z. z *ℤ g j) (ap (λ ts. toll_of ts j) none_yet ∙ get_or-replicate (length v.goods) j (pos 0) (pos 0) h) ∙ zero-*ℤ (g j))

-- ---- nothing charged is in range

pub zero_tolls : (n : ℕ) → AreInRange (replicate n (pos 0))
zero_tolls n k h =
    let none = get_or-replicate n k (pos 0) (pos 0) (omega (arith, h, length-replicate n (pos 0))) in
    record { low = omega (arith, ints, none); high = omega (arith, ints, none) }

pub one_more_toll : (tolls : Tolls) → AreInRange tolls → AreInRange (tolls ++ pos 0 ∷ [])
one_more_toll tolls range k h = by (cases_lt k (length tolls))
  where
    by : (k < length tolls) ⊎ (length tolls ≤ k) → IsToll (toll_of (tolls ++ pos 0 ∷ []) k)
    by (inl l) = subst IsToll (sym (get_or_append_left tolls (pos 0 ∷ []) (pos 0) k l)) (range k l)
    by (inr l) =
        let none = get_or_push tolls (pos 0) (pos 0) k (omega (arith, h, l, length_push tolls (pos 0))) in
        record { low = omega (arith, ints, none); high = omega (arith, ints, none) }

pub zero_charges : (nodes : List ℕ) (rows : List Weights) → nodes_of rows ≡ nodes
    → ((b n : ℕ) → b < length nodes → n < slice_index nodes b → weight_of (weights_of rows b) n ≡ pos 0) → AreAllCharges rows
zero_charges nodes rows same each b h n l =
    let here : b < length nodes = omega (arith, h, length-map rows (λ (w : Weights). length w), ap length same) in
    let size : get_or nodes b 0 ≡ length (weights_of rows b) = sym (ap (λ ns. get_or ns b 0) same) ∙ node_count rows b in
    let none = each b n here (omega (arith, l, size)) in
    record { low = omega (arith, ints, none); high = omega (arith, ints, none) }

pub charges_in_range : (nodes : List ℕ) (rows : List Weights) → nodes_of rows ≡ nodes
    → ((b n : ℕ) → b < length nodes → n < slice_index nodes b → IsCharge (weight_of (weights_of rows b) n)) → AreAllCharges rows
charges_in_range nodes rows same each b h n l =
    let here : b < length nodes = omega (arith, h, length-map rows (λ (w : Weights). length w), ap length same) in
    let size : get_or nodes b 0 ≡ length (weights_of rows b) = sym (ap (λ ns. get_or ns b 0) same) ∙ node_count rows b in
    each b n here (omega (arith, l, size))

-- ---- weights of 0

zero_at : (m n : ℕ) → weight_of (replicate m (pos 0)) n ≡ pos 0
zero_at m n = by (cases_lt n m)
  where
    by : (n < m) ⊎ (m ≤ n) → weight_of (replicate m (pos 0)) n ≡ pos 0
    by (inl h) = get_or-replicate m n (pos 0) (pos 0) h
    by (inr h) = get_or_past (replicate m (pos 0)) n (pos 0) (omega (arith, h, length-replicate m (pos 0)))

pub zero_weight : (ts : List Tree) (b n : ℕ) → weight_of (weights_of (map (λ t. replicate (length t) (pos 0)) ts) b) n ≡ pos 0
zero_weight [] b n = refl
zero_weight (t ∷ ts) zero n = zero_at (length t) n
zero_weight (t ∷ ts) (suc b) n = zero_weight ts b n

pub zero_nodes : (ts : List Tree) → nodes_of (map (λ t. replicate (length t) (pos 0)) ts) ≡ nodes_of ts
zero_nodes [] = refl
zero_nodes (t ∷ ts) = ap (λ k. k ∷ nodes_of (map (λ t. replicate (length t) (pos 0)) ts)) (length-replicate (length t) (pos 0)) ∙ ap (λ r. length t ∷ r) (zero_nodes ts)
