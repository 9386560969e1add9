-- A member's row at prices says how large its excess may be.
use Rattle.std.proofs.Common.{ℕ, ◌*◌, ◌<◌, ◌≡◌, List, length, ℤ, pos, ◌+ℤ◌, ◌-ℤ◌, ◌*ℤ◌, ◌≤ℤ◌, arith, ap, sym, ◌∙◌}
use Rattle.std.proofs.lemmas.Int.{ints}
use Rattle.std.proofs.Math.IntN.{*ℤ_comm, pos-*ℤ-pos}
use Rattle.ice_defs.specs.Sum.{sum_below}
use Rattle.ice_defs.specs.Tree.{Tree}
use Rattle.ice_defs.specs.Set.{Weights, value, units}
use Rattle.ice_defs.specs.Trade.{Assignment, tree_of, set_of, weights_of}
use Rattle.ice_defs.specs.Prices.{Prices, price_of, cost_of}
use Rattle.ice_defs.specs.Pricing.{excess_net}
use Rattle.ice_defs.specs.PricingRun.{Member, worth_above}
use Rattle.ice_defs.proofs.Sums.{sum_below-same}
use Rattle.ice_defs.proofs.Products.{times_add, times-le, sum_below-times}
use Rattle.ice_frac.proofs.Ring.{is_diff, diff_same, diff_pos, diffs, mul_assoc_ℤ}
use Rattle.ice_defs.proofs.Multiples.{times_less, times_swap, times_turn, times_cancel}
use Rattle.ice_row_laws.proofs.Costs.{cost_of-less}
use Rattle.ice_pricing_laws.proofs.Programs.{above, MeetsAccuracy, MeetsBalance}

-- ---- integers

accuracy-to : (w c s n e : ℤ) (d k : ℕ) → (w *ℤ pos d) ≤ℤ (s +ℤ n) → pos k *ℤ s ≡ pos d *ℤ (pos 100 *ℤ c) → e ≡ (pos k *ℤ w) -ℤ (pos 100 *ℤ c) → (pos d *ℤ e) ≤ℤ (n *ℤ pos k)
accuracy-to w c s n e d k h same is =
    omega (
      arith,
      ints,
      times-le k (w *ℤ pos d) (s +ℤ n) h,
      times_add (pos k) s n,
      same,
      ap (λ z. pos d *ℤ z) is,
      times_less (pos d) (pos k *ℤ w) (pos 100 *ℤ c),
      times_turn k d w,
      ap (λ z. pos d *ℤ z) (*ℤ_comm w (pos k)),
      *ℤ_comm (pos k) n,
    )

accuracy-from : (w c s n e : ℤ) (d k : ℕ) → 0 < k → (pos d *ℤ e) ≤ℤ (n *ℤ pos k) → pos k *ℤ s ≡ pos d *ℤ (pos 100 *ℤ c) → e ≡ (pos k *ℤ w) -ℤ (pos 100 *ℤ c) → (w *ℤ pos d) ≤ℤ (s +ℤ n)
accuracy-from w c s n e d k hk h same is =
    times_cancel k (w *ℤ pos d) (s +ℤ n) hk
    (omega (
      arith,
      ints,
      h,
      times_add (pos k) s n,
      same,
      ap (λ z. pos d *ℤ z) is,
      times_less (pos d) (pos k *ℤ w) (pos 100 *ℤ c),
      times_turn k d w,
      ap (λ z. pos d *ℤ z) (*ℤ_comm w (pos k)),
      *ℤ_comm (pos k) n,
    ))

-- a factor of two naturals
pub times_pair : (m n : ℕ) (a : ℤ) → pos (m * n) *ℤ a ≡ pos n *ℤ (pos m *ℤ a)
times_pair m n a = ap (λ z. z *ℤ a) (sym (pos-*ℤ-pos m n)) ∙ mul_assoc_ℤ (pos m) (pos n) a ∙ times_swap n (pos m) a

balance-to : (w c s b e : ℤ) (d k m : ℕ) → 0 < d → (((pos m *ℤ w) -ℤ b) *ℤ pos d) ≤ℤ s → pos k *ℤ s ≡ pos d *ℤ (pos (100 * m) *ℤ c) → e ≡ (pos k *ℤ w) -ℤ (pos 100 *ℤ c) → (pos m *ℤ e) ≤ℤ (b *ℤ pos k)
balance-to w c s b e d k m hd h same is =
    let x : ℤ = (pos m *ℤ w) -ℤ b in
    let less : (x *ℤ pos k) ≤ℤ (pos (100 * m) *ℤ c) = times_cancel d (x *ℤ pos k) (pos (100 * m) *ℤ c) hd (omega (arith, ints, times-le k (x *ℤ pos d) s h, same, times_turn k d x)) in
    omega (
      arith,
      ints,
      less,
      *ℤ_comm x (pos k),
      times_less (pos k) (pos m *ℤ w) b,
      times_pair 100 m c,
      ap (λ z. pos m *ℤ z) is,
      times_less (pos m) (pos k *ℤ w) (pos 100 *ℤ c),
      times_swap k (pos m) w,
      *ℤ_comm (pos k) b,
    )

balance-from : (w c s b e : ℤ) (d k m : ℕ) → 0 < k → (pos m *ℤ e) ≤ℤ (b *ℤ pos k) → pos k *ℤ s ≡ pos d *ℤ (pos (100 * m) *ℤ c) → e ≡ (pos k *ℤ w) -ℤ (pos 100 *ℤ c) → (((pos m *ℤ w) -ℤ b) *ℤ pos d) ≤ℤ s
balance-from w c s b e d k m hk h same is =
    let x : ℤ = (pos m *ℤ w) -ℤ b in
    let less : (x *ℤ pos k) ≤ℤ (pos (100 * m) *ℤ c) =
    omega (
      arith,
      ints,
      h,
      *ℤ_comm x (pos k),
      times_less (pos k) (pos m *ℤ w) b,
      times_pair 100 m c,
      ap (λ z. pos m *ℤ z) is,
      times_less (pos m) (pos k *ℤ w) (pos 100 *ℤ c),
      times_swap k (pos m) w,
      *ℤ_comm (pos k) b,
    ) in
    times_cancel k (x *ℤ pos d) s hk (omega (arith, ints, times-le d (x *ℤ pos k) (pos (100 * m) *ℤ c) less, same, times_turn k d x))

-- ---- costs

turned : (k u n c : ℤ) (a d : ℕ) → c *ℤ pos d ≡ n *ℤ pos a → pos a *ℤ ((k *ℤ u) *ℤ n) ≡ (pos d *ℤ k) *ℤ (c *ℤ u)
turned k u n c a d e = shuffle ∙ ap (λ z. (k *ℤ u) *ℤ z) (sym e) ∙ back
  where
    shuffle : pos a *ℤ ((k *ℤ u) *ℤ n) ≡ (k *ℤ u) *ℤ (n *ℤ pos a)
    shuffle = rw (is_diff k, is_diff u, is_diff n) (simp (diffs, diff_pos) (diff_same _ _ _ _ (omega arith)))

    back : (k *ℤ u) *ℤ (c *ℤ pos d) ≡ (pos d *ℤ k) *ℤ (c *ℤ u)
    back = rw (is_diff k, is_diff u, is_diff c) (simp (diffs, diff_pos) (diff_same _ _ _ _ (omega arith)))

-- the numerators are those of the prices
pub record ArePricesOver (goods : ℕ) (p : Prices) (d : ℕ) (n : ℕ → ℤ) : Type 0 where
  pub size : length p.nums ≡ goods
  pub same : (g : ℕ) → g < goods → price_of p g *ℤ pos d ≡ n g *ℤ pos p.den

pub cost-same : (goods : ℕ) (p : Prices) (d : ℕ) (n : ℕ → ℤ) (k : ℤ) (u : ℕ → ℤ) → ArePricesOver goods p d n
    → pos p.den *ℤ sum_below (λ g. (k *ℤ u g) *ℤ n g) goods ≡ pos d *ℤ (k *ℤ cost_of p u)
cost-same goods p d n k u are =
    sym (sum_below-times (pos p.den) (λ g. (k *ℤ u g) *ℤ n g) goods)
    ∙ sum_below-same _ (λ g. (pos d *ℤ k) *ℤ (price_of p g *ℤ u g)) goods (λ g h. turned k (u g) (n g) (price_of p g) p.den d (are.same g h))
    ∙ sum_below-times (pos d *ℤ k) (λ g. price_of p g *ℤ u g) goods
    ∙ ap (λ j. (pos d *ℤ k) *ℤ sum_below (λ g. price_of p g *ℤ u g) j) (sym are.size)
    ∙ mul_assoc_ℤ (pos d) k (cost_of p u)

-- ---- excesses

module _ (ts : List Tree) (ws : List Weights) (sets : Assignment) (goods : ℕ) (cap : ℤ) where
  abbrev pub excess : Prices → Member → ℤ
  excess p m = excess_net ts ws sets p (m.bidder, m.set)

  pub excess-is : (p : Prices) (m : Member) → excess p m ≡ (pos p.den *ℤ worth_above ts ws sets goods cap m) -ℤ (pos 100 *ℤ cost_of p (above ts ws sets goods cap m))
  excess-is p m =
      let own = set_of sets m.bidder in
      omega (
        arith,
        ints,
        times_less (pos p.den) (value m.set (weights_of ws m.bidder)) (value own (weights_of ws m.bidder)),
        cost_of-less p (units (tree_of ts m.bidder) m.set) (units (tree_of ts m.bidder) own),
      )

  module _ (p : Prices) (d : ℕ) (n : ℕ → ℤ) (are : ArePricesOver goods p d n) (m : Member) where
    pub accuracy-excess : MeetsAccuracy ts ws sets goods cap d n m → (pos d *ℤ excess p m) ≤ℤ (n goods *ℤ pos p.den)
    accuracy-excess h =
        accuracy-to (worth_above ts ws sets goods cap m) (cost_of p (above ts ws sets goods cap m)) _ (n goods) (excess p m) d p.den h
        (cost-same goods p d n (pos 100) (above ts ws sets goods cap m) are) (excess-is p m)

    pub excess-accuracy : 0 < p.den → (pos d *ℤ excess p m) ≤ℤ (n goods *ℤ pos p.den) → MeetsAccuracy ts ws sets goods cap d n m
    excess-accuracy hp h =
        accuracy-from (worth_above ts ws sets goods cap m) (cost_of p (above ts ws sets goods cap m)) _ (n goods) (excess p m) d p.den hp h
        (cost-same goods p d n (pos 100) (above ts ws sets goods cap m) are) (excess-is p m)

    pub balance-excess : (delta : ℤ) (den : ℕ) → 0 < d → MeetsBalance ts ws sets goods cap delta den d n m → (pos den *ℤ excess p m) ≤ℤ (delta *ℤ pos p.den)
    balance-excess delta den hd h =
        balance-to (worth_above ts ws sets goods cap m) (cost_of p (above ts ws sets goods cap m)) _ delta (excess p m) d p.den den hd h
        (cost-same goods p d n (pos (100 * den)) (above ts ws sets goods cap m) are) (excess-is p m)

    pub excess-balance : (delta : ℤ) (den : ℕ) → 0 < p.den → (pos den *ℤ excess p m) ≤ℤ (delta *ℤ pos p.den) → MeetsBalance ts ws sets goods cap delta den d n m
    excess-balance delta den hp h =
        balance-from (worth_above ts ws sets goods cap m) (cost_of p (above ts ws sets goods cap m)) _ delta (excess p m) d p.den den hp h
        (cost-same goods p d n (pos (100 * den)) (above ts ws sets goods cap m) are) (excess-is p m)
