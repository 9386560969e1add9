-- The prices of a point, and the point of prices and a number.
use Rattle.std.proofs.Common.{ℕ, zero, suc, ◌<◌, ◌≡◌, List, [], ◌∷◌, ◌++◌, length, map, take, ℤ, pos, ◌*ℤ◌, refl, arith, ap, sym, subst, ◌∙◌}
use Rattle.std.specs.List.{AllByRecursion}
use Rattle.std.proofs.lemmas.List.{get_or-map, get_or-take, length-map, length-take-le, get_or_append_left, get_or_at, length_push}
use Rattle.std.proofs.lemmas.Nat.Gcd.{dvd_refl}
use Rattle.ice_defs.specs.Prices.{Prices, price_of}
use Rattle.ice_defs.specs.Fraction.{Fraction, whole_number, IsFraction, AtMost, fraction_at}
use Rattle.ice_defs.specs.Program.{AreNonNegative}
use Rattle.ice_defs.specs.PricingRun.{common_den, num_over, prices_of}
use Rattle.ice_pricing_laws.proofs.Lists.{all-each}
use Rattle.ice_pricing_laws.proofs.Dens.{IsOver, AreOver, common_den-pos, are_over}
use Rattle.ice_pricing_laws.proofs.Dots.{coefficient, over-same}
use Rattle.ice_pricing_laws.proofs.Excess.{ArePricesOver}

pub all-proper : (x : List Fraction) → AreNonNegative x → AllByRecursion IsFraction x
all-proper x low = all-each (λ f. IsFraction f × AtMost (whole_number (pos 0)) f) IsFraction x (λ f h. h.0) low

all-take : {X : Type 0} (P : X → Type 0) (n : ℕ) (xs : List X) → AllByRecursion P xs → AllByRecursion P (take n xs)
all-take P zero xs are = tt
all-take P (suc n) [] are = tt
all-take P (suc n) (x ∷ xs) (is, are) = (is, all-take P n xs are)

-- the point over its own least common denominator
abbrev pub den_of : List Fraction → ℕ
den_of x = common_den x

abbrev pub num_at : List Fraction → ℕ → ℤ
num_at x j = num_over (common_den x) (fraction_at x j)

module _ (goods : ℕ) (x : List Fraction) (low : AreNonNegative x) (size : length x ≡ suc goods) where
  pub den_of-pos : 0 < den_of x
  den_of-pos = common_den-pos x (all-proper x low)

  pub are_over-own : AreOver (den_of x) (num_at x) x
  are_over-own = are_over (common_den x) x (all-proper x low) (dvd_refl (common_den x))

  pub prices-pos : 0 < (prices_of (take goods x)).den
  prices-pos = common_den-pos (take goods x) (all-take IsFraction goods x (all-proper x low))

  prices-size : length (prices_of (take goods x)).nums ≡ goods
  prices-size = length-map (take goods x) (num_over (common_den (take goods x))) ∙ length-take-le goods x (omega (arith, size))

  pub price-over : (g : ℕ) → g < goods → IsOver (prices_of (take goods x)).den (price_of (prices_of (take goods x)) g) (fraction_at x g)
  price-over g h =
      let fs : List Fraction = take goods x in
      let long : g < length fs = omega (arith, length-take-le goods x (omega (arith, size)), h) in
      let is = are_over (common_den fs) fs (all-take IsFraction goods x (all-proper x low)) (dvd_refl (common_den fs)) g long in
      subst (λ f. IsOver (common_den fs) (price_of (prices_of fs) g) f) (get_or-take goods x g (whole_number (pos 0)) h)
      (subst (λ z. IsOver (common_den fs) z (fraction_at fs g)) (sym (get_or-map (num_over (common_den fs)) fs g (whole_number (pos 0)) (pos 0) long)) is)

  pub are_prices-over : ArePricesOver goods (prices_of (take goods x)) (den_of x) (num_at x)
  are_prices-over = record {
    size = prices-size;
    same = λ g h. over-same (prices_of (take goods x)).den (den_of x) (price_of (prices_of (take goods x)) g) (num_at x g) (fraction_at x g) (price-over g h) (are_over-own g (omega (arith, size, h)));
  }

-- ---- from prices

abbrev pub nums_with : Prices → ℤ → ℕ → ℤ
nums_with q y j = coefficient (q.nums ++ y ∷ []) j

abbrev pub over_den : ℕ → ℤ → Fraction
over_den d n = record { num = n; den = d }

-- the point of prices and a number over their denominator
abbrev pub point_with : Prices → ℤ → List Fraction
point_with q y = map (over_den q.den) (q.nums ++ y ∷ [])

module _ (goods : ℕ) (q : Prices) (y : ℤ) (hq : 0 < q.den) (size : length q.nums ≡ goods) where
  pub point_with-size : length (point_with q y) ≡ suc goods
  point_with-size = omega (arith, length-map (q.nums ++ y ∷ []) (over_den q.den), length_push q.nums y, size)

  pub point_with-over : AreOver q.den (nums_with q y) (point_with q y)
  point_with-over j h =
      let e = get_or-map (over_den q.den) (q.nums ++ y ∷ []) j (pos 0) (whole_number (pos 0)) (omega (arith, length-map (q.nums ++ y ∷ []) (over_den q.den), h)) in
      subst (λ f. IsOver q.den (nums_with q y j) f) (sym e) (record { proper = hq; equal = refl })

  pub nums_with-price : (g : ℕ) → g < goods → nums_with q y g ≡ price_of q g
  nums_with-price g h = get_or_append_left q.nums (y ∷ []) (pos 0) g (omega (arith, size, h))

  pub nums_with-last : nums_with q y goods ≡ y
  nums_with-last = get_or_at q.nums y [] (pos 0) goods size

  pub point_with-prices : ArePricesOver goods q q.den (nums_with q y)
  point_with-prices = record { size = size; same = λ g h. ap (λ z. z *ℤ pos q.den) (sym (nums_with-price g h)) }

-- ---- any list of fractions

pub own-pos : (y : List Fraction) → AreNonNegative y → 0 < den_of y
own-pos y low = common_den-pos y (all-proper y low)

pub own-over : (y : List Fraction) → AreNonNegative y → AreOver (den_of y) (num_at y) y
own-over y low = are_over (common_den y) y (all-proper y low) (dvd_refl (common_den y))
