-- What an operation on fractions that isn't too wide gives.
use Rattle.std.proofs.Common.{◌≡◌, ◌≢◌, ℕ, zero, suc, ◌<◌, refl, sym, ap, subst, ◌∙◌, arith, Bool, true, false, if◌then◌else◌, ◌&&◌, ◌*◌, ◌*ℤ◌, Option, Some, None, List, [], ◌∷◌, length, slice_index_or, pos}
use Rattle.std.specs.Option.{option_map, option_and_then}
use Rattle.std.proofs.Math.Nat.{mul-pos}
use Rattle.ice_defs.specs.Fraction.{Fraction, IsFraction, Equals, plus, times}
use Rattle.ice_defs.specs.Frac.{lowest, num_fits, den_fits, add, mul, div, reciprocal}
use Rattle.ice_defs.specs.Dictionary.{all_of}
use Rattle.ice_frac.proofs.Lowest.{Equals-lowest, positive-lowest, Equals-sum, common_sum, positive-common_sum}
use Rattle.ice_frac.proofs.Rational.{ℚ, ◌+ℚ◌, ◌*ℚ◌, *ℚ_assoc, *ℚ_comm, rational_of, rational_of-plus, rational_of-times, rational_of-same, rational_of-reciprocal, positive-reciprocal_of}
use Rattle.ice_program_laws.proofs.Field.{one-*ℚ}

-- a proper fraction and its rational
pub record Means (a : Fraction) (x : ℚ) : Type 0 where
  pub proper : IsFraction a
  pub value : rational_of a ≡ x

pub means_itself : (a : Fraction) → IsFraction a → Means a (rational_of a)
means_itself a h = record { proper = h; value = refl }

pub means-plus : (a b : Fraction) (x y : ℚ) → Means a x → Means b y → Means (plus a b) (x +ℚ y)
means-plus a b x y p q = record {
  proper = mul-pos p.proper q.proper;
  value = rational_of-plus a b p.proper q.proper ∙ ap (λ z. z +ℚ rational_of b) p.value ∙ ap (λ z. x +ℚ z) q.value;
}

pub means-times : (a b : Fraction) (x y : ℚ) → Means a x → Means b y → Means (times a b) (x *ℚ y)
means-times a b x y p q = record {
  proper = mul-pos p.proper q.proper;
  value = rational_of-times a b p.proper q.proper ∙ ap (λ z. z *ℚ rational_of b) p.value ∙ ap (λ z. x *ℚ z) q.value;
}

pub means-same : (a b : Fraction) (x : ℚ) → IsFraction b → Equals b a → Means a x → Means b x
means-same a b x hb e p = record { proper = hb; value = rational_of-same b a hb p.proper e ∙ p.value }

-- ---- what was found

pub some_is : {X : Type 0} (x y : X) → ◌≡◌ {A = Option X} (Some x) (Some y) → x ≡ y
some_is x y h = cc

pub if_some : {X : Type 0} (b : Bool) (x y : X) → (if b then Some x else None) ≡ Some y → x ≡ y
if_some true x y h = some_is x y h
if_some false x y h = absurd (cc)

pub then_some : {X Y : Type 0} (f : X → Option Y) (o : Option X) (y : Y) → option_and_then f o ≡ Some y → (x : X) × (o ≡ Some x) × (f x ≡ Some y)
then_some f (Some x) y h = (x, refl, h)
then_some f None y h = absurd (cc)

pub map_some : {X Y : Type 0} (f : X → Y) (o : Option X) (y : Y) → option_map f o ≡ Some y → (x : X) × (o ≡ Some x) × (f x ≡ y)
map_some f (Some x) y h = (x, refl, some_is (f x) y h)
map_some f None y h = absurd (cc)

-- all results are there
pub record AreAll {X : Type 0} (os : List (Option X)) (xs : List X) : Type 0 where
  pub same_length : length xs ≡ length os
  pub at : (i : ℕ) (d : X) → i < length os → slice_index_or os i None ≡ Some (slice_index_or xs i d)

pub all_some : {X : Type 0} (os : List (Option X)) (xs : List X) → all_of os ≡ Some xs → AreAll os xs
all_some [] xs h =
    let e : [] ≡ xs = some_is [] xs h in
    record { same_length = ap length (sym e); at = λ i d l. absurd (omega arith) }
all_some (None ∷ os) xs h = absurd (cc)
all_some {X} (Some o ∷ os) xs h =
    let found = map_some (λ ys. o ∷ ys) (all_of os) xs h in
    let rest : AreAll os found.0 = all_some os found.0 found.1 in
    let here : (i : ℕ) (d : X) → i < length (Some o ∷ os) → slice_index_or (Some o ∷ os) i None ≡ Some (slice_index_or (o ∷ found.0) i d) = first o os found.0 rest.at in
    record {
      same_length = ap length (sym found.2) ∙ ap suc rest.same_length;
      at = subst (λ ys. (i : ℕ) (d : X) → i < length (Some o ∷ os) → slice_index_or (Some o ∷ os) i None ≡ Some (slice_index_or ys i d)) found.2 here;
    }
  where
    first : {X : Type 0} (o : X) (os : List (Option X)) (xs : List X) → ((i : ℕ) (d : X) → i < length os → slice_index_or os i None ≡ Some (slice_index_or xs i d))
        → (i : ℕ) (d : X) → i < length (Some o ∷ os) → slice_index_or (Some o ∷ os) i None ≡ Some (slice_index_or (o ∷ xs) i d)
    first o os xs rest zero d l = refl
    first o os xs rest (suc i) d l = rest i d (omega arith)

-- ---- the operations

pub mul_means : (a b r : Fraction) (x y : ℚ) → Means a x → Means b y → mul a b ≡ Some r → Means r (x *ℚ y)
mul_means a b r x y p q h =
    let made : Fraction = lowest (a.num *ℤ b.num) (a.den * b.den) in
    let e : made ≡ r = if_some (num_fits made.num && den_fits made.den) made r h in
    subst (λ f. Means f (x *ℚ y)) e
    (means-same (times a b) made (x *ℚ y) (positive-lowest (a.num *ℤ b.num) (a.den * b.den) (mul-pos p.proper q.proper)) (Equals-lowest (a.num *ℤ b.num) (a.den * b.den)) (means-times a b x y p q))

pub add_means : (a b r : Fraction) (x y : ℚ) → Means a x → Means b y → add a b ≡ Some r → Means r (x +ℚ y)
add_means a b r x y p q h =
    let made : Fraction = lowest (common_sum a b).num (common_sum a b).den in
    let e : made ≡ r = if_some _ made r h in
    subst (λ f. Means f (x +ℚ y)) e
    (means-same (plus a b) made (x +ℚ y) (positive-lowest (common_sum a b).num (common_sum a b).den (positive-common_sum a b p.proper q.proper)) (Equals-sum a b) (means-plus a b x y p q))

-- a quotient times its divisor
pub record IsQuotient (e a r : Fraction) : Type 0 where
  pub proper : IsFraction r
  pub value : rational_of a *ℚ rational_of r ≡ rational_of e

pub div_means : (e a r : Fraction) → IsFraction e → IsFraction a → a.num ≢ pos 0 → div e a ≡ Some r → IsQuotient e a r
div_means e a r he ha n h =
    let b : Fraction = reciprocal a in
    let m : Means r (rational_of e *ℚ rational_of b) = mul_means e b r _ _ (means_itself e he) (means_itself b (positive-reciprocal_of a.num a.den n)) h in
    record {
      proper = m.proper;
      value = ap (λ z. rational_of a *ℚ z) (m.value ∙ *ℚ_comm (rational_of e) (rational_of b)) ∙ sym (*ℚ_assoc (rational_of a) (rational_of b) (rational_of e))
          ∙ ap (λ z. z *ℚ rational_of e) (rational_of-reciprocal a ha n) ∙ one-*ℚ (rational_of e);
    }
