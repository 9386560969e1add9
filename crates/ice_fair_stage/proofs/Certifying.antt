-- Certificates that the duals of the fairness stage make.
use Rattle.std.proofs.Common.{ℕ, ◌+◌, ◌*◌, ◌<◌, ◌≤◌, ◌≡◌, ◌^◌, List, [], ◌∷◌, ◌++◌, length, map, take, drop, slice_index_or, pos, ◌≤ℤ◌, arith, add-one, ap, sym, subst, ◌∙◌}
use Rattle.std.specs.Prelude.{Any, unsigned_abs}
use Rattle.std.specs.List.{AllByRecursion}
use Rattle.std.proofs.lemmas.List.{length-append, length-map, length-take-le, get_or_append_left, get_or-append-add, drop_all, take_all, take-append-le, drop-append-le, map-append}
use Rattle.std.proofs.lemmas.List.Elements.{All-from_recursion, recursion_from_All, All-take, All-drop}
use Rattle.ice_defs.specs.Sum.{numbers_below}
use Rattle.ice_defs.specs.Fraction.{Fraction, IsFraction}
use Rattle.ice_defs.specs.Program.{AreNonNegative}
use Rattle.ice_defs.specs.PricingRun.{Member, common_den, num_over}
use Rattle.ice_defs.specs.Rows.{Row}
use Rattle.ice_defs.proofs.Lists.{all-append}
use Rattle.ice_pricing_laws.specs.Weights.{weights_of_duals, nums_over, rows_with}
use Rattle.ice_pricing_laws.proofs.Lists.{all-at, all-map, all-below, length-map_below}
use Rattle.ice_pricing_laws.proofs.Lowered.{num-low, multiple-low}
use Rattle.ice_turns.specs.Large.{IsLarge, AreLarge}
use Rattle.ice_turns.proofs.LargeWeights.{any-large, weighed-proper, nums-fit, rows-few, rows-fit}
use Rattle.ice_fair_laws.specs.Fair.{FairCertificate}
use Rattle.ice_pricing.specs.Provisional.{ProvisionalTrade}
use Rattle.ice_fair_stage.specs.Stages.{FairStage}
use Rattle.ice_fair_stage.specs.Certified.{IsFairLimited, IsCertificate, lows_of, highs_of, certificate_with, weights_at}

-- ---- one of two lists

pub any-left : (P : Fraction → Type 0) (xs ys : List Fraction) → Any P xs → Any P (xs ++ ys)
any-left P xs ys (i, x, h, e, is) = (i, x, omega (arith, h, length-append xs ys), get_or_append_left xs ys x i h ∙ e, is)

pub any-right : (P : Fraction → Type 0) (xs ys : List Fraction) → Any P ys → Any P (xs ++ ys)
any-right P xs ys (i, x, h, e, is) = (length xs + i, x, omega (arith, h, length-append xs ys), get_or-append-add xs ys i x ∙ e, is)

module _ (cut den : ℕ) (own members : List Fraction) (low : AreNonNegative own) (other : AreNonNegative members) where
  abbrev all : List Fraction
  all = weights_of_duals cut own ++ weights_of_duals den members

  proper : AllByRecursion IsFraction all
  proper = all-append IsFraction (weights_of_duals cut own) (weights_of_duals den members) (weighed-proper cut own low) (weighed-proper den members other)

  pub large-left : (most : ℕ) → Any (IsLarge most) (weights_of_duals cut own) → AreLarge most all
  large-left most h = any-large most all proper (any-left (IsLarge most) (weights_of_duals cut own) (weights_of_duals den members) h)

  pub large-right : (most : ℕ) → Any (IsLarge most) (weights_of_duals den members) → AreLarge most all
  large-right most h = any-large most all proper (any-right (IsLarge most) (weights_of_duals cut own) (weights_of_duals den members) h)

  pub all-low : (d : ℕ) → AllByRecursion (λ w. pos 0 ≤ℤ num_over d w) all
  all-low d = all-append (λ w. pos 0 ≤ℤ num_over d w) (weights_of_duals cut own) (weights_of_duals den members) (weighed-low d cut own low) (weighed-low d den members other)
    where
      weighed-low : (d factor : ℕ) (fs : List Fraction) → AreNonNegative fs → AllByRecursion (λ w. pos 0 ≤ℤ num_over d w) (weights_of_duals factor fs)
      weighed-low d factor [] h = tt
      weighed-low d factor (f ∷ fs) (h, hs) = (num-low d _ (multiple-low factor f h.0 h.1), weighed-low d factor fs hs)

-- ---- the certificate

below-more : (f : ℕ → ℕ) (n : ℕ) → map f (numbers_below (n + 1)) ≡ map f (numbers_below n) ++ f n ∷ []
below-more f n = ap (λ k. map f (numbers_below k)) (add-one n) ∙ map-append f (numbers_below n) (n ∷ [])

-- one bidder more
pub lows-more : (b : ℕ) (ns made : List ℕ) → made ≡ lows_of b ns → made ++ slice_index_or ns (2 * b) 0 ∷ [] ≡ lows_of (b + 1) ns
lows-more b ns made e = ap (λ xs. xs ++ slice_index_or ns (2 * b) 0 ∷ []) e ∙ sym (below-more (λ k. slice_index_or ns (2 * k) 0) b)

pub highs-more : (b : ℕ) (ns made : List ℕ) → made ≡ highs_of b ns → made ++ slice_index_or ns (2 * b + 1) 0 ∷ [] ≡ highs_of (b + 1) ns
highs-more b ns made e = ap (λ xs. xs ++ slice_index_or ns (2 * b + 1) 0 ∷ []) e ∙ sym (below-more (λ k. slice_index_or ns (2 * k + 1) 0) b)

pub take-fits : (n most : ℕ) (ns : List ℕ) → AllByRecursion (λ k. k ≤ most) ns → AllByRecursion (λ k. k ≤ most) (take n ns)
take-fits n most ns are = recursion_from_All (λ k. k ≤ most) (take n ns) (All-take (λ k. k ≤ most) n ns (All-from_recursion (λ k. k ≤ most) ns are))

pub drop-fits : (n most : ℕ) (ns : List ℕ) → AllByRecursion (λ k. k ≤ most) ns → AllByRecursion (λ k. k ≤ most) (drop n ns)
drop-fits n most ns are = recursion_from_All (λ k. k ≤ most) (drop n ns) (All-drop (λ k. k ≤ most) n ns (All-from_recursion (λ k. k ≤ most) ns are))

module _ (bidders most : ℕ) (ns : List ℕ) (long : length ns ≡ 2 * bidders) (fits : AllByRecursion (λ k. k ≤ most) ns) where
  pub lows-fit : AllByRecursion (λ k. k ≤ most) (lows_of bidders ns)
  lows-fit =
      all-map (λ k. k ≤ most) (λ b. slice_index_or ns (2 * b) 0) (numbers_below bidders)
      (all-below (λ b. slice_index_or ns (2 * b) 0 ≤ most) bidders (λ b h. all-at (λ k. k ≤ most) ns (2 * b) 0 fits (omega (arith, h, long))))

  pub highs-fit : AllByRecursion (λ k. k ≤ most) (highs_of bidders ns)
  highs-fit =
      all-map (λ k. k ≤ most) (λ b. slice_index_or ns (2 * b + 1) 0) (numbers_below bidders)
      (all-below (λ b. slice_index_or ns (2 * b + 1) 0 ≤ most) bidders (λ b h. all-at (λ k. k ≤ most) ns (2 * b + 1) 0 fits (omega (arith, h, long))))

pub certificate-made : (bidders : ℕ) (pool : List Member) (ws : List Fraction) (c : FairCertificate) (den : ℕ) → den ≡ common_den ws → c ≡ certificate_with bidders pool den (nums_over den ws)
    → 0 < den → den ≤ 2 ^ 24 → length pool ≤ 200 → length ws ≡ 2 * bidders + length pool → AllByRecursion (λ w. pos 0 ≤ℤ num_over den w) ws
    → AllByRecursion (λ w. num_over den w ≤ℤ pos (2 ^ 24)) ws → IsCertificate bidders pool ws c
certificate-made bidders pool ws c den e made positive few small long low nums =
    let ns : List ℕ = nums_over den ws in
    let size : length ns ≡ 2 * bidders + length pool = length-map ws _ ∙ long in
    let fits : AllByRecursion (λ k. k ≤ 2 ^ 24) ns = nums-fit (2 ^ 24) den ws low nums in
    let front : length (take (2 * bidders) ns) ≡ 2 * bidders = length-take-le (2 * bidders) ns (omega (arith, size)) in
    let P : FairCertificate → Type 0 = λ d. IsFairLimited bidders d in
    record {
      value = made ∙ ap (λ d. certificate_with bidders pool d (nums_over d ws)) e;
      limited = subst P (sym made) (record {
        positive = positive;
        den_fits = few;
        low_count = length-map_below (λ b. slice_index_or (take (2 * bidders) ns) (2 * b) 0) bidders;
        high_count = length-map_below (λ b. slice_index_or (take (2 * bidders) ns) (2 * b + 1) 0) bidders;
        low_fits = lows-fit bidders (2 ^ 24) (take (2 * bidders) ns) front (take-fits (2 * bidders) (2 ^ 24) ns fits);
        high_fits = highs-fit bidders (2 ^ 24) (take (2 * bidders) ns) front (take-fits (2 * bidders) (2 ^ 24) ns fits);
        few = omega (arith, rows-few pool (drop (2 * bidders) ns), small);
        weights_fit = rows-fit (2 ^ 24) pool (drop (2 * bidders) ns) (drop-fits (2 * bidders) (2 ^ 24) ns fits);
      });
      den_fits = omega (arith, e, few);
      nums_fit = subst (λ d. AllByRecursion (λ w. num_over d w ≤ℤ pos (2 ^ 24)) ws) e nums;
    }

-- the numbers of two lists, one after the other
pub nums-front : (n d : ℕ) (xs ys : List Fraction) → length xs ≡ n → take n (nums_over d (xs ++ ys)) ≡ nums_over d xs
nums-front n d xs ys h =
    let f = λ (w : Fraction). unsigned_abs (num_over d w) in
    ap (take n) (map-append f xs ys)
    ∙ take-append-le n (map f xs) (map f ys) (omega (arith, length-map xs f, h))
    ∙ take_all n (map f xs) (omega (arith, length-map xs f, h))

pub nums-back : (n d : ℕ) (xs ys : List Fraction) → length xs ≡ n → drop n (nums_over d (xs ++ ys)) ≡ nums_over d ys
nums-back n d xs ys h =
    let f = λ (w : Fraction). unsigned_abs (num_over d w) in
    ap (drop n) (map-append f xs ys)
    ∙ drop-append-le n (map f xs) (map f ys) (omega (arith, length-map xs f, h))
    ∙ ap (λ zs. zs ++ map f ys) (drop_all n (map f xs) (omega (arith, length-map xs f, h)))

-- what is made of numbers that are split
pub made-with : (bidders place den : ℕ) (pool : List Member) (ns front back low high : List ℕ) (rows : List Row) → place ≡ 2 * bidders → front ≡ take place ns → back ≡ drop place ns
    → low ≡ lows_of bidders front → high ≡ highs_of bidders front → rows ≡ rows_with pool back
    → (let c : FairCertificate = record { den = den; low = low; high = high; rows = rows } in c) ≡ certificate_with bidders pool den ns
made-with bidders place den pool ns front back low high rows e f g l h r =
    let ahead : front ≡ take (2 * bidders) ns = f ∙ ap (λ k. take k ns) e in
    let behind : back ≡ drop (2 * bidders) ns = g ∙ ap (λ k. drop k ns) e in
    ap (λ (xs : List ℕ). let c : FairCertificate = record { den = den; low = xs; high = high; rows = rows } in c) (l ∙ ap (lows_of bidders) ahead)
    ∙ ap (λ (xs : List ℕ). let c : FairCertificate = record { den = den; low = lows_of bidders (take (2 * bidders) ns); high = xs; rows = rows } in c) (h ∙ ap (highs_of bidders) ahead)
    ∙ ap (λ (xs : List Row). let c : FairCertificate = record { den = den; low = lows_of bidders (take (2 * bidders) ns); high = highs_of bidders (take (2 * bidders) ns); rows = xs } in c)
    (r ∙ ap (rows_with pool) behind)

-- the weights of split duals
pub weights-are : (t : ProvisionalTrade) (at : FairStage) (cut den place goods : ℕ) (duals later own members : List Fraction) → cut ≡ at.cut → den ≡ at.den → place ≡ 2 * length t.trees → goods ≡ t.goods
    → later ≡ drop goods duals → own ≡ take place later → members ≡ drop place later → weights_of_duals cut own ++ weights_of_duals den members ≡ weights_at t at duals
weights-are t at cut den place goods duals later own members ec ed ep eg el eo em =
    let after : later ≡ drop t.goods duals = el ∙ ap (λ k. drop k duals) eg in
    let front : own ≡ take (2 * length t.trees) (drop t.goods duals) = eo ∙ ap (λ k. take k later) ep ∙ ap (take (2 * length t.trees)) after in
    let back : members ≡ drop (2 * length t.trees) (drop t.goods duals) = em ∙ ap (λ k. drop k later) ep ∙ ap (drop (2 * length t.trees)) after in
    ap (λ k. weights_of_duals k own ++ weights_of_duals den members) ec
    ∙ ap (λ k. weights_of_duals at.cut own ++ weights_of_duals k members) ed
    ∙ ap (λ xs. weights_of_duals at.cut xs ++ weights_of_duals at.den members) front
    ∙ ap (λ xs. weights_of_duals at.cut (take (2 * length t.trees) (drop t.goods duals)) ++ weights_of_duals at.den xs) back
