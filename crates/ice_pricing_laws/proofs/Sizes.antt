-- The shape of a run's programs, and how large their numbers are.
use Rattle.std.proofs.Common.{ℕ, suc, ◌+◌, ◌*◌, ◌<◌, ◌≤◌, ◌≡◌, ◌≢◌, ◌⊎◌, Bool, true, false, cond, eqb, List, [], ◌∷◌, ◌++◌, length, map, slice_index_or, slice_set, ℤ, pos, neg_ℤ, ◌-ℤ◌, ◌*ℤ◌, ◌≤ℤ◌, arith, sym, subst, ◌∙◌, inl, inr}
use Rattle.std.specs.List.{AllByRecursion}
use Rattle.std.proofs.lemmas.Int.{ints}
use Rattle.std.proofs.lemmas.Bool.{cases_eq}
use Rattle.std.proofs.lemmas.List.{get_or-set_same, get_or-set_other, length-map, length-append, length-set, length_push}
use Rattle.ice_defs.specs.Sum.{numbers_below}
use Rattle.ice_defs.specs.Tree.{Tree}
use Rattle.ice_defs.specs.Set.{Weights}
use Rattle.ice_defs.specs.Trade.{Assignment}
use Rattle.ice_defs.specs.Program.{Constraint, Program}
use Rattle.ice_defs.specs.PricingLimit.{Stage, accuracy_stage, balance_stage, fairness_stage}
use Rattle.ice_defs.specs.PricingRun.{Member, only_at, worth_above, units_above, balance_program, program_at}
use Rattle.ice_defs.proofs.Lists.{all-append, all-from}
use Rattle.ice_row_laws.specs.Sizes.{IsSizedWithin}
use Rattle.ice_row_laws.proofs.Sizes.{times-within}
use Rattle.ice_pricing_laws.specs.Sizes.{IsSizedRow, IsMemberWithin, AccuracyIsSized, BalanceIsSized, StageIsShaped}
use Rattle.ice_pricing_laws.proofs.Lists.{all-map, all-each, all-below, length-map_below, length-only_at, get_or-only_at}
use Rattle.ice_pricing_laws.proofs.Programs.{above}

module _ (size : ℕ) (one : 1 ≤ size) where
  zero-sized : IsSizedWithin size (pos 0)
  zero-sized = record { low = omega (arith, ints); high = omega (arith, ints) }

  one-sized : IsSizedWithin size (pos 1)
  one-sized = record { low = omega (arith, ints); high = omega (arith, ints, one) }

  minus-sized : IsSizedWithin size (neg_ℤ (pos 1))
  minus-sized = record { low = omega (arith, ints, one); high = omega (arith, ints) }

  only_at-each : (P : ℤ → Type 0) (n g j : ℕ) (z : ℤ) → P z → P (pos 0) → j < length (only_at n g z) → P (slice_index_or (only_at n g z) j (pos 0))
  only_at-each P n g j z here none h = subst P (sym (get_or-only_at n g j z (omega (arith, h, length-only_at n g z)))) (by (eqb g j))
    where
      by : (b : Bool) → P (cond b z (pos 0))
      by true = here
      by false = none

  pub only_at-holds : (P : ℤ → Type 0) (n g : ℕ) (z : ℤ) → P z → P (pos 0) → AllByRecursion P (only_at n g z)
  only_at-holds P n g z here none = all-from P (only_at n g z) (pos 0) (λ j h. only_at-each P n g j z here none h)

  set-holds : (P : ℤ → Type 0) (zs : List ℤ) (g : ℕ) (z : ℤ) → P z → ((j : ℕ) → j < length zs → P (slice_index_or zs j (pos 0))) → AllByRecursion P (slice_set zs g z)
  set-holds P zs g z here each = all-from P (slice_set zs g z) (pos 0) (λ j h. by j (omega (arith, h, length-set zs g z)) (cases_eq j g))
    where
      by : (j : ℕ) → j < length zs → (j ≡ g) ⊎ (j ≢ g) → P (slice_index_or (slice_set zs g z) j (pos 0))
      by j h (inl e) = subst P (sym (subst (λ k. slice_index_or (slice_set zs k z) j (pos 0) ≡ z) e (get_or-set_same zs j z (pos 0) h))) here
      by j h (inr ne) = subst P (sym (get_or-set_other zs g j z (pos 0) ne)) (each j h)

  costs-sized : (n g : ℕ) → AllByRecursion (λ c. (pos 0 ≤ℤ c) × (c ≤ℤ pos size)) (only_at n g (pos 1))
  costs-sized n g = only_at-holds (λ c. (pos 0 ≤ℤ c) × (c ≤ℤ pos size)) n g (pos 1) (omega (arith, ints), omega (arith, ints, one)) (omega (arith, ints), omega (arith, ints))

  module _ (ts : List Tree) (ws : List Weights) (sets : Assignment) (goods : ℕ) (cap : ℤ) where
    rows-size : (first : ℕ → Constraint) (later : Member → Constraint) (pool : List Member) → length (map first (numbers_below goods) ++ map later pool) ≡ goods + length pool
    rows-size first later pool = omega (arith, length-append (map first (numbers_below goods)) (map later pool), length-map_below first goods, length-map pool later)

    width : (g : ℕ) (z : ℤ) → length (only_at (suc goods) g z) ≡ goods + 1
    width g z = omega (arith, length-only_at (suc goods) g z)

    member-row : (factor most_worth most_units : ℕ) (z least : ℤ) (m : Member) → factor * most_units ≤ size → IsSizedWithin size z → IsSizedWithin size least
        → IsMemberWithin ts ws sets goods cap most_worth most_units m → IsSizedRow (goods + 1) size (record { coeffs = units_above ts ws sets goods cap (pos factor) m ++ z ∷ []; least = least })
    member-row factor most_worth most_units z least m few here sized is = record {
      same_length = omega (arith, length_push (units_above ts ws sets goods cap (pos factor) m) z, length-map_below (λ g. pos factor *ℤ above ts ws sets goods cap m g) goods);
      coeffs = all-append (IsSizedWithin size) (units_above ts ws sets goods cap (pos factor) m) (z ∷ [])
          (all-map (IsSizedWithin size) (λ g. pos factor *ℤ above ts ws sets goods cap m g) (numbers_below goods)
          (all-below (λ g. IsSizedWithin size (pos factor *ℤ above ts ws sets goods cap m g)) goods
          (λ g h. let part = times-within factor factor most_units (above ts ws sets goods cap m g) (omega arith) (is.above g h) in
          record { low = (let a = part.low in omega (arith, ints, a, few)); high = (let a = part.high in omega (arith, ints, a, few)) })))
          (here, tt);
      least = sized;
    }

pub accuracy_is_sized : AccuracyIsSized
accuracy_is_sized ts ws sets goods cap pool most_worth most_units size one capped few light are = record {
  columns = width size one ts ws sets goods cap goods (pos 1);
  costs = costs-sized size one (suc goods) goods;
  rows = rows-size size one ts ws sets goods cap _ _ pool;
  each = all-append (IsSizedRow (goods + 1) size) (map _ (numbers_below goods)) (map _ pool)
      (all-map (IsSizedRow (goods + 1) size) _ (numbers_below goods)
      (all-below _ goods
      (λ g h. record {
        same_length = width size one ts ws sets goods cap g (neg_ℤ (pos 1));
        coeffs = only_at-holds size one (IsSizedWithin size) (suc goods) g (neg_ℤ (pos 1)) (minus-sized size one) (zero-sized size one);
        least = record { low = (let a = capped.high in omega (arith, ints, a)); high = (let a = capped.low in omega (arith, ints, a)) };
      })))
      (all-map (IsSizedRow (goods + 1) size) _ pool
      (all-each (IsMemberWithin ts ws sets goods cap most_worth most_units) _ pool
      (λ m is. member-row size one ts ws sets goods cap 100 most_worth most_units (pos 1) (worth_above ts ws sets goods cap m) m light (one-sized size one)
      (record { low = (let a = is.worth.low in omega (arith, ints, a, few)); high = (let a = is.worth.high in omega (arith, ints, a, few)) }) is) are));
}

pub balance_is_sized : BalanceIsSized
balance_is_sized ts ws sets goods cap delta den pool most_worth most_units most_delta size one small few light are = record {
  columns = width size one ts ws sets goods cap goods (pos 1);
  costs = costs-sized size one (suc goods) goods;
  rows = rows-size size one ts ws sets goods cap _ _ pool;
  each = all-append (IsSizedRow (goods + 1) size) (map _ (numbers_below goods)) (map _ pool)
      (all-map (IsSizedRow (goods + 1) size) _ (numbers_below goods)
      (all-below _ goods
      (λ g h. record {
        same_length = length-set (only_at (suc goods) goods (pos 1)) g (neg_ℤ (pos 1)) ∙ width size one ts ws sets goods cap goods (pos 1);
        coeffs = set-holds size one (IsSizedWithin size) (only_at (suc goods) goods (pos 1)) g (neg_ℤ (pos 1)) (minus-sized size one)
            (λ j l. only_at-each size one (IsSizedWithin size) (suc goods) goods j (pos 1) (one-sized size one) (zero-sized size one) l);
        least = zero-sized size one;
      })))
      (all-map (IsSizedRow (goods + 1) size) _ pool
      (all-each (IsMemberWithin ts ws sets goods cap most_worth most_units) _ pool
      (λ m is. member-row size one ts ws sets goods cap (100 * den) most_worth most_units (pos 0) ((pos den *ℤ worth_above ts ws sets goods cap m) -ℤ delta) m light (zero-sized size one)
      (let part = times-within den den most_worth (worth_above ts ws sets goods cap m) (omega arith) is.worth in
      record {
        low = (let a = part.low in let b = small.high in omega (arith, ints, a, b, few));
        high = (let a = part.high in let b = small.low in omega (arith, ints, a, b, few));
      }) is) are));
}

-- ---- shapes

module _ (ts : List Tree) (ws : List Weights) (sets : Assignment) (goods : ℕ) (cap : ℤ) (pool : List Member) where
  abbrev IsShaped : Program → Type 0
  IsShaped p = (length p.costs ≡ goods + 1) × (length p.rows ≡ goods + length pool) × AllByRecursion (λ row. length row.coeffs ≡ goods + 1) p.rows

  first-width : (g : ℕ) (z : ℤ) → length (only_at (suc goods) g z) ≡ goods + 1
  first-width g z = omega (arith, length-only_at (suc goods) g z)

  member-width : (factor z : ℤ) (m : Member) → length (units_above ts ws sets goods cap factor m ++ z ∷ []) ≡ goods + 1
  member-width factor z m = omega (arith, length_push (units_above ts ws sets goods cap factor m) z, length-map_below (λ g. factor *ℤ above ts ws sets goods cap m g) goods)

  shaped : (costs : List ℤ) (first : ℕ → Constraint) (later : Member → Constraint) → length costs ≡ goods + 1
      → ((g : ℕ) → length (first g).coeffs ≡ goods + 1) → ((m : Member) → length (later m).coeffs ≡ goods + 1)
      → IsShaped (record { costs = costs; rows = map first (numbers_below goods) ++ map later pool })
  shaped costs first later size one other = (
    size,
    omega (arith, length-append (map first (numbers_below goods)) (map later pool), length-map_below first goods, length-map pool later),
    all-append (λ row. length row.coeffs ≡ goods + 1) (map first (numbers_below goods)) (map later pool)
        (all-map (λ row. length row.coeffs ≡ goods + 1) first (numbers_below goods) (all-below (λ g. length (first g).coeffs ≡ goods + 1) goods (λ g h. one g)))
        (all-map (λ row. length row.coeffs ≡ goods + 1) later pool (all-of other pool)),
  )
    where
      all-of : ((m : Member) → length (later m).coeffs ≡ goods + 1) → (ms : List Member) → AllByRecursion (λ m. length (later m).coeffs ≡ goods + 1) ms
      all-of each [] = tt
      all-of each (m ∷ ms) = (each m, all-of each ms)

  balance-shaped : (delta : ℤ) (den : ℕ) → IsShaped (balance_program ts ws sets goods cap delta den pool)
  balance-shaped delta den =
      shaped _ _ _ (first-width goods (pos 1))
      (λ g. length-set (only_at (suc goods) goods (pos 1)) g (neg_ℤ (pos 1)) ∙ first-width goods (pos 1)) (λ m. member-width (pos (100 * den)) (pos 0) m)

  stage-shaped : (stage : Stage) (delta : ℤ) (den : ℕ) → IsShaped (program_at ts ws sets goods cap stage delta den pool)
  stage-shaped accuracy_stage delta den = shaped _ _ _ (first-width goods (pos 1)) (λ g. first-width g (neg_ℤ (pos 1))) (λ m. member-width (pos 100) (pos 1) m)
  stage-shaped balance_stage delta den = balance-shaped delta den
  stage-shaped fairness_stage delta den = balance-shaped delta den

pub stage_is_shaped : StageIsShaped
stage_is_shaped ts ws sets goods cap at pool = stage-shaped ts ws sets goods cap pool at.stage at.delta at.den
