-- What each bidder pays, by its place.
use Rattle.std.proofs.Common.{◌≡◌, ℕ, zero, suc, ◌<◌, ◌≤◌, List, [], ◌∷◌, length, ℤ, get_or, refl, subst, arith}
use Rattle.std.specs.List.{AllByRecursion}
use Rattle.std.proofs.lemmas.List.Elements.{All-from_recursion}
use Rattle.ice_defs.specs.Fraction.{Fraction}
use Rattle.ice_defs.specs.Session.{Payment}
use Rattle.ice_settled.specs.Shown.{payments_of}
use Rattle.ice_write_session.specs.Payments.{no_payment}
use Rattle.ice_write_session.specs.Writable.{IsWritablePayment}

-- where each name has a payment, each list has an element for each name
pub record Covers (names : List (List ℕ)) (vs : List ℤ) (ds ps : List Fraction) : Type 0 where
  pub vickreys : length names ≤ length vs
  pub discounts : length names ≤ length ds
  pub payments : length names ≤ length ps

pub covers : (names : List (List ℕ)) (vs : List ℤ) (ds ps : List Fraction) → length (payments_of names vs ds ps) ≡ length names → Covers names vs ds ps
covers [] vs ds ps e = record { vickreys = omega arith; discounts = omega arith; payments = omega arith }
covers (name ∷ names) [] ds ps e = absurd (omega (arith, e))
covers (name ∷ names) (v ∷ vs) [] ps e = absurd (omega (arith, e))
covers (name ∷ names) (v ∷ vs) (d ∷ ds) [] e = absurd (omega (arith, e))
covers (name ∷ names) (v ∷ vs) (d ∷ ds) (p ∷ ps) e =
    let h = covers names vs ds ps (omega (arith, e)) in
    record { vickreys = omega (arith, h.vickreys); discounts = omega (arith, h.discounts); payments = omega (arith, h.payments) }

pub payment_is : (names : List (List ℕ)) (vs : List ℤ) (ds ps : List Fraction) (b : ℕ) (v : ℤ) (d p : Fraction) → b < length (payments_of names vs ds ps)
    → get_or (payments_of names vs ds ps) b no_payment ≡ record { name = get_or names b []; vickrey = get_or vs b v; discount = get_or ds b d; payment = get_or ps b p }
payment_is [] vs ds ps b v d p there = absurd (omega (arith, there))
payment_is (name ∷ names) [] ds ps b v d p there = absurd (omega (arith, there))
payment_is (name ∷ names) (x ∷ vs) [] ps b v d p there = absurd (omega (arith, there))
payment_is (name ∷ names) (x ∷ vs) (y ∷ ds) [] b v d p there = absurd (omega (arith, there))
payment_is (name ∷ names) (x ∷ vs) (y ∷ ds) (z ∷ ps) zero v d p there = refl
payment_is (name ∷ names) (x ∷ vs) (y ∷ ds) (z ∷ ps) (suc b) v d p there = payment_is names vs ds ps b v d p (omega (arith, there))

-- what is paid at a place may be written where all payments may
pub payment_fits : (names : List (List ℕ)) (vs : List ℤ) (ds ps : List Fraction) (b : ℕ) (v : ℤ) (d p : Fraction) → b < length (payments_of names vs ds ps) → AllByRecursion IsWritablePayment (payments_of names vs ds ps)
    → IsWritablePayment (record { name = get_or names b []; vickrey = get_or vs b v; discount = get_or ds b d; payment = get_or ps b p })
payment_fits names vs ds ps b v d p there all = subst IsWritablePayment (payment_is names vs ds ps b v d p there) (All-from_recursion IsWritablePayment (payments_of names vs ds ps) all b no_payment there)

-- in other words for its parts
pub same_payment : (names : List (List ℕ)) (vs : List ℤ) (ds ps : List Fraction) (b : ℕ) (name : List ℕ) (v : ℤ) (d p : Fraction) → name ≡ get_or names b [] → v ≡ get_or vs b v → d ≡ get_or ds b d → p ≡ get_or ps b p
    → (let x : Payment = record { name = name; vickrey = v; discount = d; payment = p } in x) ≡ record { name = get_or names b []; vickrey = get_or vs b v; discount = get_or ds b d; payment = get_or ps b p }
same_payment names vs ds ps b name v d p n w x y = λ i. record { name = n i; vickrey = w i; discount = x i; payment = y i }
