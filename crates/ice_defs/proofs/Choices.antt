-- Options and truth values.
use Rattle.std.proofs.Common.{ℕ, ◌≡◌, Bool, true, false, cond, Option, Some, None, refl}
use Rattle.std.specs.Prelude.{is_none, is_some}
use Rattle.std.specs.Option.{option_or}

-- what is none
pub is_none-true : {X : Type 0} (o : Option X) → is_none o ≡ true → o ≡ None
is_none-true None e = refl
is_none-true (Some x) e = absurd cc

-- what is not some
pub is_some-false : {X : Type 0} (o : Option X) → is_some o ≡ false → o ≡ None
is_some-false None e = refl
is_some-false (Some x) e = absurd cc

-- neither of two
pub both_none : {X : Type 0} (a b : Option X) → option_or a b ≡ None → (a ≡ None) × (b ≡ None)
both_none (Some x) b e = absurd cc
both_none None b e = (refl, e)

-- a test that gives nothing fails
pub passes_not : (b : Bool) (n : ℕ) → cond b (Some n) None ≡ None → b ≡ false
passes_not true n e = absurd cc
passes_not false n e = refl

-- what is not refused at once is left to the other tests
pub some_refused : {X : Type 0} (b : Bool) (x : X) (other : Option X) → cond b (Some x) other ≡ None → (b ≡ false) × (other ≡ None)
some_refused true x other e = absurd cc
some_refused false x other e = (refl, e)

-- the same either way
pub cond-same : {X : Type 0} (b : Bool) (x : X) → cond b x x ≡ x
cond-same true x = refl
cond-same false x = refl
