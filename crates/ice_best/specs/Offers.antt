-- The children that may be taken next.
use Rattle.std.specs.Prelude.{ℕ, ◌<◌, ◌≤◌, ◌≡◌, Bool, ◌&&◌, ◌==◌, not, if◌then◌else◌, List, length, slice_index, slice_index_or, sum_by, ℤ}
use Rattle.std.specs.Prelude.{◌≤ℤ◌, Option, MatchOption}
use Rattle.std.specs.List.{All, Contains}
use Rattle.ice_best.specs.declared.choice.Offer.{Offer}
use Rattle.ice_best.specs.Choice.{IsBestLeft, NoneLeft}

-- how many of the offers are of the child
abbrev pub times_offered : ℕ → List Offer → ℕ
times_offered c offers = sum_by (λ o. if o.child == c then 1 else 0) offers

-- an offer is of a child, with the gain of the child
abbrev pub IsOffer : (ℕ → ℤ) → List ℕ → Offer → Type 0
IsOffer gain children o = Contains children o.child × (o.gain ≡ gain o.child)

-- the offers of the children that are possible and not taken: one of each
pub record AreOffers (gain : ℕ → ℤ) (possible taken : ℕ → Bool) (children : List ℕ) (offers : List Offer) : Type 0 where
  pub each : All (IsOffer gain children) offers
  pub once : (k : ℕ) → k < length children
      → times_offered (slice_index children k) offers
      ≡ (if possible (slice_index children k) && not (taken (slice_index children k)) then 1 else 0)

-- no offer adds less than one before it
abbrev pub IsRising : List Offer → Type 0
IsRising offers = (i j : ℕ) (d : Offer) → i ≤ j → j < length offers → (slice_index_or offers i d).gain ≤ℤ (slice_index_or offers j d).gain

-- the offer of a child that is left, where no other of the first n that is left is worth more
pub record IsBestOffer (gain : ℕ → ℤ) (possible taken : ℕ → Bool) (children : List ℕ) (n : ℕ) (o : Offer) : Type 0 where
  pub place : ℕ
  pub is_best : IsBestLeft gain possible taken children n place
  pub child_is : o.child ≡ slice_index children place
  pub gain_is : o.gain ≡ gain (slice_index children place)

-- the best offer of the first n children, or None where none of them is left
abbrev pub IsBestOf : (ℕ → ℤ) → (ℕ → Bool) → (ℕ → Bool) → List ℕ → ℕ → Option Offer → Type 0
IsBestOf gain possible taken children n best =
    MatchOption best (NoneLeft possible taken children n) (IsBestOffer gain possible taken children n)
