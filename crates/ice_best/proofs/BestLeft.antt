-- The best child that is left, found in one pass.
use Rattle.std.proofs.Common.{ℕ, ◌+◌, ◌≡◌, Bool, true, false, List, get_or, ℤ, ◌≤ℤ◌, Option, Some, None, arith, sym, ◌⊎◌, inl, inr, subst, below_more}
use Rattle.std.specs.Prelude.{MatchOption}
use Rattle.std.proofs.lemmas.Int.{ints}
use Rattle.std.proofs.lemmas.Bool.{both_ways}
use Rattle.ice_best.specs.declared.choice.Offer.{Offer}
use Rattle.ice_best.specs.Offers.{IsBestOffer, IsBestOf}

-- the one of the two that adds more
abbrev pub IsBetter : Option Offer → Offer → Offer → Type 0
IsBetter best o result = MatchOption best (result ≡ o) (λ b. ((result ≡ b) × (o.gain ≤ℤ b.gain)) ⊎ ((result ≡ o) × (b.gain ≤ℤ o.gain)))

module _ (gain : ℕ → ℤ) (possible taken : ℕ → Bool) (children : List ℕ) where
  pub IsBestOf-none : IsBestOf gain possible taken children 0 None
  IsBestOf-none = λ j h. absurd (omega arith)

  -- the next child isn't left
  pub IsBestOf-skip : (n : ℕ) (best : Option Offer) → (possible (get_or children n 0) ≡ true → taken (get_or children n 0) ≡ true)
      → IsBestOf gain possible taken children n best → IsBestOf gain possible taken children (n + 1) best
  IsBestOf-skip n None out none = below_more _ _ none out
  IsBestOf-skip n (Some b) out is = record {
    place = is.place;
    is_best =
        record {
          there = omega (arith, is.is_best.there);
          left = is.is_best.left;
          can = is.is_best.can;
          best = below_more _ _ is.is_best.best (λ free may. absurd (both_ways _ free (out may)));
        };
    child_is = is.child_is;
    gain_is = is.gain_is;
  }

  -- the next child is left
  pub IsBestOf-offer : (n : ℕ) (best : Option Offer) (o o' : Offer) → possible (get_or children n 0) ≡ true → taken (get_or children n 0) ≡ false
      → o.child ≡ get_or children n 0 → o.gain ≡ gain (get_or children n 0) → IsBetter best o o'
      → IsBestOf gain possible taken children n best → IsBestOf gain possible taken children (n + 1) (Some o')
  IsBestOf-offer n None o o' can left child_is gain_is better none =
      subst (IsBestOffer gain possible taken children (n + 1)) (sym better)
      (record {
        place = n;
        is_best =
            record {
              there = omega arith;
              left = left;
              can = can;
              best = below_more _ _ (λ j h free may. absurd (both_ways _ free (none j h may))) (λ free may. omega (arith, ints));
            };
        child_is = child_is;
        gain_is = gain_is;
      })
  IsBestOf-offer n (Some b) o o' can left child_is gain_is better is = by better
    where
      by : ((o' ≡ b) × (o.gain ≤ℤ b.gain)) ⊎ ((o' ≡ o) × (b.gain ≤ℤ o.gain)) → IsBestOffer gain possible taken children (n + 1) o'
      by (inl (same, le)) =
          subst (IsBestOffer gain possible taken children (n + 1)) (sym same)
          (record {
            place = is.place;
            is_best =
                record {
                  there = omega (arith, is.is_best.there);
                  left = is.is_best.left;
                  can = is.is_best.can;
                  best = below_more _ _ is.is_best.best (λ free may. omega (arith, ints, le, gain_is, is.gain_is));
                };
            child_is = is.child_is;
            gain_is = is.gain_is;
          })
      by (inr (same, le)) =
          subst (IsBestOffer gain possible taken children (n + 1)) (sym same)
          (record {
            place = n;
            is_best =
                record {
                  there = omega arith;
                  left = left;
                  can = can;
                  best = below_more _ _ (λ j h free may. omega (arith, ints, le, gain_is, is.gain_is, is.is_best.best j h free may)) (λ free may. omega (arith, ints));
                };
            child_is = child_is;
            gain_is = gain_is;
          })
