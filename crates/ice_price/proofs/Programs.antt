-- The program of a stage, row by row.
use Rattle.std.proofs.Common.{ℕ, suc, ◌+◌, ◌≡◌, List, [], ◌∷◌, ◌++◌, length, map, pos, refl, ap, sym, ◌∙◌, arith, add-one, ℤ}
use Rattle.std.proofs.lemmas.List.{map-append, append-nil, length-append, length-map}
use Rattle.ice_defs.specs.Sum.{numbers_below}
use Rattle.ice_defs.specs.Program.{Constraint, Program}
use Rattle.ice_defs.specs.PricingLimit.{Stage, accuracy_stage, balance_stage, fairness_stage}
use Rattle.ice_defs.specs.PricingRun.{Member, StageAt, only_at}
use Rattle.ice_defs.proofs.Below.{length-numbers_below}
use Rattle.ice_pricing.specs.Provisional.{ProvisionalTrade}
use Rattle.ice_price.specs.Programs.{good_row, member_row, program_over}

module _ (t : ProvisionalTrade) (at : StageAt) where
  -- the rows of the first goods, and of some members
  abbrev pub made_of : ℕ → List Member → Program
  made_of g pool = record { costs = only_at (suc t.goods) t.goods (pos 1); rows = map (good_row t at) (numbers_below g) ++ map (member_row t at) pool }

  abbrev pub with_one : Program → Constraint → Program
  with_one p row = record { costs = p.costs; rows = p.rows ++ row ∷ [] }

  pub made-rows : (g : ℕ) (pool : List Member) → length (made_of g pool).rows ≡ g + length pool
  made-rows g pool =
      omega (
        arith,
        length-append (map (good_row t at) (numbers_below g)) (map (member_row t at) pool),
        length-map (numbers_below g) (good_row t at),
        length-map pool (member_row t at),
        length-numbers_below g,
      )

  abbrev of_rows : List Constraint → Program
  of_rows rows = record { costs = only_at (suc t.goods) t.goods (pos 1); rows = rows }

  pub good-more : (g : ℕ) → with_one (made_of g []) (good_row t at g) ≡ made_of (g + 1) []
  good-more g =
      let f = good_row t at in
      ap of_rows (
      ap (λ xs. xs ++ f g ∷ []) (append-nil (map f (numbers_below g)))
      ∙ sym (map-append f (numbers_below g) (g ∷ []))
      ∙ ap (λ n. map f (numbers_below n)) (sym (add-one g))
      ∙ sym (append-nil (map f (numbers_below (g + 1))))
      )

-- it is the stage's program
pub program-is : (t : ProvisionalTrade) (at : StageAt) (pool : List Member) → made_of t at t.goods pool ≡ program_over t at pool
program-is t at pool = by at.stage at.delta at.den
  where
    by : (s : Stage) (delta : ℤ) (den : ℕ) → made_of t (record { stage = s; delta = delta; den = den }) t.goods pool ≡ program_over t (record { stage = s; delta = delta; den = den }) pool
    by accuracy_stage delta den = refl
    by balance_stage delta den = refl
    by fairness_stage delta den = refl
