-- The program of the fairness stage, row by row.
use Rattle.std.proofs.Common.{ℕ, suc, ◌+◌, ◌*◌, ◌≡◌, List, [], ◌∷◌, ◌++◌, length, map, pos, refl, ap, sym, ◌∙◌, arith, add-one, append_assoc}
use Rattle.std.specs.List.{flat_map}
use Rattle.std.proofs.lemmas.Grind.{flat_map-append}
use Rattle.std.proofs.lemmas.List.{map-append, append-nil, length-append, length-map}
use Rattle.ice_defs.specs.Sum.{numbers_below}
use Rattle.ice_defs.specs.Program.{Constraint, Program}
use Rattle.ice_defs.specs.PricingRun.{Member, only_at}
use Rattle.ice_defs.proofs.Below.{length-numbers_below}
use Rattle.ice_pricing.specs.Provisional.{ProvisionalTrade}
use Rattle.ice_fair_laws.specs.FairRun.{over_row, under_row}
use Rattle.ice_fair_laws.proofs.FairColumns.{length-pairs}
use Rattle.ice_fair_stage.specs.Stages.{FairStage, paid, with_rows, good_row, rows_of, row_of, program_over}

module _ (t : ProvisionalTrade) (at : FairStage) where
  abbrev goods_of : ℕ → List Constraint
  goods_of g = map (good_row t) (numbers_below g)

  abbrev bidders_of : ℕ → List Constraint
  bidders_of b = flat_map (rows_of t at) (numbers_below b)

  abbrev members_of : List Member → List Constraint
  members_of pool = map (row_of t at) pool

  abbrev of_rows : List Constraint → Program
  of_rows rows = record { costs = only_at (suc t.goods) t.goods (pos 1); rows = rows }

  -- the rows of the first goods and bidders, and of some members
  abbrev pub made_of : ℕ → ℕ → List Member → Program
  made_of g b pool = of_rows (goods_of g ++ (bidders_of b ++ members_of pool))

  pub made-rows : (g b : ℕ) (pool : List Member) → length (made_of g b pool).rows ≡ g + (2 * b + length pool)
  made-rows g b pool =
      omega (
        arith,
        length-append (goods_of g) (bidders_of b ++ members_of pool),
        length-append (bidders_of b) (members_of pool),
        length-map (numbers_below g) (good_row t),
        length-numbers_below g,
        length-pairs (over_row (paid t at) at.cut at.delta at.den) (under_row (paid t at) at.cut at.delta at.den) b,
        length-map pool (row_of t at),
      )

  pub good-more : (g : ℕ) → with_rows (made_of g 0 []) (good_row t g ∷ []) ≡ made_of (g + 1) 0 []
  good-more g =
      let f = good_row t in
      ap of_rows (
      ap (λ xs. xs ++ f g ∷ []) (append-nil (map f (numbers_below g)))
      ∙ sym (map-append f (numbers_below g) (g ∷ []))
      ∙ ap (λ n. map f (numbers_below n)) (sym (add-one g))
      ∙ sym (append-nil (map f (numbers_below (g + 1))))
      )

  pub bidder-more : (g b : ℕ) → with_rows (made_of g b []) (rows_of t at b) ≡ made_of g (b + 1) []
  bidder-more g b =
      let f = rows_of t at in
      ap of_rows (
      append_assoc (goods_of g) (bidders_of b ++ []) (f b)
      ∙ ap (λ xs. goods_of g ++ xs) (
      ap (λ xs. xs ++ f b) (append-nil (bidders_of b))
      ∙ sym (flat_map-append f (numbers_below b) (b ∷ []))
      ∙ ap (λ n. flat_map f (numbers_below n)) (sym (add-one b))
      ∙ sym (append-nil (bidders_of (b + 1)))
      )
      )

  -- it is the stage's program
  pub program-is : (pool : List Member) → made_of t.goods (length t.trees) pool ≡ program_over t at pool
  program-is pool = refl
