-- The sums of the first rows of a certificate.
use Rattle.std.proofs.Common.{ℕ, ◌≡◌, ◌<◌, ◌≤◌, ◌+◌, ◌*◌, ◌^◌, ◌++◌, [], ◌∷◌, List, length, take, get_or, arith, ap, ◌∙◌, sym, subst}
use Rattle.std.specs.List.{AllByRecursion}
use Rattle.std.proofs.lemmas.List.{take_more}
use Rattle.ice_defs.specs.Rows.{Row, IsRow}
use Rattle.ice_defs.proofs.Lists.{all_push}
use Rattle.ice_row_laws.specs.Sums.{RowSums, AreSums, IsWithRow}
use Rattle.ice_row_laws.proofs.Sums.{row_is_added}
use Rattle.ice_pricing.specs.Provisional.{ProvisionalTrade}

-- the sums of the first rows, which are rows
pub record AreSummed (t : ProvisionalTrade) (rows : List Row) (count : ℕ) (s : RowSums) : Type 0 where
  pub are : AllByRecursion (IsRow t.trees t.weights t.sets) (take count rows)
  pub sums : AreSums t.trees t.weights t.sets t.goods (take count rows) s
  pub few : s.weight ≤ count * 2 ^ 32

pub summed-more : (t : ProvisionalTrade) (rows : List Row) (count : ℕ) (row : Row) (before after : RowSums) → count < length rows → row ≡ get_or rows count row → row.weight ≤ 2 ^ 32
    → AreSummed t rows count before → IsRow t.trees t.weights t.sets row → IsWithRow t.trees t.weights t.sets t.goods row before after → AreSummed t rows (count + 1) after
summed-more t rows count row before after there is most summed are with =
    let next : take (count + 1) rows ≡ take count rows ++ row ∷ [] = take_more rows count row there ∙ ap (λ (x : Row). take count rows ++ x ∷ []) (sym is) in
    let weight = with.weight in
    let few = summed.few in
    record {
      are = subst (AllByRecursion (IsRow t.trees t.weights t.sets)) (sym next) (all_push (IsRow t.trees t.weights t.sets) (take count rows) row summed.are are);
      sums = subst (λ (front : List Row). AreSums t.trees t.weights t.sets t.goods front after) (sym next) (row_is_added t.trees t.weights t.sets t.goods (take count rows) row before after summed.sums with);
      few = omega (arith, weight, few, most);
    }
