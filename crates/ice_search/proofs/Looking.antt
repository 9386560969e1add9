-- Looking through the open parts.
use Rattle.std.proofs.Common.{ℕ, ◌+◌, ◌<◌, ◌≤◌, ◌≡◌, List, length, ℤ, ◌≤ℤ◌, ◌<ℤ◌, Option, Some, None, arith, ap, sym, ◌∙◌, subst, ◌⊎◌, inl, inr}
use Rattle.std.specs.Prelude.{slice_index, IfNone, IfSome}
use Rattle.std.proofs.lemmas.Int.{ints}
use Rattle.std.proofs.lemmas.Bool.{cases_lt}
use Rattle.std.proofs.lemmas.List.Elements.{Contains-get_or}
use Rattle.ice_search_log.specs.Parts.{Part, part_at}
use Rattle.ice_search_log.specs.Searching.{IsAboveOpen}
use Rattle.ice_search.specs.Open.{AreParts, IsGreatestOpen, IsHigher, IsAboveFirst, bound_at}

module _ (parts : List Part) (numbers : List ℕ) (value : ℤ) where
  pub number_there : AreParts parts numbers → (i : ℕ) → i < length numbers → slice_index numbers i < length parts
  number_there are i h = are (slice_index numbers i) (Contains-get_or numbers i 0 h)

  pub place_there : (n : ℕ) (place : ℕ) → IsHigher parts numbers value n (Some place) → place < n
  place_there n place is = is.0

  at_least : (n : ℕ) (found : Option ℕ) → IsHigher parts numbers value n found → value ≤ℤ bound_at parts numbers value found
  at_least n None is = omega (arith, ints)
  at_least n (Some place) is = omega (arith, ints, is.2)

  pub higher_more : (n : ℕ) (found : Option ℕ) → IsHigher parts numbers value n found → IsHigher parts numbers value (n + 1) found
  higher_more n None is = tt
  higher_more n (Some place) is = (omega (arith, is.0), is.1, is.2)

  above_more : (n : ℕ) (bound bound2 : ℤ) → IsAboveFirst parts numbers n bound → bound ≤ℤ bound2
      → ((part_at parts (slice_index numbers n)).split ≡ None → (part_at parts (slice_index numbers n)).key ≤ℤ bound2) → IsAboveFirst parts numbers (n + 1) bound2
  above_more n bound bound2 above le here i h = by (cases_lt i n)
    where
      by : (i < n) ⊎ (n ≤ i) → (part_at parts (slice_index numbers i)).split ≡ None → (part_at parts (slice_index numbers i)).key ≤ℤ bound2
      by (inl l) = λ whole. omega (arith, ints, above i l whole, le)
      by (inr l) = let e : n ≡ i = omega (arith, h, l) in subst (λ j. (part_at parts (slice_index numbers j)).split ≡ None → (part_at parts (slice_index numbers j)).key ≤ℤ bound2) e here

  -- a part of a greater bound is taken
  pub taken : (n : ℕ) (found : Option ℕ) (p : Part) → part_at parts (slice_index numbers n) ≡ p → IsHigher parts numbers value n found
      → IsAboveFirst parts numbers n (bound_at parts numbers value found) → p.split ≡ None → bound_at parts numbers value found <ℤ p.key
      → IsHigher parts numbers value (n + 1) (Some n) × IsAboveFirst parts numbers (n + 1) (bound_at parts numbers value (Some n))
  taken n found p is higher above whole more =
      let same = ap (λ q. q.key) is in
      let least = at_least n found higher in (
        (omega arith, ap (λ q. q.split) is ∙ whole, omega (arith, ints, least, more, same)),
        above_more n (bound_at parts numbers value found) (part_at parts (slice_index numbers n)).key above (omega (arith, ints, more, same)) (λ _. omega (arith, ints)),
      )

  -- another isn't
  pub passed : (n : ℕ) (found : Option ℕ) (p : Part) → part_at parts (slice_index numbers n) ≡ p → IsHigher parts numbers value n found
      → IsAboveFirst parts numbers n (bound_at parts numbers value found) → (p.split ≡ None → p.key ≤ℤ bound_at parts numbers value found)
      → IsHigher parts numbers value (n + 1) found × IsAboveFirst parts numbers (n + 1) (bound_at parts numbers value found)
  passed n found p is higher above low = (
    higher_more n found higher,
    above_more n (bound_at parts numbers value found) (bound_at parts numbers value found) above (omega (arith, ints))
        (λ whole. subst (λ q. q.key ≤ℤ bound_at parts numbers value found) (sym is) (low (sym (ap (λ q. q.split) is) ∙ whole))),
  )

  -- all open parts are passed
  pub looked : (n : ℕ) (found : Option ℕ) → n ≡ length numbers → IsHigher parts numbers value n found → IsAboveFirst parts numbers n (bound_at parts numbers value found)
      → IfNone found (IsAboveOpen parts numbers value) × IfSome found (IsGreatestOpen parts numbers value)
  looked n None e higher above = (λ i l whole. above i (omega (arith, l, e)) whole, tt)
  looked n (Some place) e higher above =
      (tt, record { there = omega (arith, higher.0, e); whole = higher.1; above = higher.2; greatest = λ i l whole. above i (omega (arith, l, e)) whole })
