-- One turn of a trace.
use Rattle.std.proofs.Common.{◌≡◌, ℕ, zero, suc, ◌+◌, ◌-◌, ◌<◌, ◌≤◌, refl, sym, ap, subst, arith, ◌∙◌, Option, Some, None, Result, Ok, Err, IfErr}
use Rattle.std.specs.Result.{IsErrAnd}
use Rattle.ice_defs.specs.Dictionary.{Dictionary, Spot, Choice, is_least, is_unbounded, is_wide, pivots, choice, pivot_dictionary}
use Rattle.ice_lp.specs.declared.ends.LpEnd.{LpEnd}
use Rattle.ice_lp.specs.declared.ends.LpEnd.TheVariants.{Wide}
use Rattle.ice_lp.specs.declared.trace.Turn.{Turn}
use Rattle.ice_lp.specs.Turning.{choice_value}
use Rattle.ice_lp.specs.Ending.{IsEnd, made_by, made_at, made_from}
use Rattle.ice_defs.specs.Trace.{TraceEnd, least_end, infeasible_end, wide_end, pivots_end, and_pivot, at_choice, end_from}

abbrev pub next_of : ℕ → ℕ → Option Dictionary → TraceEnd
next_of zero count = λ after. pivots_end
next_of (suc left) count = and_pivot (end_from left (suc count))

pub end_is : (left count : ℕ) (d : Dictionary) (c : Choice) → choice d ≡ c → end_from left count d ≡ at_choice count d (next_of left count) c
unfolding end_from
end_is zero count d c e = ap (at_choice count d (λ after. pivots_end)) e
end_is (suc left) count d c e = ap (at_choice count d (and_pivot (end_from left (suc count)))) e

pub end_pivot : (left count l : ℕ) (d after : Dictionary) (k : Spot) → choice d ≡ pivots l k → pivot_dictionary d l k ≡ Some after → end_from (suc left) count d ≡ end_from left (suc count) after
end_pivot left count l d after k e p = end_is (suc left) count d (pivots l k) e ∙ ap (and_pivot (end_from left (suc count))) p

pub end_wide : (left count l : ℕ) (d : Dictionary) (k : Spot) → choice d ≡ pivots l k → pivot_dictionary d l k ≡ None → end_from (suc left) count d ≡ wide_end
end_wide left count l d k e p = end_is (suc left) count d (pivots l k) e ∙ ap (and_pivot (end_from left (suc count))) p

pub wide_err : {T : Type 0} → (r : Result T LpEnd) (t : TraceEnd) → t ≡ wide_end → IsErrAnd r (λ e. e ≡ Wide) → IfErr r (IsEnd t)
wide_err (Ok x) t e h = tt
wide_err (Err x) t e h = subst (IsEnd t) (sym h) e

pub choice_is : (d : Dictionary) (t made : Turn) → made ≡ t → choice_value (Ok made) ≡ choice d → choice d ≡ choice_value (Ok t)
choice_is d t made e h = sym h ∙ ap (λ (x : Turn). choice_value (Ok x)) e

-- one pivot, with the numbers as code has them
pub after_pivot : (left made start l : ℕ) (d after : Dictionary) (k : Spot) → 0 < left → start ≤ made → choice d ≡ pivots l k → pivot_dictionary d l k ≡ Some after
    → end_from left (made - start) d ≡ end_from (left - 1) (made + 1 - start) after
after_pivot left made start l d after k h low e p =
    let one : left ≡ suc (left - 1) = omega arith in
    let more : suc (made - start) ≡ made + 1 - start = omega arith in
    ap (λ n. end_from n (made - start) d) one ∙ end_pivot (left - 1) (made - start) l d after k e p ∙ ap (λ n. end_from (left - 1) n after) more

pub wide_pivot : (left count l : ℕ) (d : Dictionary) (k : Spot) → 0 < left → choice d ≡ pivots l k → pivot_dictionary d l k ≡ None → end_from left count d ≡ wide_end
wide_pivot left count l d k h e p =
    let one : left ≡ suc (left - 1) = omega arith in
    ap (λ n. end_from n count d) one ∙ end_wide (left - 1) count l d k e p

pub spent : (left count l : ℕ) (d : Dictionary) (k : Spot) → left ≡ 0 → choice d ≡ pivots l k → end_from left count d ≡ pivots_end
spent left count l d k z e = ap (λ n. end_from n count d) z ∙ end_is zero count d (pivots l k) e

pub least_is : (left count : ℕ) (d : Dictionary) → choice d ≡ is_least → end_from left count d ≡ least_end count d
least_is left count d e = end_is left count d is_least e

pub unbounded_is : (left count : ℕ) (d : Dictionary) (k : Spot) → choice d ≡ is_unbounded k → end_from left count d ≡ infeasible_end count d k
unbounded_is left count d k e = end_is left count d (is_unbounded k) e

pub wide_is : (left count : ℕ) (d : Dictionary) → choice d ≡ is_wide → end_from left count d ≡ wide_end
wide_is left count d e = end_is left count d is_wide e

-- ---- how many pivots are made

-- none more at a choice that is too wide
pub made_wide : (left count : ℕ) (d : Dictionary) → choice d ≡ is_wide → made_from left count d ≡ count
unfolding made_from
made_wide zero count d e = refl
made_wide (suc left) count d e = ap (made_at count (made_from left (suc count)) d) e

made_one : (left count l : ℕ) (d : Dictionary) (k : Spot) (o : Option Dictionary) → choice d ≡ pivots l k → pivot_dictionary d l k ≡ o
    → made_from (suc left) count d ≡ made_by count (made_from left (suc count)) o
unfolding made_from
made_one left count l d k o e p = ap (made_at count (made_from left (suc count)) d) e ∙ ap (made_by count (made_from left (suc count))) p

-- nor by a pivot that is
pub made_wide_pivot : (left count l : ℕ) (d : Dictionary) (k : Spot) → 0 < left → choice d ≡ pivots l k → pivot_dictionary d l k ≡ None → made_from left count d ≡ count
made_wide_pivot left count l d k h e p =
    let one : left ≡ suc (left - 1) = omega arith in
    ap (λ n. made_from n count d) one ∙ made_one (left - 1) count l d k None e p

-- and one more by a pivot, with the numbers as code has them
pub made_pivot : (left made start l : ℕ) (d after : Dictionary) (k : Spot) → 0 < left → start ≤ made → choice d ≡ pivots l k → pivot_dictionary d l k ≡ Some after
    → made_from left (made - start) d ≡ made_from (left - 1) (made + 1 - start) after
made_pivot left made start l d after k h low e p =
    let one : left ≡ suc (left - 1) = omega arith in
    let more : suc (made - start) ≡ made + 1 - start = omega arith in
    ap (λ n. made_from n (made - start) d) one ∙ made_one (left - 1) (made - start) l d k (Some after) e p ∙ ap (λ n. made_from (left - 1) n after) more

-- the count as code has it, behind an error
pub counted_err : {T : Type 0} → (r : Result T LpEnd) (new old made : ℕ) → old ≤ new → made ≡ new - old → IfErr r (λ e. e ≡ Wide → new ≡ old + made)
counted_err (Ok x) new old made low e = tt
counted_err (Err x) new old made low e = λ is. omega (arith, low, e)
