use Rattle.std.proofs.Common.{rules, ◌≡◌, ◌<◌, ◌+◌, ℕ, List, length, get_or, set, replicate, ℤ, pos, sym, ◌∙◌, ap, subst, arith, below_more, length-set}
use Rattle.std.proofs.lemmas.List.{ext_get_or, get_or-set_same, get_or-set_other, length-replicate}
use Rattle.std.proofs.lemmas.Int.{to_z-of_z}
use mir.Syntax.{w64}
use mir.Val.{SFits}
use Rattle.ice_check_records.proofs.steps_in.multipliers_of.Goals as goal

pub loop-good-preserved : goal.loop-good-preserved
loop-good-preserved c =
    let numbers = c.args.numbers.now in
    let m = c.loop-good.m in
    let good = c.loop-good.good in
    let zero_is : c.zero-m.result ≡ replicate (length numbers) (pos 0) = c.zero-m.ensures in
    let count : length c.zero-m.result ≡ length numbers = ap length zero_is ∙ length-replicate (length numbers) (pos 0) in
    let there : good < length m = omega (arith, c.loop-good-test.true, c.len-good-end.ensures.value, count, c.loop-good.invariant.count) in
    let fits : SFits w64 (get_or numbers c.from.result (pos 0)) = search rules in
    let new : c.put.new.self ≡ set m good (get_or numbers good (pos 0)) =
    c.put.ensures ∙ ap (λ (z : ℤ). set m good z) (to_z-of_z w64 (get_or numbers c.from.result (pos 0)) fits) ∙ ap (λ (k : ℕ). set m good (get_or numbers k (pos 0))) c.from.ensures in
    record {
      count = ap length new ∙ length-set m good (get_or numbers good (pos 0)) ∙ c.loop-good.invariant.count;
      same = subst (λ (l : List ℤ). (k : ℕ) → k < good + 1 → get_or l k (pos 0) ≡ get_or numbers k (pos 0)) (sym new)
          (below_more (λ (k : ℕ). get_or (set m good (get_or numbers good (pos 0))) k (pos 0) ≡ get_or numbers k (pos 0)) good
          (λ k l. get_or-set_other m good k (get_or numbers good (pos 0)) (pos 0) (λ e. omega (arith, l, e)) ∙ c.loop-good.invariant.same k l)
          (get_or-set_same m good (get_or numbers good (pos 0)) (pos 0) there));
    }

pub returns : goal.returns
returns c =
    let zero_is : c.zero-m.result ≡ replicate (length c.args.numbers.now) (pos 0) = c.zero-m.ensures in
    let count : length c.zero-m.result ≡ length c.args.numbers.now = ap length zero_is ∙ length-replicate (length c.args.numbers.now) (pos 0) in
    ext_get_or (pos 0) c.loop-good.m c.args.numbers.now c.loop-good.invariant.count (λ g h. c.loop-good.invariant.same g (omega (arith, count, c.len-good-end.ensures.value, c.loop-good-test.false, c.loop-good.invariant.count, h)))
