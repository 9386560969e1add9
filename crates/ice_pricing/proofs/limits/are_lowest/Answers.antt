use Rattle.std.proofs.Common.{ℕ, ◌≡◌, ◌∙◌, ◌+◌, ◌++◌, [], ◌∷◌, List, ℤ, pos, ap, sym, subst, arith, rules, take, get_or, to_z, of_z}
use mir.Syntax.{w64}
use Rattle.std.specs.Prelude.{unsigned_abs}
use Rattle.std.proofs.lemmas.Int.{ints}
use Rattle.std.proofs.lemmas.List.{take_more, take_all}
use Rattle.std.proofs.lemmas.Bool.Decides.{nat_tests}
use Rattle.ice_defs.specs.Frac.{gcd}
use Rattle.ice_pricing.proofs.Divisors.{IsShared, shared-none, shared-more, one-shares}
use Rattle.ice_pricing.proofs.limits.are_lowest.Goals as goal

pub loop-num-init : goal.loop-num-init
loop-num-init c =
    let same : to_z w64 (of_z w64 c.den-shared.result) ≡ pos c.args.prices.now.den = omega (arith, ints, c.den-shared.ensures.den, c.den-shared.ensures.limits.den.1) in
    subst (IsShared c.args.prices.now.den []) (sym (ap unsigned_abs same)) (shared-none c.args.prices.now.den (omega (arith, c.den-shared.ensures.limits.den.0)))

pub loop-num-preserved : goal.loop-num-preserved
loop-num-preserved c =
    let i : ℕ = c.loop-num.num-index in
    let nums : List ℤ = c.nums-num-items.result.now in
    let e : c.common_divisor-shared.result ≡ gcd (unsigned_abs (get_or c.nums-num-items.result.now c.loop-num.num-index (pos 0))) c.loop-num.shared = search rules in
    let next : take (i + 1) nums ≡ take i nums ++ get_or nums i (pos 0) ∷ [] = take_more nums i (pos 0) c.loop-num-test.true in
    subst (λ (front : List ℤ). IsShared c.args.prices.now.den front c.common_divisor-shared.result) (sym next)
    (subst (IsShared c.args.prices.now.den (take i nums ++ get_or nums i (pos 0) ∷ [])) (sym e)
    (shared-more c.args.prices.now.den (take i nums) c.loop-num.shared (get_or nums i (pos 0)) c.loop-num.invariant))

pub returns-clause-yes : goal.returns-clause-yes
returns-clause-yes c =
    let whole : take c.loop-num.num-index c.nums-num-items.result.now ≡ c.args.prices.now.nums =
    take_all c.loop-num.num-index c.nums-num-items.result.now (omega (arith, c.loop-num-test.false)) ∙ c.nums-num-items.ensures.nums in
    let is : IsShared c.args.prices.now.den c.args.prices.now.nums c.loop-num.shared = subst (λ (nums : List ℤ). IsShared c.args.prices.now.den nums c.loop-num.shared) whole c.loop-num.invariant in
    λ h. let one : c.loop-num.shared ≡ 1 = grind (arith, nat_tests) in one-shares c.args.prices.now c.loop-num.shared is one
