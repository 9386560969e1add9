use Rattle.std.proofs.Common.{ℕ, ℤ, ◌≡◌, ◌<◌, ◌*◌, sym, subst, pos, arith, to_z, of_z}
use Rattle.std.specs.Prelude.{unsigned_abs}
use mir.Syntax.{w128}
use Rattle.std.proofs.lemmas.Int.{ints}
use Rattle.std.proofs.Math.Nat.{mul-pos}
use Rattle.ice_defs.specs.Fraction.{Fraction, IsFraction, Equals}
use Rattle.ice_frac.proofs.Fractions.{Equals-trans}
use Rattle.ice_certificate.proofs.Equality.{not_equal}
use Rattle.ice_fair.proofs.gaps.is_over_both.Goals as goal

-- of numbers that are read back
read_back : (f : Fraction) (n z : ℤ) (m w : ℤ) (d : ℕ) → z ≡ n → w ≡ pos d → Equals f (record { num = z; den = unsigned_abs w }) → Equals f (record { num = n; den = d })
read_back f n z m w d e g h = subst (λ (k : ℤ). Equals f (record { num = n; den = unsigned_abs k })) g (subst (λ (k : ℤ). Equals f (record { num = k; den = unsigned_abs w })) e h)

pub returns-in-Equal-clause-yes : goal.returns-in-Equal-clause-yes
returns-in-Equal-clause-yes c =
    let num : to_z w128 (of_z w128 c.args.num) ≡ c.args.num = omega (arith, ints, c.requires.low, c.requires.high) in
    let den : to_z w128 (of_z w128 c.both_dens.result) ≡ pos (c.args.cut * c.args.prices.now.den) = omega (arith, ints, c.both_dens.ensures.value, c.both_dens.ensures.high) in
    let found : Equals c.in-Some.found (record { num = c.args.num; den = c.args.cut * c.args.prices.now.den }) =
    read_back c.in-Some.found c.args.num _ c.args.num _ (c.args.cut * c.args.prices.now.den) num den c.in-Some.ensures.equal in
    let positive : IsFraction c.in-Some.found = c.in-Some.ensures.lowest.positive in
    λ _. Equals-trans c.args.fraction.now c.in-Some.found (record { num = c.args.num; den = c.args.cut * c.args.prices.now.den }) positive c.in-Equal.ensures.ranked found

pub returns-in-Less : goal.returns-in-Less
returns-in-Less c =
    let num : to_z w128 (of_z w128 c.args.num) ≡ c.args.num = omega (arith, ints, c.requires.low, c.requires.high) in
    let den : to_z w128 (of_z w128 c.both_dens.result) ≡ pos (c.args.cut * c.args.prices.now.den) = omega (arith, ints, c.both_dens.ensures.value, c.both_dens.ensures.high) in
    let found : Equals c.in-Some.found (record { num = c.args.num; den = c.args.cut * c.args.prices.now.den }) =
    read_back c.in-Some.found c.args.num _ c.args.num _ (c.args.cut * c.args.prices.now.den) num den c.in-Some.ensures.equal in
    let proper : 0 < c.args.cut * c.args.prices.now.den = mul-pos c.requires.positive (omega (arith, c.both_dens.ensures.limits)) in
    record {
      yes = λ h. absurd cc;
      no = λ same. absurd (not_equal c.cmp.result c.args.fraction.now c.in-Some.found c.in-Less.is c.cmp.ensures.ranked
          (Equals-trans c.args.fraction.now (record { num = c.args.num; den = c.args.cut * c.args.prices.now.den }) c.in-Some.found proper same (sym found)));
    }
