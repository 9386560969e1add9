use Rattle.std.proofs.Common.{◌≡◌, ◌⊎◌, inl, inr, arith, rules, sym, Ordering, Less, Equal, Greater}
use Rattle.std.specs.Ordering.{MatchOrdering}
use Rattle.std.proofs.lemmas.Int.{ints}
use Rattle.ice_defs.specs.Fraction.{Fraction, Equals, IsFraction, Below}
use Rattle.ice_turns.proofs.Scanning.{Below-right}
use Rattle.ice_turns.proofs.scan.is_above.Goals as goal

not_less : (o : Ordering) (a b : Fraction) → (o ≡ Equal) ⊎ (o ≡ Greater) → MatchOrdering o (Below a b) (Equals a b) (Below b a) → ¬ Below a b
not_less Less a b (inl e) ranked below = absurd (cc)
not_less Less a b (inr e) ranked below = absurd (cc)
not_less Equal a b is ranked below = omega (arith, ints, ranked, below)
not_less Greater a b is ranked below = omega (arith, ints, ranked, below)

pub returns-in-Less-clause-yes : goal.returns-in-Less-clause-yes
returns-in-Less-clause-yes c =
    let equal : Equals c.in-Some.fraction (record { num = c.args.num; den = c.args.den }) = search rules in
    λ _. Below-right c.args.most.now c.in-Some.fraction (record { num = c.args.num; den = c.args.den }) c.requires.positive equal c.in-Less.ensures.ranked

pub returns-in-Equal : goal.returns-in-Equal
returns-in-Equal c =
    let equal : Equals c.in-Some.fraction (record { num = c.args.num; den = c.args.den }) = search rules in
    let given : Fraction = record { num = c.args.num; den = c.args.den } in
    let positive : IsFraction c.in-Some.fraction = c.in-Some.ensures.lowest.positive in
    record {
      yes = λ h. absurd (cc);
      no = λ below. absurd (not_less c.cmp.result c.args.most.now c.in-Some.fraction c.in-Equal.is c.cmp.ensures.ranked
          (Below-right c.args.most.now given c.in-Some.fraction positive (sym equal) below));
    }
