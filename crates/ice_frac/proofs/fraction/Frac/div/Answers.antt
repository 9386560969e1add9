use Rattle.std.proofs.lemmas.Result.{IfOk-weaker}
use Rattle.ice_defs.specs.Fraction.{Fraction}
use Rattle.ice_frac.proofs.Lowest.{Equals-reciprocal}
use Rattle.ice_frac.proofs.fraction.Frac.div.Goals as goal

pub returns-clause-equal : goal.returns-clause-equal
returns-clause-equal c =
    let s : Fraction = c.args.self.now in
    let o : Fraction = c.args.other.now in
    IfOk-weaker c.mul.result _ _ (λ r h. Equals-reciprocal r.num s.num o.num r.den s.den o.den (rw (← c.reciprocal.ensures.value) h)) c.mul.ensures.equal
