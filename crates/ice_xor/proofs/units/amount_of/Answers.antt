use Rattle.std.proofs.Common.{◌≡◌, ◌∙◌, Ok, pos, refl, ap, arith}
use Rattle.std.proofs.lemmas.Int.{ints}
use Rattle.std.specs.Prelude.{neg_ℤ}
use Rattle.serde_json.specs.View.{view}
use Rattle.ice_read.specs.declared.cause.ReadCause.TheVariants.{Range}
use Rattle.ice_read.specs.Values.{whole_of}
use Rattle.ice_read.proofs.PlacesOfFaults.{refused}
use Rattle.ice_xor.proofs.units.amount_of.Goals as goal

pub returns-then-amount-eq0-clause-reading : goal.returns-then-amount-eq0-clause-reading
returns-then-amount-eq0-clause-reading c = λ path.
    let none : c.in_ok-amount.amount ≡ pos 0 = omega (arith, ints) in
    let read : whole_of path (neg_ℤ (pos 1000)) (pos 1000) (view c.args.value.now) ≡ Ok (pos 0) = c.in_ok-amount.ensures.reading path ∙ ap Ok none in
    rw read (refused 4 Range c.of.result c.of.ensures refl path)
