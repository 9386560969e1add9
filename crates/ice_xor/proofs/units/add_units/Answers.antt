use Rattle.std.proofs.Common.{◌≡◌, ◌∙◌, length, ap, arith}
use Rattle.std.specs.Prelude.{unwrap_or, position, nat_lt}
use Rattle.ice_xor.specs.declared.units.GoodUnits.{GoodUnits}
use Rattle.ice_xor.proofs.Inserting.{inserted}
use Rattle.ice_xor.proofs.units.add_units.Goals as goal

pub returns-in-Ok : goal.returns-in-Ok
returns-in-Ok c =
    let size : c.len.result ≡ length c.args.units.now.items = omega (arith, c.len.ensures, c.deref.ensures.len, ap length c.deref.ensures.value) in
    c.in-Ok.ensures.items
    ∙ inserted c.args.added c.args.units.now.items c.unwrap_or-place.result
    (c.unwrap_or-place.ensures
    ∙ ap (λ o. unwrap_or o c.len.result) (c.next_place.ensures ∙ ap (position (λ (other : GoodUnits). nat_lt c.args.added.good other.good)) c.deref.ensures.value)
    ∙ ap (unwrap_or (position (λ (other : GoodUnits). nat_lt c.args.added.good other.good) c.args.units.now.items)) size)
