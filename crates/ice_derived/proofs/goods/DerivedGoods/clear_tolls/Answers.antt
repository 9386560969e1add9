use Rattle.std.proofs.Common.{replicate, pos, arith, ap, sym, ◌∙◌, subst}
use Rattle.std.proofs.lemmas.Int.{ints}
use Rattle.ice_derived.specs.Ranges.{AreInRange}
use Rattle.ice_derived.proofs.Charging.{none_charged, zero_tolls, zero_charges}
use Rattle.ice_derived.proofs.goods.DerivedGoods.clear_tolls.Goals as goal

pub invariant_of-self : goal.invariant_of-self
invariant_of-self c =
    let i = c.self.inside in
    let count = ap (λ n. replicate n (pos 0)) (i.tolls.ok.0 ∙ c.self.invariant.charges.count) in
    record {
      charges = none_charged i.packed c.clear.new.tolls.items c.clear_rows.new.rows.items (c.clear.ensures.items ∙ count) c.clear_rows.ensures.nodes c.clear_rows.ensures.each;
      room = omega (arith, c.self.invariant.room, c.clear.ensures.capacity);
      range = subst AreInRange (sym c.clear.ensures.items) (zero_tolls _);
      small = zero_charges i.packed.nodes c.clear_rows.new.rows.items c.clear_rows.ensures.nodes c.clear_rows.ensures.each;
      on_limits = record { low = omega (arith, ints); high = omega (arith, ints) };
    }
