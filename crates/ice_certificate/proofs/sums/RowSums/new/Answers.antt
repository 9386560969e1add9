use Rattle.std.proofs.Common.{pos, refl, arith, sym, subst}
use Rattle.std.proofs.lemmas.Int.{ints}
use Rattle.std.proofs.lemmas.List.{get_or-replicate}
use Rattle.ice_row_laws.specs.Sizes.{IsSizedWithin}
use Rattle.ice_certificate.proofs.sums.RowSums.new.Goals as goal

nothing : IsSizedWithin 0 (pos 0)
nothing = record { low = omega (arith, ints); high = omega (arith, ints) }

pub invariant_of-result : goal.invariant_of-result
invariant_of-result c = record {
  goods = refl;
  weight = omega arith;
  worth = nothing;
  units = λ g h. subst (IsSizedWithin 0) (sym (get_or-replicate 32 g (pos 0) (pos 0) h)) nothing;
}

pub returns : goal.returns
returns c = record { weight = refl; worth = refl; units = λ g h. get_or-replicate 32 g (pos 0) (pos 0) h }
