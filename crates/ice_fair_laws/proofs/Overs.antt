-- Sums, differences and multiples of fractions over denominators that are known.
use Rattle.std.proofs.Common.{ℕ, ◌*◌, ℤ, pos, neg_ℤ, ◌+ℤ◌, ◌*ℤ◌, refl}
use Rattle.std.proofs.Math.Nat.{mul-pos}
use Rattle.ice_defs.specs.Fraction.{Fraction, IsFraction, minus, negation}
use Rattle.ice_frac.proofs.Fractions.{Equals-less, Equals-negated}
use Rattle.ice_pricing_laws.proofs.Dens.{IsOver}

abbrev pub over : ℤ → ℕ → Fraction
over n d = record { num = n; den = d }

pub own_over : (f : Fraction) → IsFraction f → IsOver f.den f.num f
own_over f h = record { proper = h; equal = refl }

pub less_over : (d e : ℕ) (m n : ℤ) (f g : Fraction) → IsOver d m f → IsOver e n g → IsOver (d * e) ((m *ℤ pos e) +ℤ (neg_ℤ n *ℤ pos d)) (minus f g)
less_over d e m n f g is other = record { proper = mul-pos is.proper other.proper; equal = Equals-less f g (over m d) (over n e) is.equal other.equal }

pub negated_over : (d : ℕ) (m : ℤ) (f : Fraction) → IsOver d m f → IsOver d (neg_ℤ m) (negation f)
negated_over d m f is = record { proper = is.proper; equal = Equals-negated f (over m d) is.equal }
