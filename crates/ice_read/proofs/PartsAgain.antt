-- What is written of the parts of an exchange is read again.
use Rattle.std.proofs.Common.{◌≡◌, ℕ, zero, suc, ◌&&◌, ℤ, pos, negsuc, ◌≤ℤ◌, Ok, ap, arith}
use Rattle.std.specs.Prelude.{codes, int_le}
use Rattle.std.proofs.Math.Dec.{eqb-suc-zero}
use Rattle.std.proofs.lemmas.Bool.{and_from, cond-true}
use Rattle.std.proofs.lemmas.Int.{ints}
use Rattle.ice_defs.specs.FileFault.{Path, Read, refuse, ◌>>=◌}
use Rattle.ice_defs.specs.Exchange.{Settings, AreSettings}
use Rattle.ice_defs.proofs.Integers.{int_le-from}
use Rattle.ice_read.specs.Values.{at_member, whole_of}
use Rattle.ice_read.specs.ExchangeFile.{settings_at}
use Rattle.ice_read.specs.Written.{whole_data, settings_data}

pub then : {A B : Type 0} (r : Read A) (x : A) (next : A → Read B) → r ≡ Ok x → (r >>= next) ≡ next x
then r x next e = ap (λ o. o >>= next) e

pub whole_again : (path : Path) (low high z : ℤ) → low ≤ℤ z → z ≤ℤ high → whole_of path low high (whole_data z) ≡ Ok z
whole_again path low high (pos n) l h = cond-true (int_le low (pos n) && int_le (pos n) high) _ (refuse 4 path) (and_from _ _ (int_le-from low (pos n) l) (int_le-from (pos n) high h))
whole_again path low high (negsuc n) l h = cond-true (int_le low (negsuc n) && int_le (negsuc n) high) _ (refuse 4 path) (and_from _ _ (int_le-from low (negsuc n) l) (int_le-from (negsuc n) high h))

record AreNumbersAgain (path : Path) (s : Settings) : Type 0 where
  weight : whole_of (at_member path (codes "weight")) (pos 0) (pos 100) (whole_data (pos s.weight)) ≡ Ok (pos s.weight)
  close_regret : whole_of (at_member path (codes "close_regret")) (pos 0) (pos 1000000000000) (whole_data s.close_regret) ≡ Ok s.close_regret
  cap : whole_of (at_member path (codes "cap")) (pos 1) (pos 1000000000) (whole_data s.cap) ≡ Ok s.cap
  improve : whole_of (at_member path (codes "improve")) (pos 0) (pos 1000000000) (whole_data s.improve) ≡ Ok s.improve
  rounds : whole_of (at_member path (codes "rounds")) (pos 0) (pos 20) (whole_data (pos s.rounds)) ≡ Ok (pos s.rounds)
  branches : whole_of (at_member path (codes "branches")) (pos 0) (pos 50000) (whole_data (pos s.branches)) ≡ Ok (pos s.branches)
  derived : whole_of (at_member path (codes "derived")) (pos 0) (pos 2000) (whole_data (pos s.derived)) ≡ Ok (pos s.derived)

numbers_again : (path : Path) (s : Settings) → AreSettings s → AreNumbersAgain path s
numbers_again path s is = record {
  weight = whole_again (at_member path (codes "weight")) (pos 0) (pos 100) (pos s.weight) (omega (arith, ints)) (omega (arith, ints, is.weight));
  close_regret = whole_again (at_member path (codes "close_regret")) (pos 0) (pos 1000000000000) s.close_regret is.close_regret.0 is.close_regret.1;
  cap = whole_again (at_member path (codes "cap")) (pos 1) (pos 1000000000) s.cap is.cap.0 is.cap.1;
  improve = whole_again (at_member path (codes "improve")) (pos 0) (pos 1000000000) s.improve is.improve.0 is.improve.1;
  rounds = whole_again (at_member path (codes "rounds")) (pos 0) (pos 20) (pos s.rounds) (omega (arith, ints)) (omega (arith, ints, is.rounds));
  branches = whole_again (at_member path (codes "branches")) (pos 0) (pos 50000) (pos s.branches) (omega (arith, ints)) (omega (arith, ints, is.branches));
  derived = whole_again (at_member path (codes "derived")) (pos 0) (pos 2000) (pos s.derived) (omega (arith, ints)) (omega (arith, ints, is.derived));
}

pub settings_again : (path : Path) (s : Settings) → AreSettings s → settings_at path (settings_data s) ≡ Ok s
settings_again path s is = by s.derived (numbers_again path s is)
  where
    by : (derived : ℕ) → AreNumbersAgain path (record s { derived = derived }) → settings_at path (settings_data (record s { derived = derived })) ≡ Ok (record s { derived = derived })
    by zero e = rw (e.weight, e.close_regret, e.cap, e.improve, e.rounds, e.branches)
    by (suc n) e = rw (eqb-suc-zero n, e.weight, e.close_regret, e.cap, e.improve, e.rounds, e.branches, e.derived)
