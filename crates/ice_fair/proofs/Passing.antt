-- From whole numbers to the distance and the fairness test, and what all tests together say.
use Rattle.std.proofs.Common.{ℕ, ◌≡◌, ◌<◌, ◌*◌, List, length, ℤ, sym, subst}
use Rattle.ice_defs.specs.Fraction.{Fraction, IsFraction, Equals}
use Rattle.ice_defs.specs.Prices.{Prices}
use Rattle.ice_defs.specs.Rows.{Certificate}
use Rattle.ice_fair_laws.specs.Fair.{PaidTrade, FairCertificate, AreFair, IsDistance, PassesFairness}
use Rattle.ice_fair_laws.specs.Laws.{IsPaidTrade, violation_of}
use Rattle.ice_fair_laws.specs.Whole.{ArePaidOver, IsGreatestGap}
use Rattle.ice_fair_laws.proofs.Wholes.{test_is_whole, greatest_gap_is_distance}
use Rattle.ice_fair_laws.proofs.Nearest.{test_gives_fair}
use Rattle.ice_pricing.specs.Provisional.{ProvisionalTrade}
use Rattle.ice_fair_stage.specs.Certified.{IsFairLimited}
use Rattle.ice_fair.specs.Lasts.{LastTrade, trade_of}
use Rattle.ice_fair.specs.Trades.{num_at, paid_by}
use Rattle.ice_fair.specs.Tested.{IsTested, PassesFairTests, PassesPriceTests, PassesNearness}

module _ (t : PaidTrade) (cut : ℕ) (nums : List ℤ) (proper : IsPaidTrade t) (over : ArePaidOver t cut (num_at nums)) (p : Prices) (positive : 0 < p.den) (g : ℤ) (d : Fraction) (fraction : IsFraction d) where
  abbrev own : PaidTrade
  own = paid_by (trade_of t) cut nums

  abbrev over_both : Fraction
  over_both = record { num = g; den = cut * p.den }

  module _ (greatest : IsGreatestGap own p cut (num_at nums) g) where
    greatest-own : IsGreatestGap t p cut (num_at nums) g
    greatest-own = record { over = greatest.over; under = greatest.under; attained = greatest.attained }

    pub gap-distance : Equals d over_both → IsDistance t p d
    gap-distance = (greatest_gap_is_distance t p cut (num_at nums) g d proper positive over greatest-own fraction).1

    pub distance-gap : IsDistance t p d → Equals d over_both
    distance-gap = (greatest_gap_is_distance t p cut (num_at nums) g d proper positive over greatest-own fraction).0

  module _ (equal : Equals d over_both) (x : ℤ) (c : FairCertificate) where
    pub tested-passes : IsFairLimited (length t.trees) c → IsTested own c p x cut (num_at nums) g → PassesFairness t c (violation_of p x) d
    tested-passes limited tested =
        (test_is_whole t c p x cut (num_at nums) g d proper positive over fraction equal).1 limited.positive limited.low_count limited.high_count tested.rows tested.numbers tested.even

    pub passes-tested : PassesFairness t c (violation_of p x) d → IsTested own c p x cut (num_at nums) g
    passes-tested passes = record {
      rows = passes.rows;
      numbers = passes.numbers;
      even = (test_is_whole t c p x cut (num_at nums) g d proper positive over fraction equal).0 passes;
    }

-- of numbers and parts as they are read
module _ (l : LastTrade) (t : ProvisionalTrade) (cut : ℕ) (nums : List ℤ) (p : Prices) (g : ℤ) (d : Fraction) (trades : t ≡ trade_of l.paid) (cuts : cut ≡ l.cut)
    (proper : IsPaidTrade l.paid) (over : ArePaidOver l.paid l.cut (num_at nums)) (positive : 0 < p.den) (fraction : IsFraction d) (greatest : IsGreatestGap (paid_by t cut nums) p cut (num_at nums) g) where
  abbrev both : ℤ → ℕ → Fraction
  both z n = record { num = z; den = n * p.den }

  own-greatest : IsGreatestGap (paid_by (trade_of l.paid) l.cut nums) p l.cut (num_at nums) g
  own-greatest =
      subst (λ (n : ℕ). IsGreatestGap (paid_by (trade_of l.paid) n nums) p n (num_at nums) g) cuts
      (subst (λ (z : ProvisionalTrade). IsGreatestGap (paid_by z cut nums) p cut (num_at nums) g) trades greatest)

  own-equal : (g2 : ℤ) → Equals d (both g2 cut) → g2 ≡ g → Equals d (both g l.cut)
  own-equal g2 equal gaps = subst (λ (n : ℕ). Equals d (both g n)) cuts (subst (λ (z : ℤ). Equals d (both z cut)) gaps equal)

  -- the distance is over both denominators
  pub near-over : (g2 : ℤ) → IsDistance l.paid p d → g2 ≡ g → Equals d (both g2 cut)
  near-over g2 distance gaps =
      subst (λ (z : ℤ). Equals d (both z cut)) (sym gaps)
      (subst (λ (n : ℕ). Equals d (both g n)) (sym cuts) (distance-gap l.paid l.cut nums proper over p positive g d fraction own-greatest distance))

  module _ (c c1 : FairCertificate) (x x1 g1 g2 : ℤ) where
    pub near-yes : Equals d (both g2 cut) → IsTested (paid_by t cut nums) c1 p x1 cut (num_at nums) g1 → IsFairLimited (length l.paid.trees) c → c1 ≡ c → x1 ≡ x → g1 ≡ g → g2 ≡ g
        → PassesNearness l.paid p x d c
    near-yes equal tested limited certs violations gaps others =
        let same : Equals d (both g l.cut) = own-equal g2 equal others in
        let own : IsTested (paid_by (trade_of l.paid) l.cut nums) c p x l.cut (num_at nums) g =
        subst (λ (z : ℤ). IsTested (paid_by (trade_of l.paid) l.cut nums) c p x l.cut (num_at nums) z) gaps
        (subst (λ (z : ℤ). IsTested (paid_by (trade_of l.paid) l.cut nums) c p z l.cut (num_at nums) g1) violations
        (subst (λ (z : FairCertificate). IsTested (paid_by (trade_of l.paid) l.cut nums) z p x1 l.cut (num_at nums) g1) certs
        (subst (λ (n : ℕ). IsTested (paid_by (trade_of l.paid) n nums) c1 p x1 n (num_at nums) g1) cuts
        (subst (λ (z : ProvisionalTrade). IsTested (paid_by z cut nums) c1 p x1 cut (num_at nums) g1) trades tested)))) in
        record {
          distance_is = gap-distance l.paid l.cut nums proper over p positive g d fraction own-greatest same;
          fairness = tested-passes l.paid l.cut nums proper over p positive g d fraction same x c limited own;
        }

    pub near-tested : Equals d (both g2 cut) → PassesNearness l.paid p x d c → c1 ≡ c → x1 ≡ x → g1 ≡ g → g2 ≡ g → IsTested (paid_by t cut nums) c1 p x1 cut (num_at nums) g1
    near-tested equal near certs violations gaps others =
        let same : Equals d (both g l.cut) = own-equal g2 equal others in
        let own : IsTested (paid_by (trade_of l.paid) l.cut nums) c p x l.cut (num_at nums) g = passes-tested l.paid l.cut nums proper over p positive g d fraction same x c near.fairness in
        subst (λ (z : ProvisionalTrade). IsTested (paid_by z cut nums) c1 p x1 cut (num_at nums) g1) (sym trades)
        (subst (λ (n : ℕ). IsTested (paid_by (trade_of l.paid) n nums) c1 p x1 n (num_at nums) g1) (sym cuts)
        (subst (λ (z : FairCertificate). IsTested (paid_by (trade_of l.paid) l.cut nums) z p x1 l.cut (num_at nums) g1) (sym certs)
        (subst (λ (z : ℤ). IsTested (paid_by (trade_of l.paid) l.cut nums) c p z l.cut (num_at nums) g1) (sym violations)
        (subst (λ (z : ℤ). IsTested (paid_by (trade_of l.paid) l.cut nums) c p x l.cut (num_at nums) z) (sym gaps) own))))

-- prices that pass all tests are fair
pub passing-fair : (t : PaidTrade) (p : Prices) (x : ℤ) (accuracy : Certificate) (d : Fraction) (c : FairCertificate) → IsPaidTrade t → PassesFairTests t p x accuracy d c → AreFair t p
passing-fair t p x accuracy d c proper tests = test_gives_fair t p x d accuracy c proper tests.within tests.violates tests.distance_is tests.accurate tests.fairness

-- all tests are those of prices and those of the distance
pub both-pass : (t : PaidTrade) (p : Prices) (x : ℤ) (accuracy : Certificate) (d : Fraction) (c : FairCertificate) → PassesPriceTests (trade_of t) p x accuracy → PassesNearness t p x d c
    → PassesFairTests t p x accuracy d c
both-pass t p x accuracy d c priced near = record {
  within = priced.within;
  lowest = priced.lowest;
  violates = priced.violates;
  accurate = priced.accurate;
  distance_is = near.distance_is;
  fairness = near.fairness;
}
