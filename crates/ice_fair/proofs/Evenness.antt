-- The whole numbers of the fairness test, as sums of rows and numbers give them.
use Rattle.std.proofs.Common.{ℕ, ◌≡◌, List, length, ℤ, pos, ◌+ℤ◌, ◌-ℤ◌, ◌*ℤ◌, ap, refl, sym, subst, ◌∙◌}
use Rattle.std.specs.Int.{int_max}
use Rattle.ice_defs.specs.Sum.{sum_below}
use Rattle.ice_defs.specs.Prices.{Prices}
use Rattle.ice_defs.proofs.Sums.{sum_below-same}
use Rattle.ice_row_laws.specs.Sums.{RowSums, AreSums, units_in}
use Rattle.ice_row_laws.proofs.Weighted.{weighted_sum-ones}
use Rattle.ice_pricing.specs.Provisional.{ProvisionalTrade}
use Rattle.ice_fair_laws.specs.Fair.{PaidTrade, FairCertificate, demand, held_units, row_units}
use Rattle.ice_fair_laws.specs.Whole.{IsEven, held_sum, rows_weight, rows_worth}
use Rattle.ice_fair.specs.Trades.{num_at, paid_by, held_by, held_units_by, asked_by, paid_sum, SumsAreEven}

-- the equality of the test over any numbers
abbrev pub Even : ℤ → ℤ → ℤ → ℤ → ℤ → ℤ → ℤ → ℤ → ℤ → Type 0
Even n d x den g cost weight paid worth = ((n *ℤ (d *ℤ cost)) +ℤ (n *ℤ (x *ℤ weight))) ≡ (((d *ℤ paid) +ℤ (n *ℤ (d *ℤ worth))) -ℤ (den *ℤ g))

pub even-moves : (x1 x2 g1 g2 n1 n2 d1 d2 e1 e2 c1 c2 w1 w2 p1 p2 h1 h2 : ℤ) → x1 ≡ x2 → g1 ≡ g2 → n1 ≡ n2 → d1 ≡ d2 → e1 ≡ e2 → c1 ≡ c2 → w1 ≡ w2 → p1 ≡ p2 → h1 ≡ h2
    → Even n1 d1 x1 e1 g1 c1 w1 p1 h1 → Even n2 d2 x2 e2 g2 c2 w2 p2 h2
even-moves x1 x2 g1 g2 n1 n2 d1 d2 e1 e2 c1 c2 w1 w2 p1 p2 h1 h2 violations gaps cuts dens certs costs weights paids worths even =
    subst (λ z. Even n2 d2 x2 e2 g2 c2 w2 p2 z) worths
    (subst (λ z. Even n2 d2 x2 e2 g2 c2 w2 z h1) paids
    (subst (λ z. Even n2 d2 x2 e2 g2 c2 z p1 h1) weights
    (subst (λ z. Even n2 d2 x2 e2 g2 z w1 p1 h1) costs
    (subst (λ z. Even n2 d2 x2 z g2 c1 w1 p1 h1) certs
    (subst (λ z. Even n2 z x2 e1 g2 c1 w1 p1 h1) dens
    (subst (λ z. Even z d1 x2 e1 g2 c1 w1 p1 h1) cuts
    (subst (λ z. Even n1 d1 x2 e1 z c1 w1 p1 h1) gaps
    (subst (λ z. Even n1 d1 z e1 g1 c1 w1 p1 h1) violations even))))))))

pub sums-move : (t : ProvisionalTrade) (cut : ℕ) (nums : List ℤ) (den1 den2 : ℕ) (low high : List ℕ) (p : Prices) (x1 x2 g1 g2 : ℤ) (s : RowSums) → den1 ≡ den2 → x1 ≡ x2 → g1 ≡ g2
    → SumsAreEven t cut nums den1 low high p x1 g1 s → SumsAreEven t cut nums den2 low high p x2 g2 s
sums-move t cut nums den1 den2 low high p x1 x2 g1 g2 s dens violations gaps even =
    subst (λ z. SumsAreEven t cut nums den2 low high p x2 z s) gaps
    (subst (λ z. SumsAreEven t cut nums den2 low high p z g1 s) violations
    (subst (λ n. SumsAreEven t cut nums n low high p x1 g1 s) dens even))

module _ (t : ProvisionalTrade) (cut : ℕ) (nums : List ℤ) (c : FairCertificate) (s : RowSums) (are : AreSums t.trees t.weights t.sets t.goods c.rows s) where
  abbrev paid : PaidTrade
  paid = paid_by t cut nums

  pub same-weight : pos s.weight ≡ rows_weight c
  same-weight = ap (λ k. pos k) are.weight ∙ sym (weighted_sum-ones c.rows)

  pub same-worth : s.worth ≡ rows_worth paid c
  same-worth = are.worth

  pub same-asked : sum_below (λ g. int_max (held_units_by t c.low c.high g +ℤ (pos 100 *ℤ units_in s g)) (pos 0)) t.goods ≡ demand paid c
  same-asked = sum_below-same (λ g. int_max (held_units_by t c.low c.high g +ℤ (pos 100 *ℤ units_in s g)) (pos 0)) (λ g. int_max (held_units paid c g +ℤ (pos 100 *ℤ row_units paid c g)) (pos 0)) t.goods
      (λ g h. ap (λ z. int_max (held_units_by t c.low c.high g +ℤ (pos 100 *ℤ z)) (pos 0)) (are.units g h))

  pub same-paid : length nums ≡ length t.trees → sum_below (λ b. held_by c.low c.high b *ℤ num_at nums b) (length nums) ≡ held_sum paid c (num_at nums)
  same-paid count = ap (sum_below (λ b. held_by c.low c.high b *ℤ num_at nums b)) count

  module _ (p : Prices) (x g : ℤ) (count : length nums ≡ length t.trees) where
    pub even-of : SumsAreEven t cut nums c.den c.low c.high p x g s → IsEven paid c p x cut (num_at nums) g
    even-of = even-moves x x g g (pos cut) (pos cut) (pos p.den) (pos p.den) (pos c.den) (pos c.den) (t.cap *ℤ asked_by t c.low c.high s) (t.cap *ℤ demand paid c) (pos s.weight) (rows_weight c)
        (paid_sum c.low c.high nums) (held_sum paid c (num_at nums)) s.worth (rows_worth paid c) refl refl refl refl refl (ap (λ z. t.cap *ℤ z) same-asked) same-weight (same-paid count) same-worth

    pub of-even : IsEven paid c p x cut (num_at nums) g → SumsAreEven t cut nums c.den c.low c.high p x g s
    of-even = even-moves x x g g (pos cut) (pos cut) (pos p.den) (pos p.den) (pos c.den) (pos c.den) (t.cap *ℤ demand paid c) (t.cap *ℤ asked_by t c.low c.high s) (rows_weight c) (pos s.weight)
        (held_sum paid c (num_at nums)) (paid_sum c.low c.high nums) (rows_worth paid c) s.worth refl refl refl refl refl (ap (λ z. t.cap *ℤ z) (sym same-asked)) (sym same-weight) (sym (same-paid count)) (sym same-worth)
