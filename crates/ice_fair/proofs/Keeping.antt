-- What is known of a last settlement that is kept.
use Rattle.std.proofs.Common.{ℕ, ◌*◌, ◌/◌, ◌<◌, ◌≤◌, ◌^◌, ◌≡◌, List, length, map, ℤ, pos, arith, sym, subst, ◌∙◌}
use Rattle.std.specs.List.{AllByRecursion}
use Rattle.std.proofs.lemmas.Int.{ints}
use Rattle.std.proofs.lemmas.List.{length-map, get_or-map}
use Rattle.std.proofs.Math.Nat.{div-le_self}
use Rattle.ice_defs.specs.Fraction.{Fraction, whole_number, Equals, fraction_at}
use Rattle.ice_defs.specs.Exchange.{Exchange, trees_of, exact_of}
use Rattle.ice_defs.specs.PricingRun.{num_over}
use Rattle.ice_row_laws.specs.Sizes.{IsSizedWithin}
use Rattle.ice_pricing_laws.proofs.Lists.{all-at}
use Rattle.ice_pricing.specs.Provisional.{IsProvisional, AreModest}
use Rattle.ice_fair_laws.specs.Fair.{PaidTrade, paid_of, low_bounds}
use Rattle.ice_fair_laws.specs.Whole.{ArePaidOver}
use Rattle.ice_fair_laws.proofs.Fairs.{paid-cut}
use Rattle.ice_defs.specs.Set.{Weights}
use Rattle.ice_defs.specs.Trade.{Assignment}
use Rattle.ice_defs.specs.Lawful.{IsExchange}
use Rattle.ice_defs.specs.Weighing.{weighted_weights}
use Rattle.ice_tree.specs.Alike.{HasWeightPerNode}
use Rattle.ice_trade.proofs.Weighted.{length-trees, length-exact}
use Rattle.ice_row_laws.specs.Laws.{AreSatisfied}
use Rattle.ice_pricing.specs.Bounding.{AreBoundsOf}
use Rattle.ice_pricing.proofs.Weighing.{tree-limited}
use Rattle.ice_fair_laws.specs.Run.{IsCutDen}
use Rattle.ice_fair_laws.specs.Laws.{IsPaidTrade}
use Rattle.ice_fair.specs.Lasts.{LastTrade, IsLast, IsShortPayment, nums_of, trade_of}
use Rattle.ice_defs.specs.Bounds.{Bounds}
use Rattle.ice_fair.specs.Kept.{IsKept}
use Rattle.ice_fair.specs.Trades.{num_at, AreNumbers}
use Rattle.ice_turns.proofs.Signed.{product-within}

-- a short payment over a denominator from 1 to 1,000
pub num_over-sized : (f : Fraction) (cut : ℕ) → IsShortPayment f → cut ≤ 1000 → IsSizedWithin (10 ^ 21) (num_over cut f)
num_over-sized f cut short few =
    let quotient : cut / f.den ≤ cut = div-le_self cut f.den in
    let is : IsSizedWithin (10 ^ 18 * 1000) (num_over cut f) =
    product-within f.num (pos (cut / f.den)) (10 ^ 18) 1000 short.low short.high (record { low = omega (arith, ints); high = omega (arith, ints, quotient, few) }) in
    record { low = (let a = is.low in omega (arith, ints, a)); high = (let b = is.high in omega (arith, ints, b)) }

module _ (l : LastTrade) (is : IsLast l) where
  abbrev t : PaidTrade
  t = l.paid

  -- the number at a bidder is its payment over the cut's denominator
  pub num-is : (b : ℕ) → b < length t.trees → num_at (nums_of l) b ≡ num_over l.cut (fraction_at t.payments b)
  num-is b h =
      let count = is.paid.payments_count in
      get_or-map (num_over l.cut) t.payments b (whole_number (pos 0)) (pos 0) (omega (arith, h, count))

  pub nums-are : AreNumbers (trade_of t) l.cut (nums_of l)
  nums-are =
      let count : length (nums_of l) ≡ length t.trees = length-map t.payments (num_over l.cut) ∙ is.paid.payments_count in
      record {
        count = count;
        positive = is.cut.positive;
        few = is.few;
        sized = λ b h.
            let there : b < length t.trees = omega (arith, h, count) in
            let own : IsShortPayment (fraction_at t.payments b) = all-at IsShortPayment t.payments b (whole_number (pos 0)) is.short (let all = is.paid.payments_count in omega (arith, there, all)) in
            subst (IsSizedWithin (10 ^ 21)) (sym (num-is b there)) (num_over-sized (fraction_at t.payments b) l.cut own is.few);
      }

  pub nums-over : ArePaidOver t l.cut (num_at (nums_of l))
  nums-over =
      let paid = paid-cut t l.cut (pos 0) 1 is.paid is.cut in
      record {
        positive = is.cut.positive;
        each = λ b h. subst (λ z. Equals (fraction_at t.payments b) (record { num = z; den = l.cut })) (sym (num-is b h)) (paid.each b h);
      }

-- of a last settlement as it is kept
module _ (l m : LastTrade) (bounds : List Bounds) (nums : List ℤ) (is : IsKept l bounds nums) (same : l ≡ m) where
  pub kept-numbers : AreNumbers (trade_of m.paid) m.cut nums
  kept-numbers = subst (λ (z : LastTrade). AreNumbers (trade_of z.paid) z.cut nums) same (subst (AreNumbers (trade_of l.paid) l.cut) (sym is.nums_are) (nums-are l is.last))

  pub kept-over : ArePaidOver m.paid m.cut (num_at nums)
  kept-over = subst (λ (z : LastTrade). ArePaidOver z.paid z.cut (num_at nums)) same (subst (λ (ns : List ℤ). ArePaidOver l.paid l.cut (num_at ns)) (sym is.nums_are) (nums-over l is.last))

-- the trade of an exchange's bidders
pub provisional-of : (ex : Exchange) (ws : List Weights) (sets : Assignment) → IsExchange ex → length sets ≡ length ex.bidders → AreSatisfied (trees_of ex) sets → HasWeightPerNode (trees_of ex) ws → AreModest ws
    → IsProvisional (record { trees = trees_of ex; weights = ws; sets = sets; goods = length (exact_of ex); cap = ex.settings.cap })
provisional-of ex ws sets lawful count satisfied nodes modest =
    let trees : length (trees_of ex) ≡ length ex.bidders = length-trees ex in
    record {
      bidders = (omega (arith, trees, lawful.bidders_count.0), omega (arith, trees, lawful.bidders_count.1));
      goods_count = (omega (arith, length-exact ex, lawful.goods_count.0), omega (arith, length-exact ex, lawful.goods_count.1));
      cap_low = (let low = lawful.settings.cap.0 in omega (arith, ints, low));
      cap_high = lawful.settings.cap.1;
      count = count ∙ sym trees;
      satisfied = satisfied;
      nodes = nodes;
      modest = modest;
      limited = λ b h. tree-limited ex b lawful h;
    }

-- a last settlement at weights of low bounds
abbrev pub kept_with : Exchange → List Weights → Assignment → List Fraction → ℕ → LastTrade
kept_with ex ws sets payments cut = record {
  exchange = ex;
  paid = record { trees = trees_of ex; weights = ws; sets = sets; goods = length (exact_of ex); cap = ex.settings.cap; payments = payments };
  cut = cut;
}

module _ (ex : Exchange) (bounds low : List Bounds) (ws : List Weights) (sets : Assignment) (payments : List Fraction) (cut : ℕ) (lows : low ≡ low_bounds bounds) (weights : ws ≡ weighted_weights ex.settings.weight low) where
  pub kept-of : (nums : List ℤ) → IsExchange ex → AreBoundsOf ex low → length sets ≡ length ex.bidders → HasWeightPerNode (trees_of ex) ws → AreModest ws
      → IsPaidTrade (paid_of ex bounds sets payments) → IsCutDen (paid_of ex bounds sets payments) cut → cut ≤ 1000 → AllByRecursion IsShortPayment payments → nums ≡ map (num_over cut) payments
      → IsKept (kept_with ex ws sets payments cut) low nums
  kept-of nums lawful are count nodes modest paid cuts few short numbers = record {
    last = record {
      trade = provisional-of ex ws sets lawful count paid.satisfied nodes modest;
      paid = record { satisfied = paid.satisfied; payments_count = paid.payments_count; fractions = paid.fractions };
      cut = record { positive = cuts.positive; divides = cuts.divides };
      few = few;
      short = short;
    };
    bounds_of = are;
    weights = weights;
    nums_are = numbers;
  }
