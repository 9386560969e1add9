-- What a scan of all bidders' best sets says of a solution.
use Rattle.std.proofs.Common.{ℕ, ◌≡◌, ◌^◌, List, ℤ, pos, ◌≤ℤ◌, ◌<ℤ◌, Option, Some, None, arith, ap, sym, subst, ◌∙◌, inl, inr}
use Rattle.std.specs.Prelude.{Any}
use Rattle.std.specs.List.{AllByRecursion}
use Rattle.std.proofs.lemmas.Int.{ints}
use Rattle.std.proofs.lemmas.Option.{same_Some}
use Rattle.ice_defs.specs.Tree.{Tree}
use Rattle.ice_defs.specs.Set.{NodeSet, Weights}
use Rattle.ice_defs.specs.Trade.{Assignment}
use Rattle.ice_defs.specs.Pricing.{IsChoice, excess_net}
use Rattle.ice_defs.specs.Fraction.{Fraction}
use Rattle.ice_defs.specs.PricingLimit.{wide_limit, pivots_limit, rows_limit, den_limit}
use Rattle.ice_defs.specs.PricingRun.{Member, StageAt, stage_program, point_at, solution_prices, allowance, Violates, IsBestSet, common_den, num_over, weights_at}
use Rattle.ice_frac.proofs.Ring.{scale_le}
use Rattle.ice_pricing_laws.proofs.Lists.{all-at}
use Rattle.ice_pricing_laws.specs.Scans.{ScanFindsNone, ScanGivesViolation, FirstMayFollow, CertificateFits, StageIsUnlimited}

module _ (ts : List Tree) (ws : List Weights) (sets : Assignment) (goods : ℕ) (cap : ℤ) where
  -- where a bidder's best set doesn't violate, none of it does
  best-none : (at : StageAt) (x : List Fraction) (m : Member) → IsBestSet ts ws sets goods cap x m → ¬ Violates ts ws sets goods cap at x m
      → (s : NodeSet) → ¬ Violates ts ws sets goods cap at x (record { bidder = m.bidder; set = s })
  best-none at x m best calm s (there, below) =
      let p = solution_prices ts ws sets goods cap x in
      let a : Fraction = allowance ts ws sets goods cap at x in
      let most = scale_le a.den (excess_net ts ws sets p (m.bidder, s)) (excess_net ts ws sets p (m.bidder, m.set)) (best.1 s there) in
      calm (best.0, omega (arith, ints, most, below))

  other-none : (at : StageAt) (x : List Fraction) (m other : Member) → IsBestSet ts ws sets goods cap x m → ¬ Violates ts ws sets goods cap at x m
      → m.bidder ≡ other.bidder → ¬ Violates ts ws sets goods cap at x other
  other-none at x m other best calm e violates =
      best-none at x m best calm other.set (subst (λ b. Violates ts ws sets goods cap at x (record { bidder = b; set = other.set })) (sym e) violates)

pub scan_finds_none : ScanFindsNone
scan_finds_none ts ws sets goods cap at x best are calm m violates =
    let there = violates.0.0 in
    other-none ts ws sets goods cap at x (best m.bidder) m (are m.bidder there).1 (calm m.bidder there) (are m.bidder there).0 violates

pub scan_gives_violation : ScanGivesViolation
scan_gives_violation ts ws sets goods cap x best v are high (b, there, e) = record {
  attained = (((best b).bidder, (best b).set), (are b there).1.0, e);
  bound = λ c is.
      let p = solution_prices ts ws sets goods cap x in
      let (same, is_best) = are c.0 is.0 in
      let own = is_best.1 c.1 (subst (λ k. IsChoice ts ws sets (k, c.1)) (sym same) is) in
      let most = high c.0 is.0 in
      let one : excess_net ts ws sets p ((best c.0).bidder, c.1) ≡ excess_net ts ws sets p (c.0, c.1) = ap (λ k. excess_net ts ws sets p (k, c.1)) same in
      omega (arith, ints, own, most, one);
}

pub first_may_follow : FirstMayFollow
first_may_follow ts ws sets goods cap at pool x best m room solved few are calm is violates = record {
  room = room;
  solved = (
    x,
    solved,
    few,
    violates,
    is,
    λ other h. other-none ts ws sets goods cap at x (best other.bidder) other (are other.bidder h).1 (calm other.bidder h) (are other.bidder h).0,
  );
}

-- ---- limits

not_any : {X : Type 0} (P Q : X → Type 0) (xs : List X) → ((x : X) → P x → Q x → ⊥) → AllByRecursion P xs → Any Q xs → ⊥
not_any P Q xs each are any = let (k, x, h, e, q) = any in each x (subst P e (all-at P xs k x are h)) q

pub certificate_fits : CertificateFits
certificate_fits ts ws sets goods cap at pool den nums (inl h) = omega (arith, h, den)
certificate_fits ts ws sets goods cap at pool den nums (inr h) =
    not_any (λ w. num_over (common_den (weights_at ts ws sets goods cap at pool)) w ≤ℤ pos (2 ^ 32)) (λ w. pos (2 ^ 32) <ℤ num_over (common_den (weights_at ts ws sets goods cap at pool)) w)
    (weights_at ts ws sets goods cap at pool) (λ w most above. omega (arith, ints, most, above)) nums h

IsSomeList : Option (List Fraction) → Type 0
IsSomeList None = ⊥
IsSomeList (Some x) = Unit {0}

none-some : (x : List Fraction) → (let o : Option (List Fraction) = None in o) ≡ Some x → ⊥
unfolding IsSomeList
none-some x e = subst IsSomeList (sym e) tt

pub stage_is_unlimited : StageIsUnlimited
stage_is_unlimited ts ws sets goods cap at pool x solved none few fits wide_limit e =
    none-some x (sym (ap (point_at ts ws sets goods cap (stage_program ts ws sets goods cap at pool)) e) ∙ solved)
stage_is_unlimited ts ws sets goods cap at pool x solved none few fits pivots_limit e =
    none-some x (sym (ap (point_at ts ws sets goods cap (stage_program ts ws sets goods cap at pool)) e) ∙ solved)
stage_is_unlimited ts ws sets goods cap at pool x solved none few fits rows_limit (_, y, m, other, violates) =
    none m (subst (λ z. Violates ts ws sets goods cap at z m) (same_Some y x (sym other ∙ solved)) violates)
stage_is_unlimited ts ws sets goods cap at pool x solved none few fits den_limit (y, other, inl big) =
    let e = ap (λ z. (solution_prices ts ws sets goods cap z).den) (same_Some y x (sym other ∙ solved)) in
    omega (arith, few, big, e)
stage_is_unlimited ts ws sets goods cap at pool x solved none few fits den_limit (y, other, inr (_, large)) = fits large
