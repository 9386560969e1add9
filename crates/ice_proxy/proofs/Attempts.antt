-- An attempt is accepted or not, and some attempt is the least that is.
use Rattle.std.proofs.Common.{ℕ, zero, suc, ◌<◌, ◌≡◌, length, cond, List, ℤ, pos, ◌+ℤ◌, ◌-ℤ◌, ◌*ℤ◌, ◌≤ℤ◌, refl, sym, subst, arith, ◌∙◌, ◌⊎◌, inl, inr}
use Rattle.std.proofs.lemmas.Int.{ints, by_lt_z}
use Rattle.ice_defs.specs.Tree.{Tree}
use Rattle.ice_defs.specs.Set.{NodeSet, has, IsSatisfied, Weights, weight_of}
use Rattle.ice_defs.specs.Bounds.{Bounds, IsInside}
use Rattle.ice_defs.specs.Prices.{Prices}
use Rattle.ice_defs.specs.Rules.{net_at, IsBestThroughout, IsAhead, IsLoss, IsMrpar, GainsMore, Improves}
use Rattle.ice_defs.specs.Round.{Standing}
use Rattle.ice_defs.specs.Lawful.{AreBounds}
use Rattle.ice_best_at_prices.specs.Net.{IsBestAtPrices}
use Rattle.ice_rules.specs.Profiles.{AreAgainst, AreInFavour, AreCentre}
use Rattle.ice_rules.proofs.Losses.{AreOrdered, loss_is, loss_not_negative, best_from_none, none_from_best, ahead_from, ahead_gives, gains_from, gains_give, best_if_any, mrpar_gives, improves_not}
use Rattle.ice_rules.proofs.Reflected.{tabulated, length-tabulated, weight_of-tabulated, centre_is_good}
use Rattle.ice_rules.proofs.Found.{greatest_there}
use Rattle.ice_rules.proofs.Exact.{exact_is_accepted}
use Rattle.ice_proxy.specs.Proposals.{proposal, IsAcceptable, IsProxyAttempt}
use Rattle.ice_proxy.specs.Laws.{ProxyAttemptThere, ProxyAttemptIsOne}
use Rattle.ice_proxy.proofs.Proposals.{proposed_bounds, proposed_narrowed, late_proposal_is_truth}

abbrev Decided : Type 0 → Type 0
Decided P = P ⊎ ¬ P

by_zero : {P : Type 0} (z : ℤ) → pos 0 ≤ℤ z → (z ≡ pos 0 → P) → ((z ≡ pos 0 → ⊥) → P) → P
by_zero {P} z low none some = by_lt_z {P = P} (pos 0) z (λ less. some (λ e. omega (arith, ints, less, e))) (λ le. none (omega (arith, ints, low, le)))

-- ---- the rules at bounds of a tree

module _ (t : Tree) (p : Prices) (bounds : Bounds) (nodes : length bounds.lo ≡ length t) (ordered : AreOrdered bounds) (s : NodeSet) (sat : IsSatisfied t s) where
  -- the profiles that decide
  against_there : (a : NodeSet) → (w : Weights) × AreAgainst bounds a w
  against_there a =
      let f : ℕ → ℤ = λ n. cond (has a n) (weight_of bounds.lo n) (weight_of bounds.hi n) in
      (tabulated f (length bounds.lo), record { nodes = length-tabulated f (length bounds.lo); each = λ n h. weight_of-tabulated f (length bounds.lo) n h })

  in_favour_there : (a : NodeSet) → (w : Weights) × AreInFavour bounds a w
  in_favour_there a =
      let f : ℕ → ℤ = λ n. cond (has a n) (weight_of bounds.hi n) (weight_of bounds.lo n) in
      (tabulated f (length bounds.lo), record { nodes = length-tabulated f (length bounds.lo); each = λ n h. weight_of-tabulated f (length bounds.lo) n h })

  centre_there : (w : Weights) × AreCentre bounds w
  centre_there =
      let f : ℕ → ℤ = λ n. weight_of bounds.lo n +ℤ weight_of bounds.hi n in
      (tabulated f (length bounds.lo), record { nodes = length-tabulated f (length bounds.lo); each = λ n h. weight_of-tabulated f (length bounds.lo) n h })

  -- a set that is best at some weights
  best_there : (w : Weights) (times : ℕ) → (out : NodeSet) × IsBestAtPrices t w times p out (net_at t p times w out)
  best_there w times =
      let (out, ok, most) = greatest_there t s sat (net_at t p times w) in
      (out, record { satisfied = ok; has = refl; greatest = most })

  -- a loss that is not negative
  pub loss_there : (a : NodeSet) → IsSatisfied t a → (loss : ℤ) × IsLoss t p a bounds loss × (pos 0 ≤ℤ loss)
  loss_there a ok =
      let (w, are) = against_there a in
      let (out, is) = best_there w 1 in
      (net_at t p 1 w out -ℤ net_at t p 1 w a, loss_is t p bounds nodes a w out (net_at t p 1 w out) ok are ordered is, loss_not_negative t p bounds nodes a w out (net_at t p 1 w out) ok is)

  best_decided : (a : NodeSet) → IsSatisfied t a → Decided (IsBestThroughout t p bounds a)
  best_decided a ok =
      let (loss, is, low) = loss_there a ok in
      by_zero loss low (λ none. inl (best_from_none t p bounds nodes a loss is none)) (λ some. inr (λ best. some (none_from_best t p bounds nodes a loss is low best)))

  ahead_decided : (a : NodeSet) → IsSatisfied t a → Decided (IsAhead t p bounds a s)
  ahead_decided a ok =
      let (w, are) = against_there a in
      by_lt_z (net_at t p 1 w s) (net_at t p 1 w a) (λ less. inl (ahead_from t p bounds nodes a s w ok.same_length sat.same_length are less))
      (λ le. inr (λ ahead. omega (arith, ints, le, ahead_gives t p bounds nodes a s w are ordered ahead)))

  pub gains_decided : (least : ℤ) → Decided (GainsMore t p s bounds least)
  gains_decided least =
      let (w, are) = in_favour_there s in
      let (out, is) = best_there w 1 in
      by_lt_z least (net_at t p 1 w out -ℤ net_at t p 1 w s)
      (λ less. inl (gains_from t p bounds nodes s w out (net_at t p 1 w out) least sat are is less))
      (λ le. inr (λ more. omega (arith, ints, le, gains_give t p bounds nodes s w out (net_at t p 1 w out) least are ordered is more)))

  pub mrpar_decided : Decided (IsMrpar t p s bounds)
  mrpar_decided =
      let (w, are) = centre_there in
      let (out, is) = best_there w 2 in
      by out is.satisfied (λ m. best_if_any t p bounds nodes out s (centre_is_good t p bounds w out (net_at t p 2 w out) nodes are is) m)
      (λ m. mrpar_gives t p bounds nodes out s (centre_is_good t p bounds w out (net_at t p 2 w out) nodes are is) m) (best_decided out is.satisfied) (best_decided s sat) (ahead_decided out is.satisfied)
    where
      by : (out : NodeSet) → IsSatisfied t out → (IsMrpar t p s bounds → IsBestThroughout t p bounds out)
          → (IsMrpar t p s bounds → IsBestThroughout t p bounds s ⊎ IsAhead t p bounds out s)
          → Decided (IsBestThroughout t p bounds out) → Decided (IsBestThroughout t p bounds s) → Decided (IsAhead t p bounds out s) → Decided (IsMrpar t p s bounds)
      by out ok gives ends (inr lags) own ahead = inr (λ m. lags (gives m))
      by out ok gives ends (inl best) (inl own) ahead = inl (out, ok, best, inl own)
      by out ok gives ends (inl best) (inr lags) (inl ahead) = inl (out, ok, best, inr ahead)
      by out ok gives ends (inl best) (inr lags) (inr behind) = inr (λ m. neither (ends m))
        where
          neither : IsBestThroughout t p bounds s ⊎ IsAhead t p bounds out s → ⊥
          neither (inl own) = lags own
          neither (inr ahead) = behind ahead

pub improves_decided : (t : Tree) (p : Prices) (s : NodeSet) (old new : Bounds) (improve : ℤ) → IsSatisfied t s → length old.lo ≡ length t → AreOrdered old → length new.lo ≡ length t → AreOrdered new
    → Decided (Improves t p s old new improve)
improves_decided t p s old new improve sat old_nodes old_ordered new_nodes new_ordered =
    let (loss, is, low) = loss_there t p old old_nodes old_ordered s sat s sat in
    let (left, was, left_low) = loss_there t p new new_nodes new_ordered s sat s sat in
    by_zero left left_low (λ none. inl (loss, left, is, was, inl none))
    (λ some.
    by_lt_z (loss -ℤ (improve *ℤ pos p.den)) left
    (λ less. by loss left is was some (λ le. omega (arith, ints, less, le)) (gains_decided t p new new_nodes new_ordered s sat (loss -ℤ (improve *ℤ pos p.den))))
    (λ le. inl (loss, left, is, was, inr (inl le))))
  where
    by : (loss left : ℤ) → IsLoss t p s old loss → IsLoss t p s new left → (left ≡ pos 0 → ⊥) → (left ≤ℤ (loss -ℤ (improve *ℤ pos p.den)) → ⊥)
        → Decided (GainsMore t p s new (loss -ℤ (improve *ℤ pos p.den))) → Decided (Improves t p s old new improve)
    by loss left is was some more (inl gains) = inl (loss, left, is, was, inr (inr gains))
    by loss left is was some more (inr none) = inr (λ improves. improves_not t p s old new improve loss left old_nodes new_nodes is was some more none improves)

three : (k n : ℕ) → (k < n) ⊎ (k ≡ n) ⊎ (n < k)
three zero zero = inr (inl refl)
three zero (suc n) = inl (omega arith)
three (suc k) zero = inr (inr (omega arith))
three (suc k) (suc n) = more (three k n)
  where
    more : (k < n) ⊎ (k ≡ n) ⊎ (n < k) → (suc k < suc n) ⊎ (suc k ≡ suc n) ⊎ (suc n < suc k)
    more (inl less) = inl (omega (arith, less))
    more (inr (inl same)) = inr (inl (omega (arith, same)))
    more (inr (inr less)) = inr (inr (omega (arith, less)))

-- ---- attempts

module _ (p : Prices) (improve : ℤ) (b : Standing) (truth : List ℤ) (sat : IsSatisfied b.tree b.set) (are : AreBounds (length b.tree) b.bounds) (inside : IsInside 1 b.bounds truth) where
  acceptable_decided : (a : ℕ) → Decided (IsAcceptable p improve b (proposal b.bounds truth a))
  acceptable_decided a =
      by (mrpar_decided b.tree p (proposal b.bounds truth a) new.lo_count new_ordered b.set sat) (improves_decided b.tree p b.set b.bounds (proposal b.bounds truth a) improve sat are.lo_count old_ordered new.lo_count new_ordered)
    where
      new : AreBounds (length b.tree) (proposal b.bounds truth a)
      new = proposed_bounds (length b.tree) b.bounds truth a are inside

      new_ordered : AreOrdered (proposal b.bounds truth a)
      new_ordered n h = new.ordered n (omega (arith, new.lo_count, h))

      old_ordered : AreOrdered b.bounds
      old_ordered n h = are.ordered n (omega (arith, are.lo_count, h))

      by : Decided (IsMrpar b.tree p b.set (proposal b.bounds truth a)) → Decided (Improves b.tree p b.set b.bounds (proposal b.bounds truth a) improve) → Decided (IsAcceptable p improve b (proposal b.bounds truth a))
      by (inl m) (inl i) = inl (proposed_narrowed (length b.tree) b.bounds truth a are inside, m, i)
      by (inl m) (inr fails) = inr (λ j. fails j.2)
      by (inr fails) i = inr (λ j. fails j.1)

  pub last_acceptable : IsAcceptable p improve b (proposal b.bounds truth 31)
  last_acceptable =
      let e = late_proposal_is_truth (length b.tree) b.bounds truth 31 are inside (omega arith) in
      subst (λ (new : Bounds). IsAcceptable p improve b new) (sym e) (exact_is_accepted b.tree p improve b.set b.bounds truth sat (inside.same_length ∙ are.lo_count) inside)

  -- none so far, or a least one
  search_least : (n : ℕ) → ((earlier : ℕ) → earlier < n → ¬ IsAcceptable p improve b (proposal b.bounds truth earlier))
      ⊎ ((a : ℕ) × (a < n) × IsAcceptable p improve b (proposal b.bounds truth a) × ((earlier : ℕ) → earlier < a → ¬ IsAcceptable p improve b (proposal b.bounds truth earlier)))
  search_least zero = inl (λ earlier h. absurd (omega (arith, h)))
  search_least (suc n) = by (search_least n) (acceptable_decided n)
    where
      by : ((earlier : ℕ) → earlier < n → ¬ IsAcceptable p improve b (proposal b.bounds truth earlier))
          ⊎ ((a : ℕ) × (a < n) × IsAcceptable p improve b (proposal b.bounds truth a) × ((earlier : ℕ) → earlier < a → ¬ IsAcceptable p improve b (proposal b.bounds truth earlier)))
          → Decided (IsAcceptable p improve b (proposal b.bounds truth n))
          → ((earlier : ℕ) → earlier < suc n → ¬ IsAcceptable p improve b (proposal b.bounds truth earlier))
          ⊎ ((a : ℕ) × (a < suc n) × IsAcceptable p improve b (proposal b.bounds truth a) × ((earlier : ℕ) → earlier < a → ¬ IsAcceptable p improve b (proposal b.bounds truth earlier)))
      by (inr (a, less, is, least)) here = inr (a, omega (arith, less), is, least)
      by (inl none) (inl is) = inr (n, omega arith, is, none)
      by (inl none) (inr fails) = inl (λ earlier h. below earlier h)
        where
          below : (earlier : ℕ) → earlier < suc n → ¬ IsAcceptable p improve b (proposal b.bounds truth earlier)
          below earlier h = split (three earlier n)
            where
              split : (earlier < n) ⊎ (earlier ≡ n) ⊎ (n < earlier) → ¬ IsAcceptable p improve b (proposal b.bounds truth earlier)
              split (inl less) = none earlier less
              split (inr (inl same)) = subst (λ (k : ℕ). ¬ IsAcceptable p improve b (proposal b.bounds truth k)) (sym same) fails
              split (inr (inr more)) = absurd (omega (arith, h, more))

pub proxy_attempt_there : ProxyAttemptThere
proxy_attempt_there p improve b truth sat are inside = by (search_least p improve b truth sat are inside 32)
  where
    by : ((earlier : ℕ) → earlier < 32 → ¬ IsAcceptable p improve b (proposal b.bounds truth earlier))
        ⊎ ((a : ℕ) × (a < 32) × IsAcceptable p improve b (proposal b.bounds truth a) × ((earlier : ℕ) → earlier < a → ¬ IsAcceptable p improve b (proposal b.bounds truth earlier)))
        → (attempt : ℕ) × IsProxyAttempt p improve b truth attempt
    by (inl none) = absurd (none 31 (omega arith) (last_acceptable p improve b truth sat are inside))
    by (inr (a, less, is, least)) = (a, record { most = omega (arith, less); accepted = is; least = least })

pub proxy_attempt_is_one : ProxyAttemptIsOne
proxy_attempt_is_one p improve b truth one other is was = by (three one other)
  where
    by : (one < other) ⊎ (one ≡ other) ⊎ (other < one) → one ≡ other
    by (inl less) = absurd (was.least one less is.accepted)
    by (inr (inl same)) = same
    by (inr (inr less)) = absurd (is.least other less was.accepted)
