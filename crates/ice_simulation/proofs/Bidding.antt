-- The bids of all bidders.
use Rattle.std.proofs.Common.{ℕ, zero, suc, ◌+◌, ◌<◌, ◌≡◌, List, [], ◌∷◌, ◌++◌, length, map, get_or, ℤ, refl, sym, ap, subst, arith, below_more, ◌∙◌}
use Rattle.ice_defs.specs.Trade.{Assignment, tree_of, set_of}
use Rattle.ice_defs.specs.Bounds.{Bounds, bounds_of}
use Rattle.ice_defs.specs.Prices.{Prices}
use Rattle.ice_defs.specs.Round.{Standing, Submission}
use Rattle.ice_defs.specs.Exchange.{Bidder}
use Rattle.ice_defs.specs.Session.{standings_from}
use Rattle.ice_proxy.specs.Proposals.{IsProxyBid}
use Rattle.ice_simulation.specs.Rounds.{AreProxyBids}

pub no_bid : Submission
no_bid = record { name = []; lo = []; hi = [] }

abbrev standing_at : List Bidder → List Bounds → Assignment → ℕ → Standing
standing_at bidders bounds sets b = record {
  name = get_or (map (λ (x : Bidder). x.name) bidders) b [];
  tree = tree_of (map (λ (x : Bidder). x.tree) bidders) b;
  bounds = bounds_of bounds b;
  set = set_of sets b;
}

pub bids_of_each : (p : Prices) (improve : ℤ) (bidders : List Bidder) (bounds : List Bounds) (sets : Assignment) (truths : List (List ℤ)) (bids : List Submission)
    → length bounds ≡ length bidders → length sets ≡ length bidders → length truths ≡ length bidders → length bids ≡ length bidders
    → ((k : ℕ) → k < length bidders → IsProxyBid p improve (standing_at bidders bounds sets k) (get_or truths k []) (get_or bids k no_bid))
    → AreProxyBids p improve (standings_from bidders bounds sets) truths bids
bids_of_each p improve [] bounds sets truths [] b s t n each = tt
bids_of_each p improve [] bounds sets truths (x ∷ bids) b s t n each = absurd (omega (arith, n))
bids_of_each p improve (bidder ∷ bidders) [] sets truths bids b s t n each = absurd (omega (arith, b))
bids_of_each p improve (bidder ∷ bidders) (now ∷ bounds) [] truths bids b s t n each = absurd (omega (arith, s))
bids_of_each p improve (bidder ∷ bidders) (now ∷ bounds) (set ∷ sets) [] bids b s t n each = absurd (omega (arith, t))
bids_of_each p improve (bidder ∷ bidders) (now ∷ bounds) (set ∷ sets) (truth ∷ truths) [] b s t n each = absurd (omega (arith, n))
bids_of_each p improve (bidder ∷ bidders) (now ∷ bounds) (set ∷ sets) (truth ∷ truths) (x ∷ bids) b s t n each = (
  each 0 (omega arith),
  bids_of_each p improve bidders bounds sets truths bids (omega (arith, b)) (omega (arith, s)) (omega (arith, t)) (omega (arith, n)) (λ k h. each (suc k) (omega (arith, h))),
)

-- one bid more
get_or-earlier : (xs : List Submission) (x d : Submission) (k : ℕ) → k < length xs → get_or (xs ++ x ∷ []) k d ≡ get_or xs k d
get_or-earlier [] x d k h = absurd (omega (arith, h))
get_or-earlier (y ∷ xs) x d zero h = refl
get_or-earlier (y ∷ xs) x d (suc k) h = get_or-earlier xs x d k (omega (arith, h))

get_or-last : (xs : List Submission) (x d : Submission) → get_or (xs ++ x ∷ []) (length xs) d ≡ x
get_or-last [] x d = refl
get_or-last (y ∷ xs) x d = get_or-last xs x d

pub one_more : (P : ℕ → Submission → Type 0) (xs ys : List Submission) (x : Submission) (n : ℕ) → length xs ≡ n → ys ≡ xs ++ x ∷ [] → ((k : ℕ) → k < n → P k (get_or xs k no_bid)) → P n x
    → (k : ℕ) → k < n + 1 → P k (get_or ys k no_bid)
one_more P xs ys x n count is each last =
    below_more (λ (k : ℕ). P k (get_or ys k no_bid)) n
    (λ k h. subst (P k) (sym (ap (λ (zs : List Submission). get_or zs k no_bid) is ∙ get_or-earlier xs x no_bid k (omega (arith, count, h)))) (each k h))
    (subst (P n) (sym (ap (λ (zs : List Submission). get_or zs n no_bid) is ∙ ap (λ (m : ℕ). get_or (xs ++ x ∷ []) m no_bid) (sym count) ∙ get_or-last xs x no_bid)) last)
