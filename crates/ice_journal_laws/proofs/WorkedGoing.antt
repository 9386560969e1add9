-- A session of one bidder whose settlement 0 goes on: what a writer is to know of it can be known.
use Rattle.std.proofs.Common.{◌≡◌, ℕ, true, false, [], ◌∷◌, pos, negsuc, ◌≤ℤ◌, refl, sym, subst, arith}
use Rattle.std.specs.Prelude.{codes, IsTrue, ◌+ℤ◌, ◌*ℤ◌, neg_ℤ}
use Rattle.std.specs.List.{IsDistinct}
use Rattle.std.proofs.lemmas.Int.{ints}
use Rattle.std.proofs.lemmas.Nat.Gcd.{le_of_dvd}
use Rattle.std.proofs.lemmas.Bool.{false≢true}
use Rattle.ice_defs.specs.declared.Mark.TheVariants.{Free, Never}
use Rattle.ice_defs.specs.declared.Verdict.TheVariants.{UnknownBidder}
use Rattle.ice_defs.specs.Tree.{kind_of}
use Rattle.ice_defs.specs.Set.{NodeSet, weight_of, has, IsWithin, children_inside, IsSatisfied, units}
use Rattle.ice_defs.specs.Fixing.{Meets, Agrees, mark_of}
use Rattle.ice_defs.specs.Bound.{net, IsOpen, IsBound}
use Rattle.ice_defs.specs.Steps.{leaf}
use Rattle.ice_defs.specs.Log.{closes}
use Rattle.ice_defs.specs.Greatest.{IsGreatest}
use Rattle.ice_defs.specs.Trade.{tree_of, weights_of, fixing_of, set_of, is_exact, IsCovered, total_units, IsFeasible}
use Rattle.ice_defs.specs.Prices.{Prices, price_of}
use Rattle.ice_defs.specs.Pricing.{excess_net, IsViolation}
use Rattle.ice_defs.specs.Exchange.{Exchange, Bidder, trees_of, exact_of, market_of, opening_bounds}
use Rattle.ice_defs.specs.Lawful.{AreBounds, IsExchange}
use Rattle.ice_defs.specs.Market.{owned_amount}
use Rattle.ice_defs.specs.Fraction.{whole_number}
use Rattle.ice_defs.specs.declared.Group.TheVariants.{Final, Rival, Provisional, Without}
use Rattle.ice_defs.specs.Session.{Proved, Settlement, Going, Closed, Session}
use Rattle.ice_journal_laws.specs.Showing.{IsShown, IsShownSettlement}
use Rattle.ice_journal_laws.specs.ShowingSession.{AreShownPrices, IsShownGoing, IsShownClosed, IsShownSession}
use Rattle.ice_journal_laws.proofs.WorkedWriting.{tree, nothing_sold, OneNode, inside, outside, is_zero, one_node, empty_satisfied, one_tree, owns, shown, meets_free, meets_never, empty_left, feasible, no_wrong_sign}

-- the seller may lose or win by its sale
abbrev open_seller : Bidder
open_seller = record { name = codes "s"; own = 1 ∷ []; tree = tree; bounds = record { lo = negsuc 8 ∷ []; hi = pos 9 ∷ [] } }

abbrev eager : Exchange
eager = record {
  settings = record { weight = 50; close_regret = pos 0; cap = pos 100; improve = pos 1; rounds = 1; branches = 200; derived = 0 };
  goods = record { name = codes "A"; exact = false } ∷ [];
  bidders = open_seller ∷ [];
}

wide_bounds : AreBounds 1 (record { lo = negsuc 8 ∷ []; hi = pos 9 ∷ [] })
wide_bounds = record {
  lo_count = refl;
  hi_count = refl;
  low = λ n there. subst (λ k. neg_ℤ (pos 1000000000) ≤ℤ weight_of (negsuc 8 ∷ []) k) (sym (is_zero n there)) (omega (arith, ints));
  ordered = λ n there. subst (λ k. weight_of (negsuc 8 ∷ []) k ≤ℤ weight_of (pos 9 ∷ []) k) (sym (is_zero n there)) (omega (arith, ints));
  high = λ n there. subst (λ k. weight_of (pos 9 ∷ []) k ≤ℤ pos 1000000000) (sym (is_zero n there)) (omega (arith, ints));
}

lawful : IsExchange eager
unfolding IsDistinct
lawful = record {
  settings = record { weight = omega arith; close_regret = (omega (arith, ints), omega (arith, ints)); cap = (omega (arith, ints), omega (arith, ints)); improve = (omega (arith, ints), omega (arith, ints)); rounds = omega arith; branches = omega arith; derived = omega arith };
  goods_count = (omega arith, omega arith);
  bidders_count = (omega arith, omega arith);
  goods_named = (refl, tt);
  goods = (tt, tt);
  bidders_named = (refl, tt);
  names = (tt, tt);
  bidders = (record { tree = one_tree; bounds = wide_bounds; own_count = refl; own = (omega arith, tt) }, tt);
  nodes = omega arith;
  owned = λ b g s there good sat.
      subst (λ k. pos 0 ≤ℤ (owned_amount (market_of eager) k g +ℤ units (tree_of (trees_of eager) k) s g)) (sym (is_zero b there))
      (subst (λ k. pos 0 ≤ℤ (owned_amount (market_of eager) 0 k +ℤ units tree s k)) (sym (is_zero g good))
      (owns s (one_node s ((subst (λ k. IsSatisfied (tree_of (trees_of eager) k) s) (is_zero b there) sat).same_length))));
}

-- ---- the rival sells

sold_satisfied : IsSatisfied tree (true ∷ [])
sold_satisfied = record {
  same_length = refl;
  parent_inside = λ c later there i. absurd (omega (arith, later, there));
  count_inside = λ n there i. subst (λ k. IsTrue (has (true ∷ []) k) → IsWithin (kind_of tree k) (children_inside tree (true ∷ []) k)) (sym (is_zero n there)) (λ h. tt) i;
}

abbrev one_sold : Proved
one_sold = record { value = pos 9; sets = (true ∷ []) ∷ []; log = leaf (pos 0 ∷ []) ∷ [] }

sold_feasible : IsFeasible (trees_of eager) (exact_of eager) ((true ∷ []) ∷ [])
sold_feasible = record {
  same_length = refl;
  satisfied = λ b there. subst (λ k. IsSatisfied (tree_of (trees_of eager) k) (set_of ((true ∷ []) ∷ []) k)) (sym (is_zero b there)) sold_satisfied;
  balanced = λ g there. subst (λ k. IsCovered (is_exact (exact_of eager) k) (total_units (trees_of eager) ((true ∷ []) ∷ []) k) (pos 0)) (sym (is_zero g there)) (omega (arith, ints));
}

meets_sold : Meets (true ∷ []) (Free ∷ [])
meets_sold n there = subst (λ k. Agrees (mark_of (Free ∷ []) k) (has (true ∷ []) k)) (sym (is_zero n there)) tt

rival_net : (s : NodeSet) → OneNode s → net tree (pos 9 ∷ []) (pos 0 ∷ []) s ≤ℤ pos 576
rival_net _ inside = omega (arith, ints)
rival_net _ outside = omega (arith, ints)

rival_bound : IsBound (trees_of eager) ((pos 9 ∷ []) ∷ []) (pos 0 ∷ []) ((Free ∷ []) ∷ []) (pos 9)
rival_bound = (
  pos 576,
  (
    λ b. pos 576,
    λ b there. subst (λ k. IsGreatest (IsOpen (tree_of (trees_of eager) k) (fixing_of ((Free ∷ []) ∷ []) k)) (net (tree_of (trees_of eager) k) (weights_of ((pos 9 ∷ []) ∷ []) k) (pos 0 ∷ [])) (pos 576)) (sym (is_zero b there)) (record {
      attained = (true ∷ [], (sold_satisfied, meets_sold), refl);
      bound = λ s open_set. rival_net s (one_node s open_set.0.same_length);
    }),
    refl,
  ),
  omega (arith, ints),
  omega (arith, ints),
)

shown_rival : IsShown (trees_of eager) (exact_of eager) ((pos 9 ∷ []) ∷ []) Rival one_sold
shown_rival = record { feasible = sold_feasible; value = refl; left_out = tt; counts = (refl, tt); passes = closes {v = pos 9} no_wrong_sign rival_bound (omega (arith, ints)) }

settlement : Settlement
settlement = record { final = nothing_sold; rival = one_sold; regret = pos 9 }

shown_settlement : IsShownSettlement eager (opening_bounds eager) settlement
unfolding settlement
shown_settlement = record { final = shown Final ((Free ∷ []) ∷ []) refl meets_free tt; rival = shown_rival; regret = refl }

-- ---- at weighted values the sale is worth nothing

even_net : (s : NodeSet) → OneNode s → net tree (pos 0 ∷ []) (pos 0 ∷ []) s ≤ℤ pos 0
even_net _ inside = omega (arith, ints)
even_net _ outside = omega (arith, ints)

even_bound : IsBound (trees_of eager) ((pos 0 ∷ []) ∷ []) (pos 0 ∷ []) ((Free ∷ []) ∷ []) (pos 0)
even_bound = (
  pos 0,
  (
    λ b. pos 0,
    λ b there. subst (λ k. IsGreatest (IsOpen (tree_of (trees_of eager) k) (fixing_of ((Free ∷ []) ∷ []) k)) (net (tree_of (trees_of eager) k) (weights_of ((pos 0 ∷ []) ∷ []) k) (pos 0 ∷ [])) (pos 0)) (sym (is_zero b there)) (record {
      attained = (false ∷ [], (empty_satisfied, meets_free), refl);
      bound = λ s open_set. even_net s (one_node s open_set.0.same_length);
    }),
    refl,
  ),
  omega (arith, ints),
  omega (arith, ints),
)

shown_provisional : IsShown (trees_of eager) (exact_of eager) ((pos 0 ∷ []) ∷ []) Provisional nothing_sold
shown_provisional = record { feasible = feasible; value = refl; left_out = tt; counts = (refl, tt); passes = closes {v = pos 0} no_wrong_sign even_bound (omega (arith, ints)) }

abbrev free_price : Prices
free_price = record { den = 1; nums = pos 0 ∷ [] }

shown_prices : AreShownPrices 1 (pos 100) free_price
shown_prices = record {
  count = refl;
  high = λ g there. subst (λ k. price_of free_price k ≤ℤ (pos 100 *ℤ pos 1)) (sym (is_zero g there)) (omega (arith, ints));
  lowest = λ (c, above, divides, rest). omega (arith, above, le_of_dvd (omega arith) divides);
}

no_excess : (b : ℕ) (s : NodeSet) → b ≡ 0 → OneNode s → excess_net (trees_of eager) ((pos 0 ∷ []) ∷ []) ((false ∷ []) ∷ []) free_price (b, s) ≤ℤ pos 0
no_excess b s e one = subst (λ k. excess_net (trees_of eager) ((pos 0 ∷ []) ∷ []) ((false ∷ []) ∷ []) free_price (k, s) ≤ℤ pos 0) (sym e) (by s one)
  where
    by : (s : NodeSet) → OneNode s → excess_net (trees_of eager) ((pos 0 ∷ []) ∷ []) ((false ∷ []) ∷ []) free_price (0, s) ≤ℤ pos 0
    by _ inside = omega (arith, ints)
    by _ outside = omega (arith, ints)

violation : IsViolation (trees_of eager) ((pos 0 ∷ []) ∷ []) ((false ∷ []) ∷ []) free_price (pos 0)
violation = record {
  attained = ((0, false ∷ []), (omega arith, empty_satisfied), refl);
  bound = λ choice is. no_excess choice.0 choice.1 (is_zero choice.0 is.0) (one_node choice.1 ((subst (λ k. IsSatisfied (tree_of (trees_of eager) k) choice.1) (is_zero choice.0 is.0) is.1).same_length));
}

going : Going
unfolding settlement
going = record {
  settlement = settlement;
  provisional = nothing_sold;
  prices = free_price;
  violation = pos 0;
  accuracy = record { den = 1; rows = [] };
  balance = record { den = 1; rows = [] };
  judged = record { submission = record { name = codes "x"; lo = []; hi = [] }; verdict = UnknownBidder } ∷ [];
}

shown_going : IsShownGoing eager (opening_bounds eager) going
unfolding settlement going
shown_going = record {
  settlement = shown_settlement;
  provisional = shown_provisional;
  pricing = record {
    prices = shown_prices;
    violation = violation;
    accuracy = record { proper = omega arith; rows = tt; weights = omega arith; equal = refl };
    accuracy_few = omega arith;
    balance = record { proper = omega arith; rows = tt; weights = omega (arith, ints); equal = refl };
    balance_few = omega arith;
  };
  verdicts = (((λ unknown. refl), ((λ same. absurd (false≢true same)), tt)), tt);
}

-- ---- no round is left: settlement 1 closes

closed : Closed
unfolding settlement
closed = record {
  settlement = settlement;
  withouts = nothing_sold ∷ [];
  cut = whole_number (pos 0);
  surplus = whole_number (pos 0);
  payments = record { name = codes "s"; vickrey = pos 0; discount = whole_number (pos 0); payment = whole_number (pos 0) } ∷ [];
}

shown_closed : IsShownClosed eager (opening_bounds eager) closed
unfolding settlement closed
shown_closed = record {
  settlement = shown_settlement;
  withouts_count = refl;
  withouts = (shown (Without 0) ((Never ∷ []) ∷ []) refl meets_never empty_left, tt);
  threshold = record {
    low = omega (arith, ints);
    high = (0, pos 0, omega arith, refl, omega (arith, ints));
    paid = omega (arith, ints);
    spent = λ above. absurd (omega (arith, ints, above));
    rest = refl;
  };
  payments_count = refl;
  payments = (refl, record { vickrey_is = refl; discount = refl; payment = refl }, tt);
}

session : Session
session = record { exchange = eager; going = going ∷ []; closed = closed }

session_shown : IsShownSession session
unfolding settlement going closed session
session_shown = record { exchange = lawful; settlements = (refl, shown_going, (refl, shown_closed)) }
