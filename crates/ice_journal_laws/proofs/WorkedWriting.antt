-- A session of one bidder that closes at settlement 0: what a writer is to know can be known.
use Rattle.std.proofs.Common.{◌≡◌, ◌<◌, ℕ, true, false, List, [], ◌∷◌, length, pos, negsuc, ◌≤ℤ◌, refl, sym, subst, arith}
use Rattle.std.specs.Prelude.{codes, IsTrue, ◌+ℤ◌, ◌<ℤ◌, neg_ℤ, slice_index_or}
use Rattle.std.specs.List.{IsDistinct}
use Rattle.std.proofs.lemmas.Int.{ints}
use Rattle.ice_defs.specs.declared.NodeKind.TheVariants.{Sell}
use Rattle.ice_defs.specs.declared.Mark.TheVariants.{Free, Never}
use Rattle.ice_defs.specs.Tree.{Tree, kind_of, children_of, IsInterval}
use Rattle.ice_defs.specs.Set.{NodeSet, Weights, weight_of, has, IsWithin, children_inside, IsSatisfied, units}
use Rattle.ice_defs.specs.Fixing.{Meets, Agrees, mark_of}
use Rattle.ice_defs.specs.Bound.{net, IsOpen, IsBound}
use Rattle.ice_defs.specs.Steps.{Side, leaf}
use Rattle.ice_defs.specs.Log.{HasWrongSign, Passes, closes}
use Rattle.ice_defs.specs.Greatest.{IsGreatest}
use Rattle.ice_defs.specs.Trade.{tree_of, weights_of, fixing_of, set_of, is_exact, IsCovered, total_units, IsFeasible}
use Rattle.ice_defs.specs.Exchange.{Exchange, Bidder, trees_of, exact_of, market_of, opening_bounds}
use Rattle.ice_defs.specs.Lawful.{IsLimitedKind, IsLimitedTree, AreBounds, IsExchange}
use Rattle.ice_defs.specs.Market.{owned_amount}
use Rattle.ice_defs.specs.Vickrey.{IsEmpty}
use Rattle.ice_defs.specs.Fraction.{whole_number}
use Rattle.ice_defs.specs.declared.Group.{Group}
use Rattle.ice_defs.specs.declared.Group.TheVariants.{Final, Rival, Without}
use Rattle.ice_defs.specs.Group.{start_of}
use Rattle.ice_defs.specs.Session.{Proved, Settlement, Closed, Session}
use Rattle.ice_journal_laws.specs.Showing.{LeavesOut, IsShown, IsShownSettlement}
use Rattle.ice_journal_laws.specs.ShowingSession.{IsShownClosed, IsShownSession}

abbrev pub tree : Tree
tree = record { kind = Sell 0 1; parent = 0 } ∷ []

abbrev seller : Bidder
seller = record { name = codes "s"; own = 1 ∷ []; tree = tree; bounds = record { lo = negsuc 8 ∷ []; hi = negsuc 8 ∷ [] } }

abbrev lone : Exchange
lone = record {
  settings = record { weight = 50; close_regret = pos 0; cap = pos 100; improve = pos 1; rounds = 5; branches = 200; derived = 0 };
  goods = record { name = codes "A"; exact = false } ∷ [];
  bidders = seller ∷ [];
}

-- the number of the one node, good or bidder
pub is_zero : (n : ℕ) → n < 1 → n ≡ 0
is_zero n l = omega (arith, l)

-- a set of the tree has its node or not
pub data OneNode : NodeSet → Type 0 where
  inside : OneNode (true ∷ [])
  outside : OneNode (false ∷ [])

pub one_node : (s : NodeSet) → length s ≡ 1 → OneNode s
one_node [] e = absurd (omega (arith, e))
one_node (true ∷ []) e = inside
one_node (false ∷ []) e = outside
one_node (b ∷ c ∷ rest) e = absurd (omega (arith, e))

pub empty_satisfied : IsSatisfied tree (false ∷ [])
empty_satisfied = record {
  same_length = refl;
  parent_inside = λ c later there i. absurd (omega (arith, later, there));
  count_inside = λ n there i. subst (λ k. IsTrue (has (false ∷ []) k) → IsWithin (kind_of tree k) (children_inside tree (false ∷ []) k)) (sym (is_zero n there)) (λ h. tt) i;
}

-- ---- the exchange is lawful

pub one_tree : IsLimitedTree 1 tree
one_tree = record {
  tree = record {
    rooted = omega arith;
    root_parent = refl;
    parent_first = λ c later there. absurd (omega (arith, later, there));
    preorder = λ c k later there up down. absurd (omega (arith, later, there));
    interval = λ n there. subst (λ k. IsInterval (kind_of tree k) (length (children_of tree k))) (sym (is_zero n there)) refl;
  };
  count = omega arith;
  depth = (λ n. 1, (refl, λ n later there. absurd (omega (arith, later, there))), λ n there. omega arith);
  kinds = λ n there. subst (λ k. IsLimitedKind 1 (kind_of tree k)) (sym (is_zero n there)) (omega arith, omega arith, omega arith);
}

one_bounds : AreBounds 1 (record { lo = negsuc 8 ∷ []; hi = negsuc 8 ∷ [] })
one_bounds = record {
  lo_count = refl;
  hi_count = refl;
  low = λ n there. subst (λ k. neg_ℤ (pos 1000000000) ≤ℤ weight_of (negsuc 8 ∷ []) k) (sym (is_zero n there)) (omega (arith, ints));
  ordered = λ n there. subst (λ k. weight_of (negsuc 8 ∷ []) k ≤ℤ weight_of (negsuc 8 ∷ []) k) (sym (is_zero n there)) (omega (arith, ints));
  high = λ n there. subst (λ k. weight_of (negsuc 8 ∷ []) k ≤ℤ pos 1000000000) (sym (is_zero n there)) (omega (arith, ints));
}

pub owns : (s : NodeSet) → OneNode s → pos 0 ≤ℤ (pos 1 +ℤ units tree s 0)
owns _ inside = omega (arith, ints)
owns _ outside = omega (arith, ints)

lawful : IsExchange lone
unfolding IsDistinct
lawful = record {
  settings = record { weight = omega arith; close_regret = (omega (arith, ints), omega (arith, ints)); cap = (omega (arith, ints), omega (arith, ints)); improve = (omega (arith, ints), omega (arith, ints)); rounds = omega arith; branches = omega arith; derived = omega arith };
  goods_count = (omega arith, omega arith);
  bidders_count = (omega arith, omega arith);
  goods_named = (refl, tt);
  goods = (tt, tt);
  bidders_named = (refl, tt);
  names = (tt, tt);
  bidders = (record { tree = one_tree; bounds = one_bounds; own_count = refl; own = (omega arith, tt) }, tt);
  nodes = omega arith;
  owned = λ b g s there good sat.
      subst (λ k. pos 0 ≤ℤ (owned_amount (market_of lone) k g +ℤ units (tree_of (trees_of lone) k) s g)) (sym (is_zero b there))
      (subst (λ k. pos 0 ≤ℤ (owned_amount (market_of lone) 0 k +ℤ units tree s k)) (sym (is_zero g good))
      (owns s (one_node s ((subst (λ k. IsSatisfied (tree_of (trees_of lone) k) s) (is_zero b there) sat).same_length))));
}

-- ---- its groups

abbrev pub nothing_sold : Proved
nothing_sold = record { value = pos 0; sets = (false ∷ []) ∷ []; log = leaf (pos 0 ∷ []) ∷ [] }

pub feasible : IsFeasible (trees_of lone) (exact_of lone) ((false ∷ []) ∷ [])
feasible = record {
  same_length = refl;
  satisfied = λ b there. subst (λ k. IsSatisfied (tree_of (trees_of lone) k) (set_of ((false ∷ []) ∷ []) k)) (sym (is_zero b there)) empty_satisfied;
  balanced = λ g there. subst (λ k. IsCovered (is_exact (exact_of lone) k) (total_units (trees_of lone) ((false ∷ []) ∷ []) k) (pos 0)) (sym (is_zero g there)) (omega (arith, ints));
}

abbrev weights : List Weights
weights = (negsuc 8 ∷ []) ∷ []

low_net : (s : NodeSet) → OneNode s → net tree (negsuc 8 ∷ []) (pos 0 ∷ []) s ≤ℤ pos 0
low_net _ inside = omega (arith, ints)
low_net _ outside = omega (arith, ints)

-- a side that the empty set meets
bound_of : (side : Side) → Meets (false ∷ []) (fixing_of side 0) → IsBound (trees_of lone) weights (pos 0 ∷ []) side (pos 0)
bound_of side meets = (
  pos 0,
  (
    λ b. pos 0,
    λ b there. subst (λ k. IsGreatest (IsOpen (tree_of (trees_of lone) k) (fixing_of side k)) (net (tree_of (trees_of lone) k) (weights_of weights k) (pos 0 ∷ [])) (pos 0)) (sym (is_zero b there)) (record {
      attained = (false ∷ [], (empty_satisfied, meets), refl);
      bound = λ s open_set. low_net s (one_node s open_set.0.same_length);
    }),
    refl,
  ),
  omega (arith, ints),
  omega (arith, ints),
)

pub no_wrong_sign : ¬ HasWrongSign (exact_of lone) (pos 0 ∷ [])
no_wrong_sign (g, there, inexact, low) = omega (arith, ints, subst (λ k. slice_index_or (pos 0 ∷ []) k (pos 0) <ℤ pos 0) (is_zero g there) low)

pub shown : (g : Group) (side : Side) → side ≡ start_of (trees_of lone) g → Meets (false ∷ []) (fixing_of side 0) → LeavesOut g ((false ∷ []) ∷ []) → IsShown (trees_of lone) (exact_of lone) weights g nothing_sold
shown g side is meets left = record {
  feasible = feasible;
  value = refl;
  left_out = left;
  counts = (refl, tt);
  passes = subst (λ (x : Side). Passes (trees_of lone) (exact_of lone) weights (pos 0) x (leaf (pos 0 ∷ []) ∷ [])) is (closes {v = pos 0} no_wrong_sign (bound_of side meets) (omega (arith, ints)));
}

pub meets_free : Meets (false ∷ []) (Free ∷ [])
meets_free n there = subst (λ k. Agrees (mark_of (Free ∷ []) k) (has (false ∷ []) k)) (sym (is_zero n there)) tt

pub meets_never : Meets (false ∷ []) (Never ∷ [])
meets_never n there = subst (λ k. Agrees (mark_of (Never ∷ []) k) (has (false ∷ []) k)) (sym (is_zero n there)) refl

settlement : Settlement
settlement = record { final = nothing_sold; rival = nothing_sold; regret = pos 0 }

shown_settlement : IsShownSettlement lone (opening_bounds lone) settlement
unfolding settlement
shown_settlement = record {
  final = shown Final ((Free ∷ []) ∷ []) refl meets_free tt;
  rival = shown Rival ((Free ∷ []) ∷ []) refl meets_free tt;
  regret = refl;
}

-- ---- and the session

closed : Closed
unfolding settlement
closed = record {
  settlement = settlement;
  withouts = nothing_sold ∷ [];
  cut = whole_number (pos 0);
  surplus = whole_number (pos 0);
  payments = record { name = codes "s"; vickrey = pos 0; discount = whole_number (pos 0); payment = whole_number (pos 0) } ∷ [];
}

session : Session
session = record { exchange = lone; going = []; closed = closed }

pub empty_left : IsEmpty (false ∷ [])
empty_left n there = subst (λ k. has (false ∷ []) k ≡ false) (sym (is_zero n there)) refl

shown_closed : IsShownClosed lone (opening_bounds lone) closed
unfolding settlement closed
shown_closed = record {
  settlement = shown_settlement;
  withouts_count = refl;
  withouts = (shown (Without 0) ((Never ∷ []) ∷ []) refl meets_never empty_left, tt);
  threshold = record {
    low = omega (arith, ints);
    high = (0, pos 0, omega arith, refl, omega (arith, ints));
    paid = omega (arith, ints);
    spent = λ above. absurd (omega (arith, ints, above));
    rest = refl;
  };
  payments_count = refl;
  payments = (refl, record { vickrey_is = refl; discount = refl; payment = refl }, tt);
}

-- what a writer is to know of a session
session_shown : IsShownSession session
unfolding settlement closed session
session_shown = record { exchange = lawful; settlements = (refl, shown_closed) }
