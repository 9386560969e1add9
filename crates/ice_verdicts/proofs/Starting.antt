-- An exchange's opening bounds begin a round, and an accepted submission leaves one.
use Rattle.std.proofs.Common.{ℕ, ◌<◌, false, [], length, map, replicate, refl, sym, ◌∙◌, ap, subst, arith}
use Rattle.std.proofs.lemmas.List.{length-map, length-replicate}
use Rattle.ice_defs.specs.Tree.{Tree}
use Rattle.ice_defs.specs.Set.{IsSatisfied}
use Rattle.ice_defs.specs.Trade.{tree_of}
use Rattle.ice_defs.specs.Bounds.{bounds_of}
use Rattle.ice_defs.specs.Prices.{Prices}
use Rattle.ice_defs.specs.Exchange.{Bidder, Exchange, trees_of, opening_bounds}
use Rattle.ice_defs.specs.Lawful.{AreBounds, IsExchange}
use Rattle.ice_defs.proofs.EmptySets.{set_of-empty, empty_satisfied, length-empty_sets}
use Rattle.ice_round_laws.proofs.Keeping.{bounds_at, opening_have_bounds}
use Rattle.ice_verdicts.specs.Judges.{Round, IsRoundOf, IsAfter}
use Rattle.ice_verdicts.proofs.Leading.{round_begins}

opening_at : (ex : Exchange) → IsExchange ex → (b : ℕ) → b < length ex.bidders → AreBounds (length (tree_of (trees_of ex) b)) (bounds_of (opening_bounds ex) b)
opening_at ex is b there =
    bounds_at ex.bidders (opening_bounds ex) (opening_have_bounds (length ex.goods) ex.bidders is.bidders) b
    (omega (arith, there, length-map ex.bidders (λ (bidder : Bidder). bidder.tree)))

pub opening_round : (ex : Exchange) (p : Prices) → IsExchange ex → IsRoundOf ex record {
  bounds = opening_bounds ex;
  sets = map (λ (t : Tree). replicate (length t) false) (trees_of ex);
  prices = p;
  next = opening_bounds ex;
  marks = replicate (length ex.bidders) false;
}
opening_round ex p is = record {
  bounds_count = length-map ex.bidders (λ (bidder : Bidder). bidder.bounds);
  bounds = opening_at ex is;
  sets_count = length-empty_sets (trees_of ex) ∙ length-map ex.bidders (λ (bidder : Bidder). bidder.tree);
  satisfied = λ b there. subst (IsSatisfied (tree_of (trees_of ex) b))
      (sym (set_of-empty (trees_of ex) b (omega (arith, there, length-map ex.bidders (λ (bidder : Bidder). bidder.tree))))) (empty_satisfied (tree_of (trees_of ex) b));
  next_count = length-map ex.bidders (λ (bidder : Bidder). bidder.bounds);
  next = opening_at ex is;
  marks_count = length-replicate (length ex.bidders) false;
}

-- ---- other prices, and the next round

pub priced_round : (ex : Exchange) (r : Round) (p : Prices) → IsRoundOf ex r → IsRoundOf ex (record r { prices = p })
priced_round ex r p is = record {
  bounds_count = is.bounds_count;
  bounds = is.bounds;
  sets_count = is.sets_count;
  satisfied = is.satisfied;
  next_count = is.next_count;
  next = is.next;
  marks_count = is.marks_count;
}

pub next_round : (ex : Exchange) (r : Round) → IsRoundOf ex r → IsRoundOf ex (record r { bounds = r.next; marks = replicate (length r.marks) false })
next_round ex r is = record {
  bounds_count = is.next_count;
  bounds = is.next;
  sets_count = is.sets_count;
  satisfied = is.satisfied;
  next_count = is.next_count;
  next = is.next;
  marks_count = length-replicate (length r.marks) false ∙ is.marks_count;
}

pub next_begins : (ex : Exchange) (r : Round) → IsRoundOf ex r → IsAfter ex [] (record r { bounds = r.next; marks = replicate (length r.marks) false })
next_begins ex r is = round_begins ex (record r { bounds = r.next; marks = replicate (length r.marks) false }) (next_round ex r is) refl (ap (λ n. replicate n false) is.marks_count)
