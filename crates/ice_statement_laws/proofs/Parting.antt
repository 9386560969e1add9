-- One bidder's part of a right session is right.
use Rattle.std.proofs.Common.{◌≡◌, ℕ, zero, suc, ◌<◌, Bool, true, false, List, [], ◌∷◌, map, length, get_or, ℤ, pos, refl, sym, ◌∙◌, ap, subst, arith}
use Rattle.ice_defs.specs.Name.{is_name}
use Rattle.ice_defs.proofs.Lists.{map-all}
use Rattle.std.specs.Prelude.{if◌then◌else◌, slice_index, ◌+ℤ◌, Some, slice_get, slice_index_or, ◌≤ℤ◌, IsTrue}
use Rattle.std.specs.List.{AllByRecursion, IsDistinct}
use Rattle.std.specs.Str.{bytes_eq}
use Rattle.std.proofs.lemmas.Option.{none-some, slice_get-get_or, slice_get_within}
use Rattle.std.proofs.lemmas.List.{length-map}
use Rattle.std.proofs.lemmas.Int.{ints}
use Rattle.ice_defs.proofs.Below.{length-numbers_below, get_or-numbers_below}
use Rattle.ice_defs.proofs.Naming.{same-bytes_eq}
use Rattle.ice_defs.specs.Sum.{numbers_below}
use Rattle.ice_defs.specs.Tree.{Tree}
use Rattle.ice_defs.specs.Set.{NodeSet, IsSatisfied, value, units}
use Rattle.ice_defs.specs.Trade.{Assignment, tree_of, set_of, weights_of, IsFeasible}
use Rattle.ice_defs.specs.Bounds.{Bounds, bounds_of, no_bounds}
use Rattle.ice_defs.specs.Weighing.{lower_weights}
use Rattle.ice_defs.specs.Prices.{ArePrices}
use Rattle.ice_defs.specs.Rows.{HasCommonDivisor}
use Rattle.ice_defs.specs.Round.{Judged, Standing, JudgesInOrder, of_name, bounds_after}
use Rattle.ice_defs.specs.Fraction.{Fraction, whole_number, Equals, minus, fraction_at}
use Rattle.ice_defs.specs.Cut.{discount_at_cut}
use Rattle.ice_defs.specs.Vickrey.{IsEmpty}
use Rattle.ice_defs.specs.Market.{SellsOnlyOwned}
use Rattle.ice_defs.specs.Exchange.{Good, Bidder, Exchange, trees_of, exact_of, opening_bounds, market_of}
use Rattle.ice_defs.specs.Lawful.{IsBidder, IsExchange}
use Rattle.ice_defs.specs.Session.{Going, Payment, Closed, Session, standings_from, standings}
use Rattle.ice_headline_laws.proofs.Promised.{no_deficit}
use Rattle.ice_headline_laws.proofs.Vickreys.{stated_at}
use Rattle.ice_headline_laws.specs.Right.{own_values, vickreys_of, IsGoing, IsClosed, bounds_after_round, IsRightFrom, IsRight}
use Rattle.ice_statement_laws.specs.Statement.{Own, IsOwn}
use Rattle.ice_statement_laws.specs.Own.{IsOwnStep, IsOwnClosed, IsOwnFrom, IsRightOwn}
use Rattle.ice_statement_laws.specs.Parts.{step_of, part_of, IsStated}
use Rattle.ice_trade.proofs.Weighted.{length-bounds}
use Rattle.ice_journal_laws.proofs.CarriedRound.{standings_count}

-- ---- what is at a place

pub at_map : {X Y : Type 0} (f : X → Y) (xs : List X) (i : ℕ) (x : X) (d : Y) → slice_get xs i ≡ Some x → get_or (map f xs) i d ≡ f x
at_map f [] i x d e = absurd (none-some x e)
at_map f (y ∷ xs) zero x d e = let same : y ≡ x = cc in ap f same
at_map f (y ∷ xs) (suc i) x d e = at_map f xs i x d e

pub at_all : {X : Type 0} (P : X → Type 0) (xs : List X) (i : ℕ) (x : X) → slice_get xs i ≡ Some x → AllByRecursion P xs → P x
at_all P [] i x e all = absurd (none-some x e)
at_all P (y ∷ xs) zero x e all = let same : y ≡ x = cc in subst P same all.0
at_all P (y ∷ xs) (suc i) x e all = at_all P xs i x e all.1

module _ (bidder : Bidder) (b : ℕ) where
  standing_at : (bidders : List Bidder) (bounds : List Bounds) (sets : Assignment) → slice_get bidders b ≡ Some bidder → length bounds ≡ length bidders → length sets ≡ length bidders
      → slice_get (standings_from bidders bounds sets) b ≡ Some (record { name = bidder.name; tree = bidder.tree; bounds = bounds_of bounds b; set = set_of sets b })
  standing_at bidders bounds sets e f g = walk bidders bounds sets b e f g
    where
      walk : (bidders : List Bidder) (bounds : List Bounds) (sets : Assignment) (i : ℕ) → slice_get bidders i ≡ Some bidder → length bounds ≡ length bidders → length sets ≡ length bidders
          → slice_get (standings_from bidders bounds sets) i ≡ Some (record { name = bidder.name; tree = bidder.tree; bounds = bounds_of bounds i; set = set_of sets i })
      walk [] bounds sets i e f g = absurd (none-some bidder e)
      walk (x ∷ bidders) [] sets i e f g = absurd (omega (arith, f))
      walk (x ∷ bidders) (now ∷ bounds) [] i e f g = absurd (omega (arith, g))
      walk (x ∷ bidders) (now ∷ bounds) (s ∷ sets) zero e f g =
          let same : x ≡ bidder = cc in
          ap (λ (y : Bidder). Some (let z : Standing = record { name = y.name; tree = y.tree; bounds = now; set = s } in z)) same
      walk (x ∷ bidders) (now ∷ bounds) (s ∷ sets) (suc i) e f g = walk bidders bounds sets i e (omega (arith, f)) (omega (arith, g))

-- the submissions of a name have it
names_are : (name : List ℕ) (judged : List Judged) → AllByRecursion (λ j. j.submission.name ≡ name) (of_name name judged)
names_are name [] = tt
names_are name (j ∷ judged) = by (bytes_eq name j.submission.name) refl (names_are name judged)
  where
    by : (t : Bool) → bytes_eq name j.submission.name ≡ t → AllByRecursion (λ (k : Judged). k.submission.name ≡ name) (of_name name judged)
        → AllByRecursion (λ (k : Judged). k.submission.name ≡ name) (if t then j ∷ of_name name judged else of_name name judged)
    by true e more = (sym (same-bytes_eq name j.submission.name e), more)
    by false e more = more

-- ---- a bidder with an empty final set

-- the final sets are feasible without it, and best: so nothing is lost without it
nothing_lost : (ex : Exchange) (bounds : List Bounds) (c : Closed) → IsClosed ex bounds c → (b : ℕ) → b < length (trees_of ex) → IsEmpty (set_of c.settlement.final.sets b)
    → slice_index_or (vickreys_of c) b (pos 0) ≡ pos 0
nothing_lost ex bounds c is b h empty =
    let (total, without, best, other, lost) = stated_at ex bounds c is b h in
    let final = is.settled.final in
    let (x, feasible, worth) = best.attained in
    let (y, alone, worth_alone) = other.attained in
    let above = final.best.bound x feasible in
    let below = best.bound y alone.0 in
    let reached = other.bound c.settlement.final.sets (final.feasible, empty) in
    omega (arith, ints, lost, worth, worth_alone, above, below, reached, final.value)

-- ---- the exchange with one bidder

module _ (ex : Exchange) (lawful : IsExchange ex) (b : ℕ) (bidder : Bidder) (is : slice_get ex.bidders b ≡ Some bidder) where
  there : b < length ex.bidders
  there = slice_get_within ex.bidders b bidder is

  count_trees : length (trees_of ex) ≡ length ex.bidders
  count_trees = length-map ex.bidders (λ (x : Bidder). x.tree)

  count_goods : length (exact_of ex) ≡ length ex.goods
  count_goods = length-map ex.goods (λ (x : Good). x.exact)

  tree_is : tree_of (trees_of ex) b ≡ bidder.tree
  tree_is = at_map (λ (x : Bidder). x.tree) ex.bidders b bidder [] is

  abbrev one : Exchange
  one = record { settings = ex.settings; goods = ex.goods; bidders = bidder ∷ [] }

  lawful_bidder : IsBidder (length ex.goods) bidder
  lawful_bidder = at_all (IsBidder (length ex.goods)) ex.bidders b bidder is lawful.bidders

  owned_is : get_or (map (λ (x : Bidder). x.own) ex.bidders) b [] ≡ bidder.own
  owned_is = at_map (λ (x : Bidder). x.own) ex.bidders b bidder [] is

  pub one_lawful : IsExchange one
  unfolding IsDistinct
  one_lawful = record {
    settings = lawful.settings;
    goods_count = lawful.goods_count;
    bidders_count = (omega arith, omega arith);
    goods_named = lawful.goods_named;
    goods = lawful.goods;
    bidders_named = (named, tt);
    names = (tt, tt);
    bidders = (lawful_bidder, tt);
    nodes = omega (arith, lawful_bidder.tree.count);
    owned = owned;
  }
    where
      named : IsTrue (is_name bidder.name)
      named = at_all (λ (x : Bidder). IsTrue (is_name x.name)) ex.bidders b bidder is (map-all (λ (n : List ℕ). IsTrue (is_name n)) (λ (x : Bidder). x.name) ex.bidders lawful.bidders_named)

      owned : SellsOnlyOwned (market_of one)
      owned zero g s l m sat =
          subst (λ (own : List ℕ). pos 0 ≤ℤ (pos (slice_index own g) +ℤ units bidder.tree s g)) owned_is
          (subst (λ (t : Tree). pos 0 ≤ℤ (pos (slice_index (get_or (map (λ (x : Bidder). x.own) ex.bidders) b []) g) +ℤ units t s g)) tree_is
          (lawful.owned b g s (omega (arith, there, count_trees)) m (subst (λ (t : Tree). IsSatisfied t s) (sym tree_is) sat)))
      owned (suc c) g s l m sat = absurd (omega (arith, l))

  -- ---- settlements

  sat_of : (exact : List Bool) (sets : Assignment) → IsFeasible (trees_of ex) exact sets → IsSatisfied bidder.tree (set_of sets b)
  sat_of exact sets feasible = subst (λ (t : Tree). IsSatisfied t (set_of sets b)) tree_is (feasible.satisfied b (omega (arith, there, count_trees)))

  count_sets : (exact : List Bool) (sets : Assignment) → IsFeasible (trees_of ex) exact sets → length sets ≡ length ex.bidders
  count_sets exact sets feasible = feasible.same_length ∙ count_trees

  -- a settlement that goes on
  own_step : (bounds : List Bounds) (g : Going) → length bounds ≡ length ex.bidders → IsGoing ex bounds g → ¬ HasCommonDivisor g.prices
      → IsOwnStep ex.settings (length ex.goods) bidder (bounds_of bounds b) (step_of b bidder.name g)
  own_step bounds g same going lowest = record {
    kept = sat_of (exact_of ex) g.settlement.final.sets going.settled.final.feasible;
    offered = sat_of (exact_of ex) g.provisional.sets going.provisional.feasible;
    prices = record {
      count = within.same_length ∙ count_goods;
      high = λ k l. within.high k (omega (arith, l, count_goods));
      lowest = lowest;
    };
    names = names_are bidder.name g.judged;
    round = at_all (λ (x : Standing). JudgesInOrder g.prices ex.settings.improve x false (of_name x.name g.judged)) (standings ex bounds g.provisional.sets) b
        (record { name = bidder.name; tree = bidder.tree; bounds = bounds_of bounds b; set = set_of g.provisional.sets b })
        (standing_at bidder b ex.bidders bounds g.provisional.sets is same (count_sets (exact_of ex) g.provisional.sets going.provisional.feasible)) going.round.each;
  }
    where
      within : ArePrices (length (exact_of ex)) ex.settings.cap g.prices
      within = going.balanced.accurate.within

  -- the bounds behind it
  next_bounds_at : (bounds : List Bounds) (g : Going) → length bounds ≡ length ex.bidders → IsGoing ex bounds g → bounds_of (bounds_after_round ex bounds g) b ≡ bounds_after (bounds_of bounds b) (of_name bidder.name g.judged)
  next_bounds_at bounds g same going =
      at_map (λ (x : Standing). bounds_after x.bounds (of_name x.name g.judged)) (standings ex bounds g.provisional.sets) b
      (record { name = bidder.name; tree = bidder.tree; bounds = bounds_of bounds b; set = set_of g.provisional.sets b }) no_bounds
      (standing_at bidder b ex.bidders bounds g.provisional.sets is same (count_sets (exact_of ex) g.provisional.sets going.provisional.feasible))

  next_count : (bounds : List Bounds) (g : Going) → length bounds ≡ length ex.bidders → IsGoing ex bounds g → length (bounds_after_round ex bounds g) ≡ length ex.bidders
  next_count bounds g same going =
      length-map (standings ex bounds g.provisional.sets) (λ (x : Standing). bounds_after x.bounds (of_name x.name g.judged))
      ∙ standings_count ex.bidders bounds g.provisional.sets same (count_sets (exact_of ex) g.provisional.sets going.provisional.feasible)

  -- the last one
  own_closed : (bounds : List Bounds) (c : Closed) (p : Payment) → length bounds ≡ length ex.bidders → IsClosed ex bounds c → AllByRecursion (λ (q : Payment). Equals q.discount (discount_at_cut c.cut q.vickrey)) c.payments
      → slice_get c.payments b ≡ Some p
      → IsOwnClosed ex.settings (length ex.goods) bidder (bounds_of bounds b) (record { regret = c.settlement.regret; kept = set_of c.settlement.final.sets b; cut = c.cut; surplus = c.surplus; payment = p })
  own_closed bounds c p same closed discounts paid = record {
    kept = sat_of (exact_of ex) c.settlement.final.sets closed.settled.final.feasible;
    cut = closed.cut.payable.low;
    surplus = no_deficit ex bounds c closed;
    vickrey = λ empty. sym vickrey_is ∙ nothing_lost ex bounds c closed b (omega (arith, there, count_trees)) empty;
    name = sym (at_map (λ (q : Payment). q.name) c.payments b p [] paid) ∙ ap (λ (names : List (List ℕ)). get_or names b []) closed.names ∙ at_map (λ (x : Bidder). x.name) ex.bidders b bidder [] is;
    discount = at_all (λ (q : Payment). Equals q.discount (discount_at_cut c.cut q.vickrey)) c.payments b p paid discounts;
    payment =
        subst (λ (f : Fraction). Equals f (minus (whole_number (value (set_of c.settlement.final.sets b) (bounds_of bounds b).lo)) p.discount)) payment_is
        (subst (λ (f : Fraction). Equals (fraction_at (map (λ (q : Payment). q.payment) c.payments) b) (minus (whole_number (value (set_of c.settlement.final.sets b) (bounds_of bounds b).lo)) f)) discount_is
        (subst (λ (z : ℤ). Equals (fraction_at (map (λ (q : Payment). q.payment) c.payments) b) (minus (whole_number z) (fraction_at (map (λ (q : Payment). q.discount) c.payments) b))) value_is (closed.payments.each b within)));
  }
    where
      worth : ℕ → ℤ
      worth i = value (set_of c.settlement.final.sets i) (weights_of (lower_weights bounds) i)

      within : b < length (own_values bounds c.settlement.final.sets)
      within = omega (arith, there, same, length-map (numbers_below (length bounds)) worth, length-numbers_below (length bounds))

      bound_there : slice_get bounds b ≡ Some (bounds_of bounds b)
      bound_there = slice_get-get_or bounds b no_bounds (omega (arith, there, same))

      number_there : slice_get (numbers_below (length bounds)) b ≡ Some b
      number_there =
          slice_get-get_or (numbers_below (length bounds)) b 0 (omega (arith, there, same, length-numbers_below (length bounds)))
          ∙ ap (λ (n : ℕ). Some n) (get_or-numbers_below (length bounds) b 0 (omega (arith, there, same)))

      lower_is : weights_of (lower_weights bounds) b ≡ (bounds_of bounds b).lo
      lower_is = at_map (λ (x : Bounds). x.lo) bounds b (bounds_of bounds b) [] bound_there

      value_is : slice_index_or (own_values bounds c.settlement.final.sets) b (pos 0) ≡ value (set_of c.settlement.final.sets b) (bounds_of bounds b).lo
      value_is = at_map worth (numbers_below (length bounds)) b b (pos 0) number_there ∙ ap (value (set_of c.settlement.final.sets b)) lower_is

      payment_is : fraction_at (map (λ (q : Payment). q.payment) c.payments) b ≡ p.payment
      payment_is = at_map (λ (q : Payment). q.payment) c.payments b p (whole_number (pos 0)) paid

      vickrey_is : slice_index_or (vickreys_of c) b (pos 0) ≡ p.vickrey
      vickrey_is = at_map (λ (q : Payment). q.vickrey) c.payments b p (pos 0) paid

      discount_is : fraction_at (map (λ (q : Payment). q.discount) c.payments) b ≡ p.discount
      discount_is = at_map (λ (q : Payment). q.discount) c.payments b p (whole_number (pos 0)) paid

  -- all of them
  own_from : (number : ℕ) (bounds : List Bounds) (going : List Going) (c : Closed) (p : Payment) → length bounds ≡ length ex.bidders → IsRightFrom ex number bounds going c
      → AllByRecursion (λ (g : Going). ¬ HasCommonDivisor g.prices) going → AllByRecursion (λ (q : Payment). Equals q.discount (discount_at_cut c.cut q.vickrey)) c.payments → slice_get c.payments b ≡ Some p
      → IsOwnFrom ex.settings (length ex.goods) bidder number (bounds_of bounds b) (map (step_of b bidder.name) going)
      (record { regret = c.settlement.regret; kept = set_of c.settlement.final.sets b; cut = c.cut; surplus = c.surplus; payment = p })
  own_from number bounds [] c p same (ends, closed) lowest discounts paid = (ends, own_closed bounds c p same closed discounts paid)
  own_from number bounds (g ∷ later) c p same (goes, going, more) lowest discounts paid = (
    goes,
    own_step bounds g same going lowest.0,
    subst (λ (now : Bounds). IsOwnFrom ex.settings (length ex.goods) bidder (suc number) now (map (step_of b bidder.name) later) (record { regret = c.settlement.regret; kept = set_of c.settlement.final.sets b; cut = c.cut; surplus = c.surplus; payment = p }))
        (next_bounds_at bounds g same going) (own_from (suc number) (bounds_after_round ex bounds g) later c p (next_count bounds g same going) more lowest.1 discounts paid),
  )

-- ---- the part of a session

pub part_right : (x : Session) (name : List ℕ) (own : Own) → IsRight x → IsStated x → (o : IsOwn x name own) → IsRightOwn (part_of x o.number own)
part_right x name own right stated o = record {
  exchange = one_lawful x.exchange right.exchange o.number own.bidder o.bidder;
  settlements =
      subst (λ (k : NodeSet). IsOwnFrom x.exchange.settings (length x.exchange.goods) own.bidder 0 own.bidder.bounds (map (step_of o.number own.bidder.name) x.going)
      (record { regret = x.closed.settlement.regret; kept = k; cut = x.closed.cut; surplus = x.closed.surplus; payment = own.payment })) (sym o.kept)
      (subst (λ (now : Bounds). IsOwnFrom x.exchange.settings (length x.exchange.goods) own.bidder 0 now (map (step_of o.number own.bidder.name) x.going)
      (record { regret = x.closed.settlement.regret; kept = set_of x.closed.settlement.final.sets o.number; cut = x.closed.cut; surplus = x.closed.surplus; payment = own.payment }))
      (at_map (λ (y : Bidder). y.bounds) x.exchange.bidders o.number own.bidder no_bounds o.bidder)
      (own_from x.exchange right.exchange o.number own.bidder o.bidder 0 (opening_bounds x.exchange) x.going x.closed own.payment (length-bounds x.exchange) right.settlements stated.prices stated.discounts o.payment));
}
