-- The goods and bidders that are drawn aren't refused, and make the generated exchange.
use Rattle.std.proofs.Common.{ℕ, ◌+◌, ◌*◌, ◌<◌, ◌≤◌, ◌≡◌, Bool, true, false, cond, eqb, leb, List, [], ◌∷◌, ◌++◌, map, length, replicate, ℤ, pos, neg_ℤ, ◌+ℤ◌, ◌≤ℤ◌, Option, Some, None, refl, arith, ap, sym, ◌∙◌, subst, append_assoc}
use Rattle.std.specs.Prelude.{IsSome, IsOk, Result, Ok, Err, is_some, is_none, int_lt, int_le, slice_index, codes, decimal}
use Rattle.std.specs.List.{AllByRecursion, list_all}
use Rattle.std.specs.Fmt.{digits}
use Rattle.std.proofs.lemmas.Int.{ints}
use Rattle.std.proofs.lemmas.Bool.{and_parts, leb-true}
use Rattle.std.proofs.lemmas.List.{map_push}
use Rattle.std.proofs.Math.Numerals.{add-one}
use Rattle.ice_defs.specs.declared.NodeKind.{NodeKind}
use Rattle.ice_defs.specs.declared.NodeKind.TheVariants.{Choose, Buy, Sell}
use Rattle.ice_defs.specs.Sum.{numbers_below, sum_below}
use Rattle.ice_defs.specs.Tree.{Tree, kind_of}
use Rattle.ice_defs.specs.Set.{NodeSet, has, leaf_units, units}
use Rattle.ice_defs.specs.Sale.{greatest_sale}
use Rattle.ice_defs.specs.Bounds.{Bounds}
use Rattle.ice_defs.specs.Lawful.{IsLimitedTree, AreBounds, IsBidder}
use Rattle.ice_defs.specs.Exchange.{Good, Bidder, Exchange}
use Rattle.ice_defs.specs.Making.{good_refusal, bidder_refusal, over_sale}
use Rattle.ice_defs.proofs.Sums.{sum_below-le, sum_below-add, sum_below-zero}
use Rattle.ice_defs.proofs.Below.{find-none}
use Rattle.ice_defs.proofs.Choices.{is_none-true}
use Rattle.ice_best.proofs.Sales.{greatest_sale-greatest}
use Rattle.ice_trade.specs.declared.faults.MakeFault.{MakeFault}
use Rattle.ice_trade.specs.Fault.{RefusedBy}
use Rattle.ice_trade.specs.Parts.{with_bidder, with_good}
use Rattle.ice_gen.specs.Generated.{Made, bounds_of_values, truth_of_values, draws, seller, buyer, seller_draws, buyer_draws, owned_one, made, generated_exchange, truths}
use Rattle.ice_gen.specs.Drawing.{state_after}
use Rattle.ice_gen.specs.Parts.{bidder_of, truth_of, exchange_with, goods_below, the_settings}
use Rattle.ice_gen.proofs.Drawing.{state_after-add}
use Rattle.ice_gen.proofs.Numbers.{below_4, all_below}

-- ---- goods

is_free : ℕ → Bool
is_free g = is_none (good_refusal (goods_below g) [] (codes "G" ++ decimal g))

pub good_refusal-none : (g : ℕ) → g < 12 → good_refusal (goods_below g) [] (codes "G" ++ decimal g) ≡ None
unfolding is_free digits
good_refusal-none g l = is_none-true _ (all_below is_free 12 refl g l)

-- the exchange with so many goods and no bidder
abbrev pub stocked : ℕ → Exchange
stocked g = record { settings = the_settings; goods = goods_below g; bidders = [] }

pub good-joins : (g : ℕ) (ex : Exchange) (name : List ℕ) → g < 12 → ex ≡ stocked g → name ≡ codes "G" ++ decimal g → good_refusal ex.goods ex.bidders name ≡ None
good-joins g ex name l is named = ap (λ (x : Exchange). good_refusal x.goods x.bidders name) is ∙ ap (good_refusal (goods_below g) []) named ∙ good_refusal-none g l

pub good-grown : (g : ℕ) (was now : Exchange) (name : List ℕ) → was ≡ stocked g → name ≡ codes "G" ++ decimal g → now ≡ with_good was (record { name = name; exact = false }) → now ≡ stocked (g + 1)
good-grown g was now name is named step =
    let good : ℕ → Good = λ k. record { name = codes "G" ++ decimal k; exact = false } in
    step
    ∙ ap (λ ex. with_good ex (record { name = name; exact = false })) is
    ∙ ap (λ x. with_good (stocked g) (record { name = x; exact = false })) named
    ∙ ap (λ gs. let r : Exchange = record { settings = the_settings; goods = gs; bidders = [] } in r) (sym (map_push good (numbers_below g) g))
    ∙ ap stocked (sym (add-one g))

not_some : (due : Option ℕ) → IsSome due → due ≡ None → ⊥
not_some None is none = cc
not_some (Some x) is none = cc

-- where no refusal is due there is none
pub IsOk-unrefused : {T : Type 0} (r : Result T MakeFault) (due : Option ℕ) → RefusedBy r due → due ≡ None → IsOk r
IsOk-unrefused (Ok x) due refused none = refl
IsOk-unrefused (Err fault) due refused none = absurd (not_some due refused.1 none)

-- ---- sales

-- what a node sells of a good at most
sold_units : NodeKind → ℕ → ℤ
sold_units (Choose least most) g = pos 0
sold_units (Buy good units) g = pos 0
sold_units (Sell good units) g = cond (eqb good g) (pos units) (pos 0)

sold : Tree → ℕ → ℤ
sold t g = sum_below (λ n. sold_units (kind_of t n) g) (length t)

covered : (kind : NodeKind) (b : Bool) (g : ℕ) → pos 0 ≤ℤ (cond b (leaf_units kind g) (pos 0) +ℤ sold_units kind g)
unfolding sold_units
covered (Choose least most) true g = omega (arith, ints)
covered (Choose least most) false g = omega (arith, ints)
covered (Buy good units) true g = by (eqb good g)
  where
    by : (e : Bool) → pos 0 ≤ℤ (cond e (pos units) (pos 0) +ℤ pos 0)
    by true = omega (arith, ints)
    by false = omega (arith, ints)
covered (Buy good units) false g = omega (arith, ints)
covered (Sell good units) true g = by (eqb good g)
  where
    by : (e : Bool) → pos 0 ≤ℤ (cond e (neg_ℤ (pos units)) (pos 0) +ℤ cond e (pos units) (pos 0))
    by true = omega (arith, ints)
    by false = omega (arith, ints)
covered (Sell good units) false g = by (eqb good g)
  where
    by : (e : Bool) → pos 0 ≤ℤ (pos 0 +ℤ cond e (pos units) (pos 0))
    by true = omega (arith, ints)
    by false = omega (arith, ints)

units_covered : (t : Tree) (s : NodeSet) (g : ℕ) → neg_ℤ (units t s g) ≤ℤ sold t g
unfolding sold
units_covered t s g =
    let unit : ℕ → ℤ = λ n. cond (has s n) (leaf_units (kind_of t n) g) (pos 0) in
    let sale : ℕ → ℤ = λ n. sold_units (kind_of t n) g in
    let together = sum_below-add unit sale (length t) in
    let least = sum_below-le (λ n. pos 0) (λ n. unit n +ℤ sale n) (length t) (λ n l. covered (kind_of t n) (has s n) g) in
    let none = sum_below-zero (λ n. pos 0) (length t) (λ n l. refl) in
    omega (arith, ints, together, least, none)

greatest_sale-covered : (t : Tree) (g : ℕ) → greatest_sale t g ≤ℤ sold t g
greatest_sale-covered t g =
    let (s, sat, same) = (greatest_sale-greatest t g).attained in
    subst (λ z. z ≤ℤ sold t g) same (units_covered t s g)

is_owned : Tree → List ℕ → ℕ → Bool
is_owned t own g = int_le (sold t g) (pos (slice_index own g))

over_sale-none : (t : Tree) (own : List ℕ) → list_all (is_owned t own) (numbers_below 12) ≡ true → over_sale 12 t own ≡ None
unfolding is_owned
over_sale-none t own all = find-none (λ g. int_lt (pos (slice_index own g)) (greatest_sale t g)) 12 each
  where
    under : (a b z : ℤ) → int_le b z ≡ true → a ≤ℤ b → int_lt z a ≡ false
    under a b z le less = grind (arith, ints)

    each : (g : ℕ) → g < 12 → int_lt (pos (slice_index own g)) (greatest_sale t g) ≡ false
    each g l = under (greatest_sale t g) (sold t g) (pos (slice_index own g)) (all_below (is_owned t own) 12 all g l) (greatest_sale-covered t g)

-- ---- bidders

-- the sellers and the buyers of the number
abbrev pub seller_at : ℕ → ℕ → Made
seller_at n i = seller i (draws seller_draws (state_after (9 * i) n))

abbrev pub buyer_at : ℕ → ℕ → Made
buyer_at n i = buyer i (draws buyer_draws (state_after (36 + 18 * i) n))

abbrev pub sellers : ℕ → ℕ → List Made
sellers n i = map (seller_at n) (numbers_below i)

abbrev pub traders : ℕ → ℕ → List Made
traders n i = sellers n 4 ++ map (buyer_at n) (numbers_below i)

pub sellers-more : (n i : ℕ) → sellers n (i + 1) ≡ sellers n i ++ seller_at n i ∷ []
sellers-more n i = ap (sellers n) (add-one i) ∙ map_push (seller_at n) (numbers_below i) i

pub traders-more : (n i : ℕ) → traders n (i + 1) ≡ traders n i ++ buyer_at n i ∷ []
traders-more n i =
    ap (traders n) (add-one i)
    ∙ ap (λ ms. sellers n 4 ++ ms) (map_push (buyer_at n) (numbers_below i) i)
    ∙ sym (append_assoc (sellers n 4) (map (buyer_at n) (numbers_below i)) (buyer_at n i ∷ []))

no_sale : (o : Option ℕ) → o ≡ None → cond {A = Option ℕ} (is_some o) (Some 14) None ≡ None
no_sale o none = ap (λ o. let r : Option ℕ = cond (is_some o) (Some 14) None in r) none

pub seller_unrefused : (n i : ℕ) → i < 4 → bidder_refusal 12 (map bidder_of (sellers n i)) (bidder_of (seller_at n i)) ≡ None
unfolding digits is_owned sold sold_units
seller_unrefused n i l =
    below_4 (λ i. bidder_refusal 12 (map bidder_of (sellers n i)) (bidder_of (seller_at n i)) ≡ None)
    (no_sale _ (over_sale-none (seller_at n 0).tree (owned_one 0) refl))
    (no_sale _ (over_sale-none (seller_at n 1).tree (owned_one 1) refl))
    (no_sale _ (over_sale-none (seller_at n 2).tree (owned_one 2) refl))
    (no_sale _ (over_sale-none (seller_at n 3).tree (owned_one 3) refl))
    i l

pub buyer_unrefused : (n i : ℕ) → i < 4 → bidder_refusal 12 (map bidder_of (traders n i)) (bidder_of (buyer_at n i)) ≡ None
unfolding digits is_owned sold sold_units
buyer_unrefused n i l =
    below_4 (λ i. bidder_refusal 12 (map bidder_of (traders n i)) (bidder_of (buyer_at n i)) ≡ None)
    (no_sale _ (over_sale-none (buyer_at n 0).tree (replicate 12 0) refl))
    (no_sale _ (over_sale-none (buyer_at n 1).tree (replicate 12 0) refl))
    (no_sale _ (over_sale-none (buyer_at n 2).tree (replicate 12 0) refl))
    (no_sale _ (over_sale-none (buyer_at n 3).tree (replicate 12 0) refl))
    i l

are_few : (xs : List ℕ) → list_all (λ x. leb x 1000000) xs ≡ true → AllByRecursion (λ amount. amount ≤ 1000000) xs
are_few [] all = tt
are_few (x ∷ xs) all =
    let (here, rest) = and_parts (leb x 1000000) (list_all (λ x. leb x 1000000) xs) all in
    (leb-true x 1000000 here, are_few xs rest)

-- a bidder over twelve goods that owns what is drawn
pub IsBidder-drawn : (goods : ℕ) (b : Bidder) → goods ≡ 12 → IsLimitedTree 12 b.tree → AreBounds (length b.tree) b.bounds → length b.own ≡ 12
    → list_all (λ x. leb x 1000000) b.own ≡ true → IsBidder goods b
IsBidder-drawn goods b twelve limited ordered count few = record {
  tree = subst (λ n. IsLimitedTree n b.tree) (sym twelve) limited;
  bounds = ordered;
  own_count = count ∙ sym twelve;
  own = are_few b.own few;
}

pub owned_one-few : (i : ℕ) → i < 4 → (length (owned_one i) ≡ 12) × (list_all (λ x. leb x 1000000) (owned_one i) ≡ true)
owned_one-few i l = below_4 (λ i. (length (owned_one i) ≡ 12) × (list_all (λ x. leb x 1000000) (owned_one i) ≡ true)) (refl, refl) (refl, refl) (refl, refl) (refl, refl) i l

-- ---- the whole

pub made-all : (n : ℕ) → made n ≡ traders n 4
unfolding draws state_after
made-all n = refl

-- ---- one bidder more

same_bidder : (b e : Bidder) → b.name ≡ e.name → b.own ≡ e.own → b.tree ≡ e.tree → b.bounds ≡ e.bounds → b ≡ e
same_bidder b e name own tree bounds =
    ap (λ x. let r : Bidder = record { name = x; own = b.own; tree = b.tree; bounds = b.bounds } in r) name
    ∙ ap (λ x. let r : Bidder = record { name = e.name; own = x; tree = b.tree; bounds = b.bounds } in r) own
    ∙ ap (λ x. let r : Bidder = record { name = e.name; own = e.own; tree = x; bounds = b.bounds } in r) tree
    ∙ ap (λ x. let r : Bidder = record { name = e.name; own = e.own; tree = e.tree; bounds = x } in r) bounds

pub seller-drawn : (n i s : ℕ) (b : Bidder) → s ≡ state_after (9 * i) n → b.name ≡ codes "S" ++ decimal i → b.own ≡ owned_one i
    → b.tree ≡ (seller i (draws seller_draws s)).tree → b.bounds ≡ bounds_of_values (seller i (draws seller_draws s)).values
    → b ≡ bidder_of (seller_at n i)
seller-drawn n i s b at name own tree bounds =
    same_bidder b (bidder_of (seller i (draws seller_draws s))) name own tree bounds ∙ ap (λ x. bidder_of (seller i (draws seller_draws x))) at

pub buyer-drawn : (n i s : ℕ) (b : Bidder) → s ≡ state_after (36 + 18 * i) n → b.name ≡ codes "B" ++ decimal i → b.own ≡ replicate 12 0
    → b.tree ≡ (buyer 0 (draws buyer_draws s)).tree → b.bounds ≡ bounds_of_values (buyer 0 (draws buyer_draws s)).values
    → b ≡ bidder_of (buyer_at n i)
buyer-drawn n i s b at name own tree bounds =
    same_bidder b (bidder_of (buyer i (draws buyer_draws s))) name own tree bounds ∙ ap (λ x. bidder_of (buyer i (draws buyer_draws x))) at

unrefused-same : (ex : Exchange) (b e : Bidder) (ms : List Made) → ex ≡ exchange_with ms → b ≡ e → bidder_refusal 12 (map bidder_of ms) e ≡ None → bidder_refusal (length ex.goods) ex.bidders b ≡ None
unrefused-same ex b e ms is same none =
    ap (λ (x : Exchange). bidder_refusal (length x.goods) x.bidders b) is ∙ ap (bidder_refusal 12 (map bidder_of ms)) same ∙ none

pub seller-joins : (n i : ℕ) (ex : Exchange) (b : Bidder) → i < 4 → ex ≡ exchange_with (sellers n i) → b ≡ bidder_of (seller_at n i) → bidder_refusal (length ex.goods) ex.bidders b ≡ None
seller-joins n i ex b l is same = unrefused-same ex b (bidder_of (seller_at n i)) (sellers n i) is same (seller_unrefused n i l)

pub buyer-joins : (n i : ℕ) (ex : Exchange) (b : Bidder) → i < 4 → ex ≡ exchange_with (traders n i) → b ≡ bidder_of (buyer_at n i) → bidder_refusal (length ex.goods) ex.bidders b ≡ None
buyer-joins n i ex b l is same = unrefused-same ex b (bidder_of (buyer_at n i)) (traders n i) is same (buyer_unrefused n i l)

grown : (ms more : List Made) (m : Made) (was now : Exchange) (b : Bidder) → more ≡ ms ++ m ∷ [] → was ≡ exchange_with ms → b ≡ bidder_of m → now ≡ with_bidder was b → now ≡ exchange_with more
grown ms more m was now b longer is same step =
    step
    ∙ ap (λ ex. with_bidder ex b) is
    ∙ ap (with_bidder (exchange_with ms)) same
    ∙ ap (λ bs. let r : Exchange = record (exchange_with ms) { bidders = bs } in r) (sym (map_push bidder_of ms m))
    ∙ ap exchange_with (sym longer)

truths-grown : (ms more : List Made) (m : Made) (was now : List Bounds) (t : Bounds) → more ≡ ms ++ m ∷ [] → was ≡ map truth_of ms → t ≡ truth_of m → now ≡ was ++ t ∷ [] → now ≡ map truth_of more
truths-grown ms more m was now t longer is same step =
    step ∙ ap (λ l. l ++ t ∷ []) is ∙ ap (λ x. map truth_of ms ++ x ∷ []) same ∙ sym (map_push truth_of ms m) ∙ ap (map truth_of) (sym longer)

pub seller-grown : (n i : ℕ) (was now : Exchange) (b : Bidder) → was ≡ exchange_with (sellers n i) → b ≡ bidder_of (seller_at n i) → now ≡ with_bidder was b → now ≡ exchange_with (sellers n (i + 1))
seller-grown n i was now b = grown (sellers n i) (sellers n (i + 1)) (seller_at n i) was now b (sellers-more n i)

pub buyer-grown : (n i : ℕ) (was now : Exchange) (b : Bidder) → was ≡ exchange_with (traders n i) → b ≡ bidder_of (buyer_at n i) → now ≡ with_bidder was b → now ≡ exchange_with (traders n (i + 1))
buyer-grown n i was now b = grown (traders n i) (traders n (i + 1)) (buyer_at n i) was now b (traders-more n i)

pub seller-truths : (n i s : ℕ) (was now : List Bounds) (t : Bounds) → s ≡ state_after (9 * i) n → was ≡ map truth_of (sellers n i) → t ≡ truth_of_values (seller i (draws seller_draws s)).values → now ≡ was ++ t ∷ []
    → now ≡ map truth_of (sellers n (i + 1))
seller-truths n i s was now t at is same =
    truths-grown (sellers n i) (sellers n (i + 1)) (seller_at n i) was now t (sellers-more n i) is (same ∙ ap (λ x. truth_of (seller i (draws seller_draws x))) at)

pub buyer-truths : (n i s : ℕ) (was now : List Bounds) (t : Bounds) → s ≡ state_after (36 + 18 * i) n → was ≡ map truth_of (traders n i) → t ≡ truth_of_values (buyer 0 (draws buyer_draws s)).values → now ≡ was ++ t ∷ []
    → now ≡ map truth_of (traders n (i + 1))
buyer-truths n i s was now t at is same =
    truths-grown (traders n i) (traders n (i + 1)) (buyer_at n i) was now t (traders-more n i) is (same ∙ ap (λ x. truth_of (buyer i (draws buyer_draws x))) at)

pub seller-state : (n i s t : ℕ) → s ≡ state_after (9 * i) n → t ≡ state_after 9 s → t ≡ state_after (9 * (i + 1)) n
seller-state n i s t at step =
    let more : 9 * i + 9 ≡ 9 * (i + 1) = omega arith in
    step ∙ ap (state_after 9) at ∙ sym (state_after-add (9 * i) 9 n) ∙ ap (λ x. state_after x n) more

pub buyer-state : (n i s t : ℕ) → s ≡ state_after (36 + 18 * i) n → t ≡ state_after 18 s → t ≡ state_after (36 + 18 * (i + 1)) n
buyer-state n i s t at step =
    let more : 36 + 18 * i + 18 ≡ 36 + 18 * (i + 1) = omega arith in
    step ∙ ap (state_after 18) at ∙ sym (state_after-add (36 + 18 * i) 18 n) ∙ ap (λ x. state_after x n) more

pub generated-all : (n : ℕ) → exchange_with (traders n 4) ≡ generated_exchange n
generated-all n = ap exchange_with (sym (made-all n))

pub truths-all : (n : ℕ) → map truth_of (traders n 4) ≡ truths n
truths-all n = ap (map truth_of) (sym (made-all n))
