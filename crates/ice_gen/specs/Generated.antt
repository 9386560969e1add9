-- The generated exchange of a number, and its true values.
use Rattle.std.specs.Prelude.{ℕ, ◌+◌, ◌-◌, ◌*◌, ◌/◌, ◌%◌, ◌^◌, false, List, [], ◌∷◌, ◌++◌, map, take, drop, replicate, sum, slice_index}
use Rattle.std.specs.Prelude.{codes, decimal, pos, neg_ℤ, ◌+ℤ◌, ◌-ℤ◌}
use Rattle.ice_defs.specs.declared.NodeKind.TheVariants.{Choose, Buy, Sell}
use Rattle.ice_defs.specs.Sum.{numbers_below}
use Rattle.ice_defs.specs.Tree.{Tree}
use Rattle.ice_defs.specs.Bounds.{Bounds}
use Rattle.ice_defs.specs.Exchange.{Exchange}
use Rattle.ice_gen.specs.declared.valued.Valued.{Valued}

-- the state after the next draw
unfoldable pub advanced : ℕ → ℕ
advanced x = (x * 6364136223846793005 + 1442695040888963407) % 2 ^ 64

-- one number below each of these, in their order
unfoldable pub draws : List ℕ → ℕ → List ℕ
draws [] x = []
draws (n ∷ ns) x = ((advanced x / 2 ^ 33) % n) ∷ draws ns (advanced x)

-- ---- what is drawn

-- for each of three leaves: the value, and how far below and above it the bounds are
abbrev pub seller_draws : List ℕ
seller_draws = 20 ∷ 10 ∷ 10 ∷ 20 ∷ 10 ∷ 10 ∷ 20 ∷ 10 ∷ 10 ∷ []

-- for each package: its first good, the parts of its value, and the two distances
abbrev pub package_draws : ℕ → List ℕ
package_draws k = 12 ∷ replicate k 30 ++ 10 ∷ 10 ∷ []

abbrev pub buyer_draws : List ℕ
buyer_draws = package_draws 2 ++ package_draws 3 ++ package_draws 4

-- four sellers, and then four buyers
abbrev pub all_draws : List ℕ
all_draws =
    seller_draws ++ seller_draws ++ seller_draws ++ seller_draws
    ++ buyer_draws ++ buyer_draws ++ buyer_draws ++ buyer_draws

-- ---- what is made of it

abbrev pub no_value : Valued
no_value = record { truth = pos 0; below = 0; above = 0 }

abbrev pub bounds_of_values : List Valued → Bounds
bounds_of_values vs = record {
  lo = map (λ v. v.truth -ℤ pos v.below) vs;
  hi = map (λ v. v.truth +ℤ pos v.above) vs;
}

abbrev pub truth_of_values : List Valued → Bounds
truth_of_values vs = record { lo = map (λ v. v.truth) vs; hi = map (λ v. v.truth) vs }

-- a name, what is owned, a tree, and a value for each node
pub record Made : Type 0 where
  pub name : List ℕ
  pub own : List ℕ
  pub tree : Tree
  pub values : List Valued

-- one unit of each of three goods
abbrev pub owned_one : ℕ → List ℕ
owned_one i = replicate (3 * i) 0 ++ 1 ∷ 1 ∷ 1 ∷ replicate (9 - 3 * i) 0

abbrev pub sale_value : List ℕ → ℕ → Valued
sale_value ds j = record {
  truth = neg_ℤ (pos (5 + slice_index ds (3 * j)));
  below = slice_index ds (3 * j + 1);
  above = slice_index ds (3 * j + 2);
}

-- any of three sales, one unit of each good that it owns
abbrev pub seller : ℕ → List ℕ → Made
seller i ds = record {
  name = codes "S" ++ decimal i;
  own = owned_one i;
  tree =
      record { kind = Choose 0 3; parent = 0 }
      ∷ map (λ j. record { kind = Sell (3 * i + j) 1; parent = 0 }) (numbers_below 3);
  values = no_value ∷ map (sale_value ds) (numbers_below 3);
}

-- a package of k goods, whose node has this number
abbrev pub package_tree : ℕ → ℕ → List ℕ → Tree
package_tree number k ds =
    record { kind = Choose k k; parent = 0 }
    ∷ map
    (λ a. record { kind = Buy ((slice_index ds 0 + 5 * a) % 12) 1; parent = number })
    (numbers_below k)

abbrev pub package_values : ℕ → List ℕ → List Valued
package_values k ds =
    record {
      truth = pos (10 * k + sum (take k (drop 1 ds)));
      below = slice_index ds (k + 1);
      above = slice_index ds (k + 2);
    }
    ∷ replicate k no_value

-- at most one of three packages
abbrev pub buyer : ℕ → List ℕ → Made
buyer i ds = record {
  name = codes "B" ++ decimal i;
  own = replicate 12 0;
  tree =
      record { kind = Choose 0 1; parent = 0 }
      ∷ package_tree 1 2 ds ++ package_tree 4 3 (drop 5 ds) ++ package_tree 8 4 (drop 11 ds);
  values =
      no_value
      ∷ package_values 2 ds ++ package_values 3 (drop 5 ds) ++ package_values 4 (drop 11 ds);
}

abbrev pub made_of : List ℕ → List Made
made_of ds =
    map (λ i. seller i (drop (9 * i) ds)) (numbers_below 4)
    ++ map (λ i. buyer i (drop (36 + 18 * i) ds)) (numbers_below 4)

abbrev pub made : ℕ → List Made
made number = made_of (draws all_draws number)

abbrev pub generated_exchange : ℕ → Exchange
generated_exchange number = record {
  settings = record {
    weight = 50;
    close_regret = pos 0;
    cap = pos 1000;
    improve = pos 1;
    rounds = 6;
    branches = 50000;
    derived = 0;
  };
  goods = map (λ g. record { name = codes "G" ++ decimal g; exact = false }) (numbers_below 12);
  bidders =
      map
      (λ m. record { name = m.name; own = m.own; tree = m.tree; bounds = bounds_of_values m.values })
      (made number);
}

-- both bounds equal to the true values
abbrev pub truths : ℕ → List Bounds
truths number = map (λ m. truth_of_values m.values) (made number)
