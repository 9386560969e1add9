-- The parts of a generated exchange.
use Rattle.std.specs.Prelude.{ℕ, ◌++◌, false, List, map, codes, decimal, pos}
use Rattle.ice_defs.specs.Sum.{numbers_below}
use Rattle.ice_defs.specs.Tree.{Tree}
use Rattle.ice_defs.specs.Bounds.{Bounds}
use Rattle.ice_defs.specs.Exchange.{Settings, Good, Bidder, Exchange}
use Rattle.ice_gen.specs.Generated.{Made, bounds_of_values, truth_of_values}

abbrev pub bidder_of : Made → Bidder
bidder_of m = record {
  name = m.name;
  own = m.own;
  tree = m.tree;
  bounds = bounds_of_values m.values;
}

-- a bidder of these parts
abbrev pub bidder_from : List ℕ → List ℕ → Tree → Bounds → Bidder
bidder_from name own tree bounds = record { name = name; own = own; tree = tree; bounds = bounds }

abbrev pub truth_of : Made → Bounds
truth_of m = truth_of_values m.values

-- the settings of every generated exchange
abbrev pub the_settings : Settings
the_settings = record {
  weight = 50;
  close_regret = pos 0;
  cap = pos 1000;
  improve = pos 1;
  rounds = 6;
  branches = 50000;
  derived = 0;
}

-- the first so many goods
abbrev pub goods_below : ℕ → List Good
goods_below n =
    map (λ g. record { name = codes "G" ++ decimal g; exact = false }) (numbers_below n)

-- an exchange of the twelve goods with these bidders
abbrev pub exchange_with : List Made → Exchange
exchange_with ms = record {
  settings = the_settings;
  goods = goods_below 12;
  bidders = map bidder_of ms;
}
