-- What `best` writes at each status.
use Rattle.std.specs.Prelude.{ℕ, suc, ◌≡◌, List, [], ◌∷◌, ◌++◌, length, ℤ, ◌≤ℤ◌, Ok}
use Rattle.ice_edge.specs.declared.status.Status.{Status}
use Rattle.ice_edge.specs.declared.status.Status.TheVariants.{Done, Input, ReadFault, NoMemory}
use Rattle.ice_defs.specs.Set.{NodeSet, IsSatisfied}
use Rattle.ice_defs.specs.Trade.{tree_of}
use Rattle.ice_defs.specs.Weighing.{weighted_weights}
use Rattle.ice_defs.specs.Prices.{Prices}
use Rattle.ice_defs.specs.Pricing.{weighted_net}
use Rattle.ice_defs.specs.Exchange.{Exchange, trees_of, exact_of, names_of, opening_bounds}
use Rattle.ice_defs.specs.FileFault.{FileFault}
use Rattle.ice_section.specs.LineFile.{IsPricesOfLines}
use Rattle.ice_command_parts.specs.Call.{Call, file_limit, OfFile, IsRefused}
use Rattle.ice_command_parts.specs.Files.{IsExchangeOf, IsExchangeFault, IsPricesFault}
use Rattle.ice_command_parts.specs.Lines.{refused_line}
use Rattle.ice_command_parts.specs.Refusals.{IsOneUnread}
use Rattle.ice_commands.specs.Output.{best_lines, best_end}

-- a bidder's net of a set at weighted values, times the prices' denominator
abbrev pub net_of : Exchange → Prices → ℕ → NodeSet → ℤ
net_of ex p b s = weighted_net (trees_of ex) (weighted_weights ex.settings.weight (opening_bounds ex)) [] p b s

-- a satisfied set of a bidder has this net, and none has a greater one
pub record IsBestNet (ex : Exchange) (p : Prices) (b : ℕ) (s : NodeSet) (net : ℤ) : Type 0 where
  pub satisfied : IsSatisfied (tree_of (trees_of ex) b) s
  pub has : net_of ex p b s ≡ net
  pub greatest : (other : NodeSet) → IsSatisfied (tree_of (trees_of ex) b) other → net_of ex p b other ≤ℤ net

-- the lines of the bidders from this one on
pub data AreBestLines (ex : Exchange) (p : Prices) : ℕ → List (List ℕ) → List ℕ → Type 0 where
  ends : {b : ℕ} → AreBestLines ex p b [] best_end
  goes_on : {b : ℕ} {name : List ℕ} {names : List (List ℕ)} {s : NodeSet} {net : ℤ} {rest : List ℕ}
      → IsBestNet ex p b s net → AreBestLines ex p (suc b) names rest → AreBestLines ex p b (name ∷ names) (best_lines name net s ++ rest)

-- the exchange file is judged before the prices file is fetched
pub data BestRefused (call : Call) (exchange prices : List ℕ) : Type 0 where
  exchange_refused : (fault : FileFault) → IsRefused call exchange file_limit IsExchangeFault fault → call.text ≡ refused_line 1 fault
      → BestRefused call exchange prices
  prices_refused : (fault : FileFault) (ex : Exchange) → OfFile call exchange file_limit (λ bytes. IsExchangeOf bytes (Ok ex))
      → IsRefused call prices file_limit (IsPricesFault (length (exact_of ex))) fault → call.text ≡ refused_line 2 fault
      → BestRefused call exchange prices

abbrev pub BestAnswers : Call → List ℕ → List ℕ → Status → Type 0
BestAnswers call exchange prices Done =
    (ex : Exchange) × (p : Prices) × OfFile call exchange file_limit (λ bytes. IsExchangeOf bytes (Ok ex))
    × OfFile call prices file_limit (λ bytes. IsPricesOfLines (length (exact_of ex)) bytes (Ok p))
    × AreBestLines ex p 0 (names_of ex) call.text
BestAnswers call exchange prices Input = BestRefused call exchange prices
BestAnswers call exchange prices ReadFault = IsOneUnread call exchange prices
BestAnswers call exchange prices NoMemory = call.text ≡ []
BestAnswers call exchange prices other = ⊥
