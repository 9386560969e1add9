-- The sets that are stated behind an exchange, and what a section has before its settings.
use Rattle.std.specs.Prelude.{ℕ, ◌<◌, ◌≤◌, ◌≡◌, Bool, true, false, [], ◌∷◌, ◌++◌, length, None}
use Rattle.ice_defs.specs.Tree.{Tree}
use Rattle.ice_defs.specs.Set.{NodeSet, IsSatisfied}
use Rattle.ice_defs.specs.Trade.{Assignment, tree_of, set_of}
use Rattle.ice_defs.specs.Exchange.{Exchange, trees_of}
use Rattle.ice_section.specs.Section.{Section, no_section}
use Rattle.ice_journal_laws.specs.Assigning.{AreBalanced, AreShort}

-- before the settings nothing stands in a section
abbrev pub HasSettings : Section → Type 0
HasSettings s = s.settings ≡ None → s ≡ no_section

-- an exchange with the sets that are stated so far
pub record Stating : Type 0 where
  pub exchange : Exchange
  pub sets : Assignment

-- with one more set
abbrev pub with_next : Stating → NodeSet → Stating
with_next s x = record { exchange = s.exchange; sets = s.sets ++ x ∷ [] }

-- the next bidder's tree, and that a set of it is satisfied
abbrev pub next_tree : Stating → Tree
next_tree s = tree_of (trees_of s.exchange) (length s.sets)

abbrev pub SatisfiesNext : Stating → NodeSet → Type 0
SatisfiesNext s x = IsSatisfied (next_tree s) x

-- the sets are balanced, or short
abbrev pub IsBalance : Stating → Bool → Type 0
IsBalance s true = AreBalanced s.exchange s.sets
IsBalance s false = AreShort s.exchange s.sets

-- one set of each bidder's tree, of which the first ones are stated and satisfied
pub record AreStated (ex : Exchange) (sets : Assignment) (taken : ℕ) : Type 0 where
  pub few : length (trees_of ex) ≤ 40
  pub same_length : length sets ≡ length (trees_of ex)
  pub taken_there : taken ≤ length sets
  pub sizes : (b : ℕ) → b < length sets → length (set_of sets b) ≡ length (tree_of (trees_of ex) b)
  pub satisfied : (b : ℕ) → b < taken → IsSatisfied (tree_of (trees_of ex) b) (set_of sets b)
