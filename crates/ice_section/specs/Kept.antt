-- How a section keeps the open nodes of a tree: their numbers,
-- and how many children of each are still to come.
use Rattle.std.specs.Prelude.{ℕ, suc, ◌+◌, ◌-◌, ◌<◌, ◌≡◌, List, [], ◌∷◌, length, reverse, ℤ, Option, Some, None, Result, Ok, Err}
use Rattle.std.specs.List.{AllByRecursion}
use Rattle.ice_defs.specs.declared.NodeKind.{NodeKind}
use Rattle.ice_defs.specs.declared.NodeKind.TheVariants.{Choose, Buy, Sell}
use Rattle.ice_defs.specs.Tree.{Tree, kind_of, children_of}
use Rattle.ice_defs.specs.Making.{node_refusal}
use Rattle.ice_defs.specs.Exchange.{Bidder, Exchange}
use Rattle.ice_tree.specs.Making.{Making}
use Rattle.ice_journal.specs.Records.{Record}
use Rattle.ice_journal.specs.Ranges.{IsRecord}
use Rattle.ice_section.specs.Section.{SectionFault, maker, OpenNode, Draft, Section, no_section, with_node, open_after}
use Rattle.ice_section.specs.Taking.{take_records}

abbrev pub least_of : NodeKind → ℕ
least_of (Choose least most) = least
least_of (Buy good units) = 0
least_of (Sell good units) = 0

abbrev pub most_of : NodeKind → ℕ
most_of (Choose least most) = most
most_of (Buy good units) = 0
most_of (Sell good units) = 0

-- a choose node waits for so many children; of those that are there, so many are incomplete
abbrev pub open_node : Tree → ℕ → ℕ → ℕ → OpenNode
open_node t incomplete n left =
    record {
      number = n;
      least = least_of (kind_of t n);
      most = most_of (kind_of t n);
      children = length (children_of t n) + left - incomplete;
      left = left;
    }

-- the open nodes, the innermost first; of each one but the innermost the last child is incomplete
abbrev pub open_nodes : Tree → ℕ → List ℕ → List ℕ → List OpenNode
open_nodes t incomplete [] lefts = []
open_nodes t incomplete (n ∷ outer) [] = []
open_nodes t incomplete (n ∷ outer) (left ∷ lefts) = open_node t incomplete n left ∷ open_nodes t 1 outer lefts

abbrev pub IsChoose : NodeKind → Type 0
IsChoose (Choose least most) = Unit {0}
IsChoose (Buy good units) = ⊥
IsChoose (Sell good units) = ⊥

-- every open node is a choose node, and waits for a child
abbrev pub AreKept : Tree → List ℕ → List ℕ → Type 0
AreKept t [] [] = Unit {0}
AreKept t [] (left ∷ lefts) = ⊥
AreKept t (n ∷ outer) [] = ⊥
AreKept t (n ∷ outer) (left ∷ lefts) = IsChoose (kind_of t n) × (0 < left) × AreKept t outer lefts

-- an incomplete bidder, for so many goods
pub record Drafting : Type 0 where
  pub goods : ℕ
  pub draft : Draft

-- it has the tree that is being made, and for each open node,
-- from the root down, the number of children to come
abbrev pub drafting_of : List ℕ → List ℕ → Making → List ℕ → Drafting
drafting_of name own m lefts = record {
  goods = m.goods;
  draft = record {
    bidder = record { name = name; own = own; tree = m.draft.tree; bounds = m.draft.bounds };
    opened = open_nodes m.draft.tree 0 m.draft.opened (reverse lefts);
  };
}

-- some lawful records lead to this section
abbrev pub IsReached : Section → Type 0
IsReached s = (records : List Record) × AllByRecursion IsRecord records × (take_records no_section records ≡ Ok s)

-- the incomplete bidder of such a section
abbrev pub IsDrafting : Drafting → Type 0
IsDrafting d = (s : Section) × IsReached s × (s.draft ≡ Some d.draft) × (length s.goods ≡ d.goods)

abbrev pub node_made : Option ℕ → Bidder → Result (List OpenNode) SectionFault → Result Draft SectionFault
node_made (Some number) b opened = Err (maker number)
node_made None b (Err fault) = Err fault
node_made None b (Ok opened) = Ok (record { bidder = b; opened = opened })

-- the incomplete bidder with one more node, or the refusal
abbrev pub draft_after : Drafting → NodeKind → ℕ → ℤ → ℤ → Result Draft SectionFault
draft_after d kind children lo hi =
    node_made (node_refusal d.goods (length d.draft.bidder.tree) (suc (length d.draft.opened)) kind lo hi)
    (with_node d.draft.bidder d.draft.opened kind lo hi) (open_after kind (length d.draft.bidder.tree) children d.draft.opened)

-- ---- a section from its two makers

abbrev pub drafts_of : Option Drafting → Option Draft
drafts_of None = None
drafts_of (Some d) = Some d.draft

abbrev pub section_from : Option Exchange → Option Drafting → Section
section_from None drafting = record { settings = None; goods = []; bidders = []; draft = drafts_of drafting }
section_from (Some ex) drafting = record { settings = Some ex.settings; goods = ex.goods; bidders = ex.bidders; draft = drafts_of drafting }

abbrev pub CountsGoods : ℕ → Option Drafting → Type 0
CountsGoods goods None = Unit {0}
CountsGoods goods (Some d) = goods ≡ d.goods

-- some lawful records lead to it, and the incomplete bidder is over its goods
pub record IsHeld (made : Option Exchange) (drafting : Option Drafting) : Type 0 where
  pub reached : IsReached (section_from made drafting)
  pub counted : CountsGoods (length (section_from made drafting).goods) drafting
