-- The records that describe a lawful exchange are taken, and give it again.
use Rattle.std.proofs.Common.{ℕ, zero, suc, ◌-◌, ◌<◌, ◌≤◌, ◌≡◌, Bool, true, false, cond, not, eqb, List, [], ◌∷◌, ◌++◌, map, take, length, ℤ, pos, Option, Some, None, Result, Ok, Err, refl, arith, ap, sym, ◌∙◌, subst}
use Rattle.std.proofs.lemmas.Bool.{eq-eqb, eqb-true, ne_eqb, cond-true, cond-false}
use Rattle.std.proofs.lemmas.List.{take_more, take_all, map-append}
use Rattle.std.proofs.Math.Numerals.{add-one}
use Rattle.ice_defs.specs.declared.NodeKind.{NodeKind}
use Rattle.ice_defs.specs.declared.NodeKind.TheVariants.{Choose, Buy, Sell}
use Rattle.ice_defs.specs.Sum.{numbers_below}
use Rattle.ice_defs.specs.Tree.{IsInterval, kind_of, parent_of, children_of, no_node}
use Rattle.ice_defs.specs.Set.{weight_of, units}
use Rattle.ice_defs.specs.Making.{node_refusal, bidder_refusal}
use Rattle.ice_defs.specs.Lawful.{IsBidder}
use Rattle.ice_defs.specs.Exchange.{Settings, Good, Bidder}
use Rattle.ice_journal.specs.Records.{Record}
use Rattle.ice_journal.specs.Nodes.{node_record}
use Rattle.ice_journal.specs.Records as line
use Rattle.ice_section.specs.Section.{SectionFault, OpenNode, Draft, Section, unless_refused, parent_under, with_node, add_bidder, go_on, open_after, unless_unmade, take_node_of, take_record}
use Rattle.ice_section.specs.Described.{bidder_records}
use Rattle.ice_section.specs.Taking.{unless_fault, take_records}
use Rattle.ice_section.proofs.NewNode.{with_last}
use Rattle.ice_section.proofs.Drafts.{IsDraft, IsDraft-begun, IsDraftGrown, draft_grown}
use Rattle.ice_trade.proofs.Passing.{node_passes}
use Rattle.ice_section.proofs.NodeRecords.{stated_in, next_parent, next_depth, opens, leaf_count, kind_known, parent_waits, front_kind, front_length}

-- the bidder with the first nodes of its tree
front : Bidder → ℕ → Bidder
front b k = record { name = b.name; own = b.own; tree = take k b.tree; bounds = record { lo = take k b.bounds.lo; hi = take k b.bounds.hi } }

same_function : (f g : ℕ → ℕ) → ((n : ℕ) → f n ≡ g n) → f ≡ g
same_function f g same = λ i n. same n i

with_own : (last v : ℕ) (f : ℕ → ℕ) → v ≡ f last → with_last last v f ≡ f
with_own last v f e = same_function (with_last last v f) f (λ n. by n (eqb n last) refl)
  where
    by : (n : ℕ) (b : Bool) → eqb n last ≡ b → cond (eqb n last) v (f n) ≡ f n
    by n true is = cond-true _ v (f n) is ∙ e ∙ ap f (sym (eqb-true n last is))
    by n false is = cond-false _ v (f n) is

module _ (goods : ℕ) (b : Bidder) (is : IsBidder goods b) where
  depth_in : ℕ → ℕ
  depth_in = is.tree.depth.0

  abbrev kind_at : ℕ → NodeKind
  kind_at k = kind_of b.tree k

  grown_front : (k : ℕ) → k < length b.tree → (opened : List OpenNode) → parent_under opened ≡ parent_of b.tree k
      → with_node (front b k) opened (kind_of b.tree k) (weight_of b.bounds.lo k) (weight_of b.bounds.hi k) ≡ front b (suc k)
  unfolding front
  grown_front k l opened under =
      let tree : take k b.tree ++ record { kind = kind_of b.tree k; parent = parent_under opened } ∷ [] ≡ take (suc k) b.tree =
      ap (λ p. take k b.tree ++ record { kind = kind_of b.tree k; parent = p } ∷ []) under ∙ sym (take_more b.tree k no_node l) ∙ ap (λ n. take n b.tree) (add-one k) in
      let lo : take k b.bounds.lo ++ weight_of b.bounds.lo k ∷ [] ≡ take (suc k) b.bounds.lo =
      sym (take_more b.bounds.lo k (pos 0) (omega (arith, is.bounds.lo_count))) ∙ ap (λ n. take n b.bounds.lo) (add-one k) in
      let hi : take k b.bounds.hi ++ weight_of b.bounds.hi k ∷ [] ≡ take (suc k) b.bounds.hi =
      sym (take_more b.bounds.hi k (pos 0) (omega (arith, is.bounds.hi_count))) ∙ ap (λ n. take n b.bounds.hi) (add-one k) in
      λ i. record { name = b.name; own = b.own; tree = tree i; bounds = record { lo = lo i; hi = hi i } }

  record Goes (k : ℕ) (opened : List OpenNode) : Type 0 where
    unrefused : node_refusal goods (length (front b k).tree) (suc (length opened)) (kind_of b.tree k) (weight_of b.bounds.lo k) (weight_of b.bounds.hi k) ≡ None
    after : List OpenNode
    opened_are : open_after (kind_of b.tree k) (length (front b k).tree) (stated_in b.tree k) opened ≡ Ok after
    grown : with_node (front b k) opened (kind_of b.tree k) (weight_of b.bounds.lo k) (weight_of b.bounds.hi k) ≡ front b (suc k)
    draft : IsDraftGrown goods (front b (suc k)) after (stated_in b.tree) (depth_in)

  goes : (k : ℕ) → k < length b.tree → (opened : List OpenNode) → IsDraft goods (front b k) opened (stated_in b.tree) depth_in → Goes k opened
  unfolding front depth_in
  goes k l opened was =
      let size : length (take k b.tree) ≡ k = front_length b.tree k (omega arith) in
      let kind = kind_of b.tree k in
      let lo = weight_of b.bounds.lo k in
      let hi = weight_of b.bounds.hi k in
      let under = next_parent b.tree is.tree.tree k l is.tree.depth.0 is.tree.depth.1 opened was.waiting was.closed in
      let deep = next_depth b.tree is.tree.tree k l is.tree.depth.0 is.tree.depth.1 opened was.waiting was.closed in
      let unrefused = node_passes goods (length (take k b.tree)) (suc (length opened)) kind lo hi (omega (arith, size, is.tree.count)) (omega (arith, deep, is.tree.depth.2 k l))
      (is.tree.kinds k l) (is.bounds.low k l) (is.bounds.ordered k l) (is.bounds.high k l) in
      let (after, opened_are) = opens (take k b.tree) (stated_in b.tree) is.tree.depth.0
      (λ n m. subst (λ x. IsInterval x (stated_in b.tree n)) (sym (front_kind b.tree k n (omega (arith, size)))) (is.tree.tree.interval n (omega (arith, size))))
      opened was.waiting kind (length (take k b.tree)) (stated_in b.tree k) (is.tree.tree.interval k l) in
      let grown = grown_front k l opened under in
      let draft = draft_grown goods (front b k) opened after (stated_in b.tree) is.tree.depth.0 kind (stated_in b.tree k) lo hi was unrefused (leaf_count kind (stated_in b.tree k) (is.tree.tree.interval k l)) opened_are in
      let same_stated = with_own (length (take k b.tree)) (stated_in b.tree k) (stated_in b.tree) (ap (stated_in b.tree) (sym size)) in
      let same_depth = with_own (length (take k b.tree)) (suc (length opened)) is.tree.depth.0 (deep ∙ ap is.tree.depth.0 (sym size)) in
      record {
        unrefused = unrefused;
        after = after;
        opened_are = opened_are;
        grown = grown;
        draft = subst (λ f. IsDraftGrown goods (front b (suc k)) after (stated_in b.tree) f) same_depth
            (subst (λ f. IsDraftGrown goods (front b (suc k)) after f (with_last (length (take k b.tree)) (suc (length opened)) is.tree.depth.0)) same_stated
            (subst (λ x. IsDraftGrown goods x after (with_last (length (take k b.tree)) (stated_in b.tree k) (stated_in b.tree)) (with_last (length (take k b.tree)) (suc (length opened)) is.tree.depth.0)) grown draft));
      }

  -- before the last node some node is open
  still_open : (k : ℕ) → suc k < length b.tree → (after : List OpenNode) → IsDraftGrown goods (front b (suc k)) after (stated_in b.tree) depth_in → 0 < length after
  unfolding front depth_in
  still_open k l [] grown =
      let size : length (take (suc k) b.tree) ≡ suc k = front_length b.tree (suc k) (omega arith) in
      let first = is.tree.tree.parent_first (suc k) (omega arith) l in
      let closed = (grown.closed (parent_of b.tree (suc k)) (omega (arith, size, first)) tt).1 in
      absurd (omega (arith, closed, parent_waits b.tree is.tree.tree (suc k) l (omega arith)))
  still_open k l (o ∷ outer) grown = omega arith

  -- and after it none is
  none_open : (after : List OpenNode) → IsDraftGrown goods (front b (length b.tree)) after (stated_in b.tree) depth_in → after ≡ []
  unfolding front depth_in
  none_open [] grown = refl
  none_open (o ∷ outer) grown =
      let all : take (length b.tree) b.tree ≡ b.tree = take_all (length b.tree) b.tree (omega arith) in
      let w = grown.waiting.0 in
      absurd (omega (arith, w.so_far, w.some_left, w.count, ap (λ t. length (children_of t o.number)) all))

  whole_front : front b (length b.tree) ≡ b
  unfolding front
  whole_front =
      let tree = take_all (length b.tree) b.tree (omega arith) in
      let lo = take_all (length b.tree) b.bounds.lo (omega (arith, is.bounds.lo_count)) in
      let hi = take_all (length b.tree) b.bounds.hi (omega (arith, is.bounds.hi_count)) in
      λ i. record { name = b.name; own = b.own; tree = tree i; bounds = record { lo = lo i; hi = hi i } }

-- ---- records one after another

pub take_records-append : (s : Section) (xs ys : List Record) → take_records s (xs ++ ys) ≡ unless_fault (take_records s xs) (λ next. take_records next ys)
take_records-append s [] ys = refl
take_records-append s (r ∷ xs) ys = by (take_record s r) (λ next. take_records-append next xs ys)
  where
    by : (found : Result Section SectionFault) → ((next : Section) → take_records next (xs ++ ys) ≡ unless_fault (take_records next xs) (λ n. take_records n ys))
        → unless_fault found (λ next. take_records next (xs ++ ys)) ≡ unless_fault (unless_fault found (λ next. take_records next xs)) (λ next. take_records next ys)
    by (Err fault) later = refl
    by (Ok next) later = later next

pub take_then : (s next after : Section) (xs ys : List Record) → take_records s xs ≡ Ok next → take_records next ys ≡ Ok after → take_records s (xs ++ ys) ≡ Ok after
take_then s next after xs ys e f = take_records-append s xs ys ∙ ap (λ r. unless_fault r (λ n. take_records n ys)) e ∙ f

pub take_one : (s next : Section) (r : Record) → take_record s r ≡ Ok next → take_records s (r ∷ []) ≡ Ok next
take_one s next r e = ap (λ f. unless_fault f (λ n. Ok n)) e

-- ---- one bidder

module _ (settings : Option Settings) (goods : List Good) (bidders : List Bidder) (some_good : 1 ≤ length goods) where
  abbrev pub with_draft : Option Draft → Section
  with_draft draft = record { settings = settings; goods = goods; bidders = bidders; draft = draft }

  module _ (b : Bidder) (is : IsBidder (length goods) b) where
    draft_at : ℕ → List OpenNode → Section
    draft_at k opened = with_draft (Some (record { bidder = front b k; opened = opened }))

    node_at : ℕ → Record
    node_at n = node_record (kind_of b.tree n) (length (children_of b.tree n)) (weight_of b.bounds.lo n) (weight_of b.bounds.hi n)

    take_as_node : (draft : Draft) (kind : NodeKind) (children : ℕ) (lo hi : ℤ) → take_record (with_draft (Some draft)) (node_record kind children lo hi) ≡ take_node_of (with_draft (Some draft)) draft kind children lo hi
    take_as_node draft (Choose least most) children lo hi = refl
    take_as_node draft (Buy good units) children lo hi = refl
    take_as_node draft (Sell good units) children lo hi = refl

    node_goes : (k : ℕ) → k < length b.tree → (opened : List OpenNode) (g : Goes (length goods) b is k opened) → take_record (draft_at k opened) (node_at k) ≡ go_on (draft_at k opened) (front b (suc k)) (Ok g.after)
    unfolding draft_at node_at
    node_goes k l opened g =
        let draft : Draft = record { bidder = front b k; opened = opened } in
        take_as_node draft (kind_of b.tree k) (length (children_of b.tree k)) (weight_of b.bounds.lo k) (weight_of b.bounds.hi k)
        ∙ cond-false _ _ _ (kind_known (length goods) (kind_of b.tree k) (is.tree.kinds k l))
        ∙ ap (λ r. unless_unmade r (go_on (draft_at k opened) (with_node (front b k) opened (kind_of b.tree k) (weight_of b.bounds.lo k) (weight_of b.bounds.hi k)) (open_after (kind_of b.tree k) (length (front b k).tree) (stated_in b.tree k) opened))) g.unrefused
        ∙ ap (λ os. go_on (draft_at k opened) (with_node (front b k) opened (kind_of b.tree k) (weight_of b.bounds.lo k) (weight_of b.bounds.hi k)) os) g.opened_are
        ∙ ap (λ x. go_on (draft_at k opened) x (Ok g.after)) g.grown

    -- after the first nodes
    record Reached (k : ℕ) : Type 0 where
      opened : List OpenNode
      draft : IsDraft (length goods) (front b k) opened (stated_in b.tree) (depth_in (length goods) b is)
      taken : take_records (with_draft None) (line.bidder b.name b.own ∷ map node_at (numbers_below k)) ≡ Ok (draft_at k opened)

    begins : Reached 0
    unfolding draft_at front depth_in
    begins = record {
      opened = [];
      draft = IsDraft-begun (length goods) b.name b.own (stated_in b.tree) is.tree.depth.0 is.tree.depth.1.0 is.own_count;
      taken = take_one (with_draft None) (draft_at 0 []) (line.bidder b.name b.own) (
          cond-false (eqb (length goods) 0) _ _ (ne_eqb (length goods) 0 (λ e. omega arith))
          ∙ cond-false (not (eqb (length b.own) (length goods))) _ _ (ap not (eq-eqb _ _ is.own_count)));
    }

    more_nodes : (k : ℕ) → map node_at (numbers_below (suc k)) ≡ map node_at (numbers_below k) ++ node_at k ∷ []
    more_nodes k = map-append node_at (numbers_below k) (k ∷ [])

    goes_on : (k : ℕ) → suc k < length b.tree → Reached k → Reached (suc k)
    unfolding draft_at
    goes_on k l at =
        let g = goes (length goods) b is k (omega arith) at.opened at.draft in
        by g g.after refl
      where
        by : (g : Goes (length goods) b is k at.opened) (after : List OpenNode) → g.after ≡ after → Reached (suc k)
        by g [] e = absurd (omega (arith, still_open (length goods) b is k l g.after g.draft, ap length e))
        by g (o ∷ outer) e =
            let grown = subst (λ os. IsDraftGrown (length goods) (front b (suc k)) os (stated_in b.tree) (depth_in (length goods) b is)) e g.draft in
            record {
              opened = o ∷ outer;
              draft = record { shaped = grown.shaped; started = λ m. omega arith; waiting = grown.waiting; closed = grown.closed; own_count = grown.own_count };
              taken = ap (λ rs. take_records (with_draft None) (line.bidder b.name b.own ∷ rs)) (more_nodes k)
                  ∙ take_then (with_draft None) (draft_at k at.opened) (draft_at (suc k) (o ∷ outer)) (line.bidder b.name b.own ∷ map node_at (numbers_below k)) (node_at k ∷ []) at.taken
                  (take_one (draft_at k at.opened) (draft_at (suc k) (o ∷ outer)) (node_at k)
                  (node_goes k (omega arith) at.opened g ∙ ap (λ os. go_on (draft_at k at.opened) (front b (suc k)) (Ok os)) e));
            }

    reached : (k : ℕ) → k < length b.tree → Reached k
    reached zero l = begins
    reached (suc k) l = goes_on k l (reached k (omega arith))

    -- and after the last one
    pub bidder_taken : bidder_refusal (length goods) bidders b ≡ None
        → take_records (with_draft None) (bidder_records b) ≡ Ok (record { settings = settings; goods = goods; bidders = bidders ++ b ∷ []; draft = None })
    unfolding draft_at node_at
    bidder_taken unrefused = by (length b.tree - 1) (omega (arith, is.tree.tree.rooted))
      where
        by : (k : ℕ) → length b.tree ≡ suc k → take_records (with_draft None) (bidder_records b) ≡ Ok (record { settings = settings; goods = goods; bidders = bidders ++ b ∷ []; draft = None })
        by k last =
            let at = reached k (omega arith) in
            let g = goes (length goods) b is k (omega arith) at.opened at.draft in
            let grown = subst (λ n. IsDraftGrown (length goods) (front b n) g.after (stated_in b.tree) (depth_in (length goods) b is)) (sym last) g.draft in
            let closed = none_open (length goods) b is g.after grown in
            let whole : front b (suc k) ≡ b = ap (front b) (sym last) ∙ whole_front (length goods) b is in
            ap (λ n. take_records (with_draft None) (line.bidder b.name b.own ∷ map node_at (numbers_below n))) last
            ∙ ap (λ rs. take_records (with_draft None) (line.bidder b.name b.own ∷ rs)) (more_nodes k)
            ∙ take_then (with_draft None) (draft_at k at.opened) _ (line.bidder b.name b.own ∷ map node_at (numbers_below k)) (node_at k ∷ []) at.taken
            (take_one (draft_at k at.opened) _ (node_at k) (
            node_goes k (omega arith) at.opened g
            ∙ ap (λ os. go_on (draft_at k at.opened) (front b (suc k)) (Ok os)) closed
            ∙ ap (λ x. add_bidder (draft_at k at.opened) x) whole
            ∙ ap (λ r. unless_refused r (record { settings = settings; goods = goods; bidders = bidders ++ b ∷ []; draft = None })) unrefused))
