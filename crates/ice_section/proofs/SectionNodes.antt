-- A section takes a node as its two makers do.
use Rattle.std.proofs.Common.{ℕ, suc, ◌<◌, ◌≤◌, ◌≡◌, ◌≢◌, false, List, [], ◌∷◌, length, ℤ, Option, Some, None, Result, Ok, Err, refl, arith, ap, sym, ◌∙◌, subst}
use Rattle.std.specs.Prelude.{IfSome, OnOk, OnErr}
use Rattle.std.specs.List.{AllByRecursion}
use Rattle.std.proofs.lemmas.Bool.{cond-false}
use Rattle.std.proofs.lemmas.List.{length_push}
use Rattle.ice_defs.specs.declared.NodeKind.{NodeKind}
use Rattle.ice_defs.specs.declared.NodeKind.TheVariants.{Choose, Buy, Sell}
use Rattle.ice_defs.specs.Making.{node_refusal, bidder_refusal}
use Rattle.ice_defs.specs.Exchange.{Bidder, Exchange}
use Rattle.ice_trade.specs.Parts.{with_bidder}
use Rattle.ice_trade.specs.Fault.{make_fault_number}
use Rattle.ice_journal.specs.Ranges.{IsRecord}
use Rattle.ice_journal.specs.Nodes.{node_record}
use Rattle.ice_section.specs.declared.faults.SectionFault.{SectionFault as Fault}
use Rattle.ice_section.specs.declared.faults.SectionFault.TheVariants as fault
use Rattle.ice_section.specs.Section.{SectionFault, maker, OpenNode, Draft, Section, unless_refused, parent_under, with_node, add_bidder, go_on, open_after, names_no_good, unless_unmade, take_node_at, take_node, take_record}
use Rattle.ice_section.specs.Refusal.{IsRefusal, IsMakerRefusal}
use Rattle.ice_section.specs.Kept.{Drafting, section_from, IsReached, IsDrafting, IsHeld, node_made, draft_after}
use Rattle.ice_section.proofs.Ranges.{IsDraftOwned}
use Rattle.ice_section.proofs.ReachedSections.{reached_more, reached_stands, reached_without}
use Rattle.ice_section.proofs.NodesTaken.{drafting_is}

-- ---- in the words of the incomplete bidder

gone_on : Section → Result Draft SectionFault → Result Section SectionFault
gone_on s (Err fault) = Err fault
gone_on s (Ok d) = go_on s d.bidder (Ok d.opened)

by_parts : (s : Section) (refusal : Option ℕ) (b : Bidder) (opened : Result (List OpenNode) SectionFault) → unless_unmade refusal (go_on s b opened) ≡ gone_on s (node_made refusal b opened)
unfolding gone_on
by_parts s (Some number) b opened = refl
by_parts s None b (Err fault) = refl
by_parts s None b (Ok opened) = refl

take_as_node : (s : Section) (kind : NodeKind) (children : ℕ) (lo hi : ℤ) → take_record s (node_record kind children lo hi) ≡ take_node s kind children lo hi
take_as_node s (Choose least most) children lo hi = refl
take_as_node s (Buy good units) children lo hi = by s.draft
  where
    by : (draft : Option Draft) → take_node_at s draft (Buy good units) 0 lo hi ≡ take_node_at s draft (Buy good units) children lo hi
    by None = refl
    by (Some d) = refl
take_as_node s (Sell good units) children lo hi = by s.draft
  where
    by : (draft : Option Draft) → take_node_at s draft (Sell good units) 0 lo hi ≡ take_node_at s draft (Sell good units) children lo hi
    by None = refl
    by (Some d) = refl

draft_there : (made : Option Exchange) (d : Drafting) → (section_from made (Some d)).draft ≡ Some d.draft
draft_there None d = refl
draft_there (Some ex) d = refl

made_parts : (refusal : Option ℕ) (b : Bidder) (opened : Result (List OpenNode) SectionFault) (d : Draft) → node_made refusal b opened ≡ Ok d → d.bidder ≡ b
made_parts (Some number) b opened d e = absurd cc
made_parts None b (Err fault) d e = absurd cc
made_parts None b (Ok os) d e = let same : record { bidder = b; opened = os } ≡ d = cc in ap (λ x. x.bidder) (sym same)

module _ (made : Option Exchange) (d : Drafting) (held : IsHeld made (Some d)) where
  abbrev now : Section
  now = section_from made (Some d)

  pub is_drafting : IsDrafting d
  is_drafting = (section_from made (Some d), held.reached, draft_there made d, held.counted)

  -- the incomplete bidder is given up
  pub held_without : IsHeld made None
  held_without = by made (reached_without (section_from made (Some d)) held.reached)
    where
      by : (m : Option Exchange) → IsReached (record (section_from m (Some d)) { draft = None }) → IsHeld m None
      by None r = record { reached = r; counted = tt }
      by (Some ex) r = record { reached = r; counted = tt }

  module _ (kind : NodeKind) (children : ℕ) (lo hi : ℤ) (known : names_no_good kind (length (section_from made (Some d)).goods) ≡ false) where
    taken_by : take_node (section_from made (Some d)) kind children lo hi ≡ gone_on (section_from made (Some d)) (draft_after d kind children lo hi)
    taken_by =
        ap (λ draft. take_node_at (section_from made (Some d)) draft kind children lo hi) (draft_there made d)
        ∙ cond-false (names_no_good kind (length (section_from made (Some d)).goods)) _ _ known
        ∙ ap (λ goods. unless_unmade (node_refusal goods (length d.draft.bidder.tree) (suc (length d.draft.opened)) kind lo hi)
        (go_on (section_from made (Some d)) (with_node d.draft.bidder d.draft.opened kind lo hi) (open_after kind (length d.draft.bidder.tree) children d.draft.opened))) held.counted
        ∙ by_parts (section_from made (Some d)) (node_refusal d.goods (length d.draft.bidder.tree) (suc (length d.draft.opened)) kind lo hi) (with_node d.draft.bidder d.draft.opened kind lo hi)
        (open_after kind (length d.draft.bidder.tree) children d.draft.opened)

    pub node_refused : (number : ℕ) → draft_after d kind children lo hi ≡ Err (maker number) → take_node (section_from made (Some d)) kind children lo hi ≡ Err (maker number)
    unfolding gone_on
    node_refused number e = taken_by ∙ ap (gone_on (section_from made (Some d))) e

    module _ (next : Drafting) (goods : d.goods ≡ next.goods) (e : draft_after d kind children lo hi ≡ Ok next.draft) where
      -- a node is open
      pub node_taken : length next.draft.opened ≢ 0 → take_node (section_from made (Some d)) kind children lo hi ≡ Ok (section_from made (Some next))
      unfolding gone_on
      node_taken some = taken_by ∙ ap (gone_on (section_from made (Some d))) e ∙ by made next.draft.opened refl some
        where
          by : (m : Option Exchange) (opened : List OpenNode) → opened ≡ next.draft.opened → length opened ≢ 0 → go_on (section_from m (Some d)) next.draft.bidder (Ok next.draft.opened) ≡ Ok (section_from m (Some next))
          by m [] same some = absurd (some refl)
          by None (o ∷ outer) same some = ap (λ os. go_on (section_from None (Some d)) next.draft.bidder (Ok os)) (sym same) ∙ ap (λ os. Ok (record (section_from None (Some d)) { draft = Some (record { bidder = next.draft.bidder; opened = os }) })) same
          by (Some ex) (o ∷ outer) same some = ap (λ os. go_on (section_from (Some ex) (Some d)) next.draft.bidder (Ok os)) (sym same) ∙ ap (λ os. Ok (record (section_from (Some ex) (Some d)) { draft = Some (record { bidder = next.draft.bidder; opened = os }) })) same

      pub held_node : IsRecord (node_record kind children lo hi) → length next.draft.opened ≢ 0 → IsHeld made (Some next)
      held_node is some = record {
        reached = reached_more (section_from made (Some d)) (section_from made (Some next)) (node_record kind children lo hi) held.reached is (take_as_node (section_from made (Some d)) kind children lo hi ∙ node_taken some);
        counted = by made held.counted;
      }
        where
          by : (m : Option Exchange) → length (section_from m (Some d)).goods ≡ d.goods → length (section_from m (Some next)).goods ≡ next.goods
          by None same = same ∙ goods
          by (Some ex) same = same ∙ goods

      -- none is: the bidder is complete
      grown_bidder : next.draft.bidder ≡ with_node d.draft.bidder d.draft.opened kind lo hi
      grown_bidder = made_parts (node_refusal d.goods (length d.draft.bidder.tree) (suc (length d.draft.opened)) kind lo hi) (with_node d.draft.bidder d.draft.opened kind lo hi)
          (open_after kind (length d.draft.bidder.tree) children d.draft.opened) next.draft e

      pub tree_there : 0 < length next.draft.bidder.tree
      tree_there = omega (arith, ap (λ b. length b.tree) grown_bidder, length_push d.draft.bidder.tree (record { kind = kind; parent = parent_under d.draft.opened }))

      pub own_counted : length next.draft.bidder.own ≡ next.goods
      own_counted = let (stated, depth, draft) = drafting_is d is_drafting in ap (λ b. length b.own) grown_bidder ∙ draft.own_count ∙ goods

      pub own_ranged : AllByRecursion (λ amount. amount ≤ 1000000) next.draft.bidder.own
      own_ranged =
          let (records, stands, ranged) = reached_stands (section_from made (Some d)) held.reached in
          subst (λ b. AllByRecursion (λ amount. amount ≤ 1000000) b.own) (sym grown_bidder) (subst IsDraftOwned (draft_there made d) ranged.drafted)

      last_taken : (ex : Exchange) → made ≡ Some ex → next.draft.opened ≡ [] → bidder_refusal (length ex.goods) ex.bidders next.draft.bidder ≡ None
          → take_node (section_from made (Some d)) kind children lo hi ≡ Ok (section_from (Some (with_bidder ex next.draft.bidder)) None)
      unfolding gone_on
      last_taken ex is none unrefused =
          taken_by ∙ ap (gone_on (section_from made (Some d))) e ∙ ap (λ os. go_on (section_from made (Some d)) next.draft.bidder (Ok os)) none
          ∙ ap (λ m. add_bidder (section_from m (Some d)) next.draft.bidder) is
          ∙ ap (λ r. unless_refused r (section_from (Some (with_bidder ex next.draft.bidder)) None)) unrefused

      last_refused : (ex : Exchange) → made ≡ Some ex → next.draft.opened ≡ [] → (number : ℕ) → bidder_refusal (length ex.goods) ex.bidders next.draft.bidder ≡ Some number
          → take_node (section_from made (Some d)) kind children lo hi ≡ Err (maker number)
      unfolding gone_on
      last_refused ex is none number refused =
          taken_by ∙ ap (gone_on (section_from made (Some d))) e ∙ ap (λ os. go_on (section_from made (Some d)) next.draft.bidder (Ok os)) none
          ∙ ap (λ m. add_bidder (section_from m (Some d)) next.draft.bidder) is
          ∙ ap (λ r. unless_refused r (section_from (Some (with_bidder ex next.draft.bidder)) None)) refused

      module _ (ex after : Exchange) (is : made ≡ Some ex) (none : next.draft.opened ≡ []) where
        pub whole_taken : (bidder_refusal (length ex.goods) ex.bidders next.draft.bidder ≡ None) × (after ≡ with_bidder ex next.draft.bidder)
            → take_node (section_from made (Some d)) kind children lo hi ≡ Ok (section_from (Some after) None)
        whole_taken (unrefused, same) = last_taken ex is none unrefused ∙ ap (λ x. Ok (section_from (Some x) None)) (sym same)

        pub whole_refused : (f : Fault) → IsMakerRefusal (bidder_refusal (length ex.goods) ex.bidders next.draft.bidder) f → IsRefusal (take_node (section_from made (Some d)) kind children lo hi) f
        whole_refused fault.Order r = absurd r
        whole_refused fault.Count r = absurd r
        whole_refused fault.NoGood r = absurd r
        whole_refused (fault.Tree refusal) r = absurd r
        whole_refused (fault.Make refusal) r = by (make_fault_number refusal) r.0
          where
            by : (o : Option ℕ) → bidder_refusal (length ex.goods) ex.bidders next.draft.bidder ≡ o → IfSome o (λ number. take_node (section_from made (Some d)) kind children lo hi ≡ Err (maker number))
            by None e = tt
            by (Some number) e = last_refused ex is none number e
        whole_refused fault.NoMemory r = absurd r

        pub held_whole : {X E : Type 0} (r : Result X E) → IsRecord (node_record kind children lo hi)
            → OnOk r ((bidder_refusal (length ex.goods) ex.bidders next.draft.bidder ≡ None) × (after ≡ with_bidder ex next.draft.bidder)) → OnErr r (after ≡ ex) → IsHeld (Some after) None
        held_whole (Ok x) record_is done same = record {
          reached = reached_more (section_from made (Some d)) (section_from (Some after) None) (node_record kind children lo hi) held.reached record_is (take_as_node (section_from made (Some d)) kind children lo hi ∙ whole_taken done);
          counted = tt;
        }
        held_whole (Err f) record_is done same = subst (λ x. IsHeld (Some x) None) (sym same) (subst (λ m. IsHeld m None) is held_without)
