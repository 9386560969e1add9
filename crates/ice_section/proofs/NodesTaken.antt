-- A node is taken by the maker of the tree as the section takes it.
use Rattle.std.proofs.Common.{ℕ, zero, suc, ◌<◌, ◌≡◌, false, eqb, ltb, List, [], ◌∷◌, ◌++◌, length, reverse, ℤ, Some, None, Ok, Err, refl, arith, ap, sym, ◌∙◌, ◌⊎◌, inl, inr, subst}
use Rattle.std.proofs.lemmas.Bool.{cases_eq, and_left, and_right, ne_eqb, le-ltb, cond-false}
use Rattle.std.proofs.lemmas.List.{length-reverse, reverse-append}
use Rattle.ice_defs.specs.declared.Node.{Node}
use Rattle.ice_defs.specs.declared.NodeKind.{NodeKind}
use Rattle.ice_defs.specs.declared.NodeKind.TheVariants.{Choose, Buy, Sell}
use Rattle.ice_defs.specs.Tree.{children_of}
use Rattle.ice_defs.specs.Making.{node_refusal, close_refusal, innermost, is_complete, draft_refusal}
use Rattle.ice_defs.specs.Making as making
use Rattle.ice_defs.specs.Exchange.{Bidder}
use Rattle.ice_tree.specs.Making.{Making, IsLeaf, kind_close_refusal, draft_close_refusal}
use Rattle.ice_section.specs.Section.{maker, OpenNode, complete, with_node, open_after}
use Rattle.ice_section.specs.Kept.{open_nodes, AreKept, Drafting, drafting_of, IsDrafting, node_made, draft_after}
use Rattle.ice_section.proofs.NewNode.{last_kind, none_yet}
use Rattle.ice_section.proofs.OpenNodes.{place_of_next}
use Rattle.ice_section.proofs.Drafts.{IsDraft}
use Rattle.ice_section.proofs.Sections.{IsDrafted}
use Rattle.ice_section.proofs.KeptNodes.{length_open, parent_open, grown_open, grown_kept, begun_open}
use Rattle.ice_section.proofs.ReachedSections.{reached_stands}

-- what holds of the incomplete bidder of a section that records lead to
pub drafting_is : (d : Drafting) → IsDrafting d → (stated : ℕ → ℕ) × (depth : ℕ → ℕ) × IsDraft d.goods d.draft.bidder d.draft.opened stated depth
drafting_is d (s, reached, drafting, goods) =
    let (records, stands, ranged) = reached_stands s reached in
    let (rest, of_draft, are) = stands.told in
    let (stated, depth, is, told) = subst (λ x. IsDrafted (length s.goods) x rest) drafting of_draft in
    (stated, depth, subst (λ n. IsDraft n d.draft.bidder d.draft.opened stated depth) goods is)

module _ (name own : List ℕ) (m : Making) (lefts : List ℕ) (count : length lefts ≡ length m.draft.opened) (is : IsDrafting (drafting_of name own m lefts)) where
  abbrev bidder : Bidder
  bidder = record { name = name; own = own; tree = m.draft.tree; bounds = m.draft.bounds }

  opened : List OpenNode
  opened = open_nodes m.draft.tree 0 m.draft.opened (reverse lefts)

  matched : length m.draft.opened ≡ length (reverse lefts)
  matched = sym count ∙ sym (length-reverse lefts)

  size : length opened ≡ length m.draft.opened
  unfolding opened
  size = length_open m.draft.tree 0 m.draft.opened (reverse lefts) matched

  going : is_complete m.draft ≡ false
  unfolding opened
  going =
      let (stated, depth, draft) = drafting_is (drafting_of name own m lefts) is in
      by (cases_eq (length m.draft.opened) 0) draft.started
    where
      by : (length m.draft.opened ≡ 0) ⊎ (length m.draft.opened ≡ 0 → ⊥) → (0 < length m.draft.tree → 0 < length (open_nodes m.draft.tree 0 m.draft.opened (reverse lefts))) → is_complete m.draft ≡ false
      by (inl e) started = and_left (ltb 0 (length m.draft.tree)) (eqb (length m.draft.opened) 0) (none (cases_eq (length m.draft.tree) 0))
        where
          none : (length m.draft.tree ≡ 0) ⊎ (length m.draft.tree ≡ 0 → ⊥) → ltb 0 (length m.draft.tree) ≡ false
          none (inl f) = le-ltb 0 (length m.draft.tree) (omega arith)
          none (inr f) = absurd (omega (arith, started (omega arith), size, e))
      by (inr ne) started = and_right (ltb 0 (length m.draft.tree)) (eqb (length m.draft.opened) 0) (ne_eqb _ _ ne)

  -- the maker refuses the node as the section does
  pub refuses : (kind : NodeKind) (lo hi : ℤ)
      → draft_refusal m.goods m.draft kind lo hi ≡ node_refusal m.goods (length m.draft.tree) (suc (length (open_nodes m.draft.tree 0 m.draft.opened (reverse lefts)))) kind lo hi
  unfolding opened
  refuses kind lo hi = cond-false (is_complete m.draft) _ _ going ∙ ap (λ n. node_refusal m.goods (length m.draft.tree) (suc n) kind lo hi) (sym size)

  pub refused : (kind : NodeKind) (children : ℕ) (lo hi : ℤ) (number : ℕ) → draft_refusal m.goods m.draft kind lo hi ≡ Some number → draft_after (drafting_of name own m lefts) kind children lo hi ≡ Err (maker number)
  refused kind children lo hi number e =
      ap (λ r. node_made r (with_node bidder (open_nodes m.draft.tree 0 m.draft.opened (reverse lefts)) kind lo hi) (open_after kind (length m.draft.tree) children (open_nodes m.draft.tree 0 m.draft.opened (reverse lefts)))) (sym (refuses kind lo hi) ∙ e)

  -- the node goes under the innermost open one
  grown_bidder : (kind : NodeKind) (lo hi : ℤ) → with_node bidder (open_nodes m.draft.tree 0 m.draft.opened (reverse lefts)) kind lo hi
      ≡ record { name = name; own = own; tree = (making.with_node m.draft kind lo hi).tree; bounds = (making.with_node m.draft kind lo hi).bounds }
  grown_bidder kind lo hi =
      ap (λ p. record { name = name; own = own; tree = m.draft.tree ++ record { kind = kind; parent = p } ∷ []; bounds = record { lo = m.draft.bounds.lo ++ lo ∷ []; hi = m.draft.bounds.hi ++ hi ∷ [] } })
      (parent_open m.draft.tree m.draft.opened (reverse lefts) matched)

  -- and the maker has the same open nodes
  grown_opened : (kind : NodeKind) → open_nodes (m.draft.tree ++ record { kind = kind; parent = innermost m.draft.opened } ∷ []) 1 m.draft.opened (reverse lefts) ≡ open_nodes m.draft.tree 0 m.draft.opened (reverse lefts)
  grown_opened kind =
      let (stated, depth, draft) = drafting_is (drafting_of name own m lefts) is in
      grown_open m.draft.tree (record { kind = kind; parent = innermost m.draft.opened }) stated depth m.draft.opened (reverse lefts) refl draft.waiting

  pub leaf_kept : (kind : NodeKind) (lo hi : ℤ) → AreKept (making.with_node m.draft kind lo hi).tree m.draft.opened (reverse lefts)
  leaf_kept kind lo hi =
      let (stated, depth, draft) = drafting_is (drafting_of name own m lefts) is in
      grown_kept m.draft.tree (record { kind = kind; parent = innermost m.draft.opened }) stated depth m.draft.opened (reverse lefts) draft.waiting matched

  after_leaf : (kind : NodeKind) (children : ℕ) → IsLeaf kind → (os : List OpenNode) → open_after kind (length m.draft.tree) children os ≡ complete os
  after_leaf (Buy good units) children leaf os = refl
  after_leaf (Sell good units) children leaf os = refl
  after_leaf (Choose least most) children leaf os = absurd leaf

  leaf_after : (kind : NodeKind) (children : ℕ) (lo hi : ℤ) → IsLeaf kind → draft_refusal m.goods m.draft kind lo hi ≡ None
      → draft_after (drafting_of name own m lefts) kind children lo hi
      ≡ node_made None (record { name = name; own = own; tree = (making.with_node m.draft kind lo hi).tree; bounds = (making.with_node m.draft kind lo hi).bounds })
      (complete (open_nodes (making.with_node m.draft kind lo hi).tree 1 m.draft.opened (reverse lefts)))
  leaf_after kind children lo hi leaf e =
      let os = open_nodes m.draft.tree 0 m.draft.opened (reverse lefts) in
      ap (λ r. node_made r (with_node bidder os kind lo hi) (open_after kind (length m.draft.tree) children os)) (sym (refuses kind lo hi) ∙ e)
      ∙ ap (λ b. node_made None b (open_after kind (length m.draft.tree) children os)) (grown_bidder kind lo hi)
      ∙ ap (node_made None (record { name = name; own = own; tree = (making.with_node m.draft kind lo hi).tree; bounds = (making.with_node m.draft kind lo hi).bounds }))
      (after_leaf kind children leaf os ∙ ap complete (sym (grown_opened kind)))

  pub leaf_taken : (kind : NodeKind) (children : ℕ) (lo hi : ℤ) (m' after : Making) (lefts' : List ℕ) → IsLeaf kind → draft_refusal m.goods m.draft kind lo hi ≡ None
      → m' ≡ record m { draft = making.with_node m.draft kind lo hi } → after ≡ record m' { draft = record m'.draft { opened = after.draft.opened } }
      → complete (open_nodes m'.draft.tree 1 m'.draft.opened (reverse lefts)) ≡ Ok (open_nodes m'.draft.tree 0 after.draft.opened (reverse lefts'))
      → (m.goods ≡ after.goods) × (draft_after (drafting_of name own m lefts) kind children lo hi ≡ Ok (drafting_of name own after lefts').draft)
  leaf_taken kind children lo hi m' after lefts' leaf e made kept done =
      let tree : after.draft.tree ≡ (making.with_node m.draft kind lo hi).tree = ap (λ x. x.draft.tree) kept ∙ ap (λ x. x.draft.tree) made in
      let bounds : after.draft.bounds ≡ (making.with_node m.draft kind lo hi).bounds = ap (λ x. x.draft.bounds) kept ∙ ap (λ x. x.draft.bounds) made in
      let goods : m.goods ≡ after.goods = sym (ap (λ x. x.goods) kept ∙ ap (λ x. x.goods) made) in
      let ends : complete (open_nodes (making.with_node m.draft kind lo hi).tree 1 m.draft.opened (reverse lefts)) ≡ Ok (open_nodes after.draft.tree 0 after.draft.opened (reverse lefts')) =
      ap (λ x. complete (open_nodes x.draft.tree 1 x.draft.opened (reverse lefts))) (sym made) ∙ done ∙ ap (λ t. Ok (open_nodes t 0 after.draft.opened (reverse lefts'))) (sym (ap (λ x. x.draft.tree) kept)) in (
        goods,
        leaf_after kind children lo hi leaf e
            ∙ ap (node_made None (record { name = name; own = own; tree = (making.with_node m.draft kind lo hi).tree; bounds = (making.with_node m.draft kind lo hi).bounds })) ends
            ∙ ap (λ t. Ok (record { bidder = record { name = name; own = own; tree = t; bounds = (making.with_node m.draft kind lo hi).bounds }; opened = open_nodes after.draft.tree 0 after.draft.opened (reverse lefts') })) (sym tree)
            ∙ ap (λ bs. Ok (record { bidder = record { name = name; own = own; tree = after.draft.tree; bounds = bs }; opened = open_nodes after.draft.tree 0 after.draft.opened (reverse lefts') })) (sym bounds),
      )

  pub leaf_refused : (kind : NodeKind) (children : ℕ) (lo hi : ℤ) (m' : Making) (number : ℕ) → IsLeaf kind → draft_refusal m.goods m.draft kind lo hi ≡ None
      → m' ≡ record m { draft = making.with_node m.draft kind lo hi }
      → complete (open_nodes m'.draft.tree 1 m'.draft.opened (reverse lefts)) ≡ Err (maker number)
      → draft_after (drafting_of name own m lefts) kind children lo hi ≡ Err (maker number)
  leaf_refused kind children lo hi m' number leaf e made done =
      leaf_after kind children lo hi leaf e
      ∙ ap (node_made None (record { name = name; own = own; tree = (making.with_node m.draft kind lo hi).tree; bounds = (making.with_node m.draft kind lo hi).bounds }))
      (ap (λ x. complete (open_nodes x.draft.tree 1 x.draft.opened (reverse lefts))) (sym made) ∙ done)

  -- ---- a choose node

  -- it has no child yet
  childless : (kind : NodeKind) (lo hi : ℤ) → children_of (m.draft.tree ++ record { kind = kind; parent = innermost m.draft.opened } ∷ []) (length m.draft.tree) ≡ []
  childless kind lo hi =
      let (stated, depth, draft) = drafting_is (drafting_of name own m lefts) is in
      let place = place_of_next m.goods m.draft.tree m.draft.bounds stated depth (open_nodes m.draft.tree 0 m.draft.opened (reverse lefts)) draft.shaped draft.started draft.waiting in
      let p = parent_open m.draft.tree m.draft.opened (reverse lefts) matched in
      subst (λ q. children_of (m.draft.tree ++ record { kind = kind; parent = q } ∷ []) (length m.draft.tree) ≡ []) p
      (none_yet m.goods m.draft.tree m.draft.bounds depth draft.shaped _ _ place kind lo hi (length m.draft.tree) refl)

  choose_after : (least most children : ℕ) (lo hi : ℤ) → draft_refusal m.goods m.draft (Choose least most) lo hi ≡ None
      → draft_after (drafting_of name own m lefts) (Choose least most) children lo hi
      ≡ node_made None (record { name = name; own = own; tree = (making.with_node m.draft (Choose least most) lo hi).tree; bounds = (making.with_node m.draft (Choose least most) lo hi).bounds })
      (open_after (Choose least most) (length m.draft.tree) children (open_nodes m.draft.tree 0 m.draft.opened (reverse lefts)))
  choose_after least most children lo hi e =
      let os = open_nodes m.draft.tree 0 m.draft.opened (reverse lefts) in
      ap (λ r. node_made r (with_node bidder os (Choose least most) lo hi) (open_after (Choose least most) (length m.draft.tree) children os)) (sym (refuses (Choose least most) lo hi) ∙ e)
      ∙ ap (λ b. node_made None b (open_after (Choose least most) (length m.draft.tree) children os)) (grown_bidder (Choose least most) lo hi)

  pub childless_refused : (least most : ℕ) (lo hi : ℤ) → draft_refusal m.goods m.draft (Choose least most) lo hi ≡ None → draft_after (drafting_of name own m lefts) (Choose least most) 0 lo hi ≡ Err (maker 20)
  childless_refused least most lo hi e = choose_after least most 0 lo hi e

  pub choose_taken : (least most children : ℕ) (lo hi : ℤ) (after : Making) (lefts' : List ℕ) → 0 < children → draft_refusal m.goods m.draft (Choose least most) lo hi ≡ None
      → after ≡ record m { draft = making.with_open m.draft (Choose least most) lo hi } → lefts' ≡ lefts ++ children ∷ []
      → (m.goods ≡ after.goods) × (draft_after (drafting_of name own m lefts) (Choose least most) children lo hi ≡ Ok (drafting_of name own after lefts').draft)
  choose_taken least most children lo hi after lefts' some e made more =
      let x : Node = record { kind = Choose least most; parent = innermost m.draft.opened } in
      let t = m.draft.tree ++ x ∷ [] in
      let none = childless (Choose least most) lo hi in
      let now : open_nodes t 0 (length m.draft.tree ∷ m.draft.opened) (reverse (lefts ++ children ∷ []))
      ≡ record { number = length m.draft.tree; least = least; most = most; children = children; left = children } ∷ open_nodes m.draft.tree 0 m.draft.opened (reverse lefts) =
      ap (open_nodes t 0 (length m.draft.tree ∷ m.draft.opened)) (reverse-append lefts (children ∷ []))
      ∙ ap (λ o. o ∷ open_nodes t 1 m.draft.opened (reverse lefts)) (begun_open t (length m.draft.tree) least most children (last_kind m.draft.tree x (length m.draft.tree) refl) none)
      ∙ ap (λ os. record { number = length m.draft.tree; least = least; most = most; children = children; left = children } ∷ os) (grown_opened (Choose least most)) in (
        ap (λ y. y.goods) (sym made),
        choose_after least most children lo hi e
            ∙ ap (node_made None (record { name = name; own = own; tree = t; bounds = (making.with_node m.draft (Choose least most) lo hi).bounds })) (by children some ∙ ap Ok (sym now))
            ∙ ap (λ ls. Ok (drafting_of name own (record m { draft = making.with_open m.draft (Choose least most) lo hi }) ls).draft) (sym more)
            ∙ ap (λ y. Ok (drafting_of name own y lefts').draft) (sym made),
      )
    where
      by : (c : ℕ) → 0 < c → open_after (Choose least most) (length m.draft.tree) c (open_nodes m.draft.tree 0 m.draft.opened (reverse lefts))
          ≡ Ok (record { number = length m.draft.tree; least = least; most = most; children = c; left = c } ∷ open_nodes m.draft.tree 0 m.draft.opened (reverse lefts))
      by zero l = absurd (omega arith)
      by (suc c) l = refl

  -- which can't be closed without a child
  pub childless_close : (least most : ℕ) (lo hi : ℤ) (after : Making) → after ≡ record m { draft = making.with_open m.draft (Choose least most) lo hi } → draft_close_refusal after.draft ≡ Some 20
  childless_close least most lo hi after made =
      let x : Node = record { kind = Choose least most; parent = innermost m.draft.opened } in
      let t = m.draft.tree ++ x ∷ [] in
      ap (λ y. draft_close_refusal y.draft) made
      ∙ cond-false (eqb (length (length m.draft.tree ∷ m.draft.opened)) 0) _ _ (ne_eqb (length (length m.draft.tree ∷ m.draft.opened)) 0 (λ e. omega arith))
      ∙ ap (λ k. kind_close_refusal k (length (children_of t (length m.draft.tree)))) (last_kind m.draft.tree x (length m.draft.tree) refl)
      ∙ ap (λ cs. close_refusal least most (length cs)) (childless (Choose least most) lo hi)
