use Rattle.std.proofs.Common.{ℕ, arith, length, vec_len, set, sym, subst, ap, ◌∙◌, ◌≡◌, ◌+◌, ◌++◌, ◌∷◌, [], get_or, ℤ, List}
use Rattle.std.specs.Prelude.{slice_index}
use Rattle.std.proofs.lemmas.List.{length-map}
use Rattle.ice_defs.specs.declared.Mark.TheVariants.{Must, Never}
use Rattle.ice_defs.specs.Conditions.{AreMultipliersOf}
use Rattle.ice_search_log.specs.Parts as parts
use Rattle.ice_search_log.specs.Parts.{part_at, split_at}
use Rattle.ice_search_log.specs.Searching.{IsNext}
use Rattle.ice_search_log.specs.declared.part.Part.{Part}
use Rattle.ice_search_log.specs.Code.{part_of, parts_of}
use Rattle.ice_search_log.proofs.Assembling.{part_read}
use Rattle.ice_search.specs.Nodes.{IsSplitNode}
use Rattle.ice_search.specs.Open.{AreOpened}
use Rattle.ice_search.specs.State.{IsState, state_of, LooksAt, unswept_count, child_part}
use Rattle.ice_search.proofs.Turning.{lawful, split, two_more}
use Rattle.ice_search.proofs.progress.Progress.split.Goals as goal

pub polish_children-must-requires-clause-node : goal.polish_children-must-requires-clause-node
polish_children-must-requires-clause-node c = subst (λ t. IsSplitNode t.instance.trees t.side c.args.node.bidder c.args.node.node) (sym c.self.view_is) c.requires.node

pub polish_children-must-requires-clause-from : goal.polish_children-must-requires-clause-from
polish_children-must-requires-clause-from c =
    let s = state_of c.self.inside.space c.self.inside.incumbent c.self.inside.parts.items c.self.inside.open_parts.items in
    let looks = subst (λ t. LooksAt t c.args.number) (sym c.self.view_is) c.requires.looks in
    let list = c.self.inside.parts.items in
    let part = c.index.result.now in
    let at = c.index.ensures ∙ ap (λ xs. get_or xs c.args.number part) c.in_ok-reserve.ensures.items in
    let read = part_read list c.args.number part (omega (arith, looks.there, length-map list part_of)) at in
    subst (AreMultipliersOf s.instance.exact) (ap (λ q. q.m) read ∙ sym c.copy-from.ensures) (lawful s c.self.invariant c.args.number looks)

pub open_children-requires-clause-few : goal.open_children-requires-clause-few
open_children-requires-clause-few c =
    let list = c.self.inside.parts.items in
    omega (arith, c.len-first.ensures, c.in_ok-reserve.ensures.len, c.requires.few, ap (λ t. length t.parts) c.self.view_is, length-map list part_of)

module _ (k b n : ℕ) (m₁ m₂ : List ℤ) (v₁ v₂ : ℤ) where
  abbrev grown : List Part → ℕ → List parts.Part
  grown list count =
      (set (parts_of list) k (split_at (part_at (parts_of list) k) b n count) ++ child_part k b n Must m₁ v₁ ∷ []) ++ child_part k b n Never m₂ v₂ ∷ []

  regrown : (list older : List Part) (count : ℕ) (new : List parts.Part) → new ≡ grown list count → list ≡ older → count ≡ length (parts_of older) → new ≡ grown older (length (parts_of older))
  regrown list older count new e same size = e ∙ ap (λ xs. grown xs count) same ∙ ap (grown older) size

pub invariant_of-self-2 : goal.invariant_of-self-2
invariant_of-self-2 c =
    let s = state_of c.self.inside.space c.self.inside.incumbent c.self.inside.parts.items c.self.inside.open_parts.items in
    let looks = subst (λ t. LooksAt t c.args.number) (sym c.self.view_is) c.requires.looks in
    let list = c.self.inside.parts.items in
    let node = c.args.node in
    let both = c.polish_children-must in
    let is = both.ensures.polished in
    let first = both.result.must.bounded in
    let second = both.result.never.bounded in
    let count : vec_len c.reserve.new.self ≡ length (parts_of list) = omega (arith, c.in_ok-reserve.ensures.len, length-map list part_of) in
    let pushed = regrown c.args.number node.bidder node.node first.m second.m first.key second.key c.reserve.new.self.items list (vec_len c.reserve.new.self)
    (parts_of c.push_children.new.parts.items) c.push_children.ensures c.in_ok-reserve.ensures.items count in
    let left = c.open_children.new.open_parts.items in
    let opened = subst (λ ns. AreOpened ns left c.args.place (length (parts_of list)) c.fate_of-must_fate.result c.fate_of-never_fate.result) c.in_ok-reserve-3.ensures.items
    (subst (λ j. AreOpened c.reserve-3.new.self.items left c.args.place j c.fate_of-must_fate.result c.fate_of-never_fate.result) (c.len-first.ensures ∙ count) c.open_children.ensures.opened) in
    let next = subst (λ t. IsNext t.parts t.value c.args.number) (sym c.self.view_is) c.requires.next in
    let splits = subst (λ t. IsSplitNode t.instance.trees t.side node.bidder node.node) (sym c.self.view_is) c.requires.node in
    let number = subst (λ t. c.args.number ≡ slice_index t.open_parts c.args.place) (sym c.self.view_is) c.requires.number in
    subst (λ x. IsState (record {
      instance = x;
      side = both.new.self.side;
      parts = parts_of c.push_children.new.parts.items;
      sets = both.new.incumbent.sets;
      value = both.new.incumbent.value;
      open_parts = left;
    })) (sym both.ensures.instance)
    (split s c.self.invariant c.args.number looks node.bidder node.node first.m second.m first.key second.key (parts_of c.push_children.new.parts.items) pushed
    is.middle both.new.incumbent c.args.place left c.fate_of-must_fate.result c.fate_of-never_fate.result both.new.self.side next splits
    is.must.offered is.never.offered is.must.multipliers is.must.bound is.never.multipliers is.never.bound number opened
    c.fate_of-must_fate.ensures.closed
    c.fate_of-never_fate.ensures.closed)

pub returns-clause-unswept : goal.returns-clause-unswept
returns-clause-unswept c =
    let s = state_of c.self.inside.space c.self.inside.incumbent c.self.inside.parts.items c.self.inside.open_parts.items in
    let looks = subst (λ t. LooksAt t c.args.number) (sym c.self.view_is) c.requires.looks in
    let list = c.self.inside.parts.items in
    let node = c.args.node in
    let first = c.polish_children-must.result.must.bounded in
    let second = c.polish_children-must.result.never.bounded in
    let count : vec_len c.reserve.new.self ≡ length (parts_of list) = omega (arith, c.in_ok-reserve.ensures.len, length-map list part_of) in
    let pushed = regrown c.args.number node.bidder node.node first.m second.m first.key second.key c.reserve.new.self.items list (vec_len c.reserve.new.self)
    (parts_of c.push_children.new.parts.items) c.push_children.ensures c.in_ok-reserve.ensures.items count in
    two_more s c.self.invariant c.args.number looks node.bidder node.node first.m second.m first.key second.key (parts_of c.push_children.new.parts.items) pushed
    ∙ ap (λ t. unswept_count t.parts + 2) c.self.view_is
