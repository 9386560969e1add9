-- The marks of a part are those of the part above it and
-- its own, and its steps are those of its children.
use Rattle.std.proofs.Common.{ℕ, zero, suc, ◌<◌, ◌≤◌, ◌≡◌, Bool, List, [], ◌∷◌, ◌++◌, length, set, refl, arith, ap, sym, ◌∙◌, subst, ◌⊎◌, inl, inr, append_assoc, get_or-set_same, get_or-set_other}
use Rattle.std.proofs.lemmas.Bool.{cases_lt, cases_eq}
use Rattle.std.proofs.lemmas.List.{reverse-append, set_past}
use Rattle.ice_defs.specs.declared.Mark.TheVariants.{Free, Must, Never}
use Rattle.ice_defs.specs.Set.{NodeSet, has}
use Rattle.ice_defs.specs.Fixing.{Agrees, mark_of}
use Rattle.ice_defs.specs.Trade.{tree_of, set_of, fixing_of, MeetsAll}
use Rattle.ice_defs.specs.Bound.{IsOpen}
use Rattle.ice_defs.specs.Derived.{goods_alone, with_derived}
use Rattle.ice_defs.specs.Steps.{branch, with_mark}
use Rattle.ice_defs.specs.Log.{IsFreeNode}
use Rattle.ice_defs.specs.Conditions.{AreFixingsOf}
use Rattle.ice_bound.proofs.Fixings.{marked_fixings}
use Rattle.ice_search_log.specs.Parts.{Part, part_at, side_at, steps_from, steps_of, log_of, steps_along, steps_left}
use Rattle.ice_search_log.specs.Searching.{IsSplit, IsChild}
use Rattle.ice_search_log.specs.Laws.{SideIsBelow, SideIsStart, SidesAreFixings, BoundIsLive, MarkedIsLive, OpenSetsMeet, MarkedIsMet, MeetsStart, ChildrenAreLater, AllIsLeft, LeafIsNext, BranchIsNext}
use Rattle.ice_search_log.proofs.Sides.{side_at-root}
use Rattle.ice_search_log.proofs.Written.{split_unless-Some, steps_of-more}
use Rattle.ice_search_log.proofs.Covering.{later}

pub side_is_below : SideIsBelow
side_is_below means ts exact ws start first parts j put is after l e = by (subst (IsChild ts exact ws start first parts j) e (is.child j after l))
  where
    by : IsChild ts exact ws start first parts j put
        → (put.above < j) × (side_at start parts j ≡ with_mark (side_at start parts put.above) put.bidder put.node put.mark) × IsFreeNode ts (side_at start parts put.above) put.bidder put.node
    by child =
        let earlier : put.above < j = child.earlier in
        let split = is.splits put.above child.split (omega (arith, earlier, l)) child.has in (
          earlier,
          side split child.one ∙ ap (λ b. with_mark (side_at start parts put.above) b child.split.node put.mark) (sym child.bidder) ∙ ap (λ n. with_mark (side_at start parts put.above) put.bidder n put.mark) (sym child.node),
          subst (λ n. IsFreeNode ts (side_at start parts put.above) put.bidder n) (sym child.node) (subst (λ b. IsFreeNode ts (side_at start parts put.above) b child.split.node) (sym child.bidder) split.free),
        )
      where
        side : IsSplit ts exact ws start first parts put.above child.split → ((j ≡ child.split.must) × (put.mark ≡ Must)) ⊎ ((j ≡ suc child.split.must) × (put.mark ≡ Never))
            → side_at start parts j ≡ with_mark (side_at start parts put.above) child.split.bidder child.split.node put.mark
        side split (inl is) = ap (side_at start parts) is.0 ∙ split.must ∙ ap (with_mark (side_at start parts put.above) child.split.bidder child.split.node) (sym is.1)
        side split (inr is) = ap (side_at start parts) is.0 ∙ split.never ∙ ap (with_mark (side_at start parts put.above) child.split.bidder child.split.node) (sym is.1)

pub side_is_start : SideIsStart
side_is_start means ts exact ws start first parts is = side_at-root start parts is.root

pub sides_are_fixings : SidesAreFixings
sides_are_fixings means ts exact ws start first parts j is are l = up_to (suc j) j (omega arith) l
  where
    up_to : (n j : ℕ) → j < n → j < length parts → AreFixingsOf ts (side_at start parts j)
    up_to zero j h l = absurd (omega (arith, h))
    up_to (suc n) zero h l = subst (AreFixingsOf ts) (sym (side_at-root start parts is.root)) are
    up_to (suc n) (suc j) h l =
        let put = (part_at parts (suc j)).put in
        let below = side_is_below means ts exact ws start first parts (suc j) put is (omega arith) l refl in
        let earlier : put.above < suc j = below.0 in
        subst (AreFixingsOf ts) (sym below.1) (marked_fixings ts (side_at start parts put.above) put.bidder put.node put.mark (up_to n put.above (omega (arith, h, earlier)) (omega (arith, l, earlier))))

pub bound_is_live : BoundIsLive
bound_is_live goods_alone ts exact ws m side v (total, (best, greatest, is), low, high) b l = let (s, open_set, e) = (greatest b l).attained in (s, open_set)
bound_is_live (with_derived ds) ts exact ws m side v (total, (best, greatest, is), low, high) b l = let (s, open_set, e) = (greatest b l).attained in (s, open_set)

-- ---- meeting

-- a mark on a node that was free takes nothing away
pub meets_less : MarkedIsMet
meets_less a side b n m free meets c h k i = by (cases_eq c b) (cases_eq k n)
  where
    by : (c ≡ b) ⊎ (c ≡ b → ⊥) → (k ≡ n) ⊎ (k ≡ n → ⊥) → Agrees (mark_of (fixing_of side c) k) (has (set_of a c) k)
    by (inr ne) node = subst (λ x. Agrees (mark_of x k) (has (set_of a c) k)) (get_or-set_other side b c (set (fixing_of side b) n m) [] ne) (meets c h k i)
    by (inl e) (inl e') =
        subst (λ y. Agrees y (has (set_of a c) k)) (sym (ap (λ x. mark_of x k) (ap (fixing_of side) e) ∙ ap (mark_of (fixing_of side b)) e' ∙ free)) tt
    by (inl e) (inr ne) = subst (λ y. Agrees y (has (set_of a c) k)) (same (cases_lt b (length side))) (meets c h k i)
      where
        same : (b < length side) ⊎ (length side ≤ b) → mark_of (fixing_of (with_mark side b n m) c) k ≡ mark_of (fixing_of side c) k
        same (inl l) =
            ap (λ x. mark_of x k) (ap (fixing_of (with_mark side b n m)) e ∙ get_or-set_same side b (set (fixing_of side b) n m) [] l) ∙ get_or-set_other (fixing_of side b) n k m Free ne
            ∙ ap (λ x. mark_of x k) (sym (ap (fixing_of side) e))
        same (inr past) = ap (λ xs. mark_of (fixing_of xs c) k) (set_past side b (set (fixing_of side b) n m) past)

pub meets_start : MeetsStart
meets_start means ts exact ws start first parts k a is l meets = up_to (suc k) k (omega arith) l meets
  where
    up_to : (n j : ℕ) → j < n → j < length parts → MeetsAll a (side_at start parts j) → MeetsAll a start
    up_to zero j h l met = absurd (omega (arith, h))
    up_to (suc n) zero h l met = subst (MeetsAll a) (side_at-root start parts is.root) met
    up_to (suc n) (suc j) h l met =
        let put = (part_at parts (suc j)).put in
        let below = side_is_below means ts exact ws start first parts (suc j) put is (omega arith) l refl in
        let earlier : put.above < suc j = below.0 in
        up_to n put.above (omega (arith, h, earlier)) (omega (arith, l, earlier))
        (meets_less a (side_at start parts put.above) put.bidder put.node put.mark (below.2).2 (subst (MeetsAll a) below.1 met))

pub marked_is_live : MarkedIsLive
marked_is_live ts side b n m s live l is c h = by (cases_eq c b)
  where
    by : (c ≡ b) ⊎ (c ≡ b → ⊥) → (t : NodeSet) × IsOpen (tree_of ts c) (fixing_of (with_mark side b n m) c) t
    by (inl e) = (s, subst (λ j. IsOpen (tree_of ts j) (fixing_of (with_mark side b n m) j) s) (sym e) is)
    by (inr ne) = let (t, open_set) = live c h in (t, subst (λ x. IsOpen (tree_of ts c) x t) (sym (get_or-set_other side b c (set (fixing_of side b) n m) [] ne)) open_set)

pub open_sets_meet : OpenSetsMeet
open_sets_meet ts exact side a are = (
  λ b h. (are.each b (omega (arith, h, are.same_length))).1,
  λ covered. record { same_length = are.same_length; satisfied = λ b l. (are.each b l).0; balanced = covered },
)

-- ---- a stack

steps_left-push : (stops : Part → Bool) (parts : List Part) (stack : List ℕ) (k : ℕ) → steps_left stops parts (stack ++ k ∷ []) ≡ steps_of stops parts k ++ steps_left stops parts stack
steps_left-push stops parts stack k = ap (steps_along stops parts) (reverse-append stack (k ∷ []))

append_none : {X : Type 0} (xs : List X) → xs ++ [] ≡ xs
append_none [] = refl
append_none (x ∷ xs) = ap (λ ys. x ∷ ys) (append_none xs)

pub all_is_left : AllIsLeft
all_is_left stops parts = append_none (log_of stops parts)

pub leaf_is_next : LeafIsNext
leaf_is_next parts stops stack k are l e =
    steps_left-push stops parts stack k
    ∙ ap (λ log. log ++ steps_left stops parts stack) (steps_of-more stops parts are k l ∙ ap (λ o. steps_from (part_at parts k).m o (steps_of stops parts)) e)

pub branch_is_next : BranchIsNext
branch_is_next parts stops stack k s are l e = (
  (are k s l (split_unless-Some (stops (part_at parts k)) (part_at parts k).split s e)).1,
  steps_left-push stops parts stack k
      ∙ ap (λ log. log ++ steps_left stops parts stack) (steps_of-more stops parts are k l ∙ ap (λ o. steps_from (part_at parts k).m o (steps_of stops parts)) e)
      ∙ ap (λ log. branch s.bidder s.node ∷ log) (append_assoc (steps_of stops parts s.must) (steps_of stops parts (suc s.must)) (steps_left stops parts stack)
      ∙ ap (λ log. steps_of stops parts s.must ++ log) (sym (steps_left-push stops parts stack (suc s.must)))
      ∙ sym (steps_left-push stops parts (stack ++ suc s.must ∷ []) s.must)),
)

pub children_are_later : ChildrenAreLater
children_are_later means ts exact ws start first parts is = later means ts exact ws start first parts is
