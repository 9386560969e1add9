-- A turn of the search: a part is swept, closed or split.
use Rattle.std.proofs.Common.{ℕ, suc, ◌+◌, ◌<◌, ◌≡◌, true, false, List, [], ◌∷◌, ◌++◌, length, set, ℤ, pos, neg_ℤ, ◌≤ℤ◌, ◌<ℤ◌, refl, arith, ap, sym, ◌∙◌, subst, ◌⊎◌, inl, inr}
use Rattle.std.specs.Prelude.{slice_index}
use Rattle.std.specs.List.{Contains}
use Rattle.std.proofs.lemmas.Int.{ints, by_lt_z}
use Rattle.std.proofs.lemmas.Bool.{false≢true}
use Rattle.std.proofs.lemmas.List.{length-set, length-append}
use Rattle.std.proofs.lemmas.List.Sums.{sum_by-set, sum_by-append}
use Rattle.ice_defs.specs.declared.Mark.{Mark}
use Rattle.ice_defs.specs.declared.Mark.TheVariants.{Must, Never}
use Rattle.ice_defs.specs.Trade.{Assignment, MeetsAll}
use Rattle.ice_defs.specs.Bound.{Multipliers}
use Rattle.ice_defs.specs.Derived.{goods_alone}
use Rattle.ice_defs.specs.Steps.{Side, with_mark}
use Rattle.ice_defs.specs.Sweep.{IsLive, IsSweptBound}
use Rattle.ice_defs.specs.Conditions.{AreMultipliersOf}
use Rattle.ice_search_log.specs.Parts.{Part, no_part, part_at, side_at, split_at}
use Rattle.ice_search_log.specs.Searching.{IsPart, AreOpen, IsNext}
use Rattle.ice_search_log.proofs.Ending.{split_is_earned}
use Rattle.ice_search_log.proofs.Marked.{bound_is_live, meets_start, meets_less}
use Rattle.ice_search_log.proofs.Opening.{open_rises, open_bounds, open_closes, open_splits}
use Rattle.ice_search_log.proofs.Stepping.{search_bounds, search_splits}
use Rattle.ice_search_log.proofs.Swept.{swept_is_part}
use Rattle.ice_subgradient.specs.declared.incumbent.Incumbent.{Incumbent}
use Rattle.ice_search.specs.Instance.{Instance, IsSearchOf, IsIncumbentOf, IsBoundAt, IsSweepAt}
use Rattle.ice_search.specs.Nodes.{IsSplitNode}
use Rattle.ice_search.specs.declared.frontier.Fate.{Fate}
use Rattle.ice_search.specs.declared.frontier.Fate.TheVariants.{Open, Closed}
use Rattle.ice_search.specs.Open.{AreOpened}
use Rattle.ice_search.specs.State.{State, IsState, LooksAt, unswept_count, number_unswept, with_bound, child_part}
use Rattle.ice_search.specs.Workspace.{IsOfferedAt}
use Rattle.ice_search.proofs.Ranges.{total_low}

-- after an offer at a side whose sets meet the start
pub raised_from : (x : Instance) (side : Side) (old new : Incumbent) → IsIncumbentOf x old.sets old.value → ((a : Assignment) → MeetsAll a side → MeetsAll a x.start) → IsOfferedAt x side old new
    → IsIncumbentOf x new.sets new.value × (old.value ≤ℤ new.value)
raised_from x side old new was to_start (inl same) = (
  subst (λ i. IsIncumbentOf x i.sets i.value) (sym same) was,
  let e = ap (λ i. i.value) same in omega (arith, ints, e),
)
raised_from x side old new was to_start (inr better) = (
  record { feasible = better.feasible; meets = to_start new.sets better.meets; has = better.has; no_less = omega (arith, ints, was.no_less, better.more) },
  omega (arith, ints, better.more),
)

module _ (s : State) (is : IsState s) where
  abbrev x : Instance
  x = s.instance

  abbrev held : Incumbent
  held = record { sets = s.sets; value = s.value }

  pub low : neg_ℤ (pos 200000000000000) ≤ℤ s.value
  low =
      let at_least = total_low x.trees x.weights s.sets is.instance.weights is.incumbent.feasible.same_length (λ b l. (is.incumbent.feasible.satisfied b l).same_length) is.instance.few_nodes in
      omega (arith, ints, at_least, is.incumbent.has)

  raised : (side : Side) (new : Incumbent) → ((a : Assignment) → MeetsAll a side → MeetsAll a x.start) → IsOfferedAt x side held new → IsIncumbentOf x new.sets new.value × (s.value ≤ℤ new.value)
  raised side new to_start offered = raised_from x side held new is.incumbent to_start offered

  -- another assignment that is worth no less takes the place of the best
  pub better : (side2 : Side) (new : Incumbent) → IsIncumbentOf x new.sets new.value → s.value ≤ℤ new.value
      → IsState (record { instance = x; side = side2; parts = s.parts; sets = new.sets; value = new.value; open_parts = s.open_parts })
  better side2 new incumbent up = record {
    instance = is.instance;
    search = is.search;
    incumbent = incumbent;
    opened = open_rises s.parts s.value new.value s.open_parts is.opened up;
    numbered = is.numbered;
  }

  module _ (k : ℕ) (looks : LooksAt s k) where
    abbrev p : Part
    p = part_at s.parts k

    pub live : IsLive x.trees s.side
    live = subst (IsLive x.trees) (sym looks.side) (bound_is_live goods_alone x.trees x.exact x.weights p.m (side_at x.start s.parts k) p.key (is.search.each k looks.there).bound)

    pub lawful : AreMultipliersOf x.exact p.m
    lawful = let part = is.search.each k looks.there in record { same_length = part.counts; signs = part.signs }

    here : IsPart goods_alone x.trees x.exact x.weights s.side p
    here = subst (λ side. IsPart goods_alone x.trees x.exact x.weights side p) (sym looks.side) (is.search.each k looks.there)

    pub to_start : (a : Assignment) → MeetsAll a s.side → MeetsAll a x.start
    to_start a meets = meets_start goods_alone x.trees x.exact x.weights x.start x.first s.parts k a is.search looks.there (subst (MeetsAll a) looks.side meets)

    -- ---- sweeping

    module _ (listed : Contains s.open_parts k) (new : Incumbent) (offered : IsOfferedAt x s.side held new) where
      changed : (q : Part) (parts2 : List Part) (side2 : Side) → q.put ≡ p.put → q.split ≡ p.split → IsPart goods_alone x.trees x.exact x.weights s.side q → parts2 ≡ set s.parts k q
          → IsState (record { instance = x; side = side2; parts = parts2; sets = new.sets; value = new.value; open_parts = s.open_parts })
      changed q parts2 side2 put split part e =
          let up = raised s.side new to_start offered in
          let size = ap length e ∙ length-set s.parts k q in
          record {
            instance = is.instance;
            search = subst (IsSearchOf x) (sym e)
                (search_bounds goods_alone x.trees x.exact x.weights x.start x.first s.parts k q is.search looks.there put split (subst (λ side. IsPart goods_alone x.trees x.exact x.weights side q) looks.side part));
            incumbent = up.0;
            opened = subst (λ xs. AreOpen xs new.value s.open_parts) (sym e) (open_bounds s.parts new.value s.open_parts k q (open_rises s.parts s.value new.value s.open_parts is.opened up.1) listed);
            numbered = λ j there. omega (arith, size, is.numbered j there);
          }

      pub swept : (m : Multipliers) (v : ℤ) (parts2 : List Part) (side2 : Side) → IsSweepAt x s.side m → IsBoundAt x m s.side v
          → (v <ℤ p.key → parts2 ≡ set s.parts k (with_bound p m v)) → (p.key ≤ℤ v → parts2 ≡ set s.parts k (record p { swept = true }))
          → IsState (record { instance = x; side = side2; parts = parts2; sets = new.sets; value = new.value; open_parts = s.open_parts })
      swept m v parts2 side2 sweeps bound falls stays =
          let part = swept_is_part goods_alone x.trees x.exact x.weights s.side p m v here sweeps bound in
          by_lt_z v p.key (λ less. changed (with_bound p m v) parts2 side2 refl refl part.0 (falls less))
          (λ le. changed (record p { swept = true }) parts2 side2 refl refl (part.1 le) (stays le))

    fewer_at : (q : Part) (parts2 : List Part) → p.swept ≡ false → q.swept ≡ true → parts2 ≡ set s.parts k q → unswept_count parts2 + 1 ≡ unswept_count s.parts
    fewer_at q parts2 was now e =
        omega (arith, ap unswept_count e, sum_by-set (λ r. number_unswept r.swept) s.parts k q no_part looks.there, ap number_unswept was, ap number_unswept now)

    pub fewer : (m : Multipliers) (v : ℤ) (parts2 : List Part) → p.swept ≡ false
        → (v <ℤ p.key → parts2 ≡ set s.parts k (with_bound p m v)) → (p.key ≤ℤ v → parts2 ≡ set s.parts k (record p { swept = true }))
        → unswept_count parts2 + 1 ≡ unswept_count s.parts
    fewer m v parts2 was falls stays =
        by_lt_z v p.key (λ less. fewer_at (with_bound p m v) parts2 was refl (falls less)) (λ le. fewer_at (record p { swept = true }) parts2 was refl (stays le))

    -- ---- closing

    pub closed : (new : Incumbent) (left : List ℕ) (side2 : Side) → p.swept ≡ true → IsOfferedAt x s.side held new
        → ((v : ℤ) → IsSweptBound x.trees x.exact x.weights s.side v → v ≤ℤ new.value)
        → ((j : ℕ) → Contains s.open_parts j → (j ≡ k → ⊥) → Contains left j) → ((j : ℕ) → Contains left j → Contains s.open_parts j)
        → IsState (record { instance = x; side = side2; parts = s.parts; sets = new.sets; value = new.value; open_parts = left })
    closed new left side2 is_swept offered under others within =
        let up = raised s.side new to_start offered in
        let (v, bound, le) = here.swept is_swept in
        let at_most = under v bound in
        record {
          instance = is.instance;
          search = is.search;
          incumbent = up.0;
          opened = open_closes s.parts new.value s.open_parts left k (open_rises s.parts s.value new.value s.open_parts is.opened up.1) (omega (arith, ints, le, at_most)) others;
          numbered = λ j there. is.numbered j (within j there);
        }

    -- ---- splitting

    child : (side : Side) (b n : ℕ) (mark : Mark) (m : Multipliers) (v : ℤ) → AreMultipliersOf x.exact m → IsBoundAt x m side v → IsPart goods_alone x.trees x.exact x.weights side (child_part k b n mark m v)
    child side b n mark m v are bound = record { counts = are.same_length; signs = are.signs; bound = bound; swept = λ e. absurd (false≢true e) }

    module _ (b n : ℕ) (m₁ m₂ : Multipliers) (v₁ v₂ : ℤ) (parts2 : List Part)
        (pushed : parts2 ≡ (set s.parts k (split_at p b n (length s.parts)) ++ child_part k b n Must m₁ v₁ ∷ []) ++ child_part k b n Never m₂ v₂ ∷ []) where
      abbrev must_part : Part
      must_part = child_part k b n Must m₁ v₁

      abbrev never_part : Part
      never_part = child_part k b n Never m₂ v₂

      abbrev before : List Part
      before = set s.parts k (split_at p b n (length s.parts))

      size : length parts2 ≡ length s.parts + 2
      size = omega (
        arith,
        ap length pushed,
        length-append (before ++ must_part ∷ []) (never_part ∷ []),
        length-append before (must_part ∷ []),
        length-set s.parts k (split_at p b n (length s.parts)),
      )

      pub two_more : unswept_count parts2 ≡ unswept_count s.parts + 2
      two_more = omega (
        arith,
        ap unswept_count pushed,
        sum_by-append (λ (r : Part). number_unswept r.swept) (before ++ must_part ∷ []) (never_part ∷ []),
        sum_by-append (λ (r : Part). number_unswept r.swept) before (must_part ∷ []),
        sum_by-set (λ (r : Part). number_unswept r.swept) s.parts k (split_at p b n (length s.parts)) no_part looks.there,
      )

      pub split : (one two : Incumbent) (place : ℕ) (left : List ℕ) (a₁ a₂ : Fate) (side2 : Side) → IsNext s.parts s.value k → IsSplitNode x.trees s.side b n
          → IsOfferedAt x (with_mark s.side b n Must) held one → IsOfferedAt x (with_mark s.side b n Never) one two
          → AreMultipliersOf x.exact m₁ → IsBoundAt x m₁ (with_mark s.side b n Must) v₁ → AreMultipliersOf x.exact m₂ → IsBoundAt x m₂ (with_mark s.side b n Never) v₂
          → k ≡ slice_index s.open_parts place → AreOpened s.open_parts left place (length s.parts) a₁ a₂ → (a₁ ≡ Closed → v₁ ≤ℤ two.value) → (a₂ ≡ Closed → v₂ ≤ℤ two.value)
          → IsState (record { instance = x; side = side2; parts = parts2; sets = two.sets; value = two.value; open_parts = left })
      split one two place left a₁ a₂ side2 next node offered₁ offered₂ are₁ bound₁ are₂ bound₂ number opened low₁ low₂ =
          let first = raised_from x (with_mark s.side b n Must) held one is.incumbent (λ a meets. to_start a (meets_less a s.side b n Must node.free.2 meets)) offered₁ in
          let second = raised_from x (with_mark s.side b n Never) one two first.0 (λ a meets. to_start a (meets_less a s.side b n Never node.free.2 meets)) offered₂ in
          let up : s.value ≤ℤ two.value = omega (arith, ints, first.1, second.1) in
          let here_node = subst (λ side. IsSplitNode x.trees side b n) looks.side node in
          let earned = split_is_earned goods_alone x.trees x.exact x.weights x.start x.first s.parts s.sets s.value k b n is.search is.incumbent next here_node.must here_node.never in
          let must_is = subst (λ side. IsPart goods_alone x.trees x.exact x.weights (with_mark side b n Must) must_part) looks.side (child (with_mark s.side b n Must) b n Must m₁ v₁ are₁ bound₁) in
          let never_is = subst (λ side. IsPart goods_alone x.trees x.exact x.weights (with_mark side b n Never) never_part) looks.side (child (with_mark s.side b n Never) b n Never m₂ v₂ are₂ bound₂) in
          record {
            instance = is.instance;
            search = subst (IsSearchOf x) (sym pushed)
                (search_splits goods_alone x.trees x.exact x.weights x.start x.first s.parts k b n must_part never_part is.search looks.there next.whole here_node.free earned refl refl must_is refl refl never_is);
            incumbent = second.0;
            opened = subst (λ xs. AreOpen xs two.value left) (sym pushed)
                (open_splits s.parts two.value s.open_parts left k b n must_part never_part (open_rises s.parts s.value two.value s.open_parts is.opened up) looks.there
                (λ j listed ne. opened.others j listed (λ e. ne (e ∙ sym number))) (either a₁ v₁ (length s.parts) low₁ opened.must) (either a₂ v₂ (suc (length s.parts)) low₂ opened.never));
            numbered = λ j listed. inside j (opened.within j listed);
          }
        where
          either : (a : Fate) (v : ℤ) (j : ℕ) → (a ≡ Closed → v ≤ℤ two.value) → (a ≡ Open → Contains left j) → (v ≤ℤ two.value) ⊎ Contains left j
          either Open v j low there = inr (there refl)
          either Closed v j low there = inl (low refl)

          inside : (j : ℕ) → Contains s.open_parts j ⊎ (j < suc (suc (length s.parts))) → j < length parts2
          inside j (inl there) = omega (arith, size, is.numbered j there)
          inside j (inr near) = omega (arith, size, near)
