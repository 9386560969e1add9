-- A journal that stops at a search that spent its branches states a gap.
use Rattle.std.proofs.Common.{◌≡◌, ◌<◌, ℕ, true, List, [], ◌∷◌, ◌++◌, length, map, ℤ, refl, sym, ◌∙◌, ap, subst, append_assoc}
use Rattle.std.specs.Prelude.{Some}
use Rattle.std.specs.List.{AllByRecursion}
use Rattle.ice_defs.specs.Trade.{Assignment, IsFeasible, MeetsAll}
use Rattle.ice_defs.specs.Bounds.{Bounds}
use Rattle.ice_defs.specs.Weighing.{lower_weights, perturbed_weights}
use Rattle.ice_defs.specs.Sweep.{EarnsStep}
use Rattle.ice_defs.specs.Searched.{IsSpentSearch}
use Rattle.ice_defs.specs.declared.Group.{Group}
use Rattle.ice_defs.specs.declared.Group.TheVariants.{Final, Rival, Provisional, Without}
use Rattle.ice_defs.specs.Group.{free_side, empty_sets, start_of}
use Rattle.ice_defs.specs.Exchange.{Exchange, trees_of, exact_of, opening_bounds}
use Rattle.ice_defs.specs.Lawful.{IsExchange}
use Rattle.ice_defs.specs.Session.{Proved}
use Rattle.ice_refute.specs.Code.{CountsGoods}
use Rattle.ice_vickrey.proofs.Leaving.{exchange_tree, leaves_out}
use Rattle.ice_journal.specs.Records.{Record, Version, version_2, Kind, regret_kind, session_kind, spent_end}
use Rattle.ice_journal.specs.Records as line
use Rattle.ice_journal.specs.Plain.{all_zero}
use Rattle.ice_section.specs.Described.{section_records}
use Rattle.ice_section.proofs.Describing.{described_are_taken}
use Rattle.ice_journal_laws.specs.State.{at_group, State, begun, exchange_at, trees_at, exact_at, goods_at, weights_at}
use Rattle.ice_journal_laws.specs.Next.{go_to}
use Rattle.ice_journal_laws.specs.Assigning.{section_state, section_of, exchange_state}
use Rattle.ice_journal_laws.specs.Carrying.{Carries}
use Rattle.ice_journal_laws.specs.Checks.{is_checked}
use Rattle.ice_journal_laws.specs.Showing.{group_records, step_records, stated_of, LeavesOut, IsShown}
use Rattle.ice_journal_laws.specs.Earning.{EarnsLog}
use Rattle.ice_journal_laws.specs.Positions.{Position, before_final, before_rival, before_provisional, before_without, group_at, IsShownPosition}
use Rattle.ice_journal_laws.proofs.CarriedRegret.{some_trees}
use Rattle.ice_journal_laws.proofs.CarriedSection.{ended}
use Rattle.ice_journal_laws.proofs.CarriedPosition.{Awaits, state_at}
use Rattle.ice_journal_laws.proofs.CarriedIsSpent.{IsSpentAt}
use Rattle.ice_journal_laws.proofs.CarriedSpentRegret.{final_awaits, rival_awaits}
use Rattle.ice_gap_laws.specs.declared.answer.GapAnswer.TheVariants as answer
use Rattle.ice_gap_laws.specs.Gap.{next_group}
use Rattle.ice_gap_laws.specs.Answers.{GivesGap}
use Rattle.ice_gap_laws.specs.Laws.{gap_records}
use Rattle.ice_gap_laws.proofs.Written.{gap_is_written}
use Rattle.ice_session_laws.specs.Written.{HasGapAnswer}

-- the records of a stop, as they are written
abbrev pub stop_records : Version → ℕ → Proved → ℤ → List Record
stop_records v goods p bound = group_records v goods (line.spent p.value bound) p ++ line.end spent_end ∷ []

-- ---- the head of a group comes

module _ (kind : Kind) (before : List Record) (p : Proved) (bound : ℤ) (checked : is_checked version_2 kind ≡ true) where
  -- those of a gap are the same
  abbrev Gives : State → Group → Type 0
  Gives s g = GivesGap (line.head version_2 kind ∷ (before ++ gap_records s p bound)) (answer.Gap g p.value bound)

  at_head : (s : State) (g : Group) (first : Assignment) → next_group s.kind (at_group g) ≡ Some g → Carries (begun version_2 kind) before (go_to (at_group g) s) → 0 < length (trees_at s)
      → LeavesOut g p.sets → AllByRecursion (CountsGoods (goods_at s)) p.log → IsSpentSearch (trees_at s) (exact_at s) (weights_at s g) (start_of (trees_at s) g) first p bound → Gives s g
  at_head s g first e carries some out counts search =
      gap_is_written kind version_2 before (go_to (at_group g) s) g p bound checked carries e tt some (record {
        feasible = search.attained.feasible;
        value = search.attained.has;
        left_out = out;
        counts = counts;
        passes = search.passes;
        below = search.gap;
      })

  -- where the state has this version and these goods
  as_written : (s : State) (v : Version) (ex : Exchange) (g : Group) → s.version ≡ v → exchange_at s ≡ ex → Gives s g
      → GivesGap (line.head version_2 kind ∷ (before ++ stop_records v (length (exact_of ex)) p bound)) (answer.Gap g p.value bound)
  as_written s v ex g version exchange gives =
      subst (λ (rs : List Record). GivesGap (line.head version_2 kind ∷ (before ++ rs)) (answer.Gap g p.value bound)) same gives
    where
      same : gap_records s p bound ≡ stop_records v (length (exact_of ex)) p bound
      same =
          ap (λ (rs : List Record). line.spent p.value bound ∷ rs) (sym (append_assoc (map line.set p.sets) (step_records s.version (all_zero (goods_at s)) p.log) (line.end spent_end ∷ [])))
          ∙ ap (λ (w : Version). stop_records w (goods_at s) p bound) version
          ∙ ap (λ (x : Exchange). stop_records v (length (exact_of x)) p bound) exchange

-- ---- of a session

-- a search without a bidder leaves it out
left_out : (ex : Exchange) (number : ℕ) (bounds : List Bounds) (at : Position) (a : Assignment) → IsExchange ex → IsShownPosition ex number bounds at
    → IsFeasible (trees_of ex) (exact_of ex) a → MeetsAll a (start_of (trees_of ex) (group_at at)) → LeavesOut (group_at at) a
left_out ex number bounds before_final a lawful shown is meets = tt
left_out ex number bounds (before_rival final) a lawful shown is meets = tt
left_out ex number bounds (before_provisional x) a lawful shown is meets = tt
left_out ex number bounds (before_without x withouts) a lawful shown is meets =
    leaves_out (trees_of ex) (exact_of ex) (lower_weights bounds) (length withouts) shown.2 a (exchange_tree ex (length withouts) lawful shown.2) is meets

module _ (before : List Record) (p : Proved) (bound : ℤ) where
  -- as in any state where the head of this group comes
  at_position : (s : State) (at : Position) → Carries (begun version_2 session_kind) before (go_to (at_group (group_at at)) (state_at at s)) → 0 < length (trees_at s) → LeavesOut (group_at at) p.sets
      → AllByRecursion (CountsGoods (goods_at s)) p.log → IsSpentAt (exchange_at s) s.bounds at p bound → Gives session_kind before p bound refl s (group_at at)
  at_position s before_final carries some out counts search = at_head session_kind before p bound refl (state_at before_final s) Final (empty_sets (trees_at s)) refl carries some out counts search
  at_position s (before_rival final) carries some out counts search = at_head session_kind before p bound refl (state_at (before_rival final) s) Rival final.sets refl carries some out counts search
  at_position s (before_provisional x) carries some out counts search = at_head session_kind before p bound refl (state_at (before_provisional x) s) Provisional (empty_sets (trees_at s)) refl carries some out counts search
  at_position s (before_without x withouts) carries some out counts search =
      at_head session_kind before p bound refl (state_at (before_without x withouts) s) (Without (length withouts)) (empty_sets (trees_at s)) refl carries some out counts search

  pub session_gives_gap : (ex : Exchange) (number : ℕ) (bounds : List Bounds) (at : Position) → IsExchange ex → Awaits EarnsStep before version_2 ex bounds at → IsShownPosition ex number bounds at
      → AllByRecursion (CountsGoods (length (exact_of ex))) p.log → IsSpentAt ex bounds at p bound
      → HasGapAnswer (line.head version_2 session_kind ∷ (before ++ stop_records version_2 (length (exact_of ex)) p bound))
  session_gives_gap ex number bounds at lawful awaits shown counts search = (
    record { group = group_at at; value = p.value; bound = bound },
    as_written session_kind before p bound refl awaits.state version_2 ex (group_at at) awaits.version awaits.exchange
        (at_position awaits.state at awaits.earns.carries
        (subst (λ (x : Exchange). 0 < length (trees_of x)) (sym awaits.exchange) (some_trees ex lawful))
        (left_out ex number bounds at p.sets lawful shown search.attained.feasible search.attained.meets)
        (subst (λ (x : Exchange). AllByRecursion (CountsGoods (length (exact_of x))) p.log) (sym awaits.exchange) counts)
        (subst (λ (x : Exchange). IsSpentAt x awaits.state.bounds at p bound) (sym awaits.exchange) (subst (λ (b : List Bounds). IsSpentAt ex b at p bound) (sym awaits.bounds_are) search))),
  )

-- ---- of a regret

module _ (ex : Exchange) (lawful : IsExchange ex) (p : Proved) (bound : ℤ) (counts : AllByRecursion (CountsGoods (length (exact_of ex))) p.log) where
  -- the final search is spent
  pub final_gives_gap : IsSpentSearch (trees_of ex) (exact_of ex) (lower_weights (opening_bounds ex)) (free_side (trees_of ex)) (empty_sets (trees_of ex)) p bound
      → HasGapAnswer (line.head version_2 regret_kind ∷ (section_records ex ++ stop_records version_2 (length (exact_of ex)) p bound))
  final_gives_gap search = (
    record { group = Final; value = p.value; bound = bound },
    as_written regret_kind (section_records ex) p bound refl (exchange_state version_2 regret_kind 2 ex) version_2 ex Final refl refl
        (gap_is_written regret_kind version_2 (section_records ex) (section_state version_2 regret_kind 2 (section_of ex)) Final p bound refl (final_awaits EarnsStep described_are_taken version_2 ex lawful).carries refl (ended ex lawful) (some_trees ex lawful) (record {
          feasible = search.attained.feasible;
          value = search.attained.has;
          left_out = tt;
          counts = counts;
          passes = search.passes;
          below = search.gap;
        })),
  )

  -- or the rival's
  pub rival_gives_gap : (final : Proved) → IsShown (trees_of ex) (exact_of ex) (lower_weights (opening_bounds ex)) Final final → EarnsLog EarnsStep (trees_of ex) (exact_of ex) (lower_weights (opening_bounds ex)) Final (empty_sets (trees_of ex)) final.log
      → IsSpentSearch (trees_of ex) (exact_of ex) (perturbed_weights final.sets (opening_bounds ex)) (free_side (trees_of ex)) final.sets p bound
      → HasGapAnswer (line.head version_2 regret_kind ∷ ((section_records ex ++ group_records version_2 (length (exact_of ex)) (line.final final.value) final) ++ stop_records version_2 (length (exact_of ex)) p bound))
  rival_gives_gap final shown earned search = (
    record { group = Rival; value = p.value; bound = bound },
    as_written regret_kind (section_records ex ++ group_records version_2 (length (exact_of ex)) (line.final final.value) final) p bound refl (record (exchange_state version_2 regret_kind 2 ex) { final = stated_of final }) version_2 ex Rival refl refl
        (at_head regret_kind (section_records ex ++ group_records version_2 (length (exact_of ex)) (line.final final.value) final) p bound refl (record (exchange_state version_2 regret_kind 2 ex) { final = stated_of final }) Rival final.sets refl
        (rival_awaits EarnsStep described_are_taken version_2 ex lawful final shown earned).carries (some_trees ex lawful) tt counts search),
  )
