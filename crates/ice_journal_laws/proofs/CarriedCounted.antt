-- How many branch steps a session has that stops at a spent search.
use Rattle.std.proofs.Common.{◌≡◌, ◌+◌, ℕ, suc, List, [], ◌∷◌, ◌++◌, length, map, ℤ, refl, ◌∙◌, ap, arith}
use Rattle.std.specs.List.{AllByRecursion, flat_map}
use Rattle.ice_defs.specs.Trade.{Assignment}
use Rattle.ice_defs.specs.Exchange.{Exchange}
use Rattle.ice_defs.specs.Steps.{branch_count}
use Rattle.ice_defs.specs.Session.{Proved, Settlement, Going}
use Rattle.ice_journal.specs.Records.{Record, Kind, version_1, spent_end}
use Rattle.ice_journal.specs.Records as line
use Rattle.ice_section.specs.Described.{section_records}
use Rattle.ice_journal_laws.specs.Written.{row_record, judged_records}
use Rattle.ice_journal_laws.specs.Showing.{group_records, regret_group_records}
use Rattle.ice_journal_laws.specs.ShowingSession.{opening_in, going_in, goings_in, without_group_records}
use Rattle.ice_journal_laws.specs.StepsTaken.{branches_in}
use Rattle.ice_journal_laws.specs.Positions.{Position, before_final, before_rival, before_provisional, before_without, position_records, settlement_branches, group_branches, going_branches, position_branches}
use Rattle.ice_journal_laws.proofs.CarriedRegret.{group_plain, settlement_plain}
use Rattle.ice_journal_laws.proofs.CarriedBranches.{branches_join, branches_none, branches_log, branches_group, branches_settlement}
use Rattle.ice_journal_laws.proofs.CarriedTaken.{IsNoStep}
use Rattle.ice_journal_laws.proofs.CarriedComing.{section_quiet}
use Rattle.ice_journal_laws.proofs.CarriedEarnedGoing.{rows_quiet, judged_quiet}

pub sets_quiet : (sets : Assignment) → AllByRecursion IsNoStep (map line.set sets)
sets_quiet [] = tt
sets_quiet (x ∷ sets) = (tt, sets_quiet sets)

module _ (goods : ℕ) where
  pub count_group : (first : Record) (p : Proved) → branches_in (first ∷ []) ≡ 0 → branches_in (group_records version_1 goods first p) ≡ branch_count p.log
  count_group first p none = ap branches_in (group_plain goods first p) ∙ branches_group first p none

  count_settlement : (x : Settlement) → branches_in (regret_group_records version_1 goods x) ≡ settlement_branches x
  count_settlement x = ap branches_in (settlement_plain goods x) ∙ branches_settlement x

  count_opening : (g : Going) → branches_in (opening_in version_1 goods g) ≡ branch_count g.provisional.log
  count_opening g =
      let provisional : List Record = group_records version_1 goods (line.provisional g.provisional.value) g.provisional in
      let prices : List Record = line.prices g.prices ∷ line.accuracy g.violation g.accuracy.den ∷ map row_record g.accuracy.rows in
      let balance : List Record = line.balance g.balance.den ∷ map row_record g.balance.rows in
      branches_join (provisional ++ prices) balance
      ∙ omega (arith, branches_join provisional prices, count_group (line.provisional g.provisional.value) g.provisional refl, branches_none prices (tt, (tt, rows_quiet g.accuracy.rows)), branches_none balance (tt, rows_quiet g.balance.rows))

  count_going : (number : ℕ) (g : Going) → branches_in (going_in version_1 goods number g) ≡ settlement_branches g.settlement + branch_count g.provisional.log
  count_going number g =
      let settlement : List Record = line.settle number ∷ regret_group_records version_1 goods g.settlement in
      branches_join (settlement ++ opening_in version_1 goods g) (flat_map judged_records g.judged)
      ∙ omega (arith, branches_join settlement (opening_in version_1 goods g), count_settlement g.settlement, count_opening g, branches_none (flat_map judged_records g.judged) (judged_quiet g.judged))

  count_goings : (number : ℕ) (going : List Going) → branches_in (goings_in version_1 goods number going) ≡ going_branches going
  count_goings number [] = refl
  count_goings number (g ∷ later) = branches_join (going_in version_1 goods number g) (goings_in version_1 goods (suc number) later) ∙ omega (arith, count_going number g, count_goings (suc number) later)

  count_withouts : (b : ℕ) (ps : List Proved) → branches_in (without_group_records version_1 goods b ps) ≡ group_branches ps
  count_withouts b [] = refl
  count_withouts b (p ∷ later) =
      branches_join (group_records version_1 goods (line.without b p.value) p) (without_group_records version_1 goods (suc b) later) ∙ omega (arith, count_group (line.without b p.value) p refl, count_withouts (suc b) later)

  count_position : (number : ℕ) (at : Position) → branches_in (position_records version_1 goods number at) ≡ position_branches at
  count_position number before_final = refl
  count_position number (before_rival final) = count_group (line.final final.value) final refl
  count_position number (before_provisional x) = count_settlement x
  count_position number (before_without x withouts) =
      branches_join (line.settle number ∷ regret_group_records version_1 goods x) (without_group_records version_1 goods 0 withouts) ∙ omega (arith, count_settlement x, count_withouts 0 withouts)

  -- a session as far as a search, and the search
  pub count_spent : (kind : Kind) (ex : Exchange) (going : List Going) (at : Position) (p : Proved) (above : ℤ)
      → branches_in (line.head version_1 kind ∷ (section_records ex ++ goings_in version_1 goods 0 going ++ position_records version_1 goods (length going) at) ++ line.spent p.value above ∷ map line.set p.sets ++ map line.step p.log ++ line.end spent_end ∷ [])
      ≡ going_branches going + position_branches at + branch_count p.log
  count_spent kind ex going at p above =
      let goings : List Record = goings_in version_1 goods 0 going in
      let position : List Record = position_records version_1 goods (length going) at in
      let front : List Record = section_records ex ++ goings ++ position in
      let sets : List Record = line.spent p.value above ∷ map line.set p.sets in
      let steps : List Record = map line.step p.log in
      branches_join (front ++ sets ++ steps) (line.end spent_end ∷ [])
      ∙ omega (
        arith,
        branches_join (front ++ sets) steps,
        branches_join front sets,
        branches_join (section_records ex ++ goings) position,
        branches_join (section_records ex) goings,
        branches_none (section_records ex) (section_quiet ex),
        count_goings 0 going,
        count_position (length going) at,
        branches_none sets (tt, sets_quiet p.sets),
        branches_log p.log,
      )
