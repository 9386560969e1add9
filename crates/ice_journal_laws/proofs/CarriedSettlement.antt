-- The two groups of a settlement and its regret.
use Rattle.std.proofs.Common.{◌≡◌, ◌<◌, ℕ, suc, List, [], ◌∷◌, ◌++◌, length, map, ℤ, ◌-ℤ◌, refl, sym, subst}
use Rattle.std.proofs.lemmas.Bool.{false≢true}
use Rattle.std.proofs.lemmas.Option.{none-some}
use Rattle.ice_defs.specs.declared.Group.TheVariants.{Final, Rival}
use Rattle.ice_defs.specs.Session.{Settlement}
use Rattle.ice_journal.specs.Records.{Record, Kind, assign_kind, regret_kind, session_kind, exchange_kind, prices_kind}
use Rattle.ice_journal.specs.Records as line
use Rattle.ice_journal.specs.Plain.{all_zero}
use Rattle.ice_journal_laws.specs.declared.rule.Rule.{Rule}
use Rattle.ice_journal_laws.specs.declared.rule.Rule.TheVariants as rule
use Rattle.ice_journal_laws.specs.State.{Place, at_group, at_sets, at_regret, State, exchange_at, trees_at, goods_at}
use Rattle.ice_journal_laws.specs.Next.{to_line, go_to, after_regret}
use Rattle.ice_journal_laws.specs.Tests.{Fails}
use Rattle.ice_journal_laws.specs.Progress.{passing, TakesOn, passes_on}
use Rattle.ice_journal_laws.specs.Carrying.{Carries}
use Rattle.ice_journal_laws.specs.Showing.{step_records, group_records, stated_of, regret_group_records, IsShownSettlement}
use Rattle.ice_journal_laws.proofs.Carried.{TakesTo, carries_join, carries_then, carries_one}
use Rattle.ice_journal_laws.proofs.CarriedGroup.{rest_carries, group_carries}

after_regret_same : (k n : ℕ) (p : Place) (s : State) (amount : ℤ) (kind : Kind)
    → to_line k (after_regret (record (go_to p (to_line n s)) { regret = amount }) kind) ≡ to_line k (after_regret (record s { regret = amount }) kind)
after_regret_same k n p s amount assign_kind = refl
after_regret_same k n p s amount regret_kind = refl
after_regret_same k n p s amount session_kind = refl
after_regret_same k n p s amount exchange_kind = refl
after_regret_same k n p s amount prices_kind = refl

-- the regret
regret_takes_on : (s : State) (amount : ℤ) → amount ≡ s.rival -ℤ s.final.value → TakesOn (go_to at_regret s) (line.regret amount) (passing (to_line (suc s.line) (after_regret (record (go_to at_regret s) { regret = amount }) s.kind)))
regret_takes_on s amount is = passes_on (λ z e. absurd (none-some z e)) quiet (record { leaf = tt; violation = tt; list = tt; verdict = tt }) refl
  where
    quiet : (z : Rule) → ¬ Fails z (go_to at_regret s) (line.regret amount)
    quiet rule.Closed h = false≢true h.0
    quiet rule.Order h = none-some _ (sym h)
    quiet rule.Exchange h = false≢true h.1
    quiet rule.Regret h = h is
    quiet other h = h

pub regret_takes : (s : State) (amount : ℤ) → amount ≡ s.rival -ℤ s.final.value → TakesTo (go_to at_regret s) (line.regret amount) (after_regret (record s { regret = amount }) s.kind)
regret_takes s amount is n =
    subst (λ (t : State). TakesOn (go_to at_regret (to_line n s)) (line.regret amount) (passing t)) (after_regret_same (suc n) n at_regret s amount s.kind)
    (regret_takes_on (to_line n s) amount is)

-- the state with what a settlement states
abbrev pub with_settlement : Settlement → State → State
with_settlement x s = record s { final = stated_of x.final; rival = x.rival.value; regret = x.regret }

module _ (s : State) (x : Settlement) where
  abbrev WithFinal : State
  WithFinal = record s { final = stated_of x.final }

  abbrev WithRival : State
  WithRival = record s { final = stated_of x.final; rival = x.rival.value }

  abbrev final_records : List Record
  final_records = group_records s.version (goods_at s) (line.final x.final.value) x.final

  abbrev rival_records : List Record
  rival_records = group_records s.version (goods_at s) (line.rival x.rival.value) x.rival

  -- both groups and the regret, where the final group's head leads from the start to this state
  pub settlement_carries : (start : State) → TakesTo start (line.final x.final.value) (go_to (at_sets Final (record { value = x.final.value; sets = [] })) s) → 0 < length (trees_at s)
      → IsShownSettlement (exchange_at s) s.bounds x → Carries start (regret_group_records s.version (goods_at s) x) (after_regret (with_settlement x s) s.kind)
  settlement_carries start head some is =
      carries_join start (go_to at_regret WithRival) (after_regret (with_settlement x s) s.kind) (final_records ++ rival_records) (line.regret x.regret ∷ [])
      (carries_join start (go_to (at_group Rival) WithFinal) (go_to at_regret WithRival) final_records rival_records
      (carries_then start (go_to (at_sets Final (record { value = x.final.value; sets = [] })) s) (go_to (at_group Rival) WithFinal) (line.final x.final.value) (map line.set x.final.sets ++ step_records s.version (all_zero (goods_at s)) x.final.log)
      head (rest_carries s Final x.final refl some is.final))
      (group_carries WithFinal Rival x.rival refl some is.rival))
      (carries_one (go_to at_regret WithRival) (after_regret (with_settlement x s) s.kind) (line.regret x.regret) (regret_takes WithRival x.regret is.regret))
