-- The steps of the groups that are written are earned.
use Rattle.std.proofs.Common.{◌≡◌, ◌<◌, true, List, [], ◌∷◌, ◌++◌, length, map, refl}
use Rattle.std.proofs.lemmas.List.{length-replicate}
use Rattle.ice_defs.specs.declared.Group.{Group}
use Rattle.ice_defs.specs.declared.Group.TheVariants.{Final, Rival}
use Rattle.ice_defs.specs.Group.{start_of, first_sets}
use Rattle.ice_defs.specs.Session.{Proved, Settlement}
use Rattle.ice_journal.specs.Records.{Record}
use Rattle.ice_journal.specs.Records as line
use Rattle.ice_journal.specs.Plain.{all_zero}
use Rattle.ice_journal_laws.specs.State.{at_group, at_sets, at_log, at_regret, State, exchange_at, trees_at, exact_at, goods_at, weights_at}
use Rattle.ice_journal_laws.specs.Next.{go_to, after_log, after_regret}
use Rattle.ice_journal_laws.specs.Tests.{is_valued}
use Rattle.ice_journal_laws.specs.Showing.{step_records, group_records, regret_group_records, stated_of, IsShown, IsShownSettlement}
use Rattle.ice_journal_laws.specs.StepsTaken.{Earns}
use Rattle.ice_journal_laws.specs.Earning.{Earning, IsEarnedTaken, EarnsLog, EarnsSettlement}
use Rattle.ice_journal_laws.proofs.Carried.{TakesTo, carries_one, carries_then}
use Rattle.ice_journal_laws.proofs.CarriedGroup.{head_takes, all_sets_carry}
use Rattle.ice_journal_laws.proofs.CarriedSettlement.{with_settlement, regret_takes}
use Rattle.ice_journal_laws.proofs.CarriedTaken.{IsNoStep, earns_join, earns_quiet, sets_quiet, log_earns}

module _ (E : Earning) where
  -- from a head that leads to its sets
  pub group_earns : (start s : State) (g : Group) (p : Proved) (first : Record) → IsNoStep first → TakesTo start first (go_to (at_sets g (record { value = p.value; sets = [] })) s) → is_valued g ≡ true → 0 < length (trees_at s)
      → IsShown (trees_at s) (exact_at s) (weights_at s g) g p → EarnsLog E (trees_at s) (exact_at s) (weights_at s g) g (first_sets (trees_at s) s.final.sets g) p.log
      → Earns (IsEarnedTaken E) start (group_records s.version (goods_at s) first p) (after_log s g (stated_of p))
  group_earns start s g p first quiet head v some is earned =
      earns_join (IsEarnedTaken E) start (go_to (at_log g (stated_of p) (start_of (trees_at s) g ∷ []) (all_zero (goods_at s))) s) (after_log s g (stated_of p)) (first ∷ map line.set p.sets) (step_records s.version (all_zero (goods_at s)) p.log)
      (earns_quiet (IsEarnedTaken E) start (go_to (at_log g (stated_of p) (start_of (trees_at s) g ∷ []) (all_zero (goods_at s))) s) (first ∷ map line.set p.sets)
      (carries_then start (go_to (at_sets g (record { value = p.value; sets = [] })) s) (go_to (at_log g (stated_of p) (start_of (trees_at s) g ∷ []) (all_zero (goods_at s))) s) first (map line.set p.sets) head (all_sets_carry s g p v some is))
      (quiet, sets_quiet (IsEarnedTaken E) p.sets))
      (log_earns (IsEarnedTaken E) s g (stated_of p) v (λ side x. E (trees_at s) (exact_at s) (weights_at s g) (start_of (trees_at s) g) (first_sets (trees_at s) s.final.sets g) side x) (λ n others side m x q. q)
      (start_of (trees_at s) g) p.log (all_zero (goods_at s)) (length-replicate (goods_at s) _) is.counts earned is.passes)

  -- a settlement's groups and regret
  pub settlement_earns : (s : State) (x : Settlement) (start : State) → TakesTo start (line.final x.final.value) (go_to (at_sets Final (record { value = x.final.value; sets = [] })) s) → 0 < length (trees_at s)
      → IsShownSettlement (exchange_at s) s.bounds x → EarnsSettlement E (exchange_at s) s.bounds x
      → Earns (IsEarnedTaken E) start (regret_group_records s.version (goods_at s) x) (after_regret (with_settlement x s) s.kind)
  settlement_earns s x start head some is earned =
      let one : State = record s { final = stated_of x.final } in
      let both : State = record s { final = stated_of x.final; rival = x.rival.value } in
      let final : List Record = group_records s.version (goods_at s) (line.final x.final.value) x.final in
      let rival : List Record = group_records s.version (goods_at s) (line.rival x.rival.value) x.rival in
      earns_join (IsEarnedTaken E) start (go_to at_regret both) (after_regret (with_settlement x s) s.kind) (final ++ rival) (line.regret x.regret ∷ [])
      (earns_join (IsEarnedTaken E) start (go_to (at_group Rival) one) (go_to at_regret both) final rival
      (group_earns start s Final x.final (line.final x.final.value) tt head refl some is.final earned.final)
      (group_earns (go_to (at_group Rival) one) one Rival x.rival (line.rival x.rival.value) tt (head_takes one Rival x.rival.value refl) refl some is.rival earned.rival))
      (earns_quiet (IsEarnedTaken E) (go_to at_regret both) (after_regret (with_settlement x s) s.kind) (line.regret x.regret ∷ []) (carries_one (go_to at_regret both) (after_regret (with_settlement x s) s.kind) (line.regret x.regret) (regret_takes both x.regret is.regret)) (tt, tt))
