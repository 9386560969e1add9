-- A regret journal, written whole, passes every test.
use Rattle.std.proofs.Common.{◌≡◌, ◌<◌, ℕ, true, List, [], ◌∷◌, ◌++◌, length, map, refl, sym, ◌∙◌, ap, subst, arith}
use Rattle.std.proofs.lemmas.Bool.{false≢true}
use Rattle.std.proofs.lemmas.Option.{none-some}
use Rattle.std.proofs.lemmas.List.{length-map}
use Rattle.ice_defs.specs.Exchange.{Bidder, Exchange, trees_of, exact_of}
use Rattle.ice_defs.specs.Lawful.{IsExchange}
use Rattle.ice_defs.specs.Session.{Proved, Settlement, Regretted}
use Rattle.ice_journal.specs.Records.{Record, Version, version_1, version_2, regret_kind, regret_end}
use Rattle.ice_journal.specs.Records as line
use Rattle.ice_journal.specs.Plain.{all_zero}
use Rattle.ice_section.specs.Described.{section_records}
use Rattle.ice_section.specs.Laws.{DescribedAreTaken}
use Rattle.ice_journal_laws.specs.declared.rule.Rule.{Rule}
use Rattle.ice_journal_laws.specs.declared.rule.Rule.TheVariants as rule
use Rattle.ice_journal_laws.specs.State.{at_end, done, State, begun}
use Rattle.ice_journal_laws.specs.Next.{go_to}
use Rattle.ice_journal_laws.specs.Tests.{Fails}
use Rattle.ice_journal_laws.specs.Checks.{is_checked, Checks}
use Rattle.ice_journal_laws.specs.Written.{proved_records, regret_records, regretted_records}
use Rattle.ice_journal_laws.specs.Progress.{passes_on}
use Rattle.ice_journal_laws.specs.Assigning.{section_state, section_of, exchange_state}
use Rattle.ice_journal_laws.specs.Carrying.{Carries}
use Rattle.ice_journal_laws.specs.Showing.{group_records, regret_group_records, regretted_in, IsShownRegretted}
use Rattle.ice_journal_laws.proofs.Spelled.{steps_plain}
use Rattle.ice_journal_laws.proofs.Carried.{TakesTo, carries_join, carries_one, carries_checks}
use Rattle.ice_journal_laws.proofs.CarriedSection.{section_carries, final_takes}
use Rattle.ice_journal_laws.proofs.CarriedSettlement.{with_settlement, settlement_carries}

-- the end of a regret journal, and of a session
pub regret_end_takes : (s : State) → TakesTo (go_to (at_end regret_end) s) (line.end regret_end) (go_to done s)
regret_end_takes s n = passes_on (λ z e. absurd (none-some z e)) quiet (record { leaf = tt; violation = tt; list = tt; verdict = tt }) refl
  where
    quiet : (z : Rule) → ¬ Fails z (record s { line = n; place = at_end regret_end }) (line.end regret_end)
    quiet rule.Closed h = false≢true h.0
    quiet rule.Order h = none-some _ (sym h)
    quiet rule.Exchange h = false≢true h.1
    quiet other h = h

-- a lawful exchange has a bidder
pub some_trees : (ex : Exchange) → IsExchange ex → 0 < length (trees_of ex)
some_trees ex lawful = omega (arith, lawful.bidders_count, length-map ex.bidders (λ (b : Bidder). b.tree))

module _ (taken : DescribedAreTaken) (v : Version) (r : Regretted) (is : IsShownRegretted r) where
  abbrev After : State
  After = with_settlement r.settlement (exchange_state v regret_kind 2 r.exchange)

  abbrev groups : List Record
  groups = regret_group_records v (length (exact_of r.exchange)) r.settlement

  pub regretted_carries : Carries (begun v regret_kind) (section_records r.exchange ++ regret_group_records v (length (exact_of r.exchange)) r.settlement ++ line.end regret_end ∷ []) (go_to done (with_settlement r.settlement (exchange_state v regret_kind 2 r.exchange)))
  regretted_carries =
      carries_join (begun v regret_kind) (go_to (at_end regret_end) After) (go_to done After) (section_records r.exchange ++ groups) (line.end regret_end ∷ [])
      (carries_join (begun v regret_kind) (section_state v regret_kind 2 (section_of r.exchange)) (go_to (at_end regret_end) After) (section_records r.exchange) groups
      (section_carries taken v regret_kind r.exchange is.exchange)
      (settlement_carries (exchange_state v regret_kind 2 r.exchange) r.settlement (section_state v regret_kind 2 (section_of r.exchange)) (final_takes v r.exchange r.settlement.final.value is.exchange) (some_trees r.exchange is.exchange) is.settlement))
      (carries_one (go_to (at_end regret_end) After) (go_to done After) (line.end regret_end) (regret_end_takes After))

checked_regret : (v : Version) → is_checked v regret_kind ≡ true
checked_regret version_1 = refl
checked_regret version_2 = refl

-- in either version
pub regretted_checks : DescribedAreTaken → (v : Version) (r : Regretted) → IsShownRegretted r → Checks (regretted_in v r)
regretted_checks taken v r is =
    carries_checks v regret_kind (section_records r.exchange ++ regret_group_records v (length (exact_of r.exchange)) r.settlement ++ line.end regret_end ∷ []) (go_to done (with_settlement r.settlement (exchange_state v regret_kind 2 r.exchange))) (checked_regret v) (regretted_carries taken v r is) refl

-- ---- version 1

pub group_plain : (goods : ℕ) (first : Record) (p : Proved) → group_records version_1 goods first p ≡ proved_records first p
group_plain goods first p = ap (λ (rs : List Record). first ∷ map line.set p.sets ++ rs) (steps_plain (all_zero goods) p.log)

pub settlement_plain : (goods : ℕ) (x : Settlement) → regret_group_records version_1 goods x ≡ regret_records x
settlement_plain goods x =
    ap (λ (rs : List Record). rs ++ group_records version_1 goods (line.rival x.rival.value) x.rival ++ line.regret x.regret ∷ []) (group_plain goods (line.final x.final.value) x.final)
    ∙ ap (λ (rs : List Record). proved_records (line.final x.final.value) x.final ++ rs ++ line.regret x.regret ∷ []) (group_plain goods (line.rival x.rival.value) x.rival)

pub regretted_records_check : DescribedAreTaken → (r : Regretted) → IsShownRegretted r → Checks (regretted_records r)
regretted_records_check taken r is =
    subst Checks (ap (λ (rs : List Record). line.head version_1 regret_kind ∷ section_records r.exchange ++ rs ++ line.end regret_end ∷ []) (settlement_plain (length (exact_of r.exchange)) r.settlement))
    (regretted_checks taken version_1 r is)
