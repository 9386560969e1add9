-- A session that passes each test is right.
use Rattle.std.proofs.Common.{◌≡◌, List, [], ◌∷◌, ◌++◌, refl, sym, ◌∙◌, ap, subst}
use Rattle.std.specs.Prelude.{Some, None}
use Rattle.std.specs.List.{AllByRecursion}
use Rattle.std.proofs.lemmas.Option.{none-some}
use Rattle.std.proofs.lemmas.List.{append-nil, append_assoc}
use Rattle.ice_headline_laws.specs.Headline.{RightGivesHeadline}
use Rattle.ice_defs.specs.declared.Group.TheVariants.{Final, Rival, Provisional, Without}
use Rattle.ice_journal.specs.Records.{Record, Version, Kind, session_kind, closed_end}
use Rattle.ice_journal.specs.Records as line
use Rattle.ice_journal.specs.Ranges.{IsRecord}
use Rattle.ice_journal.specs.Plain.{plain}
use Rattle.ice_section.specs.Described.{section_records}
use Rattle.ice_section.specs.Laws.{SectionIsLawful, SectionRecords}
use Rattle.ice_refute.specs.Laws.{LogRefutes}
use Rattle.ice_regret_laws.specs.Laws.{PerturbedGivesRegret}
use Rattle.ice_row_laws.specs.Laws.{TestsGiveBalanced}
use Rattle.ice_journal_laws.specs.declared.rule.Rule.{Rule}
use Rattle.ice_journal_laws.specs.State.{Place, at_section, at_group, at_sets, at_log, at_regret, at_prices, at_accuracy, at_accuracy_rows, at_balance_rows, at_round, at_verdict, at_threshold, at_payment, at_end, done, State, begun, exchange_at, goods_at}
use Rattle.ice_journal_laws.specs.Next.{next, go_to}
use Rattle.ice_journal_laws.specs.Tests.{Fails, Holds}
use Rattle.ice_journal_laws.specs.Checks.{Tested}
use Rattle.ice_journal_laws.specs.Theorems.{IsSession, DoneIsRight, ChecksGiveRight, SessionIsYes}
use Rattle.ice_journal_laws.specs.Written.{settlement_records}
use Rattle.ice_journal_laws.specs.Progress.{passing, EndsList, passes_on, fails_at, list_fails_at, Leads, stays, goes}
use Rattle.ice_section.proofs.Whole.{section_is_lawful, section_records_are}
use Rattle.ice_refute.proofs.Refutes.{log_refutes}
use Rattle.ice_regret_laws.proofs.Perturbed.{perturbed_gives_regret}
use Rattle.ice_row_laws.proofs.Balanced.{tests_give_balanced}
use Rattle.ice_headline_laws.proofs.Promised.{right_gives_headline}
use Rattle.ice_journal_laws.proofs.Leading.{failed_passes}
use Rattle.ice_journal_laws.proofs.Heads.{headed, tested_leads, all_left}
use Rattle.ice_journal_laws.proofs.Plaining.{Wrote, whole_says}
use Rattle.ice_journal_laws.proofs.Past.{past_closed, text_closed}
use Rattle.ice_journal_laws.proofs.Sessions.{IsAt, IsStanding}
use Rattle.ice_journal_laws.proofs.SessionGroups.{in_section, in_final, in_final_sets, in_final_log, in_rival, in_rival_sets, in_rival_log, in_regret, in_provisional, in_provisional_sets, in_provisional_log, in_without, in_without_sets, in_without_log}
use Rattle.ice_journal_laws.proofs.SessionPrices.{in_prices, in_accuracy, in_accuracy_rows, in_balance_rows, in_round, in_verdict}
use Rattle.ice_journal_laws.proofs.SessionEnds.{in_threshold, in_payment, in_end}

all_there : (xs : List Record) (r : Record) (ys : List Record) → AllByRecursion IsRecord (xs ++ r ∷ ys) → IsRecord r
all_there [] r ys all = all.0
all_there (x ∷ xs) r ys all = all_there xs r ys all.1

module _ (lawful : SectionIsLawful) (described : SectionRecords) (refutes : LogRefutes) (perturbed : PerturbedGivesRegret) (tests : TestsGiveBalanced) where
  -- a record that passes
  module _ (version : Version) (before : List Record) (s : State) (same : s.version ≡ version) (kind : s.kind ≡ session_kind) (r : Record) (after : State) where
    stands_on : (place : Place) → AllByRecursion IsRecord before → IsRecord r → IsAt before s place → next (go_to place s) r ≡ Some after → ((k : Rule) → ¬ Fails k (go_to place s) r)
        → EndsList (go_to place s) r → Holds (go_to place s) r → IsStanding version (before ++ r ∷ []) after
    stands_on at_section records range at is pass ends holds = in_section version before s same kind lawful described refutes records r after at is pass
    stands_on (at_group Final) records range at is pass ends holds = in_final version before s same kind r after at is pass
    stands_on (at_sets Final found) records range at is pass ends holds = in_final_sets version before s same kind r after found at is pass
    stands_on (at_log Final found (side ∷ sides) m) records range at is pass ends holds = in_final_log version before s same kind r after refutes found side sides m at is pass holds
    stands_on (at_group Rival) records range at is pass ends holds = in_rival version before s same kind r after at is pass
    stands_on (at_sets Rival found) records range at is pass ends holds = in_rival_sets version before s same kind r after found at is pass
    stands_on (at_log Rival found (side ∷ sides) m) records range at is pass ends holds = in_rival_log version before s same kind r after refutes found side sides m at is pass holds
    stands_on at_regret records range at is pass ends holds = in_regret version before s same kind r after at is pass
    stands_on (at_group Provisional) records range at is pass ends holds = in_provisional version before s same kind r after at is pass
    stands_on (at_sets Provisional found) records range at is pass ends holds = in_provisional_sets version before s same kind r after found at is pass
    stands_on (at_log Provisional found (side ∷ sides) m) records range at is pass ends holds = in_provisional_log version before s same kind r after refutes found side sides m at is pass holds
    stands_on at_prices records range at is pass ends holds = in_prices version before s same kind r after range at is pass
    stands_on at_accuracy records range at is pass ends holds = in_accuracy version before s same kind r after at is holds
    stands_on (at_accuracy_rows den rows) records range at is pass ends holds = in_accuracy_rows version before s same kind den rows r after at is ends holds
    stands_on (at_balance_rows den rows) records range at is pass ends holds = in_balance_rows version before s same kind perturbed tests den rows r after at is pass ends holds
    stands_on at_round records range at is pass ends holds = in_round version before s same kind r after at is
    stands_on (at_verdict x) records range at is pass ends holds = in_verdict version before s same kind x r after at is holds
    stands_on (at_group (Without b)) records range at is pass ends holds = in_without version before s same kind r after b at is pass
    stands_on (at_sets (Without b) found) records range at is pass ends holds = in_without_sets version before s same kind r after b found at is pass
    stands_on (at_log (Without b) found (side ∷ sides) m) records range at is pass ends holds = in_without_log version before s same kind r after b refutes found side sides m at is pass holds
    stands_on at_threshold records range at is pass ends holds = in_threshold version before s same kind r after range at is pass
    stands_on (at_payment b) records range at is pass ends holds = in_payment version before s same kind perturbed b r after range at is pass
    stands_on (at_end closed_end) records range at is pass ends holds = in_end version before s same kind r after at is
    stands_on done records range at is pass ends holds = absurd (none-some after is)
    stands_on other records range at is pass ends holds = absurd at

  -- each record that passes goes along
  leads_standing : (version : Version) (before : List Record) (s t : State) (records : List Record) → AllByRecursion IsRecord (before ++ records) → IsStanding version before s → Leads (passing s) records (passing t)
      → IsStanding version (before ++ records) t
  leads_standing version before s t [] all h stays = subst (λ (rs : List Record). IsStanding version rs t) (sym (append-nil before)) h
  leads_standing version before s t (r ∷ rest) all h (goes (passes_on {after = after} ends none holds is) l) =
      subst (λ (rs : List Record). IsStanding version rs t) (append_assoc before (r ∷ []) rest)
      (leads_standing version (before ++ r ∷ []) after t rest (subst (AllByRecursion IsRecord) (sym (append_assoc before (r ∷ []) rest)) all)
      (stands_on version before s h.same_version h.kind r after s.place (all_left before (r ∷ rest) all) (all_there before r rest all) h.place is none ends holds) l)
  leads_standing version before s t (r ∷ rest) all h (goes (fails_at ends f) l) = absurd (failed_passes _ rest t l)
  leads_standing version before s t (r ∷ rest) all h (goes (list_fails_at e n) l) = absurd (failed_passes _ rest t l)

  -- what stands at the end
  session_at_end : (version : Version) (rest : List Record) (s : State) → IsStanding version rest s → IsAt rest s done → IsSession (line.head version session_kind ∷ rest) s
  session_at_end version rest s h (past, c, earlier, ended, tells) = (
    record { exchange = exchange_at s; going = past; closed = c },
    record {
      says =
          whole_says version (goods_at s) session_kind rest _
          (subst (λ (v : Version). Wrote v (goods_at s) rest (section_records (exchange_at s) ++ settlement_records 0 past c)) h.same_version
          (subst (λ (rs : List Record). Wrote s.version (goods_at s) rest (section_records (exchange_at s) ++ rs)) (text_closed (exchange_at s) s.number s.bounds past c earlier) tells.wrote));
      right = record { exchange = tells.exchange; settlements = past_closed (exchange_at s) s.number s.bounds past c earlier ended.test ended.closed };
      exchange = refl;
      regret = ended.regret_is;
      surplus = ended.surplus_is;
      bounds = earlier.after;
      final = ended.sets_are;
      cut = ended.cut_is;
      paid = ended.paid;
    },
  )

  -- after a head of kind session
  from_begun : (version : Version) (rest : List Record) (s : State) → AllByRecursion IsRecord rest → Leads (passing (begun version session_kind)) rest (passing s) → s.place ≡ done
      → IsSession (line.head version session_kind ∷ rest) s
  from_begun version rest s all l place =
      let h = leads_standing version [] (begun version session_kind) s rest all (record { same_version = refl; kind = refl; place = (refl, refl, refl, refl) }) l in
      session_at_end version rest s h (subst (λ (p : Place). IsAt rest s p) place h.place)

  pub done_is_right : DoneIsRight
  done_is_right journal s records l place kind =
      let h = headed journal s l in
      let k : h.kind ≡ session_kind = sym h.same_kind ∙ kind in
      let is : journal ≡ line.head h.version session_kind ∷ h.rest = h.is ∙ ap (λ (x : Kind). line.head h.version x ∷ h.rest) k in
      subst (λ (j : List Record). IsSession j s) (sym is)
      (from_begun h.version h.rest s (subst (AllByRecursion IsRecord) is records).1 (subst (λ (x : Kind). Leads (passing (begun h.version x)) h.rest (passing s)) k h.leads) place)

  pub checks_give_right : ChecksGiveRight
  checks_give_right (line.head version kind ∷ rest) of_kind records (checked, tested) =
      let (end, l, e) = tested_leads (begun version session_kind) rest (subst (λ (x : Kind). Tested (begun version x) rest None) of_kind tested) in
      let (x, is) = from_begun version rest end records.1 l e in
      (x, ap (λ (k : Kind). plain (line.head version k ∷ rest)) of_kind ∙ is.says, is.right)
  checks_give_right (other ∷ rest) of_kind records (checked, tested) = absurd checked
  checks_give_right [] of_kind records (checked, tested) = absurd checked

  -- and the checker may say yes to it
  pub done_is_yes : RightGivesHeadline → SessionIsYes
  done_is_yes headline journal s records l place kind =
      let (x, is) = done_is_right journal s records l place kind in
      (x, is.says, is.right, headline x is.right, sym is.regret, sym is.surplus)

-- what stands where the records after a head of kind session have come
pub session_stands : (version : Version) (rest : List Record) (s : State) → AllByRecursion IsRecord rest → Leads (passing (begun version session_kind)) rest (passing s) → IsStanding version rest s
session_stands version rest s all l =
    leads_standing section_is_lawful section_records_are log_refutes perturbed_gives_regret tests_give_balanced version [] (begun version session_kind) s rest all
    (record { same_version = refl; kind = refl; place = (refl, refl, refl, refl) }) l

pub done_is_session : DoneIsRight
done_is_session = done_is_right section_is_lawful section_records_are log_refutes perturbed_gives_regret tests_give_balanced

pub checked_is_right : ChecksGiveRight
checked_is_right = checks_give_right section_is_lawful section_records_are log_refutes perturbed_gives_regret tests_give_balanced

pub session_is_yes : SessionIsYes
session_is_yes = done_is_yes section_is_lawful section_records_are log_refutes perturbed_gives_regret tests_give_balanced right_gives_headline
