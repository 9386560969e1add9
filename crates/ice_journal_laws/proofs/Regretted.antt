-- A regret journal that passes each test states a lawful exchange, the best value at lower values,
-- and the exact regret of its sets.
use Rattle.std.proofs.Common.{◌≡◌, List, [], ◌∷◌, ◌++◌, refl, sym, ◌∙◌, ap, subst}
use Rattle.std.specs.Prelude.{None}
use Rattle.std.specs.List.{AllByRecursion}
use Rattle.std.proofs.lemmas.List.{append_assoc, append-nil}
use Rattle.ice_defs.specs.Bounds.{Bounds}
use Rattle.ice_defs.specs.Exchange.{opening_bounds}
use Rattle.ice_journal.specs.Records.{Record, Version, version_1, Kind, regret_kind, regret_end}
use Rattle.ice_journal.specs.Records as line
use Rattle.ice_journal.specs.Ranges.{IsRecord}
use Rattle.ice_journal.specs.Plain.{plain}
use Rattle.ice_section.specs.Described.{section_records}
use Rattle.ice_section.specs.Laws.{SectionIsLawful, SectionRecords}
use Rattle.ice_section.proofs.Whole.{section_is_lawful, section_records_are}
use Rattle.ice_refute.specs.Laws.{LogRefutes}
use Rattle.ice_refute.proofs.Refutes.{log_refutes}
use Rattle.ice_regret_laws.specs.Laws.{PerturbedGivesRegret}
use Rattle.ice_regret_laws.proofs.Perturbed.{perturbed_gives_regret}
use Rattle.ice_journal_laws.specs.State.{Place, done, State, begun, exchange_at, goods_at}
use Rattle.ice_journal_laws.specs.Checks.{Tested}
use Rattle.ice_journal_laws.specs.Theorems.{AreRegretted, DoneIsRegretted, ChecksGiveRegret}
use Rattle.ice_journal_laws.specs.Written.{regret_records}
use Rattle.ice_journal_laws.specs.Progress.{passing, passes_on, fails_at, list_fails_at, Leads, stays, goes}
use Rattle.ice_journal_laws.proofs.Leading.{failed_passes}
use Rattle.ice_journal_laws.proofs.Heads.{headed, tested_leads, all_left}
use Rattle.ice_journal_laws.proofs.Plaining.{Wrote, whole_says}
use Rattle.ice_journal_laws.proofs.Past.{past_begins, settled_right}
use Rattle.ice_journal_laws.proofs.Regretting.{AreSettled, IsAt, IsStanding, standing_more}

module _ (lawful : SectionIsLawful) (described : SectionRecords) (refutes : LogRefutes) (perturbed : PerturbedGivesRegret) where
  -- what stands at the end
  at_end : (version : Version) (rest : List Record) (s : State) → IsStanding version rest s → IsAt rest s done → AreRegretted (line.head version regret_kind ∷ rest) s
  at_end version rest s h (x, opening, settled, regret, tells) = (
    record { exchange = exchange_at s; settlement = x },
    record {
      says =
          whole_says version (goods_at s) regret_kind rest _ (subst (λ (v : Version). Wrote v (goods_at s) rest (section_records (exchange_at s) ++ (regret_records x ++ line.end regret_end ∷ []))) h.same_version tells.wrote)
          ∙ ap (λ (rs : List Record). line.head version_1 regret_kind ∷ rs) (sym (append_assoc (section_records (exchange_at s)) (regret_records x) (line.end regret_end ∷ [])));
      right = record {
        exchange = tells.exchange;
        settled = settled_right perturbed (exchange_at s) (opening_bounds (exchange_at s)) x (past_begins (exchange_at s) tells.exchange).lawful (subst (λ (bounds : List Bounds). AreSettled (exchange_at s) bounds x) opening settled);
      };
      exchange = refl;
      regret = regret;
    },
  )

  -- each record that passes goes along
  leads_standing : (version : Version) (before : List Record) (s t : State) (records : List Record) → AllByRecursion IsRecord (before ++ records) → IsStanding version before s → Leads (passing s) records (passing t)
      → IsStanding version (before ++ records) t
  leads_standing version before s t [] all h stays = subst (λ (rs : List Record). IsStanding version rs t) (sym (append-nil before)) h
  leads_standing version before s t (r ∷ rest) all h (goes (passes_on {after = after} list none holds is) l) =
      subst (λ (rs : List Record). IsStanding version rs t) (append_assoc before (r ∷ []) rest)
      (leads_standing version (before ++ r ∷ []) after t rest (subst (AllByRecursion IsRecord) (sym (append_assoc before (r ∷ []) rest)) all)
      (standing_more lawful described refutes version before s r after (all_left before (r ∷ rest) all) h is none holds) l)
  leads_standing version before s t (r ∷ rest) all h (goes (fails_at list f) l) = absurd (failed_passes _ rest t l)
  leads_standing version before s t (r ∷ rest) all h (goes (list_fails_at e n) l) = absurd (failed_passes _ rest t l)

  -- after a head of kind regret
  from_begun : (version : Version) (rest : List Record) (s : State) → AllByRecursion IsRecord rest → Leads (passing (begun version regret_kind)) rest (passing s) → s.place ≡ done
      → AreRegretted (line.head version regret_kind ∷ rest) s
  from_begun version rest s all l place =
      let h = leads_standing version [] (begun version regret_kind) s rest all (record { same_version = refl; kind = refl; place = refl }) l in
      at_end version rest s h (subst (λ (p : Place). IsAt rest s p) place h.place)

  pub done_is_regretted : DoneIsRegretted
  done_is_regretted journal s records l place kind =
      let h = headed journal s l in
      let k : h.kind ≡ regret_kind = sym h.same_kind ∙ kind in
      let is : journal ≡ line.head h.version regret_kind ∷ h.rest = h.is ∙ ap (λ (x : Kind). line.head h.version x ∷ h.rest) k in
      subst (λ (j : List Record). AreRegretted j s) (sym is)
      (from_begun h.version h.rest s (subst (AllByRecursion IsRecord) is records).1 (subst (λ (x : Kind). Leads (passing (begun h.version x)) h.rest (passing s)) k h.leads) place)

  pub checks_give_regret : ChecksGiveRegret
  checks_give_regret (line.head version kind ∷ rest) of_kind records (checked, tested) =
      let (end, l, e) = tested_leads (begun version regret_kind) rest (subst (λ (x : Kind). Tested (begun version x) rest None) of_kind tested) in
      let (r, is) = from_begun version rest end records.1 l e in
      (r, ap (λ (x : Kind). plain (line.head version x ∷ rest)) of_kind ∙ is.says, is.right)
  checks_give_regret (other ∷ rest) of_kind records (checked, tested) = absurd checked
  checks_give_regret [] of_kind records (checked, tested) = absurd checked

-- what stands where the records after a head of kind regret have come
pub regret_stands : (version : Version) (rest : List Record) (s : State) → AllByRecursion IsRecord rest → Leads (passing (begun version regret_kind)) rest (passing s) → IsStanding version rest s
regret_stands version rest s all l =
    leads_standing section_is_lawful section_records_are log_refutes perturbed_gives_regret version [] (begun version regret_kind) s rest all (record { same_version = refl; kind = refl; place = refl }) l

pub done_is_right : DoneIsRegretted
done_is_right = done_is_regretted section_is_lawful section_records_are log_refutes perturbed_gives_regret

pub checked_is_right : ChecksGiveRegret
checked_is_right = checks_give_regret section_is_lawful section_records_are log_refutes perturbed_gives_regret
