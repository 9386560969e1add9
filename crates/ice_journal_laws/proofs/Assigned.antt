-- An assign journal that passes each test states a lawful exchange and a feasible assignment of it.
use Rattle.std.proofs.Common.{◌≡◌, true, List, [], ◌∷◌, ◌++◌, map, refl, sym, ◌∙◌, ap, subst}
use Rattle.std.specs.Prelude.{None}
use Rattle.std.specs.List.{AllByRecursion}
use Rattle.std.proofs.lemmas.List.{append_assoc, append-nil}
use Rattle.std.proofs.lemmas.Bool.{false≢true}
use Rattle.ice_defs.specs.Session.{Assigned}
use Rattle.ice_journal.specs.Records.{Record, Version, version_1, version_2, Kind, assign_kind, assign_end}
use Rattle.ice_journal.specs.Records as line
use Rattle.ice_journal.specs.Ranges.{IsRecord}
use Rattle.ice_journal.specs.Plain.{plain}
use Rattle.ice_section.specs.Laws.{SectionIsLawful, SectionRecords}
use Rattle.ice_section.proofs.Whole.{section_is_lawful, section_records_are}
use Rattle.ice_journal_laws.specs.State.{Place, done, State, begun}
use Rattle.ice_journal_laws.specs.Checks.{is_checked, Tested}
use Rattle.ice_journal_laws.specs.Theorems.{Says, IsRightAssigned, assigned_at, AreAssigned, DoneIsAssigned, ChecksGiveAssigned}
use Rattle.ice_journal_laws.specs.Written.{assigned_records}
use Rattle.ice_journal_laws.specs.Progress.{nothing, passing, passes_on, fails_at, list_fails_at, Leads, stays, goes}
use Rattle.ice_journal_laws.proofs.Leading.{failed_passes}
use Rattle.ice_journal_laws.proofs.Heads.{headed, tested_leads, all_left}
use Rattle.ice_journal_laws.proofs.Assigning.{IsAt, IsStanding, standing_more}

-- each record that passes goes along
leads_standing : (before : List Record) (s t : State) (records : List Record) → IsStanding before s → Leads (passing s) records (passing t) → IsStanding (before ++ records) t
leads_standing before s t [] h stays = subst (λ (rs : List Record). IsStanding rs t) (sym (append-nil before)) h
leads_standing before s t (r ∷ rest) h (goes (passes_on {after = after} list none holds is) l) =
    subst (λ (rs : List Record). IsStanding rs t) (append_assoc before (r ∷ []) rest) (leads_standing (before ++ r ∷ []) after t rest (standing_more before s r after h is none) l)
leads_standing before s t (r ∷ rest) h (goes (fails_at list f) l) = absurd (failed_passes _ rest t l)
leads_standing before s t (r ∷ rest) h (goes (list_fails_at e n) l) = absurd (failed_passes _ rest t l)

-- the records after the head, which is one of kind assign
pub record IsStanding_after_head (journal : List Record) (s : State) : Type 0 where
  pub rest : List Record
  pub is : journal ≡ line.head version_1 assign_kind ∷ rest
  pub standing : IsStanding rest s

only_first : (version : Version) → is_checked version assign_kind ≡ true → version ≡ version_1
only_first version_1 e = refl
only_first version_2 e = absurd (false≢true e)

from_begun : (version : Version) (kind : Kind) (rest : List Record) (s : State) → version ≡ version_1 → kind ≡ assign_kind → Leads (passing (begun version kind)) rest (passing s) → IsStanding_after_head (line.head version kind ∷ rest) s
from_begun version kind rest s v k l = record {
  rest = rest;
  is = ap (λ (x : Version). line.head x kind ∷ rest) v ∙ ap (λ (x : Kind). line.head version_1 x ∷ rest) k;
  standing = leads_standing [] (begun version kind) s rest (record { kind = k; place = refl }) l;
}

pub standing_journal : (journal : List Record) (s : State) → s.kind ≡ assign_kind → Leads nothing journal (passing s) → IsStanding_after_head journal s
standing_journal journal s kind l =
    let h = headed journal s l in
    let k : h.kind ≡ assign_kind = sym h.same_kind ∙ kind in
    subst (λ (j : List Record). IsStanding_after_head j s) (sym h.is)
    (from_begun h.version h.kind h.rest s (only_first h.version (subst (λ (x : Kind). is_checked h.version x ≡ true) k h.checked)) k h.leads)

module _ (lawful : SectionIsLawful) (described : SectionRecords) where
  assigned_at_end : (journal : List Record) (s : State) → AllByRecursion IsRecord journal → (h : IsStanding_after_head journal s) → IsAt h.rest s done → AreAssigned journal s
  assigned_at_end journal s records h (section, is, said, feasible) = record {
    says = ap plain h.is ∙ ap (λ (rest : List Record). line.head version_1 assign_kind ∷ rest) (said ∙ ap (λ (rs : List Record). rs ++ line.assign ∷ map line.set s.final.sets ++ line.end assign_end ∷ []) (described section s.section is.taken is.ended));
    right = record { exchange = lawful section s.section of_section is.taken is.ended; feasible = feasible };
    bounds = is.opening;
  }
    where
      of_section : AllByRecursion IsRecord section
      of_section =
          let after_head : AllByRecursion IsRecord h.rest = (subst (AllByRecursion IsRecord) h.is records).1 in
          all_left section _ (all_left (section ++ line.assign ∷ map line.set s.final.sets) (line.end assign_end ∷ []) (subst (AllByRecursion IsRecord) said after_head))

  pub done_is_assigned : DoneIsAssigned
  done_is_assigned journal s records l place kind =
      let h = standing_journal journal s kind l in
      assigned_at_end journal s records h (subst (λ (p : Place). IsAt h.rest s p) place h.standing.place)

  of_checked : (version : Version) (kind : Kind) (rest : List Record) → version ≡ version_1 → kind ≡ assign_kind → AllByRecursion IsRecord (line.head version kind ∷ rest)
      → is_checked version kind ≡ true → Tested (begun version kind) rest None → (a : Assigned) × Says (line.head version kind ∷ rest) (assigned_records a) × IsRightAssigned a
  of_checked version kind rest v k records checked tested =
      let (end, l, e) = tested_leads (begun version kind) rest tested in
      let h = from_begun version kind rest end v k l in
      let found = assigned_at_end (line.head version kind ∷ rest) end records h (subst (λ (p : Place). IsAt h.rest end p) e h.standing.place) in
      (assigned_at end, found.says, found.right)

  pub checks_give_assigned : ChecksGiveAssigned
  checks_give_assigned (line.head version kind ∷ rest) of_kind records (checked, tested) =
      of_checked version kind rest (only_first version (subst (λ (x : Kind). is_checked version x ≡ true) of_kind checked)) of_kind records checked tested
  checks_give_assigned (other ∷ rest) of_kind records (checked, tested) = absurd checked
  checks_give_assigned [] of_kind records (checked, tested) = absurd checked

pub done_is_right : DoneIsAssigned
done_is_right = done_is_assigned section_is_lawful section_records_are

pub checked_is_right : ChecksGiveAssigned
checked_is_right = checks_give_assigned section_is_lawful section_records_are
