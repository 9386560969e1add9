-- What a record makes of the tests where the exchange may be complete.
use Rattle.std.proofs.Common.{◌≡◌, ℕ, suc, Bool, true, false, cond, eqb, [], ℤ, pos, refl, sym, ◌∙◌, ap, subst}
use Rattle.std.specs.Prelude.{◌&&◌, Option, Some, None, is_some, option_map, Err}
use Rattle.std.proofs.lemmas.Bool.{or_parts, true≢false, false≢true}
use Rattle.std.proofs.lemmas.Option.{none-some}
use Rattle.ice_defs.specs.Exchange.{Settings}
use Rattle.ice_defs.specs.declared.Group.TheVariants.{Assign, Final}
use Rattle.ice_journal.specs.Records.{Record, version_1, assign_kind, regret_kind, session_kind}
use Rattle.ice_journal.specs.Records as line
use Rattle.ice_journal.specs.Lines.{version_of}
use Rattle.ice_section.specs.Section.{Section, order, take_record, may_end, exchange_in}
use Rattle.ice_journal_laws.specs.declared.rule.Rule.TheVariants as rule
use Rattle.ice_check_records.specs.declared.head.Head.{Head}
use Rattle.ice_check_records.specs.declared.head.Head.TheVariants as head
use Rattle.ice_journal_laws.specs.State.{at_group, at_sets, at_spent_sets}
use Rattle.ice_journal_laws.specs.Fields.{is_assign, is_spent, final_value}
use Rattle.ice_journal_laws.specs.Next.{to_line, go_to, after_section, past_section, from_head, if_true}
use Rattle.ice_journal_laws.specs.Progress.{passing, failed, TakesOn}
use Rattle.ice_check_records.specs.declared.opening.Opening.{Opening}
use Rattle.ice_check_records.specs.declared.opening.Opening.TheVariants.{Sets, Settlement}
use Rattle.ice_check_records.specs.Heads.{version_of_head, kind_of_head}
use Rattle.ice_check_records.specs.Openings.{opened_place, Opens, stops_first, ends_section}
use Rattle.ice_journal_laws.specs.Assigning.{section_state, section_of, exchange_state}
use Rattle.ice_check_records.specs.Stating.{HasSettings}
use Rattle.ice_journal_laws.proofs.Places.{fails_order, section_next, section_leads, section_stops, section_is_whole}
use Rattle.ice_journal_laws.proofs.Single.{some_same}

-- the record may not stand there
misplaced : (head : Head) (number : ℕ) (s : Section) (r : Record) (ended ends : Bool) → may_end s ≡ ended → ends_section head r ≡ ends → (ended && ends) ≡ false
    → option_map (to_line (suc number)) (cond ended (after_section (past_section (section_state (version_of_head head) (kind_of_head head) number s)) (kind_of_head head) r) None) ≡ None
misplaced head number s r false ends e f none = refl
misplaced head number s r true true e f none = absurd (true≢false none)
misplaced head.Assign number s r true false e f none =
    ap (λ (b : Bool). option_map (to_line (suc number)) (if_true b (go_to (at_sets Assign (record { value = pos 0; sets = [] })) (past_section (section_state version_1 assign_kind number s)))))
    (or_parts (is_assign r) false f).0
misplaced (head.Regret version) number s r true false e f none =
    ap (λ (o : Option ℤ). option_map (to_line (suc number)) (from_head (past_section (section_state (version_of version) regret_kind number s)) Final r o)) (no_value (final_value r) (or_parts (is_some (final_value r)) (is_spent r) f).0)
    ∙ ap (λ (b : Bool). option_map (to_line (suc number)) (if_true b (go_to (at_spent_sets 0) (past_section (section_state (version_of version) regret_kind number s))))) (or_parts (is_some (final_value r)) (is_spent r) f).1
  where
    no_value : (o : Option ℤ) → is_some o ≡ false → o ≡ None
    no_value None e = refl
    no_value (Some x) e = absurd (true≢false e)
misplaced (head.Session version) number s (line.settle settlement) true false e f none =
    ap (λ (b : Bool). option_map (to_line (suc number)) (if_true b (go_to (at_group Final) (past_section (section_state (version_of version) session_kind number s)))))
    (or_parts (eqb settlement 0) false f).0
misplaced (head.Session version) number s other true false e f none = refl

pub section_misplaced : (head : Head) (number : ℕ) (s : Section) (r : Record) → take_record s r ≡ Err order → (may_end s && ends_section head r) ≡ false
    → TakesOn (section_state (version_of_head head) (kind_of_head head) number s) r (failed (record { line = number; rule = rule.Order }))
section_misplaced head number s r taken other =
    fails_order (section_state (version_of_head head) (kind_of_head head) number s) r refl
    (section_next (version_of_head head) (kind_of_head head) number s r (Err order) taken ∙ misplaced head number s r (may_end s) (ends_section head r) refl refl other)

-- before its settings nothing stands in a section, so one that may end has them
pub section_has_all : (s : Section) → HasSettings s → may_end s ≡ true → s ≡ section_of (exchange_in s)
section_has_all s begun ended = section_is_whole s (there s.settings refl) ended
  where
    there : (o : Option Settings) → s.settings ≡ o → is_some s.settings ≡ true
    there None e = absurd (false≢true (ap may_end (sym (begun e)) ∙ ended))
    there (Some x) e = ap is_some e

-- the record begins what stands behind the exchange
pub section_opens : (h : Head) (number : ℕ) (s : Section) (r : Record) (opening : Opening) → HasSettings s → may_end s ≡ true → Opens h r opening
    → TakesOn (section_state (version_of_head h) (kind_of_head h) number s) r
    (passing (go_to (opened_place opening) (exchange_state (version_of_head h) (kind_of_head h) (suc number) (exchange_in s))))
section_opens head.Assign number s line.assign (Sets Assign value) begun ended (is, none) =
    subst (λ (z : ℤ). TakesOn (section_state version_1 assign_kind number s) line.assign (passing (go_to (at_sets Assign (record { value = z; sets = [] })) (exchange_state version_1 assign_kind (suc number) (exchange_in s)))))
    (sym none)
    (section_leads version_1 assign_kind number s line.assign (at_sets Assign (record { value = pos 0; sets = [] })) ended (section_has_all s begun ended) refl refl refl)
section_opens head.Assign number s other (Sets Assign value) begun ended (is, none) = absurd (false≢true is)
section_opens (head.Regret version) number s (line.final stated) (Sets Final value) begun ended e =
    subst (λ (z : ℤ). TakesOn (section_state (version_of version) regret_kind number s) (line.final stated) (passing (go_to (at_sets Final (record { value = z; sets = [] })) (exchange_state (version_of version) regret_kind (suc number) (exchange_in s)))))
    (some_same (Some value) stated value (sym e) refl)
    (section_leads (version_of version) regret_kind number s (line.final stated) (at_sets Final (record { value = stated; sets = [] })) ended (section_has_all s begun ended) refl refl refl)
section_opens (head.Regret version) number s other (Sets Final value) begun ended e = absurd (none-some value e)
section_opens (head.Session version) number s (line.settle settlement) Settlement begun ended e =
    section_leads (version_of version) session_kind number s (line.settle settlement) (at_group Final) ended (section_has_all s begun ended) refl
    (ap (λ (b : Bool). if_true b (go_to (at_group Final) (past_section (section_state (version_of version) session_kind number s)))) e) refl
section_opens (head.Session version) number s other Settlement begun ended e = absurd (false≢true e)
section_opens h number s r other begun ended e = absurd e

-- or a stop stands in its place
pub section_spent : (h : Head) (number : ℕ) (s : Section) (r : Record) → HasSettings s → may_end s ≡ true → stops_first h r ≡ true
    → TakesOn (section_state (version_of_head h) (kind_of_head h) number s) r (failed (record { line = number; rule = rule.Closed }))
section_spent head.Assign number s r begun ended stops = absurd (false≢true stops)
section_spent (head.Regret version) number s (line.spent value bound) begun ended stops =
    section_stops (version_of version) regret_kind number s (line.spent value bound) (at_spent_sets 0) ended (section_has_all s begun ended) refl refl refl
section_spent (head.Regret version) number s other begun ended stops = absurd (false≢true stops)
section_spent (head.Session version) number s r begun ended stops = absurd (false≢true stops)
