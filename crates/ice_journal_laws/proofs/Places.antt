-- What a record makes of the tests while the exchange is described.
use Rattle.std.proofs.Common.{◌≡◌, ◌<◌, ℕ, suc, Bool, true, false, cond, length, refl, sym, ◌∙◌, ap, arith, ◌⊎◌, inl, inr}
use Rattle.std.specs.Prelude.{◌||◌, is_none, nat_lt, Option, Some, None, is_some, option_map, Result, Ok, Err, IsSome}
use Rattle.std.proofs.lemmas.Bool.{and_parts, true≢false, false≢true}
use Rattle.std.proofs.lemmas.Option.{none-some}
use Rattle.ice_defs.specs.Exchange.{Settings}
use Rattle.ice_journal.specs.Records.{Record, Version, Kind}
use Rattle.ice_journal.specs.Records as line
use Rattle.ice_section.specs.Section.{Section, SectionFault, order, count, no_good, maker, take_record, may_end, exchange_in, settings_in, Draft}
use Rattle.ice_journal_laws.specs.declared.rule.Rule.{Rule}
use Rattle.ice_journal_laws.specs.declared.rule.Rule.TheVariants as rule
use Rattle.ice_journal_laws.specs.State.{Place, State}
use Rattle.ice_journal_laws.specs.Fields.{is_spent, is_limit, is_round_stop}
use Rattle.ice_journal_laws.specs.Next.{next, to_line, go_to, from_section, after_section, past_section}
use Rattle.ice_journal_laws.specs.Tests.{Fails, place_of, is_refusal, ended_list}
use Rattle.ice_journal_laws.specs.Progress.{passing, failed, TakesOn, passes_on, fails_at}
use Rattle.ice_journal_laws.specs.Assigning.{section_state, section_of, exchange_state}

-- ---- a record that may not stand there

pub fails_order : (s : State) (r : Record) → ended_list s.place r ≡ None → next s r ≡ None → TakesOn s r (failed (record { line = s.line; rule = rule.Order }))
fails_order s r list none = fails_at (λ z e. absurd (none-some z (sym list ∙ e))) (none, λ z l f. least z l f)
  where
    not_some : (o : Option State) → o ≡ None → ¬ IsSome o
    not_some None e h = false≢true h
    not_some (Some x) e h = none-some x (sym e)

    least : (z : Rule) → place_of z < 1 → ¬ Fails z s r
    least rule.Closed l h = not_some (next s r) none h.1
    least other l h = absurd (omega (arith, l))

-- ---- the section of the exchange

-- a record that describes something is no stop
abbrev describes : Record → Bool
describes (line.settings s) = true
describes (line.good name) = true
describes (line.exact name) = true
describes (line.bidder name own) = true
describes (line.choose least most children lo hi) = true
describes (line.buy good units lo hi) = true
describes (line.sell good units lo hi) = true
describes other = false

only_describing : (s : Section) (r : Record) (b : Bool) → describes r ≡ b → (take_record s r ≡ Err order) ⊎ (b ≡ true)
only_describing s r true e = inr refl
only_describing s r false e = inl (by r e)
  where
    by : (r : Record) → describes r ≡ false → take_record s r ≡ Err order
    by (line.settings s) e = absurd (true≢false e)
    by (line.good name) e = absurd (true≢false e)
    by (line.exact name) e = absurd (true≢false e)
    by (line.bidder name own) e = absurd (true≢false e)
    by (line.choose least most children lo hi) e = absurd (true≢false e)
    by (line.buy good units lo hi) e = absurd (true≢false e)
    by (line.sell good units lo hi) e = absurd (true≢false e)
    by other e = refl

no_stop : (r : Record) → describes r ≡ true → (is_spent r || is_limit r || is_round_stop 2 r) ≡ false
no_stop (line.settings s) e = refl
no_stop (line.good name) e = refl
no_stop (line.exact name) e = refl
no_stop (line.bidder name own) e = refl
no_stop (line.choose least most children lo hi) e = refl
no_stop (line.buy good units lo hi) e = refl
no_stop (line.sell good units lo hi) e = refl
no_stop other e = absurd (false≢true e)

-- a record that is taken or refused by a maker describes something
describes_where : (s : Section) (r : Record) → (take_record s r ≡ Err order → ⊥) → describes r ≡ true
describes_where s r not_order = by (only_describing s r (describes r) refl)
  where
    by : (take_record s r ≡ Err order) ⊎ (describes r ≡ true) → describes r ≡ true
    by (inl e) = absurd (not_order e)
    by (inr e) = e

pub section_next : (v : Version) (k : Kind) (number : ℕ) (s : Section) (r : Record) (o : Result Section SectionFault) → take_record s r ≡ o
    → next (section_state v k number s) r ≡ option_map (to_line (suc number)) (from_section (section_state v k number s) r o)
section_next v k number s r o e = ap (λ (x : Result Section SectionFault). option_map (to_line (suc number)) (from_section (section_state v k number s) r x)) e

pub section_on : (v : Version) (k : Kind) (number : ℕ) (s after : Section) (r : Record) → take_record s r ≡ Ok after → TakesOn (section_state v k number s) r (passing (section_state v k (suc number) after))
section_on v k number s after r taken = passes_on (λ z e. absurd (none-some z e)) quiet (record { leaf = tt; violation = tt; list = tt; verdict = tt }) (section_next v k number s r (Ok after) taken)
  where
    apart : Ok after ≡ Err order → ⊥
    apart e = cc

    quiet : (z : Rule) → ¬ Fails z (section_state v k number s) r
    quiet rule.Closed h = false≢true (sym (no_stop r (describes_where s r (λ e. apart (sym taken ∙ e)))) ∙ h.0)
    quiet rule.Order h = none-some _ (sym h ∙ section_next v k number s r (Ok after) taken)
    quiet rule.Exchange h = false≢true (ap is_refusal (sym taken) ∙ h.1)
    quiet other h = h

-- a maker refuses
pub section_refused : (v : Version) (k : Kind) (number : ℕ) (s : Section) (r : Record) → is_refusal (take_record s r) ≡ true → TakesOn (section_state v k number s) r (failed (record { line = number; rule = rule.Exchange }))
section_refused v k number s r refused = fails_at (λ z e. absurd (none-some z e)) ((refl, refused), least)
  where
    not_order : take_record s r ≡ Err order → ⊥
    not_order e = false≢true (sym (ap is_refusal e) ∙ refused)

    stays : (o : Result Section SectionFault) → is_refusal o ≡ true → take_record s r ≡ o → next (section_state v k number s) r ≡ None → ⊥
    stays (Ok after) refusal e none = false≢true refusal
    stays (Err order) refusal e none = false≢true refusal
    stays (Err count) refusal e none = none-some _ (sym none ∙ section_next v k number s r (Err count) e)
    stays (Err no_good) refusal e none = none-some _ (sym none ∙ section_next v k number s r (Err no_good) e)
    stays (Err (maker fault)) refusal e none = none-some _ (sym none ∙ section_next v k number s r (Err (maker fault)) e)

    least : (z : Rule) → place_of z < 3 → ¬ Fails z (section_state v k number s) r
    least rule.Closed l h = false≢true (sym (no_stop r (describes_where s r not_order)) ∙ h.0)
    least rule.Order l h = stays (take_record s r) refused refl h
    least rule.Short l h = h
    least other l h = absurd (omega (arith, l))

-- the exchange is complete, and what is stated behind it begins
module _ (v : Version) (k : Kind) (number : ℕ) (s : Section) (r : Record) (place : Place) (ended : may_end s ≡ true) (whole : s ≡ section_of (exchange_in s))
    (misfits : take_record s r ≡ Err order) (goes : after_section (past_section (section_state v k number s)) k r ≡ Some (go_to place (past_section (section_state v k number s)))) where
  Behind : State
  Behind = record (exchange_state v k (suc number) (exchange_in s)) { place = place }

  behind_is : next (section_state v k number s) r ≡ Some (record (exchange_state v k (suc number) (exchange_in s)) { place = place })
  behind_is =
      section_next v k number s r (Err order) misfits
      ∙ ap (λ (b : Bool). option_map (to_line (suc number)) (cond b (after_section (past_section (section_state v k number s)) k r) None)) ended
      ∙ ap (λ (o : Option State). option_map (to_line (suc number)) o) goes
      ∙ ap (λ (x : Section). let y : Option State = Some (record (exchange_state v k (suc number) (exchange_in s)) { section = x; place = place }) in y) whole

  pub section_leads : (is_spent r || is_limit r || is_round_stop 2 r) ≡ false → TakesOn (section_state v k number s) r (passing (record (exchange_state v k (suc number) (exchange_in s)) { place = place }))
  section_leads no_stop = passes_on (λ z e. absurd (none-some z e)) quiet (record { leaf = tt; violation = tt; list = tt; verdict = tt }) behind_is
    where
      quiet : (z : Rule) → ¬ Fails z (section_state v k number s) r
      quiet rule.Closed h = false≢true (sym no_stop ∙ h.0)
      quiet rule.Order h = none-some _ (sym h ∙ behind_is)
      quiet rule.Exchange h = false≢true (ap is_refusal (sym misfits) ∙ h.1)
      quiet other h = h

  -- a stop stands there
  pub section_stops : (is_spent r || is_limit r || is_round_stop 2 r) ≡ true → TakesOn (section_state v k number s) r (failed (record { line = number; rule = rule.Closed }))
  section_stops stop = fails_at (λ z e. absurd (none-some z e)) ((stop, ap is_some behind_is), λ z l f. absurd (omega (arith, l)))

pub section_is_whole : (s : Section) → is_some s.settings ≡ true → may_end s ≡ true → s ≡ section_of (exchange_in s)
section_is_whole s settings ended = λ i. record { settings = has_settings i; goods = s.goods; bidders = s.bidders; draft = no_draft i }
  where
    has_settings : s.settings ≡ Some (settings_in s.settings)
    has_settings = by s.settings settings
      where
        by : (o : Option Settings) → is_some o ≡ true → o ≡ Some (settings_in o)
        by None e = absurd (false≢true e)
        by (Some x) e = refl

    no_draft : s.draft ≡ None
    no_draft = by s.draft (and_parts (nat_lt 0 (length s.bidders)) (is_none s.draft) ended).1
      where
        by : (o : Option Draft) → is_none o ≡ true → o ≡ None
        by None e = refl
        by (Some x) e = absurd (false≢true e)
