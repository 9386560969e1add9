-- What a record makes of the tests at a group's head, at the regret, at the cut and the payments,
-- and at the end of a journal.
use Rattle.std.proofs.Common.{◌≡◌, ◌≢◌, ◌<◌, ◌+◌, ℕ, suc, Bool, true, false, eqb, [], List, ℤ, pos, ◌-ℤ◌, refl, sym, ◌∙◌, ap, arith, slice_index_or}
use Rattle.std.specs.Prelude.{◌||◌, Option, Some, None, option_map, option_and_then, if◌then◌else◌}
use Rattle.std.specs.Str.{bytes_eq}
use Rattle.std.proofs.lemmas.Bool.{false≢true}
use Rattle.std.proofs.lemmas.Option.{none-some}
use Rattle.ice_defs.specs.Exchange.{names_of}
use Rattle.ice_defs.specs.Fraction.{Fraction}
use Rattle.ice_defs.specs.Session.{Payment}
use Rattle.ice_defs.specs.declared.Group.{Group}
use Rattle.ice_defs.specs.declared.Group.TheVariants.{Assign, Final, Rival, Provisional, Without}
use Rattle.ice_journal.specs.Records.{Record, EndWord, assign_end, exchange_end, prices_end, regret_end, closed_end, open_end, spent_end, limit_end}
use Rattle.ice_journal.specs.Records as line
use Rattle.ice_journal_laws.specs.declared.rule.Rule.{Rule}
use Rattle.ice_journal_laws.specs.declared.rule.Rule.TheVariants as rule
use Rattle.ice_journal_laws.specs.State.{at_section, at_group, at_sets, at_regret, at_threshold, at_payment, at_end, at_spent_sets, done, State, exchange_at}
use Rattle.ice_journal_laws.specs.Fields.{head_value, is_spent, is_limit, is_round_stop, amount_in, same_end, is_end, Closing, threshold_in, payment_in}
use Rattle.ice_journal_laws.specs.Next.{next, to_line, go_to, from_head, if_true, after_regret, bidder_count}
use Rattle.ice_journal_laws.specs.Tests.{Fails, place_of, vickreys, IsThresholdLine, final_worth, IsPaymentLine}
use Rattle.ice_journal_laws.specs.Progress.{passing, failed, TakesOn, passes_on, fails_at}
use Rattle.ice_journal_laws.proofs.Places.{fails_order}

-- ---- a record is no stop

-- the head of a group
head_no_stop : (k : ℕ) (g : Group) (r : Record) (value : ℤ) → head_value g r ≡ Some value → (is_spent r || is_limit r || is_round_stop k r) ≡ false
head_no_stop k Assign r value e = absurd (none-some value e)
head_no_stop k Final (line.final stated) value e = refl
head_no_stop k Final other value e = absurd (none-some value e)
head_no_stop k Rival (line.rival stated) value e = refl
head_no_stop k Rival other value e = absurd (none-some value e)
head_no_stop k Provisional (line.provisional stated) value e = refl
head_no_stop k Provisional other value e = absurd (none-some value e)
head_no_stop k (Without b) (line.without bidder stated) value e = refl
head_no_stop k (Without b) other value e = absurd (none-some value e)

-- the last record of a journal, where it doesn't end for want of a round file
end_no_stop : (k : ℕ) (word : EndWord) (r : Record) → same_end open_end word ≡ false → is_end word r ≡ true → (is_spent r || is_limit r || is_round_stop k r) ≡ false
end_no_stop k word (line.end other) last e = by word other last e
  where
    by : (word other : EndWord) → same_end open_end word ≡ false → same_end word other ≡ true → (is_spent (line.end other) || is_limit (line.end other) || is_round_stop k (line.end other)) ≡ false
    by word assign_end last e = refl
    by word exchange_end last e = refl
    by word prices_end last e = refl
    by word regret_end last e = refl
    by word closed_end last e = refl
    by word spent_end last e = refl
    by word limit_end last e = refl
    by open_end open_end last e = absurd (false≢true (sym last))
    by assign_end open_end last e = absurd (false≢true e)
    by exchange_end open_end last e = absurd (false≢true e)
    by prices_end open_end last e = absurd (false≢true e)
    by regret_end open_end last e = absurd (false≢true e)
    by closed_end open_end last e = absurd (false≢true e)
    by spent_end open_end last e = absurd (false≢true e)
    by limit_end open_end last e = absurd (false≢true e)
end_no_stop k word other last e = absurd (false≢true e)

module _ (s : State) where
  -- ---- the head of a group

  abbrev AtHead : Group → State
  AtHead g = go_to (at_group g) s

  pub head_opens : (g : Group) (r : Record) (value : ℤ) → head_value g r ≡ Some value
      → TakesOn (go_to (at_group g) s) r (passing (to_line (suc s.line) (go_to (at_sets g (record { value = value; sets = [] })) s)))
  head_opens g r value e = passes_on (λ z f. absurd (none-some z f)) quiet (record { leaf = tt; violation = tt; list = tt; verdict = tt }) is
    where
      is : next (AtHead g) r ≡ Some (to_line (suc s.line) (go_to (at_sets g (record { value = value; sets = [] })) s))
      is = ap (λ (o : Option ℤ). option_map (to_line (suc s.line)) (from_head (AtHead g) g r o)) e

      apart : at_group g ≡ at_section → ⊥
      apart f = cc

      quiet : (z : Rule) → ¬ Fails z (AtHead g) r
      quiet rule.Closed h = false≢true (sym (head_no_stop (s.number + 2) g r value e) ∙ h.0)
      quiet rule.Order h = none-some _ (sym h ∙ is)
      quiet rule.Exchange h = apart h.0
      quiet other h = h

  -- a stop in its place
  pub head_spent : (g : Group) (r : Record) → is_spent r ≡ true → TakesOn (go_to (at_group g) s) r (failed (record { line = s.line; rule = rule.Closed }))
  head_spent Assign (line.spent value bound) e = fails_at (λ z e. absurd (none-some z e)) ((refl, refl), λ z l f. absurd (omega (arith, l)))
  head_spent Final (line.spent value bound) e = fails_at (λ z e. absurd (none-some z e)) ((refl, refl), λ z l f. absurd (omega (arith, l)))
  head_spent Rival (line.spent value bound) e = fails_at (λ z e. absurd (none-some z e)) ((refl, refl), λ z l f. absurd (omega (arith, l)))
  head_spent Provisional (line.spent value bound) e = fails_at (λ z e. absurd (none-some z e)) ((refl, refl), λ z l f. absurd (omega (arith, l)))
  head_spent (Without b) (line.spent value bound) e = fails_at (λ z e. absurd (none-some z e)) ((refl, refl), λ z l f. absurd (omega (arith, l)))
  head_spent g other e = absurd (false≢true e)

  -- or another record
  pub head_missing : (g : Group) (r : Record) → head_value g r ≡ None → is_spent r ≡ false → TakesOn (go_to (at_group g) s) r (failed (record { line = s.line; rule = rule.Order }))
  head_missing g r none other =
      fails_order (AtHead g) r refl
      (ap (λ (o : Option ℤ). option_map (to_line (suc s.line)) (from_head (AtHead g) g r o)) none
      ∙ ap (λ (b : Bool). option_map (to_line (suc s.line)) (if_true b (go_to (at_spent_sets 0) (AtHead g)))) other)

  -- ---- the regret

  abbrev AtRegret : State
  AtRegret = go_to at_regret s

  pub amount_missing : (r : Record) → amount_in r ≡ None → TakesOn (go_to at_regret s) r (failed (record { line = s.line; rule = rule.Order }))
  amount_missing r none = fails_order AtRegret r refl (ap (λ (o : Option ℤ). option_map (to_line (suc s.line)) (option_map (λ amount. after_regret (record AtRegret { regret = amount }) s.kind) o)) none)

  pub amount_wrong : (amount : ℤ) → amount ≢ (s.rival -ℤ s.final.value) → TakesOn (go_to at_regret s) (line.regret amount) (failed (record { line = s.line; rule = rule.Regret }))
  amount_wrong amount ne = fails_at (λ z e. absurd (none-some z e)) (ne, least)
    where
      least : (z : Rule) → place_of z < 16 → ¬ Fails z AtRegret (line.regret amount)
      least rule.Closed l h = false≢true h.0
      least rule.Order l h = none-some _ (sym h)
      least rule.Exchange l h = false≢true h.1
      least rule.Regret l h = absurd (omega (arith, l))
      least other l h = h

  pub amount_right : (amount : ℤ) → amount ≡ (s.rival -ℤ s.final.value)
      → TakesOn (go_to at_regret s) (line.regret amount) (passing (to_line (suc s.line) (after_regret (record (go_to at_regret s) { regret = amount }) s.kind)))
  amount_right amount is = passes_on (λ z e. absurd (none-some z e)) quiet (record { leaf = tt; violation = tt; list = tt; verdict = tt }) refl
    where
      quiet : (z : Rule) → ¬ Fails z AtRegret (line.regret amount)
      quiet rule.Closed h = false≢true h.0
      quiet rule.Order h = none-some _ (sym h)
      quiet rule.Exchange h = false≢true h.1
      quiet rule.Regret h = h is
      quiet other h = h

  -- ---- the threshold

  abbrev AtThreshold : State
  AtThreshold = go_to at_threshold s

  abbrev closing : Fraction → Fraction → Closing
  closing cut surplus = record { cut = cut; surplus = surplus }

  pub threshold_missing : (r : Record) → threshold_in r ≡ None → TakesOn (go_to at_threshold s) r (failed (record { line = s.line; rule = rule.Order }))
  threshold_missing r none = fails_order AtThreshold r refl (ap (λ (o : Option Closing). option_map (to_line (suc s.line)) (option_map (λ c. go_to (at_payment 0) (record AtThreshold { cut = c.cut; surplus = c.surplus })) o)) none)

  pub threshold_wrong : (cut surplus : Fraction) → ¬ IsThresholdLine (vickreys s) s.final.value (record { cut = cut; surplus = surplus })
      → TakesOn (go_to at_threshold s) (line.threshold cut surplus) (failed (record { line = s.line; rule = rule.Threshold }))
  threshold_wrong cut surplus other = fails_at (λ z e. absurd (none-some z e)) (other, least)
    where
      least : (z : Rule) → place_of z < 22 → ¬ Fails z AtThreshold (line.threshold cut surplus)
      least rule.Closed l h = false≢true h.0
      least rule.Order l h = none-some _ (sym h)
      least rule.Exchange l h = false≢true h.1
      least rule.Threshold l h = absurd (omega (arith, l))
      least other l h = h

  pub threshold_right : (cut surplus : Fraction) → IsThresholdLine (vickreys s) s.final.value (record { cut = cut; surplus = surplus })
      → TakesOn (go_to at_threshold s) (line.threshold cut surplus) (passing (to_line (suc s.line) (go_to (at_payment 0) (record s { cut = cut; surplus = surplus }))))
  threshold_right cut surplus is = passes_on (λ z e. absurd (none-some z e)) quiet (record { leaf = tt; violation = tt; list = tt; verdict = tt }) refl
    where
      quiet : (z : Rule) → ¬ Fails z AtThreshold (line.threshold cut surplus)
      quiet rule.Closed h = false≢true h.0
      quiet rule.Order h = none-some _ (sym h)
      quiet rule.Exchange h = false≢true h.1
      quiet rule.Threshold h = h is
      quiet other h = h

  -- ---- the payments

  module _ (b : ℕ) where
    abbrev AtPayment : State
    AtPayment = go_to (at_payment b) s

    abbrev name : List ℕ
    name = slice_index_or (names_of (exchange_at s)) b []

    abbrev after_payment : State
    after_payment = go_to (if eqb (suc b) (bidder_count s) then at_end closed_end else at_payment (suc b)) s

    abbrev from : Option Payment → Option State
    from o = option_map (to_line (suc s.line)) (option_and_then (λ (p : Payment). if_true (bytes_eq p.name name) after_payment) o)

    pub payment_missing : (r : Record) → payment_in r ≡ None → TakesOn (go_to (at_payment b) s) r (failed (record { line = s.line; rule = rule.Order }))
    payment_missing r none = fails_order AtPayment r refl (ap from none)

    module _ (p : Payment) where
      abbrev stated : Record
      stated = line.payment p.name p.vickrey p.discount p.payment

      goes : (named : Bool) → bytes_eq p.name (slice_index_or (names_of (exchange_at s)) b []) ≡ named → next AtPayment stated ≡ option_map (to_line (suc s.line)) (if_true named after_payment)
      goes named e = ap (λ (t : Bool). option_map (to_line (suc s.line)) (if_true t after_payment)) e

      pub payment_misnamed : bytes_eq p.name (slice_index_or (names_of (exchange_at s)) b []) ≡ false
          → TakesOn (go_to (at_payment b) s) (line.payment p.name p.vickrey p.discount p.payment) (failed (record { line = s.line; rule = rule.Order }))
      payment_misnamed other = fails_order AtPayment stated refl (goes false other)

      pub payment_wrong : bytes_eq p.name (slice_index_or (names_of (exchange_at s)) b []) ≡ true → ¬ IsPaymentLine (slice_index_or (vickreys s) b (pos 0)) (final_worth s b) s.cut p
          → TakesOn (go_to (at_payment b) s) (line.payment p.name p.vickrey p.discount p.payment) (failed (record { line = s.line; rule = rule.Payment }))
      payment_wrong named other = fails_at (λ z e. absurd (none-some z e)) (other, least)
        where
          least : (z : Rule) → place_of z < 23 → ¬ Fails z AtPayment stated
          least rule.Closed l h = false≢true h.0
          least rule.Order l h = none-some _ (sym h ∙ goes true named)
          least rule.Exchange l h = false≢true h.1
          least rule.Payment l h = absurd (omega (arith, l))
          least other l h = h

      pub payment_right : bytes_eq p.name (slice_index_or (names_of (exchange_at s)) b []) ≡ true → IsPaymentLine (slice_index_or (vickreys s) b (pos 0)) (final_worth s b) s.cut p
          → TakesOn (go_to (at_payment b) s) (line.payment p.name p.vickrey p.discount p.payment)
          (passing (to_line (suc s.line) (go_to (if eqb (suc b) (bidder_count s) then at_end closed_end else at_payment (suc b)) s)))
      payment_right named is = passes_on (λ z e. absurd (none-some z e)) quiet (record { leaf = tt; violation = tt; list = tt; verdict = tt }) (goes true named)
        where
          quiet : (z : Rule) → ¬ Fails z AtPayment stated
          quiet rule.Closed h = false≢true h.0
          quiet rule.Order h = none-some _ (sym h ∙ goes true named)
          quiet rule.Exchange h = false≢true h.1
          quiet rule.Payment h = h is
          quiet other h = h

  -- ---- the end

  abbrev AtEnd : EndWord → State
  AtEnd word = go_to (at_end word) s

  pub ends : (word : EndWord) (r : Record) → same_end open_end word ≡ false → is_end word r ≡ true → TakesOn (go_to (at_end word) s) r (passing (to_line (suc s.line) (go_to done s)))
  ends word r last e = passes_on (λ z e. absurd (none-some z e)) quiet (record { leaf = tt; violation = tt; list = tt; verdict = tt }) is
    where
      is : next (AtEnd word) r ≡ Some (to_line (suc s.line) (go_to done s))
      is = ap (λ (b : Bool). option_map (to_line (suc s.line)) (if_true b (go_to done (AtEnd word)))) e

      apart : at_end word ≡ at_section → ⊥
      apart f = cc

      quiet : (z : Rule) → ¬ Fails z (AtEnd word) r
      quiet rule.Closed f = false≢true (sym (end_no_stop (s.number + 2) word r last e) ∙ f.0)
      quiet rule.Order f = none-some _ (sym f ∙ is)
      quiet rule.Exchange f = apart f.0
      quiet other f = f

  pub unended : (word : EndWord) (r : Record) → is_end word r ≡ false → TakesOn (go_to (at_end word) s) r (failed (record { line = s.line; rule = rule.Order }))
  unended word r other = fails_order (AtEnd word) r refl (ap (λ (b : Bool). option_map (to_line (suc s.line)) (if_true b (go_to done (AtEnd word)))) other)

  -- nothing follows the end
  pub passed : (r : Record) → TakesOn (go_to done s) r (failed (record { line = s.line; rule = rule.Order }))
  passed r = fails_order (go_to done s) r refl refl
