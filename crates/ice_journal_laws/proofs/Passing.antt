-- An assign journal that passes every test: so the tests can be passed.
use Rattle.std.proofs.Common.{true≢false, inl, inr, subst, refl, sym, ◌∙◌, arith, ◌≡◌, ℕ, Bool, true, false, [], ◌∷◌}
use Rattle.std.specs.Prelude.{◌+◌, ◌<◌, ◌≤◌, ◌≢◌, ◌⊎◌, ◌||◌, take, pos, Some, None, unwrap_or}
use Rattle.std.proofs.lemmas.Option.{none-some}
use Rattle.std.proofs.lemmas.Int.{ints}
use Rattle.ice_defs.specs.declared.SatRule.{SatRule}
use Rattle.ice_defs.specs.declared.SatRule.TheVariants.{Parent, Few, Many}
use Rattle.ice_defs.specs.declared.NodeKind.TheVariants.{Buy, Sell}
use Rattle.ice_defs.specs.Sale.{all_sets, satisfied_sets, greatest_sale}
use Rattle.ice_defs.specs.Trade.{is_exact, IsCovered, total_units}
use Rattle.ice_journal.specs.Records.{Record, version_1, assign_kind, assign_end}
use Rattle.ice_journal.specs.Records as line
use Rattle.ice_section.specs.Section.{take_record}
use Rattle.ice_journal_laws.specs.declared.rule.Rule.{Rule}
use Rattle.ice_journal_laws.specs.declared.rule.Rule.TheVariants as rule
use Rattle.ice_defs.specs.declared.Group.TheVariants.{Assign}
use Rattle.ice_journal_laws.specs.Fields.{is_spent, is_limit, is_round_stop}
use Rattle.ice_journal_laws.specs.State.{at_section, at_sets, at_end, State, Stated, begun}
use Rattle.ice_journal_laws.specs.Next.{next, go_to, after_all}
use Rattle.ice_journal_laws.specs.Tests.{Fails, is_refusal, IsMiscounted, IsUnsatisfied, IsUnbalanced, IsMisvalued}
use Rattle.ice_journal_laws.specs.Checks.{Tested, passes, goes_on, Checks}
use Rattle.ice_journal_laws.proofs.Worked.{market, one, assigned}

not_both : {b : Bool} → b ≡ false → b ≡ true → ⊥
not_both f t = true≢false (sym t ∙ f)

is_stop : State → Record → Bool
is_stop s r = is_spent r || is_limit r || is_round_stop (s.number + 2) r

-- a record of the exchange fails no test where it may stand and no maker refuses
section_quiet : (s : State) (r : Record) (after : State) → next (go_to at_section s) r ≡ Some after → is_stop s r ≡ false → is_refusal (take_record s.section r) ≡ false → (x : Rule) → ¬ Fails x (go_to at_section s) r
unfolding is_stop
section_quiet s r after n st ref rule.Closed h = not_both st h.0
section_quiet s r after n st ref rule.Order h = none-some after (sym h ∙ n)
section_quiet s r after n st ref rule.Exchange h = not_both ref h.1
section_quiet s r after n st ref rule.Short h = h
section_quiet s r after n st ref rule.Count h = h
section_quiet s r after n st ref rule.Parent h = h
section_quiet s r after n st ref rule.Few h = h
section_quiet s r after n st ref rule.Many h = h
section_quiet s r after n st ref rule.Fixing h = h
section_quiet s r after n st ref rule.Excess h = h
section_quiet s r after n st ref rule.Value h = h
section_quiet s r after n st ref rule.Near h = h
section_quiet s r after n st ref rule.Sign h = h
section_quiet s r after n st ref rule.Fixed h = h
section_quiet s r after n st ref rule.Above h = h
section_quiet s r after n st ref rule.Alive h = h
section_quiet s r after n st ref rule.Regret h = h
section_quiet s r after n st ref rule.Prices h = h
section_quiet s r after n st ref rule.Violation h = h
section_quiet s r after n st ref rule.Accuracy h = h
section_quiet s r after n st ref rule.Balance h = h
section_quiet s r after n st ref rule.Verdict h = h
section_quiet s r after n st ref rule.Threshold h = h
section_quiet s r after n st ref rule.Payment h = h

-- the last record
end_quiet : (s : State) (r : Record) (after : State) → next (go_to (at_end assign_end) s) r ≡ Some after → is_stop s r ≡ false → is_refusal (take_record s.section r) ≡ false → (x : Rule) → ¬ Fails x (go_to (at_end assign_end) s) r
unfolding is_stop
end_quiet s r after n st ref rule.Closed h = not_both st h.0
end_quiet s r after n st ref rule.Order h = none-some after (sym h ∙ n)
end_quiet s r after n st ref rule.Exchange h = not_both ref h.1
end_quiet s r after n st ref rule.Short h = h
end_quiet s r after n st ref rule.Count h = h
end_quiet s r after n st ref rule.Parent h = h
end_quiet s r after n st ref rule.Few h = h
end_quiet s r after n st ref rule.Many h = h
end_quiet s r after n st ref rule.Fixing h = h
end_quiet s r after n st ref rule.Excess h = h
end_quiet s r after n st ref rule.Value h = h
end_quiet s r after n st ref rule.Near h = h
end_quiet s r after n st ref rule.Sign h = h
end_quiet s r after n st ref rule.Fixed h = h
end_quiet s r after n st ref rule.Above h = h
end_quiet s r after n st ref rule.Alive h = h
end_quiet s r after n st ref rule.Regret h = h
end_quiet s r after n st ref rule.Prices h = h
end_quiet s r after n st ref rule.Violation h = h
end_quiet s r after n st ref rule.Accuracy h = h
end_quiet s r after n st ref rule.Balance h = h
end_quiet s r after n st ref rule.Verdict h = h
end_quiet s r after n st ref rule.Threshold h = h
end_quiet s r after n st ref rule.Payment h = h

-- a set fails no test where it is counted, satisfied, and balanced if it is the last
set_quiet : (s : State) (found : Stated) (r : Record) (after : State) → next (go_to (at_sets Assign found) s) r ≡ Some after → is_stop s r ≡ false → is_refusal (take_record s.section r) ≡ false
    → ¬ IsMiscounted (go_to (at_sets Assign found) s) r → ((k : SatRule) → ¬ IsUnsatisfied k (go_to (at_sets Assign found) s) r)
    → ¬ IsUnbalanced (go_to (at_sets Assign found) s) r → ¬ IsMisvalued (go_to (at_sets Assign found) s) r
    → (x : Rule) → ¬ Fails x (go_to (at_sets Assign found) s) r
unfolding is_stop
set_quiet s found r after n st ref c u e v rule.Closed h = not_both st h.0
set_quiet s found r after n st ref c u e v rule.Order h = none-some after (sym h ∙ n)
set_quiet s found r after n st ref c u e v rule.Exchange h = not_both ref h.1
set_quiet s found r after n st ref c u e v rule.Short h = h
set_quiet s found r after n st ref c u e v rule.Count h = c h
set_quiet s found r after n st ref c u e v rule.Parent h = u Parent h
set_quiet s found r after n st ref c u e v rule.Few h = u Few h
set_quiet s found r after n st ref c u e v rule.Many h = u Many h
set_quiet s found r after n st ref c u e v rule.Fixing h = h
set_quiet s found r after n st ref c u e v rule.Excess h = e h
set_quiet s found r after n st ref c u e v rule.Value h = v h
set_quiet s found r after n st ref c u e v rule.Near h = h
set_quiet s found r after n st ref c u e v rule.Sign h = h
set_quiet s found r after n st ref c u e v rule.Fixed h = h
set_quiet s found r after n st ref c u e v rule.Above h = h
set_quiet s found r after n st ref c u e v rule.Alive h = h
set_quiet s found r after n st ref c u e v rule.Regret h = h
set_quiet s found r after n st ref c u e v rule.Prices h = h
set_quiet s found r after n st ref c u e v rule.Violation h = h
set_quiet s found r after n st ref c u e v rule.Accuracy h = h
set_quiet s found r after n st ref c u e v rule.Balance h = h
set_quiet s found r after n st ref c u e v rule.Verdict h = h
set_quiet s found r after n st ref c u e v rule.Threshold h = h
set_quiet s found r after n st ref c u e v rule.Payment h = h

-- the state after so many records of the assign journal
unfoldable pub state_after : ℕ → State
state_after n = unwrap_or (after_all (begun version_1 assign_kind) (take n assigned)) (begun version_1 assign_kind)

-- what stands in the place of each set
first_stated : Stated
first_stated = record { value = pos 0; sets = [] }

second_stated : Stated
second_stated = record { value = pos 0; sets = (true ∷ []) ∷ [] }

counted : (a b n m : ℕ) → a ≡ b → n < m → (a ≢ b ⊎ m ≤ n) → ⊥
counted a b n m e h (inl other) = other e
counted a b n m e h (inr past) = omega (arith, h, past)

below_1 : (g : ℕ) → g < 1 → g ≡ 0
below_1 g h = omega (arith, h)

balanced : ¬ IsUnbalanced (state_after 8) one
unfolding state_after market one assigned all_sets satisfied_sets greatest_sale
balanced h = h.2 (subst (λ g. IsCovered (is_exact (false ∷ []) g) (total_units ((record { kind = Sell 0 1; parent = 0 } ∷ []) ∷ (record { kind = Buy 0 1; parent = 0 } ∷ []) ∷ []) ((true ∷ []) ∷ (true ∷ []) ∷ []) g) (pos 0)) (sym (below_1 h.0 h.1)) (omega (arith, ints)))

passed : Tested (state_after 0) assigned None
unfolding state_after market one assigned is_stop first_stated second_stated all_sets satisfied_sets greatest_sale
passed =
    goes_on {after = state_after 1} (λ y e. absurd (none-some y e)) (section_quiet (state_after 0) _ (state_after 1) refl refl refl) (record { leaf = tt; violation = tt; list = tt; verdict = tt }) refl (
    goes_on {after = state_after 2} (λ y e. absurd (none-some y e)) (section_quiet (state_after 1) _ (state_after 2) refl refl refl) (record { leaf = tt; violation = tt; list = tt; verdict = tt }) refl (
    goes_on {after = state_after 3} (λ y e. absurd (none-some y e)) (section_quiet (state_after 2) _ (state_after 3) refl refl refl) (record { leaf = tt; violation = tt; list = tt; verdict = tt }) refl (
    goes_on {after = state_after 4} (λ y e. absurd (none-some y e)) (section_quiet (state_after 3) _ (state_after 4) refl refl refl) (record { leaf = tt; violation = tt; list = tt; verdict = tt }) refl (
    goes_on {after = state_after 5} (λ y e. absurd (none-some y e)) (section_quiet (state_after 4) _ (state_after 5) refl refl refl) (record { leaf = tt; violation = tt; list = tt; verdict = tt }) refl (
    goes_on {after = state_after 6} (λ y e. absurd (none-some y e)) (section_quiet (state_after 5) _ (state_after 6) refl refl refl) (record { leaf = tt; violation = tt; list = tt; verdict = tt }) refl (
    goes_on {after = state_after 7} (λ y e. absurd (none-some y e)) (section_quiet (state_after 6) _ (state_after 7) refl refl refl) (record { leaf = tt; violation = tt; list = tt; verdict = tt }) refl (
    goes_on {after = state_after 8} (λ y e. absurd (none-some y e)) (set_quiet (state_after 7) first_stated one (state_after 8) refl refl refl (counted 1 1 0 2 refl (omega arith)) (λ k h. none-some k h) (λ h. h) (λ h. h)) (record { leaf = tt; violation = tt; list = tt; verdict = tt }) refl (
    goes_on {after = state_after 9} (λ y e. absurd (none-some y e)) (set_quiet (state_after 8) second_stated one (state_after 9) refl refl refl (counted 1 1 1 2 refl (omega arith)) (λ k h. none-some k h) balanced (λ h. not_both refl h.0)) (record { leaf = tt; violation = tt; list = tt; verdict = tt }) refl (
    goes_on {after = state_after 10} (λ y e. absurd (none-some y e)) (end_quiet (state_after 9) _ (state_after 10) refl refl refl) (record { leaf = tt; violation = tt; list = tt; verdict = tt }) refl (
    passes refl))))))))))

-- the journal passes every test
checked : Checks (line.head version_1 assign_kind ∷ assigned)
unfolding state_after market one assigned
checked = (refl, passed)
