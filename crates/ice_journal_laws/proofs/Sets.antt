-- What a set makes of the tests, in any group.
use Rattle.std.proofs.Common.{◌≡◌, ◌≢◌, ◌<◌, ◌≤◌, ℕ, suc, Bool, true, false, cond, eqb, [], ◌∷◌, ◌++◌, length, pos, refl, sym, ◌∙◌, ap, subst, arith, ◌⊎◌, inl, inr}
use Rattle.std.specs.Prelude.{Option, Some, None, option_map, IsTrue, IsSomeAnd}
use Rattle.std.proofs.lemmas.Bool.{eqb-true, eq-eqb, ne_eqb, false≢true}
use Rattle.std.proofs.lemmas.Option.{none-some}
use Rattle.ice_defs.specs.declared.SatRule.{SatRule}
use Rattle.ice_defs.specs.declared.SatRule.TheVariants.{Parent, Few, Many}
use Rattle.ice_defs.specs.Set.{NodeSet}
use Rattle.ice_defs.specs.SetFault.{set_fault}
use Rattle.ice_defs.specs.Trade.{tree_of, total_value, is_exact, IsCovered, total_units}
use Rattle.ice_defs.specs.declared.Group.{Group}
use Rattle.ice_journal.specs.Records.{Record}
use Rattle.ice_journal.specs.Records as line
use Rattle.ice_journal_laws.specs.declared.rule.Rule.{Rule}
use Rattle.ice_journal_laws.specs.declared.rule.Rule.TheVariants as rule
use Rattle.ice_journal_laws.specs.State.{Stated, at_sets, State, exchange_at, trees_at, exact_at, goods_at, weights_at}
use Rattle.ice_journal_laws.specs.Fields.{set_in}
use Rattle.ice_journal_laws.specs.Next.{next, to_line, with_set, after_sets, go_to}
use Rattle.ice_journal_laws.specs.Tests.{Fails, place_of, HasLeftOut, Complete, is_valued}
use Rattle.ice_journal_laws.specs.Progress.{passing, failed, TakesOn, passes_on, fails_at}
use Rattle.ice_journal_laws.specs.Assigning.{rule_of, AreBalanced, AreShort}
use Rattle.ice_journal_laws.proofs.Single.{some_same}
use Rattle.ice_journal_laws.proofs.Places.{fails_order}

module _ (s : State) (g : Group) (found : Stated) where
  abbrev Before : State
  Before = go_to (at_sets g found) s

  -- a record that states no set
  pub set_missing : (r : Record) → set_in r ≡ None → TakesOn (go_to (at_sets g found) s) r (failed (record { line = s.line; rule = rule.Order }))
  set_missing r none =
      fails_order Before r refl
      (ap (λ (o : Option NodeSet). option_map (to_line (suc s.line)) (option_map (λ x. cond (eqb (suc (length found.sets)) (length (trees_at s))) (after_sets Before g (with_set found x)) (go_to (at_sets g (with_set found x)) Before)) o)) none)

  module _ (x : NodeSet) where
    abbrev Mine : Complete
    Mine = record { group = g; stated = with_set found x }

    abbrev IsFaulty : SatRule → Type 0
    IsFaulty k = set_fault (tree_of (trees_at s) (length found.sets)) x ≡ Some k

    abbrev IsLast : Type 0
    IsLast = suc (length found.sets) ≡ length (trees_at s)

    abbrev IsOther : Type 0
    IsOther = IsTrue (is_valued g) × (total_value (found.sets ++ x ∷ []) (weights_at s g) ≢ found.value)

    -- the tests that a set may fail
    data SetFailure : Rule → Type 0 where
      by_count : (length x ≢ length (tree_of (trees_at s) (length found.sets)) ⊎ (length (trees_at s) ≤ length found.sets)) → SetFailure rule.Count
      by_fault : (k : SatRule) → IsFaulty k → SetFailure (rule_of k)
      by_left_out : HasLeftOut (at_sets g found) (line.set x) → SetFailure rule.Fixing
      by_excess : IsLast → AreShort (exchange_at s) (found.sets ++ x ∷ []) → SetFailure rule.Excess
      by_value : IsLast → IsOther → SetFailure rule.Value

    unbalanced : (b : Bool) → eqb (suc (length found.sets)) (length (trees_at s)) ≡ b
        → IsSomeAnd (cond b (Some Mine) None) (λ (c : Complete). (g : ℕ) × (g < goods_at s) × ¬ IsCovered (is_exact (exact_at s) g) (total_units (trees_at s) c.stated.sets g) (pos 0))
        → SetFailure rule.Excess
    unbalanced true e h = by_excess (eqb-true (suc (length found.sets)) (length (trees_at s)) e) h
    unbalanced false e h = absurd h

    misvalued : (b : Bool) → eqb (suc (length found.sets)) (length (trees_at s)) ≡ b
        → IsSomeAnd (cond b (Some Mine) None) (λ (c : Complete). IsTrue (is_valued c.group) × (total_value c.stated.sets (weights_at s c.group) ≢ c.stated.value)) → SetFailure rule.Value
    misvalued true e h = by_value (eqb-true (suc (length found.sets)) (length (trees_at s)) e) h
    misvalued false e h = absurd h

    set_failure : (y : Rule) → Fails y Before (line.set x) → SetFailure y
    set_failure rule.Closed h = absurd (false≢true h.0)
    set_failure rule.Order h = absurd (none-some _ (sym h))
    set_failure rule.Exchange h = absurd (false≢true h.1)
    set_failure rule.Count h = by_count h
    set_failure rule.Parent h = by_fault Parent h
    set_failure rule.Few h = by_fault Few h
    set_failure rule.Many h = by_fault Many h
    set_failure rule.Fixing h = by_left_out h
    set_failure rule.Excess h = unbalanced (eqb (suc (length found.sets)) (length (trees_at s))) refl h
    set_failure rule.Value h = misvalued (eqb (suc (length found.sets)) (length (trees_at s))) refl h
    set_failure other h = absurd h

    fails_set : (y : Rule) → Fails y Before (line.set x) → ((z : Rule) → SetFailure z → place_of z < place_of y → ⊥) → TakesOn Before (line.set x) (failed (record { line = s.line; rule = y }))
    fails_set y h least = fails_at (λ z e. absurd (none-some z e)) (h, λ z l f. least z (set_failure z f) l)

    -- the bits don't count the nodes
    pub set_miscounted : length x ≢ length (tree_of (trees_at s) (length found.sets)) → TakesOn (go_to (at_sets g found) s) (line.set x) (failed (record { line = s.line; rule = rule.Count }))
    set_miscounted ne = fails_set rule.Count (inl ne) least
      where
        least : (z : Rule) → SetFailure z → place_of z < 4 → ⊥
        least z (by_count h) l = omega (arith, l)
        least z (by_fault Parent h) l = omega (arith, l)
        least z (by_fault Few h) l = omega (arith, l)
        least z (by_fault Many h) l = omega (arith, l)
        least z (by_left_out h) l = omega (arith, l)
        least z (by_excess e h) l = omega (arith, l)
        least z (by_value e h) l = omega (arith, l)

    -- the bits count the nodes of a bidder that is there
    pub record IsCounted : Type 0 where
      pub count : length x ≡ length (tree_of (trees_at s) (length found.sets))
      pub bidder : length found.sets < length (trees_at s)

    not_miscounted : IsCounted → (length x ≢ length (tree_of (trees_at s) (length found.sets)) ⊎ (length (trees_at s) ≤ length found.sets)) → ⊥
    not_miscounted c (inl ne) = ne c.count
    not_miscounted c (inr past) = omega (arith, past, c.bidder)

    faulty_fails : (k : SatRule) → IsFaulty k → Fails (rule_of k) Before (line.set x)
    faulty_fails Parent h = h
    faulty_fails Few h = h
    faulty_fails Many h = h

    fault_before : (k : SatRule) (n : ℕ) → 8 ≤ n → n < place_of (rule_of k) → ⊥
    fault_before Parent n h l = omega (arith, h, l)
    fault_before Few n h l = omega (arith, h, l)
    fault_before Many n h l = omega (arith, h, l)

    one_fault : (k j : SatRule) → IsFaulty k → IsFaulty j → place_of (rule_of j) < place_of (rule_of k) → ⊥
    one_fault k j h f l = omega (arith, ap (λ (i : SatRule). place_of (rule_of i)) (some_same (set_fault (tree_of (trees_at s) (length found.sets)) x) j k f h), l)

    -- the set isn't satisfied
    pub set_unsatisfied : (k : SatRule) → IsCounted → set_fault (tree_of (trees_at s) (length found.sets)) x ≡ Some k → TakesOn (go_to (at_sets g found) s) (line.set x) (failed (record { line = s.line; rule = rule_of k }))
    set_unsatisfied k c faulty = fails_set (rule_of k) (faulty_fails k faulty) least
      where
        least : (z : Rule) → SetFailure z → place_of z < place_of (rule_of k) → ⊥
        least z (by_count h) l = not_miscounted c h
        least z (by_fault j h) l = one_fault k j faulty h l
        least z (by_left_out h) l = fault_before k 8 (omega arith) l
        least z (by_excess e h) l = fault_before k 9 (omega arith) l
        least z (by_value e h) l = fault_before k 10 (omega arith) l

    -- the set is satisfied, but that of a bidder that is left out, and not empty
    pub set_left_out : IsCounted → set_fault (tree_of (trees_at s) (length found.sets)) x ≡ None → HasLeftOut (at_sets g found) (line.set x) → TakesOn (go_to (at_sets g found) s) (line.set x) (failed (record { line = s.line; rule = rule.Fixing }))
    set_left_out c faultless left = fails_set rule.Fixing left least
      where
        least : (z : Rule) → SetFailure z → place_of z < 8 → ⊥
        least z (by_count h) l = not_miscounted c h
        least z (by_fault j h) l = none-some j (sym faultless ∙ h)
        least z (by_left_out h) l = omega (arith, l)
        least z (by_excess e h) l = omega (arith, l)
        least z (by_value e h) l = omega (arith, l)

    -- the set is one of the bidder, which isn't left out unless it is empty, and satisfied
    pub record IsFit : Type 0 where
      pub counted : IsCounted
      pub faultless : set_fault (tree_of (trees_at s) (length found.sets)) x ≡ None
      pub taken : ¬ HasLeftOut (at_sets g found) (line.set x)

    short_fails : IsLast → AreShort (exchange_at s) (found.sets ++ x ∷ []) → Fails rule.Excess Before (line.set x)
    short_fails last short =
        subst (λ (b : Bool). IsSomeAnd (cond b (Some Mine) None) (λ (c : Complete). (g : ℕ) × (g < goods_at s) × ¬ IsCovered (is_exact (exact_at s) g) (total_units (trees_at s) c.stated.sets g) (pos 0)))
        (sym (eq-eqb (suc (length found.sets)) (length (trees_at s)) last)) short

    -- the sets are all there, and short of a good
    pub sets_short : IsFit → suc (length found.sets) ≡ length (trees_at s) → AreShort (exchange_at s) (found.sets ++ x ∷ []) → TakesOn (go_to (at_sets g found) s) (line.set x) (failed (record { line = s.line; rule = rule.Excess }))
    sets_short fit last short = fails_set rule.Excess (short_fails last short) least
      where
        least : (z : Rule) → SetFailure z → place_of z < 9 → ⊥
        least z (by_count h) l = not_miscounted fit.counted h
        least z (by_fault j h) l = none-some j (sym fit.faultless ∙ h)
        least z (by_left_out h) l = fit.taken h
        least z (by_excess e h) l = omega (arith, l)
        least z (by_value e h) l = omega (arith, l)

    other_fails : IsLast → IsOther → Fails rule.Value Before (line.set x)
    other_fails last other =
        subst (λ (b : Bool). IsSomeAnd (cond b (Some Mine) None) (λ (c : Complete). IsTrue (is_valued c.group) × (total_value c.stated.sets (weights_at s c.group) ≢ c.stated.value)))
        (sym (eq-eqb (suc (length found.sets)) (length (trees_at s)) last)) other

    balanced_not_short : AreBalanced (exchange_at s) (found.sets ++ x ∷ []) → AreShort (exchange_at s) (found.sets ++ x ∷ []) → ⊥
    balanced_not_short balanced (good, l, open_good) = open_good (balanced good l)

    -- they are balanced, and have another value than the one that is stated
    pub sets_misvalued : IsFit → suc (length found.sets) ≡ length (trees_at s) → AreBalanced (exchange_at s) (found.sets ++ x ∷ []) → IsTrue (is_valued g) → total_value (found.sets ++ x ∷ []) (weights_at s g) ≢ found.value
        → TakesOn (go_to (at_sets g found) s) (line.set x) (failed (record { line = s.line; rule = rule.Value }))
    sets_misvalued fit last balanced valued other = fails_set rule.Value (other_fails last (valued, other)) least
      where
        least : (z : Rule) → SetFailure z → place_of z < 10 → ⊥
        least z (by_count h) l = not_miscounted fit.counted h
        least z (by_fault j h) l = none-some j (sym fit.faultless ∙ h)
        least z (by_left_out h) l = fit.taken h
        least z (by_excess e h) l = balanced_not_short balanced h
        least z (by_value e h) l = omega (arith, l)

    passes_set : (after : State) → IsFit → (IsLast → AreBalanced (exchange_at s) (found.sets ++ x ∷ [])) → (IsLast → ¬ IsOther) → next Before (line.set x) ≡ Some after → TakesOn Before (line.set x) (passing after)
    passes_set after fit balanced valued is = passes_on (λ z e. absurd (none-some z e)) (λ z h. quiet z (set_failure z h)) (record { leaf = tt; violation = tt; list = tt; verdict = tt }) is
      where
        quiet : (z : Rule) → SetFailure z → ⊥
        quiet z (by_count h) = not_miscounted fit.counted h
        quiet z (by_fault j h) = none-some j (sym fit.faultless ∙ h)
        quiet z (by_left_out h) = fit.taken h
        quiet z (by_excess e h) = balanced_not_short (balanced e) h
        quiet z (by_value e h) = valued e h

    -- more sets are to come
    pub set_on : IsFit → suc (length found.sets) ≢ length (trees_at s) → TakesOn (go_to (at_sets g found) s) (line.set x) (passing (to_line (suc s.line) (go_to (at_sets g (with_set found x)) s)))
    set_on fit more =
        passes_set (to_line (suc s.line) (go_to (at_sets g (with_set found x)) s)) fit (λ e. absurd (more e)) (λ e h. more e)
        (ap (λ (b : Bool). Some (to_line (suc s.line) (cond b (after_sets Before g Mine.stated) (go_to (at_sets g Mine.stated) Before)))) (ne_eqb (suc (length found.sets)) (length (trees_at s)) more))

    -- the sets are all there, balanced, and of the value that is stated
    pub sets_complete : IsFit → suc (length found.sets) ≡ length (trees_at s) → AreBalanced (exchange_at s) (found.sets ++ x ∷ []) → (IsTrue (is_valued g) → total_value (found.sets ++ x ∷ []) (weights_at s g) ≡ found.value)
        → TakesOn (go_to (at_sets g found) s) (line.set x) (passing (to_line (suc s.line) (after_sets (go_to (at_sets g found) s) g (with_set found x))))
    sets_complete fit last balanced valued =
        passes_set (to_line (suc s.line) (after_sets Before g (with_set found x))) fit (λ e. balanced) (λ e h. h.1 (valued h.0))
        (ap (λ (b : Bool). Some (to_line (suc s.line) (cond b (after_sets Before g Mine.stated) (go_to (at_sets g Mine.stated) Before)))) (eq-eqb (suc (length found.sets)) (length (trees_at s)) last))
