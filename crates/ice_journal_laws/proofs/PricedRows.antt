-- What a record makes of the tests at the rows of a certificate of prices.
use Rattle.std.proofs.Common.{◌≡◌, ◌≢◌, ◌<◌, ◌≤◌, ◌+◌, ◌-◌, ◌⊎◌, inl, inr, ℕ, suc, Bool, true, false, cond, eqb, [], ◌∷◌, ◌++◌, List, length, refl, sym, ◌∙◌, ap, arith}
use Rattle.std.specs.Prelude.{◌&&◌, IsSome, nat_lt, is_none, Option, Some, None, option_map, option_and_then}
use Rattle.std.proofs.lemmas.Bool.{false≢true}
use Rattle.std.proofs.lemmas.Option.{none-some}
use Rattle.ice_defs.specs.declared.SatRule.{SatRule}
use Rattle.ice_defs.specs.declared.SatRule.TheVariants.{Parent, Few, Many}
use Rattle.ice_defs.specs.Set.{NodeSet}
use Rattle.ice_defs.specs.SetFault.{set_fault}
use Rattle.ice_defs.specs.Trade.{tree_of}
use Rattle.ice_defs.specs.Rows.{Row}
use Rattle.ice_defs.specs.Round.{Submission}
use Rattle.ice_journal.specs.Records.{Record}
use Rattle.ice_journal.specs.Records as line
use Rattle.ice_journal_laws.specs.declared.rule.Rule.{Rule}
use Rattle.ice_journal_laws.specs.declared.rule.Rule.TheVariants as rule
use Rattle.ice_journal_laws.specs.State.{at_accuracy_rows, at_balance_rows, at_verdict, done, State, trees_at}
use Rattle.ice_journal_laws.specs.Fields.{is_round_stop, balance_in, row_in, submission_in}
use Rattle.ice_journal_laws.specs.Next.{next, to_line, go_to, if_true, or_stop, may_have_row, with_row, to_settlement, next_settlement}
use Rattle.ice_journal_laws.specs.Tests.{Fails, place_of, AccuracyHolds, BalanceHolds}
use Rattle.ice_journal_laws.specs.Progress.{passing, failed, TakesOn, passes_on, fails_at, list_fails_at, EndsList}
use Rattle.ice_journal_laws.specs.Assigning.{rule_of}
use Rattle.ice_journal_laws.proofs.Priced.{goes_nowhere}

some_rule : (k j : SatRule) → Some k ≡ Some j → k ≡ j
some_rule k j e = cc

-- ---- what holds at the rows of either list

-- a list that is ended by a record has fewer than 200 rows
list_ended : (o full : Bool) (x y : Rule) → cond (o && full) (Some x) None ≡ Some y → full ≡ true
list_ended true true x y e = refl
list_ended true false x y e = absurd (none-some y e)
list_ended false full x y e = absurd (none-some y e)

not_some : (o : Option State) → o ≡ None → ¬ IsSome o
not_some None e h = false≢true h
not_some (Some x) e h = none-some x (sym e)

-- a record that may not stand there, where the list before it passes
fails_order_after : (s : State) (r : Record) → EndsList s r → next s r ≡ None → TakesOn s r (failed (record { line = s.line; rule = rule.Order }))
fails_order_after s r ends none = fails_at ends (none, λ z l f. least z l f)
  where
    least : (z : Rule) → place_of z < 1 → ¬ Fails z s r
    least rule.Closed l h = not_some (next s r) none h.1
    least other l h = absurd (omega (arith, l))

-- the faults of a row's set, and the tests of a row that may stand there
module _ (s : State) (b : ℕ) (x : NodeSet) where
  abbrev pub IsUncounted : Type 0
  IsUncounted = (length x ≢ length (tree_of (trees_at s) b)) ⊎ (length (trees_at s) ≤ b)

  abbrev pub IsCounted : Type 0
  IsCounted = (length x ≡ length (tree_of (trees_at s) b)) × (b < length (trees_at s))

  abbrev pub IsFaulty : SatRule → Type 0
  IsFaulty k = set_fault (tree_of (trees_at s) b) x ≡ Some k

  counted_so : IsCounted → ¬ IsUncounted
  counted_so is (inl other) = other is.0
  counted_so is (inr past) = absurd (omega (arith, is.1))

  one_fault : (k j : SatRule) → IsFaulty k → IsFaulty j → place_of (rule_of j) < place_of (rule_of k) → ⊥
  one_fault k j h f l = omega (arith, ap (λ (i : SatRule). place_of (rule_of i)) (some_rule k j (sym h ∙ f)), l)

  no_fault : (k : SatRule) → set_fault (tree_of (trees_at s) b) x ≡ None → ¬ IsFaulty k
  no_fault k none faulty = none-some k (sym none ∙ faulty)

-- ---- the rows of accuracy

module _ (s : State) (den : ℕ) (rows : List Row) where
  abbrev aAt : State
  aAt = go_to (at_accuracy_rows den rows) s

  -- a list that has ended fails
  pub a_list_fails : (r : Record) → row_in r ≡ None → nat_lt (length rows) 200 ≡ true → ¬ AccuracyHolds s den rows
      → TakesOn (go_to (at_accuracy_rows den rows) s) r (failed (record { line = s.line - 1; rule = rule.Accuracy }))
  a_list_fails r none room fails =
      list_fails_at
      (ap (λ (o : Option Row). (let x : Option Rule = cond (is_none o && nat_lt (length rows) 200) (Some rule.Accuracy) None in x)) none
      ∙ ap (λ (t : Bool). (let x : Option Rule = cond (true && t) (Some rule.Accuracy) None in x)) room)
      fails

  module _ (passes : nat_lt (length rows) 200 ≡ true → AccuracyHolds s den rows) where
    a_ends : (r : Record) → EndsList aAt r
    a_ends r x e = passes (list_ended (is_none (row_in r)) (nat_lt (length rows) 200) rule.Accuracy x e)

    -- the balance follows
    pub a_balance_follows : (d : ℕ) → TakesOn (go_to (at_accuracy_rows den rows) s) (line.balance d) (passing (to_line (suc s.line) (go_to (at_balance_rows d []) s)))
    a_balance_follows d = passes_on (a_ends (line.balance d)) quiet (record { leaf = tt; violation = tt; list = λ _. tt; verdict = tt }) refl
      where
        quiet : (z : Rule) → ¬ Fails z aAt (line.balance d)
        quiet rule.Closed h = false≢true h.0
        quiet rule.Order h = none-some _ (sym h)
        quiet rule.Exchange h = false≢true h.1
        quiet rule.Accuracy h = h.1
        quiet other h = h

    -- or another record
    pub a_ended_other : (r : Record) → row_in r ≡ None → balance_in r ≡ None → TakesOn (go_to (at_accuracy_rows den rows) s) r (failed (record { line = s.line; rule = rule.Order }))
    a_ended_other r none other = fails_order_after aAt r (a_ends r) (nowhere r none other)
      where
        nowhere : (r : Record) → row_in r ≡ None → balance_in r ≡ None → next aAt r ≡ None
        nowhere (line.row b w x) e f = absurd (none-some _ (sym e))
        nowhere (line.balance d) e f = absurd (none-some _ (sym f))
        nowhere r e f = refl

  -- a row
  module _ (b w : ℕ) (x : NodeSet) where
    abbrev aRow : Record
    aRow = line.row b w x

    abbrev aStated : Row
    aStated = record { bidder = b; weight = w; set = x }

    a_next : (room : Bool) → nat_lt (length rows) 200 ≡ room → next aAt aRow ≡ option_map (to_line (suc s.line)) (if_true room (go_to (at_accuracy_rows den (rows ++ aStated ∷ [])) s))
    a_next room e = ap (λ (t : Bool). option_map (to_line (suc s.line)) (if_true t (go_to (at_accuracy_rows den (rows ++ aStated ∷ [])) aAt))) e

    a_no_list : EndsList aAt aRow
    a_no_list y e = absurd (none-some y e)

    -- the list is full
    pub a_row_full : nat_lt (length rows) 200 ≡ false → TakesOn (go_to (at_accuracy_rows den rows) s) (line.row b w x) (failed (record { line = s.line; rule = rule.Order }))
    a_row_full full = fails_order_after aAt aRow a_no_list (a_next false full)

    module _ (room : nat_lt (length rows) 200 ≡ true) where
      -- no bidder is there, or the bits don't count its nodes
      pub a_row_uncounted : IsUncounted s b x → TakesOn (go_to (at_accuracy_rows den rows) s) (line.row b w x) (failed (record { line = s.line; rule = rule.Count }))
      a_row_uncounted uncounted = fails_at a_no_list (uncounted, least)
        where
          least : (z : Rule) → place_of z < 4 → ¬ Fails z aAt (line.row b w x)
          least rule.Closed l h = false≢true h.0
          least rule.Order l h = none-some _ (sym h ∙ a_next true room)
          least rule.Exchange l h = false≢true h.1
          least rule.Short l h = h
          least other l h = absurd (omega (arith, l))

      -- the set isn't satisfied
      pub a_row_unsatisfied : (k : SatRule) → IsCounted s b x → set_fault (tree_of (trees_at s) b) x ≡ Some k → TakesOn (go_to (at_accuracy_rows den rows) s) (line.row b w x) (failed (record { line = s.line; rule = rule_of k }))
      a_row_unsatisfied k counted faulty = fails_at a_no_list (fails k faulty, least)
        where
          fails : (k : SatRule) → IsFaulty s b x k → Fails (rule_of k) aAt (line.row b w x)
          fails Parent h = h
          fails Few h = h
          fails Many h = h

          early : (k : SatRule) → place_of (rule_of k) ≤ 7
          early Parent = omega arith
          early Few = omega arith
          early Many = omega arith

          least : (z : Rule) → place_of z < place_of (rule_of k) → ¬ Fails z aAt (line.row b w x)
          least rule.Closed l h = false≢true h.0
          least rule.Order l h = none-some _ (sym h ∙ a_next true room)
          least rule.Exchange l h = false≢true h.1
          least rule.Count l h = counted_so s b x counted h
          least rule.Parent l h = one_fault s b x k Parent faulty h l
          least rule.Few l h = one_fault s b x k Few faulty h l
          least rule.Many l h = one_fault s b x k Many faulty h l
          least rule.Accuracy l h = absurd (omega (arith, l, early k))
          least other l h = h

      module _ (counted : IsCounted s b x) (satisfied : set_fault (tree_of (trees_at s) b) x ≡ None) where
        -- it is the last one of a full list, which fails
        pub a_row_last : eqb (suc (length rows)) 200 ≡ true → ¬ AccuracyHolds s den (rows ++ record { bidder = b; weight = w; set = x } ∷ [])
            → TakesOn (go_to (at_accuracy_rows den rows) s) (line.row b w x) (failed (record { line = s.line; rule = rule.Accuracy }))
        a_row_last last fails = fails_at a_no_list ((last, fails), least)
          where
            least : (z : Rule) → place_of z < 19 → ¬ Fails z aAt (line.row b w x)
            least rule.Closed l h = false≢true h.0
            least rule.Order l h = none-some _ (sym h ∙ a_next true room)
            least rule.Exchange l h = false≢true h.1
            least rule.Count l h = counted_so s b x counted h
            least rule.Parent l h = no_fault s b x Parent satisfied h
            least rule.Few l h = no_fault s b x Few satisfied h
            least rule.Many l h = no_fault s b x Many satisfied h
            least rule.Accuracy l h = absurd (omega (arith, l))
            least other l h = h

        -- it is taken
        pub a_row_taken : (eqb (suc (length rows)) 200 ≡ true → AccuracyHolds s den (rows ++ record { bidder = b; weight = w; set = x } ∷ []))
            → TakesOn (go_to (at_accuracy_rows den rows) s) (line.row b w x) (passing (to_line (suc s.line) (go_to (at_accuracy_rows den (rows ++ record { bidder = b; weight = w; set = x } ∷ [])) s)))
        a_row_taken holds = passes_on a_no_list quiet (record { leaf = tt; violation = tt; list = holds; verdict = tt }) (a_next true room)
          where
            quiet : (z : Rule) → ¬ Fails z aAt (line.row b w x)
            quiet rule.Closed h = false≢true h.0
            quiet rule.Order h = none-some _ (sym h ∙ a_next true room)
            quiet rule.Exchange h = false≢true h.1
            quiet rule.Count h = counted_so s b x counted h
            quiet rule.Parent h = no_fault s b x Parent satisfied h
            quiet rule.Few h = no_fault s b x Few satisfied h
            quiet rule.Many h = no_fault s b x Many satisfied h
            quiet rule.Accuracy h = h.1 (holds h.0)
            quiet other h = h

-- ---- the rows of balance

module _ (s : State) (den : ℕ) (rows : List Row) where
  abbrev bAt : State
  bAt = go_to (at_balance_rows den rows) s

  -- a list that has ended fails
  pub b_list_fails : (r : Record) → row_in r ≡ None → nat_lt (length rows) 200 ≡ true → ¬ BalanceHolds s den rows
      → TakesOn (go_to (at_balance_rows den rows) s) r (failed (record { line = s.line - 1; rule = rule.Balance }))
  b_list_fails r none room fails =
      list_fails_at
      (ap (λ (o : Option Row). (let x : Option Rule = cond (is_none o && nat_lt (length rows) 200) (Some rule.Balance) None in x)) none
      ∙ ap (λ (t : Bool). (let x : Option Rule = cond (true && t) (Some rule.Balance) None in x)) room)
      fails

  module _ (passes : nat_lt (length rows) 200 ≡ true → BalanceHolds s den rows) where
    b_ends : (r : Record) → EndsList bAt r
    b_ends r x e = passes (list_ended (is_none (row_in r)) (nat_lt (length rows) 200) rule.Balance x e)

    -- a submission follows
    pub b_submits : (x : Submission) → TakesOn (go_to (at_balance_rows den rows) s) (line.submit x) (passing (to_line (suc s.line) (go_to (at_verdict x) s)))
    b_submits x = passes_on (b_ends (line.submit x)) quiet (record { leaf = tt; violation = tt; list = λ _. tt; verdict = tt }) refl
      where
        quiet : (z : Rule) → ¬ Fails z bAt (line.submit x)
        quiet rule.Closed h = false≢true h.0
        quiet rule.Order h = none-some _ (sym h)
        quiet rule.Exchange h = false≢true h.1
        quiet rule.Balance h = h.1
        quiet other h = h

    -- the next settlement follows
    module _ (number : ℕ) (follows : eqb number (suc s.number) ≡ true) where
      b_settles_next : next bAt (line.settle number) ≡ Some (to_line (suc s.line) (next_settlement s))
      b_settles_next = ap (λ (t : Bool). option_map (to_line (suc s.line)) (or_stop false (go_to done bAt) (with_row rows (at_balance_rows den) bAt (line.settle number) (if_true t (next_settlement bAt))))) follows

      pub b_settles : TakesOn (go_to (at_balance_rows den rows) s) (line.settle number) (passing (to_line (suc s.line) (next_settlement s)))
      b_settles = passes_on (b_ends (line.settle number)) quiet (record { leaf = tt; violation = tt; list = λ _. tt; verdict = tt }) b_settles_next
        where
          quiet : (z : Rule) → ¬ Fails z bAt (line.settle number)
          quiet rule.Closed h = false≢true h.0
          quiet rule.Order h = none-some _ (sym h ∙ b_settles_next)
          quiet rule.Exchange h = false≢true h.1
          quiet rule.Balance h = h.1
          quiet other h = h

    -- the session ends for want of a round
    pub b_stops : (r : Record) → is_round_stop (s.number + 2) r ≡ true → TakesOn (go_to (at_balance_rows den rows) s) r (failed (record { line = s.line; rule = rule.Closed }))
    b_stops r stop = fails_at (b_ends r) (stops r stop, λ z l f. absurd (omega (arith, l)))
      where
        goes : (t : Bool) → t ≡ true → IsSome (option_map (to_line (suc s.line)) (if_true t (go_to done bAt)))
        goes true e = refl
        goes false e = absurd (false≢true e)

        stops : (r : Record) → is_round_stop (s.number + 2) r ≡ true → Fails rule.Closed bAt r
        stops (line.end word) e = (e, goes (is_round_stop (s.number + 2) (line.end word)) e)
        stops (line.refused file number place) e = (e, goes (is_round_stop (s.number + 2) (line.refused file number place)) e)
        stops (line.unread file) e = (e, goes (is_round_stop (s.number + 2) (line.unread file)) e)
        stops other e = absurd (false≢true e)

    -- or another record
    pub b_ended_other : (r : Record) → row_in r ≡ None → is_round_stop (s.number + 2) r ≡ false → submission_in r ≡ None → to_settlement (go_to (at_balance_rows den rows) s) r ≡ None
        → TakesOn (go_to (at_balance_rows den rows) s) r (failed (record { line = s.line; rule = rule.Order }))
    b_ended_other r none stays other last = fails_order_after bAt r (b_ends r)
        (ap (λ (o : Option State). option_map (to_line (suc s.line)) (or_stop (is_round_stop (s.number + 2) r) (go_to done bAt) (with_row rows (at_balance_rows den) bAt r o))) (goes_nowhere s bAt r other last)
        ∙ ap (λ (o : Option Row). option_map (to_line (suc s.line))
        (or_stop (is_round_stop (s.number + 2) r) (go_to done bAt) (option_and_then (λ row. if_true (may_have_row rows) (go_to (at_balance_rows den (rows ++ row ∷ [])) bAt)) o))) none
        ∙ ap (λ (t : Bool). option_map (to_line (suc s.line)) (if_true t (go_to done bAt))) stays)

  -- a row
  module _ (b w : ℕ) (x : NodeSet) where
    abbrev bRow : Record
    bRow = line.row b w x

    abbrev bStated : Row
    bStated = record { bidder = b; weight = w; set = x }

    b_next : (room : Bool) → nat_lt (length rows) 200 ≡ room → next bAt bRow ≡ option_map (to_line (suc s.line)) (if_true room (go_to (at_balance_rows den (rows ++ bStated ∷ [])) s))
    b_next room e =
        ap (λ (t : Bool). option_map (to_line (suc s.line)) (or_stop false (go_to done bAt) (if_true t (go_to (at_balance_rows den (rows ++ bStated ∷ [])) bAt)))) e ∙ by room
      where
        by : (t : Bool) → option_map (to_line (suc s.line)) (or_stop false (go_to done bAt) (if_true t (go_to (at_balance_rows den (rows ++ bStated ∷ [])) bAt)))
            ≡ option_map (to_line (suc s.line)) (if_true t (go_to (at_balance_rows den (rows ++ bStated ∷ [])) s))
        by true = refl
        by false = refl

    b_no_list : EndsList bAt bRow
    b_no_list y e = absurd (none-some y e)

    -- the list is full
    pub b_row_full : nat_lt (length rows) 200 ≡ false → TakesOn (go_to (at_balance_rows den rows) s) (line.row b w x) (failed (record { line = s.line; rule = rule.Order }))
    b_row_full full = fails_order_after bAt bRow b_no_list (b_next false full)

    module _ (room : nat_lt (length rows) 200 ≡ true) where
      -- no bidder is there, or the bits don't count its nodes
      pub b_row_uncounted : IsUncounted s b x → TakesOn (go_to (at_balance_rows den rows) s) (line.row b w x) (failed (record { line = s.line; rule = rule.Count }))
      b_row_uncounted uncounted = fails_at b_no_list (uncounted, least)
        where
          least : (z : Rule) → place_of z < 4 → ¬ Fails z bAt (line.row b w x)
          least rule.Closed l h = false≢true h.0
          least rule.Order l h = none-some _ (sym h ∙ b_next true room)
          least rule.Exchange l h = false≢true h.1
          least rule.Short l h = h
          least other l h = absurd (omega (arith, l))

      -- the set isn't satisfied
      pub b_row_unsatisfied : (k : SatRule) → IsCounted s b x → set_fault (tree_of (trees_at s) b) x ≡ Some k → TakesOn (go_to (at_balance_rows den rows) s) (line.row b w x) (failed (record { line = s.line; rule = rule_of k }))
      b_row_unsatisfied k counted faulty = fails_at b_no_list (fails k faulty, least)
        where
          fails : (k : SatRule) → IsFaulty s b x k → Fails (rule_of k) bAt (line.row b w x)
          fails Parent h = h
          fails Few h = h
          fails Many h = h

          early : (k : SatRule) → place_of (rule_of k) ≤ 7
          early Parent = omega arith
          early Few = omega arith
          early Many = omega arith

          least : (z : Rule) → place_of z < place_of (rule_of k) → ¬ Fails z bAt (line.row b w x)
          least rule.Closed l h = false≢true h.0
          least rule.Order l h = none-some _ (sym h ∙ b_next true room)
          least rule.Exchange l h = false≢true h.1
          least rule.Count l h = counted_so s b x counted h
          least rule.Parent l h = one_fault s b x k Parent faulty h l
          least rule.Few l h = one_fault s b x k Few faulty h l
          least rule.Many l h = one_fault s b x k Many faulty h l
          least rule.Balance l h = absurd (omega (arith, l, early k))
          least other l h = h

      module _ (counted : IsCounted s b x) (satisfied : set_fault (tree_of (trees_at s) b) x ≡ None) where
        -- it is the last one of a full list, which fails
        pub b_row_last : eqb (suc (length rows)) 200 ≡ true → ¬ BalanceHolds s den (rows ++ record { bidder = b; weight = w; set = x } ∷ [])
            → TakesOn (go_to (at_balance_rows den rows) s) (line.row b w x) (failed (record { line = s.line; rule = rule.Balance }))
        b_row_last last fails = fails_at b_no_list ((last, fails), least)
          where
            least : (z : Rule) → place_of z < 20 → ¬ Fails z bAt (line.row b w x)
            least rule.Closed l h = false≢true h.0
            least rule.Order l h = none-some _ (sym h ∙ b_next true room)
            least rule.Exchange l h = false≢true h.1
            least rule.Count l h = counted_so s b x counted h
            least rule.Parent l h = no_fault s b x Parent satisfied h
            least rule.Few l h = no_fault s b x Few satisfied h
            least rule.Many l h = no_fault s b x Many satisfied h
            least rule.Balance l h = absurd (omega (arith, l))
            least other l h = h

        -- it is taken
        pub b_row_taken : (eqb (suc (length rows)) 200 ≡ true → BalanceHolds s den (rows ++ record { bidder = b; weight = w; set = x } ∷ []))
            → TakesOn (go_to (at_balance_rows den rows) s) (line.row b w x) (passing (to_line (suc s.line) (go_to (at_balance_rows den (rows ++ record { bidder = b; weight = w; set = x } ∷ [])) s)))
        b_row_taken holds = passes_on b_no_list quiet (record { leaf = tt; violation = tt; list = holds; verdict = tt }) (b_next true room)
          where
            quiet : (z : Rule) → ¬ Fails z bAt (line.row b w x)
            quiet rule.Closed h = false≢true h.0
            quiet rule.Order h = none-some _ (sym h ∙ b_next true room)
            quiet rule.Exchange h = false≢true h.1
            quiet rule.Count h = counted_so s b x counted h
            quiet rule.Parent h = no_fault s b x Parent satisfied h
            quiet rule.Few h = no_fault s b x Few satisfied h
            quiet rule.Many h = no_fault s b x Many satisfied h
            quiet rule.Balance h = h.1 (holds h.0)
            quiet other h = h
