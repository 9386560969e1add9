-- What a record makes of an offer at the rows of its certificates.
use Rattle.std.proofs.Common.{◌≡◌, ◌≢◌, ◌<◌, ◌≤◌, ◌+◌, ◌-◌, ◌⊎◌, ℕ, suc, true, false, eqb, [], ◌∷◌, ◌++◌, List, length, refl, sym, ◌∙◌, ap, subst, arith}
use Rattle.std.specs.Prelude.{Some, None, nat_lt}
use borrow.Author.Tests.{ltb-true, ltb-false}
use Rattle.std.proofs.lemmas.Bool.{eqb-true, eq-eqb}
use Rattle.ice_defs.specs.declared.SatRule.{SatRule}
use Rattle.ice_defs.specs.Tree.{Tree}
use Rattle.ice_defs.specs.Set.{NodeSet, IsSatisfied}
use Rattle.ice_defs.specs.SetFault.{set_fault}
use Rattle.ice_defs.specs.Trade.{tree_of}
use Rattle.ice_defs.specs.Rows.{Row}
use Rattle.ice_defs.specs.Exchange.{Exchange, trees_of}
use Rattle.ice_journal.specs.Records.{Record}
use Rattle.ice_journal.specs.Records as line
use Rattle.ice_journal.specs.Ranges.{IsDen}
use Rattle.ice_journal_laws.specs.declared.rule.Rule.{Rule}
use Rattle.ice_journal_laws.specs.declared.rule.Rule.TheVariants as rule
use Rattle.ice_journal_laws.specs.State.{State, at_balance_rows, at_verdict, trees_at}
use Rattle.ice_journal_laws.specs.Fields.{row_in, balance_in, is_round_stop}
use Rattle.ice_journal_laws.specs.Next.{to_line, go_to, next_settlement}
use Rattle.ice_journal_laws.specs.Assigning.{rule_of}
use Rattle.ice_journal_laws.specs.Progress.{passing, failed, TakesOn}
use Rattle.ice_journal_laws.proofs.PricedRows as places
use Rattle.ice_tree.proofs.Satisfied.{set_fault-none}
use Rattle.ice_pricing.specs.Tallies.{RowTally, IsTallyOf}
use Rattle.ice_check_offer.specs.declared.fault.Fault.TheVariants.{Here, List as OfList}
use Rattle.ice_check_offer.specs.declared.place.CertificateList.{CertificateList}
use Rattle.ice_check_offer.specs.declared.place.CertificateList.TheVariants as list
use Rattle.ice_check_offer.specs.declared.place.Place.{Place}
use Rattle.ice_check_offer.specs.declared.place.Place.TheVariants as place
use Rattle.ice_check_offer.specs.declared.offer.Offer.{Offer}
use Rattle.ice_check_offer.specs.Offers.{trade_of, rows_place, IsAt, IsOfferOf, IsKept}
use Rattle.ice_check_offer.specs.Rows.{IsBrokenRow, rule_of_list, Passes, HasPassed}
use Rattle.ice_check_offer.specs.Rounds.{Opens}
use Rattle.ice_check_offer.specs.Taking.{GoesOn, FailsBy}
use Rattle.ice_check_offer.proofs.Standing.{from_place, at_now, trees_are, accuracy_holds, holds_accuracy, balance_holds, holds_balance}

-- which row is the last one
pub not_last : (n m : ℕ) → m ≡ suc n → nat_lt m 200 ≡ true → eqb (suc n) 200 ≡ true → ⊥
not_last n m e room last = omega (arith, e, ltb-true m 200 room, eqb-true (suc n) 200 last)

pub is_last : (n m : ℕ) → m ≡ suc n → nat_lt n 200 ≡ true → nat_lt m 200 ≡ false → eqb (suc n) 200 ≡ true
is_last n m e room full = eq-eqb (suc n) 200 (omega (arith, e, ltb-true n 200 room, ltb-false m 200 full))

module _ (ex : Exchange) (number : ℕ) (o : Offer) where
  -- ---- a row

  module _ (of : CertificateList) (now : o.place ≡ place.Rows of) (b w : ℕ) (x : NodeSet) where
    abbrev Stated : Row
    Stated = record { bidder = b; weight = w; set = x }

    -- in each state, at its rows
    full_at : (of : CertificateList) (s : State) → IsOfferOf ex o s → IsAt ex o (place.Rows of) s → nat_lt o.tally.count 200 ≡ false
        → TakesOn s (line.row b w x) (failed (record { line = s.line; rule = rule.Order }))
    full_at list.Accuracy s st at full =
        from_place s _ (line.row b w x) _ at.0.place (places.a_row_full s o.den at.0.rows b w x (ap (λ n. nat_lt n 200) (sym at.0.tallied.count) ∙ full))
    full_at list.Balance s st at full =
        from_place s _ (line.row b w x) _ at.0.place (places.b_row_full s o.den at.0.rows b w x (ap (λ n. nat_lt n 200) (sym at.0.tallied.count) ∙ full))

    pub row_full : nat_lt o.tally.count 200 ≡ false → FailsBy ex number o (line.row b w x) (Here rule.Order)
    row_full full s st n = full_at of s st (at_now ex o s st (place.Rows of) now) full

    module _ (room : nat_lt o.tally.count 200 ≡ true) where
      broken_at : (of : CertificateList) (s : State) → IsOfferOf ex o s → IsAt ex o (place.Rows of) s → (length x ≢ length (tree_of (trees_of ex) b)) ⊎ (length (trees_of ex) ≤ b)
          → TakesOn s (line.row b w x) (failed (record { line = s.line; rule = rule.Count }))
      broken_at list.Accuracy s st at broken =
          from_place s _ (line.row b w x) _ at.0.place
          (places.a_row_uncounted s o.den at.0.rows b w x (ap (λ n. nat_lt n 200) (sym at.0.tallied.count) ∙ room)
          (subst (λ (ts : List Tree). (length x ≢ length (tree_of ts b)) ⊎ (length ts ≤ b)) (sym (trees_are ex o s st)) broken))
      broken_at list.Balance s st at broken =
          from_place s _ (line.row b w x) _ at.0.place
          (places.b_row_uncounted s o.den at.0.rows b w x (ap (λ n. nat_lt n 200) (sym at.0.tallied.count) ∙ room)
          (subst (λ (ts : List Tree). (length x ≢ length (tree_of ts b)) ⊎ (length ts ≤ b)) (sym (trees_are ex o s st)) broken))

      abbrev Counted : List Tree → Type 0
      Counted ts = (length x ≡ length (tree_of ts b)) × (b < length ts)

      faulty_at : (of : CertificateList) (s : State) → IsOfferOf ex o s → IsAt ex o (place.Rows of) s → (k : SatRule) → Counted (trees_of ex) → set_fault (tree_of (trees_of ex) b) x ≡ Some k
          → TakesOn s (line.row b w x) (failed (record { line = s.line; rule = rule_of k }))
      faulty_at list.Accuracy s st at k counted faulty =
          from_place s _ (line.row b w x) _ at.0.place
          (places.a_row_unsatisfied s o.den at.0.rows b w x (ap (λ n. nat_lt n 200) (sym at.0.tallied.count) ∙ room) k
          (subst Counted (sym (trees_are ex o s st)) counted) (ap (λ (ts : List Tree). set_fault (tree_of ts b) x) (trees_are ex o s st) ∙ faulty))
      faulty_at list.Balance s st at k counted faulty =
          from_place s _ (line.row b w x) _ at.0.place
          (places.b_row_unsatisfied s o.den at.0.rows b w x (ap (λ n. nat_lt n 200) (sym at.0.tallied.count) ∙ room) k
          (subst Counted (sym (trees_are ex o s st)) counted) (ap (λ (ts : List Tree). set_fault (tree_of ts b) x) (trees_are ex o s st) ∙ faulty))

      pub row_broken : (r : Rule) → IsBrokenRow (trees_of ex) b x (Some r) → FailsBy ex number o (line.row b w x) (Here r)
      row_broken rule.Count broken s st n = broken_at of s st (at_now ex o s st (place.Rows of) now) broken
      row_broken other broken s st n =
          subst (λ (y : Rule). TakesOn s (line.row b w x) (failed (record { line = s.line; rule = y }))) (sym broken.4)
          (faulty_at of s st (at_now ex o s st (place.Rows of) now) broken.2 (broken.1, broken.0) broken.3)

      module _ (is : (b < length (trees_of ex)) × IsSatisfied (tree_of (trees_of ex) b) x) where
        none : set_fault (tree_of (trees_of ex) b) x ≡ None
        none = set_fault-none (tree_of (trees_of ex) b) x is.1

        counted_here : (s : State) → IsOfferOf ex o s → Counted (trees_at s)
        counted_here s st = subst Counted (sym (trees_are ex o s st)) (is.1.same_length, is.0)

        fault_here : (s : State) → IsOfferOf ex o s → set_fault (tree_of (trees_at s) b) x ≡ None
        fault_here s st = ap (λ (ts : List Tree). set_fault (tree_of ts b) x) (trees_are ex o s st) ∙ none

        last_at : (of : CertificateList) (s : State) → IsOfferOf ex o s → (at : IsAt ex o (place.Rows of) s) → eqb (suc o.tally.count) 200 ≡ true → ¬ Passes ex o of (at.0.rows ++ Stated ∷ [])
            → TakesOn s (line.row b w x) (failed (record { line = s.line; rule = rule_of_list of }))
        last_at list.Accuracy s st at last fails =
            from_place s _ (line.row b w x) _ at.0.place
            (places.a_row_last s o.den at.0.rows b w x (ap (λ n. nat_lt n 200) (sym at.0.tallied.count) ∙ room) (counted_here s st) (fault_here s st)
            (ap (λ n. eqb (suc n) 200) (sym at.0.tallied.count) ∙ last) (λ h. fails (holds_accuracy ex o s st at.1 at.2 o.den (at.0.rows ++ Stated ∷ []) h)))
        last_at list.Balance s st at last fails =
            from_place s _ (line.row b w x) _ at.0.place
            (places.b_row_last s o.den at.0.rows b w x (ap (λ n. nat_lt n 200) (sym at.0.tallied.count) ∙ room) (counted_here s st) (fault_here s st)
            (ap (λ n. eqb (suc n) 200) (sym at.0.tallied.count) ∙ last) (λ h. fails (holds_balance ex o s st at.1 at.2 o.den (at.0.rows ++ Stated ∷ []) h)))

        -- it is the last one of a full list, which fails
        pub row_last : eqb (suc o.tally.count) 200 ≡ true → ((rows : List Row) → IsTallyOf (trade_of ex o) rows o.tally → ¬ Passes ex o of (rows ++ Stated ∷ []))
            → FailsBy ex number o (line.row b w x) (Here (rule_of_list of))
        row_last last fails s st n = (let at = at_now ex o s st (place.Rows of) now in last_at of s st at last (fails at.0.rows at.0.tallied))

        goes_at : (of : CertificateList) (s : State) → IsOfferOf ex o s → (at : IsAt ex o (place.Rows of) s) → (eqb (suc o.tally.count) 200 ≡ true → Passes ex o of (at.0.rows ++ Stated ∷ []))
            → TakesOn s (line.row b w x) (passing (to_line (suc s.line) (go_to (rows_place of o.den (at.0.rows ++ Stated ∷ [])) s)))
        goes_at list.Accuracy s st at holds =
            from_place s _ (line.row b w x) _ at.0.place
            (places.a_row_taken s o.den at.0.rows b w x (ap (λ n. nat_lt n 200) (sym at.0.tallied.count) ∙ room) (counted_here s st) (fault_here s st)
            (λ last. accuracy_holds ex o s st at.1 at.2 o.den (at.0.rows ++ Stated ∷ []) (holds (ap (λ n. eqb (suc n) 200) at.0.tallied.count ∙ last))))
        goes_at list.Balance s st at holds =
            from_place s _ (line.row b w x) _ at.0.place
            (places.b_row_taken s o.den at.0.rows b w x (ap (λ n. nat_lt n 200) (sym at.0.tallied.count) ∙ room) (counted_here s st) (fault_here s st)
            (λ last. balance_holds ex o s st at.1 at.2 o.den (at.0.rows ++ Stated ∷ []) (holds (ap (λ n. eqb (suc n) 200) at.0.tallied.count ∙ last))))

        -- it is taken
        pub row_taken : (tally : RowTally) → ((rows : List Row) → IsTallyOf (trade_of ex o) rows o.tally → IsTallyOf (trade_of ex o) (rows ++ Stated ∷ []) tally)
            → ((rows : List Row) → IsTallyOf (trade_of ex o) rows o.tally → eqb (suc o.tally.count) 200 ≡ true → Passes ex o of (rows ++ Stated ∷ [])) → IsKept ex o
            → GoesOn ex number o (line.row b w x) (record o { tally = tally })
        row_taken tally more holds kept = record {
          kept = record { round = kept.round; low = kept.low; high = kept.high; den = kept.den; den_fits = kept.den_fits };
          bounds = refl;
          goes = λ s st n.
              let at = at_now ex o s st (place.Rows of) now in
              record {
                state = to_line (suc s.line) (go_to (rows_place of o.den (at.0.rows ++ Stated ∷ [])) s);
                passes = goes_at of s st at (holds at.0.rows at.0.tallied);
                line = refl;
                same = refl;
                stands = record {
                  exchange = st.exchange;
                  bounds = st.bounds;
                  offered = st.offered;
                  at = subst (λ (p : Place). IsAt ex (record o { tally = tally }) p (to_line (suc s.line) (go_to (rows_place of o.den (at.0.rows ++ Stated ∷ [])) s))) (sym now)
                      (record { rows = at.0.rows ++ Stated ∷ []; place = refl; tallied = more at.0.rows at.0.tallied }, at.1, at.2, at.3);
                };
              };
        }

  -- ---- behind the rows

  module _ (of : CertificateList) (now : o.place ≡ place.Rows of) (r : Record) (none : row_in r ≡ None) where
    fails_at : (of : CertificateList) (s : State) → IsOfferOf ex o s → (at : IsAt ex o (place.Rows of) s) → nat_lt o.tally.count 200 ≡ true → ¬ Passes ex o of at.0.rows
        → TakesOn s r (failed (record { line = s.line - 1; rule = rule_of_list of }))
    fails_at list.Accuracy s st at room fails =
        from_place s _ r _ at.0.place
        (places.a_list_fails s o.den at.0.rows r none (ap (λ n. nat_lt n 200) (sym at.0.tallied.count) ∙ room) (λ h. fails (holds_accuracy ex o s st at.1 at.2 o.den at.0.rows h)))
    fails_at list.Balance s st at room fails =
        from_place s _ r _ at.0.place
        (places.b_list_fails s o.den at.0.rows r none (ap (λ n. nat_lt n 200) (sym at.0.tallied.count) ∙ room) (λ h. fails (holds_balance ex o s st at.1 at.2 o.den at.0.rows h)))

    -- the list fails
    pub list_fails : nat_lt o.tally.count 200 ≡ true → ((rows : List Row) → IsTallyOf (trade_of ex o) rows o.tally → ¬ Passes ex o of rows) → FailsBy ex number o r (OfList (rule_of_list of))
    list_fails room fails s st n = (let at = at_now ex o s st (place.Rows of) now in fails_at of s st at room (fails at.0.rows at.0.tallied))

  -- ---- the balance

  module _ (now : o.place ≡ place.Rows list.Accuracy) (passed : HasPassed ex o list.Accuracy) where
    pub balance_other : (r : Record) → row_in r ≡ None → balance_in r ≡ None → FailsBy ex number o r (Here rule.Order)
    balance_other r none other s st n =
        let at = at_now ex o s st (place.Rows list.Accuracy) now in
        from_place s _ r _ at.0.place
        (places.a_ended_other s o.den at.0.rows (λ room. accuracy_holds ex o s st at.1 at.2 o.den at.0.rows (passed at.0.rows at.0.tallied room)) r none other)

    pub balance_taken : (den : ℕ) (tally : RowTally) → IsDen den → IsTallyOf (trade_of ex o) [] tally → IsKept ex o
        → GoesOn ex number o (line.balance den) (record o { place = place.Rows list.Balance; den = den; tally = tally })
    balance_taken den tally fits empty kept = record {
      kept = record { round = kept.round; low = kept.low; high = kept.high; den = omega (arith, fits.0); den_fits = fits.1 };
      bounds = refl;
      goes = λ s st n.
          let at = at_now ex o s st (place.Rows list.Accuracy) now in
          record {
            state = to_line (suc s.line) (go_to (at_balance_rows den []) s);
            passes = from_place s _ (line.balance den) _ at.0.place
                (places.a_balance_follows s o.den at.0.rows (λ room. accuracy_holds ex o s st at.1 at.2 o.den at.0.rows (passed at.0.rows at.0.tallied room)) den);
            line = refl;
            same = refl;
            stands = record {
              exchange = st.exchange;
              bounds = st.bounds;
              offered = st.offered;
              at = (record { rows = []; place = refl; tallied = empty }, at.1, at.2, at.3);
            };
          };
    }

  -- ---- the first submission

  module _ (now : o.place ≡ place.Rows list.Balance) (passed : HasPassed ex o list.Balance) (r : Record) where
    -- the session ends for want of a round
    pub first_stops : is_round_stop (number + 2) r ≡ true → FailsBy ex number o r (Here rule.Closed)
    first_stops stop s st n =
        let at = at_now ex o s st (place.Rows list.Balance) now in
        from_place s _ r _ at.0.place
        (places.b_stops s o.den at.0.rows (λ room. balance_holds ex o s st at.1 at.2 o.den at.0.rows (passed at.0.rows at.0.tallied room)) r (ap (λ k. is_round_stop (k + 2) r) n ∙ stop))

    pub first_opens : row_in r ≡ None → is_round_stop (number + 2) r ≡ false → (s : State) → IsOfferOf ex o s → s.number ≡ number → Opens ex o s r
    first_opens none other s st n =
        let at = at_now ex o s st (place.Rows list.Balance) now in
        let holds = λ (room : nat_lt (length at.0.rows) 200 ≡ true). balance_holds ex o s st at.1 at.2 o.den at.0.rows (passed at.0.rows at.0.tallied room) in
        record {
          prices = at.1;
          after = at.3;
          submits = λ x e. subst (λ (y : Record). TakesOn s y (passing (to_line (suc s.line) (go_to (at_verdict x) s)))) (sym e) (from_place s _ (line.submit x) _ at.0.place (places.b_submits s o.den at.0.rows holds x));
          settles = λ e. subst (λ (y : Record). TakesOn s y (passing (to_line (suc s.line) (next_settlement s)))) (sym e) (from_place s _ (line.settle (suc s.number)) _ at.0.place (places.b_settles s o.den at.0.rows holds (suc s.number) (eq-eqb (suc s.number) (suc s.number) refl)));
          fails = λ e f. from_place s _ r _ at.0.place (places.b_ended_other s o.den at.0.rows holds r none (ap (λ k. is_round_stop (k + 2) r) n ∙ other) e f);
        }
