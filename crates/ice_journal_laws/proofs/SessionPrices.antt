-- The prices of a session, their rows and the round, where each test of them passes.
use Rattle.std.proofs.Common.{◌≡◌, ◌+◌, ℕ, suc, Bool, true, false, cond, eqb, List, [], ◌∷◌, ◌++◌, length, map, refl, sym, ◌∙◌, ap, subst}
use Rattle.std.specs.Prelude.{◌||◌, Option, Some, None, option_map, IsSome, IsSomeAnd}
use Rattle.std.specs.List.{flat_map}
use Rattle.std.proofs.lemmas.Bool.{eqb-true, true≢false}
use Rattle.std.proofs.lemmas.Option.{none-some}
use Rattle.std.proofs.lemmas.List.{append-nil, append_assoc, map-append}
use Rattle.std.proofs.lemmas.Grind.{flat_map-append}
use Rattle.ice_defs.specs.declared.Verdict.{Verdict}
use Rattle.ice_defs.specs.Trade.{Assignment, IsFeasible}
use Rattle.ice_defs.specs.Bounds.{Bounds}
use Rattle.ice_defs.specs.Prices.{Prices}
use Rattle.ice_defs.specs.Pricing.{IsViolation, IsBalanced}
use Rattle.ice_defs.specs.Rows.{Row}
use Rattle.ice_defs.specs.Round.{Submission, Judged, IsNextVerdict, next_bounds}
use Rattle.ice_defs.specs.Session.{Going, standings}
use Rattle.ice_journal.specs.Records.{Record, Version, session_kind}
use Rattle.ice_journal.specs.Records as line
use Rattle.ice_journal.specs.Ranges.{IsRecord}
use Rattle.ice_regret_laws.specs.Laws.{PerturbedGivesRegret}
use Rattle.ice_round_laws.proofs.Taking.{rounds_begin, rounds_go_on}
use Rattle.ice_row_laws.specs.Laws.{TestsGiveBalanced}
use Rattle.ice_journal_laws.specs.declared.rule.Rule.{Rule}
use Rattle.ice_journal_laws.specs.declared.rule.Rule.TheVariants as rule
use Rattle.ice_journal_laws.specs.Fields.{is_spent, is_limit, is_round_stop, row_in}
use Rattle.ice_journal_laws.specs.State.{at_prices, at_pool, at_accuracy, at_accuracy_rows, at_balance_rows, at_round, at_verdict, done, State, exchange_at, settings_at, trees_at, exact_at, goods_at}
use Rattle.ice_journal_laws.specs.Next.{next, go_to, to_line, if_true, or_stop, with_row, may_have_row, next_settlement}
use Rattle.ice_journal_laws.specs.Tests.{Fails, Holds, AreUnlawful, offered_weights, AccuracyHolds, BalanceHolds}
use Rattle.ice_journal_laws.specs.Written.{proved_records, regret_records, row_record, judged_records, opening_records, going_records}
use Rattle.ice_journal_laws.specs.Stops.{all_going_records}
use Rattle.ice_journal_laws.specs.Progress.{EndsList}
use Rattle.ice_journal_laws.proofs.Grouping.{of_same, Tells, tells_more}
use Rattle.ice_journal_laws.proofs.Past.{IsPast, past_more, text_more, settled_right}
use Rattle.ice_journal_laws.proofs.Pricing.{prices_are, rows_end, rows_more, accuracy_ended, balance_ended, balanced_prices}
use Rattle.ice_journal_laws.proofs.Sessions.{offered_text, priced_text, accuracy_text, balance_text, round_text, IsAt, IsStanding}

-- ---- what is written

row_text : (front : List Record) (first : Record) (rows : List Row) (row : Row) → (front ++ first ∷ map row_record rows) ++ row_record row ∷ [] ≡ front ++ first ∷ map row_record (rows ++ row ∷ [])
row_text front first rows row =
    append_assoc front (first ∷ map row_record rows) (row_record row ∷ []) ∙ ap (λ (rs : List Record). front ++ first ∷ rs) (sym (map-append row_record rows (row ∷ [])))

nested : (before A B C D E : List Record) (a b c : Record)
    → (((((((before ++ a ∷ []) ++ A) ++ B) ++ b ∷ []) ++ C) ++ c ∷ []) ++ D) ++ E ≡ before ++ (a ∷ (((A ++ B) ++ (b ∷ [])) ++ ((C ++ (c ∷ D)) ++ E)))
nested before A B C D E a b c = simp append_assoc

two_more : (before A B C : List Record) (a b : Record) → ((before ++ ((A ++ B) ++ C)) ++ (a ∷ [])) ++ (b ∷ []) ≡ before ++ ((A ++ B) ++ (C ++ (a ∷ b ∷ [])))
two_more before A B C a b = simp append_assoc

-- the records of a settlement that goes on, one behind the other
going_text : (before : List Record) (number : ℕ) (g : Going)
    → (((((((before ++ line.settle number ∷ []) ++ proved_records (line.final g.settlement.final.value) g.settlement.final) ++ proved_records (line.rival g.settlement.rival.value) g.settlement.rival) ++ line.regret g.settlement.regret ∷ [])
    ++ proved_records (line.provisional g.provisional.value) g.provisional) ++ line.prices g.prices ∷ []) ++ line.accuracy g.violation g.accuracy.den ∷ map row_record g.accuracy.rows) ++ line.balance g.balance.den ∷ map row_record g.balance.rows
    ≡ before ++ (line.settle number ∷ (regret_records g.settlement ++ opening_records g))
going_text before number g =
    nested before (proved_records (line.final g.settlement.final.value) g.settlement.final) (proved_records (line.rival g.settlement.rival.value) g.settlement.rival) (proved_records (line.provisional g.provisional.value) g.provisional)
    (line.accuracy g.violation g.accuracy.den ∷ map row_record g.accuracy.rows) (line.balance g.balance.den ∷ map row_record g.balance.rows) (line.settle number) (line.regret g.settlement.regret) (line.prices g.prices)

verdict_text : (before : List Record) (number : ℕ) (g : Going) (x : Submission) (v : Verdict)
    → ((before ++ going_records number g) ++ line.submit x ∷ []) ++ line.verdict v ∷ []
    ≡ before ++ going_records number (record g { judged = g.judged ++ record { submission = x; verdict = v } ∷ [] })
verdict_text before number g x v =
    two_more before (line.settle number ∷ regret_records g.settlement) (opening_records g) (flat_map judged_records g.judged) (line.submit x) (line.verdict v)
    ∙ ap (λ (rs : List Record). before ++ (((line.settle number ∷ regret_records g.settlement) ++ opening_records g) ++ rs)) (sym (flat_map-append judged_records g.judged (record { submission = x; verdict = v } ∷ [])))

-- ---- one more record

-- a stop fails where it stands
no_stop : (t : State) (r : Record) (after : State) → next t r ≡ Some after → ¬ Fails rule.Closed t r → is_round_stop (t.number + 2) r ≡ true → ⊥
no_stop t r after is pass stop = pass (or_true (is_spent r) (is_limit r) (is_round_stop (t.number + 2) r) stop, subst (λ (o : Option State). IsSome o) (sym is) refl)
  where
    or_true : (a b c : Bool) → c ≡ true → (a || b || c) ≡ true
    or_true true true c e = refl
    or_true true false c e = refl
    or_true false true c e = refl
    or_true false false c e = e

module _ (version : Version) (before : List Record) (s : State) (same : s.version ≡ version) (kind : s.kind ≡ session_kind) where
  -- the prices
  pub in_prices : (r : Record) (after : State) → IsRecord r → IsAt before s at_prices → next (go_to at_prices s) r ≡ Some after → ((k : Rule) → ¬ Fails k (go_to at_prices s) r) → IsStanding version (before ++ r ∷ []) after
  in_prices (line.prices p) after ranges (past, x, offer, opened, settled, offered, tells) is pass = by (eqb (length p.nums) (goods_at s)) refl is (pass rule.Prices)
    where
      by : (b : Bool) → eqb (length p.nums) (goods_at s) ≡ b
          → option_map (to_line (suc s.line)) (or_stop false (go_to at_pool s) (option_map (λ q. go_to at_accuracy (record s { prices = q })) (cond b (Some p) None))) ≡ Some after
          → ¬ IsSomeAnd (cond b (Some p) None) (AreUnlawful s) → IsStanding version (before ++ line.prices p ∷ []) after
      by true e f lawful = of_same _ after f (IsStanding version (before ++ line.prices p ∷ [])) (record {
        same_version = same;
        kind = kind;
        place = (
          past,
          x,
          offer,
          opened,
          settled,
          offered,
          prices_are s p ranges (eqb-true (length p.nums) (goods_at s) e) lawful,
          tells_more before s (offered_text s past x offer) (offered_text s past x offer ++ line.prices p ∷ []) (line.prices p) (λ m. refl) refl refl tells,
        );
      })
      by false e f lawful = absurd (none-some after f)
  in_prices (line.limit stage why violation den) after ranges at is pass = absurd (pass rule.Closed (refl, subst (λ (o : Option State). IsSome o) (sym is) refl))
  in_prices other after ranges at is pass = absurd (none-some after is)

  pub in_accuracy : (r : Record) (after : State) → IsAt before s at_accuracy → next (go_to at_accuracy s) r ≡ Some after → Holds (go_to at_accuracy s) r → IsStanding version (before ++ r ∷ []) after
  in_accuracy (line.accuracy violation den) after (past, x, offer, opened, settled, offered, priced, tells) is holds = of_same _ after is (IsStanding version (before ++ line.accuracy violation den ∷ [])) (record {
    same_version = same;
    kind = kind;
    place = (
      past,
      x,
      offer,
      opened,
      settled,
      offered,
      priced,
      holds.violation,
      λ e. absurd (true≢false e),
      tells_more before s (priced_text s past x offer) (priced_text s past x offer ++ line.accuracy violation den ∷ []) (line.accuracy violation den) (λ m. refl) refl refl tells,
    );
  })
  in_accuracy other after at is holds = absurd (none-some after is)

  -- the rows of the accuracy
  pub in_accuracy_rows : (den : ℕ) (rows : List Row) (r : Record) (after : State) → IsAt before s (at_accuracy_rows den rows) → next (go_to (at_accuracy_rows den rows) s) r ≡ Some after
      → EndsList (go_to (at_accuracy_rows den rows) s) r → Holds (go_to (at_accuracy_rows den rows) s) r → IsStanding version (before ++ r ∷ []) after
  in_accuracy_rows den rows (line.balance other) after (past, x, offer, opened, settled, offered, priced, violated, tested, tells) is ends holds = of_same _ after is (IsStanding version (before ++ line.balance other ∷ [])) (record {
    same_version = same;
    kind = kind;
    place = (
      past,
      x,
      offer,
      record { den = den; rows = rows },
      opened,
      settled,
      offered,
      priced,
      violated,
      rows_end (AccuracyHolds s den) rows tested (λ room. accuracy_ended s den rows (line.balance other) refl room ends),
      λ e. absurd (true≢false e),
      tells_more before s (accuracy_text s past x offer (record { den = den; rows = rows })) (accuracy_text s past x offer (record { den = den; rows = rows }) ++ line.balance other ∷ []) (line.balance other) (λ m. refl) refl refl
          tells,
    );
  })
  in_accuracy_rows den rows (line.row b weight set) after (past, x, offer, opened, settled, offered, priced, violated, tested, tells) is ends holds = by (may_have_row rows) refl is
    where
      row : Row
      row = record { bidder = b; weight = weight; set = set }

      by : (t : Bool) → may_have_row rows ≡ t → option_map (to_line (suc s.line)) (if_true t (go_to (at_accuracy_rows den (rows ++ row ∷ [])) s)) ≡ Some after → IsStanding version (before ++ line.row b weight set ∷ []) after
      by true room f = of_same _ after f (IsStanding version (before ++ line.row b weight set ∷ [])) (record {
        same_version = same;
        kind = kind;
        place = (
          past,
          x,
          offer,
          opened,
          settled,
          offered,
          priced,
          violated,
          rows_more (AccuracyHolds s den) rows row room (λ last. holds.list last),
          tells_more before s (accuracy_text s past x offer (record { den = den; rows = rows })) (accuracy_text s past x offer (record { den = den; rows = rows ++ row ∷ [] })) (line.row b weight set) (λ m. refl) refl
              (row_text (priced_text s past x offer) (line.accuracy s.violation den) rows row) tells,
        );
      })
      by false full f = absurd (none-some after f)
  in_accuracy_rows den rows other after at is ends holds = absurd (none-some after is)

  -- the rows of the balance have ended: the settlement goes on
  round_opens : (perturbed : PerturbedGivesRegret) (tests : TestsGiveBalanced) (den : ℕ) (rows : List Row) → IsAt before s (at_balance_rows den rows) → BalanceHolds s den rows → IsAt before s at_round
  round_opens perturbed tests den rows (past, x, offer, a, opened, settled, offered, priced, violated, accurate, tested, tells) balanced = (
    past,
    g,
    opened.earlier,
    record {
      going = record {
        settled = settled_right perturbed (exchange_at s) s.bounds x opened.earlier.lawful settled.settled;
        provisional = offered.best;
        violation = subst (λ (sets : Assignment). IsViolation (trees_at s) (offered_weights s) sets s.prices s.violation) (sym offered.sets_are) violated;
        balanced =
            subst (λ (sets : Assignment). IsBalanced (trees_at s) (offered_weights s) sets (goods_at s) (settings_at s).cap s.prices) (sym offered.sets_are)
            (balanced_prices tests s a (record { den = den; rows = rows }) (subst (IsFeasible (trees_at s) (exact_at s)) offered.sets_are offered.best.feasible) priced violated accurate balanced);
        round = rounds_begin s.prices (settings_at s).improve (standings (exchange_at s) s.bounds offer.sets);
      };
      test = settled.test;
      sets_are = offered.sets_are;
      prices_are = refl;
      judged_are = sym opened.unjudged;
    },
    subst (Tells before s)
        (going_text (all_going_records 0 past) s.number g
        ∙ ap (λ (rs : List Record). all_going_records 0 past ++ rs) (sym (append-nil (line.settle s.number ∷ (regret_records x ++ opening_records g))))) tells,
  )
    where
      g : Going
      g = record {
        settlement = x;
        provisional = offer;
        prices = s.prices;
        violation = s.violation;
        accuracy = a;
        balance = record { den = den; rows = rows };
        judged = [];
      }

  -- a submission
  submitted : (x : Submission) (after : State) → IsAt before s at_round → Some (to_line (suc s.line) (go_to (at_verdict x) s)) ≡ Some after → IsStanding version (before ++ line.submit x ∷ []) after
  submitted x after (past, g, earlier, gone, tells) is = of_same _ after is (IsStanding version (before ++ line.submit x ∷ [])) (record {
    same_version = same;
    kind = kind;
    place = (past, g, earlier, gone, tells_more before s (round_text s past g) (round_text s past g ++ line.submit x ∷ []) (line.submit x) (λ m. refl) refl refl tells);
  })

  -- the next settlement
  next_settled : (n : ℕ) (after : State) → IsAt before s at_round → n ≡ suc s.number → Some (to_line (suc s.line) (next_settlement s)) ≡ Some after → IsStanding version (before ++ line.settle n ∷ []) after
  next_settled n after (past, g, earlier, gone, tells) e is = of_same _ after is (IsStanding version (before ++ line.settle n ∷ [])) (record {
    same_version = same;
    kind = kind;
    place = (
      past ++ g ∷ [],
      record {
        earlier =
            subst (λ (bounds : List Bounds). IsPast (exchange_at s) (suc s.number) bounds (past ++ g ∷ []))
            (ap (λ (sets : Assignment). next_bounds (standings (exchange_at s) s.bounds sets) g.judged) gone.sets_are ∙ ap (λ (judged : List Judged). next_bounds (standings (exchange_at s) s.bounds s.offered) judged) gone.judged_are)
            (past_more (exchange_at s) s.number s.bounds past g earlier gone.test gone.going);
        unjudged = refl;
        complete = refl;
      },
      tells_more before s (round_text s past g) (all_going_records 0 (past ++ g ∷ []) ++ line.settle (suc s.number) ∷ []) (line.settle n) (λ m. refl) refl
          (ap (λ (rs : List Record). rs ++ line.settle n ∷ []) (text_more (exchange_at s) s.number s.bounds past g earlier) ∙ ap (λ (k : ℕ). all_going_records 0 (past ++ g ∷ []) ++ line.settle k ∷ []) e) tells,
    );
  })

  -- the round
  pub in_round : (r : Record) (after : State) → IsAt before s at_round → next (go_to at_round s) r ≡ Some after → IsStanding version (before ++ r ∷ []) after
  in_round (line.submit x) after at is = submitted x after at is
  in_round (line.settle n) after at is = by (eqb n (suc s.number)) refl is
    where
      by : (t : Bool) → eqb n (suc s.number) ≡ t → option_map (to_line (suc s.line)) (if_true t (next_settlement s)) ≡ Some after → IsStanding version (before ++ line.settle n ∷ []) after
      by true e f = next_settled n after at (eqb-true n (suc s.number) e) f
      by false e f = absurd (none-some after f)
  in_round other after at is = absurd (none-some after is)

  pub in_verdict : (x : Submission) (r : Record) (after : State) → IsAt before s (at_verdict x) → next (go_to (at_verdict x) s) r ≡ Some after → Holds (go_to (at_verdict x) s) r → IsStanding version (before ++ r ∷ []) after
  in_verdict x (line.verdict v) after (past, g, earlier, gone, tells) is holds = of_same _ after is (IsStanding version (before ++ line.verdict v ∷ [])) (record {
    same_version = same;
    kind = kind;
    place = (
      past,
      record g { judged = g.judged ++ record { submission = x; verdict = v } ∷ [] },
      earlier,
      record {
        going = record {
          settled = gone.going.settled;
          provisional = gone.going.provisional;
          violation = gone.going.violation;
          balanced = gone.going.balanced;
          round = (rounds_go_on g.prices (settings_at s).improve (standings (exchange_at s) s.bounds g.provisional.sets) g.judged (record { submission = x; verdict = v })).1 (gone.going.round, said);
        };
        test = gone.test;
        sets_are = gone.sets_are;
        prices_are = gone.prices_are;
        judged_are = ap (λ (judged : List Judged). judged ++ record { submission = x; verdict = v } ∷ []) gone.judged_are;
      },
      tells_more before s (round_text s past g ++ line.submit x ∷ []) _ (line.verdict v) (λ m. refl) refl (verdict_text (all_going_records 0 past) s.number g x v) tells,
    );
  })
    where
      said : IsNextVerdict g.prices (settings_at s).improve (standings (exchange_at s) s.bounds g.provisional.sets) g.judged x v
      said =
          subst (λ (p : Prices). IsNextVerdict p (settings_at s).improve (standings (exchange_at s) s.bounds g.provisional.sets) g.judged x v) (sym gone.prices_are)
          (subst (λ (sets : Assignment). IsNextVerdict s.prices (settings_at s).improve (standings (exchange_at s) s.bounds sets) g.judged x v) (sym gone.sets_are)
          (subst (λ (judged : List Judged). IsNextVerdict s.prices (settings_at s).improve (standings (exchange_at s) s.bounds s.offered) judged x v) (sym gone.judged_are) holds.verdict))
  in_verdict x other after at is holds = absurd (none-some after is)

  -- the rows of the balance, and what ends them
  module _ (perturbed : PerturbedGivesRegret) (tests : TestsGiveBalanced) (den : ℕ) (rows : List Row) where
    stopped : (r : Record) (after : State) → next (go_to (at_balance_rows den rows) s) r ≡ Some after → ¬ Fails rule.Closed (go_to (at_balance_rows den rows) s) r
        → option_map (to_line (suc s.line)) (if_true (is_round_stop (s.number + 2) r) (go_to done s)) ≡ Some after → ⊥
    stopped r after is pass f = by (is_round_stop (s.number + 2) r) refl f
      where
        by : (t : Bool) → is_round_stop (s.number + 2) r ≡ t → option_map (to_line (suc s.line)) (if_true t (go_to done s)) ≡ Some after → ⊥
        by true e g = no_stop (go_to (at_balance_rows den rows) s) r after is pass e
        by false e g = none-some after g

    opens : (r : Record) → row_in r ≡ None → IsAt before s (at_balance_rows den rows) → EndsList (go_to (at_balance_rows den rows) s) r → IsAt before s at_round
    opens r none at ends = round_opens perturbed tests den rows at (rows_end (BalanceHolds s den) rows (tested at) (λ room. balance_ended s den rows r none room ends))
      where
        tested : IsAt before s (at_balance_rows den rows) → may_have_row rows ≡ false → BalanceHolds s den rows
        tested (past, x, offer, a, opened, settled, offered, priced, violated, accurate, full, tells) = full

    pub in_balance_rows : (r : Record) (after : State) → IsAt before s (at_balance_rows den rows) → next (go_to (at_balance_rows den rows) s) r ≡ Some after → ((k : Rule) → ¬ Fails k (go_to (at_balance_rows den rows) s) r)
        → EndsList (go_to (at_balance_rows den rows) s) r → Holds (go_to (at_balance_rows den rows) s) r → IsStanding version (before ++ r ∷ []) after
    in_balance_rows (line.submit x) after at is pass ends holds = submitted x after (opens (line.submit x) refl at ends) is
    in_balance_rows (line.settle n) after at is pass ends holds = by (eqb n (suc s.number)) refl is
      where
        by : (t : Bool) → eqb n (suc s.number) ≡ t
            → option_map (to_line (suc s.line)) (or_stop false (go_to done s) (with_row rows (at_balance_rows den) s (line.settle n) (if_true t (next_settlement s)))) ≡ Some after → IsStanding version (before ++ line.settle n ∷ []) after
        by true e f = next_settled n after (opens (line.settle n) refl at ends) (eqb-true n (suc s.number) e) f
        by false e f = absurd (none-some after f)
    in_balance_rows (line.row b weight set) after (past, x, offer, a, opened, settled, offered, priced, violated, accurate, tested, tells) is pass ends holds = by (may_have_row rows) refl is
      where
        row : Row
        row = record { bidder = b; weight = weight; set = set }

        by : (t : Bool) → may_have_row rows ≡ t → option_map (to_line (suc s.line)) (or_stop false (go_to done s) (if_true t (go_to (at_balance_rows den (rows ++ row ∷ [])) s))) ≡ Some after
            → IsStanding version (before ++ line.row b weight set ∷ []) after
        by true room f = of_same _ after f (IsStanding version (before ++ line.row b weight set ∷ [])) (record {
          same_version = same;
          kind = kind;
          place = (
            past,
            x,
            offer,
            a,
            opened,
            settled,
            offered,
            priced,
            violated,
            accurate,
            rows_more (BalanceHolds s den) rows row room (λ last. holds.list last),
            tells_more before s (balance_text s past x offer a (record { den = den; rows = rows })) (balance_text s past x offer a (record { den = den; rows = rows ++ row ∷ [] })) (line.row b weight set) (λ m. refl) refl
                (row_text (accuracy_text s past x offer a) (line.balance den) rows row) tells,
          );
        })
        by false full f = absurd (none-some after f)
    in_balance_rows (line.end word) after at is pass ends holds = absurd (stopped (line.end word) after is (pass rule.Closed) is)
    in_balance_rows (line.refused file number place) after at is pass ends holds = absurd (stopped (line.refused file number place) after is (pass rule.Closed) is)
    in_balance_rows (line.unread file) after at is pass ends holds = absurd (stopped (line.unread file) after is (pass rule.Closed) is)
    in_balance_rows other after at is pass ends holds = absurd (none-some after is)
