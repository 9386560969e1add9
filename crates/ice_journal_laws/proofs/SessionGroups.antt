-- The groups of a session, where each test of them passes.
use Rattle.std.proofs.Common.{◌≡◌, ◌+◌, ◌<◌, ℕ, suc, Bool, true, false, cond, eqb, List, [], ◌∷◌, ◌++◌, length, ℤ, refl, sym, ◌∙◌, ap, subst, arith, length-append}
use Rattle.std.specs.Prelude.{Some, None, option_map, Result, Ok, Err, IsTrue, ◌-ℤ◌, zip}
use Rattle.std.specs.List.{AllByRecursion}
use Rattle.std.proofs.lemmas.Bool.{eqb-true, eqb-false}
use Rattle.std.proofs.lemmas.Option.{none-some}
use Rattle.std.proofs.lemmas.List.{append-nil, append_assoc, map-append}
use Rattle.ice_defs.proofs.Lists.{all_push}
use Rattle.ice_defs.specs.Sum.{numbers_below}
use Rattle.ice_defs.specs.Bound.{Multipliers}
use Rattle.ice_defs.specs.Steps.{Step, Side}
use Rattle.ice_defs.specs.Bounds.{Bounds}
use Rattle.ice_defs.specs.Weighing.{lower_weights}
use Rattle.ice_defs.specs.Vickrey.{IsBestWithout}
use Rattle.ice_defs.specs.Exchange.{Exchange, trees_of, exact_of, opening_bounds}
use Rattle.ice_defs.specs.declared.Group.TheVariants.{Final, Rival, Provisional, Without}
use Rattle.ice_defs.specs.Session.{Proved, Settlement, Going, closes}
use Rattle.ice_journal.specs.Records.{Record, Version, Kind, session_kind}
use Rattle.ice_journal.specs.Records as line
use Rattle.ice_journal.specs.Ranges.{IsRecord}
use Rattle.ice_section.specs.Section.{Section, SectionFault, order, count, no_good, maker, no_section, take_record, may_end}
use Rattle.ice_section.specs.Taking.{unless_fault}
use Rattle.ice_section.specs.Laws.{SectionIsLawful, SectionRecords}
use Rattle.ice_refute.specs.Laws.{LogRefutes}
use Rattle.ice_journal_laws.specs.declared.rule.Rule.{Rule}
use Rattle.ice_journal_laws.specs.declared.rule.Rule.TheVariants as rule
use Rattle.ice_journal_laws.specs.State.{Stated, at_section, at_group, at_sets, at_log, at_regret, at_threshold, State, exchange_at, settings_at}
use Rattle.ice_journal_laws.specs.Next.{next, go_to, to_line, bidder_count, from_section, after_section, past_section, if_true, after_regret}
use Rattle.ice_journal_laws.specs.Tests.{Fails, Holds, is_refusal}
use Rattle.ice_journal_laws.specs.Written.{proved_records, without_records}
use Rattle.ice_journal_laws.proofs.Faultless.{covered}
use Rattle.ice_journal_laws.proofs.Assigning.{taken_more}
use Rattle.ice_journal_laws.proofs.Grouping.{of_same, so_far, Tells, tells_more, head_begins, sets_go_on, log_goes_on, best_found}
use Rattle.ice_journal_laws.proofs.Regretting.{IsFinal, IsRival, some_bidder, section_told}
use Rattle.ice_journal_laws.proofs.Past.{IsPast, past_begins}
use Rattle.ice_defs.proofs.Below.{length-numbers_below}
use Rattle.ice_journal_laws.proofs.Without.{best_without}
use Rattle.ice_journal_laws.proofs.Sessions.{AreWithout, Opened, Past, Settled, WithoutEach, open_text, final_so_far, settled_text, without_text, IsAt, IsStanding}

-- ---- one more group without a bidder

zip_more : {X Y : Type 0} (xs : List X) (ys : List Y) (x : X) (y : Y) → length xs ≡ length ys → zip (xs ++ x ∷ []) (ys ++ y ∷ []) ≡ zip xs ys ++ (x, y) ∷ []
zip_more [] [] x y e = refl
zip_more [] (b ∷ ys) x y e = absurd (omega (arith, e))
zip_more (a ∷ xs) [] x y e = absurd (omega (arith, e))
zip_more (a ∷ xs) (b ∷ ys) x y e = ap (λ rest. (a, b) ∷ rest) (zip_more xs ys x y (omega (arith, e)))

without_more : (ex : Exchange) (bounds : List Bounds) (withouts : List ℤ) (b : ℕ) (ps : List Proved) (p : Proved) → AreWithout ex bounds withouts b ps
    → IsBestWithout (trees_of ex) (exact_of ex) (lower_weights bounds) b p.value → AreWithout ex bounds (withouts ++ p.value ∷ []) (suc b) (ps ++ p ∷ [])
without_more ex bounds withouts b ps p are best = record {
  count = length-append ps (p ∷ []) ∙ omega (arith, are.count);
  values = map-append (λ (q : Proved). q.value) ps (p ∷ []) ∙ ap (λ (vs : List ℤ). vs ++ p.value ∷ []) are.values;
  best = subst (AllByRecursion Is) (sym numbered) (all_push Is (zip (numbers_below (length ps)) ps) (length ps, p) are.best (subst (λ (n : ℕ). Is (n, p)) (sym are.count) best));
}
  where
    Is : ℕ × Proved → Type 0
    Is q = IsBestWithout (trees_of ex) (exact_of ex) (lower_weights bounds) q.0 (q.1).value

    numbered : zip (numbers_below (length (ps ++ p ∷ []))) (ps ++ p ∷ []) ≡ zip (numbers_below (length ps)) ps ++ (length ps, p) ∷ []
    numbered =
        ap (λ (n : ℕ). zip (numbers_below n) (ps ++ p ∷ [])) (length-append ps (p ∷ []) ∙ one_more (length ps))
        ∙ zip_more (numbers_below (length ps)) ps (length ps) p (length-numbers_below (length ps))
      where
        one_more : (n : ℕ) → n + 1 ≡ suc n
        one_more n = omega arith

without_text_more : (b : ℕ) (ps : List Proved) (p : Proved) → without_records b (ps ++ p ∷ []) ≡ without_records b ps ++ proved_records (line.without (b + length ps) p.value) p
without_text_more b [] p = append-nil (proved_records (line.without b p.value) p) ∙ ap (λ (k : ℕ). proved_records (line.without k p.value) p) (omega arith)
without_text_more b (q ∷ ps) p =
    ap (λ (rs : List Record). proved_records (line.without b q.value) q ++ rs)
    (without_text_more (suc b) ps p ∙ ap (λ (k : ℕ). without_records (suc b) ps ++ proved_records (line.without k p.value) p) (omega arith))
    ∙ sym (append_assoc (proved_records (line.without b q.value) q) (without_records (suc b) ps) (proved_records (line.without (b + suc (length ps)) p.value) p))

-- ---- one more record

module _ (version : Version) (before : List Record) (s : State) (same : s.version ≡ version) (kind : s.kind ≡ session_kind) where
  -- the section of the exchange, and the number of the first settlement behind it
  module _ (lawful : SectionIsLawful) (described : SectionRecords) (refutes : LogRefutes) (records : AllByRecursion IsRecord before) where
    first_settled : (number : ℕ) (after : State) → IsAt before s at_section → may_end s.section ≡ true → number ≡ 0 → Some (to_line (suc s.line) (go_to (at_group Final) (past_section s))) ≡ Some after
        → IsStanding version (before ++ line.settle number ∷ []) after
    first_settled number after (taken, first, unjudged, complete) ended e is =
        let told = section_told lawful described refutes before s records taken ended in
        of_same _ after is (IsStanding version (before ++ line.settle number ∷ [])) (record {
          same_version = same;
          kind = kind;
          place = (
            [],
            record {
              earlier = subst (λ (n : ℕ). IsPast (exchange_at s) n (opening_bounds (exchange_at s)) []) (sym first) (past_begins (exchange_at s) told.exchange);
              unjudged = unjudged;
              complete = complete;
            },
            tells_more before s [] (line.settle s.number ∷ []) (line.settle number) (λ m. refl) refl (ap (λ (n : ℕ). line.settle n ∷ []) (e ∙ sym first)) told,
          );
        })

    ends_section : (r : Record) (after : State) → IsAt before s at_section → may_end s.section ≡ true → option_map (to_line (suc s.line)) (after_section (past_section (go_to at_section s)) session_kind r) ≡ Some after
        → IsStanding version (before ++ r ∷ []) after
    ends_section (line.settle number) after at ended is = by (eqb number 0) refl is
      where
        by : (b : Bool) → eqb number 0 ≡ b → option_map (to_line (suc s.line)) (if_true b (go_to (at_group Final) (past_section s))) ≡ Some after → IsStanding version (before ++ line.settle number ∷ []) after
        by true e f = first_settled number after at ended (eqb-true number 0 e) f
        by false e f = absurd (none-some after f)
    ends_section other after at ended is = absurd (none-some after is)

    from_taken : (r : Record) (after : State) (o : Result Section SectionFault) → IsAt before s at_section → take_record s.section r ≡ o → option_map (to_line (suc s.line)) (from_section (go_to at_section s) r o) ≡ Some after
        → ¬ IsTrue (is_refusal o) → IsStanding version (before ++ r ∷ []) after
    from_taken r after (Ok section) (taken, first, unjudged, complete) e is refused = of_same _ after is (IsStanding version (before ++ r ∷ [])) (record {
      same_version = same;
      kind = kind;
      place = (taken_more no_section before r ∙ ap (λ o. unless_fault o (λ next. take_record next r)) taken ∙ e, first, unjudged, complete);
    })
    from_taken r after (Err order) at e is refused = by (may_end s.section) refl is
      where
        by : (b : Bool) → may_end s.section ≡ b → option_map (to_line (suc s.line)) (cond b (after_section (past_section (go_to at_section s)) s.kind r) None) ≡ Some after → IsStanding version (before ++ r ∷ []) after
        by true ended f = ends_section r after at ended (subst (λ (k : Kind). option_map (to_line (suc s.line)) (after_section (past_section (go_to at_section s)) k r) ≡ Some after) kind f)
        by false ended f = absurd (none-some after f)
    from_taken r after (Err count) at e is refused = absurd (refused refl)
    from_taken r after (Err no_good) at e is refused = absurd (refused refl)
    from_taken r after (Err (maker number)) at e is refused = absurd (refused refl)

    pub in_section : (r : Record) (after : State) → IsAt before s at_section → next (go_to at_section s) r ≡ Some after → ((k : Rule) → ¬ Fails k (go_to at_section s) r) → IsStanding version (before ++ r ∷ []) after
    in_section r after at is pass = from_taken r after (take_record s.section r) at refl is (λ e. pass rule.Exchange (refl, e))

  module _ (r : Record) (after : State) where
    -- the final group
    pub in_final : IsAt before s (at_group Final) → next (go_to (at_group Final) s) r ≡ Some after → ((k : Rule) → ¬ Fails k (go_to (at_group Final) s) r) → IsStanding version (before ++ r ∷ []) after
    in_final (past, opened, tells) is pass =
        head_begins (go_to (at_group Final) s) (go_to (at_group Final) s) Final r (suc s.line) after is (pass rule.Closed) is (λ x t. IsStanding version (before ++ x ∷ []) t)
        (λ value. record {
          same_version = same;
          kind = kind;
          place = (
            past,
            opened,
            record {
              tells = tells_more before s (open_text s past) (open_text s past ++ line.final value ∷ []) (line.final value) (λ m. refl) refl refl tells;
              room = some_bidder s tells.exchange;
              satisfied = λ b l. absurd (omega arith);
              left = tt;
            },
          );
        })

    pub in_final_sets : (found : Stated) → IsAt before s (at_sets Final found) → next (go_to (at_sets Final found) s) r ≡ Some after → ((k : Rule) → ¬ Fails k (go_to (at_sets Final found) s) r)
        → IsStanding version (before ++ r ∷ []) after
    in_final_sets found (past, opened, sets) is pass =
        sets_go_on before s (open_text s past) Final found r after refl sets is pass (IsStanding version (before ++ r ∷ []))
        (λ x more. record { same_version = same; kind = kind; place = (past, opened, more) })
        (λ x full. record { same_version = same; kind = kind; place = (past, opened, full) })

    pub in_final_log : (refutes : LogRefutes) (found : Stated) (side : Side) (sides : List Side) (m : Multipliers) → IsAt before s (at_log Final found (side ∷ sides) m)
        → next (go_to (at_log Final found (side ∷ sides) m) s) r ≡ Some after → ((k : Rule) → ¬ Fails k (go_to (at_log Final found (side ∷ sides) m) s) r)
        → Holds (go_to (at_log Final found (side ∷ sides) m) s) r → IsStanding version (before ++ r ∷ []) after
    in_final_log refutes found side sides m (past, opened, log) is pass holds =
        log_goes_on before s (open_text s past) Final found side sides m r after log is pass holds.leaf (IsStanding version (before ++ r ∷ []))
        (λ first others new more. record { same_version = same; kind = kind; place = (past, opened, more) })
        (λ closed. record {
          same_version = same;
          kind = kind;
          place = (past, closed.log, opened, best_found refutes (before ++ r ∷ []) s (open_text s past) Final found refl closed, closed.tells);
        })

    -- the rival group
    pub in_rival : IsAt before s (at_group Rival) → next (go_to (at_group Rival) s) r ≡ Some after → ((k : Rule) → ¬ Fails k (go_to (at_group Rival) s) r) → IsStanding version (before ++ r ∷ []) after
    in_rival (past, log, opened, final, tells) is pass =
        head_begins (go_to (at_group Rival) s) (go_to (at_group Rival) s) Rival r (suc s.line) after is (pass rule.Closed) is (λ x t. IsStanding version (before ++ x ∷ []) t)
        (λ value. record {
          same_version = same;
          kind = kind;
          place = (
            past,
            log,
            opened,
            final,
            record {
              tells = tells_more before s (final_so_far s past log) (final_so_far s past log ++ line.rival value ∷ []) (line.rival value) (λ m. refl) refl refl tells;
              room = some_bidder s tells.exchange;
              satisfied = λ b l. absurd (omega arith);
              left = tt;
            },
          );
        })

    pub in_rival_sets : (found : Stated) → IsAt before s (at_sets Rival found) → next (go_to (at_sets Rival found) s) r ≡ Some after → ((k : Rule) → ¬ Fails k (go_to (at_sets Rival found) s) r)
        → IsStanding version (before ++ r ∷ []) after
    in_rival_sets found (past, log, opened, final, sets) is pass =
        sets_go_on before s (final_so_far s past log) Rival found r after refl sets is pass (IsStanding version (before ++ r ∷ []))
        (λ x more. record { same_version = same; kind = kind; place = (past, log, opened, final, more) })
        (λ x full. record { same_version = same; kind = kind; place = (past, log, opened, final, full) })

    pub in_rival_log : (refutes : LogRefutes) (found : Stated) (side : Side) (sides : List Side) (m : Multipliers) → IsAt before s (at_log Rival found (side ∷ sides) m)
        → next (go_to (at_log Rival found (side ∷ sides) m) s) r ≡ Some after → ((k : Rule) → ¬ Fails k (go_to (at_log Rival found (side ∷ sides) m) s) r)
        → Holds (go_to (at_log Rival found (side ∷ sides) m) s) r → IsStanding version (before ++ r ∷ []) after
    in_rival_log refutes found side sides m (past, log, opened, final, rival) is pass holds =
        log_goes_on before s (final_so_far s past log) Rival found side sides m r after rival is pass holds.leaf (IsStanding version (before ++ r ∷ []))
        (λ first others new more. record { same_version = same; kind = kind; place = (past, log, opened, final, more) })
        (λ closed. record {
          same_version = same;
          kind = kind;
          place = (past, log, so_far found closed.log, opened, final, best_found refutes (before ++ r ∷ []) s (final_so_far s past log) Rival found refl closed, refl, closed.tells);
        })

  -- the regret, by which the settlement closes or goes on
  module _ (amount : ℤ) where
    abbrev With : State
    With = to_line (suc s.line) (record s { regret = amount })

    tested : (past : List Going) (log : List Step) (rival : Proved) → Opened s past → IsFinal s log → IsRival s rival → rival.value ≡ s.rival
        → Tells (before ++ line.regret amount ∷ []) s (settled_text s past (record { final = so_far s.final log; rival = rival; regret = amount })) → amount ≡ (s.rival -ℤ s.final.value)
        → (b : Bool) → closes (settings_at s) s.number amount ≡ b → IsAt (before ++ line.regret amount ∷ []) With (cond b (at_group (Without 0)) (at_group Provisional))
    tested past log rival opened final best value tells is true ends = (
      past,
      record { final = so_far s.final log; rival = rival; regret = amount },
      [],
      opened.earlier,
      record {
        settled = record { final = final; rival = best; amount = is ∙ ap (λ (v : ℤ). v -ℤ s.final.value) (sym value) };
        regret_is = refl;
        value_is = refl;
        sets_are = refl;
        test = ends;
      },
      record { count = refl; values = sym opened.complete; best = tt },
      some_bidder s tells.exchange,
      subst (Tells (before ++ line.regret amount ∷ []) s) (sym (append-nil (settled_text s past (record { final = so_far s.final log; rival = rival; regret = amount })))) tells,
    )
    tested past log rival opened final best value tells is false ends = (
      past,
      record { final = so_far s.final log; rival = rival; regret = amount },
      opened,
      record {
        settled = record { final = final; rival = best; amount = is ∙ ap (λ (v : ℤ). v -ℤ s.final.value) (sym value) };
        regret_is = refl;
        value_is = refl;
        sets_are = refl;
        test = ends;
      },
      tells,
    )

  pub in_regret : (r : Record) (after : State) → IsAt before s at_regret → next (go_to at_regret s) r ≡ Some after → ((k : Rule) → ¬ Fails k (go_to at_regret s) r) → IsStanding version (before ++ r ∷ []) after
  in_regret (line.regret amount) after (past, log, rival, opened, final, best, value, tells) is pass =
      of_same _ after (subst (λ (k : Kind). Some (to_line (suc s.line) (after_regret (record (go_to at_regret s) { regret = amount }) k)) ≡ Some after) kind is) (IsStanding version (before ++ line.regret amount ∷ []))
      (record {
        same_version = same;
        kind = kind;
        place =
            tested amount past log rival opened final best value
            (tells_more before s _ (settled_text s past (record { final = so_far s.final log; rival = rival; regret = amount })) (line.regret amount) (λ m. refl) refl refl tells)
            (covered true amount _ (λ none. pass rule.Regret none)) (closes (settings_at s) s.number amount) refl;
      })
  in_regret other after at is pass = absurd (none-some after is)

  module _ (r : Record) (after : State) where
    -- the provisional group
    pub in_provisional : IsAt before s (at_group Provisional) → next (go_to (at_group Provisional) s) r ≡ Some after → ((k : Rule) → ¬ Fails k (go_to (at_group Provisional) s) r)
        → IsStanding version (before ++ r ∷ []) after
    in_provisional (past, x, opened, settled, tells) is pass =
        head_begins (go_to (at_group Provisional) s) (go_to (at_group Provisional) s) Provisional r (suc s.line) after is (pass rule.Closed) is (λ x t. IsStanding version (before ++ x ∷ []) t)
        (λ value. record {
          same_version = same;
          kind = kind;
          place = (
            past,
            x,
            opened,
            settled,
            record {
              tells = tells_more before s (settled_text s past x) (settled_text s past x ++ line.provisional value ∷ []) (line.provisional value) (λ m. refl) refl refl tells;
              room = some_bidder s tells.exchange;
              satisfied = λ b l. absurd (omega arith);
              left = tt;
            },
          );
        })

    pub in_provisional_sets : (found : Stated) → IsAt before s (at_sets Provisional found) → next (go_to (at_sets Provisional found) s) r ≡ Some after
        → ((k : Rule) → ¬ Fails k (go_to (at_sets Provisional found) s) r) → IsStanding version (before ++ r ∷ []) after
    in_provisional_sets found (past, x, opened, settled, sets) is pass =
        sets_go_on before s (settled_text s past x) Provisional found r after refl sets is pass (IsStanding version (before ++ r ∷ []))
        (λ y more. record { same_version = same; kind = kind; place = (past, x, opened, settled, more) })
        (λ y full. record { same_version = same; kind = kind; place = (past, x, opened, settled, full) })

    pub in_provisional_log : (refutes : LogRefutes) (found : Stated) (side : Side) (sides : List Side) (m : Multipliers) → IsAt before s (at_log Provisional found (side ∷ sides) m)
        → next (go_to (at_log Provisional found (side ∷ sides) m) s) r ≡ Some after → ((k : Rule) → ¬ Fails k (go_to (at_log Provisional found (side ∷ sides) m) s) r)
        → Holds (go_to (at_log Provisional found (side ∷ sides) m) s) r → IsStanding version (before ++ r ∷ []) after
    in_provisional_log refutes found side sides m (past, x, opened, settled, log) is pass holds =
        log_goes_on before s (settled_text s past x) Provisional found side sides m r after log is pass holds.leaf (IsStanding version (before ++ r ∷ []))
        (λ first others new more. record { same_version = same; kind = kind; place = (past, x, opened, settled, more) })
        (λ closed. record {
          same_version = same;
          kind = kind;
          place = (
            past,
            x,
            so_far found closed.log,
            opened,
            settled,
            record { best = best_found refutes (before ++ r ∷ []) s (settled_text s past x) Provisional found refl closed; sets_are = refl },
            closed.tells,
          );
        })

    -- the groups without a bidder
    module _ (b : ℕ) where
      pub in_without : IsAt before s (at_group (Without b)) → next (go_to (at_group (Without b)) s) r ≡ Some after → ((k : Rule) → ¬ Fails k (go_to (at_group (Without b)) s) r)
          → IsStanding version (before ++ r ∷ []) after
      in_without (past, x, ps, earlier, settled, without, there, tells) is pass =
          head_begins (go_to (at_group (Without b)) s) (go_to (at_group (Without b)) s) (Without b) r (suc s.line) after is (pass rule.Closed) is (λ y t. IsStanding version (before ++ y ∷ []) t)
          (λ value. record {
            same_version = same;
            kind = kind;
            place = (
              past,
              x,
              ps,
              earlier,
              settled,
              without,
              there,
              record {
                tells = tells_more before s (without_text s past x ps) (without_text s past x ps ++ line.without b value ∷ []) (line.without b value) (λ m. refl) refl refl tells;
                room = some_bidder s tells.exchange;
                satisfied = λ c l. absurd (omega arith);
                left = λ l. absurd (omega (arith, l));
              },
            );
          })

      pub in_without_sets : (found : Stated) → IsAt before s (at_sets (Without b) found) → next (go_to (at_sets (Without b) found) s) r ≡ Some after
          → ((k : Rule) → ¬ Fails k (go_to (at_sets (Without b) found) s) r) → IsStanding version (before ++ r ∷ []) after
      in_without_sets found (past, x, ps, earlier, settled, without, there, sets) is pass =
          sets_go_on before s (without_text s past x ps) (Without b) found r after refl sets is pass (IsStanding version (before ++ r ∷ []))
          (λ y more. record { same_version = same; kind = kind; place = (past, x, ps, earlier, settled, without, there, more) })
          (λ y full. record { same_version = same; kind = kind; place = (past, x, ps, earlier, settled, without, there, full) })

      -- the next one, or the threshold behind the last one
      without_next : (past : List Going) (x : Settlement) (ps : List Proved) (p : Proved) → Past s past → Settled s true x → WithoutEach s b ps → b < bidder_count s
          → IsBestWithout (trees_of (exchange_at s)) (exact_of (exchange_at s)) (lower_weights s.bounds) b p.value
          → Tells (before ++ r ∷ []) s (without_text s past x ps ++ proved_records (line.without b p.value) p)
          → (t : Bool) → eqb (suc b) (bidder_count s) ≡ t
          → IsAt (before ++ r ∷ []) (to_line (suc s.line) (record s { withouts = s.withouts ++ p.value ∷ [] })) (cond t at_threshold (at_group (Without (suc b))))
      without_next past x ps p earlier settled without there best tells = by
        where
          longer : without_text s past x ps ++ proved_records (line.without b p.value) p ≡ without_text s past x (ps ++ p ∷ [])
          longer =
              append_assoc (settled_text s past x) (without_records 0 ps) (proved_records (line.without b p.value) p)
              ∙ ap (λ (rs : List Record). settled_text s past x ++ rs)
              (ap (λ (k : ℕ). without_records 0 ps ++ proved_records (line.without k p.value) p) (omega (arith, without.count)) ∙ sym (without_text_more 0 ps p))

          more : AreWithout (exchange_at s) s.bounds (s.withouts ++ p.value ∷ []) (suc b) (ps ++ p ∷ [])
          more = without_more (exchange_at s) s.bounds s.withouts b ps p without best

          by : (t : Bool) → eqb (suc b) (bidder_count s) ≡ t → IsAt (before ++ r ∷ []) (to_line (suc s.line) (record s { withouts = s.withouts ++ p.value ∷ [] })) (cond t at_threshold (at_group (Without (suc b))))
          by true e = (
            past,
            x,
            ps ++ p ∷ [],
            earlier,
            settled,
            subst (λ (n : ℕ). AreWithout (exchange_at s) s.bounds (s.withouts ++ p.value ∷ []) n (ps ++ p ∷ [])) (eqb-true (suc b) (bidder_count s) e) more,
            subst (Tells (before ++ r ∷ []) s) longer tells,
          )
          by false e = (
            past,
            x,
            ps ++ p ∷ [],
            earlier,
            settled,
            more,
            omega (arith, there, eqb-false (suc b) (bidder_count s) e),
            subst (Tells (before ++ r ∷ []) s) longer tells,
          )

      pub in_without_log : (refutes : LogRefutes) (found : Stated) (side : Side) (sides : List Side) (m : Multipliers) → IsAt before s (at_log (Without b) found (side ∷ sides) m)
          → next (go_to (at_log (Without b) found (side ∷ sides) m) s) r ≡ Some after → ((k : Rule) → ¬ Fails k (go_to (at_log (Without b) found (side ∷ sides) m) s) r)
          → Holds (go_to (at_log (Without b) found (side ∷ sides) m) s) r → IsStanding version (before ++ r ∷ []) after
      in_without_log refutes found side sides m (past, x, ps, earlier, settled, without, there, log) is pass holds =
          log_goes_on before s (without_text s past x ps) (Without b) found side sides m r after log is pass holds.leaf (IsStanding version (before ++ r ∷ []))
          (λ first others new more. record { same_version = same; kind = kind; place = (past, x, ps, earlier, settled, without, there, more) })
          (λ closed. record {
            same_version = same;
            kind = kind;
            place =
                without_next past x ps (so_far found closed.log) earlier settled without there (best_without refutes (before ++ r ∷ []) s (without_text s past x ps) b found there closed) closed.tells
                (eqb (suc b) (bidder_count s)) refl;
          })
