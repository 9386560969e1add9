-- Lines of a round that pass, and what is kept behind them.
use Rattle.std.proofs.Common.{◌≡◌, ◌≢◌, ℕ, suc, zero, ◌<◌, Bool, true, false, cond, eqb, List, [], ◌∷◌, ◌++◌, length, replicate, slice_index_or, slice_set, refl, sym, ap, ◌∙◌, subst, arith, ℤ}
use Rattle.std.specs.Prelude.{Option, Some, None, option_map, ◌||◌}
use Rattle.std.specs.List.{list_any}
use Rattle.std.specs.Str.{bytes_eq}
use Rattle.std.proofs.lemmas.Bool.{eqb-true}
use Rattle.ice_defs.proofs.Naming.{same-bytes_eq}
use Rattle.ice_defs.specs.declared.Verdict.{Verdict}
use Rattle.ice_defs.specs.Bounds.{Bounds, bounds_of}
use Rattle.ice_defs.specs.Prices.{Prices}
use Rattle.ice_defs.specs.Round.{Submission, Judged, Standing, stated_bounds, is_accepted, IsVerdict, bounds_after}
use Rattle.ice_defs.specs.Trade.{set_of}
use Rattle.ice_defs.specs.Exchange.{Exchange}
use Rattle.ice_journal.specs.Records as line
use Rattle.ice_journal_laws.specs.declared.rule.Rule.TheVariants as rule
use Rattle.ice_round_laws.proofs.Entering.{taken_push}
use Rattle.ice_round_laws.proofs.Verdicts.{one_verdict}
use Rattle.ice_verdicts.specs.Judges.{Round, IsRoundOf, bidder_in, is_marked, bidder_named, with_taken, round_after, IsVerdictOf, IsVerdictIn}
use Rattle.ice_verdicts.proofs.Submitting.{Asked, asked_in, after_asked}
use Rattle.ice_statement_laws.specs.Statement.{StatementLine, shown}
use Rattle.ice_statement_laws.specs.Audit.{at_regret, at_round, at_verdict, AuditState, settings_at, standing_at, move_to, to_line, audit_next}
use Rattle.ice_statement_laws.proofs.Walking.{quiet}
use Rattle.ice_audit.specs.declared.next.Next.TheVariants as next
use Rattle.ice_audit.specs.declared.settlements.Settlements.{Settlements}
use Rattle.ice_audit.specs.Standing.{own_name, IsKept, HasJudged, Stands}
use Rattle.ice_audit.specs.Taking.{FailsFirst, GoesOn}
use Rattle.ice_audit.proofs.Failing.{order_fails, verdict_fails}
use Rattle.ice_audit.proofs.Tools.{passes_from, fails_from, at_now, tree_is, named_first, same_paid}

-- ---- one more submission

bounds_more : (old : Bounds) (judged : List Judged) (j : Judged) → bounds_after old (judged ++ j ∷ []) ≡ cond (list_any is_accepted judged) (bounds_after old judged) (cond (is_accepted j) (stated_bounds j.submission) old)
bounds_more old [] j = refl
bounds_more old (k ∷ judged) j = by (is_accepted k) (bounds_more old judged j)
  where
    by : (b : Bool) → bounds_after old (judged ++ j ∷ []) ≡ cond (list_any is_accepted judged) (bounds_after old judged) (cond (is_accepted j) (stated_bounds j.submission) old) → cond b (stated_bounds k.submission) (bounds_after old (judged ++ j ∷ []))
        ≡ cond (b || list_any is_accepted judged) (cond b (stated_bounds k.submission) (bounds_after old judged)) (cond (is_accepted j) (stated_bounds j.submission) old)
    by true e = refl
    by false e = e

none_accepted : (old : Bounds) (judged : List Judged) → list_any is_accepted judged ≡ false → bounds_after old judged ≡ old
none_accepted old [] e = refl
none_accepted old (k ∷ judged) e = by (is_accepted k) e (none_accepted old judged)
  where
    by : (b : Bool) → (b || list_any is_accepted judged) ≡ false → (list_any is_accepted judged ≡ false → bounds_after old judged ≡ old) → cond b (stated_bounds k.submission) (bounds_after old judged) ≡ old
    by true f later = absurd cc
    by false f later = later f

or_true : (b : Bool) → (b || true) ≡ true
or_true true = refl
or_true false = refl

or_false : (b : Bool) → (b || false) ≡ b
or_false true = refl
or_false false = refl

first_put : {X : Type 0} (xs : List X) (v d : X) → 0 < length xs → slice_index_or (slice_set xs 0 v) 0 d ≡ v
first_put [] v d there = absurd (omega (arith, there))
first_put (x ∷ xs) v d there = refl

module _ (ex : Exchange) (r : Round) (bounds : Bounds) (judged : List Judged) (x : Submission) (due : Verdict) (named : bidder_named ex x.name ≡ Some 0) (nexts : 0 < length r.next) (marks : 0 < length r.marks)
    (so_far : HasJudged r bounds judged) (once : list_any is_accepted judged ≡ true → is_accepted (record { submission = x; verdict = due }) ≡ false) where
  abbrev last : Judged
  last = record { submission = x; verdict = due }

  taken_first : with_taken r (bidder_named ex x.name) x ≡ record r { next = slice_set r.next 0 (stated_bounds x); marks = slice_set r.marks 0 true }
  taken_first = ap (λ (o : Option ℕ). with_taken r o x) named

  any_is : (b : Bool) → is_accepted last ≡ b → list_any is_accepted (judged ++ last ∷ []) ≡ (list_any is_accepted judged || b)
  any_is b e = taken_push judged last ∙ ap (λ (c : Bool). list_any is_accepted judged || c) e

  bounds_is : (a b : Bool) → list_any is_accepted judged ≡ a → is_accepted last ≡ b → bounds_after bounds (judged ++ last ∷ []) ≡ cond a (bounds_after bounds judged) (cond b (stated_bounds x) bounds)
  bounds_is a b e f = bounds_more bounds judged last ∙ (λ i. cond (e i) (bounds_after bounds judged) (cond (f i) (stated_bounds x) bounds))

  fresh : is_accepted last ≡ true → (a : Bool) → list_any is_accepted judged ≡ a → a ≡ false
  fresh f true e = absurd (let g = once e in let h : true ≡ false = sym f ∙ g in cc)
  fresh f false e = refl

  by_verdict : (b : Bool) → is_accepted last ≡ b → HasJudged (cond b (with_taken r (bidder_named ex x.name) x) r) bounds (judged ++ last ∷ [])
  by_verdict true f = subst (λ (t : Round). HasJudged t bounds (judged ++ last ∷ [])) (sym taken_first) (record {
    marked = first_put r.marks true false marks ∙ sym (any_is true f ∙ or_true (list_any is_accepted judged));
    after = first_put r.next (stated_bounds x) _ nexts ∙ sym (bounds_is false true (fresh f (list_any is_accepted judged) refl) f);
  })
  by_verdict false f = record {
    marked = so_far.marked ∙ sym (any_is false f ∙ or_false (list_any is_accepted judged));
    after = so_far.after ∙ sym (by (list_any is_accepted judged) refl);
  }
    where
      by : (a : Bool) → list_any is_accepted judged ≡ a → bounds_after bounds (judged ++ last ∷ []) ≡ bounds_after bounds judged
      by true e = bounds_is true false e f
      by false e = bounds_is false false e f ∙ sym (none_accepted bounds judged e)

  pub judged_more : HasJudged (round_after ex r last) bounds (judged ++ last ∷ [])
  judged_more = by_verdict (is_accepted last) refl

-- an accepted one is the first of its bidder
repeated : (p : Prices) (improve : ℤ) (bidder : Standing) (taken : Bool) (x : Submission) (due : Verdict) → IsVerdict p improve bidder taken x due → taken ≡ true → is_accepted (record { submission = x; verdict = due }) ≡ false
repeated p improve bidder true x due h e = ap (λ (v : Verdict). is_accepted (record { submission = x; verdict = v })) h
repeated p improve bidder false x due h e = absurd cc

record Terms : Type 0 where
  prices : Prices
  improve : ℤ
  standing : Standing
  taken : Bool

module _ (x : Settlements) (k : IsKept x) where
  -- ---- a submission

  module _ (sub : Submission) (judge : Round) (due : Verdict) (now : x.next ≡ next.Round) (is_own : bytes_eq (own_name x.exchange) sub.name ≡ true) (verdict_in : IsVerdictIn x.exchange x.judge sub due) where
    abbrev l : StatementLine
    l = shown (line.submit sub)

    called : own_name x.exchange ≡ sub.name
    called = same-bytes_eq (own_name x.exchange) sub.name is_own

    first_is : bidder_named x.exchange sub.name ≡ Some 0
    first_is = named_first x.exchange sub.name k.one (ap (λ (n : List ℕ). bytes_eq n (own_name x.exchange)) (sym called) ∙ ap (λ (n : List ℕ). bytes_eq (own_name x.exchange) n) called ∙ is_own)

    verdict_is : IsVerdict x.judge.prices x.exchange.settings.improve (bidder_in x.exchange x.judge 0) (is_marked x.judge 0) sub due
    verdict_is = subst (λ (o : Option ℕ). IsVerdictOf x.exchange x.judge o sub due) first_is verdict_in

    due_at : (s : AuditState) → Stands x s → IsVerdict s.prices (settings_at s).improve (standing_at s) (list_any is_accepted s.judged) sub due
    due_at s st = subst (λ (t : Terms). IsVerdict t.prices t.improve t.standing t.taken sub due) same verdict_is
      where
        same : (let t : Terms = record { prices = x.judge.prices; improve = x.exchange.settings.improve; standing = bidder_in x.exchange x.judge 0; taken = is_marked x.judge 0 } in t)
            ≡ record { prices = s.prices; improve = (settings_at s).improve; standing = standing_at s; taken = list_any is_accepted s.judged }
        same = (let at = at_now x s st next.Round now in λ i. record {
          prices = sym at.2 i;
          improve = (sym st.exchange i).settings.improve;
          standing = record { name = sym st.named i; tree = sym (tree_is x s st) i; bounds = sym st.bounds i; set = sym at.1 i };
          taken = at.3.marked i;
        })

    after_at : (s : AuditState) → Stands x s → HasJudged (round_after x.exchange x.judge (record { submission = sub; verdict = due })) s.bounds (s.judged ++ record { submission = sub; verdict = due } ∷ [])
    after_at s st =
        judged_more x.exchange x.judge s.bounds s.judged sub due first_is (omega (arith, k.round.next_count, k.one)) (omega (arith, k.round.marks_count, k.one)) (at_now x s st next.Round now).3
        (repeated s.prices (settings_at s).improve (standing_at s) (list_any is_accepted s.judged) sub due (due_at s st))

    next_at : (s : AuditState) → Stands x s → audit_next (move_to at_round s) l ≡ Some (to_line (suc s.line) (move_to (at_verdict sub) s))
    next_at s st =
        ap (λ (b : Bool). option_map (to_line (suc s.line)) (cond b (Some (move_to (at_verdict sub) s)) None)) (ap (λ (n : List ℕ). bytes_eq n sub.name) st.named ∙ is_own)

    pub submission_taken : judge ≡ round_after x.exchange x.judge (record { submission = sub; verdict = due }) → IsRoundOf x.exchange judge → GoesOn x l (record x { judge = judge; next = next.Verdict due })
    submission_taken changed round = record {
      kept = record { one = k.one; round = round; count = k.count; nodes = k.nodes; fit = tt };
      paid = same_paid x l next.Round now;
      goes = λ s st.
          let at = at_now x s st next.Round now in
          let after : AuditState = to_line (suc s.line) (move_to (at_verdict sub) s) in
          record {
            state = after;
            passes = passes_from s after at_round l at.0
                (record { none = quiet _ _ _ (next_at s st) (λ h. h) (λ h. h) (λ i h. h) (λ h. h) (λ h. h) (λ h. h); verdict = tt; next = next_at s st });
            stands = record {
              exchange = st.exchange;
              named = st.named;
              bounds = st.bounds ∙ sym (ap (λ (a : Asked). bounds_of a.bounds 0) same);
              number = st.number;
              at = (
                record {
                  submission = sub;
                  spot = refl;
                  due_is = due_at s st;
                  after = subst (λ (r : Round). HasJudged r s.bounds (s.judged ++ record { submission = sub; verdict = due } ∷ [])) (sym changed) (after_at s st);
                },
                at.1 ∙ sym (ap (λ (a : Asked). set_of a.sets 0) same),
                at.2 ∙ sym (ap (λ (a : Asked). a.prices) same),
              );
            };
          };
    }
      where
        same : asked_in judge ≡ asked_in x.judge
        same = ap asked_in changed ∙ after_asked x.exchange x.judge (record { submission = sub; verdict = due })

  -- of another name
  pub submission_misnamed : (sub : Submission) → x.next ≡ next.Round → bytes_eq (own_name x.exchange) sub.name ≡ false → (s : AuditState) → Stands x s → FailsFirst s (shown (line.submit sub)) rule.Order
  submission_misnamed sub now other s st =
      fails_from s at_round (shown (line.submit sub)) rule.Order (at_now x s st next.Round now).0
      (order_fails (move_to at_round s) (shown (line.submit sub)) (ap (λ (b : Bool). cond b (Some (move_to (at_verdict sub) s)) None) (ap (λ (n : List ℕ). bytes_eq n sub.name) st.named ∙ other)))

  -- ---- the next settlement

  abbrev settled : AuditState → AuditState
  settled s = to_line (suc s.line) (move_to at_regret (record s { bounds = bounds_after s.bounds s.judged; number = suc s.number; judged = [] }))

  settle_next : (s : AuditState) (n : ℕ) (b : Bool) → eqb n (suc s.number) ≡ b → audit_next (move_to at_round s) (shown (line.settle n)) ≡ cond b (Some (settled s)) None
  settle_next s n b e = ap (λ (c : Bool). option_map (to_line (suc s.line)) (cond c (Some (move_to at_regret (record s { bounds = bounds_after s.bounds s.judged; number = suc s.number; judged = [] }))) None)) e ∙ by b
    where
      by : (c : Bool) → option_map (to_line (suc s.line)) (cond c (Some (move_to at_regret (record s { bounds = bounds_after s.bounds s.judged; number = suc s.number; judged = [] }))) None) ≡ cond c (Some (settled s)) None
      by true = refl
      by false = refl

  none_marked : (n : ℕ) → slice_index_or (replicate n false) 0 false ≡ false
  none_marked zero = refl
  none_marked (suc n) = refl

  pub settlement_taken : (n : ℕ) (judge : Round) → x.next ≡ next.Round → eqb n (suc x.number) ≡ true → judge ≡ record x.judge { bounds = x.judge.next; marks = replicate (length x.judge.marks) false } → IsRoundOf x.exchange judge
      → GoesOn x (shown (line.settle n)) (record x { judge = judge; number = n; next = next.Regret })
  settlement_taken n judge now follows changed round = record {
    kept = record { one = k.one; round = round; count = k.count; nodes = k.nodes; fit = tt };
    paid = same_paid x (shown (line.settle n)) next.Round now;
    goes = λ s st.
        let at = at_now x s st next.Round now in
        let is = settle_next s n true (ap (λ m. eqb n (suc m)) st.number ∙ follows) in
        record {
          state = settled s;
          passes = passes_from s (settled s) at_round (shown (line.settle n)) at.0
              (record { none = quiet _ _ _ is (λ h. h) (λ h. h) (λ i h. h) (λ h. h) (λ h. h) (λ h. h); verdict = tt; next = is });
          stands = record {
            exchange = st.exchange;
            named = st.named;
            bounds = sym at.3.after ∙ sym (ap (λ (r : Round). bounds_of r.bounds 0) changed);
            number = ap suc st.number ∙ sym (eqb-true n (suc x.number) follows);
            at = (refl, record { marked = ap (λ (r : Round). is_marked r 0) changed ∙ none_marked (length x.judge.marks); after = ap (λ (r : Round). bounds_of r.next 0) changed ∙ at.3.after });
          };
        };
  }

  pub settlement_misnumbered : (n : ℕ) → x.next ≡ next.Round → eqb n (suc x.number) ≡ false → (s : AuditState) → Stands x s → FailsFirst s (shown (line.settle n)) rule.Order
  settlement_misnumbered n now other s st =
      fails_from s at_round (shown (line.settle n)) rule.Order (at_now x s st next.Round now).0
      (order_fails (move_to at_round s) (shown (line.settle n))
      (ap (λ (c : Bool). cond c (Some (move_to at_regret (record s { bounds = bounds_after s.bounds s.judged; number = suc s.number; judged = [] }))) None) (ap (λ m. eqb n (suc m)) st.number ∙ other)))

  -- ---- the verdict

  module _ (due : Verdict) (now : x.next ≡ next.Verdict due) where
    pub verdict_taken : GoesOn x (shown (line.verdict due)) (record x { next = next.Round })
    verdict_taken = record {
      kept = record { one = k.one; round = k.round; count = k.count; nodes = k.nodes; fit = tt };
      paid = same_paid x (shown (line.verdict due)) (next.Verdict due) now;
      goes = λ s st.
          let at = at_now x s st (next.Verdict due) now in
          let after : AuditState = to_line (suc s.line) (move_to at_round (record s { judged = s.judged ++ record { submission = at.0.submission; verdict = due } ∷ [] })) in
          record {
            state = after;
            passes = passes_from s after (at_verdict at.0.submission) (shown (line.verdict due)) at.0.spot
                (record { none = quiet _ _ _ refl (λ h. h) (λ h. h) (λ i h. h) (λ h. h) (λ h. h at.0.due_is) (λ h. h); verdict = at.0.due_is; next = refl });
            stands = record { exchange = st.exchange; named = st.named; bounds = st.bounds; number = st.number; at = (refl, at.1, at.2, at.0.after) };
          };
    }

    pub verdict_wrong : (v : Verdict) → v ≢ due → (s : AuditState) → Stands x s → FailsFirst s (shown (line.verdict v)) rule.Verdict
    verdict_wrong v other s st =
        let at = at_now x s st (next.Verdict due) now in
        fails_from s (at_verdict at.0.submission) (shown (line.verdict v)) rule.Verdict at.0.spot
        (verdict_fails (move_to (at_verdict at.0.submission) s) _ (shown (line.verdict v)) refl (λ h. h) (λ h. h) (λ i h. h) (λ h. h)
        (λ h. other (one_verdict s.prices (settings_at s).improve (standing_at s) (list_any is_accepted s.judged) at.0.submission v due h at.0.due_is)))
