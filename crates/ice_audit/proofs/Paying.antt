-- Lines of the end that pass, and what is kept behind them.
use Rattle.std.proofs.Common.{◌≡◌, ℕ, suc, ◌<◌, Bool, true, false, cond, int_le, List, refl, sym, ap, ◌∙◌, subst, arith, ℤ, pos}
use Rattle.std.specs.Prelude.{◌&&◌, Some, None, option_map, ◌≤ℤ◌, ◌<ℤ◌}
use Rattle.std.specs.Str.{bytes_eq}
use Rattle.std.proofs.lemmas.Bool.{and_from, and_left, and_right}
use Rattle.std.proofs.lemmas.Int.{ints}
use Rattle.ice_defs.specs.Set.{value}
use Rattle.ice_defs.specs.Vickrey.{IsEmpty}
use Rattle.ice_defs.specs.Bounds.{bounds_of}
use Rattle.ice_defs.specs.Fraction.{Fraction}
use Rattle.ice_defs.specs.Session.{Payment}
use Rattle.ice_journal.specs.Records as line
use Rattle.ice_journal.specs.Lines.{fraction_of}
use Rattle.ice_journal.specs.Ranges.{IsFractionField}
use Rattle.ice_journal.specs.declared.line.LowestFraction.{LowestFraction}
use Rattle.ice_journal_laws.specs.declared.rule.Rule.TheVariants as rule
use Rattle.ice_journal_laws.proofs.Charged.{stated_lowest}
use Rattle.ice_check_charge.specs.Tests.{IsPaidAt}
use Rattle.ice_statement_laws.specs.Statement.{StatementLine, shown, ended}
use Rattle.ice_statement_laws.specs.Audit.{at_threshold, at_payment, at_end, done, AuditState, move_to, to_line, is_from_0, spot_next, audit_next, IsOwnPayment}
use Rattle.ice_statement_laws.proofs.Walking.{quiet}
use Rattle.ice_audit.specs.declared.next.Next.TheVariants as next
use Rattle.ice_audit.specs.declared.settlements.Settlements.{Settlements}
use Rattle.ice_audit.specs.Standing.{own_name, IsKept, Stands}
use Rattle.ice_audit.specs.Taking.{FailsFirst, GoesOn}
use Rattle.ice_audit.proofs.Failing.{order_fails, payment_fails}
use Rattle.ice_audit.proofs.Tools.{passes_from, fails_from, at_now, fit_now, same_paid}

le_true : (a b : ℤ) → a ≤ℤ b → int_le a b ≡ true
le_true a b h = grind (arith, ints, h)

le_false : (a b : ℤ) → b <ℤ a → int_le a b ≡ false
le_false a b h = grind (arith, ints, h)

module _ (x : Settlements) (k : IsKept x) where
  -- ---- the cut

  module _ (cut surplus : LowestFraction) (now : x.next ≡ next.Threshold) where
    abbrev at_cut : StatementLine
    at_cut = shown (line.threshold (fraction_of cut) (fraction_of surplus))

    abbrev behind_cut : AuditState → AuditState
    behind_cut s = move_to at_payment (record s { cut = fraction_of cut })

    abbrev may_stand : Bool
    may_stand = is_from_0 (fraction_of cut) && is_from_0 (fraction_of surplus)

    out_of_order : may_stand ≡ false → (s : AuditState) → Stands x s → FailsFirst s at_cut rule.Order
    out_of_order none s st =
        fails_from s at_threshold at_cut rule.Order (at_now x s st next.Threshold now).0
        (order_fails (move_to at_threshold s) at_cut (ap (λ (b : Bool). cond b (Some (behind_cut s)) None) none))

    pub cut_negative : cut.num <ℤ pos 0 → (s : AuditState) → Stands x s → FailsFirst s at_cut rule.Order
    cut_negative low = out_of_order (and_left (is_from_0 (fraction_of cut)) (is_from_0 (fraction_of surplus)) (le_false (pos 0) cut.num low))

    pub surplus_negative : surplus.num <ℤ pos 0 → (s : AuditState) → Stands x s → FailsFirst s at_cut rule.Order
    surplus_negative low = out_of_order (and_right (is_from_0 (fraction_of cut)) (is_from_0 (fraction_of surplus)) (le_false (pos 0) surplus.num low))

    pub cut_taken : pos 0 ≤ℤ cut.num → pos 0 ≤ℤ surplus.num → 0 < cut.den → GoesOn x at_cut (record x { next = next.Payment cut })
    cut_taken low left den = record {
      kept = record { one = k.one; round = k.round; count = k.count; nodes = k.nodes; fit = (fit_now x k next.Threshold now, den) };
      paid = same_paid x at_cut next.Threshold now;
      goes = λ s st.
          let at = at_now x s st next.Threshold now in
          let after : AuditState = to_line (suc s.line) (behind_cut s) in
          let is : audit_next (move_to at_threshold s) at_cut ≡ Some after = ap (λ (b : Bool). option_map (to_line (suc s.line)) (cond b (Some (behind_cut s)) None))
          (and_from (is_from_0 (fraction_of cut)) (is_from_0 (fraction_of surplus)) (le_true (pos 0) cut.num low) (le_true (pos 0) surplus.num left)) in
          record {
            state = after;
            passes = passes_from s after at_threshold at_cut at.0
                (record { none = quiet _ _ _ is (λ h. h) (λ h. h) (λ i h. h) (λ h. h) (λ h. h) (λ h. h); verdict = tt; next = is });
            stands = record { exchange = st.exchange; named = st.named; bounds = st.bounds; number = st.number; at = (refl, at.1, refl) };
          };
    }

  -- ---- the payment

  module _ (cut discount payment : LowestFraction) (name : List ℕ) (vickrey : ℤ) (now : x.next ≡ next.Payment cut) where
    abbrev at_pay : StatementLine
    at_pay = shown (line.payment name vickrey (fraction_of discount) (fraction_of payment))

    abbrev stated : Payment
    stated = record { name = name; vickrey = vickrey; discount = fraction_of discount; payment = fraction_of payment }

    named_at : (s : AuditState) → Stands x s → (b : Bool) → bytes_eq (own_name x.exchange) name ≡ b → spot_next (move_to at_payment s) at_payment at_pay ≡ cond b (Some (move_to at_end s)) None
    named_at s st b e = ap (λ (c : Bool). cond c (Some (move_to at_end s)) None) (ap (λ (n : List ℕ). bytes_eq n name) st.named ∙ e)

    pub payment_misnamed : bytes_eq (own_name x.exchange) name ≡ false → (s : AuditState) → Stands x s → FailsFirst s at_pay rule.Order
    payment_misnamed e s st =
        fails_from s at_payment at_pay rule.Order (at_now x s st (next.Payment cut) now).0 (order_fails (move_to at_payment s) at_pay (named_at s st false e))

    abbrev Pays : Fraction → ℤ → Type 0
    Pays c worth = IsPaidAt c vickrey worth (fraction_of discount) (fraction_of payment)

    -- no Vickrey discount stands beside an empty set
    abbrev IsDue : Type 0
    IsDue = IsEmpty x.kept → vickrey ≡ pos 0

    own_paid : (s : AuditState) → (IsEmpty s.kept → vickrey ≡ pos 0) → Pays s.cut (value s.kept s.bounds.lo) → IsOwnPayment (move_to at_payment s) stated
    own_paid s due h = record { vickrey = due; discount = h.discounted; payment = h.paid }

    paid_own : (s : AuditState) → IsOwnPayment (move_to at_payment s) stated → Pays s.cut (value s.kept s.bounds.lo)
    paid_own s h = record { discounted = h.discount; paid = h.payment }

    same_pay : (s : AuditState) → Stands x s → Pays (fraction_of cut) (value x.kept (bounds_of x.judge.bounds 0).lo) ≡ Pays s.cut (value s.kept s.bounds.lo)
    same_pay s st = (let at = at_now x s st (next.Payment cut) now in λ i. Pays (sym at.2 i) (value (sym at.1 i) (sym st.bounds i).lo))

    kept_at : (s : AuditState) → Stands x s → s.kept ≡ x.kept
    kept_at s st = (at_now x s st (next.Payment cut) now).1

    pays_at : (s : AuditState) → Stands x s → IsDue → Pays (fraction_of cut) (value x.kept (bounds_of x.judge.bounds 0).lo) → IsOwnPayment (move_to at_payment s) stated
    pays_at s st due h = own_paid s (λ empty. due (subst IsEmpty (kept_at s st) empty)) (subst (λ (t : Type 0). t) (same_pay s st) h)

    at_pays : (s : AuditState) → Stands x s → IsOwnPayment (move_to at_payment s) stated → Pays (fraction_of cut) (value x.kept (bounds_of x.judge.bounds 0).lo)
    at_pays s st h = subst (λ (t : Type 0). t) (sym (same_pay s st)) (paid_own s h)

    module _ (is_own : bytes_eq (own_name x.exchange) name ≡ true) where
      wrong : ((s : AuditState) → Stands x s → ¬ IsOwnPayment (move_to at_payment s) stated) → (s : AuditState) → Stands x s → FailsFirst s at_pay rule.Payment
      wrong other s st =
          fails_from s at_payment at_pay rule.Payment (at_now x s st (next.Payment cut) now).0
          (payment_fails (move_to at_payment s) _ at_pay (named_at s st true is_own) (λ h. h) (λ h. h) (λ i h. h) (λ h. h) (other s st) (λ h. h))

      pub vickrey_undue : ¬ IsDue → (s : AuditState) → Stands x s → FailsFirst s at_pay rule.Payment
      vickrey_undue undue = wrong (λ s st h. undue (λ empty. h.vickrey (subst IsEmpty (sym (kept_at s st)) empty)))

      pub payment_wrong : ¬ Pays (fraction_of cut) (value x.kept (bounds_of x.judge.bounds 0).lo) → (s : AuditState) → Stands x s → FailsFirst s at_pay rule.Payment
      payment_wrong other = wrong (λ s st h. other (at_pays s st h))

      pub payment_taken : IsFractionField (fraction_of payment) → IsDue → Pays (fraction_of cut) (value x.kept (bounds_of x.judge.bounds 0).lo) → GoesOn x at_pay (record x { next = next.End payment })
      payment_taken lawful due pays = record {
        kept = record { one = k.one; round = k.round; count = k.count; nodes = k.nodes; fit = stated_lowest (fraction_of payment) lawful };
        paid = same_paid x at_pay (next.Payment cut) now;
        goes = λ s st.
            let after : AuditState = to_line (suc s.line) (move_to at_end s) in
            let is : audit_next (move_to at_payment s) at_pay ≡ Some after = ap (option_map (to_line (suc s.line))) (named_at s st true is_own) in
            record {
              state = after;
              passes = passes_from s after at_payment at_pay (at_now x s st (next.Payment cut) now).0
                  (record { none = quiet _ _ _ is (λ h. h) (λ h. h) (λ i h. h) (λ h. h) (λ h. h) (λ h. h (pays_at s st due pays)); verdict = tt; next = is });
              stands = record { exchange = st.exchange; named = st.named; bounds = st.bounds; number = st.number; at = refl };
            };
      }

  -- ---- the end

  pub end_taken : (payment : LowestFraction) → x.next ≡ next.End payment → GoesOn x ended (record x { next = next.Nothing payment })
  end_taken payment now = record {
    kept = record { one = k.one; round = k.round; count = k.count; nodes = k.nodes; fit = fit_now x k (next.End payment) now };
    paid = same_paid x ended (next.End payment) now;
    goes = λ s st.
        let after : AuditState = to_line (suc s.line) (move_to done s) in
        record {
          state = after;
          passes = passes_from s after at_end ended (at_now x s st (next.End payment) now)
              (record { none = quiet _ _ _ refl (λ h. h) (λ h. h) (λ i h. h) (λ h. h) (λ h. h) (λ h. h); verdict = tt; next = refl });
          stands = record { exchange = st.exchange; named = st.named; bounds = st.bounds; number = st.number; at = refl };
        };
  }
