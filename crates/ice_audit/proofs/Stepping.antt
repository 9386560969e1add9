-- Lines that pass up to the prices, and what is kept behind them.
use Rattle.std.proofs.Common.{◌≡◌, ◌≢◌, ℕ, suc, zero, ◌<◌, Bool, true, false, cond, eqb, List, length, refl, sym, ap, ◌∙◌, subst, arith, ℤ, pos, inl, inr}
use Rattle.std.specs.Prelude.{Option, Some, None, option_map, IsSomeAnd, ◌*ℤ◌, ◌<ℤ◌}
use Rattle.std.proofs.lemmas.Option.{none-some}
use Rattle.std.proofs.lemmas.Bool.{eqb-true}
use Rattle.ice_tree.proofs.Satisfied.{set_fault-none}
use Rattle.ice_defs.specs.declared.SatRule.{SatRule}
use Rattle.ice_defs.specs.declared.SatRule.TheVariants.{Parent, Few, Many}
use Rattle.ice_defs.specs.Tree.{Tree}
use Rattle.ice_defs.specs.Set.{NodeSet, IsSatisfied}
use Rattle.ice_defs.specs.SetFault.{set_fault}
use Rattle.ice_defs.specs.Prices.{Prices, price_of}
use Rattle.ice_defs.specs.Trade.{tree_of, set_of}
use Rattle.ice_defs.specs.Exchange.{Exchange, trees_of}
use Rattle.ice_defs.specs.Session.{closes}
use Rattle.ice_journal.specs.Records as line
use Rattle.ice_journal_laws.specs.declared.rule.Rule.{Rule}
use Rattle.ice_journal_laws.specs.declared.rule.Rule.TheVariants as rule
use Rattle.ice_journal_laws.specs.Fields.{prices_in}
use Rattle.ice_journal_laws.specs.Assigning.{rule_of}
use Rattle.ice_pricing.specs.Lawful as pricing
use Rattle.ice_verdicts.specs.Judges.{IsRoundOf}
use Rattle.ice_verdicts.proofs.Starting.{priced_round}
use Rattle.ice_statement_laws.specs.Statement.{StatementLine, shown, kept, offered}
use Rattle.ice_statement_laws.specs.Audit.{at_regret, at_kept, at_offered, at_prices, at_round, at_threshold, AuditState, bidder_at, settings_at, goods_at, move_to, to_line, spot_next, audit_next, stated_set, IsRefused, AreUnlawful, HasUnlawfulPrices}
use Rattle.ice_statement_laws.proofs.Walking.{quiet}
use Rattle.ice_audit.specs.declared.next.Next.TheVariants as next
use Rattle.ice_audit.specs.declared.settlements.Settlements.{Settlements}
use Rattle.ice_check_offer.specs.Broken.{IsBroken}
use Rattle.ice_audit.specs.Standing.{own_tree, behind_kept, IsFit, IsKept, Stands, paid_of}
use Rattle.ice_audit.specs.Taking.{Passes, FailsFirst, paid_after, Goes, GoesOn}
use Rattle.ice_audit.proofs.Failing.{order_fails, count_fails, parent_fails, few_fails, many_fails, prices_fail}
use Rattle.ice_audit.proofs.Tools.{passes_from, fails_from, at_now, tree_is, same_paid}

-- ---- sets

-- a rule that a stated set breaks by itself comes first
module _ (t after : AuditState) (l : StatementLine) (set : NodeSet) (next_is : spot_next t t.spot l ≡ Some after) (refused : ¬ IsRefused t.spot t l) (stated : stated_set t.spot l ≡ Some set) where
  some : (P : NodeSet → Type 0) → P set → IsSomeAnd (stated_set t.spot l) P
  some P h = subst (λ (o : Option NodeSet). IsSomeAnd o P) (sym stated) h

  back : (P : NodeSet → Type 0) → IsSomeAnd (stated_set t.spot l) P → P set
  back P h = subst (λ (o : Option NodeSet). IsSomeAnd o P) stated h

  abbrev Breaks : SatRule → NodeSet → Type 0
  Breaks k x = set_fault (bidder_at t).tree x ≡ Some k

  apart : (o : Option SatRule) (a b : SatRule) → (a ≡ b → ⊥) → o ≡ Some a → o ≡ Some b → ⊥
  apart o a b differ e f = differ cc

  broken_fails : (rule : Rule) → IsBroken (bidder_at t).tree set (Some rule) → FailsFirst t l rule
  broken_fails rule.Count h = count_fails t after l next_is refused (some _ h)
  broken_fails other (len, k, fault, is) = subst (FailsFirst t l) (sym is) (by k fault)
    where
      counted : ¬ IsSomeAnd (stated_set t.spot l) (λ x. length x ≢ length (bidder_at t).tree)
      counted h = back (λ x. length x ≢ length (bidder_at t).tree) h len

      by : (k : SatRule) → set_fault (bidder_at t).tree set ≡ Some k → FailsFirst t l (rule_of k)
      by Parent f = parent_fails t after l next_is refused counted (some (Breaks Parent) f)
      by Few f = few_fails t after l next_is refused counted (some (Breaks Few) f) (λ h. apart _ Few Parent (λ e. absurd cc) f (back (Breaks Parent) h))
      by Many f = many_fails t after l next_is refused counted (some (Breaks Many) f) (λ h. apart _ Many Parent (λ e. absurd cc) f (back (Breaks Parent) h)) (λ h. apart _ Many Few (λ e. absurd cc) f (back (Breaks Few) h))

module _ (x : Settlements) where
  abbrev IsSat : NodeSet → Type 0
  IsSat set = IsSatisfied (own_tree x.exchange) set

  -- ---- the regret

  pub regret_taken : (a : ℤ) → x.next ≡ next.Regret → IsKept x → GoesOn x (shown (line.regret a)) (record x { next = next.Kept a })
  regret_taken a now k = record {
    kept = record { one = k.one; round = k.round; count = k.count; nodes = k.nodes; fit = tt };
    paid = same_paid x (shown (line.regret a)) next.Regret now;
    goes = λ s st.
        let at = at_now x s st next.Regret now in
        record {
          state = to_line (suc s.line) (move_to at_kept (record s { regret = a }));
          passes = passes_from s (to_line (suc s.line) (move_to at_kept (record s { regret = a }))) at_regret (shown (line.regret a)) at.0
              (record { none = quiet _ _ _ refl (λ h. h) (λ h. h) (λ i h. h) (λ h. h) (λ h. h) (λ h. h); verdict = tt; next = refl });
          stands = record { exchange = st.exchange; named = st.named; bounds = st.bounds; number = st.number; at = (refl, refl, at.1) };
        };
  }

  -- ---- the final set

  module _ (s : AuditState) (st : Stands x s) (set : NodeSet) (sat : IsSat set) where
    fits : length set ≡ length (bidder_at s).tree
    fits = sat.same_length ∙ ap length (sym (tree_is x s st))

    faultless : (k : SatRule) → ¬ (set_fault (bidder_at s).tree set ≡ Some k)
    faultless k e = none-some k (sym (set_fault-none (own_tree x.exchange) set sat) ∙ ap (λ (t : Tree). set_fault t set) (sym (tree_is x s st)) ∙ e)

  broken_in : (s : AuditState) → Stands x s → (set : NodeSet) (rule : Rule) → IsBroken (own_tree x.exchange) set (Some rule) → IsBroken (bidder_at s).tree set (Some rule)
  broken_in s st set rule h = subst (λ (t : Tree). IsBroken t set (Some rule)) (sym (tree_is x s st)) h

  pub kept_broken : (regret : ℤ) (set : NodeSet) (rule : Rule) → x.next ≡ next.Kept regret → IsBroken (own_tree x.exchange) set (Some rule) → (s : AuditState) → Stands x s → FailsFirst s (kept set) rule
  kept_broken regret set rule now broken s st =
      fails_from s at_kept (kept set) rule (at_now x s st (next.Kept regret) now).0
      (broken_fails (move_to at_kept s) _ (kept set) set refl (λ h. h) refl rule (broken_in s st set rule broken))

  pub kept_taken : (regret : ℤ) (set : NodeSet) → x.next ≡ next.Kept regret → IsKept x → IsSat set → (b : Bool) → closes x.exchange.settings x.number regret ≡ b → GoesOn x (kept set) (record x { kept = set; next = behind_kept b })
  kept_taken regret set now k sat b ends = record {
    kept = record { one = k.one; round = k.round; count = k.count; nodes = k.nodes; fit = fit b };
    paid = paid b;
    goes = λ s st. goes s st b ends;
  }
    where
      fit : (b : Bool) → IsFit (record x { kept = set; next = behind_kept b }) (behind_kept b)
      fit true = sat.same_length
      fit false = tt

      paid : (b : Bool) → paid_of (behind_kept b) ≡ paid_after (paid_of x.next) (kept set)
      paid true = same_paid x (kept set) (next.Kept regret) now
      paid false = same_paid x (kept set) (next.Kept regret) now

      behind : Bool → AuditState → AuditState
      behind b s = to_line (suc s.line) (move_to (cond b at_threshold at_offered) (record s { kept = set }))

      ends_at : (s : AuditState) → Stands x s → closes (settings_at s) s.number s.regret ≡ closes x.exchange.settings x.number regret
      ends_at s st = (let at = at_now x s st (next.Kept regret) now in λ i. closes (st.exchange i).settings (st.number i) (at.1 i))

      next_is : (s : AuditState) → Stands x s → (b : Bool) → closes x.exchange.settings x.number regret ≡ b → audit_next (move_to at_kept s) (kept set) ≡ Some (behind b s)
      next_is s st b e = ap (λ (c : Bool). Some (behind c s)) (ends_at s st ∙ e)

      passes : (s : AuditState) (st : Stands x s) (b : Bool) → closes x.exchange.settings x.number regret ≡ b → Passes s (kept set) (behind b s)
      passes s st b e = passes_from s (behind b s) at_kept (kept set) (at_now x s st (next.Kept regret) now).0
          (record { none = quiet _ _ _ (next_is s st b e) (λ h. h) (λ h. h (fits s st set sat)) (faultless s st set sat) (λ h. h) (λ h. h) (λ h. h); verdict = tt; next = next_is s st b e })

      goes : (s : AuditState) (st : Stands x s) (b : Bool) → closes x.exchange.settings x.number regret ≡ b → Goes s (kept set) (record x { kept = set; next = behind_kept b })
      goes s st true e = record {
        state = behind true s;
        passes = passes s st true e;
        stands = record { exchange = st.exchange; named = st.named; bounds = st.bounds; number = st.number; at = (refl, refl) };
      }
      goes s st false e = record {
        state = behind false s;
        passes = passes s st false e;
        stands = record { exchange = st.exchange; named = st.named; bounds = st.bounds; number = st.number; at = (refl, (at_now x s st (next.Kept regret) now).2) };
      }

  -- ---- the provisional set

  pub offered_broken : (set : NodeSet) (rule : Rule) → x.next ≡ next.Offered → IsBroken (own_tree x.exchange) set (Some rule) → (s : AuditState) → Stands x s → FailsFirst s (offered set) rule
  offered_broken set rule now broken s st =
      fails_from s at_offered (offered set) rule (at_now x s st next.Offered now).0
      (broken_fails (move_to at_offered s) _ (offered set) set refl (λ h. h) refl rule (broken_in s st set rule broken))

  pub all_satisfied : (sets : List NodeSet) (set : NodeSet) → IsKept x → IsSat set → set_of sets 0 ≡ set → (b : ℕ) → b < length x.exchange.bidders → IsSatisfied (tree_of (trees_of x.exchange) b) (set_of sets b)
  all_satisfied sets set k sat e zero there = subst IsSat (sym e) sat
  all_satisfied sets set k sat e (suc b) there = absurd (omega (arith, there, k.one))

  pub offered_taken : (set : NodeSet) (sets : List NodeSet) → x.next ≡ next.Offered → IsKept x → IsSat set → length sets ≡ 1 → set_of sets 0 ≡ set → IsRoundOf x.exchange (record x.judge { sets = sets })
      → GoesOn x (offered set) (record x { offered = sets; judge = record x.judge { sets = sets }; next = next.Prices })
  offered_taken set sets now k sat one first round = record {
    kept = record { one = k.one; round = round; count = one; nodes = ap length first ∙ sat.same_length; fit = tt };
    paid = same_paid x (offered set) next.Offered now;
    goes = λ s st.
        let at = at_now x s st next.Offered now in
        let after : AuditState = to_line (suc s.line) (move_to at_prices (record s { offered = set })) in
        record {
          state = after;
          passes = passes_from s after at_offered (offered set) at.0
              (record { none = quiet _ _ _ refl (λ h. h) (λ h. h (fits s st set sat)) (faultless s st set sat) (λ h. h) (λ h. h) (λ h. h); verdict = tt; next = refl });
          stands = record { exchange = st.exchange; named = st.named; bounds = st.bounds; number = st.number; at = (refl, sym first, record { marked = at.1.marked; after = at.1.after }) };
        };
  }

  -- ---- the prices

  module _ (p : Prices) (now : x.next ≡ next.Prices) where
    counts_in : (s : AuditState) → Stands x s → (b : Bool) → eqb (length p.nums) (length x.exchange.goods) ≡ b → prices_in (goods_at s) (line.prices p) ≡ cond b (Some p) None
    counts_in s st b e = ap (λ (c : Bool). cond c (Some p) None) (ap (λ (ex : Exchange). eqb (length p.nums) (length ex.goods)) st.exchange ∙ e)

    pub prices_uncounted : eqb (length p.nums) (length x.exchange.goods) ≡ false → (s : AuditState) → Stands x s → FailsFirst s (shown (line.prices p)) rule.Order
    prices_uncounted e s st =
        fails_from s at_prices (shown (line.prices p)) rule.Order (at_now x s st next.Prices now).0
        (order_fails (move_to at_prices s) (shown (line.prices p)) (ap (λ (o : Option Prices). option_map (λ (q : Prices). move_to at_round (record (move_to at_prices s) { prices = q })) o) (counts_in s st false e)))

    module _ (counts : eqb (length p.nums) (length x.exchange.goods) ≡ true) where
      next_at : (s : AuditState) → Stands x s → spot_next (move_to at_prices s) at_prices (shown (line.prices p)) ≡ Some (move_to at_round (record s { prices = p }))
      next_at s st = ap (λ (o : Option Prices). option_map (λ (q : Prices). move_to at_round (record (move_to at_prices s) { prices = q })) o) (counts_in s st true counts)

      -- above the cap, or not in lowest terms
      above_in : (s : AuditState) → Stands x s → pricing.AreUnlawful x.exchange.settings.cap p → AreUnlawful s p
      above_in s st (inl (g, there, above)) =
          inl (g, subst (λ k. g < k) (eqb-true _ _ counts ∙ ap (λ (ex : Exchange). length ex.goods) (sym st.exchange)) there, subst (λ (ex : Exchange). (ex.settings.cap *ℤ pos p.den) <ℤ price_of p g) (sym st.exchange) above)
      above_in s st (inr common) = inr common

      in_above : (s : AuditState) → Stands x s → AreUnlawful s p → pricing.AreUnlawful x.exchange.settings.cap p
      in_above s st (inl (g, there, above)) =
          inl (g, subst (λ k. g < k) (ap (λ (ex : Exchange). length ex.goods) st.exchange ∙ sym (eqb-true _ _ counts)) there, subst (λ (ex : Exchange). (ex.settings.cap *ℤ pos p.den) <ℤ price_of p g) st.exchange above)
      in_above s st (inr common) = inr common

      stated_in : (s : AuditState) → Stands x s → HasUnlawfulPrices at_prices (move_to at_prices s) (shown (line.prices p)) → AreUnlawful s p
      stated_in s st h = subst (λ (o : Option Prices). IsSomeAnd o (AreUnlawful s)) (counts_in s st true counts) h

      in_stated : (s : AuditState) → Stands x s → AreUnlawful s p → HasUnlawfulPrices at_prices (move_to at_prices s) (shown (line.prices p))
      in_stated s st h = subst (λ (o : Option Prices). IsSomeAnd o (AreUnlawful s)) (sym (counts_in s st true counts)) h

      pub prices_unlawful : pricing.AreUnlawful x.exchange.settings.cap p → (s : AuditState) → Stands x s → FailsFirst s (shown (line.prices p)) rule.Prices
      prices_unlawful unlawful s st =
          fails_from s at_prices (shown (line.prices p)) rule.Prices (at_now x s st next.Prices now).0
          (prices_fail (move_to at_prices s) _ (shown (line.prices p)) (next_at s st) (λ h. h) (λ h. h) (λ k h. h) (in_stated s st (above_in s st unlawful)))

      pub prices_taken : ¬ pricing.AreUnlawful x.exchange.settings.cap p → IsKept x → GoesOn x (shown (line.prices p)) (record x { judge = record x.judge { prices = p }; next = next.Round })
      prices_taken lawful k = record {
        kept = record { one = k.one; round = priced_round x.exchange x.judge p k.round; count = k.count; nodes = k.nodes; fit = tt };
        paid = same_paid x (shown (line.prices p)) next.Prices now;
        goes = λ s st.
            let at = at_now x s st next.Prices now in
            let after : AuditState = to_line (suc s.line) (move_to at_round (record s { prices = p })) in
            let is : audit_next (move_to at_prices s) (shown (line.prices p)) ≡ Some after = ap (option_map (to_line (suc s.line))) (next_at s st) in
            record {
              state = after;
              passes = passes_from s after at_prices (shown (line.prices p)) at.0
                  (record { none = quiet _ _ _ is (λ h. h) (λ h. h) (λ i h. h) (λ h. lawful (in_above s st (stated_in s st h))) (λ h. h) (λ h. h); verdict = tt; next = is });
              stands = record { exchange = st.exchange; named = st.named; bounds = st.bounds; number = st.number; at = (refl, at.1, refl, record { marked = at.2.marked; after = at.2.after }) };
            };
      }
