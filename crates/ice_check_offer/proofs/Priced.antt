-- What a record makes of an offer at the prices and their violation.
use Rattle.std.proofs.Common.{◌≡◌, ◌<◌, inl, inr, ℕ, suc, Bool, true, false, eqb, [], length, ℤ, pos, ◌*ℤ◌, ◌<ℤ◌, refl, sym, ◌∙◌, ap, subst, arith, cond}
use Rattle.std.specs.Prelude.{Option, Some, None}
use Rattle.std.proofs.lemmas.Bool.{eqb-true}
use Rattle.ice_defs.specs.Prices.{Prices, price_of}
use Rattle.ice_defs.specs.Exchange.{Exchange}
use Rattle.ice_journal.specs.Records.{Record}
use Rattle.ice_journal.specs.Records as line
use Rattle.ice_journal.specs.Ranges.{IsDen, IsViolationField}
use Rattle.ice_journal_laws.specs.declared.rule.Rule.TheVariants as rule
use Rattle.ice_journal_laws.specs.State.{State, at_prices, at_accuracy, at_accuracy_rows, goods_at}
use Rattle.ice_journal_laws.specs.Fields.{prices_in, accuracy_in, is_limit}
use Rattle.ice_journal_laws.specs.Next.{to_line, go_to}
use Rattle.ice_journal_laws.specs.Tests as tests
use Rattle.ice_journal_laws.proofs.Priced.{prices_missing, prices_limited, prices_wrong, prices_right, accuracy_missing, violation_wrong, violation_right}
use Rattle.ice_pricing.specs.Priced.{HasViolation}
use Rattle.ice_pricing.specs.Lawful.{AreUnlawful}
use Rattle.ice_pricing.specs.Tallies.{RowTally, IsTallyOf}
use Rattle.ice_verdicts.proofs.Starting.{priced_round}
use Rattle.ice_check_offer.specs.declared.fault.Fault.TheVariants.{Here}
use Rattle.ice_check_offer.specs.declared.place.CertificateList.TheVariants as list
use Rattle.ice_check_offer.specs.declared.place.Place.TheVariants as place
use Rattle.ice_check_offer.specs.declared.offer.Offer.{Offer}
use Rattle.ice_check_offer.specs.Offers.{trade_of, IsOfferOf, IsKept}
use Rattle.ice_check_offer.specs.Taking.{GoesOn, FailsBy}
use Rattle.ice_check_offer.proofs.Standing.{from_place, at_now, goods_are, violates, violated}

module _ (ex : Exchange) (number : ℕ) (o : Offer) where
  -- ---- the prices

  module _ (now : o.place ≡ place.Prices) where
    pub limit_closes : (r : Record) → is_limit r ≡ true → FailsBy ex number o r (Here rule.Closed)
    limit_closes r e s st n = from_place s at_prices r _ (at_now ex o s st place.Prices now).0 (prices_limited s r e)

    pub prices_other : (r : Record) → ((goods : ℕ) → prices_in goods r ≡ None) → is_limit r ≡ false → FailsBy ex number o r (Here rule.Order)
    prices_other r none e s st n = from_place s at_prices r _ (at_now ex o s st place.Prices now).0 (prices_missing s r (none (goods_at s)) e)

    module _ (p : Prices) where
      counts_in : (t : Bool) (s : State) → IsOfferOf ex o s → eqb (length p.nums) (length ex.goods) ≡ t → eqb (length p.nums) (goods_at s) ≡ t
      counts_in t s st e = ap (eqb (length p.nums)) (goods_are ex o s st) ∙ e

      pub prices_uncounted : eqb (length p.nums) (length ex.goods) ≡ false → FailsBy ex number o (line.prices p) (Here rule.Order)
      prices_uncounted e s st n =
          from_place s at_prices (line.prices p) _ (at_now ex o s st place.Prices now).0
          (prices_missing s (line.prices p) (ap (λ (t : Bool). (let x : Option Prices = cond t (Some p) None in x)) (counts_in false s st e)) refl)

      module _ (counts : eqb (length p.nums) (length ex.goods) ≡ true) where
        goods_count : (s : State) → IsOfferOf ex o s → goods_at s ≡ length p.nums
        goods_count s st = goods_are ex o s st ∙ sym (eqb-true (length p.nums) (length ex.goods) counts)

        above_in : (s : State) → IsOfferOf ex o s → AreUnlawful ex.settings.cap p → tests.AreUnlawful s p
        above_in s st (inl (g, there, above)) =
            inl (g, subst (λ k. g < k) (sym (goods_count s st)) there, subst (λ (x : Exchange). (x.settings.cap *ℤ pos p.den) <ℤ price_of p g) (sym st.exchange) above)
        above_in s st (inr shared) = inr shared

        in_above : (s : State) → IsOfferOf ex o s → tests.AreUnlawful s p → AreUnlawful ex.settings.cap p
        in_above s st (inl (g, there, above)) =
            inl (g, subst (λ k. g < k) (goods_count s st) there, subst (λ (x : Exchange). (x.settings.cap *ℤ pos p.den) <ℤ price_of p g) st.exchange above)
        in_above s st (inr shared) = inr shared

        pub prices_fail : AreUnlawful ex.settings.cap p → FailsBy ex number o (line.prices p) (Here rule.Prices)
        prices_fail unlawful s st n =
            from_place s at_prices (line.prices p) _ (at_now ex o s st place.Prices now).0 (prices_wrong s p (counts_in true s st counts) (above_in s st unlawful))

        pub prices_taken : ¬ AreUnlawful ex.settings.cap p → IsKept ex o → GoesOn ex number o (line.prices p) (record o { place = place.Accuracy; judge = record o.judge { prices = p } })
        prices_taken lawful kept = record {
          kept = record { round = priced_round ex o.judge p kept.round; low = kept.low; high = kept.high; den = kept.den; den_fits = kept.den_fits };
          bounds = refl;
          goes = λ s st n.
              let after = (at_now ex o s st place.Prices now).1 in
              record {
                state = to_line (suc s.line) (go_to at_accuracy (record s { prices = p }));
                passes = from_place s at_prices (line.prices p) _ (at_now ex o s st place.Prices now).0 (prices_right s p (counts_in true s st counts) (λ h. lawful (in_above s st h)));
                line = refl;
                same = refl;
                stands = record { exchange = st.exchange; bounds = st.bounds; offered = st.offered; at = (refl, refl, record { next = after.next; marks = after.marks }) };
              };
        }

  -- ---- the violation

  module _ (now : o.place ≡ place.Accuracy) where
    pub accuracy_other : (r : Record) → accuracy_in r ≡ None → FailsBy ex number o r (Here rule.Order)
    accuracy_other r none s st n = from_place s at_accuracy r _ (at_now ex o s st place.Accuracy now).0 (accuracy_missing s r none)

    module _ (x : ℤ) (den : ℕ) where
      pub violation_fails : ¬ HasViolation (trade_of ex o) o.judge.prices x → FailsBy ex number o (line.accuracy x den) (Here rule.Violation)
      violation_fails other s st n =
          let at = at_now ex o s st place.Accuracy now in
          from_place s at_accuracy (line.accuracy x den) _ at.0 (violation_wrong s x den (λ h. other (violates ex o s st at.1 x h)))

      pub violation_taken : (tally : RowTally) → HasViolation (trade_of ex o) o.judge.prices x → IsViolationField x × IsDen den → IsTallyOf (trade_of ex o) [] tally → IsKept ex o
          → GoesOn ex number o (line.accuracy x den) (record o { place = place.Rows list.Accuracy; violation = x; den = den; tally = tally })
      violation_taken tally is fits none kept = record {
        kept = record { round = kept.round; low = fits.0.0; high = fits.0.1; den = omega (arith, fits.1.0); den_fits = fits.1.1 };
        bounds = refl;
        goes = λ s st n.
            let at = at_now ex o s st place.Accuracy now in
            record {
              state = to_line (suc s.line) (go_to (at_accuracy_rows den []) (record s { violation = x }));
              passes = from_place s at_accuracy (line.accuracy x den) _ at.0 (violation_right s x den (violated ex o s st at.1 x is));
              line = refl;
              same = refl;
              stands = record {
                exchange = st.exchange;
                bounds = st.bounds;
                offered = st.offered;
                at = (record { rows = []; place = refl; tallied = none }, at.1, refl, at.2);
              };
            };
      }
