-- The audit passes over the settlements of a statement that is right.
use Rattle.std.proofs.Common.{◌≡◌, ℕ, suc, ◌<◌, Bool, true, cond, int_le, List, [], ◌∷◌, ◌++◌, map, length, ℤ, pos, refl, sym, ◌∙◌, ap, subst, arith, append_assoc, inl, inr}
use Rattle.std.specs.Prelude.{◌⊎◌, Option, Some, None, option_map, IsSomeAnd, ◌≢◌, ◌*ℤ◌, ◌<ℤ◌, ◌≤ℤ◌}
use Rattle.std.specs.List.{flat_map, list_any, AllByRecursion}
use Rattle.std.proofs.lemmas.Bool.{eq-eqb, and_from}
use Rattle.std.proofs.lemmas.Option.{none-some}
use Rattle.std.proofs.lemmas.List.{append-nil}
use Rattle.std.proofs.lemmas.List.Concat.{flat_map-cons}
use Rattle.std.proofs.lemmas.Int.{ints}
use Rattle.std.proofs.Math.IntN.{zero-*ℤ}
use Rattle.ice_defs.specs.declared.SatRule.{SatRule}
use Rattle.ice_defs.specs.declared.SatRule.TheVariants.{Parent, Few, Many}
use Rattle.ice_defs.specs.Set.{NodeSet, IsSatisfied}
use Rattle.ice_defs.specs.SetFault.{set_fault}
use Rattle.ice_defs.specs.Bounds.{Bounds}
use Rattle.ice_defs.specs.Prices.{Prices, price_of}
use Rattle.ice_defs.specs.Rows.{HasCommonDivisor}
use Rattle.ice_defs.specs.Round.{Judged, Standing, JudgesInOrder, is_accepted, bounds_after}
use Rattle.ice_defs.specs.Fraction.{Fraction, whole_number, AtMost}
use Rattle.ice_defs.specs.Exchange.{Settings, Good, Bidder}
use Rattle.ice_defs.specs.Session.{closes}
use Rattle.ice_journal.specs.Records as line
use Rattle.ice_journal_laws.specs.Fields.{prices_in}
use Rattle.ice_defs.proofs.Naming.{bytes_eq-same}
use Rattle.ice_defs.proofs.Products.{times_one}
use Rattle.ice_tree.proofs.Satisfied.{set_fault-none}
use Rattle.ice_section.specs.Taking.{section_of}
use Rattle.ice_journal_laws.specs.declared.rule.Rule.{Rule}
use Rattle.ice_journal_laws.specs.declared.rule.Rule.TheVariants as rule
use Rattle.ice_journal_laws.specs.Written.{payment_record, judged_records}
use Rattle.ice_statement_laws.specs.Statement.{StatementLine, shown, kept}
use Rattle.ice_statement_laws.specs.Audit.{Spot, at_regret, at_kept, at_offered, at_prices, at_round, at_verdict, at_threshold, at_payment, at_end, AuditState, bidder_at, audit_next, stated_set, IsUnsatisfied, AreUnlawful, HasUnlawfulPrices, IsOtherVerdict, IsOtherPayment, IsRefused, AuditFails, Audited, passes, goes_on, is_from_0}
use Rattle.ice_statement_laws.specs.Own.{OwnStep, OwnClosed, step_lines, closed_lines, lines_from, AreOwnPrices, IsOwnClosed, IsOwnFrom}
use Rattle.ice_round_laws.proofs.Entering.{taken_push}

-- ---- one line that passes

-- no test fails
pub quiet : (s after : AuditState) (l : StatementLine) → audit_next s l ≡ Some after → ¬ IsRefused s.spot s l → ¬ IsSomeAnd (stated_set s.spot l) (λ x. length x ≢ length (bidder_at s).tree)
    → ((k : SatRule) → ¬ IsUnsatisfied k s l) → ¬ HasUnlawfulPrices s.spot s l → ¬ IsOtherVerdict s.spot s l → ¬ IsOtherPayment s.spot s l → (x : Rule) → ¬ AuditFails x s l
quiet s after l is refused count fault prices verdict payment rule.Order f = none-some after (sym f ∙ is)
quiet s after l is refused count fault prices verdict payment rule.Exchange f = refused f
quiet s after l is refused count fault prices verdict payment rule.Count f = count f
quiet s after l is refused count fault prices verdict payment rule.Parent f = fault Parent f
quiet s after l is refused count fault prices verdict payment rule.Few f = fault Few f
quiet s after l is refused count fault prices verdict payment rule.Many f = fault Many f
quiet s after l is refused count fault prices verdict payment rule.Prices f = prices f
quiet s after l is refused count fault prices verdict payment rule.Verdict f = verdict f
quiet s after l is refused count fault prices verdict payment rule.Payment f = payment f
quiet s after l is refused count fault prices verdict payment other f = f

-- ---- small facts

le_true : (a b : ℤ) → a ≤ℤ b → int_le a b ≡ true
le_true a b h = grind (arith, ints, h)

from_0 : (a : Fraction) → AtMost (whole_number (pos 0)) a → is_from_0 a ≡ true
from_0 a h = le_true (pos 0) a.num (omega (arith, ints, h, times_one a.num, zero-*ℤ (pos a.den)))

-- ---- the lines behind the number of a settlement

abbrev pub behind : ℕ → List OwnStep → OwnClosed → List StatementLine
behind number [] c = closed_lines c
behind number (g ∷ later) c = step_lines g ++ lines_from (suc number) later c

pub lines_are : (number : ℕ) (going : List OwnStep) (c : OwnClosed) → lines_from number going c ≡ shown (line.settle number) ∷ behind number going c
lines_are number [] c = refl
lines_are number (g ∷ later) c = refl

-- ---- the walk

module _ (settings : Settings) (goods : List Good) (bidder : Bidder) where
  abbrev sat : NodeSet → Type 0
  sat x = IsSatisfied bidder.tree x

  -- a state of the audit behind the section
  abbrev pub at : (n number : ℕ) (spot : Spot) (bounds : Bounds) (regret : ℤ) (x y : NodeSet) (prices : Prices) (judged : List Judged) (cut : Fraction) → AuditState
  at n number spot bounds regret x y prices judged cut = record {
    line = n;
    name = bidder.name;
    section = section_of (record { settings = settings; goods = goods; bidders = bidder ∷ [] });
    spot = spot;
    number = number;
    bounds = bounds;
    regret = regret;
    kept = x;
    offered = y;
    prices = prices;
    judged = judged;
    cut = cut;
  }

  abbrev standing_of : Bounds → NodeSet → Standing
  standing_of bounds set = record { name = bidder.name; tree = bidder.tree; bounds = bounds; set = set }

  faultless : (x : NodeSet) → sat x → (k : SatRule) → ¬ (set_fault bidder.tree x ≡ Some k)
  faultless x is k e = none-some k (sym (set_fault-none bidder.tree x is) ∙ e)

  closed_on : (n number : ℕ) (bounds : Bounds) (a : ℤ) (x y : NodeSet) (p : Prices) (cut : Fraction) (c : OwnClosed) → closes settings number c.regret ≡ true → IsOwnClosed settings (length goods) bidder bounds c
      → Audited (at n number at_regret bounds a x y p [] cut) (closed_lines c) None
  closed_on n number bounds a x y p cut c ends is =
      goes_on (quiet _ _ _ refl (λ h. h) (λ h. h) (λ k h. h) (λ h. h) (λ h. h) (λ h. h)) tt refl
      (goes_on (quiet _ _ _ kept_on (λ h. h) (λ h. h is.kept.same_length) (faultless c.kept is.kept) (λ h. h) (λ h. h) (λ h. h)) tt kept_on
      (goes_on (quiet _ _ _ threshold_on (λ h. h) (λ h. h) (λ k h. h) (λ h. h) (λ h. h) (λ h. h)) tt threshold_on
      (goes_on (quiet _ _ _ payment_on (λ h. h) (λ h. h) (λ k h. h) (λ h. h) (λ h. h) (λ h. h (record { vickrey = is.vickrey; discount = is.discount; payment = is.payment }))) tt payment_on
      (goes_on (quiet _ _ _ refl (λ h. h) (λ h. h) (λ k h. h) (λ h. h) (λ h. h) (λ h. h)) tt refl (passes refl)))))
    where
      kept_on : audit_next (at (suc n) number at_kept bounds c.regret x y p [] cut) (kept c.kept) ≡ Some (at (suc (suc n)) number at_threshold bounds c.regret c.kept y p [] cut)
      kept_on = ap (λ (b : Bool). Some (at (suc (suc n)) number (cond b at_threshold at_offered) bounds c.regret c.kept y p [] cut)) ends

      threshold_on : audit_next (at (suc (suc n)) number at_threshold bounds c.regret c.kept y p [] cut) (shown (line.threshold c.cut c.surplus)) ≡ Some (at (suc (suc (suc n))) number at_payment bounds c.regret c.kept y p [] c.cut)
      threshold_on = ap (λ (b : Bool). option_map (λ (s : AuditState). record s { line = suc (suc (suc n)) }) (cond b (Some (at (suc (suc n)) number at_payment bounds c.regret c.kept y p [] c.cut)) None)) (and_from (is_from_0 c.cut) (is_from_0 c.surplus) (from_0 c.cut is.cut) (from_0 c.surplus is.surplus))

      payment_on : audit_next (at (suc (suc (suc n))) number at_payment bounds c.regret c.kept y p [] c.cut) (shown (payment_record c.payment)) ≡ Some (at (suc (suc (suc (suc n)))) number at_end bounds c.regret c.kept y p [] c.cut)
      payment_on =
          ap (λ (b : Bool). option_map (λ (s : AuditState). record s { line = suc (suc (suc (suc n))) }) (cond b (Some (at (suc (suc (suc n))) number at_end bounds c.regret c.kept y p [] c.cut)) None))
          (bytes_eq-same bidder.name c.payment.name (sym is.name))

  -- the submissions of a round with their verdicts
  round_on : (n number : ℕ) (bounds : Bounds) (a : ℤ) (x y : NodeSet) (p : Prices) (cut : Fraction) (past todo : List Judged) (rest : List StatementLine)
      → AllByRecursion (λ j. j.submission.name ≡ bidder.name) todo → JudgesInOrder p settings.improve (standing_of bounds y) (list_any is_accepted past) todo
      → ((m : ℕ) → Audited (at m number at_round bounds a x y p (past ++ todo) cut) rest None) → Audited (at n number at_round bounds a x y p past cut) (map shown (flat_map judged_records todo) ++ rest) None
  round_on n number bounds a x y p cut past [] rest names judges later = subst (λ (js : List Judged). Audited (at n number at_round bounds a x y p js cut) rest None) (append-nil past) (later n)
  round_on n number bounds a x y p cut past (j ∷ todo) rest names judges later =
      subst (λ (ls : List line.Record). Audited (at n number at_round bounds a x y p past cut) (map shown ls ++ rest) None) (sym (flat_map-cons judged_records j todo))
      (goes_on (quiet _ _ _ submit_on (λ h. h) (λ h. h) (λ k h. h) (λ h. h) (λ h. h) (λ h. h)) tt submit_on
      (goes_on (quiet _ _ _ refl (λ h. h) (λ h. h) (λ k h. h) (λ h. h) (λ h. h judges.0) (λ h. h)) judges.0 refl
      (round_on (suc (suc n)) number bounds a x y p cut (past ++ j ∷ []) todo rest names.1 (subst (λ (b : Bool). JudgesInOrder p settings.improve (standing_of bounds y) b todo) (sym (taken_push past j)) judges.1)
      (λ m. subst (λ (js : List Judged). Audited (at m number at_round bounds a x y p js cut) rest None) (sym (append_assoc past (j ∷ []) todo)) (later m)))))
    where
      submit_on : audit_next (at n number at_round bounds a x y p past cut) (shown (line.submit j.submission)) ≡ Some (at (suc n) number (at_verdict j.submission) bounds a x y p past cut)
      submit_on =
          ap (λ (b : Bool). option_map (λ (s : AuditState). record s { line = suc n }) (cond b (Some (at n number (at_verdict j.submission) bounds a x y p past cut)) None)) (bytes_eq-same bidder.name j.submission.name (sym names.0))

  fit_prices : (p : Prices) → AreOwnPrices (length goods) settings.cap p → ¬ ((((g : ℕ) × (g < length goods) × ((settings.cap *ℤ pos p.den) <ℤ price_of p g))) ⊎ HasCommonDivisor p)
  fit_prices p is (inl (g, l, above)) = omega (arith, ints, is.high g l, above)
  fit_prices p is (inr common) = is.lowest common

  -- the settlements from one on, whose number has come
  pub settled_on : (n number : ℕ) (bounds : Bounds) (a : ℤ) (x y : NodeSet) (p : Prices) (cut : Fraction) (going : List OwnStep) (c : OwnClosed) → IsOwnFrom settings (length goods) bidder number bounds going c
      → Audited (at n number at_regret bounds a x y p [] cut) (behind number going c) None
  settled_on n number bounds a x y p cut [] c (ends, is) = closed_on n number bounds a x y p cut c ends is
  settled_on n number bounds a x y p cut (g ∷ later) c (goes, is, more) =
      goes_on (quiet _ _ _ refl (λ h. h) (λ h. h) (λ k h. h) (λ h. h) (λ h. h) (λ h. h)) tt refl
      (goes_on (quiet _ _ _ kept_on (λ h. h) (λ h. h is.kept.same_length) (faultless g.kept is.kept) (λ h. h) (λ h. h) (λ h. h)) tt kept_on
      (goes_on (quiet _ _ _ refl (λ h. h) (λ h. h is.offered.same_length) (faultless g.offered is.offered) (λ h. h) (λ h. h) (λ h. h)) tt refl
      (goes_on (quiet _ _ _ prices_on (λ h. h) (λ h. h) (λ k h. h) unlawful (λ h. h) (λ h. h)) tt prices_on
      (round_on (suc (suc (suc (suc n)))) number bounds g.regret g.kept g.offered g.prices cut [] g.judged (lines_from (suc number) later c) is.names is.round
      (λ m. subst (λ (ls : List StatementLine). Audited (at m number at_round bounds g.regret g.kept g.offered g.prices g.judged cut) ls None) (sym (lines_are (suc number) later c))
      (goes_on (quiet _ _ _ (settle_on m) (λ h. h) (λ h. h) (λ k h. h) (λ h. h) (λ h. h) (λ h. h)) tt (settle_on m)
      (settled_on (suc m) (suc number) (bounds_after bounds g.judged) g.regret g.kept g.offered g.prices cut later c more)))))))
    where
      kept_on : audit_next (at (suc n) number at_kept bounds g.regret x y p [] cut) (kept g.kept) ≡ Some (at (suc (suc n)) number at_offered bounds g.regret g.kept y p [] cut)
      kept_on = ap (λ (b : Bool). Some (at (suc (suc n)) number (cond b at_threshold at_offered) bounds g.regret g.kept y p [] cut)) goes

      counted : prices_in (length goods) (line.prices g.prices) ≡ Some g.prices
      counted = ap (λ (b : Bool). cond b (Some g.prices) None) (eq-eqb (length g.prices.nums) (length goods) is.prices.count)

      prices_on : audit_next (at (suc (suc (suc n))) number at_prices bounds g.regret g.kept g.offered p [] cut) (shown (line.prices g.prices))
          ≡ Some (at (suc (suc (suc (suc n)))) number at_round bounds g.regret g.kept g.offered g.prices [] cut)
      prices_on = ap (λ (o : Option Prices). option_map (λ (s : AuditState). record s { line = suc (suc (suc (suc n))) })
          (option_map (λ (q : Prices). at (suc (suc (suc n))) number at_round bounds g.regret g.kept g.offered q [] cut) o)) counted

      unlawful : ¬ HasUnlawfulPrices at_prices (at (suc (suc (suc n))) number at_prices bounds g.regret g.kept g.offered p [] cut) (shown (line.prices g.prices))
      unlawful h = fit_prices g.prices is.prices (subst (λ (o : Option Prices). IsSomeAnd o (AreUnlawful (at (suc (suc (suc n))) number at_prices bounds g.regret g.kept g.offered p [] cut))) counted h)

      settle_on : (m : ℕ) → audit_next (at m number at_round bounds g.regret g.kept g.offered g.prices g.judged cut) (shown (line.settle (suc number)))
          ≡ Some (at (suc m) (suc number) at_regret (bounds_after bounds g.judged) g.regret g.kept g.offered g.prices [] cut)
      settle_on m =
          ap (λ (b : Bool). option_map (λ (s : AuditState). record s { line = suc m }) (cond b (Some (at m (suc number) at_regret (bounds_after bounds g.judged) g.regret g.kept g.offered g.prices [] cut)) None))
          (eq-eqb (suc number) (suc number) refl)
