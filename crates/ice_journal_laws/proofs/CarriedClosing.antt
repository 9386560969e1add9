-- The closing of a session: the groups without each bidder, the cut, the payments and the end.
use Rattle.std.proofs.Common.{◌≡◌, ◌+◌, ℕ, suc, Bool, cond, eqb, List, [], ◌∷◌, ◌++◌, length, map, get_or, ℤ, pos, refl, sym, ◌∙◌, ap, subst, arith, append_assoc}
use Rattle.std.specs.Prelude.{Some, None, option_map}
use Rattle.std.proofs.lemmas.Bool.{false≢true, eq-eqb, ne_eqb}
use Rattle.std.proofs.lemmas.Option.{none-some}
use Rattle.std.proofs.lemmas.List.{append-nil}
use Rattle.std.proofs.lemmas.Slice.Eq.{bytes_eq-Decides}
use Rattle.ice_defs.specs.declared.Group.TheVariants.{Without}
use Rattle.ice_defs.specs.Fraction.{Fraction}
use Rattle.ice_defs.specs.Exchange.{names_of}
use Rattle.ice_defs.specs.Session.{Proved, Payment}
use Rattle.ice_journal.specs.Records.{Record, closed_end}
use Rattle.ice_journal.specs.Records as line
use Rattle.ice_journal_laws.specs.declared.rule.Rule.{Rule}
use Rattle.ice_journal_laws.specs.declared.rule.Rule.TheVariants as rule
use Rattle.ice_journal_laws.specs.State.{at_group, at_threshold, at_payment, at_end, done, State, exchange_at, trees_at, exact_at, goods_at, weights_at}
use Rattle.ice_journal_laws.specs.Next.{next, to_line, go_to, bidder_count}
use Rattle.ice_journal_laws.specs.Tests.{Fails, vickreys, final_worth, IsThresholdLine, IsPaymentLine}
use Rattle.ice_journal_laws.specs.Progress.{passes_on}
use Rattle.ice_journal_laws.specs.Written.{payment_record}
use Rattle.ice_journal_laws.specs.Carrying.{Carries}
use Rattle.ice_journal_laws.specs.Showing.{group_records}
use Rattle.ice_journal_laws.specs.ShowingSession.{without_group_records, AreShownWithout, AreShownPayments}
use Rattle.ice_journal_laws.proofs.Carried.{TakesTo, carries_then, carries_one, carries_join}
use Rattle.ice_journal_laws.proofs.CarriedGroup.{group_carries}

-- ---- the groups without each bidder

abbrev with_without : State → ℤ → State
with_without s value = record s { withouts = s.withouts ++ value ∷ [] }

abbrev with_withouts : State → List Proved → State
with_withouts s ps = record s { withouts = s.withouts ++ map (λ p. p.value) ps }

-- from this bidder on, to the last one
pub withouts_carry : (s : State) (b : ℕ) (p : Proved) (later : List Proved) → b + suc (length later) ≡ length (trees_at s) → AreShownWithout (trees_at s) (exact_at s) (weights_at s (Without b)) b (p ∷ later)
    → Carries (go_to (at_group (Without b)) s) (without_group_records s.version (goods_at s) b (p ∷ later)) (go_to at_threshold (record s { withouts = s.withouts ++ map (λ p. p.value) (p ∷ later) }))
withouts_carry s b p [] count is =
    subst (λ (rs : List Record). Carries (go_to (at_group (Without b)) s) rs (go_to at_threshold (with_without s p.value))) (sym (append-nil (group_records s.version (goods_at s) (line.without b p.value) p)))
    (subst (λ (t : Bool). Carries (go_to (at_group (Without b)) s) (group_records s.version (goods_at s) (line.without b p.value) p) (go_to (cond t at_threshold (at_group (Without (suc b)))) (with_without s p.value)))
    (eq-eqb (suc b) (bidder_count s) (omega (arith, count)))
    (group_carries s (Without b) p refl (omega (arith, count)) is.0))
withouts_carry s b p (q ∷ later) count is =
    carries_join (go_to (at_group (Without b)) s) (go_to (at_group (Without (suc b))) (with_without s p.value)) (go_to at_threshold (with_withouts s (p ∷ q ∷ later))) (group_records s.version (goods_at s) (line.without b p.value) p) (without_group_records s.version (goods_at s) (suc b) (q ∷ later))
    (subst (λ (t : Bool). Carries (go_to (at_group (Without b)) s) (group_records s.version (goods_at s) (line.without b p.value) p) (go_to (cond t at_threshold (at_group (Without (suc b)))) (with_without s p.value)))
    (ne_eqb (suc b) (bidder_count s) (λ e. omega (arith, count, e)))
    (group_carries s (Without b) p refl (omega (arith, count)) is.0))
    (subst (λ (values : List ℤ). Carries (go_to (at_group (Without (suc b))) (with_without s p.value)) (without_group_records s.version (goods_at s) (suc b) (q ∷ later)) (go_to at_threshold (record s { withouts = values })))
    (append_assoc s.withouts (p.value ∷ []) (map (λ (p : Proved). p.value) (q ∷ later)))
    (withouts_carry (with_without s p.value) (suc b) q later (omega (arith, count)) is.1))

-- ---- the cut

pub threshold_takes : (s : State) (cut surplus : Fraction) → IsThresholdLine (vickreys s) s.final.value (record { cut = cut; surplus = surplus })
    → TakesTo (go_to at_threshold s) (line.threshold cut surplus) (go_to (at_payment 0) (record s { cut = cut; surplus = surplus }))
threshold_takes s cut surplus is n = passes_on (λ z e. absurd (none-some z e)) quiet (record { leaf = tt; violation = tt; list = tt; verdict = tt }) refl
  where
    quiet : (z : Rule) → ¬ Fails z (to_line n (go_to at_threshold s)) (line.threshold cut surplus)
    quiet rule.Closed h = false≢true h.0
    quiet rule.Order h = none-some _ (sym h)
    quiet rule.Exchange h = false≢true h.1
    quiet rule.Threshold h = h is
    quiet other h = h

-- ---- the payments

-- the place behind a payment
abbrev behind : State → ℕ → State
behind s b = go_to (cond (eqb (suc b) (bidder_count s)) (at_end closed_end) (at_payment (suc b))) s

payment_takes : (s : State) (b : ℕ) (p : Payment) → p.name ≡ get_or (names_of (exchange_at s)) b [] → IsPaymentLine (get_or (vickreys s) b (pos 0)) (final_worth s b) s.cut p
    → TakesTo (go_to (at_payment b) s) (payment_record p) (behind s b)
payment_takes s b p named pays n = passes_on (λ z e. absurd (none-some z e)) quiet (record { leaf = tt; violation = tt; list = tt; verdict = tt }) is
  where
    is : next (to_line n (go_to (at_payment b) s)) (payment_record p) ≡ Some (to_line (suc n) (behind s b))
    is = ap (λ (t : Bool). option_map (to_line (suc n)) (cond t (Some (behind (to_line n s) b)) None)) ((bytes_eq-Decides p.name (get_or (names_of (exchange_at s)) b [])).1 named)

    quiet : (z : Rule) → ¬ Fails z (to_line n (go_to (at_payment b) s)) (payment_record p)
    quiet rule.Closed h = false≢true h.0
    quiet rule.Order h = none-some _ (sym h ∙ is)
    quiet rule.Exchange h = false≢true h.1
    quiet rule.Payment h = h pays
    quiet other h = h

-- from this bidder on, to the last one
pub payments_carry : (s : State) (b : ℕ) (p : Payment) (later : List Payment) → b + suc (length later) ≡ length (trees_at s) → AreShownPayments (names_of (exchange_at s)) (vickreys s) (final_worth s) s.cut b (p ∷ later)
    → Carries (go_to (at_payment b) s) (map payment_record (p ∷ later)) (go_to (at_end closed_end) s)
payments_carry s b p [] count is =
    carries_one (go_to (at_payment b) s) (go_to (at_end closed_end) s) (payment_record p)
    (subst (λ (t : Bool). TakesTo (go_to (at_payment b) s) (payment_record p) (go_to (cond t (at_end closed_end) (at_payment (suc b))) s)) (eq-eqb (suc b) (bidder_count s) (omega (arith, count)))
    (payment_takes s b p is.0 is.1))
payments_carry s b p (q ∷ later) count is =
    carries_then (go_to (at_payment b) s) (go_to (at_payment (suc b)) s) (go_to (at_end closed_end) s) (payment_record p) (map payment_record (q ∷ later))
    (subst (λ (t : Bool). TakesTo (go_to (at_payment b) s) (payment_record p) (go_to (cond t (at_end closed_end) (at_payment (suc b))) s)) (ne_eqb (suc b) (bidder_count s) (λ e. omega (arith, count, e)))
    (payment_takes s b p is.0 is.1))
    (payments_carry s (suc b) q later (omega (arith, count)) is.2)

-- ---- the end

pub closed_end_takes : (s : State) → TakesTo (go_to (at_end closed_end) s) (line.end closed_end) (go_to done s)
closed_end_takes s n = passes_on (λ z e. absurd (none-some z e)) quiet (record { leaf = tt; violation = tt; list = tt; verdict = tt }) refl
  where
    quiet : (z : Rule) → ¬ Fails z (to_line n (go_to (at_end closed_end) s)) (line.end closed_end)
    quiet rule.Closed h = false≢true h.0
    quiet rule.Order h = none-some _ (sym h)
    quiet rule.Exchange h = false≢true h.1
    quiet other h = h
