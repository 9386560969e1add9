-- The threshold, the payments and the end of a session, where each test of them passes.
use Rattle.std.proofs.Common.{◌≡◌, ◌<◌, ℕ, suc, Bool, true, false, cond, eqb, List, [], ◌∷◌, ◌++◌, length, map, ℤ, pos, refl, sym, ◌∙◌, ap, subst, arith, length-append}
use Rattle.std.specs.Prelude.{Some, option_map, ◌-ℤ◌, slice_index_or}
use Rattle.std.specs.Str.{bytes_eq}
use Rattle.std.proofs.lemmas.Bool.{eqb-true, eqb-false}
use Rattle.std.proofs.lemmas.Option.{none-some}
use Rattle.std.proofs.lemmas.List.{append_assoc, map-append, get_or-map, length-map}
use Rattle.std.proofs.lemmas.Slice.Eq.{bytes_eq-Decides}
use Rattle.ice_defs.specs.Set.{value}
use Rattle.ice_defs.specs.Trade.{Assignment, set_of, weights_of}
use Rattle.ice_defs.specs.Weighing.{lower_weights}
use Rattle.ice_defs.specs.Fraction.{Fraction, whole_number, IsFraction, Equals, minus}
use Rattle.ice_defs.specs.Cut.{discount_at_cut}
use Rattle.ice_frac.proofs.Fractions.{Equals-trans, Equals-less, proper_less}
use Rattle.ice_defs.specs.Exchange.{names_of}
use Rattle.ice_defs.specs.Session.{Proved, Settlement, Going, Payment, Closed}
use Rattle.ice_journal.specs.Records.{Record, Version, session_kind, closed_end}
use Rattle.ice_journal.specs.Records as line
use Rattle.ice_journal.specs.Ranges.{IsRecord}
use Rattle.ice_regret_laws.specs.Laws.{PerturbedGivesRegret}
use Rattle.ice_journal_laws.specs.declared.rule.Rule.{Rule}
use Rattle.ice_journal_laws.specs.declared.rule.Rule.TheVariants as rule
use Rattle.ice_journal_laws.specs.State.{at_threshold, at_payment, at_end, State, exchange_at}
use Rattle.ice_journal_laws.specs.Next.{next, go_to, to_line, if_true, bidder_count}
use Rattle.ice_journal_laws.specs.Tests.{Fails, vickreys, final_worth, IsThresholdLine, IsPaymentLine}
use Rattle.ice_journal_laws.specs.Written.{proved_records, regret_records, without_records, payment_record, closed_records}
use Rattle.ice_journal_laws.specs.Stops.{all_going_records}
use Rattle.ice_journal_laws.proofs.Grouping.{of_same, Tells, tells_more}
use Rattle.ice_journal_laws.proofs.Regretting.{some_bidder}
use Rattle.ice_journal_laws.proofs.Past.{settled_right}
use Rattle.ice_journal_laws.proofs.Closing.{threshold_line, payment_line, IsPaid, ArePaid, none_paid, paid_more, no_payment, payment_at, closed_right}
use Rattle.ice_journal_laws.proofs.Sessions.{Past, Settled, WithoutEach, without_text, payment_text, unended_records, IsAt, IsStanding}

-- ---- what is written

paid_text : (front : List Record) (first : Record) (payments : List Payment) (p : Payment) → (front ++ first ∷ map payment_record payments) ++ payment_record p ∷ [] ≡ front ++ first ∷ map payment_record (payments ++ p ∷ [])
paid_text front first payments p =
    append_assoc front (first ∷ map payment_record payments) (payment_record p ∷ []) ∙ ap (λ (rs : List Record). front ++ first ∷ rs) (sym (map-append payment_record payments (p ∷ [])))

nested : (before A B C D : List Record) (a b : Record)
    → ((((((before ++ a ∷ []) ++ A) ++ B) ++ b ∷ []) ++ C) ++ D) ≡ before ++ (a ∷ ((((A ++ B) ++ (b ∷ [])) ++ C) ++ D))
nested before A B C D a b = simp append_assoc

-- the records of a last settlement, one behind the other
last_text : (before : List Record) (number : ℕ) (c : Closed)
    → ((((((before ++ line.settle number ∷ []) ++ proved_records (line.final c.settlement.final.value) c.settlement.final) ++ proved_records (line.rival c.settlement.rival.value) c.settlement.rival) ++ line.regret c.settlement.regret ∷ [])
    ++ without_records 0 c.withouts) ++ line.threshold c.cut c.surplus ∷ map payment_record c.payments)
    ≡ before ++ unended_records number c
last_text before number c =
    nested before (proved_records (line.final c.settlement.final.value) c.settlement.final) (proved_records (line.rival c.settlement.rival.value) c.settlement.rival) (without_records 0 c.withouts)
    (line.threshold c.cut c.surplus ∷ map payment_record c.payments) (line.settle number) (line.regret c.settlement.regret)

one_more : (before A B C : List Record) (a : Record) → (before ++ ((A ++ B) ++ C)) ++ (a ∷ []) ≡ before ++ (((A ++ B) ++ C) ++ (a ∷ []))
one_more before A B C a = simp append_assoc

end_text : (before : List Record) (number : ℕ) (c : Closed) → (before ++ unended_records number c) ++ line.end closed_end ∷ [] ≡ before ++ closed_records number c
end_text before number c =
    one_more before (line.settle number ∷ regret_records c.settlement) (without_records 0 c.withouts) (line.threshold c.cut c.surplus ∷ map payment_record c.payments) (line.end closed_end)

-- ---- what is known with the last payment

module _ (perturbed : PerturbedGivesRegret) (before : List Record) (s : State) (past : List Going) (x : Settlement) (ps : List Proved) (payments : List Payment) where
  -- the payments so far
  pub record HasPaid (bidders : ℕ) : Type 0 where
    pub earlier : Past s past
    pub settled : Settled s true x
    pub without : WithoutEach s (bidder_count s) ps
    pub line_is : IsThresholdLine (vickreys s) s.final.value (record { cut = s.cut; surplus = s.surplus })
    pub proper_cut : IsFraction s.cut
    pub proper_surplus : IsFraction s.surplus
    pub count : length payments ≡ bidders
    pub paid : ArePaid (names_of (exchange_at s)) (vickreys s) (final_worth s) s.cut payments
    pub tells : Tells before s (payment_text s past x ps payments)

  -- the last settlement is closed
  all_paid : HasPaid (bidder_count s) → IsAt before s (at_end closed_end)
  all_paid h = (
    past,
    record { settlement = x; withouts = ps; cut = s.cut; surplus = s.surplus; payments = payments },
    h.earlier,
    record {
      closed = closed_right (exchange_at s) s.bounds x ps payments s.cut s.surplus (record {
        settled = settled_right perturbed (exchange_at s) s.bounds x h.earlier.lawful h.settled.settled;
        bounds_count = h.earlier.lawful.same_length;
        withouts_count = h.without.count;
        withouts = h.without.best;
        payments_count = h.count;
        paid =
            subst (λ (vs : List ℤ). ArePaid (names_of (exchange_at s)) vs worth s.cut payments) same_vickreys
            (subst (λ (sets : Assignment). ArePaid (names_of (exchange_at s)) (vickreys s) (λ i. value (set_of sets i) (weights_of (lower_weights s.bounds) i)) s.cut payments) (sym h.settled.sets_are) h.paid);
        line =
            subst (λ (vs : List ℤ). IsThresholdLine vs x.final.value (record { cut = s.cut; surplus = s.surplus })) same_vickreys
            (subst (λ (v : ℤ). IsThresholdLine (vickreys s) v (record { cut = s.cut; surplus = s.surplus })) (sym h.settled.value_is) h.line_is);
        cut_proper = h.proper_cut;
        surplus_proper = h.proper_surplus;
      });
      test = h.settled.test;
      regret_is = h.settled.regret_is;
      surplus_is = refl;
      sets_are = h.settled.sets_are;
      cut_is = refl;
      paid = λ i l.
          let there : i < length payments = omega (arith, l, length-map payments (λ (p : Payment). p.payment)) in
          let one = h.paid.each i there in
          let at = get_or-map (λ (p : Payment). p.payment) payments i no_payment (whole_number (pos 0)) there in (
            final_worth s i,
            slice_index_or (vickreys s) i (pos 0),
            subst (λ (f : Fraction). Equals f (minus (whole_number (final_worth s i)) (discount_at_cut s.cut (slice_index_or (vickreys s) i (pos 0))))) (sym at)
                (Equals-trans (payment_at payments i).payment (minus (whole_number (final_worth s i)) (payment_at payments i).discount) (minus (whole_number (final_worth s i)) (discount_at_cut s.cut (slice_index_or (vickreys s) i (pos 0))))
                (proper_less (final_worth s i) (payment_at payments i).discount one.discount_proper) one.line.payment
                (Equals-less (whole_number (final_worth s i)) (payment_at payments i).discount (whole_number (final_worth s i)) (discount_at_cut s.cut (slice_index_or (vickreys s) i (pos 0))) refl one.line.discount)),
          );
    },
    subst (Tells before s) (last_text (all_going_records 0 past) s.number (record { settlement = x; withouts = ps; cut = s.cut; surplus = s.surplus; payments = payments })) h.tells,
  )
    where
      worth : ℕ → ℤ
      worth i = value (set_of x.final.sets i) (weights_of (lower_weights s.bounds) i)

      same_vickreys : vickreys s ≡ map (λ without. x.final.value -ℤ without) (map (λ (p : Proved). p.value) ps)
      same_vickreys =
          ap (λ (v : ℤ). map (λ without. v -ℤ without) s.withouts) (sym h.settled.value_is) ∙ ap (λ (vs : List ℤ). map (λ without. x.final.value -ℤ without) vs) (sym h.without.values)

  -- a payment, which is the last one or not
  paid_on : (b : ℕ) → HasPaid (suc b) → b < bidder_count s → (t : Bool) → eqb (suc b) (bidder_count s) ≡ t → IsAt before s (cond t (at_end closed_end) (at_payment (suc b)))
  paid_on b h there true e = all_paid (subst HasPaid (eqb-true (suc b) (bidder_count s) e) h)
  paid_on b h there false e = (
    past,
    x,
    ps,
    payments,
    h.earlier,
    h.settled,
    h.without,
    h.line_is,
    h.proper_cut,
    h.proper_surplus,
    h.count,
    omega (arith, there, eqb-false (suc b) (bidder_count s) e),
    h.paid,
    h.tells,
  )

-- ---- one more record

module _ (version : Version) (before : List Record) (s : State) (same : s.version ≡ version) (kind : s.kind ≡ session_kind) where
  -- the threshold
  pub in_threshold : (r : Record) (after : State) → IsRecord r → IsAt before s at_threshold → next (go_to at_threshold s) r ≡ Some after → ((k : Rule) → ¬ Fails k (go_to at_threshold s) r) → IsStanding version (before ++ r ∷ []) after
  in_threshold (line.threshold cut surplus) after (ranges_cut, ranges_surplus) (past, x, ps, earlier, settled, without, tells) is pass = of_same _ after is (IsStanding version (before ++ line.threshold cut surplus ∷ [])) (record {
    same_version = same;
    kind = kind;
    place = (
      past,
      x,
      ps,
      [],
      earlier,
      settled,
      without,
      threshold_line (vickreys s) s.final.value (record { cut = cut; surplus = surplus }) (pass rule.Threshold),
      ranges_cut.den.0,
      ranges_surplus.den.0,
      refl,
      some_bidder s tells.exchange,
      none_paid (names_of (exchange_at s)) (vickreys s) (final_worth s) cut,
      tells_more before s (without_text s past x ps) (without_text s past x ps ++ line.threshold cut surplus ∷ []) (line.threshold cut surplus) (λ m. refl) refl refl tells,
    );
  })
  in_threshold other after ranges at is pass = absurd (none-some after is)

  -- a payment
  module _ (perturbed : PerturbedGivesRegret) (b : ℕ) where
    paid_passes : (p : Payment) (after : State) → IsRecord (payment_record p) → IsAt before s (at_payment b) → p.name ≡ slice_index_or (names_of (exchange_at s)) b []
        → IsPaymentLine (slice_index_or (vickreys s) b (pos 0)) (final_worth s b) s.cut p
        → Some (to_line (suc s.line) (go_to (cond (eqb (suc b) (bidder_count s)) (at_end closed_end) (at_payment (suc b))) s)) ≡ Some after → IsStanding version (before ++ payment_record p ∷ []) after
    paid_passes p after ranges (past, x, ps, payments, earlier, settled, without, line_is, proper_cut, proper_surplus, count, there, paid, tells) named said is =
        of_same _ after is (IsStanding version (before ++ payment_record p ∷ [])) (record {
          same_version = same;
          kind = kind;
          place = paid_on perturbed (before ++ payment_record p ∷ []) s past x ps (payments ++ p ∷ []) b all there (eqb (suc b) (bidder_count s)) refl;
        })
      where
        mine : IsPaid (slice_index_or (names_of (exchange_at s)) b []) (slice_index_or (vickreys s) b (pos 0)) (final_worth s b) s.cut p
        mine = record { name_is = named; line = said; low = ranges.1.0; discount_proper = ranges.2.den.0; payment_proper = ranges.3.den.0 }

        all : HasPaid perturbed (before ++ payment_record p ∷ []) s past x ps (payments ++ p ∷ []) (suc b)
        all = record {
          earlier = earlier;
          settled = settled;
          without = without;
          line_is = line_is;
          proper_cut = proper_cut;
          proper_surplus = proper_surplus;
          count = length-append payments (p ∷ []) ∙ omega (arith, count);
          paid =
              paid_more (names_of (exchange_at s)) (vickreys s) (final_worth s) s.cut payments p paid
              (subst (λ (n : ℕ). IsPaid (slice_index_or (names_of (exchange_at s)) n []) (slice_index_or (vickreys s) n (pos 0)) (final_worth s n) s.cut p) (sym count) mine);
          tells =
              tells_more before s (payment_text s past x ps payments) (payment_text s past x ps (payments ++ p ∷ [])) (payment_record p) (λ m. refl) refl
              (paid_text (without_text s past x ps) (line.threshold s.cut s.surplus) payments p) tells;
        }

    pub in_payment : (r : Record) (after : State) → IsRecord r → IsAt before s (at_payment b) → next (go_to (at_payment b) s) r ≡ Some after → ((k : Rule) → ¬ Fails k (go_to (at_payment b) s) r)
        → IsStanding version (before ++ r ∷ []) after
    in_payment (line.payment name vickrey discount payment) after ranges at is pass = by (bytes_eq name (slice_index_or (names_of (exchange_at s)) b [])) refl is
      where
        p : Payment
        p = record { name = name; vickrey = vickrey; discount = discount; payment = payment }

        by : (t : Bool) → bytes_eq name (slice_index_or (names_of (exchange_at s)) b []) ≡ t
            → option_map (to_line (suc s.line)) (if_true t (go_to (cond (eqb (suc b) (bidder_count s)) (at_end closed_end) (at_payment (suc b))) s)) ≡ Some after
            → IsStanding version (before ++ line.payment name vickrey discount payment ∷ []) after
        by true e f = paid_passes p after ranges at ((bytes_eq-Decides name (slice_index_or (names_of (exchange_at s)) b [])).0 e) (payment_line _ _ s.cut p (pass rule.Payment)) f
        by false e f = absurd (none-some after f)
    in_payment other after ranges at is pass = absurd (none-some after is)

  -- the end
  pub in_end : (r : Record) (after : State) → IsAt before s (at_end closed_end) → next (go_to (at_end closed_end) s) r ≡ Some after → IsStanding version (before ++ r ∷ []) after
  in_end (line.end closed_end) after (past, c, earlier, ended, tells) is = of_same _ after is (IsStanding version (before ++ line.end closed_end ∷ [])) (record {
    same_version = same;
    kind = kind;
    place = (
      past,
      c,
      earlier,
      ended,
      tells_more before s (all_going_records 0 past ++ unended_records s.number c) (all_going_records 0 past ++ closed_records s.number c) (line.end closed_end) (λ m. refl) refl
          (end_text (all_going_records 0 past) s.number c) tells,
    );
  })
  in_end other after at is = absurd (none-some after is)
