-- What the audit passes is a right statement.
use Rattle.std.proofs.Common.{◌≡◌, ℕ, zero, suc, ◌<◌, ◌≤◌, Bool, true, false, cond, eqb, List, [], ◌∷◌, ◌++◌, map, length, ℤ, pos, refl, sym, ◌∙◌, ap, subst, arith, append_assoc, inl, inr, ◌⊎◌}
use Rattle.std.specs.Prelude.{◌&&◌, Some, None, option_map, IsSomeAnd, ◌*ℤ◌, ◌<ℤ◌, ◌≤ℤ◌, ◌≢◌}
use Rattle.std.specs.List.{flat_map, list_any, AllByRecursion}
use Rattle.std.specs.Str.{bytes_eq}
use Rattle.std.proofs.lemmas.Bool.{eqb-true, eq-eqb, true≢false, and_parts}
use Rattle.std.proofs.lemmas.Option.{none-some, same_Some}
use Rattle.std.proofs.lemmas.List.{append-nil}
use Rattle.std.proofs.lemmas.List.Concat.{flat_map-cons}
use Rattle.std.proofs.lemmas.Int.{ints, by_lt_z}
use Rattle.std.proofs.Math.IntN.{zero-*ℤ}
use Rattle.ice_defs.proofs.Naming.{same-bytes_eq}
use Rattle.ice_defs.proofs.Products.{times_one}
use Rattle.ice_defs.specs.declared.SatRule.{SatRule}
use Rattle.ice_defs.specs.declared.Verdict.{Verdict}
use Rattle.ice_defs.specs.declared.SatRule.TheVariants.{Parent, Few, Many}
use Rattle.ice_defs.specs.Set.{NodeSet, IsSatisfied, value}
use Rattle.ice_defs.specs.SetFault.{set_fault}
use Rattle.ice_defs.specs.Bounds.{Bounds}
use Rattle.ice_defs.specs.Prices.{Prices, price_of}
use Rattle.ice_defs.specs.Rows.{HasCommonDivisor}
use Rattle.ice_defs.specs.Round.{Submission, Judged, Standing, JudgesInOrder, IsVerdict, is_accepted, bounds_after}
use Rattle.ice_defs.specs.Fraction.{Fraction, whole_number, AtMost, Equals, minus}
use Rattle.ice_defs.specs.Cut.{discount_at_cut}
use Rattle.ice_defs.specs.Vickrey.{IsEmpty}
use Rattle.ice_defs.specs.Exchange.{Settings, Good, Bidder}
use Rattle.ice_defs.specs.Session.{Payment, closes}
use Rattle.ice_journal.specs.Records.{Record}
use Rattle.ice_journal.specs.Records as line
use Rattle.ice_journal_laws.specs.declared.rule.Rule.TheVariants as rule
use Rattle.ice_journal_laws.specs.Written.{payment_record, judged_records}
use Rattle.ice_round_laws.proofs.Entering.{taken_push}
use Rattle.ice_journal_laws.proofs.Faultless.{covered, satisfied_without_fault, no_fault}
use Rattle.ice_statement_laws.specs.Statement.{StatementLine, named, shown, kept, offered, ended}
use Rattle.ice_statement_laws.specs.Audit.{Spot, at_regret, at_kept, at_offered, at_prices, at_round, at_verdict, at_threshold, at_payment, at_end, done, AuditState, AreUnlawful, Audited, passes, goes_on, is_from_0}
use Rattle.ice_statement_laws.specs.Own.{OwnStep, OwnClosed, lines_from, AreOwnPrices, IsOwnFrom}
use Rattle.ice_statement_laws.proofs.Walking.{at, behind, lines_are}

-- where a line leads, and what is behind it
on : (s t : AuditState) (rest : List StatementLine) → Some t ≡ Some s → Audited s rest None → Audited t rest None
on s t rest e later = subst (λ (x : AuditState). Audited x rest None) (sym (same_Some t s e)) later

-- a set that passed
sat_of : (bidder : Bidder) (x : NodeSet) → ¬ (length x ≢ length bidder.tree) → ((k : SatRule) → ¬ (set_fault bidder.tree x ≡ Some k)) → IsSatisfied bidder.tree x
sat_of bidder x count fault = satisfied_without_fault bidder.tree x (counted (eqb (length x) (length bidder.tree)) refl) (no_fault bidder.tree x fault)
  where
    counted : (t : Bool) → eqb (length x) (length bidder.tree) ≡ t → length x ≡ length bidder.tree
    counted true e = eqb-true (length x) (length bidder.tree) e
    counted false e = absurd (count (λ f. true≢false (sym (eq-eqb (length x) (length bidder.tree) f) ∙ e)))

from_0 : (a : Fraction) → is_from_0 a ≡ true → AtMost (whole_number (pos 0)) a
from_0 a e = let h : pos 0 ≤ℤ a.num = grind (arith, ints) in omega (arith, ints, h, times_one a.num, zero-*ℤ (pos a.den))

same_z : (a b : ℤ) → ¬ (¬ (a ≡ b)) → a ≡ b
same_z a b h = by_lt_z a b (λ low. absurd (h (λ e. omega (arith, ints, low, e)))) (λ le. by_lt_z b a (λ high. absurd (h (λ e. omega (arith, ints, high, e)))) (λ ge. omega (arith, ints, le, ge)))

module _ (settings : Settings) (goods : List Good) (bidder : Bidder) where
  abbrev pub here : (n number : ℕ) (spot : Spot) (bounds : Bounds) (regret : ℤ) (x y : NodeSet) (prices : Prices) (judged : List Judged) (cut : Fraction) → AuditState
  here n number spot bounds regret x y prices judged cut = at settings goods bidder n number spot bounds regret x y prices judged cut

  -- ---- the closing

  inv_end : (n number : ℕ) (bounds : Bounds) (a : ℤ) (x y : NodeSet) (p : Prices) (js : List Judged) (cut : Fraction) (lines : List StatementLine) → Audited (here n number at_end bounds a x y p js cut) lines None → lines ≡ ended ∷ []
  inv_end n number bounds a x y p js cut [] (passes e) = absurd cc
  inv_end n number bounds a x y p js cut (ended ∷ []) (goes_on none holds is later) = refl
  inv_end n number bounds a x y p js cut (ended ∷ l ∷ rest) (goes_on {after = after} none holds is later) = over (on after (here (suc n) number done bounds a x y p js cut) (l ∷ rest) is later)
    where
      over : Audited (here (suc n) number done bounds a x y p js cut) (l ∷ rest) None → ended ∷ l ∷ rest ≡ ended ∷ []
      over (goes_on none holds is later) = absurd (none rule.Order refl)
  inv_end n number bounds a x y p js cut (other ∷ rest) (goes_on {after = after} none holds is later) = absurd (none-some after is)

  -- the payment of this bidder
  record Paid (bounds : Bounds) (x : NodeSet) (cut : Fraction) (lines : List StatementLine) : Type 0 where
    payment : Payment
    lines_is : lines ≡ shown (payment_record payment) ∷ ended ∷ []
    name : payment.name ≡ bidder.name
    vickrey : IsEmpty x → payment.vickrey ≡ pos 0
    discount : Equals payment.discount (discount_at_cut cut payment.vickrey)
    equal : Equals payment.payment (minus (whole_number (value x bounds.lo)) payment.discount)

  inv_payment : (n number : ℕ) (bounds : Bounds) (a : ℤ) (x y : NodeSet) (p : Prices) (js : List Judged) (cut : Fraction) (lines : List StatementLine) → Audited (here n number at_payment bounds a x y p js cut) lines None → Paid bounds x cut lines
  inv_payment n number bounds a x y p js cut [] (passes e) = absurd cc
  inv_payment n number bounds a x y p js cut (shown (line.payment name v d q) ∷ rest) (goes_on {after = after} none holds is later) = by (bytes_eq bidder.name name) refl is
    where
      stated : Payment
      stated = record { name = name; vickrey = v; discount = d; payment = q }

      by : (t : Bool) → bytes_eq bidder.name name ≡ t → option_map (λ (s : AuditState). record s { line = suc n }) (cond t (Some (here n number at_end bounds a x y p js cut)) None) ≡ Some after
          → Paid bounds x cut (shown (line.payment name v d q) ∷ rest)
      by true e f = record {
        payment = record { name = name; vickrey = v; discount = d; payment = q };
        lines_is = ap (λ (ls : List StatementLine). shown (line.payment name v d q) ∷ ls) (inv_end (suc n) number bounds a x y p js cut rest (on after (here (suc n) number at_end bounds a x y p js cut) rest f later));
        name = sym (same-bytes_eq bidder.name name e);
        vickrey = λ empty. same_z v (pos 0) (λ no. none rule.Payment (λ own. no (own.vickrey empty)));
        discount = covered true _ _ (λ no. none rule.Payment (λ own. no own.discount));
        equal = covered true _ _ (λ no. none rule.Payment (λ own. no own.payment));
      }
      by false e f = absurd (none-some after f)
  inv_payment n number bounds a x y p js cut (named name ∷ rest) (goes_on {after = after} none holds is later) = absurd (none-some after is)
  inv_payment n number bounds a x y p js cut (kept k ∷ rest) (goes_on {after = after} none holds is later) = absurd (none-some after is)
  inv_payment n number bounds a x y p js cut (offered k ∷ rest) (goes_on {after = after} none holds is later) = absurd (none-some after is)
  inv_payment n number bounds a x y p js cut (ended ∷ rest) (goes_on {after = after} none holds is later) = absurd (none-some after is)
  inv_payment n number bounds a x y p js cut (shown other ∷ rest) (goes_on {after = after} none holds is later) = absurd (none-some after is)

  record Charged (bounds : Bounds) (x : NodeSet) (lines : List StatementLine) : Type 0 where
    cut : Fraction
    surplus : Fraction
    payment : Payment
    lines_is : lines ≡ shown (line.threshold cut surplus) ∷ shown (payment_record payment) ∷ ended ∷ []
    low : AtMost (whole_number (pos 0)) cut
    left : AtMost (whole_number (pos 0)) surplus
    name : payment.name ≡ bidder.name
    vickrey : IsEmpty x → payment.vickrey ≡ pos 0
    discount : Equals payment.discount (discount_at_cut cut payment.vickrey)
    equal : Equals payment.payment (minus (whole_number (value x bounds.lo)) payment.discount)

  inv_threshold : (n number : ℕ) (bounds : Bounds) (a : ℤ) (x y : NodeSet) (p : Prices) (js : List Judged) (cut : Fraction) (lines : List StatementLine) → Audited (here n number at_threshold bounds a x y p js cut) lines None → Charged bounds x lines
  inv_threshold n number bounds a x y p js cut [] (passes e) = absurd cc
  inv_threshold n number bounds a x y p js cut (shown (line.threshold c s) ∷ rest) (goes_on {after = after} none holds is later) = by (is_from_0 c && is_from_0 s) refl is
    where
      by : (t : Bool) → (is_from_0 c && is_from_0 s) ≡ t → option_map (λ (st : AuditState). record st { line = suc n }) (cond t (Some (here n number at_payment bounds a x y p js c)) None) ≡ Some after
          → Charged bounds x (shown (line.threshold c s) ∷ rest)
      by true e f =
          let paid = inv_payment (suc n) number bounds a x y p js c rest (on after (here (suc n) number at_payment bounds a x y p js c) rest f later) in
          record {
            cut = c;
            surplus = s;
            payment = paid.payment;
            lines_is = ap (λ (ls : List StatementLine). shown (line.threshold c s) ∷ ls) paid.lines_is;
            low = from_0 c (and_parts (is_from_0 c) (is_from_0 s) e).0;
            left = from_0 s (and_parts (is_from_0 c) (is_from_0 s) e).1;
            name = paid.name;
            vickrey = paid.vickrey;
            discount = paid.discount;
            equal = paid.equal;
          }
      by false e f = absurd (none-some after f)
  inv_threshold n number bounds a x y p js cut (named name ∷ rest) (goes_on {after = after} none holds is later) = absurd (none-some after is)
  inv_threshold n number bounds a x y p js cut (kept k ∷ rest) (goes_on {after = after} none holds is later) = absurd (none-some after is)
  inv_threshold n number bounds a x y p js cut (offered k ∷ rest) (goes_on {after = after} none holds is later) = absurd (none-some after is)
  inv_threshold n number bounds a x y p js cut (ended ∷ rest) (goes_on {after = after} none holds is later) = absurd (none-some after is)
  inv_threshold n number bounds a x y p js cut (shown other ∷ rest) (goes_on {after = after} none holds is later) = absurd (none-some after is)

  -- ---- settlements

  pub record Settled (number : ℕ) (bounds : Bounds) (lines : List StatementLine) : Type 0 where
    pub going : List OwnStep
    pub closed : OwnClosed
    pub lines_is : lines ≡ behind number going closed
    pub right : IsOwnFrom settings (length goods) bidder number bounds going closed

  -- what is behind a settlement's number, in so many lines at most
  abbrev pub Later : ℕ → ℕ → Type 0
  Later k number = (m : ℕ) (bounds : Bounds) (a : ℤ) (x y : NodeSet) (p : Prices) (cut : Fraction) (rest : List StatementLine) → length rest ≤ k → Audited (here m number at_regret bounds a x y p [] cut) rest None → Settled number bounds rest

  abbrev standing : Bounds → NodeSet → Standing
  standing bounds set = record { name = bidder.name; tree = bidder.tree; bounds = bounds; set = set }

  record Rounded (number : ℕ) (bounds : Bounds) (y : NodeSet) (p : Prices) (past : List Judged) (lines : List StatementLine) : Type 0 where
    todo : List Judged
    going : List OwnStep
    closed : OwnClosed
    lines_is : lines ≡ map shown (flat_map judged_records todo) ++ lines_from (suc number) going closed
    names : AllByRecursion (λ j. j.submission.name ≡ bidder.name) todo
    judges : JudgesInOrder p settings.improve (standing bounds y) (list_any is_accepted past) todo
    right : IsOwnFrom settings (length goods) bidder (suc number) (bounds_after bounds (past ++ todo)) going closed

  -- one pair more before the rest of a round
  with_pair : (number : ℕ) (bounds : Bounds) (y : NodeSet) (p : Prices) (past : List Judged) (s : Submission) (v : Verdict) (rest : List StatementLine) → s.name ≡ bidder.name → IsVerdict p settings.improve (standing bounds y) (list_any is_accepted past) s v
      → Rounded number bounds y p (past ++ record { submission = s; verdict = v } ∷ []) rest → Rounded number bounds y p past (shown (line.submit s) ∷ shown (line.verdict v) ∷ rest)
  with_pair number bounds y p past s v rest name verdict r = record {
    todo = record { submission = s; verdict = v } ∷ r.todo;
    going = r.going;
    closed = r.closed;
    lines_is = ap (λ (ls : List StatementLine). shown (line.submit s) ∷ shown (line.verdict v) ∷ ls) r.lines_is
        ∙ ap (λ (rs : List Record). map shown rs ++ lines_from (suc number) r.going r.closed) (sym (flat_map-cons judged_records (record { submission = s; verdict = v }) r.todo));
    names = (name, r.names);
    judges = (verdict, subst (λ (b : Bool). JudgesInOrder p settings.improve (standing bounds y) b r.todo) (taken_push past (record { submission = s; verdict = v })) r.judges);
    right = subst (λ (js : List Judged). IsOwnFrom settings (length goods) bidder (suc number) (bounds_after bounds js) r.going r.closed) (append_assoc past (record { submission = s; verdict = v } ∷ []) r.todo) r.right;
  }

  inv_round : (k n number : ℕ) (bounds : Bounds) (a : ℤ) (x y : NodeSet) (p : Prices) (past : List Judged) (cut : Fraction) (lines : List StatementLine) → Later k (suc number) → length lines ≤ k
      → Audited (here n number at_round bounds a x y p past cut) lines None → Rounded number bounds y p past lines
  inv_round k n number bounds a x y p past cut [] later few (passes e) = absurd cc
  inv_round k n number bounds a x y p past cut (shown (line.submit s) ∷ []) later few (goes_on {after = after} none holds is t) = by (bytes_eq bidder.name s.name) is
    where
      alone : Audited (here (suc n) number (at_verdict s) bounds a x y p past cut) [] None → ⊥
      alone (passes e) = cc

      by : (b : Bool) → option_map (λ (st : AuditState). record st { line = suc n }) (cond b (Some (here n number (at_verdict s) bounds a x y p past cut)) None) ≡ Some after → Rounded number bounds y p past (shown (line.submit s) ∷ [])
      by true f = absurd (alone (on after (here (suc n) number (at_verdict s) bounds a x y p past cut) [] f t))
      by false f = absurd (none-some after f)
  inv_round k n number bounds a x y p past cut (shown (line.submit s) ∷ l ∷ rest) later few (goes_on {after = after} none holds is t) =
      by (bytes_eq bidder.name s.name) refl is (λ v d. inv_round k (suc (suc n)) number bounds a x y p (past ++ record { submission = s; verdict = v } ∷ []) cut rest later (omega (arith, few)) d)
    where
      second : (m : StatementLine) → s.name ≡ bidder.name → Audited (here (suc n) number (at_verdict s) bounds a x y p past cut) (m ∷ rest) None
          → ((v : Verdict) → Audited (here (suc (suc n)) number at_round bounds a x y p (past ++ record { submission = s; verdict = v } ∷ []) cut) rest None → Rounded number bounds y p (past ++ record { submission = s; verdict = v } ∷ []) rest)
          → Rounded number bounds y p past (shown (line.submit s) ∷ m ∷ rest)
      second (shown (line.verdict v)) name (goes_on {after = behind_it} none2 holds2 is2 t2) more =
          with_pair number bounds y p past s v rest name holds2 (more v (on behind_it (here (suc (suc n)) number at_round bounds a x y p (past ++ record { submission = s; verdict = v } ∷ []) cut) rest is2 t2))
      second (named z) name (goes_on {after = behind_it} none2 holds2 is2 t2) more = absurd (none-some behind_it is2)
      second (kept z) name (goes_on {after = behind_it} none2 holds2 is2 t2) more = absurd (none-some behind_it is2)
      second (offered z) name (goes_on {after = behind_it} none2 holds2 is2 t2) more = absurd (none-some behind_it is2)
      second ended name (goes_on {after = behind_it} none2 holds2 is2 t2) more = absurd (none-some behind_it is2)
      second (shown other) name (goes_on {after = behind_it} none2 holds2 is2 t2) more = absurd (none-some behind_it is2)

      by : (b : Bool) → bytes_eq bidder.name s.name ≡ b → option_map (λ (st : AuditState). record st { line = suc n }) (cond b (Some (here n number (at_verdict s) bounds a x y p past cut)) None) ≡ Some after
          → ((v : Verdict) → Audited (here (suc (suc n)) number at_round bounds a x y p (past ++ record { submission = s; verdict = v } ∷ []) cut) rest None → Rounded number bounds y p (past ++ record { submission = s; verdict = v } ∷ []) rest)
          → Rounded number bounds y p past (shown (line.submit s) ∷ l ∷ rest)
      by true e f more = second l (sym (same-bytes_eq bidder.name s.name e)) (on after (here (suc n) number (at_verdict s) bounds a x y p past cut) (l ∷ rest) f t) more
      by false e f more = absurd (none-some after f)
  inv_round k n number bounds a x y p past cut (shown (line.settle m) ∷ rest) later few (goes_on {after = after} none holds is t) = by (eqb m (suc number)) refl is
    where
      by : (b : Bool) → eqb m (suc number) ≡ b → option_map (λ (st : AuditState). record st { line = suc n }) (cond b (Some (here n (suc number) at_regret (bounds_after bounds past) a x y p [] cut)) None) ≡ Some after
          → Rounded number bounds y p past (shown (line.settle m) ∷ rest)
      by true e f =
          let same : m ≡ suc number = eqb-true m (suc number) e in
          let d : Audited (here (suc n) (suc number) at_regret (bounds_after bounds past) a x y p [] cut) rest None = on after (here (suc n) (suc number) at_regret (bounds_after bounds past) a x y p [] cut) rest f t in
          let r = later (suc n) (bounds_after bounds past) a x y p cut rest (omega (arith, few)) d in
          record {
            todo = [];
            going = r.going;
            closed = r.closed;
            lines_is = ap (λ (i : ℕ). shown (line.settle i) ∷ rest) same ∙ ap (λ (ls : List StatementLine). shown (line.settle (suc number)) ∷ ls) r.lines_is ∙ sym (lines_are (suc number) r.going r.closed);
            names = tt;
            judges = tt;
            right = subst (λ (js : List Judged). IsOwnFrom settings (length goods) bidder (suc number) (bounds_after bounds js) r.going r.closed) (sym (append-nil past)) r.right;
          }
      by false e f = absurd (none-some after f)
  inv_round k n number bounds a x y p past cut (named z ∷ rest) later few (goes_on {after = after} none holds is t) = absurd (none-some after is)
  inv_round k n number bounds a x y p past cut (kept z ∷ rest) later few (goes_on {after = after} none holds is t) = absurd (none-some after is)
  inv_round k n number bounds a x y p past cut (offered z ∷ rest) later few (goes_on {after = after} none holds is t) = absurd (none-some after is)
  inv_round k n number bounds a x y p past cut (ended ∷ rest) later few (goes_on {after = after} none holds is t) = absurd (none-some after is)
  inv_round k n number bounds a x y p past cut (shown other ∷ rest) later few (goes_on {after = after} none holds is t) = absurd (none-some after is)

  record Priced (number : ℕ) (bounds : Bounds) (y : NodeSet) (lines : List StatementLine) : Type 0 where
    prices : Prices
    rest : List StatementLine
    lines_is : lines ≡ shown (line.prices prices) ∷ rest
    lawful : AreOwnPrices (length goods) settings.cap prices
    round : Rounded number bounds y prices [] rest

  inv_prices : (k n number : ℕ) (bounds : Bounds) (a : ℤ) (x y : NodeSet) (p : Prices) (cut : Fraction) (lines : List StatementLine) → Later k (suc number) → length lines ≤ k
      → Audited (here n number at_prices bounds a x y p [] cut) lines None → Priced number bounds y lines
  inv_prices k n number bounds a x y p cut [] later few (passes e) = absurd cc
  inv_prices k n number bounds a x y p cut (shown (line.prices q) ∷ rest) later few (goes_on {after = after} none holds is t) = by (eqb (length q.nums) (length goods)) refl is
    where
      by : (b : Bool) → eqb (length q.nums) (length goods) ≡ b
          → option_map (λ (st : AuditState). record st { line = suc n }) (option_map (λ (r : Prices). here n number at_round bounds a x y r [] cut) (cond b (Some q) None)) ≡ Some after → Priced number bounds y (shown (line.prices q) ∷ rest)
      by true e f = record {
        prices = q;
        rest = rest;
        lines_is = refl;
        lawful = record {
          count = eqb-true (length q.nums) (length goods) e;
          high = λ g l. by_lt_z (settings.cap *ℤ pos q.den) (price_of q g) (λ above. absurd (fine (inl (g, l, above)))) (λ le. le);
          lowest = λ common. fine (inr common);
        };
        round = inv_round k (suc n) number bounds a x y q [] cut rest later (omega (arith, few)) (on after (here (suc n) number at_round bounds a x y q [] cut) rest f t);
      }
        where
          fine : ¬ (((g : ℕ) × (g < length goods) × ((settings.cap *ℤ pos q.den) <ℤ price_of q g)) ⊎ HasCommonDivisor q)
          fine h = none rule.Prices (subst (λ (b : Bool). IsSomeAnd (cond b (Some q) None) (AreUnlawful (here n number at_prices bounds a x y p [] cut))) (sym e) h)
      by false e f = absurd (none-some after f)
  inv_prices k n number bounds a x y p cut (named z ∷ rest) later few (goes_on {after = after} none holds is t) = absurd (none-some after is)
  inv_prices k n number bounds a x y p cut (kept z ∷ rest) later few (goes_on {after = after} none holds is t) = absurd (none-some after is)
  inv_prices k n number bounds a x y p cut (offered z ∷ rest) later few (goes_on {after = after} none holds is t) = absurd (none-some after is)
  inv_prices k n number bounds a x y p cut (ended ∷ rest) later few (goes_on {after = after} none holds is t) = absurd (none-some after is)
  inv_prices k n number bounds a x y p cut (shown other ∷ rest) later few (goes_on {after = after} none holds is t) = absurd (none-some after is)

  record Offered (number : ℕ) (bounds : Bounds) (lines : List StatementLine) : Type 0 where
    set : NodeSet
    rest : List StatementLine
    lines_is : lines ≡ offered set ∷ rest
    sat : IsSatisfied bidder.tree set
    priced : Priced number bounds set rest

  faultless : (s : AuditState) (l : StatementLine) (x : NodeSet) → ¬ (set_fault bidder.tree x ≡ Some Parent) → ¬ (set_fault bidder.tree x ≡ Some Few) → ¬ (set_fault bidder.tree x ≡ Some Many) → (k : SatRule) → ¬ (set_fault bidder.tree x ≡ Some k)
  faultless s l x no_parent no_few no_many Parent = no_parent
  faultless s l x no_parent no_few no_many Few = no_few
  faultless s l x no_parent no_few no_many Many = no_many

  inv_offered : (k n number : ℕ) (bounds : Bounds) (a : ℤ) (x y : NodeSet) (p : Prices) (cut : Fraction) (lines : List StatementLine) → Later k (suc number) → length lines ≤ k
      → Audited (here n number at_offered bounds a x y p [] cut) lines None → Offered number bounds lines
  inv_offered k n number bounds a x y p cut [] later few (passes e) = absurd cc
  inv_offered k n number bounds a x y p cut (offered o ∷ rest) later few (goes_on {after = after} none holds is t) = record {
    set = o;
    rest = rest;
    lines_is = refl;
    sat = sat_of bidder o (none rule.Count) (faultless (here n number at_offered bounds a x y p [] cut) (offered o) o (none rule.Parent) (none rule.Few) (none rule.Many));
    priced = inv_prices k (suc n) number bounds a x o p cut rest later (omega (arith, few)) (on after (here (suc n) number at_prices bounds a x o p [] cut) rest is t);
  }
  inv_offered k n number bounds a x y p cut (named z ∷ rest) later few (goes_on {after = after} none holds is t) = absurd (none-some after is)
  inv_offered k n number bounds a x y p cut (kept z ∷ rest) later few (goes_on {after = after} none holds is t) = absurd (none-some after is)
  inv_offered k n number bounds a x y p cut (ended ∷ rest) later few (goes_on {after = after} none holds is t) = absurd (none-some after is)
  inv_offered k n number bounds a x y p cut (shown r ∷ rest) later few (goes_on {after = after} none holds is t) = absurd (none-some after is)

  -- behind the regret
  inv_kept : (k n number : ℕ) (bounds : Bounds) (a : ℤ) (x y : NodeSet) (p : Prices) (cut : Fraction) (lines : List StatementLine) → Later k (suc number) → length lines ≤ k
      → Audited (here n number at_kept bounds a x y p [] cut) lines None → Settled number bounds (shown (line.regret a) ∷ lines)
  inv_kept k n number bounds a x y p cut [] later few (passes e) = absurd cc
  inv_kept k n number bounds a x y p cut (kept s ∷ rest) later few (goes_on {after = after} none holds is t) = by (closes settings number a) refl is
    where
      sat : IsSatisfied bidder.tree s
      sat = sat_of bidder s (none rule.Count) (faultless (here n number at_kept bounds a x y p [] cut) (kept s) s (none rule.Parent) (none rule.Few) (none rule.Many))

      by : (b : Bool) → closes settings number a ≡ b → Some (here (suc n) number (cond b at_threshold at_offered) bounds a s y p [] cut) ≡ Some after → Settled number bounds (shown (line.regret a) ∷ kept s ∷ rest)
      by true e f =
          let c = inv_threshold (suc n) number bounds a s y p [] cut rest (on after (here (suc n) number at_threshold bounds a s y p [] cut) rest f t) in
          record {
            going = [];
            closed = record { regret = a; kept = s; cut = c.cut; surplus = c.surplus; payment = c.payment };
            lines_is = ap (λ (ls : List StatementLine). shown (line.regret a) ∷ kept s ∷ ls) c.lines_is;
            right = (e, record { kept = sat; cut = c.low; surplus = c.left; name = c.name; vickrey = c.vickrey; discount = c.discount; payment = c.equal });
          }
      by false e f =
          let o = inv_offered k (suc n) number bounds a s y p cut rest later (omega (arith, few)) (on after (here (suc n) number at_offered bounds a s y p [] cut) rest f t) in
          let q = o.priced in
          let r = q.round in
          record {
            going = record { regret = a; kept = s; offered = o.set; prices = q.prices; judged = r.todo } ∷ r.going;
            closed = r.closed;
            lines_is = ap (λ (ls : List StatementLine). shown (line.regret a) ∷ kept s ∷ ls) o.lines_is ∙ ap (λ (ls : List StatementLine). shown (line.regret a) ∷ kept s ∷ offered o.set ∷ ls) q.lines_is
                ∙ ap (λ (ls : List StatementLine). shown (line.regret a) ∷ kept s ∷ offered o.set ∷ shown (line.prices q.prices) ∷ ls) r.lines_is;
            right = (e, record { kept = sat; offered = o.sat; prices = q.lawful; names = r.names; round = r.judges }, r.right);
          }
  inv_kept k n number bounds a x y p cut (named z ∷ rest) later few (goes_on {after = after} none holds is t) = absurd (none-some after is)
  inv_kept k n number bounds a x y p cut (offered z ∷ rest) later few (goes_on {after = after} none holds is t) = absurd (none-some after is)
  inv_kept k n number bounds a x y p cut (ended ∷ rest) later few (goes_on {after = after} none holds is t) = absurd (none-some after is)
  inv_kept k n number bounds a x y p cut (shown r ∷ rest) later few (goes_on {after = after} none holds is t) = absurd (none-some after is)

  pub inv_settled : (k number : ℕ) → Later k number
  inv_settled k number m bounds a x y p cut [] few (passes e) = absurd cc
  inv_settled zero number m bounds a x y p cut (l ∷ rest) few t = absurd (omega (arith, few))
  inv_settled (suc k) number m bounds a x y p cut (shown (line.regret b) ∷ rest) few (goes_on {after = after} none holds is t) =
      inv_kept k (suc m) number bounds b x y p cut rest (inv_settled k (suc number)) (omega (arith, few)) (on after (here (suc m) number at_kept bounds b x y p [] cut) rest is t)
  inv_settled (suc k) number m bounds a x y p cut (named z ∷ rest) few (goes_on {after = after} none holds is t) = absurd (none-some after is)
  inv_settled (suc k) number m bounds a x y p cut (kept z ∷ rest) few (goes_on {after = after} none holds is t) = absurd (none-some after is)
  inv_settled (suc k) number m bounds a x y p cut (offered z ∷ rest) few (goes_on {after = after} none holds is t) = absurd (none-some after is)
  inv_settled (suc k) number m bounds a x y p cut (ended ∷ rest) few (goes_on {after = after} none holds is t) = absurd (none-some after is)
  inv_settled (suc k) number m bounds a x y p cut (shown other ∷ rest) few (goes_on {after = after} none holds is t) = absurd (none-some after is)
