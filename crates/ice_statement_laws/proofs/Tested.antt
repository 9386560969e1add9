-- What the tests of a journal say of its prices and its
-- discounts, beyond that its session is right.
use Rattle.std.proofs.Common.{◌≡◌, ℕ, suc, Bool, true, false, cond, eqb, List, [], ◌∷◌, ◌++◌, map, length, drop, ℤ, pos, refl, sym, ◌∙◌, ap, subst, append_assoc, inr}
use Rattle.std.specs.Prelude.{if◌then◌else◌, ◌==◌, Option, Some, None, option_map, IsSomeAnd, slice_index_or}
use Rattle.std.specs.List.{flat_map, AllByRecursion}
use Rattle.std.specs.Str.{bytes_eq}
use Rattle.std.proofs.lemmas.Option.{none-some, same_Some}
use Rattle.ice_defs.specs.Bound.{Multipliers}
use Rattle.ice_defs.specs.Steps.{Step, sides_after}
use Rattle.ice_defs.specs.Prices.{Prices}
use Rattle.ice_defs.specs.Rows.{HasCommonDivisor}
use Rattle.ice_defs.specs.Fraction.{Fraction, Equals}
use Rattle.ice_defs.specs.Cut.{discount_at_cut}
use Rattle.ice_defs.specs.Exchange.{names_of}
use Rattle.ice_defs.specs.Session.{Going, Payment, Closed, Session}
use Rattle.ice_defs.specs.declared.Group.TheVariants.{Assign, Final, Rival, Provisional, Without}
use Rattle.ice_defs.proofs.Lists.{all-first, all-last}
use Rattle.ice_journal.specs.Records.{Record, Version, version_1, version_2, Kind, assign_kind, regret_kind, session_kind, exchange_kind, prices_kind, Change, closed_end, spent_end}
use Rattle.ice_journal.specs.Records as line
use Rattle.ice_journal.specs.Ranges.{IsRecord}
use Rattle.ice_journal.specs.Plain.{after_changes, all_zero, goods_in, plain_records, plain}
use Rattle.ice_section.specs.Section.{may_end}
use Rattle.ice_section.specs.Described.{section_records}
use Rattle.ice_journal_laws.specs.declared.rule.Rule.{Rule}
use Rattle.ice_journal_laws.specs.declared.rule.Rule.TheVariants as rule
use Rattle.ice_journal_laws.specs.Fields.{step_in, multipliers_after}
use Rattle.ice_journal_laws.specs.State.{Place, at_section, at_group, at_log, at_prices, at_accuracy, at_threshold, at_payment, at_spent_log, at_pool, at_end, State, begun, exchange_at, goods_at}
use Rattle.ice_journal_laws.specs.Next.{next, next_at, go_to, to_line, if_true, or_stop, open_after, after_step, bidder_count, after_section, past_section}
use Rattle.ice_journal_laws.specs.Tests.{Fails, HasUnlawfulPrices, IsOtherPayment, AreUnlawful, vickreys}
use Rattle.ice_journal_laws.specs.Checks.{Checks}
use Rattle.ice_journal_laws.specs.Theorems.{Says}
use Rattle.ice_journal_laws.specs.Written.{proved_records, regret_records, row_record, judged_records, opening_records, going_records, without_records, payment_record, closed_records, settlement_records, session_records}
use Rattle.ice_journal_laws.specs.Progress.{passing, passes_on, fails_at, list_fails_at, Leads, goes}
use Rattle.ice_journal_laws.proofs.Leading.{failed_passes}
use Rattle.ice_journal_laws.proofs.Heads.{tested_leads}
use Rattle.ice_journal_laws.proofs.Faultless.{covered}
use Rattle.ice_statement_laws.specs.Parts.{IsStated}

-- ---- prices, the cut and payments stand nowhere else

-- a record that no section, no group and no log takes
pub data IsLate : Record → Type 0 where
  of_prices : {p : Prices} → IsLate (line.prices p)
  of_threshold : {cut surplus : Fraction} → IsLate (line.threshold cut surplus)
  of_payment : {p : Payment} → IsLate (payment_record p)

late_after : (b : Bool) (s : State) (kind : Kind) (r : Record) → IsLate r → cond b (after_section s kind r) None ≡ None
late_after false s kind r late = refl
late_after true s assign_kind r of_prices = refl
late_after true s assign_kind r of_threshold = refl
late_after true s assign_kind r of_payment = refl
late_after true s regret_kind r of_prices = refl
late_after true s regret_kind r of_threshold = refl
late_after true s regret_kind r of_payment = refl
late_after true s session_kind r of_prices = refl
late_after true s session_kind r of_threshold = refl
late_after true s session_kind r of_payment = refl
late_after true s exchange_kind r late = refl
late_after true s prices_kind r late = refl

late_step : (version : Version) (goods : ℕ) (m : Multipliers) (r : Record) → IsLate r → step_in version goods m r ≡ None
late_step version_1 goods m r of_prices = refl
late_step version_1 goods m r of_threshold = refl
late_step version_1 goods m r of_payment = refl
late_step version_2 goods m r of_prices = refl
late_step version_2 goods m r of_threshold = refl
late_step version_2 goods m r of_payment = refl

-- prices that may stand somewhere, and pass their test, are in lowest terms
prices_next : (s : State) (place : Place) (p : Prices) (after : State) → option_map (to_line (suc s.line)) (next_at s place (line.prices p)) ≡ Some after → ¬ HasUnlawfulPrices place s (line.prices p) → ¬ HasCommonDivisor p
prices_next s at_section p after e fine =
    absurd (none-some after (sym (ap (option_map (to_line (suc s.line))) (late_after (may_end s.section) (past_section s) s.kind (line.prices p) of_prices)) ∙ e))
prices_next s (at_group Assign) p after e fine = absurd (none-some after e)
prices_next s (at_group Final) p after e fine = absurd (none-some after e)
prices_next s (at_group Rival) p after e fine = absurd (none-some after e)
prices_next s (at_group Provisional) p after e fine = absurd (none-some after e)
prices_next s (at_group (Without b)) p after e fine = absurd (none-some after e)
prices_next s (at_log g found sides m) p after e fine =
    absurd (none-some after (sym (ap (λ (o : Option Step). option_map (to_line (suc s.line)) (option_map (λ x. after_step s g found (sides_after sides x) (multipliers_after m x)) o)) (late_step s.version (goods_at s) m (line.prices p) of_prices)) ∙ e))
prices_next s (at_spent_log open_sides) p after e fine =
    absurd (none-some after (sym (ap (λ (o : Option Step). option_map (to_line (suc s.line)) (option_map (λ x. go_to (if open_after x open_sides == 0 then at_end spent_end else at_spent_log (open_after x open_sides)) s) o)) (late_step s.version (goods_at s) (all_zero (goods_at s)) (line.prices p) of_prices)) ∙ e))
prices_next s at_prices p after e fine = by (eqb (length p.nums) (goods_at s)) refl
  where
    by : (b : Bool) → eqb (length p.nums) (goods_at s) ≡ b → ¬ HasCommonDivisor p
    by true f common = fine (subst (λ (b : Bool). IsSomeAnd (cond b (Some p) None) (AreUnlawful s)) (sym f) (inr common))
    by false f common =
        none-some after (sym (ap (λ (b : Bool). option_map (to_line (suc s.line)) (or_stop false (go_to at_pool s) (option_map (λ q. go_to at_accuracy (record s { prices = q })) (cond b (Some p) None)))) f) ∙ e)
prices_next s other p after e fine = absurd (none-some after e)

-- behind the cut it is the state's
threshold_next : (s : State) (place : Place) (cut surplus : Fraction) (after : State) → option_map (to_line (suc s.line)) (next_at s place (line.threshold cut surplus)) ≡ Some after → after.cut ≡ cut
threshold_next s at_section cut surplus after e =
    absurd (none-some after (sym (ap (option_map (to_line (suc s.line))) (late_after (may_end s.section) (past_section s) s.kind (line.threshold cut surplus) of_threshold)) ∙ e))
threshold_next s (at_group Assign) cut surplus after e = absurd (none-some after e)
threshold_next s (at_group Final) cut surplus after e = absurd (none-some after e)
threshold_next s (at_group Rival) cut surplus after e = absurd (none-some after e)
threshold_next s (at_group Provisional) cut surplus after e = absurd (none-some after e)
threshold_next s (at_group (Without b)) cut surplus after e = absurd (none-some after e)
threshold_next s (at_log g found sides m) cut surplus after e =
    absurd (none-some after (sym (ap (λ (o : Option Step). option_map (to_line (suc s.line)) (option_map (λ x. after_step s g found (sides_after sides x) (multipliers_after m x)) o)) (late_step s.version (goods_at s) m (line.threshold cut surplus) of_threshold)) ∙ e))
threshold_next s (at_spent_log open_sides) cut surplus after e =
    absurd (none-some after (sym (ap (λ (o : Option Step). option_map (to_line (suc s.line)) (option_map (λ x. go_to (if open_after x open_sides == 0 then at_end spent_end else at_spent_log (open_after x open_sides)) s) o)) (late_step s.version (goods_at s) (all_zero (goods_at s)) (line.threshold cut surplus) of_threshold)) ∙ e))
threshold_next s at_threshold cut surplus after e = let same : to_line (suc s.line) (go_to (at_payment 0) (record s { cut = cut; surplus = surplus })) ≡ after = same_Some _ _ e in ap (λ (t : State). t.cut) (sym same)
threshold_next s other cut surplus after e = absurd (none-some after e)

-- a payment that passes its test states the discount that the cut leaves, and the cut stays
record IsDiscounted (cut : Fraction) (p : Payment) (after : State) : Type 0 where
  discount : Equals p.discount (discount_at_cut cut p.vickrey)
  same : after.cut ≡ cut

payment_next : (s : State) (place : Place) (p : Payment) (after : State) → option_map (to_line (suc s.line)) (next_at s place (payment_record p)) ≡ Some after → ¬ IsOtherPayment place s (payment_record p) → IsDiscounted s.cut p after
payment_next s at_section p after e fine =
    absurd (none-some after (sym (ap (option_map (to_line (suc s.line))) (late_after (may_end s.section) (past_section s) s.kind (payment_record p) of_payment)) ∙ e))
payment_next s (at_group Assign) p after e fine = absurd (none-some after e)
payment_next s (at_group Final) p after e fine = absurd (none-some after e)
payment_next s (at_group Rival) p after e fine = absurd (none-some after e)
payment_next s (at_group Provisional) p after e fine = absurd (none-some after e)
payment_next s (at_group (Without b)) p after e fine = absurd (none-some after e)
payment_next s (at_log g found sides m) p after e fine =
    absurd (none-some after (sym (ap (λ (o : Option Step). option_map (to_line (suc s.line)) (option_map (λ x. after_step s g found (sides_after sides x) (multipliers_after m x)) o)) (late_step s.version (goods_at s) m (payment_record p) of_payment)) ∙ e))
payment_next s (at_spent_log open_sides) p after e fine =
    absurd (none-some after (sym (ap (λ (o : Option Step). option_map (to_line (suc s.line)) (option_map (λ x. go_to (if open_after x open_sides == 0 then at_end spent_end else at_spent_log (open_after x open_sides)) s) o)) (late_step s.version (goods_at s) (all_zero (goods_at s)) (payment_record p) of_payment)) ∙ e))
payment_next s (at_payment b) p after e fine = record {
  discount = subst (λ (v : ℤ). Equals p.discount (discount_at_cut s.cut v)) (sym vickrey_is) (covered true _ _ (λ no. fine (λ line. no line.discount)));
  same = by (bytes_eq p.name (slice_index_or (names_of (exchange_at s)) b [])) e;
}
  where
    vickrey_is : p.vickrey ≡ slice_index_or (vickreys s) b (pos 0)
    vickrey_is = covered true _ _ (λ no. fine (λ line. no line.vickrey_is))

    by : (t : Bool) → option_map (to_line (suc s.line)) (if_true t (go_to (if suc b == bidder_count s then at_end closed_end else at_payment (suc b)) s)) ≡ Some after → after.cut ≡ s.cut
    by true f = let same : to_line (suc s.line) (go_to (if suc b == bidder_count s then at_end closed_end else at_payment (suc b)) s) ≡ after = same_Some _ _ f in ap (λ (t : State). t.cut) (sym same)
    by false f = absurd (none-some after f)
payment_next s other p after e fine = absurd (none-some after e)

-- ---- a journal and what it says

-- each record says itself, but for a changed leaf
data Said : List Record → List Record → Type 0 where
  nothing : Said [] []
  same : {r : Record} {rs ws : List Record} → Said rs ws → Said (r ∷ rs) (r ∷ ws)
  leafed : {changes : List Change} {step : Step} {rs ws : List Record} → Said rs ws → Said (line.near changes ∷ rs) (line.step step ∷ ws)

itself : (rs : List Record) → Said rs rs
itself [] = nothing
itself (r ∷ rs) = same (itself rs)

plainly : (goods : ℕ) (m : Multipliers) (rs : List Record) → Said rs (plain_records goods m rs)
plainly goods m [] = nothing
plainly goods m (line.near changes ∷ rs) = leafed (plainly goods (after_changes m changes) rs)
plainly goods m (line.step s ∷ rs) = same (plainly goods m rs)
plainly goods m (r ∷ rs) = same (plainly goods (all_zero goods) rs)

-- where these records lead on, and say these
record Leading (t : State) (ws : List Record) : Type 0 where
  state : State
  records : List Record
  leads : Leads (passing state) records (passing t)
  said : Said records ws

module _ (t : State) where
  -- one record
  first_on : (s : State) (rs : List Record) (w : Record) (ws : List Record) → Leads (passing s) rs (passing t) → Said rs (w ∷ ws)
      → (r : Record) × (after : State) × (rest : List Record) × (next s r ≡ Some after) × ((k : Rule) → ¬ Fails k s r) × Leads (passing after) rest (passing t) × Said rest ws × Said (r ∷ []) (w ∷ [])
  first_on s [] w ws l said = elim said [ ]
  first_on s (r ∷ rest) w ws (goes (passes_on {after = after} list none holds is) l) (same more) = (r, after, rest, is, none, l, more, same nothing)
  first_on s (r ∷ rest) w ws (goes (fails_at list f) l) (same more) = absurd (failed_passes _ rest t l)
  first_on s (r ∷ rest) w ws (goes (list_fails_at e n) l) (same more) = absurd (failed_passes _ rest t l)
  first_on s (line.near changes ∷ rest) w ws (goes (passes_on {after = after} list none holds is) l) (leafed more) = (line.near changes, after, rest, is, none, l, more, leafed nothing)
  first_on s (line.near changes ∷ rest) w ws (goes (fails_at list f) l) (leafed more) = absurd (failed_passes _ rest t l)
  first_on s (line.near changes ∷ rest) w ws (goes (list_fails_at e n) l) (leafed more) = absurd (failed_passes _ rest t l)

  -- records before others
  lead_past : (s : State) (rs xs ys : List Record) → Leads (passing s) rs (passing t) → Said rs (xs ++ ys) → Leading t ys
  lead_past s rs [] ys l said = record { state = s; records = rs; leads = l; said = said }
  lead_past s rs (x ∷ xs) ys l said = let (r, after, rest, is, none, l', more, one) = first_on s rs x (xs ++ ys) l said in lead_past after rest xs ys l' more

  -- ---- prices

  abbrev IsLowest : Record → Type 0
  IsLowest (line.prices p) = ¬ HasCommonDivisor p
  IsLowest other = Unit {0}

  lowest_one : (s after : State) (r w : Record) → next s r ≡ Some after → ((k : Rule) → ¬ Fails k s r) → Said (r ∷ []) (w ∷ []) → IsLowest w
  lowest_one s after (line.prices p) w is none (same nothing) = prices_next s s.place p after is (none rule.Prices)
  lowest_one s after r w is none (leafed nothing) = tt
  lowest_one s after r w is none (same nothing) = tt

  all_lowest : (s : State) (rs ws : List Record) → Leads (passing s) rs (passing t) → Said rs ws → AllByRecursion IsLowest ws
  all_lowest s rs [] l said = tt
  all_lowest s rs (w ∷ ws) l said =
      let (r, after, rest, is, none, l', more, one) = first_on s rs w ws l said in
      (lowest_one s after r w is none one, all_lowest after rest ws l' more)

  -- ---- payments

  discounted_one : (s after : State) (r : Record) (p : Payment) → next s r ≡ Some after → ((k : Rule) → ¬ Fails k s r) → Said (r ∷ []) (payment_record p ∷ []) → IsDiscounted s.cut p after
  discounted_one s after r p is none (same nothing) = payment_next s s.place p after is (none rule.Payment)

  discounted : (s : State) (rs : List Record) (payments : List Payment) (ws : List Record) → Leads (passing s) rs (passing t) → Said rs (map payment_record payments ++ ws)
      → AllByRecursion (λ (q : Payment). Equals q.discount (discount_at_cut s.cut q.vickrey)) payments
  discounted s rs [] ws l said = tt
  discounted s rs (p ∷ payments) ws l said =
      let (r, after, rest, is, none, l', more, one) = first_on s rs (payment_record p) (map payment_record payments ++ ws) l said in
      let h = discounted_one s after r p is none one in
      (h.discount, subst (λ (c : Fraction). AllByRecursion (λ (q : Payment). Equals q.discount (discount_at_cut c q.vickrey)) payments) h.same (discounted after rest payments ws l' more))

  cut_one : (s after : State) (r : Record) (cut surplus : Fraction) → next s r ≡ Some after → Said (r ∷ []) (line.threshold cut surplus ∷ []) → after.cut ≡ cut
  cut_one s after r cut surplus is (same nothing) = threshold_next s s.place cut surplus after is

  charged : (s : State) (rs : List Record) (cut surplus : Fraction) (payments : List Payment) (ws : List Record) → Leads (passing s) rs (passing t)
      → Said rs (line.threshold cut surplus ∷ (map payment_record payments ++ ws)) → AllByRecursion (λ (q : Payment). Equals q.discount (discount_at_cut cut q.vickrey)) payments
  charged s rs cut surplus payments ws l said =
      let (r, after, rest, is, none, l', more, one) = first_on s rs (line.threshold cut surplus) (map payment_record payments ++ ws) l said in
      subst (λ (c : Fraction). AllByRecursion (λ (q : Payment). Equals q.discount (discount_at_cut c q.vickrey)) payments) (cut_one s after r cut surplus is one) (discounted after rest payments ws l' more)

  -- ---- settlements

  closed_charged : (s : State) (rs : List Record) (number : ℕ) (c : Closed) → Leads (passing s) rs (passing t) → Said rs (closed_records number c)
      → AllByRecursion (λ (q : Payment). Equals q.discount (discount_at_cut c.cut q.vickrey)) c.payments
  closed_charged s rs number c l said =
      let before : List Record = (line.settle number ∷ regret_records c.settlement) ++ without_records 0 c.withouts in
      let on = lead_past s rs before (line.threshold c.cut c.surplus ∷ (map payment_record c.payments ++ line.end closed_end ∷ [])) l
      (subst (Said rs) (append_assoc before (line.threshold c.cut c.surplus ∷ map payment_record c.payments) (line.end closed_end ∷ [])) said) in
      charged on.state on.records c.cut c.surplus c.payments (line.end closed_end ∷ []) on.leads on.said

  all_charged : (s : State) (rs : List Record) (number : ℕ) (going : List Going) (c : Closed) → Leads (passing s) rs (passing t) → Said rs (settlement_records number going c)
      → AllByRecursion (λ (q : Payment). Equals q.discount (discount_at_cut c.cut q.vickrey)) c.payments
  all_charged s rs number [] c l said = closed_charged s rs number c l said
  all_charged s rs number (g ∷ later) c l said =
      let on = lead_past s rs (going_records number g) (settlement_records (suc number) later c) l said in
      all_charged on.state on.records (suc number) later c on.leads on.said

  -- the prices of a settlement
  lowest_going : (number : ℕ) (g : Going) → AllByRecursion IsLowest (going_records number g) → ¬ HasCommonDivisor g.prices
  lowest_going number g all =
      let opening : AllByRecursion IsLowest (opening_records g) = all-last IsLowest (line.settle number ∷ regret_records g.settlement) (opening_records g)
      (all-first IsLowest ((line.settle number ∷ regret_records g.settlement) ++ opening_records g) (flat_map judged_records g.judged) all) in
      let priced = all-last IsLowest (proved_records (line.provisional g.provisional.value) g.provisional) (line.prices g.prices ∷ line.accuracy g.violation g.accuracy.den ∷ map row_record g.accuracy.rows)
      (all-first IsLowest (proved_records (line.provisional g.provisional.value) g.provisional ++ line.prices g.prices ∷ line.accuracy g.violation g.accuracy.den ∷ map row_record g.accuracy.rows)
      (line.balance g.balance.den ∷ map row_record g.balance.rows) opening) in
      priced.0

  lowest_all : (number : ℕ) (going : List Going) (c : Closed) → AllByRecursion IsLowest (settlement_records number going c) → AllByRecursion (λ (g : Going). ¬ HasCommonDivisor g.prices) going
  lowest_all number [] c all = tt
  lowest_all number (g ∷ later) c all = (
    lowest_going number g (all-first IsLowest (going_records number g) (settlement_records (suc number) later c) all),
    lowest_all (suc number) later c (all-last IsLowest (going_records number g) (settlement_records (suc number) later c) all),
  )

  stated_from : (x : Session) (s : State) (rs : List Record) → Leads (passing s) rs (passing t) → Said rs (section_records x.exchange ++ settlement_records 0 x.going x.closed) → IsStated x
  stated_from x s rs l said =
      let on = lead_past s rs (section_records x.exchange) (settlement_records 0 x.going x.closed) l said in
      record {
        prices = lowest_all 0 x.going x.closed (all_lowest on.state on.records (settlement_records 0 x.going x.closed) on.leads on.said);
        discounts = all_charged on.state on.records 0 x.going x.closed on.leads on.said;
      }

-- ---- the whole journal

said_by : (version : Version) (kind : Kind) (rest ws : List Record) → plain (line.head version kind ∷ rest) ≡ line.head version_1 session_kind ∷ ws → Said rest ws
said_by version_1 kind rest ws e = subst (Said rest) (ap (drop 1) e) (itself rest)
said_by version_2 kind rest ws e = subst (Said rest) (ap (drop 1) e) (plainly (goods_in rest) (all_zero (goods_in rest)) rest)

pub checked_is_stated : (journal : List Record) (x : Session) → Checks journal → Says journal (session_records x) → IsStated x
checked_is_stated (line.head version kind ∷ rest) x (checked, tested) says =
    let (t, l, e) = tested_leads (begun version kind) rest tested in
    stated_from t x (begun version kind) rest l (said_by version kind rest (section_records x.exchange ++ settlement_records 0 x.going x.closed) says)
checked_is_stated (other ∷ rest) x (checked, tested) says = absurd checked
checked_is_stated [] x (checked, tested) says = absurd checked

-- ---- the records of a journal are in their ranges

-- but for a step, which may be said by the changes of a leaf
abbrev pub IsShownRecord : Record → Type 0
IsShownRecord (line.step s) = Unit {0}
IsShownRecord other = IsRecord other

shown_record : (r : Record) → IsRecord r → IsShownRecord r
shown_record (line.step s) h = tt
shown_record other h = h

all_shown : (rs ws : List Record) → AllByRecursion IsRecord rs → Said rs ws → AllByRecursion IsShownRecord ws
all_shown [] [] all nothing = tt
all_shown [] (w ∷ ws) all said = elim said [ ]
all_shown (r ∷ rs) [] all said = elim said [ ]
all_shown (r ∷ rs) (w ∷ ws) all (same more) = (shown_record r all.0, all_shown rs ws all.1 more)
all_shown (r ∷ rs) (w ∷ ws) all (leafed more) = (tt, all_shown rs ws all.1 more)

pub settlements_lawful : (journal : List Record) (x : Session) → AllByRecursion IsRecord journal → Checks journal → Says journal (session_records x) → AllByRecursion IsShownRecord (settlement_records 0 x.going x.closed)
settlements_lawful (line.head version kind ∷ rest) x all checks says =
    all-last IsShownRecord (section_records x.exchange) (settlement_records 0 x.going x.closed)
    (all_shown rest (section_records x.exchange ++ settlement_records 0 x.going x.closed) all.1 (said_by version kind rest (section_records x.exchange ++ settlement_records 0 x.going x.closed) says))
settlements_lawful (other ∷ rest) x all checks says = absurd checks.0
settlements_lawful [] x all checks says = absurd checks.0
