-- What the records behind a group make of what is known of a journal: the regret, the offer, the
-- cut, the payments and the end; and what is answered.
use Rattle.std.proofs.Common.{◌≡◌, ◌≢◌, ◌<◌, ◌-ℤ◌, ℕ, suc, Bool, true, false, cond, eqb, [], length, ℤ, pos, refl, sym, ◌∙◌, ap, subst, arith}
use Rattle.std.specs.Prelude.{int_le, Some, None, Result, Ok, Err}
use Rattle.std.proofs.lemmas.Bool.{eqb-false, or_parts, false≢true}
use Rattle.arrayvec.specs.ArrayVec.{ArrayVec}
use Rattle.ice_defs.specs.declared.Group.TheVariants.{Assign, Final, Provisional, Without}
use Rattle.ice_defs.specs.Fraction.{whole_number}
use Rattle.ice_defs.specs.Trade.{Assignment}
use Rattle.ice_defs.specs.Exchange.{Exchange, trees_of, opening_bounds}
use Rattle.ice_defs.specs.Lawful.{IsExchange}
use Rattle.ice_defs.specs.Group.{group_weights}
use Rattle.ice_defs.specs.Session.{closes}
use Rattle.ice_journal.specs.declared.line.Version.{Version}
use Rattle.ice_journal.specs.Records.{Record, EndWord, closed_end, open_end}
use Rattle.ice_journal.specs.Records as line
use Rattle.ice_journal_laws.specs.declared.answer.Answer.{Answer}
use Rattle.ice_journal_laws.specs.declared.rule.Rule.{Rule}
use Rattle.ice_journal_laws.specs.State.{Place, at_group, at_payment, at_end, done, State}
use Rattle.ice_journal_laws.specs.Fields.{Closing, is_end, same_end}
use Rattle.ice_journal_laws.specs.Next.{to_line, go_to}
use Rattle.ice_journal_laws.specs.Assigning.{exchange_state}
use Rattle.ice_journal_laws.specs.Answers.{EndsWith}
use Rattle.ice_journal_laws.specs.Progress.{passing, TakesOn, is_ready_at}
use Rattle.ice_journal_laws.proofs.Settling.{amount_right, ends}
use Rattle.ice_check_charge.specs.declared.due.Due.{Due}
use Rattle.ice_check_charge.specs.Charging.{PassesCut, AwaitsPayment, TakesPayment}
use Rattle.ice_check_offer.specs.declared.offer.Offer.{Offer}
use Rattle.ice_check_offer.specs.declared.place.Place.{Place as RoundPlace}
use Rattle.ice_check_offer.specs.declared.place.CertificateList.TheVariants as lists
use Rattle.ice_check_offer.specs.declared.place.Place.TheVariants as round
use Rattle.ice_check_offer.specs.Offers as offers
use Rattle.ice_check_records.specs.declared.head.Head.{Head}
use Rattle.ice_check_records.specs.declared.head.Head.TheVariants as head
use Rattle.ice_check_records.specs.declared.next.Next.{Next}
use Rattle.ice_check_records.specs.declared.next.Next.TheVariants as coming
use Rattle.ice_check_records.specs.declared.opening.Opening.{Opening}
use Rattle.ice_check_records.specs.declared.opening.Opening.TheVariants.{Sets, Settlement}
use Rattle.ice_check_records.specs.declared.groups.Groups.{Groups}
use Rattle.ice_check_records.specs.declared.log.LogWalk.{LogWalk}
use Rattle.ice_check_records.specs.Heads.{version_of_head, kind_of_head, end_of, HasRegret, IsSession}
use Rattle.ice_check_records.specs.Openings.{Opens, CanOpen, opened_next, opened_value, opened_place}
use Rattle.ice_check_records.specs.Groups.{place_at, known_in, IsOffering, AreKept, HasSettled, IsClosing, IsReady}
use Rattle.ice_check_records.specs.Taking.{Goes, IsTaken, Begins, behind_regret, behind_payment, Pays, AnswersHere, IsAnswer}
use Rattle.ice_check_records.proofs.Knowing.{goes_on}
use Rattle.ice_check_records.proofs.Walks.{few_trees}

-- ---- the regret

module _ (g : Groups) (amount : ℤ) (is : amount ≡ (g.rival -ℤ g.final_value)) (kept : AreKept g) (settled_so : HasSettled g) where
  abbrev With : Head → Next → Groups
  With h now = record g { head = h; regret = amount; next = now }

  abbrev Before : Head → State → State
  Before h s = known_in (record g { head = h }) coming.Amount s

  of_session : (v : Version) (s : State) (closed : Bool)
      → TakesOn (Before (head.Session v) s) (line.regret amount) (passing (to_line (suc s.line) (go_to (cond closed (at_group (Without 0)) (at_group Provisional)) (record (Before (head.Session v) s) { regret = amount }))))
      → Goes (Before (head.Session v) s) (line.regret amount) (With (head.Session v) (behind_regret (head.Session v) closed))
  of_session v s true takes = goes_on (Before (head.Session v) s) s (line.regret amount) (With (head.Session v) (coming.Head (Without 0))) tt takes
  of_session v s false takes = goes_on (Before (head.Session v) s) s (line.regret amount) (With (head.Session v) (coming.Head Provisional)) tt takes

  goes : (h : Head) → HasRegret h → (s : State)
      → Goes (known_in (record g { head = h }) coming.Amount s) (line.regret amount) (record g { head = h; regret = amount; next = behind_regret h (closes g.stated.exchange.settings g.number amount) })
  goes head.Assign has s = absurd has
  goes (head.Regret v) has s = goes_on (Before (head.Regret v) s) s (line.regret amount) (With (head.Regret v) coming.End) tt (amount_right (Before (head.Regret v) s) amount is)
  goes (head.Session v) has s = of_session v s (closes g.stated.exchange.settings g.number amount) (amount_right (Before (head.Session v) s) amount is)

  ready : (h : Head) → HasRegret h → (closed : Bool) → closes g.stated.exchange.settings g.number amount ≡ closed → IsReady (With h (behind_regret h closed)) (behind_regret h closed)
  ready head.Assign has closed e = absurd has
  ready (head.Regret v) has closed e = tt
  ready (head.Session v) has true e = (
    record { of = tt; there = (few_trees g.stated.exchange kept.lawful).0; withouts = ap length settled_so.withouts; round = tt; fresh = settled_so.fresh },
    settled_so.none,
  )
  ready (head.Session v) has false e = (
    record {
      of = tt;
      there = tt;
      withouts = ap length settled_so.withouts;
      round = omega (arith, kept.number, eqb-false g.number g.stated.exchange.settings.rounds (or_parts (int_le amount g.stated.exchange.settings.close_regret) (eqb g.number g.stated.exchange.settings.rounds) e).1);
      fresh = settled_so.fresh;
    },
    settled_so.none,
  )

  pub amount_taken : IsTaken coming.Amount g (line.regret amount) (record g { regret = amount; next = behind_regret g.head (closes g.stated.exchange.settings g.number amount) })
  amount_taken = record {
    goes = λ s quiet. goes g.head settled_so.regret s;
    kept = record { lawful = kept.lawful; walk = kept.walk; room = kept.room; offer = kept.offer; number = kept.number };
    ready = ready g.head settled_so.regret (closes g.stated.exchange.settings g.number amount) refl;
  }

-- ---- the cut and the payments

module _ (g : Groups) (r : Record) (kept : AreKept g) (closing : IsClosing g) where
  pub cut_taken : (c : Closing) → PassesCut g.withouts.items g.final_value r c → IsTaken coming.Threshold g r (record g { charge = c; next = coming.Payment 0 })
  cut_taken c h = record {
    goes = λ s quiet. goes_on (known_in g coming.Threshold s) s r (record g { charge = c; next = coming.Payment 0 }) tt (h (known_in g coming.Threshold s) (record { place = refl; withouts_are = refl; total_is = refl }));
    kept = record { lawful = kept.lawful; walk = kept.walk; room = kept.room; offer = kept.offer; number = kept.number };
    ready = (record { session = closing.session; withouts = closing.withouts; weights = closing.weights }, (few_trees g.stated.exchange kept.lawful).0);
  }

  ends_closed : (h : Head) → IsSession h → closed_end ≡ end_of h
  ends_closed head.Assign is = absurd is
  ends_closed (head.Regret v) is = absurd is
  ends_closed (head.Session v) is = refl

  module _ (b : ℕ) (there : b < length (trees_of g.stated.exchange)) where
    abbrev behind : Bool → Next
    behind last = cond last coming.End (coming.Payment (suc b))

    pays : (s : State) (last : Bool)
        → TakesOn (known_in g (coming.Payment b) s) r (passing (to_line (suc s.line) (go_to (cond last (at_end closed_end) (at_payment (suc b))) (known_in g (coming.Payment b) s))))
        → Goes (known_in g (coming.Payment b) s) r (record g { next = cond last coming.End (coming.Payment (suc b)) })
    pays s true takes =
        goes_on (known_in g (coming.Payment b) s) s r (record g { next = coming.End }) tt
        (subst (λ (word : EndWord). TakesOn (known_in g (coming.Payment b) s) r (passing (to_line (suc s.line) (go_to (at_end word) (known_in g (coming.Payment b) s))))) (ends_closed g.head closing.session) takes)
    pays s false takes = goes_on (known_in g (coming.Payment b) s) s r (record g { next = coming.Payment (suc b) }) tt takes

    ready_behind : (last : Bool) → eqb (suc b) (length (trees_of g.stated.exchange)) ≡ last → IsReady (record g { next = behind last }) (behind last)
    ready_behind true e = tt
    ready_behind false e = (
      record { session = closing.session; withouts = closing.withouts; weights = closing.weights },
      omega (arith, there, eqb-false (suc b) (length (trees_of g.stated.exchange)) e),
    )

    pub payment_taken : Pays b g r (let x : Result (Unit {0}) Rule = Ok tt in x) → IsTaken (coming.Payment b) g r (record g { next = behind_payment (length (trees_of g.stated.exchange)) b })
    payment_taken h = record {
      goes = λ s quiet. pays s (eqb (suc b) (length (trees_of g.stated.exchange))) (h s);
      kept = record { lawful = kept.lawful; walk = kept.walk; room = kept.room; offer = kept.offer; number = kept.number };
      ready = ready_behind (eqb (suc b) (length (trees_of g.stated.exchange))) refl;
    }

-- what is due of the bidder is what is known of each state
pub pays_from : (b : ℕ) (g : Groups) (r : Record) (due : Due) (result : Result (Unit {0}) Rule) → ((s : State) → AwaitsPayment g.charge.cut due b (known_in g (coming.Payment b) s)) → TakesPayment g.charge.cut due r result → Pays b g r result
pays_from b g r due (Ok unit) awaits h = λ s. h b (known_in g (coming.Payment b) s) (awaits s)
pays_from b g r due (Err rule) awaits h = λ s quiet. h b (known_in g (coming.Payment b) s) (awaits s)

-- ---- the end

not_open : (h : Head) → same_end open_end (end_of h) ≡ false
not_open head.Assign = refl
not_open (head.Regret v) = refl
not_open (head.Session v) = refl

pub end_taken : (g : Groups) (r : Record) → AreKept g → is_end (end_of g.head) r ≡ true → IsTaken coming.End g r (record g { next = coming.Nothing })
end_taken g r kept is = record {
  goes = λ s quiet. goes_on (known_in g coming.End s) s r (record g { next = coming.Nothing }) tt (ends (known_in g coming.End s) (end_of g.head) r (not_open g.head) is);
  kept = record { lawful = kept.lawful; walk = kept.walk; room = kept.room; offer = kept.offer; number = kept.number };
  ready = tt;
}

-- ---- the place

abbrev is_done : Place → Bool
is_done done = true
is_done other = false

-- behind the exchange, and not at the end
abbrev IsOpen : Place → Type 0
IsOpen p = (is_ready_at p ≡ true) × (is_done p ≡ false)

open_offer : (ex : Exchange) (o : Offer) (place : RoundPlace) (s : State) → offers.IsAt ex o place s → IsOpen s.place
open_offer ex o round.Prices s at = subst IsOpen (sym at.0) (refl, refl)
open_offer ex o round.Accuracy s at = subst IsOpen (sym at.0) (refl, refl)
open_offer ex o (round.Rows lists.Accuracy) s at = subst IsOpen (sym at.0.place) (refl, refl)
open_offer ex o (round.Rows lists.Balance) s at = subst IsOpen (sym at.0.place) (refl, refl)
open_offer ex o round.Round s at = subst IsOpen (sym at.0) (refl, refl)
open_offer ex o (round.Verdict due) s at = subst IsOpen (sym at.0.place) (refl, refl)

open_at : (g : Groups) (now : Next) (s : State) → now ≢ coming.Nothing → IsOffering g now s → s.place ≡ place_at g now s.place → IsOpen s.place
open_at g (coming.Head group) s more at e = subst IsOpen (sym e) (refl, refl)
open_at g (coming.Set group) s more at e = subst IsOpen (sym e) (refl, refl)
open_at g (coming.Step group) s more at e = subst IsOpen (sym e) (refl, refl)
open_at g coming.Amount s more at e = subst IsOpen (sym e) (refl, refl)
open_at g coming.Offer s more at e = open_offer g.stated.exchange g.offer g.offer.place s at.at
open_at g coming.Threshold s more at e = subst IsOpen (sym e) (refl, refl)
open_at g (coming.Payment b) s more at e = subst IsOpen (sym e) (refl, refl)
open_at g coming.End s more at e = subst IsOpen (sym e) (refl, refl)
open_at g coming.Nothing s more at e = absurd (more refl)

-- ---- the answer

pub none_yet : (g : Groups) → g.next ≢ coming.Nothing → IsAnswer g None
none_yet g more s h at_done = false≢true (sym (open_at g g.next s more h.offer (ap (λ (t : State). t.place) h.known)).1 ∙ ap is_done at_done)

pub answered : (g : Groups) (answer : Answer) → g.next ≡ coming.Nothing → AnswersHere g answer → IsAnswer g (Some answer)
answered g answer e here s h = subst (λ (t : State). EndsWith (passing t) (Ok answer)) (sym (h.known ∙ ap (λ (now : Next). known_in g now s) e)) (here s)

-- ---- the beginning

module _ (h : Head) (ex : Exchange) (sets : Assignment) (offer : Offer) (withouts : ArrayVec ℤ) (charge : Closing) (log : LogWalk) where
  abbrev Made : Opening → Groups
  Made opening = record {
    head = h;
    next = opened_next opening;
    stated = record { exchange = ex; sets = [] };
    value = opened_value opening;
    number = 0;
    final_sets = sets;
    final_value = pos 0;
    rival = pos 0;
    regret = pos 0;
    offer = offer;
    withouts = withouts;
    charge = charge;
    log = log;
  }

  module _ (lawful : IsExchange ex) (kept : AreKept (Made Settlement)) (none : withouts.items ≡ []) (fresh : offers.IsFresh ex offer.judge) (bounds : offer.judge.bounds ≡ opening_bounds ex)
      (cut : charge.cut ≡ whole_number (pos 0)) (surplus : charge.surplus ≡ whole_number (pos 0)) (weights : log.weights ≡ group_weights ex.settings.weight offer.judge.bounds sets Final) where
    pub begins : (opening : Opening) → CanOpen h opening → Begins h ex opening (Made opening)
    begins opening (r, is) = by h opening r is
      where
        by : (h : Head) (opening : Opening) (r : Record) → Opens h r opening → Begins h ex opening (record (Made opening) { head = h })
        by head.Assign (Sets Assign value) r is = record {
          kept = record { lawful = kept.lawful; walk = kept.walk; room = kept.room; offer = kept.offer; number = kept.number };
          ready = (record { of = tt; there = tt; withouts = ap length none; round = tt; fresh = fresh }, (few_trees ex lawful).0, weights);
          stands = λ n. record {
            known = λ i. record (go_to (opened_place (Sets Assign value)) (exchange_state (version_of_head head.Assign) (kind_of_head head.Assign) n ex)) { bounds = sym bounds i; withouts = sym none i; cut = sym cut i; surplus = sym surplus i };
            offer = tt;
          };
        }
        by (head.Regret v) (Sets Final value) r is = record {
          kept = record { lawful = kept.lawful; walk = kept.walk; room = kept.room; offer = kept.offer; number = kept.number };
          ready = (record { of = tt; there = tt; withouts = ap length none; round = tt; fresh = fresh }, (few_trees ex lawful).0, weights);
          stands = λ n. record {
            known = λ i. record (go_to (opened_place (Sets Final value)) (exchange_state (version_of_head (head.Regret v)) (kind_of_head (head.Regret v)) n ex)) { bounds = sym bounds i; withouts = sym none i; cut = sym cut i; surplus = sym surplus i };
            offer = tt;
          };
        }
        by (head.Session v) Settlement r is = record {
          kept = record { lawful = kept.lawful; walk = kept.walk; room = kept.room; offer = kept.offer; number = kept.number };
          ready = (record { of = tt; there = tt; withouts = ap length none; round = tt; fresh = fresh }, refl);
          stands = λ n. record {
            known = λ i. record (go_to (opened_place Settlement) (exchange_state (version_of_head (head.Session v)) (kind_of_head (head.Session v)) n ex)) { bounds = sym bounds i; withouts = sym none i; cut = sym cut i; surplus = sym surplus i };
            offer = tt;
          };
        }
        by h other r is = absurd is
