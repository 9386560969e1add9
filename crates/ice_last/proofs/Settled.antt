-- What is answered where the records of a session end.
use Rattle.std.proofs.Common.{◌≡◌, ℕ, List, length, refl, sym, ◌∙◌, ap, subst}
use Rattle.std.specs.Prelude.{Some, Result, Ok, Err}
use Rattle.std.specs.List.{AllByRecursion}
use Rattle.ice_defs.specs.Fraction.{Fraction}
use Rattle.ice_defs.specs.Bounds.{Bounds}
use Rattle.ice_defs.specs.Trade.{Assignment}
use Rattle.ice_defs.specs.Exchange.{Exchange, trees_of}
use Rattle.ice_journal.specs.Records.{Record, assign_kind, regret_kind, session_kind}
use Rattle.ice_journal.specs.Ranges.{IsRecord, IsFractionField}
use Rattle.ice_journal.specs.Journal.{IsJournal}
use Rattle.ice_journal_laws.specs.declared.answer.Answer.{Answer}
use Rattle.ice_journal_laws.specs.declared.answer.Answer.TheVariants as answer
use Rattle.ice_journal_laws.specs.declared.answer.CheckEnd.{CheckEnd}
use Rattle.ice_journal_laws.specs.State.{exchange_at}
use Rattle.ice_journal_laws.specs.Checks.{Failure, FirstFailure}
use Rattle.ice_journal_laws.specs.Progress.{Progress, nothing, other_kind, passing, failed, out_of_memory, Leads}
use Rattle.ice_journal_laws.specs.Answers.{EndsWith}
use Rattle.ice_journal_laws.proofs.Leading.{finds}
use Rattle.ice_journal_laws.proofs.Heads.{session_checked}
use Rattle.ice_check_records.specs.declared.closed.ClosedSession.{ClosedSession}
use Rattle.ice_check_records.specs.Closed.{IsClosedAs, IsNotClosed}
use Rattle.ice_fair_laws.specs.Fair.{PaidTrade, paid_of}
use Rattle.ice_fair_laws.specs.Laws.{IsPaidTrade}
use Rattle.ice_fair_laws.specs.Run.{IsCutDen}
use Rattle.ice_last_laws.specs.Last.{payments_said, amounts}
use Rattle.ice_last_laws.proofs.Lasts.{done_is_last, last_is_paid}
use Rattle.ice_last.specs.Lasts.{IsSession, last_settlement, LastsBytes}
use Rattle.ice_last.specs.Reading.{end_found, trade_in, paid_in, IsPayable}
use Rattle.ice_last.proofs.Sessions.{kind_at}

-- ---- the session has closed

module _ (journal : List Record) (payments : List Fraction) (said : payments ≡ amounts (payments_said journal)) (x : ClosedSession) (p : Progress) (h : IsClosedAs x p) where
  -- the state's trade is that of what is handed out
  same_paid : paid_of (exchange_at h.state) h.state.bounds h.state.final.sets (amounts (payments_said journal)) ≡ paid_in x payments
  same_paid =
      ap (λ (ex : Exchange). paid_of ex h.state.bounds h.state.final.sets (amounts (payments_said journal))) h.exchange
      ∙ ap (λ (bounds : List Bounds). paid_of x.exchange bounds h.state.final.sets (amounts (payments_said journal))) h.bounds
      ∙ ap (λ (sets : Assignment). paid_of x.exchange x.bounds.items sets (amounts (payments_said journal))) h.final
      ∙ ap (λ (amounts : List Fraction). paid_of x.exchange x.bounds.items x.final_sets amounts) (sym said)

  leads_to : Leads nothing journal p → Leads nothing journal (passing h.state)
  leads_to l = subst (λ (q : Progress). Leads nothing journal q) h.come l

  pub payable : AllByRecursion IsRecord journal → Leads nothing journal p → IsPayable x payments
  payable lawful l =
      let (paid, cut, fields, count) = last_is_paid journal h.state lawful (leads_to l) h.place h.kind in
      record {
        bounds = h.lawful;
        count =
            subst (λ (ex : Exchange). length x.final_sets ≡ length (trees_of ex)) h.exchange
            (subst (λ (sets : Assignment). length sets ≡ length (trees_of (exchange_at h.state))) h.final count);
        paid = subst IsPaidTrade same_paid paid;
        cut = subst (λ (n : ℕ). IsCutDen (paid_in x payments) n) (ap (λ (f : Fraction). f.den) h.cut) (subst (λ (t : PaidTrade). IsCutDen t h.state.cut.den) same_paid cut);
        few = h.cut_few;
        fields = subst (AllByRecursion IsFractionField) (sym said) fields;
      }

  pub is_last : (bytes : List ℕ) → IsJournal bytes journal → IsSession journal → Leads nothing journal p → LastsBytes bytes (Ok (trade_in x payments))
  is_last bytes is session l =
      let (y, says, right, exchange, cut, same) = done_is_last journal h.state is.lawful (leads_to l) h.place h.kind in
      let found = finds journal (passing h.state) (leads_to l) in
      let e : x.exchange ≡ y.exchange = sym h.exchange ∙ sym exchange in
      let paid : paid_in x payments ≡ (last_settlement y).paid = sym same_paid ∙ sym same in
      let den : x.cut.den ≡ y.closed.cut.den = sym (ap (λ (f : Fraction). f.den) h.cut) ∙ sym (ap (λ (f : Fraction). f.den) cut) in (
        journal,
        is,
        record { session = session; checks = (found.0, found.1 h.place); stated = y; says = says; right = right; is = λ i. record { exchange = e i; paid = paid i; cut = den i } },
      )

-- ---- or it has not

assign_other : assign_kind ≡ session_kind → ⊥
assign_other e = cc

regret_other : regret_kind ≡ session_kind → ⊥
regret_other e = cc

module _ (bytes : List ℕ) (journal : List Record) (is : IsJournal bytes journal) (session : IsSession journal) where
  -- the tests find the first that fails
  pub none_is : (p : Progress) (found : Result Answer CheckEnd) → Leads nothing journal p → EndsWith p found → IsNotClosed p → LastsBytes bytes (Err (end_found found))
  none_is nothing found l e not = absurd (finds journal nothing l (session_checked journal session))
  none_is other_kind found l e not = absurd (finds journal other_kind l (session_checked journal session))
  none_is out_of_memory found l e not = absurd (finds journal out_of_memory l)
  none_is (failed f) found l e not =
      subst (λ (r : Result Answer CheckEnd). LastsBytes bytes (Err (end_found r))) (sym e) (journal, is, (session, (finds journal (failed f) l).1))
  none_is (passing s) (Ok (answer.Assign value)) l (place, kind, other) not = absurd (assign_other (sym kind ∙ kind_at journal s session l))
  none_is (passing s) (Ok (answer.Regret amount)) l (place, kind, other) not = absurd (regret_other (sym kind ∙ kind_at journal s session l))
  none_is (passing s) (Ok (answer.Closed regret surplus)) l (place, kind, other, more) not = absurd (not s refl place kind)
  none_is (passing s) (Ok (answer.No line test)) l (not_done, line_is, test_is) not = (
    journal,
    is,
    (session, subst (λ (f : Failure). FirstFailure journal (Some f)) (λ i. record { line = sym line_is i; rule = sym test_is i }) ((finds journal (passing s) l).2 not_done)),
  )
  none_is (passing s) (Err why) l e not = absurd e
