use Rattle.std.proofs.Common.{ℕ, List, sym, subst}
use Rattle.ice_journal.specs.Journal.{IsJournal}
use Rattle.ice_statement.proofs.Judged.{session_first, none_first}
use Rattle.ice_statement.proofs.judging.is_session.Goals as goal

pub returns-in-Some : goal.returns-in-Some
returns-in-Some c = λ journal is.
    let here = subst (λ (bytes : List ℕ). IsJournal bytes journal) (sym c.new.ensures) is in
    session_first journal c.in-Some.line c.next.new.self c.is_session_head.result (c.in-Some.ensures.next journal here) c.is_session_head.ensures

pub returns-in-None : goal.returns-in-None
returns-in-None c = λ journal is.
    let here = subst (λ (bytes : List ℕ). IsJournal bytes journal) (sym c.new.ensures) is in
    none_first journal c.next.new.self (c.in-None.ensures.next journal here)
