use Rattle.std.proofs.Common.{◌∙◌, List, ◌∷◌, [], ◌++◌, ℕ, Some, None, sym, refl, ap}
use Rattle.ice_reading.proofs.First.{starts, with_line, without_line, cut_line}
use Rattle.ice_reading.proofs.records.Records.next_with_line.Goals as goal

pub returns-clause-next : goal.returns-clause-next
returns-clause-next c = λ left is.
    with_line left c.in_ok-record.record _ c.in_ok-text.after.now
    (starts c.args.self.now c.in_ok-text.text.now c.in_ok-text.after.now (Some c.in_ok-record.record) (sym c.self.view_is ∙ c.in_ok-text.ensures.0) c.in_ok-text.ensures.1 c.in_ok-record.ensures left is)

pub returns-clause-line : goal.returns-clause-line
returns-clause-line c = cut_line _ c.in_ok-text.text.now c.in_ok-text.after.now _ c.in_ok-text.ensures.0 refl ∙ ap (λ (text : List ℕ). text ++ 10 ∷ []) c.in_ok-record.ensures.1

pub returns-in_err-record-clause-next : goal.returns-in_err-record-clause-next
returns-in_err-record-clause-next c = λ left is.
    let none = without_line left c.in_ok-text.after.now
    (starts c.args.self.now c.in_ok-text.text.now c.in_ok-text.after.now None (sym c.self.view_is ∙ c.in_ok-text.ensures.0) c.in_ok-text.ensures.1 c.in_err-record.ensures left is) in
    rw c.from_residual-in_err-record.ensures none
