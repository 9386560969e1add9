use Rattle.std.proofs.Common.{◌≡◌, ◌++◌, ℕ, List, [], refl, sym, ◌∙◌, ap, subst, append-nil}
use Rattle.ice_journal.specs.Journal.{unended, IsLinesFault}
use Rattle.ice_check.specs.declared.begun.Begun.{Begun}
use Rattle.ice_check.specs.declared.lines.Lines.{Lines}
use Rattle.ice_check.specs.Standing.{Checking, StandsFor, AreTaken, AreRead, IsTextOf}
use Rattle.ice_check.proofs.WholeLines.{not_ended}
use Rattle.ice_check.proofs.Standing.{answers_taken, wants_none, none_stopped, some_byte, not_true}
use Rattle.ice_check.proofs.checker.Checker.finish.Goals as goal

pub returns-then-is_empty-clause-answer : goal.returns-then-is_empty-clause-answer
returns-then-is_empty-clause-answer c = λ bytes stands.
    let h = subst (λ (v : Checking). StandsFor v bytes) (sym c.self.view_is) stands in
    let taken : AreTaken c.in-Records.checker h.ends.whole = subst (λ (l : Lines). AreRead l h.ends.whole) c.in-Records.is h.ends.lines in
    let none : h.ends.begun ≡ [] = (c.if-is_empty.ensures.of h.ends.begun (subst (λ (b : Begun). IsTextOf b h.ends.begun) (sym c.deref.ensures) h.ends.text)).0 refl in
    answers_taken bytes h.ends.whole c.in-Records.checker c.finish.result (h.ends.cut ∙ ap (λ (l : List ℕ). h.ends.whole ++ l) none ∙ append-nil h.ends.whole) taken c.finish.ensures

pub returns-then-is_empty-clause-memory : goal.returns-then-is_empty-clause-memory
returns-then-is_empty-clause-memory c = λ bytes stands e.
    let h = subst (λ (v : Checking). StandsFor v bytes) (sym c.self.view_is) stands in
    let taken : AreTaken c.in-Records.checker h.ends.whole = subst (λ (l : Lines). AreRead l h.ends.whole) c.in-Records.is h.ends.lines in
    wants_none h.ends.whole c.in-Records.checker c.finish.result taken c.finish.ensures e

pub returns-in-Records-clause-answer : goal.returns-in-Records-clause-answer
returns-in-Records-clause-answer c = λ bytes stands.
    let h = subst (λ (v : Checking). StandsFor v bytes) (sym c.self.view_is) stands in
    let taken : AreTaken c.in-Records.checker h.ends.whole = subst (λ (l : Lines). AreRead l h.ends.whole) c.in-Records.is h.ends.lines in
    let is_none = c.if-is_empty.ensures.of h.ends.begun (subst (λ (b : Begun). IsTextOf b h.ends.begun) (sym c.deref.ensures) h.ends.text) in
    let fault = not_ended c.in-Records.checker h.ends.whole h.ends.begun taken h.ends.one_line (some_byte h.ends.begun (λ none. not_true (is_none.1 none))) in
    subst (λ (b : List ℕ). IsLinesFault b (unended c.next_line.result)) (sym h.ends.cut)
    (subst (λ (n : ℕ). IsLinesFault (h.ends.whole ++ h.ends.begun) (unended n)) (sym c.next_line.ensures) fault)

pub returns-then-are_stopped-clause-memory : goal.returns-then-are_stopped-clause-memory
returns-then-are_stopped-clause-memory c = λ bytes stands e.
    let h = subst (λ (v : Checking). StandsFor v bytes) (sym c.self.view_is) stands in
    none_stopped c.self.inside.lines h.ends.whole (c.are_stopped.ensures.0 c.if-are_stopped.true) h.ends.lines
