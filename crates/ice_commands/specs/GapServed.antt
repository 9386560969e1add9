-- What `gap` writes at each status: what the tests find of a journal that stops at a spent search.
use Rattle.std.specs.Prelude.{ℕ, ◌≡◌, List, [], ◌∷◌, ◌++◌, codes, decimal, Ok}
use Rattle.std.specs.Fmt.{signed_decimal}
use Rattle.ice_edge.specs.declared.status.Status.{Status}
use Rattle.ice_edge.specs.declared.status.Status.TheVariants.{Done, No}
use Rattle.ice_defs.specs.declared.Group.{Group}
use Rattle.ice_defs.specs.declared.Group.TheVariants.{Assign, Final, Rival, Provisional, Without}
use Rattle.ice_line.specs.Writing.{with_field}
use Rattle.ice_gap_laws.specs.declared.answer.GapAnswer.{GapAnswer}
use Rattle.ice_gap_laws.specs.declared.answer.GapAnswer.TheVariants as answer
use Rattle.ice_gap_laws.specs.Answers.{AnswersGap}
use Rattle.ice_command_parts.specs.Call.{Call, journal_limit, OfFile}
use Rattle.ice_command_parts.specs.Lines.{line_text}
use Rattle.ice_commands.specs.Output.{no_line}
use Rattle.ice_commands.specs.Ends.{RefusesFile}
use Rattle.ice_commands.specs.CheckServed.{IsCheckFault}

-- the words of a group behind the fields of a line
abbrev pub with_group : List ℕ → Group → List ℕ
with_group text Assign = with_field text (codes "assign")
with_group text Final = with_field text (codes "final")
with_group text Rival = with_field text (codes "rival")
with_group text Provisional = with_field text (codes "provisional")
with_group text (Without b) = with_field (with_field text (codes "without")) (decimal b)

abbrev pub gap_line : GapAnswer → List ℕ
gap_line (answer.Gap group value bound) =
    with_field (with_field (with_group (codes "gap") group) (signed_decimal value)) (signed_decimal bound) ++ 10 ∷ []
gap_line (answer.No line rule) = no_line (record { line = line; rule = rule })
gap_line (answer.NoGap line) = line_text (codes "no" ∷ decimal line ∷ codes "spent" ∷ [])

abbrev pub gap_status : GapAnswer → Status
gap_status (answer.Gap group value bound) = Done
gap_status (answer.No line rule) = No
gap_status (answer.NoGap line) = No

-- this is answered to the bytes of the file, which are those that are told
abbrev pub HasGap : Call → List ℕ → GapAnswer → Type 0
HasGap call file answer = (bytes : List ℕ) × AnswersGap bytes (Ok answer) × OfFile call file journal_limit (λ told. told ≡ bytes)

-- it is written, and is an answer of this status
abbrev pub WritesGap : Call → List ℕ → Status → Type 0
WritesGap call file status = (answer : GapAnswer) × HasGap call file answer × (gap_status answer ≡ status) × (call.text ≡ gap_line answer)

abbrev pub GapAnswers : Call → List ℕ → Status → Type 0
GapAnswers call file Done = WritesGap call file Done
GapAnswers call file No = WritesGap call file No
GapAnswers call file other = RefusesFile call file IsCheckFault other
