-- What a call of the program has done: the words, the status and the written text go together.
use Rattle.std.specs.Prelude.{◌≡◌, ℕ, List}
use Rattle.ice_edge.specs.declared.status.Status.{Status}
use Rattle.ice_edge.specs.declared.status.Status.TheVariants.{Words, WriteFault}
use Rattle.ice_words.specs.Command.{Command, IsCommand, IsNoCommand}
use Rattle.ice_words.specs.Command.{check, best, regret, xor, replay, gen, run, migrate, simulate, statement, audit, fair, gap}
use Rattle.ice_command_parts.specs.Call.{Call, SinkFaultRose, IsPrefix}
use Rattle.ice_command_parts.specs.Lines.{words_line}
use Rattle.ice_commands.specs.CheckServed.{CheckAnswers}
use Rattle.ice_commands.specs.BestServed.{BestAnswers}
use Rattle.ice_commands.specs.RegretServed.{RegretAnswers}
use Rattle.ice_commands.specs.XorServed.{XorAnswers}
use Rattle.ice_commands.specs.ReplayServed.{ReplayAnswers}
use Rattle.ice_session_commands.specs.RunServed.{RunAnswers}
use Rattle.ice_session_commands.specs.SimulateServed.{SimulateAnswers}
use Rattle.ice_session_commands.specs.GenServed.{GenAnswers}
use Rattle.ice_commands.specs.MigrateServed.{MigrateAnswers}
use Rattle.ice_commands.specs.StatementServed.{StatementAnswers}
use Rattle.ice_commands.specs.AuditServed.{AuditAnswers}
use Rattle.ice_commands.specs.FairServed.{FairAnswers}
use Rattle.ice_commands.specs.GapServed.{GapAnswers}

-- the words are none of the forms; no file is fetched, so all
-- that the shelf tells is the same, each count among it
pub record RefusesWords (call : Call) : Type 0 where
  pub none : IsNoCommand call.words
  pub untouched : call.after ≡ call.before
  pub status : call.status ≡ Words
  pub text : call.text ≡ words_line

abbrev pub CommandAnswers : Call → Command → Type 0
CommandAnswers call (check journal) = CheckAnswers call journal call.status
CommandAnswers call (best exchange prices) = BestAnswers call exchange prices call.status
CommandAnswers call (regret exchange) = RegretAnswers call exchange call.status
CommandAnswers call (xor file) = XorAnswers call file call.status
CommandAnswers call (replay journal number) = ReplayAnswers call journal number call.status
CommandAnswers call (run exchange rounds) = RunAnswers call exchange rounds call.status
CommandAnswers call (gen number) = GenAnswers call.text number call.status
CommandAnswers call (migrate journal) = MigrateAnswers call journal call.status
CommandAnswers call (simulate exchange truths) = SimulateAnswers call exchange truths call.status
CommandAnswers call (statement journal name) = StatementAnswers call journal name call.status
CommandAnswers call (audit file) = AuditAnswers call file call.status
CommandAnswers call (fair journal) = FairAnswers call journal call.status
CommandAnswers call (gap journal) = GapAnswers call journal call.status

-- the call refuses its words, or answers the command that they are; or
-- the sink failed, and what it took is the front of such an answer
pub data IsServed : Call → Type 0 where
  no_command : {call : Call} → RefusesWords call → IsServed call
  answers : {call : Call} (c : Command) → IsCommand call.words c → CommandAnswers call c → IsServed call
  cut_short : {call : Call} (text : List ℕ) (status : Status) → call.status ≡ WriteFault → SinkFaultRose call
      → IsServed (record call { text = text; status = status }) → IsPrefix call.text text → IsServed call
