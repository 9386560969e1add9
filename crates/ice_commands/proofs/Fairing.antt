-- From the last settlement of a session to what `fair` answers.
use Rattle.std.proofs.Common.{◌≡◌, ◌∙◌, refl, sym, subst, ℕ, List, Ok}
use Rattle.ice_edge.specs.declared.status.Status.{Status}
use Rattle.ice_edge.specs.declared.status.Status.TheVariants.{Done, Words, Input, No, Spent, Limit, ReadFault, WriteFault, StillOpen}
use Rattle.ice_edge.specs.declared.status.Status.TheVariants as status
use Rattle.ice_edge.specs.Told.{Told}
use Rattle.ice_edge.specs.Taken.{Taken}
use Rattle.ice_fair.specs.Lasts.{LastTrade}
use Rattle.ice_last.specs.Lasts.{LastsBytes}
use Rattle.ice_command_parts.specs.Call.{Call, journal_limit}
use Rattle.ice_commands.specs.FairParts.{HasItsTrees, IsAnswerTo, IsFairSaid}
use Rattle.ice_commands.specs.FairServed.{HasLast, SaysFair, SaysLimit, FairAnswers}
use Rattle.ice_command_parts.specs.Parts.{AreFetched, Serves}
use Rattle.ice_command_parts.proofs.Parts.{told_in_call}

-- the trees of a session's last settlement are its exchange's
pub trees_are : (bytes : List ℕ) (last : LastTrade) → LastsBytes bytes (Ok last) → HasItsTrees last
trees_are bytes last (journal, spelled, has) = subst HasItsTrees (sym has.is) refl

-- ---- what is answered

module _ (before after : Told) (file : List ℕ) where
  answers : (last : LastTrade) (call : Call) (text : List ℕ) (status : Status) → IsAnswerTo last text status → HasLast call file (Ok last) → call.text ≡ text → FairAnswers call file status
  answers last call text Done is has said = (last, has, subst (SaysFair last) (sym said) is)
  answers last call text Limit is has said = (last, has, subst (SaysLimit last) (sym said) is)
  answers last call text status.NoMemory is has said = said ∙ is
  answers last call text Words is has said = absurd is
  answers last call text Input is has said = absurd is
  answers last call text No is has said = absurd is
  answers last call text Spent is has said = absurd is
  answers last call text ReadFault is has said = absurd is
  answers last call text WriteFault is has said = absurd is
  answers last call text StillOpen is has said = absurd is

  -- an answer to the last settlement
  pub fair_serves : (last : LastTrade) (old new : Taken) (result : Status) → (bytes : List ℕ) × LastsBytes bytes (Ok last) × AreFetched before file journal_limit bytes → IsFairSaid last old new result
      → Serves (λ call. FairAnswers call file) before after old new result
  fair_serves last old new result (bytes, lasts, told) (text, status, is, said) = (
    text,
    status,
    λ call part same. answers last call text status is (bytes, lasts, told_in_call call before after file journal_limit (λ other. other ≡ bytes) part told) same,
    said,
  )
