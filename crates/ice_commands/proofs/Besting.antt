-- From the best sets of two files, or why there are none, to what `best` answers.
use Rattle.std.proofs.Common.{◌≡◌, ◌∙◌, ap, sym, subst, ℕ, List}
use Rattle.ice_defs.specs.Exchange.{names_of}
use Rattle.ice_edge.specs.Told.{Told}
use Rattle.ice_edge.specs.declared.status.Status.TheVariants as status
use Rattle.ice_command_parts.specs.declared.refusal.Refusal.{Refusal}
use Rattle.ice_command_parts.specs.declared.refusal.Refusal.TheVariants.{File, Unread, NoMemory}
use Rattle.ice_commands.specs.declared.best_set.BestSet.{BestSet}
use Rattle.ice_command_parts.specs.Call.{Call}
use Rattle.ice_command_parts.specs.Lines.{refused_line, unread_line}
use Rattle.ice_command_parts.specs.Parts.{Answers}
use Rattle.ice_command_parts.specs.Refusals.{fault_of, refusal_text, refusal_status, exchange_unread, other_unread}
use Rattle.ice_commands.specs.BestServed.{AreBestLines, BestAnswers, exchange_refused, prices_refused}
use Rattle.ice_commands.specs.Bests.{best_text}
use Rattle.ice_commands.specs.BestFound.{AreBestOf, IsBestRefusal, BestRefuses, at_exchange, at_prices}
use Rattle.ice_command_parts.proofs.Parts.{told_in_call}
use Rattle.ice_commands.proofs.Bidding.{best_lines}

pub sets_answer : (before after : Told) (exchange prices : List ℕ) (bests : List BestSet) → AreBestOf before exchange prices bests
    → Answers (λ call. BestAnswers call exchange prices) before after (best_text bests) status.Done
sets_answer before after exchange prices bests are call part text = (
  are.exchange_of,
  are.prices_of,
  told_in_call call before after exchange _ _ part are.exchange_told,
  told_in_call call before after prices _ _ part are.prices_told,
  subst (AreBestLines are.exchange_of are.prices_of 0 (names_of are.exchange_of)) (sym text) (best_lines are.exchange_of are.prices_of 0 (names_of are.exchange_of) bests are.best),
)

refusal_in_call : (call : Call) (exchange prices : List ℕ) (refusal : Refusal) → IsBestRefusal call exchange prices refusal → call.text ≡ refusal_text refusal
    → BestAnswers call exchange prices (refusal_status refusal)
refusal_in_call call exchange prices (File file fault) (at_exchange (e, h)) text = exchange_refused (fault_of fault) h (text ∙ ap (λ n. refused_line n (fault_of fault)) e)
refusal_in_call call exchange prices (Unread file) (at_exchange (e, h)) text = exchange_unread h (text ∙ ap unread_line e)
refusal_in_call call exchange prices NoMemory (at_exchange h) text = text
refusal_in_call call exchange prices (File file fault) (at_prices ex told (e, h)) text = prices_refused (fault_of fault) ex told h (text ∙ ap (λ n. refused_line n (fault_of fault)) e)
refusal_in_call call exchange prices (Unread file) (at_prices ex told (e, h)) text = other_unread ex told h (text ∙ ap unread_line e)
refusal_in_call call exchange prices NoMemory (at_prices ex told h) text = text

pub refusal_answers : (before after : Told) (exchange prices : List ℕ) (refusal : Refusal) → BestRefuses exchange prices before after refusal
    → Answers (λ call. BestAnswers call exchange prices) before after (refusal_text refusal) (refusal_status refusal)
refusal_answers before after exchange prices refusal refuses call part text = refusal_in_call call exchange prices refusal (refuses call part) text
