use Rattle.std.proofs.Common.{◌∙◌, ◌+◌, ℕ, List, ◌∷◌, map, refl, sym, ap, subst, rules}
use Rattle.std.specs.Prelude.{string_bytes}
use Rattle.std.proofs.lemmas.List.{nil_from_length}
use Rattle.ice_command_parts.specs.Call.{file_limit}
use Rattle.ice_command_parts.specs.Files.{IsRoundFault}
use Rattle.ice_command_parts.specs.Refusals.{Refuses}
use Rattle.ice_command_parts.proofs.Parts.{later_refl}
use Rattle.ice_session_commands.specs.declared.source.NoBids.TheVariants.{NoFile, Refused}
use Rattle.ice_session_commands.specs.SessionSteps.{LacksFile}
use Rattle.ice_session_commands.proofs.Sources.{open_lacks, refusal_lacks}
use Rattle.ice_session_commands.proofs.source.file_bids.Goals as goal

pub overflow_add-number : goal.overflow_add-number
overflow_add-number g c = search rules

pub returns-in-None-clause-ended : goal.returns-in-None-clause-ended
returns-in-None-clause-ended g c =
    let shelf = g.H.Shelf.told c.args.shelf.now in
    subst (λ (fs : List (List ℕ)). LacksFile fs c.args.round.now shelf shelf NoFile) (sym (ap (map string_bytes) (nil_from_length c.args.names.now c.in-None.ensures.cases)))
    (open_lacks c.args.round.now shelf shelf)

pub returns-in-None-clause-kept_at_end : goal.returns-in-None-clause-kept_at_end
returns-in-None-clause-kept_at_end g c = λ no_file. refl

pub returns-in-None-clause-later : goal.returns-in-None-clause-later
returns-in-None-clause-later g c = later_refl (g.H.Shelf.told c.args.shelf.now)

pub returns-in-Ok-clause-bids : goal.returns-in-Ok-clause-bids
returns-in-Ok-clause-bids g c = (
  c.as_str.result.now,
  ap (map string_bytes) c.in-Some.ensures.cases.0 ∙ ap (λ (name : List ℕ). name ∷ map string_bytes c.in-Some.two.1.now) (sym c.as_str.ensures.value),
  c.in-Ok.ensures.bids,
)

pub returns-in-Ok-clause-kept : goal.returns-in-Ok-clause-kept
returns-in-Ok-clause-kept g c = c.in-Ok.ensures.kept

pub returns-in-Ok-clause-later : goal.returns-in-Ok-clause-later
returns-in-Ok-clause-later g c = c.read_round.ensures.later

pub returns-in-Err-clause-ended : goal.returns-in-Err-clause-ended
returns-in-Err-clause-ended g c =
    let before = g.H.Shelf.told c.args.shelf.now in
    let after = g.H.Shelf.told c.read_round.new.shelf in
    let left = map string_bytes c.in-Some.two.1.now in
    let name = c.as_str.result.now in
    let refusal = c.in-Err.refusal in
    subst (λ (fs : List (List ℕ)). LacksFile fs c.args.round.now before after (Refused refusal))
    (sym (ap (map string_bytes) c.in-Some.ensures.cases.0 ∙ ap (λ (first : List ℕ). first ∷ map string_bytes c.in-Some.two.1.now) (sym c.as_str.ensures.value)))
    (refusal_lacks c.args.round.now name left before after refusal
    (subst (λ (n : ℕ). Refuses (n + 2) name file_limit IsRoundFault before after refusal) c.number.ensures c.in-Err.ensures.refusal))

pub returns-in-Err-clause-kept_at_end : goal.returns-in-Err-clause-kept_at_end
returns-in-Err-clause-kept_at_end g c = c.in-Err.ensures.kept_at_refusal

pub returns-in-Err-clause-later : goal.returns-in-Err-clause-later
returns-in-Err-clause-later g c = c.read_round.ensures.later
