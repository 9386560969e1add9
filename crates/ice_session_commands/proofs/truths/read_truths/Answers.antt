use Rattle.std.proofs.Common.{ℕ, List, sym, subst}
use Rattle.std.proofs.lemmas.Result.{MatchResult-weaker, err_from_is_err_and}
use Rattle.ice_command_parts.specs.Call.{file_limit}
use Rattle.ice_command_parts.specs.Parts.{AreFetched}
use Rattle.ice_command_parts.proofs.Refusing.{not_had, fault_of_fetched}
use Rattle.ice_session_commands.specs.TruthParts.{IsTruthFault}
use Rattle.ice_session_commands.proofs.truths.read_truths.Goals as goal

pub returns-in_err-bytes-clause-refusal : goal.returns-in_err-bytes-clause-refusal
returns-in_err-bytes-clause-refusal g c =
    let p = err_from_is_err_and c.from_residual.result c.from_residual.ensures.1 in
    rw (p.1, p.2) (λ call part. not_had call 2 c.args.name.now file_limit (IsTruthFault c.args.exchange.now) c.in_err-bytes.field-0.0 (c.in_err-bytes.ensures.refusal call part))

pub returns-clause-refusal : goal.returns-clause-refusal
returns-clause-refusal g c =
    let shelf = g.H.Shelf.told c.args.shelf.now in
    let told : AreFetched shelf c.args.name.now file_limit c.deref.result.now =
    subst (λ (read : List ℕ). AreFetched shelf c.args.name.now file_limit read) (sym c.deref.ensures.value) c.in_ok-bytes.ensures.bytes in
    MatchResult-weaker c.truths_of.result c.truths_of.ensures.refusal (λ x h. tt)
    (λ refusal h. fault_of_fetched shelf (g.H.Shelf.told c.fetch.new.shelf) 2 c.args.name.now file_limit c.deref.result.now (IsTruthFault c.args.exchange.now) refusal told h)
