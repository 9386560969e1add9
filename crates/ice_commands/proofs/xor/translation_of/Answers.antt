use Rattle.std.proofs.Common.{ℕ, List, sym, subst}
use Rattle.std.proofs.lemmas.Result.{MatchResult-weaker, err_from_is_err_and}
use Rattle.ice_command_parts.specs.Call.{file_limit}
use Rattle.ice_commands.specs.XorServed.{IsFlatFault}
use Rattle.ice_command_parts.specs.Parts.{AreFetched}
use Rattle.ice_command_parts.proofs.Refusing.{not_had, fault_of_fetched}
use Rattle.ice_commands.proofs.xor.translation_of.Goals as goal

pub returns-in_err-bytes-clause-refusal : goal.returns-in_err-bytes-clause-refusal
returns-in_err-bytes-clause-refusal g c =
    let p = err_from_is_err_and c.from_residual.result c.from_residual.ensures.1 in
    rw (p.1, p.2) (λ call part. not_had call 1 c.args.name.now file_limit IsFlatFault c.in_err-bytes.field-0.0 (c.in_err-bytes.ensures.refusal call part))

pub returns-clause-line : goal.returns-clause-line
returns-clause-line g c =
    let shelf = g.H.Shelf.told c.args.shelf.now in
    let told : AreFetched shelf c.args.name.now file_limit c.deref.result.now =
    subst (λ (read : List ℕ). AreFetched shelf c.args.name.now file_limit read) (sym c.deref.ensures.value) c.in_ok-bytes.ensures.bytes in
    MatchResult-weaker c.line_to.result c.line_to.ensures.line (λ line h. (c.deref.result.now, h, told)) (λ refusal h. tt)

pub returns-clause-refusal : goal.returns-clause-refusal
returns-clause-refusal g c =
    let shelf = g.H.Shelf.told c.args.shelf.now in
    let told : AreFetched shelf c.args.name.now file_limit c.deref.result.now =
    subst (λ (read : List ℕ). AreFetched shelf c.args.name.now file_limit read) (sym c.deref.ensures.value) c.in_ok-bytes.ensures.bytes in
    MatchResult-weaker c.line_to.result c.line_to.ensures.refusal (λ line h. tt)
    (λ refusal h. fault_of_fetched shelf (g.H.Shelf.told c.fetch.new.shelf) 1 c.args.name.now file_limit c.deref.result.now IsFlatFault refusal told h)
