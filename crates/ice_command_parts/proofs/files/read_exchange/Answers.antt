use Rattle.std.proofs.Common.{ℕ, List, Ok, sym, subst}
use Rattle.std.proofs.lemmas.Result.{MatchResult-weaker, err_from_is_err_and}
use Rattle.ice_command_parts.specs.Call.{file_limit}
use Rattle.ice_command_parts.specs.Files.{IsExchangeOf, IsExchangeFault}
use Rattle.ice_command_parts.specs.Parts.{AreFetched}
use Rattle.ice_command_parts.proofs.Parts.{of_fetched}
use Rattle.ice_command_parts.proofs.Refusing.{not_had, fault_of_fetched}
use Rattle.ice_command_parts.proofs.files.read_exchange.Goals as goal

pub returns-in_err-bytes-clause-refusal : goal.returns-in_err-bytes-clause-refusal
returns-in_err-bytes-clause-refusal g c =
    let p = err_from_is_err_and c.from_residual.result c.from_residual.ensures.1 in
    rw (p.1, p.2) (λ call part. not_had call c.args.file c.args.name.now file_limit IsExchangeFault c.in_err-bytes.field-0.0 (c.in_err-bytes.ensures.refusal call part))

pub returns-clause-exchange : goal.returns-clause-exchange
returns-clause-exchange g c =
    let shelf = g.H.Shelf.told c.args.shelf.now in
    let name = c.args.name.now in
    let read = c.deref.result.now in
    let told : AreFetched shelf name file_limit read = subst (λ (bytes : List ℕ). AreFetched shelf name file_limit bytes) (sym c.deref.ensures.value) c.in_ok-bytes.ensures.bytes in
    MatchResult-weaker c.exchange_of.result c.exchange_of.ensures.exchange (λ exchange h. of_fetched (shelf.holds name) file_limit read (λ bytes. IsExchangeOf bytes (Ok exchange)) h told) (λ refusal h. tt)

pub returns-clause-refusal : goal.returns-clause-refusal
returns-clause-refusal g c =
    let shelf = g.H.Shelf.told c.args.shelf.now in
    let told : AreFetched shelf c.args.name.now file_limit c.deref.result.now =
    subst (λ (read : List ℕ). AreFetched shelf c.args.name.now file_limit read) (sym c.deref.ensures.value) c.in_ok-bytes.ensures.bytes in
    MatchResult-weaker c.exchange_of.result c.exchange_of.ensures.refusal (λ x h. tt)
    (λ refusal h. fault_of_fetched shelf (g.H.Shelf.told c.fetch.new.shelf) c.args.file c.args.name.now file_limit c.deref.result.now IsExchangeFault refusal told h)
