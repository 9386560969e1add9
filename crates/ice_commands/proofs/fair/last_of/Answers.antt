use Rattle.std.proofs.Common.{ℕ, List, sym, subst}
use Rattle.std.proofs.lemmas.Result.{MatchResult-weaker}
use Rattle.ice_command_parts.specs.Call.{journal_limit}
use Rattle.ice_commands.specs.FairServed.{HasNoLast, IsFairFault}
use Rattle.ice_command_parts.specs.Parts.{AreFetched}
use Rattle.ice_commands.proofs.Unwriting.{unwritten_file}
use Rattle.ice_command_parts.proofs.Refusing.{not_had}
use Rattle.ice_commands.proofs.fair.last_of.Goals as goal

pub returns-in-Err-clause-none : goal.returns-in-Err-clause-none
returns-in-Err-clause-none g c =
    λ call part. not_had call 1 c.args.journal.now journal_limit IsFairFault c.in-Err.refusal (c.in-Err.ensures.refusal call part)

pub returns-clause-last : goal.returns-clause-last
returns-clause-last g c =
    let shelf = g.H.Shelf.told c.args.shelf.now in
    let told : AreFetched shelf c.args.journal.now journal_limit c.deref.result.now =
    subst (λ (read : List ℕ). AreFetched shelf c.args.journal.now journal_limit read) (sym c.deref.ensures.value) c.in-Ok.ensures.bytes in
    MatchResult-weaker c.last_in.result c.last_in.ensures.last (λ last h. (c.deref.result.now, h, told)) (λ unwritten h. tt)

pub returns-clause-none : goal.returns-clause-none
returns-clause-none g c =
    let shelf = g.H.Shelf.told c.args.shelf.now in
    let told : AreFetched shelf c.args.journal.now journal_limit c.deref.result.now =
    subst (λ (read : List ℕ). AreFetched shelf c.args.journal.now journal_limit read) (sym c.deref.ensures.value) c.in-Ok.ensures.bytes in
    MatchResult-weaker c.last_in.result c.last_in.ensures.none (λ last h. tt)
    (λ unwritten h. unwritten_file HasNoLast IsFairFault shelf (g.H.Shelf.told c.fetch.new.shelf) c.args.journal.now c.deref.result.now unwritten told h)
