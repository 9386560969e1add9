use Rattle.std.proofs.Common.{◌≡◌, ◌∙◌, ℕ, sym, subst, length}
use Rattle.std.proofs.lemmas.List.{length-map}
use Rattle.ice_defs.specs.Exchange.{Good, exact_of}
use Rattle.ice_edge.specs.Puts.{IsPut}
use Rattle.ice_journal.specs.Records.{Record, version_2}
use Rattle.ice_journal.specs.Journal.{bytes_of}
use Rattle.ice_journal.specs.Lines.{record_of}
use Rattle.ice_journal_laws.specs.Showing.{group_records}
use Rattle.ice_search.specs.Results.{proved_found}
use Rattle.ice_write_session.proofs.group.put_provisional.Goals as goal

pub returns : goal.returns
returns g c =
    let f = c.args.found.now in
    let same : c.goods.result ≡ length (exact_of c.args.exchange.now) = c.goods.ensures.value ∙ sym (length-map c.args.exchange.now.goods (λ (x : Good). x.exact)) in
    subst
    (λ (first : Record). IsPut (bytes_of (group_records version_2 (length (exact_of c.args.exchange.now)) first (proved_found f))) c.put_group.result (g.K.Sink.taken c.args.out.now) (g.K.Sink.taken c.put_group.new.out))
    c.provisional_line-head.ensures.line
    (subst
    (λ (goods : ℕ). IsPut (bytes_of (group_records version_2 goods (record_of c.provisional_line-head.result) (proved_found f))) c.put_group.result (g.K.Sink.taken c.args.out.now) (g.K.Sink.taken c.put_group.new.out))
    same c.put_group.ensures)
