use Rattle.std.proofs.Common.{◌≡◌, ◌∙◌, ◌+◌, ◌<◌, ℕ, refl, sym, ap, length, get_or, drop, arith}
use Rattle.std.proofs.lemmas.Result.{err_from_is_err_and}
use Rattle.ice_defs.specs.Exchange.{exact_of}
use Rattle.ice_journal.specs.Records.{version_2}
use Rattle.ice_journal.specs.Records as line
use Rattle.ice_journal.specs.Journal.{bytes_of}
use Rattle.ice_journal_laws.specs.Showing.{group_records}
use Rattle.ice_vickrey.specs.Marginals.{proved_without}
use Rattle.ice_write.proofs.Loops.{fails_as, next_all, next_fails, next_taken}
use Rattle.ice_write_session.specs.Writable.{IsWritable}
use Rattle.ice_write_session.proofs.Withouts.{groups_from, without_opens}
use Rattle.ice_write_session.proofs.without.put_withouts.Goals as goal

pub returns-in_err-put_numbered : goal.returns-in_err-put_numbered
returns-in_err-put_numbered g c =
    let goods = length (exact_of c.args.exchange.now) in
    let ms = c.args.marginals.now in
    let i = c.loop-bidder.bidder in
    let m = c.index-marginals-from.result in
    let there : i < length ms = omega (arith, c.requires.few) in
    let is : get_or ms i m ≡ m = sym (c.index-marginals-from.is ∙ ap (λ (n : ℕ). get_or ms n m) c.from.ensures) in
    let p = err_from_is_err_and c.from_residual.result c.from_residual.ensures.1 in
    fails_as (groups_from goods 0 ms) (groups_from goods 0 ms) c.from_residual.result p.0 p.1 refl
    (next_fails (bytes_of (group_records version_2 goods (line.without i m.without) (proved_without m))) (groups_from goods (i + 1) (drop (i + 1) ms)) (groups_from goods i (drop i ms)) (groups_from goods 0 ms)
    (without_opens goods ms i m there is) c.loop-bidder.invariant.left c.in_err-put_numbered.ensures)

pub loop-bidder-preserved : goal.loop-bidder-preserved
loop-bidder-preserved g c =
    let goods = length (exact_of c.args.exchange.now) in
    let ms = c.args.marginals.now in
    let i = c.loop-bidder.bidder in
    let m = c.index-marginals-from.result in
    let there : i < length ms = omega (arith, c.requires.few) in
    let is : get_or ms i m ≡ m = sym (c.index-marginals-from.is ∙ ap (λ (n : ℕ). get_or ms n m) c.from.ensures) in
    record {
      each = (next_all (λ x. IsWritable goods (proved_without x)) ms i m there c.loop-bidder.invariant.each).1;
      left = next_taken (bytes_of (group_records version_2 goods (line.without i m.without) (proved_without m))) (groups_from goods (i + 1) (drop (i + 1) ms)) (groups_from goods i (drop i ms)) (groups_from goods 0 ms)
          (without_opens goods ms i m there is) c.loop-bidder.invariant.left c.in_ok-put_numbered.ensures;
    }
