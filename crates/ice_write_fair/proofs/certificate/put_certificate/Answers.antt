use Rattle.std.proofs.Common.{◌++◌, refl, sym, subst, ℕ, List, map}
use Rattle.std.specs.List.{AllByRecursion}
use Rattle.std.proofs.lemmas.Result.{err_from_is_err_and}
use Rattle.ice_defs.specs.Rows.{Row}
use Rattle.ice_edge.specs.Puts.{Takes, FailsIn, IsPut}
use Rattle.ice_journal.specs.Journal.{bytes_of}
use Rattle.ice_journal_laws.specs.Written.{row_record}
use Rattle.ice_write.proofs.Loops.{fails_as, first_fails, then_fails, takes_both, then_put}
use Rattle.ice_write_session.specs.Writable.{IsWritableRow}
use Rattle.ice_write_fair.specs.Lines.{fairness_line, hold_lines, certificate_lines}
use Rattle.ice_write_fair.proofs.certificate.put_certificate.Goals as goal

pub put_rows-requires : goal.put_rows-requires
put_rows-requires g c = subst (AllByRecursion IsWritableRow) (sym c.rows_of.ensures) c.requires.rows

pub returns-in_err-put_den : goal.returns-in_err-put_den
returns-in_err-put_den g c =
    let x = c.args.certificate.now in
    let first : List ℕ = fairness_line x.den in
    let second : List ℕ = hold_lines 0 x.low x.high in
    let third : List ℕ = bytes_of (map row_record x.rows) in
    let p = err_from_is_err_and c.from_residual.result c.from_residual.ensures.1 in
    fails_as (certificate_lines x) (certificate_lines x) c.from_residual.result p.0 p.1 refl (first_fails (first ++ second) third (first_fails first second c.in_err-put_den.ensures))

pub returns-in_err-put_holds : goal.returns-in_err-put_holds
returns-in_err-put_holds g c =
    let x = c.args.certificate.now in
    let old = g.K.Sink.taken c.put_den.new.out in
    let new = g.K.Sink.taken c.put_holds.new.out in
    let first : List ℕ = fairness_line x.den in
    let second : List ℕ = hold_lines 0 x.low x.high in
    let third : List ℕ = bytes_of (map row_record x.rows) in
    let p = err_from_is_err_and c.from_residual-in_err-put_holds.result c.from_residual-in_err-put_holds.ensures.1 in
    let fails : FailsIn second old new =
    subst (λ (high : List ℕ). FailsIn (hold_lines 0 x.low high) old new) c.high_of.ensures
    (subst (λ (low : List ℕ). FailsIn (hold_lines 0 low c.high_of.result.now) old new) c.low_of.ensures c.in_err-put_holds.ensures) in
    fails_as (certificate_lines x) (certificate_lines x) c.from_residual-in_err-put_holds.result p.0 p.1 refl (first_fails (first ++ second) third (then_fails first second c.in_ok-put_den.ensures fails))

pub returns : goal.returns
returns g c =
    let x = c.args.certificate.now in
    let old = g.K.Sink.taken c.put_den.new.out in
    let new = g.K.Sink.taken c.put_holds.new.out in
    let first : List ℕ = fairness_line x.den in
    let second : List ℕ = hold_lines 0 x.low x.high in
    let third : List ℕ = bytes_of (map row_record x.rows) in
    let takes : Takes second old new =
    subst (λ (high : List ℕ). Takes (hold_lines 0 x.low high) old new) c.high_of.ensures
    (subst (λ (low : List ℕ). Takes (hold_lines 0 low c.high_of.result.now) old new) c.low_of.ensures c.in_ok-put_holds.ensures) in
    let last = g.K.Sink.taken c.put_rows.new.out in
    let rows : IsPut third c.put_rows.result new last =
    subst (λ (rows : List Row). IsPut (bytes_of (map row_record rows)) c.put_rows.result new last) c.rows_of.ensures c.put_rows.ensures in
    then_put (first ++ second) third c.put_rows.result last (takes_both first second c.in_ok-put_den.ensures takes) rows
