use Rattle.std.proofs.Common.{◌++◌, refl, ℕ, List}
use Rattle.std.proofs.lemmas.Result.{err_from_is_err_and}
use Rattle.ice_journal.specs.Journal.{bytes_of}
use Rattle.ice_write.proofs.Loops.{fails_as, first_fails, then_fails, takes_both, then_put}
use Rattle.ice_write_fair.specs.Lines.{accuracy_records, distance_line, certificate_lines, last_line, fair_lines}
use Rattle.ice_write_fair.proofs.fair.put_fair.Goals as goal

pub returns-in_err-put_accuracy : goal.returns-in_err-put_accuracy
returns-in_err-put_accuracy g c =
    let x = c.args.fair.now in
    let first : List ℕ = bytes_of (accuracy_records x) in
    let second : List ℕ = distance_line x.distance in
    let third : List ℕ = certificate_lines x.certificate in
    let p = err_from_is_err_and c.from_residual.result c.from_residual.ensures.1 in
    fails_as (fair_lines x) (fair_lines x) c.from_residual.result p.0 p.1 refl
    (first_fails ((first ++ second) ++ third) last_line (first_fails (first ++ second) third (first_fails first second c.in_err-put_accuracy.ensures)))

pub returns-in_err-put_distance : goal.returns-in_err-put_distance
returns-in_err-put_distance g c =
    let x = c.args.fair.now in
    let first : List ℕ = bytes_of (accuracy_records x) in
    let second : List ℕ = distance_line x.distance in
    let third : List ℕ = certificate_lines x.certificate in
    let p = err_from_is_err_and c.from_residual-in_err-put_distance.result c.from_residual-in_err-put_distance.ensures.1 in
    fails_as (fair_lines x) (fair_lines x) c.from_residual-in_err-put_distance.result p.0 p.1 refl
    (first_fails ((first ++ second) ++ third) last_line (first_fails (first ++ second) third (then_fails first second c.in_ok-put_accuracy.ensures c.in_err-put_distance.ensures)))

pub returns-in_err-put_certificate : goal.returns-in_err-put_certificate
returns-in_err-put_certificate g c =
    let x = c.args.fair.now in
    let first : List ℕ = bytes_of (accuracy_records x) in
    let second : List ℕ = distance_line x.distance in
    let third : List ℕ = certificate_lines x.certificate in
    let p = err_from_is_err_and c.from_residual-in_err-put_certificate.result c.from_residual-in_err-put_certificate.ensures.1 in
    fails_as (fair_lines x) (fair_lines x) c.from_residual-in_err-put_certificate.result p.0 p.1 refl
    (first_fails ((first ++ second) ++ third) last_line
    (then_fails (first ++ second) third (takes_both first second c.in_ok-put_accuracy.ensures c.in_ok-put_distance.ensures) c.in_err-put_certificate.ensures))

pub returns : goal.returns
returns g c =
    let x = c.args.fair.now in
    let first : List ℕ = bytes_of (accuracy_records x) in
    let second : List ℕ = distance_line x.distance in
    let third : List ℕ = certificate_lines x.certificate in
    then_put ((first ++ second) ++ third) last_line c.put_end.result (g.K.Sink.taken c.put_end.new.out)
    (takes_both (first ++ second) third (takes_both first second c.in_ok-put_accuracy.ensures c.in_ok-put_distance.ensures) c.in_ok-put_certificate.ensures) c.put_end.ensures
