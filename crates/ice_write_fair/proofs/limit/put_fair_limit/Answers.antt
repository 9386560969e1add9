use Rattle.std.proofs.Common.{◌++◌, [], ◌∷◌, refl, subst, ℕ, List, map}
use Rattle.std.proofs.lemmas.Result.{err_from_is_err_and}
use Rattle.ice_defs.specs.PricingRun.{Member}
use Rattle.ice_edge.specs.Puts.{Takes, FailsIn}
use Rattle.ice_journal.specs.Records.{limit_end}
use Rattle.ice_journal.specs.Records as line
use Rattle.ice_journal.specs.Journal.{bytes_of}
use Rattle.ice_write.proofs.Loops.{fails_as, first_fails, then_fails, takes_both, then_put}
use Rattle.ice_write_session.specs.Records.{member_record}
use Rattle.ice_write_fair.specs.Lines.{limit_line, fair_limit_lines}
use Rattle.ice_write_fair.proofs.limit.put_fair_limit.Goals as goal

pub returns-in_err-put_stage : goal.returns-in_err-put_stage
returns-in_err-put_stage g c =
    let x = c.args.limit.now in
    let first : List ℕ = limit_line x in
    let second : List ℕ = bytes_of (map member_record x.pool.items) in
    let third : List ℕ = bytes_of (line.end limit_end ∷ []) in
    let p = err_from_is_err_and c.from_residual.result c.from_residual.ensures.1 in
    fails_as (fair_limit_lines x) (fair_limit_lines x) c.from_residual.result p.0 p.1 refl (first_fails (first ++ second) third (first_fails first second c.in_err-put_stage.ensures))

pub returns-in_err-put_pool : goal.returns-in_err-put_pool
returns-in_err-put_pool g c =
    let x = c.args.limit.now in
    let old = g.K.Sink.taken c.put_stage.new.out in
    let first : List ℕ = limit_line x in
    let second : List ℕ = bytes_of (map member_record x.pool.items) in
    let third : List ℕ = bytes_of (line.end limit_end ∷ []) in
    let p = err_from_is_err_and c.from_residual-in_err-put_pool.result c.from_residual-in_err-put_pool.ensures.1 in
    let fails : FailsIn second old (g.K.Sink.taken c.put_pool.new.out) =
    subst (λ (pool : List Member). FailsIn (bytes_of (map member_record pool)) old (g.K.Sink.taken c.put_pool.new.out)) c.deref.ensures.value c.in_err-put_pool.ensures in
    fails_as (fair_limit_lines x) (fair_limit_lines x) c.from_residual-in_err-put_pool.result p.0 p.1 refl (first_fails (first ++ second) third (then_fails first second c.in_ok-put_stage.ensures fails))

pub returns : goal.returns
returns g c =
    let x = c.args.limit.now in
    let old = g.K.Sink.taken c.put_stage.new.out in
    let first : List ℕ = limit_line x in
    let second : List ℕ = bytes_of (map member_record x.pool.items) in
    let third : List ℕ = bytes_of (line.end limit_end ∷ []) in
    let takes : Takes second old (g.K.Sink.taken c.put_pool.new.out) =
    subst (λ (pool : List Member). Takes (bytes_of (map member_record pool)) old (g.K.Sink.taken c.put_pool.new.out)) c.deref.ensures.value c.in_ok-put_pool.ensures in
    then_put (first ++ second) third c.put_end.result (g.K.Sink.taken c.put_end.new.out) (takes_both first second c.in_ok-put_stage.ensures takes) c.put_end.ensures
