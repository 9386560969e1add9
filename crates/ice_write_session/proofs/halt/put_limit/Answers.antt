use Rattle.std.proofs.Common.{◌∷◌, ◌++◌, [], List, map}
use Rattle.std.proofs.lemmas.Result.{err_from_is_err_and}
use Rattle.ice_journal.specs.Records.{Record}
use Rattle.ice_journal.specs.Records as line
use Rattle.ice_journal.specs.Records.{limit_end}
use Rattle.ice_defs.specs.PricingLimit.{stage_of, limit_of}
use Rattle.ice_write_session.specs.Records.{member_record}
use Rattle.ice_write_session.proofs.Puts.{fails_first, fails_then, takes_then, put_last, put_failed, takes_of, fails_of}
use Rattle.ice_write_session.proofs.halt.put_limit.Goals as goal

pub returns-in_err-put_stage : goal.returns-in_err-put_stage
returns-in_err-put_stage g c =
    let l = c.args.limit.now in
    let first : List Record = line.limit (stage_of l.stage) (limit_of l.kind) l.delta l.den ∷ [] in
    let second : List Record = map member_record l.pool.items in
    let third : List Record = line.end limit_end ∷ [] in
    let p = err_from_is_err_and c.from_residual.result c.from_residual.ensures.1 in
    put_failed ((first ++ second) ++ third) c.from_residual.result p.0 p.1 (fails_first (first ++ second) third (fails_first first second c.in_err-put_stage.ensures))

pub returns-in_err-put_pool : goal.returns-in_err-put_pool
returns-in_err-put_pool g c =
    let l = c.args.limit.now in
    let first : List Record = line.limit (stage_of l.stage) (limit_of l.kind) l.delta l.den ∷ [] in
    let second : List Record = map member_record l.pool.items in
    let third : List Record = line.end limit_end ∷ [] in
    let p = err_from_is_err_and c.from_residual-in_err-put_pool.result c.from_residual-in_err-put_pool.ensures.1 in
    put_failed ((first ++ second) ++ third) c.from_residual-in_err-put_pool.result p.0 p.1 (fails_first (first ++ second) third (fails_then first second c.in_ok-put_stage.ensures (fails_of (map member_record) c.deref.result.now l.pool.items c.deref.ensures.value c.in_err-put_pool.ensures)))

pub returns : goal.returns
returns g c =
    let l = c.args.limit.now in
    let first : List Record = line.limit (stage_of l.stage) (limit_of l.kind) l.delta l.den ∷ [] in
    let second : List Record = map member_record l.pool.items in
    let third : List Record = line.end limit_end ∷ [] in
    put_last (first ++ second) third c.put_end.result (g.K.Sink.taken c.put_end.new.out) (takes_then first second c.in_ok-put_stage.ensures (takes_of (map member_record) c.deref.result.now l.pool.items c.deref.ensures.value c.in_ok-put_pool.ensures)) c.put_end.ensures
