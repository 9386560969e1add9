use Rattle.std.proofs.Common.{◌<◌, refl, sym, length, map, arith}
use Rattle.std.specs.List.{flat_map}
use Rattle.std.proofs.lemmas.Result.{err_from_is_err_and}
use Rattle.ice_journal.specs.Journal.{bytes_of}
use Rattle.ice_write_session.specs.Records.{member_record}
use Rattle.ice_write.proofs.Loops.{fails_as, takes_as, one_more, one_fails, all_put, bytes_map, next_all}
use Rattle.ice_write_session.specs.Pieces.{member_text}
use Rattle.ice_write_session.specs.Writable.{IsWritableMember}
use Rattle.ice_write_session.proofs.halt.put_pool.Goals as goal

pub returns-in_err-put_member : goal.returns-in_err-put_member
returns-in_err-put_member g c =
    let pool = c.args.pool.now in
    let i = c.loop-member.member-index in
    let x = c.member-item.result in
    let there : i < length pool = omega arith in
    let p = err_from_is_err_and c.from_residual.result c.from_residual.ensures.1 in
    fails_as (bytes_of (map member_record pool)) (flat_map member_text pool) c.from_residual.result p.0 p.1 (bytes_map member_record pool)
    (one_fails member_text pool i x there (sym c.member-item.is) (member_text x) (flat_map member_text pool) refl c.loop-member.invariant.left c.in_err-put_member.ensures)

pub loop-member-preserved : goal.loop-member-preserved
loop-member-preserved g c =
    let pool = c.args.pool.now in
    let i = c.loop-member.member-index in
    let x = c.member-item.result in
    let there : i < length pool = omega arith in
    record {
      pool = (next_all IsWritableMember pool i x there c.loop-member.invariant.pool).1;
      left = one_more member_text pool i x there (sym c.member-item.is) (member_text x) (flat_map member_text pool) refl c.loop-member.invariant.left c.in_ok-put_member.ensures;
    }

pub returns : goal.returns
returns g c =
    let pool = c.args.pool.now in
    takes_as (bytes_of (map member_record pool)) (flat_map member_text pool) (bytes_map member_record pool)
    (all_put member_text pool c.loop-member.member-index (flat_map member_text pool) (omega arith) c.loop-member.invariant.left)
