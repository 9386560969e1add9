use Rattle.std.proofs.Common.{◌++◌, refl}
use Rattle.std.proofs.lemmas.Result.{err_from_is_err_and}
use Rattle.ice_write.proofs.Loops.{fails_as, first_fails, then_fails, takes_both, then_put}
use Rattle.ice_replay.specs.Lines.{opening_lines, amount_lines, price_lines, last_line, replay_lines}
use Rattle.ice_replay.proofs.putting.put_replay.Goals as goal

pub returns-in_err-put_opening : goal.returns-in_err-put_opening
returns-in_err-put_opening g c =
    let x = c.args.replay.now in
    let p = err_from_is_err_and c.from_residual.result c.from_residual.ensures.1 in
    fails_as (replay_lines x) (replay_lines x) c.from_residual.result p.0 p.1 refl
    (first_fails (opening_lines x ++ amount_lines x ++ price_lines x.prices) last_line (first_fails (opening_lines x ++ amount_lines x) (price_lines x.prices) (first_fails (opening_lines x) (amount_lines x) c.in_err-put_opening.ensures)))

pub returns-in_err-put_amounts : goal.returns-in_err-put_amounts
returns-in_err-put_amounts g c =
    let x = c.args.replay.now in
    let p = err_from_is_err_and c.from_residual-in_err-put_amounts.result c.from_residual-in_err-put_amounts.ensures.1 in
    fails_as (replay_lines x) (replay_lines x) c.from_residual-in_err-put_amounts.result p.0 p.1 refl
    (first_fails (opening_lines x ++ amount_lines x ++ price_lines x.prices) last_line
    (first_fails (opening_lines x ++ amount_lines x) (price_lines x.prices) (then_fails (opening_lines x) (amount_lines x) c.in_ok-put_opening.ensures c.in_err-put_amounts.ensures)))

pub returns-in_err-put_prices : goal.returns-in_err-put_prices
returns-in_err-put_prices g c =
    let x = c.args.replay.now in
    let p = err_from_is_err_and c.from_residual-in_err-put_prices.result c.from_residual-in_err-put_prices.ensures.1 in
    fails_as (replay_lines x) (replay_lines x) c.from_residual-in_err-put_prices.result p.0 p.1 refl
    (first_fails (opening_lines x ++ amount_lines x ++ price_lines x.prices) last_line
    (then_fails (opening_lines x ++ amount_lines x) (price_lines x.prices) (takes_both (opening_lines x) (amount_lines x) c.in_ok-put_opening.ensures c.in_ok-put_amounts.ensures) c.in_err-put_prices.ensures))

pub returns : goal.returns
returns g c =
    let x = c.args.replay.now in
    then_put (opening_lines x ++ amount_lines x ++ price_lines x.prices) last_line c.put_end.result (g.K.Sink.taken c.put_end.new.out)
    (takes_both (opening_lines x ++ amount_lines x) (price_lines x.prices) (takes_both (opening_lines x) (amount_lines x) c.in_ok-put_opening.ensures c.in_ok-put_amounts.ensures) c.in_ok-put_prices.ensures) c.put_end.ensures
