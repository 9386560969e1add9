use Rattle.std.proofs.Common.{◌∷◌, ◌++◌, [], List, length, map, append_assoc}
use Rattle.std.proofs.lemmas.Result.{err_from_is_err_and}
use Rattle.ice_journal.specs.Records.{Record}
use Rattle.ice_journal.specs.Records as line
use Rattle.ice_defs.specs.Exchange.{exact_of}
use Rattle.ice_journal.specs.Records.{version_2}
use Rattle.ice_journal.proofs.Tested.{prices_are}
use Rattle.ice_journal_laws.specs.Written.{row_record}
use Rattle.ice_journal_laws.specs.ShowingSession.{opening_in}
use Rattle.ice_settled.specs.Shown.{going_of}
use Rattle.ice_write_session.specs.Records.{regret_records, provisional_records, pricing_records}
use Rattle.ice_write_session.proofs.Puts.{fails_first, fails_then, put_last, put_failed, put_in_words}
use Rattle.ice_write_session.proofs.opening.put_opening.Goals as goal

pub returns-in_err-put_settlement-clause-put : goal.returns-in_err-put_settlement-clause-put
returns-in_err-put_settlement-clause-put g c =
    let ex = c.args.exchange.now in
    let o = c.args.opening.now in
    let first : List Record = line.settle o.number ∷ regret_records ex o.best o.regret in
    let second : List Record = opening_in version_2 (length (exact_of ex)) (going_of o []) in
    let p = err_from_is_err_and c.from_residual.result c.from_residual.ensures.1 in
    put_failed (first ++ second) c.from_residual.result p.0 p.1 (fails_first first second c.in_err-put_settlement.ensures)

pub returns-in_err-put_provisional-clause-put : goal.returns-in_err-put_provisional-clause-put
returns-in_err-put_provisional-clause-put g c =
    let ex = c.args.exchange.now in
    let o = c.args.opening.now in
    let first : List Record = line.settle o.number ∷ regret_records ex o.best o.regret in
    let offered : List Record = provisional_records ex o.provisional in
    let accurate : List Record = line.prices o.pricing.prices ∷ line.accuracy o.pricing.delta o.pricing.accuracy.den ∷ map row_record o.pricing.accuracy.rows in
    let balanced : List Record = line.balance o.pricing.balance.den ∷ map row_record o.pricing.balance.rows in
    let p = err_from_is_err_and c.from_residual-in_err-put_provisional.result c.from_residual-in_err-put_provisional.ensures.1 in
    put_failed (first ++ ((offered ++ accurate) ++ balanced)) c.from_residual-in_err-put_provisional.result p.0 p.1
    (fails_then first ((offered ++ accurate) ++ balanced) c.in_ok-put_settlement.ensures (fails_first (offered ++ accurate) balanced (fails_first offered accurate c.in_err-put_provisional.ensures)))

pub returns-clause-put : goal.returns-clause-put
returns-clause-put g c =
    let ex = c.args.exchange.now in
    let o = c.args.opening.now in
    let first : List Record = line.settle o.number ∷ regret_records ex o.best o.regret in
    let offered : List Record = provisional_records ex o.provisional in
    let accurate : List Record = line.prices o.pricing.prices ∷ line.accuracy o.pricing.delta o.pricing.accuracy.den ∷ map row_record o.pricing.accuracy.rows in
    let balanced : List Record = line.balance o.pricing.balance.den ∷ map row_record o.pricing.balance.rows in
    let new = g.K.Sink.taken c.put_pricing.new.out in
    put_last first ((offered ++ accurate) ++ balanced) c.put_pricing.result new c.in_ok-put_settlement.ensures
    (put_in_words ((offered ++ accurate) ++ balanced) (offered ++ pricing_records o.pricing) c.put_pricing.result (g.K.Sink.taken c.put_settlement.new.out) new (append_assoc offered accurate balanced)
    (put_last offered (pricing_records o.pricing) c.put_pricing.result new c.in_ok-put_provisional.ensures c.put_pricing.ensures.put))

pub returns-in_err-put_settlement-clause-prices : goal.returns-in_err-put_settlement-clause-prices
returns-in_err-put_settlement-clause-prices g c = prices_are c.args.opening.now.pricing.prices c.den-den.ensures.limits

pub returns-in_err-put_provisional-clause-prices : goal.returns-in_err-put_provisional-clause-prices
returns-in_err-put_provisional-clause-prices g c = prices_are c.args.opening.now.pricing.prices c.den-den.ensures.limits

pub returns-clause-prices : goal.returns-clause-prices
returns-clause-prices g c = c.put_pricing.ensures.prices
