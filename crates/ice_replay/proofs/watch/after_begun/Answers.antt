use Rattle.std.proofs.Common.{sym}
use Rattle.ice_journal.specs.Lines.{record_of}
use Rattle.ice_replay.proofs.Following.{begun_stays, prices_come}
use Rattle.ice_replay.proofs.watch.after_begun.Goals as goal

pub returns-then-not-awaits_prices : goal.returns-then-not-awaits_prices
returns-then-not-awaits_prices c = λ number. begun_stays number c.args.checker.now (record_of c.args.line.now) c.args.replay (λ p come. sym (c.if-not-awaits_prices.ensures p come))

pub returns : goal.returns
returns c = λ number. prices_come number c.args.checker.now (record_of c.args.line.now) c.args.replay c.prices_in-replay.result (λ p come. sym (c.if-not-awaits_prices.ensures p come)) c.prices_in-replay.ensures
