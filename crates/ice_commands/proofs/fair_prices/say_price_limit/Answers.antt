use Rattle.std.proofs.Common.{subst}
use Rattle.ice_edge.specs.declared.status.Status.TheVariants.{Limit}
use Rattle.ice_defs.specs.Lawful.{IsExchange}
use Rattle.ice_journal.specs.Journal.{bytes_of}
use Rattle.ice_write_session.specs.Records.{limit_records}
use Rattle.ice_command_parts.proofs.Writing.{put_said}
use Rattle.ice_commands.proofs.FairWritable.{price_limit_may_be_written}
use Rattle.ice_commands.proofs.fair_prices.say_price_limit.Goals as goal

pub put_limit-requires : goal.put_limit-requires
put_limit-requires g c =
    price_limit_may_be_written c.args.last.now (subst IsExchange c.exchange.ensures.value c.bidders-bidders.ensures.lawful) c.requires.trees c.exchange.ensures.lawful c.args.limit.now c.requires.ended

pub returns : goal.returns
returns g c =
    put_said c.put_limit.result (bytes_of (limit_records c.args.limit.now)) Limit c.ended.result (g.K.Sink.taken c.args.out.now) (g.K.Sink.taken c.put_limit.new.out) c.put_limit.ensures c.ended.ensures
