use Rattle.std.proofs.Common.{subst}
use Rattle.ice_edge.specs.declared.status.Status.TheVariants.{Limit}
use Rattle.ice_defs.specs.Lawful.{IsExchange}
use Rattle.ice_write_fair.specs.Lines.{fair_limit_lines}
use Rattle.ice_command_parts.proofs.Writing.{put_said}
use Rattle.ice_commands.proofs.FairWritable.{fair_limit_may_be_written}
use Rattle.ice_commands.proofs.fair_prices.say_fair_limit.Goals as goal

pub put_fair_limit-requires : goal.put_fair_limit-requires
put_fair_limit-requires g c =
    fair_limit_may_be_written c.args.last.now (subst IsExchange c.exchange.ensures.value c.bidders-bidders.ensures.lawful) c.requires.trees c.exchange.ensures.lawful c.args.limit.now c.requires.ended

pub returns : goal.returns
returns g c =
    put_said c.put_fair_limit.result (fair_limit_lines c.args.limit.now) Limit c.ended.result (g.K.Sink.taken c.args.out.now) (g.K.Sink.taken c.put_fair_limit.new.out) c.put_fair_limit.ensures c.ended.ensures
