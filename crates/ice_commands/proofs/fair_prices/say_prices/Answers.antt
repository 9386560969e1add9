use Rattle.std.proofs.Common.{subst}
use Rattle.ice_edge.specs.declared.status.Status.TheVariants.{Done}
use Rattle.ice_defs.specs.Lawful.{IsExchange}
use Rattle.ice_write_fair.specs.Lines.{fair_lines}
use Rattle.ice_command_parts.proofs.Writing.{put_said}
use Rattle.ice_commands.proofs.FairWritable.{fair_may_be_written}
use Rattle.ice_commands.proofs.fair_prices.say_prices.Goals as goal

pub put_fair-requires : goal.put_fair-requires
put_fair-requires g c =
    fair_may_be_written c.args.last.now (subst IsExchange c.exchange.ensures.value c.bidders-bidders.ensures.lawful) c.requires.trees c.exchange.ensures.lawful c.args.fair.now c.den-den.ensures.limits.den.1 c.requires.found

pub returns-clause-said : goal.returns-clause-said
returns-clause-said g c =
    put_said c.put_fair.result (fair_lines c.args.fair.now) Done c.ended.result (g.K.Sink.taken c.args.out.now) (g.K.Sink.taken c.put_fair.new.out) c.put_fair.ensures c.ended.ensures
