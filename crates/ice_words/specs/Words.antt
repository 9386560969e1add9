-- The command that the program's words are.
use Rattle.std.specs.Prelude.{map, string_bytes}
use Rattle.ice_words.specs.declared.command.Command as declared
use Rattle.ice_words.specs.declared.command.Command.TheVariants as called
use Rattle.ice_words.specs.Command.{Command, check, best, regret, xor, run, gen, migrate, simulate, replay, statement, audit, fair, gap}

abbrev pub command_of : declared.Command → Command
command_of (called.Check journal) = check journal.now
command_of (called.Best exchange prices) = best exchange.now prices.now
command_of (called.Regret exchange) = regret exchange.now
command_of (called.Xor file) = xor file.now
command_of (called.Replay journal number) = replay journal.now number
command_of (called.Run exchange rounds) = run exchange.now (map string_bytes rounds.now)
command_of (called.Gen number) = gen number
command_of (called.Migrate journal) = migrate journal.now
command_of (called.Simulate exchange truths) = simulate exchange.now truths.now
command_of (called.Statement journal name) = statement journal.now name.now
command_of (called.Audit file) = audit file.now
command_of (called.Fair journal) = fair journal.now
command_of (called.Gap journal) = gap journal.now
