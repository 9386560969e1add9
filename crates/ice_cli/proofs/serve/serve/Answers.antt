use Rattle.std.proofs.Common.{refl, [], map, string_bytes}
use Rattle.ice_command_parts.specs.Call.{Call}
use Rattle.ice_words.specs.Command.{check, best, regret, xor, run, gen, migrate, simulate, replay, statement, audit, fair, gap}
use Rattle.ice_commands.specs.CheckServed.{CheckAnswers}
use Rattle.ice_commands.specs.BestServed.{BestAnswers}
use Rattle.ice_commands.specs.RegretServed.{RegretAnswers}
use Rattle.ice_commands.specs.XorServed.{XorAnswers}
use Rattle.ice_commands.specs.ReplayServed.{ReplayAnswers}
use Rattle.ice_session_commands.specs.RunServed.{RunAnswers}
use Rattle.ice_session_commands.specs.SimulateServed.{SimulateAnswers}
use Rattle.ice_session_commands.specs.GenServed.{GenAnswers}
use Rattle.ice_commands.specs.MigrateServed.{MigrateAnswers}
use Rattle.ice_commands.specs.StatementServed.{StatementAnswers}
use Rattle.ice_commands.specs.AuditServed.{AuditAnswers}
use Rattle.ice_commands.specs.FairServed.{FairAnswers}
use Rattle.ice_commands.specs.GapServed.{GapAnswers}
use Rattle.ice_session_commands.proofs.Trials.{serves_said}
use Rattle.ice_cli.proofs.Serving.{served, refused_words}
use Rattle.ice_cli.proofs.serve.serve.Goals as goal

pub returns-in-Some-Check-clause-served : goal.returns-in-Some-Check-clause-served
returns-in-Some-Check-clause-served g c =
    let journal = c.in-Some-Check.journal.now in
    let call : Call = record {
      words = map string_bytes c.args.words.now;
      before = g.H.Shelf.told c.args.shelf.now;
      after = g.H.Shelf.told c.check.new.shelf;
      sink_faults = (g.K.Sink.taken c.args.out.now).faults;
      sink_faults_after = (g.K.Sink.taken c.check.new.out).faults;
      text = [];
      status = c.check.result;
    } in
    served call (check journal) (λ one. CheckAnswers one journal) (g.K.Sink.taken c.args.out.now) (g.K.Sink.taken c.check.new.out) refl refl
    (rw c.in-Some-Check.field-0-is at c.in-Some-Check.ensures) (λ text status h. h) c.check.ensures.served

pub returns-in-Some-Best-clause-served : goal.returns-in-Some-Best-clause-served
returns-in-Some-Best-clause-served g c =
    let exchange = c.in-Some-Best.exchange.now in
    let prices = c.in-Some-Best.prices.now in
    let call : Call = record {
      words = map string_bytes c.args.words.now;
      before = g.H.Shelf.told c.args.shelf.now;
      after = g.H.Shelf.told c.best.new.shelf;
      sink_faults = (g.K.Sink.taken c.args.out.now).faults;
      sink_faults_after = (g.K.Sink.taken c.best.new.out).faults;
      text = [];
      status = c.best.result;
    } in
    served call (best exchange prices) (λ one. BestAnswers one exchange prices) (g.K.Sink.taken c.args.out.now) (g.K.Sink.taken c.best.new.out) refl refl
    (rw c.in-Some-Best.field-0-is at c.in-Some-Best.ensures) (λ text status h. h) c.best.ensures.served

pub returns-in-Some-Regret-clause-served : goal.returns-in-Some-Regret-clause-served
returns-in-Some-Regret-clause-served g c =
    let exchange = c.in-Some-Regret.exchange.now in
    let call : Call = record {
      words = map string_bytes c.args.words.now;
      before = g.H.Shelf.told c.args.shelf.now;
      after = g.H.Shelf.told c.regret.new.shelf;
      sink_faults = (g.K.Sink.taken c.args.out.now).faults;
      sink_faults_after = (g.K.Sink.taken c.regret.new.out).faults;
      text = [];
      status = c.regret.result;
    } in
    served call (regret exchange) (λ one. RegretAnswers one exchange) (g.K.Sink.taken c.args.out.now) (g.K.Sink.taken c.regret.new.out) refl refl
    (rw c.in-Some-Regret.field-0-is at c.in-Some-Regret.ensures) (λ text status h. h) c.regret.ensures.served

pub returns-in-Some-Xor-clause-served : goal.returns-in-Some-Xor-clause-served
returns-in-Some-Xor-clause-served g c =
    let file = c.in-Some-Xor.file.now in
    let call : Call = record {
      words = map string_bytes c.args.words.now;
      before = g.H.Shelf.told c.args.shelf.now;
      after = g.H.Shelf.told c.xor.new.shelf;
      sink_faults = (g.K.Sink.taken c.args.out.now).faults;
      sink_faults_after = (g.K.Sink.taken c.xor.new.out).faults;
      text = [];
      status = c.xor.result;
    } in
    served call (xor file) (λ one. XorAnswers one file) (g.K.Sink.taken c.args.out.now) (g.K.Sink.taken c.xor.new.out) refl refl
    (rw c.in-Some-Xor.field-0-is at c.in-Some-Xor.ensures) (λ text status h. h) c.xor.ensures.served

pub returns-in-Some-Replay-clause-served : goal.returns-in-Some-Replay-clause-served
returns-in-Some-Replay-clause-served g c =
    let journal = c.in-Some-Replay.journal.now in
    let number = c.in-Some-Replay.number in
    let call : Call = record {
      words = map string_bytes c.args.words.now;
      before = g.H.Shelf.told c.args.shelf.now;
      after = g.H.Shelf.told c.replay.new.shelf;
      sink_faults = (g.K.Sink.taken c.args.out.now).faults;
      sink_faults_after = (g.K.Sink.taken c.replay.new.out).faults;
      text = [];
      status = c.replay.result;
    } in
    served call (replay journal number) (λ one. ReplayAnswers one journal number) (g.K.Sink.taken c.args.out.now) (g.K.Sink.taken c.replay.new.out) refl refl
    (rw c.in-Some-Replay.field-0-is at c.in-Some-Replay.ensures) (λ text status h. h) c.replay.ensures.served

pub returns-in-Some-Run-clause-served : goal.returns-in-Some-Run-clause-served
returns-in-Some-Run-clause-served g c =
    let exchange = c.in-Some-Run.exchange.now in
    let rounds = map string_bytes c.in-Some-Run.rounds.now in
    let call : Call = record {
      words = map string_bytes c.args.words.now;
      before = g.H.Shelf.told c.args.shelf.now;
      after = g.H.Shelf.told c.run.new.shelf;
      sink_faults = (g.K.Sink.taken c.args.out.now).faults;
      sink_faults_after = (g.K.Sink.taken c.run.new.out).faults;
      text = [];
      status = c.run.result;
    } in
    served call (run exchange rounds) (λ one. RunAnswers one exchange rounds) (g.K.Sink.taken c.args.out.now) (g.K.Sink.taken c.run.new.out) refl refl
    (rw c.in-Some-Run.field-0-is at c.in-Some-Run.ensures) (λ text status h. h) c.run.ensures.served

pub returns-in-Some-Gen-clause-served : goal.returns-in-Some-Gen-clause-served
returns-in-Some-Gen-clause-served g c =
    let number = c.in-Some-Gen.number in
    let shelf = g.H.Shelf.told c.args.shelf.now in
    let call : Call = record {
      words = map string_bytes c.args.words.now;
      before = g.H.Shelf.told c.args.shelf.now;
      after = g.H.Shelf.told c.args.shelf.now;
      sink_faults = (g.K.Sink.taken c.args.out.now).faults;
      sink_faults_after = (g.K.Sink.taken c.generated.new.out).faults;
      text = [];
      status = c.generated.result;
    } in
    served call (gen number) (λ one. GenAnswers one.text number) (g.K.Sink.taken c.args.out.now) (g.K.Sink.taken c.generated.new.out) refl refl
    (rw c.in-Some-Gen.field-0-is at c.in-Some-Gen.ensures) (λ text status h. h)
    (serves_said (λ text. GenAnswers text number) shelf shelf (g.K.Sink.taken c.args.out.now) (g.K.Sink.taken c.generated.new.out)
    c.generated.result c.generated.ensures)

pub returns-in-Some-Migrate-clause-served : goal.returns-in-Some-Migrate-clause-served
returns-in-Some-Migrate-clause-served g c =
    let journal = c.in-Some-Migrate.journal.now in
    let call : Call = record {
      words = map string_bytes c.args.words.now;
      before = g.H.Shelf.told c.args.shelf.now;
      after = g.H.Shelf.told c.migrate.new.shelf;
      sink_faults = (g.K.Sink.taken c.args.out.now).faults;
      sink_faults_after = (g.K.Sink.taken c.migrate.new.out).faults;
      text = [];
      status = c.migrate.result;
    } in
    served call (migrate journal) (λ one. MigrateAnswers one journal) (g.K.Sink.taken c.args.out.now) (g.K.Sink.taken c.migrate.new.out) refl refl
    (rw c.in-Some-Migrate.field-0-is at c.in-Some-Migrate.ensures) (λ text status h. h) c.migrate.ensures.served

pub returns-in-Some-Statement-clause-served : goal.returns-in-Some-Statement-clause-served
returns-in-Some-Statement-clause-served g c =
    let journal = c.in-Some-Statement.journal.now in
    let name = c.in-Some-Statement.name.now in
    let call : Call = record {
      words = map string_bytes c.args.words.now;
      before = g.H.Shelf.told c.args.shelf.now;
      after = g.H.Shelf.told c.statement.new.shelf;
      sink_faults = (g.K.Sink.taken c.args.out.now).faults;
      sink_faults_after = (g.K.Sink.taken c.statement.new.out).faults;
      text = [];
      status = c.statement.result;
    } in
    served call (statement journal name) (λ one. StatementAnswers one journal name) (g.K.Sink.taken c.args.out.now) (g.K.Sink.taken c.statement.new.out) refl refl
    (rw c.in-Some-Statement.field-0-is at c.in-Some-Statement.ensures) (λ text status h. h) c.statement.ensures.served

pub returns-in-Some-Simulate-clause-served : goal.returns-in-Some-Simulate-clause-served
returns-in-Some-Simulate-clause-served g c =
    let exchange = c.in-Some-Simulate.exchange.now in
    let truths = c.in-Some-Simulate.truths.now in
    let call : Call = record {
      words = map string_bytes c.args.words.now;
      before = g.H.Shelf.told c.args.shelf.now;
      after = g.H.Shelf.told c.simulate.new.shelf;
      sink_faults = (g.K.Sink.taken c.args.out.now).faults;
      sink_faults_after = (g.K.Sink.taken c.simulate.new.out).faults;
      text = [];
      status = c.simulate.result;
    } in
    served call (simulate exchange truths) (λ one. SimulateAnswers one exchange truths) (g.K.Sink.taken c.args.out.now) (g.K.Sink.taken c.simulate.new.out) refl refl
    (rw c.in-Some-Simulate.field-0-is at c.in-Some-Simulate.ensures) (λ text status h. h) c.simulate.ensures.served

pub returns-in-Some-Audit-clause-served : goal.returns-in-Some-Audit-clause-served
returns-in-Some-Audit-clause-served g c =
    let file = c.in-Some-Audit.file.now in
    let call : Call = record {
      words = map string_bytes c.args.words.now;
      before = g.H.Shelf.told c.args.shelf.now;
      after = g.H.Shelf.told c.audit.new.shelf;
      sink_faults = (g.K.Sink.taken c.args.out.now).faults;
      sink_faults_after = (g.K.Sink.taken c.audit.new.out).faults;
      text = [];
      status = c.audit.result;
    } in
    served call (audit file) (λ one. AuditAnswers one file) (g.K.Sink.taken c.args.out.now) (g.K.Sink.taken c.audit.new.out) refl refl
    (rw c.in-Some-Audit.field-0-is at c.in-Some-Audit.ensures) (λ text status h. h) c.audit.ensures.served

pub returns-in-Some-Fair-clause-served : goal.returns-in-Some-Fair-clause-served
returns-in-Some-Fair-clause-served g c =
    let journal = c.in-Some-Fair.journal.now in
    let call : Call = record {
      words = map string_bytes c.args.words.now;
      before = g.H.Shelf.told c.args.shelf.now;
      after = g.H.Shelf.told c.fair.new.shelf;
      sink_faults = (g.K.Sink.taken c.args.out.now).faults;
      sink_faults_after = (g.K.Sink.taken c.fair.new.out).faults;
      text = [];
      status = c.fair.result;
    } in
    served call (fair journal) (λ one. FairAnswers one journal) (g.K.Sink.taken c.args.out.now) (g.K.Sink.taken c.fair.new.out) refl refl
    (rw c.in-Some-Fair.field-0-is at c.in-Some-Fair.ensures) (λ text status h. h) c.fair.ensures.served

pub returns-in-Some-Gap-clause-served : goal.returns-in-Some-Gap-clause-served
returns-in-Some-Gap-clause-served g c =
    let journal = c.in-Some-Gap.journal.now in
    let call : Call = record {
      words = map string_bytes c.args.words.now;
      before = g.H.Shelf.told c.args.shelf.now;
      after = g.H.Shelf.told c.gap.new.shelf;
      sink_faults = (g.K.Sink.taken c.args.out.now).faults;
      sink_faults_after = (g.K.Sink.taken c.gap.new.out).faults;
      text = [];
      status = c.gap.result;
    } in
    served call (gap journal) (λ one. GapAnswers one journal) (g.K.Sink.taken c.args.out.now) (g.K.Sink.taken c.gap.new.out) refl refl
    (rw c.in-Some-Gap.field-0-is at c.in-Some-Gap.ensures) (λ text status h. h) c.gap.ensures.served

pub returns-in-None-clause-served : goal.returns-in-None-clause-served
returns-in-None-clause-served g c =
    let shelf = g.H.Shelf.told c.args.shelf.now in
    let call : Call = record {
      words = map string_bytes c.args.words.now;
      before = shelf;
      after = shelf;
      sink_faults = (g.K.Sink.taken c.args.out.now).faults;
      sink_faults_after = (g.K.Sink.taken c.refuse_words.new.out).faults;
      text = [];
      status = c.refuse_words.result;
    } in
    refused_words call (g.K.Sink.taken c.args.out.now) (g.K.Sink.taken c.refuse_words.new.out) refl refl c.in-None.ensures refl c.refuse_words.ensures
