use Rattle.std.proofs.Common.{◌≡◌, refl, subst}
use Rattle.std.specs.Prelude.{Some}
use Rattle.ice_journal.specs.declared.line.Line.{Line}
use Rattle.ice_journal.specs.Lines.{record_of}
use Rattle.ice_journal_laws.specs.Next.{next}
use Rattle.ice_migrate.proofs.Stopping.{limit_place, other_place, no_spent, no_limit}
use Rattle.ice_migrate.proofs.place.Place.behind.Goals as goal

pub returns-in-Limit-clause-place : goal.returns-in-Limit-clause-place
returns-in-Limit-clause-place c = λ s after stop e. limit_place s after _ _ _ _ (subst (λ (l : Line). next s (record_of l) ≡ Some after) c.in-Limit.is e)

pub returns-in_default : goal.returns-in_default
returns-in_default c = record {
  place = λ s after stop e. other_place s after (record_of c.args.first.now) (no_spent c.args.first.now c.in_default.not-Spent) (no_limit c.args.first.now c.in_default.not-Limit) stop e;
  none = refl;
}
