-- A journal that has not ended leaves no session.
use Rattle.std.proofs.Common.{◌≡◌, ◌≢◌, ◌∙◌, ap}
use Rattle.std.specs.Prelude.{None}
use Rattle.ice_journal_laws.specs.State.{State}
use Rattle.ice_journal_laws.specs.Progress.{passing}
use Rattle.ice_check_records.specs.declared.next.Next.TheVariants as coming
use Rattle.ice_check_records.specs.declared.groups.Groups.{Groups}
use Rattle.ice_check_records.specs.Closed.{TellsSession}
use Rattle.ice_check_records.proofs.Ending.{none_yet}

same_state : (s t : State) → passing s ≡ passing t → s ≡ t
same_state s t e = cc

pub not_ended : (g : Groups) → g.next ≢ coming.Nothing → TellsSession g None
not_ended g more s stands t same place kind = none_yet g more s stands (ap (λ (u : State). u.place) (same_state s t same) ∙ place)
