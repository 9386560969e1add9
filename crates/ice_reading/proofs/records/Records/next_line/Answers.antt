use Rattle.std.proofs.Common.{◌∙◌, sym, refl}
use Rattle.ice_reading.proofs.First.{has_line, cut_line}
use Rattle.ice_reading.proofs.records.Records.next_line.Goals as goal

pub returns-clause-next : goal.returns-clause-next
returns-clause-next c =
    has_line c.args.self.now c.in_ok-text.text.now c.in_ok-text.after.now _ (sym c.self.view_is ∙ c.in_ok-text.ensures.0) c.in_ok-text.ensures.1 (cut_line _ c.in_ok-text.text.now c.in_ok-text.after.now _ c.in_ok-text.ensures.0 refl)
