use Rattle.std.proofs.Common.{sym, ap, ◌∙◌, rules}
use Rattle.ice_line.specs.Fields.{fields_left}
use Rattle.ice_line.proofs.Parts.{fields_some}
use Rattle.ice_line.proofs.fields.Fields.is_end.Goals as goal

pub returns-in-Some : goal.returns-in-Some
returns-in-Some c =
    (λ h. search rules, λ e. absurd (fields_some c.in-Some.field-0.now (ap fields_left (sym c.in-Some.is) ∙ c.self.view_is ∙ e)))
