use Rattle.ice_statement_laws.proofs.Proved.{audit_says_yes}
use Rattle.ice_statement_laws.proofs.audit_says_yes.Goals as goal

pub returns : goal.returns
returns c = audit_says_yes
