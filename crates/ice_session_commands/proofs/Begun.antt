-- The exchange of a file begins the journal.
use Rattle.std.proofs.Common.{◌≡◌, ℕ, List, ◌++◌, Ok, inr}
use Rattle.ice_defs.specs.Exchange.{Exchange}
use Rattle.ice_journal.specs.Records.{Record, session_kind}
use Rattle.ice_session_laws.specs.Written.{begun_records}
use Rattle.ice_command_parts.specs.Call.{Call, file_limit, OfFile}
use Rattle.ice_command_parts.specs.Files.{IsExchangeOf}
use Rattle.ice_command_parts.specs.Journals.{HasExchangeOf}
use Rattle.ice_command_parts.proofs.Parts.{told_also}

-- and more is written behind it
pub has_exchange : (call : Call) (name : List ℕ) (ex : Exchange) (journal rest : List Record) → OfFile call name file_limit (λ bytes. IsExchangeOf bytes (Ok ex)) → journal ≡ begun_records ex ++ rest → HasExchangeOf call name session_kind journal
has_exchange call name ex journal rest told e = told_also (call.before.holds name) file_limit (λ bytes. IsExchangeOf bytes (Ok ex)) _ (λ bytes is. (ex, is, inr (rest, e))) told
