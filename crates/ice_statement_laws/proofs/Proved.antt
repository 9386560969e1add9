-- The laws, with what other crates prove put in.
use Rattle.std.specs.Prelude.{Ok}
use Rattle.ice_journal.proofs.OneSpelling.{one_spelling}
use Rattle.ice_journal.proofs.Journals.{record_line, one_answer as bytes_tell}
use Rattle.ice_section.proofs.Describing.{described_are_taken, described_are_records}
use Rattle.ice_section.proofs.Whole.{section_is_lawful, section_records_are}
use Rattle.ice_journal_laws.proofs.Answered.{ok_same}
use Rattle.ice_statement_laws.specs.Laws.{RightPartsPass, StatementsPass, AnswerIsOne, AuditSaysYes, YesIsRight, StatementIsOne, BytesTellJournals}
use Rattle.ice_statement_laws.proofs.Accepting as accepting
use Rattle.ice_statement_laws.proofs.Answering as answering
use Rattle.ice_statement_laws.proofs.Whole as whole
use Rattle.ice_statement_laws.proofs.Beginning as beginning
use Rattle.ice_statement_laws.proofs.Gathered as gathered

one_journal : BytesTellJournals
one_journal bytes one other is is_other = ok_same one other (bytes_tell bytes (Ok one) (Ok other) is is_other)

pub right_parts_pass : RightPartsPass
right_parts_pass = accepting.right_parts_pass described_are_taken

pub statements_pass : StatementsPass
statements_pass = accepting.statements_pass described_are_taken

pub answer_is_one : AnswerIsOne
answer_is_one = answering.answer_is_one one_spelling record_line

pub audit_says_yes : AuditSaysYes
audit_says_yes = whole.audit_says_yes described_are_taken described_are_records one_spelling record_line

pub yes_is_right : YesIsRight
yes_is_right = beginning.yes_is_right section_is_lawful section_records_are described_are_taken

pub statement_is_one : StatementIsOne
statement_is_one = gathered.statement_is_one one_journal
