-- To every text that a statement has the audit says yes.
use Rattle.std.proofs.Common.{◌≡◌, ℕ, List, sym, ap, subst, ◌∙◌}
use Rattle.std.specs.Prelude.{None}
use Rattle.std.specs.List.{AllByRecursion}
use Rattle.ice_journal.specs.Records.{Record}
use Rattle.ice_journal.specs.Ranges.{IsRecord}
use Rattle.ice_journal.specs.Spelling.{text_of}
use Rattle.ice_section.specs.Laws.{DescribedAreRecords, DescribedAreTaken}
use Rattle.ice_statement_laws.specs.Statement.{public_records, Own, StatementLine, statement_lines}
use Rattle.ice_statement_laws.specs.Audit.{IsAudit}
use Rattle.ice_statement_laws.specs.Own.{own_lines, IsRightOwn}
use Rattle.ice_statement_laws.specs.Parts.{part_of}
use Rattle.ice_statement_laws.specs.Texts.{States, IsLine, AreLines, paid_in, yes, AuditsBytes}
use Rattle.ice_statement_laws.specs.Laws.{AuditSaysYes}
use Rattle.ice_statement_laws.proofs.Shown.{plain_shown}
use Rattle.ice_statement_laws.proofs.Tested.{checked_is_stated, settlements_lawful}
use Rattle.ice_statement_laws.proofs.Parting.{part_right}
use Rattle.ice_statement_laws.proofs.Stating.{lines_are_own}
use Rattle.ice_statement_laws.proofs.Ranging.{own_lawful, own_pays}
use Rattle.ice_statement_laws.proofs.Accepting.{right_parts_pass}
use Rattle.ice_journal.proofs.Journals.{IsOneLine}
use Rattle.ice_statement_laws.proofs.Answering.{answer_is_one}

module _ (taken : DescribedAreTaken) (records_of : DescribedAreRecords)
    (one_spelling : (a b : Record) → IsRecord a → IsRecord b → text_of a ≡ text_of b → a ≡ b) (record_line : (r : Record) → IsRecord r → IsOneLine (text_of r)) where
  module _ (bytes name text : List ℕ) (own : Own) (is : States bytes name own text) where
    part_is_right : IsRightOwn (part_of is.own_is.session is.own_is.is_own.number own)
    part_is_right = part_right is.own_is.session name own is.own_is.right (checked_is_stated is.journal is.own_is.session is.checks is.own_is.says) is.own_is.is_own

    lines_same : statement_lines (public_records is.journal) own ≡ own_lines (part_of is.own_is.session is.own_is.is_own.number own)
    lines_same = ap (λ (rs : List Record). statement_lines rs own) (sym (plain_shown is.journal) ∙ ap public_records is.own_is.says) ∙ lines_are_own is.own_is.session name own is.own_is.is_own

    lines_are : AreLines text (statement_lines (public_records is.journal) own)
    lines_are = record {
      lawful = subst (AllByRecursion IsLine) (sym lines_same)
          (own_lawful records_of is.own_is.session own is.own_is.is_own.number (settlements_lawful is.journal is.own_is.session is.spelled.lawful is.checks is.own_is.says) is.own_is.is_own.payment part_is_right);
      spelled = is.text_is;
    }

    accepted : AuditsBytes text (yes own.payment.payment)
    accepted = (
      statement_lines (public_records is.journal) own,
      lines_are,
      subst (λ (ls : List StatementLine). IsAudit ls None) (sym lines_same) (right_parts_pass taken (part_of is.own_is.session is.own_is.is_own.number own) part_is_right),
      ap paid_in lines_same ∙ own_pays (part_of is.own_is.session is.own_is.is_own.number own),
    )

  pub audit_says_yes : AuditSaysYes
  audit_says_yes bytes name text own answer is answered some = answer_is_one one_spelling record_line text answer (yes own.payment.payment) answered (accepted bytes name text own is) some (λ e. absurd cc)
