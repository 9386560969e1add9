-- The audit of bytes has one answer, and it is yes to every text that a statement has.
use Rattle.std.proofs.Common.{◌≡◌, List, refl, sym, ap, subst, ◌∙◌}
use Rattle.std.specs.Prelude.{Some, None}
use Rattle.std.proofs.lemmas.Option.{none-some, same_Some}
use Rattle.ice_journal.specs.Records.{Record}
use Rattle.ice_journal.specs.Ranges.{IsRecord}
use Rattle.ice_journal.specs.Spelling.{text_of}
use Rattle.ice_journal.proofs.Journals.{IsOneLine}
use Rattle.ice_statement_laws.specs.Statement.{StatementLine}
use Rattle.ice_statement_laws.specs.Audit.{IsAudit}
use Rattle.ice_statement_laws.specs.Texts.{paid_in, yes, no, at_fault, out_of_memory}
use Rattle.ice_statement_laws.specs.Laws.{AnswerIsOne}
use Rattle.ice_statement_laws.proofs.Deciding.{audit_is_one}
use Rattle.ice_statement_laws.proofs.Spelling.{lines_tell, no_fault, one_fault}

module _ (one_spelling : (a b : Record) → IsRecord a → IsRecord b → text_of a ≡ text_of b → a ≡ b) (record_line : (r : Record) → IsRecord r → IsOneLine (text_of r)) where
  pub answer_is_one : AnswerIsOne
  answer_is_one bytes (yes p) (yes q) (ls, is, h, paid) (ms, is', h', paid') m n =
      ap yes (same_Some p q (sym paid ∙ ap paid_in (lines_tell one_spelling record_line bytes ls ms is is') ∙ paid'))
  answer_is_one bytes (yes p) (no f) (ls, is, h, paid) (ms, is', h') m n =
      absurd (none-some f (audit_is_one ms None (Some f) (subst (λ (xs : List StatementLine). IsAudit xs None) (lines_tell one_spelling record_line bytes ls ms is is') h) h'))
  answer_is_one bytes (yes p) (at_fault f) (ls, is, h, paid) g m n = absurd (no_fault one_spelling record_line bytes ls f is g)
  answer_is_one bytes (no f) (yes q) (ms, is', h') (ls, is, h, paid) m n =
      absurd (none-some f (audit_is_one ms None (Some f) (subst (λ (xs : List StatementLine). IsAudit xs None) (lines_tell one_spelling record_line bytes ls ms is is') h) h'))
  answer_is_one bytes (no f) (no g) (ls, is, h) (ms, is', h') m n =
      ap no (same_Some f g (audit_is_one ms (Some f) (Some g) (subst (λ (xs : List StatementLine). IsAudit xs (Some f)) (lines_tell one_spelling record_line bytes ls ms is is') h) h'))
  answer_is_one bytes (no f) (at_fault g) (ls, is, h) k m n = absurd (no_fault one_spelling record_line bytes ls g is k)
  answer_is_one bytes (at_fault f) (yes q) g (ls, is, h, paid) m n = absurd (no_fault one_spelling record_line bytes ls f is g)
  answer_is_one bytes (at_fault f) (no g) k (ls, is, h) m n = absurd (no_fault one_spelling record_line bytes ls f is k)
  answer_is_one bytes (at_fault f) (at_fault g) h k m n = ap at_fault (one_fault one_spelling record_line bytes f g h k)
  answer_is_one bytes out_of_memory other h k m n = absurd (m refl)
  answer_is_one bytes one out_of_memory h k m n = absurd (n refl)
