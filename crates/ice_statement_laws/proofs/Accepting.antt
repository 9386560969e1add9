-- The audit accepts the lines of a right statement.
use Rattle.std.proofs.Common.{◌≡◌, ℕ, suc, List, [], pos, refl, sym, ◌∙◌, ap, subst}
use Rattle.std.specs.Prelude.{Some, None}
use Rattle.std.proofs.lemmas.Bool.{true≢false}
use Rattle.ice_defs.specs.Fraction.{whole_number}
use Rattle.ice_journal.specs.Records.{Record}
use Rattle.ice_journal.specs.Records as line
use Rattle.ice_section.specs.Section.{no_section}
use Rattle.ice_section.specs.Described.{section_records}
use Rattle.ice_section.specs.Taking.{section_of}
use Rattle.ice_section.specs.Laws.{DescribedAreTaken}
use Rattle.ice_statement_laws.specs.Statement.{public_records, StatementLine, named, shown, statement_lines, statement_of}
use Rattle.ice_statement_laws.specs.Audit.{at_regret, audit_begun, audit_next, Audited, goes_on, IsAudit}
use Rattle.ice_statement_laws.specs.Own.{OwnSession, own_exchange, lines_from, own_lines, IsRightOwn}
use Rattle.ice_statement_laws.specs.Parts.{part_of}
use Rattle.ice_statement_laws.specs.Laws.{RightPartsPass, StatementsPass, StatementHidesOthers}
use Rattle.ice_statement_laws.proofs.Shown.{plain_shown}
use Rattle.ice_statement_laws.proofs.Tested.{checked_is_stated}
use Rattle.ice_statement_laws.proofs.Parting.{part_right}
use Rattle.ice_statement_laws.proofs.Stating.{lines_are_own}
use Rattle.ice_statement_laws.proofs.Walking.{quiet, at, lines_are, settled_on}
use Rattle.ice_statement_laws.proofs.Describing.{section_runs, in_section, run_on}

module _ (taken : DescribedAreTaken) (x : OwnSession) (right : IsRightOwn x) where
  begins : (n : ℕ) → audit_next (in_section x.bidder.name n (section_of (own_exchange x))) (shown (line.settle 0))
      ≡ Some (at x.settings x.goods x.bidder (suc n) 0 at_regret x.bidder.bounds (pos 0) [] [] (record { den = 1; nums = [] }) [] (whole_number (pos 0)))
  begins n = refl

  behind_section : (n : ℕ) → Audited (in_section x.bidder.name n (section_of (own_exchange x))) (lines_from 0 x.going x.closed) None
  behind_section n =
      subst (λ (ls : List StatementLine). Audited (in_section x.bidder.name n (section_of (own_exchange x))) ls None) (sym (lines_are 0 x.going x.closed))
      (goes_on (quiet _ _ _ (begins n) (λ h. true≢false (sym h)) (λ h. h) (λ k h. h) (λ h. h) (λ h. h) (λ h. h)) tt (begins n)
      (settled_on x.settings x.goods x.bidder (suc n) 0 x.bidder.bounds (pos 0) [] [] (record { den = 1; nums = [] }) (whole_number (pos 0)) x.going x.closed right.settlements))

  pub own_accepted : IsAudit (own_lines x) None
  own_accepted =
      goes_on (quiet audit_begun (in_section x.bidder.name 2 no_section) (named x.bidder.name) refl (λ h. h) (λ h. h) (λ k h. h) (λ h. h) (λ h. h) (λ h. h)) tt refl
      (run_on x.bidder.name 2 no_section (section_of (own_exchange x)) (section_records (own_exchange x)) (lines_from 0 x.going x.closed)
      (section_runs x.settings x.goods x.bidder (section_of (own_exchange x)) (taken (own_exchange x) right.exchange)) behind_section)

-- ---- every statement

module _ (taken_all : DescribedAreTaken) where
  pub right_parts_pass : RightPartsPass
  right_parts_pass x right = own_accepted taken_all x right

  pub statements_pass : StatementsPass
  statements_pass journal name own checks of =
      let x = of.session in
      let lines : statement_lines (public_records journal) own ≡ own_lines (part_of x of.is_own.number own) =
      ap (λ (rs : List Record). statement_lines rs own) (sym (plain_shown journal) ∙ ap public_records of.says) ∙ lines_are_own x name own of.is_own in
      subst (λ (ls : List StatementLine). IsAudit ls None) (sym lines)
      (own_accepted taken_all (part_of x of.is_own.number own) (part_right x name own of.right (checked_is_stated journal x checks of.says) of.is_own))

pub statement_hides_others : StatementHidesOthers
statement_hides_others one other name s t a b here there shown_same own_same =
    here.text_is ∙ ap (λ (rs : List Record). statement_of rs a) shown_same ∙ ap (statement_of (public_records there.journal)) own_same ∙ sym there.text_is
