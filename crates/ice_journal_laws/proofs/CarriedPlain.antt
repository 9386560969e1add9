-- The records of a session in version 1 are those that say it.
use Rattle.std.proofs.Common.{◌≡◌, ℕ, suc, List, [], ◌∷◌, ◌++◌, length, map, refl, ◌∙◌, ap, subst}
use Rattle.std.specs.List.{flat_map}
use Rattle.ice_defs.specs.Exchange.{exact_of}
use Rattle.ice_defs.specs.Session.{Proved, Going, Closed, Session}
use Rattle.ice_journal.specs.Records.{Record, version_1, session_kind, closed_end}
use Rattle.ice_journal.specs.Records as line
use Rattle.ice_section.specs.Described.{section_records}
use Rattle.ice_section.specs.Laws.{DescribedAreTaken}
use Rattle.ice_journal_laws.specs.Checks.{Checks}
use Rattle.ice_journal_laws.specs.Written.{proved_records, regret_records, row_record, judged_records, opening_records, going_records, without_records, payment_record, closed_records, settlement_records, session_records}
use Rattle.ice_journal_laws.specs.ShowingSession.{without_group_records, closed_in, opening_in, going_in, settlements_in, session_in, IsShownSession}
use Rattle.ice_journal_laws.proofs.CarriedRegret.{group_plain, settlement_plain}
use Rattle.ice_journal_laws.proofs.CarriedSession.{session_checks}

pub withouts_plain : (goods b : ℕ) (ps : List Proved) → without_group_records version_1 goods b ps ≡ without_records b ps
withouts_plain goods b [] = refl
withouts_plain goods b (p ∷ later) =
    ap (λ (rs : List Record). rs ++ without_group_records version_1 goods (suc b) later) (group_plain goods (line.without b p.value) p)
    ∙ ap (λ (rs : List Record). proved_records (line.without b p.value) p ++ rs) (withouts_plain goods (suc b) later)

closed_plain : (goods number : ℕ) (c : Closed) → closed_in version_1 goods number c ≡ closed_records number c
closed_plain goods number c =
    ap (λ (rs : List Record). line.settle number ∷ rs ++ without_group_records version_1 goods 0 c.withouts ++ line.threshold c.cut c.surplus ∷ map payment_record c.payments ++ line.end closed_end ∷ []) (settlement_plain goods c.settlement)
    ∙ ap (λ (rs : List Record). line.settle number ∷ regret_records c.settlement ++ rs ++ line.threshold c.cut c.surplus ∷ map payment_record c.payments ++ line.end closed_end ∷ []) (withouts_plain goods 0 c.withouts)

opening_plain : (goods : ℕ) (g : Going) → opening_in version_1 goods g ≡ opening_records g
opening_plain goods g =
    ap (λ (rs : List Record). rs ++ line.prices g.prices ∷ line.accuracy g.violation g.accuracy.den ∷ map row_record g.accuracy.rows ++ line.balance g.balance.den ∷ map row_record g.balance.rows)
    (group_plain goods (line.provisional g.provisional.value) g.provisional)

pub going_plain : (goods number : ℕ) (g : Going) → going_in version_1 goods number g ≡ going_records number g
going_plain goods number g =
    ap (λ (rs : List Record). line.settle number ∷ rs ++ opening_in version_1 goods g ++ flat_map judged_records g.judged) (settlement_plain goods g.settlement)
    ∙ ap (λ (rs : List Record). line.settle number ∷ regret_records g.settlement ++ rs ++ flat_map judged_records g.judged) (opening_plain goods g)

settlements_plain : (goods number : ℕ) (going : List Going) (c : Closed) → settlements_in version_1 goods number going c ≡ settlement_records number going c
settlements_plain goods number [] c = closed_plain goods number c
settlements_plain goods number (g ∷ later) c =
    ap (λ (rs : List Record). rs ++ settlements_in version_1 goods (suc number) later c) (going_plain goods number g)
    ∙ ap (λ (rs : List Record). going_records number g ++ rs) (settlements_plain goods (suc number) later c)

pub session_plain : (s : Session) → session_in version_1 s ≡ session_records s
session_plain s = ap (λ (rs : List Record). line.head version_1 session_kind ∷ section_records s.exchange ++ rs) (settlements_plain (length (exact_of s.exchange)) 0 s.going s.closed)

pub session_records_check : DescribedAreTaken → (s : Session) → IsShownSession s → Checks (session_records s)
session_records_check taken s is = subst Checks (session_plain s) (session_checks taken version_1 s is)
