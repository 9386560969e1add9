-- Journals of sessions: their kind stays.
use Rattle.std.proofs.Common.{◌≡◌, List, ◌∷◌, refl, ◌∙◌, subst}
use Rattle.ice_journal.specs.Records.{Record, Version, version_1, version_2, Kind, session_kind}
use Rattle.ice_journal.specs.Records as line
use Rattle.ice_journal_laws.specs.State.{State, begun}
use Rattle.ice_journal_laws.specs.Progress.{Progress, nothing, passing, Leads, goes, after_head}
use Rattle.ice_journal_laws.proofs.KindStays.{leads_keep}
use Rattle.ice_last.specs.Lasts.{IsSession}

begins : (v : Version) → after_head (line.head v session_kind) ≡ passing (begun v session_kind)
begins version_1 = refl
begins version_2 = refl

session_stays : (v : Version) (rest : List Record) (s : State) → Leads nothing (line.head v session_kind ∷ rest) (passing s) → s.kind ≡ session_kind
session_stays v rest s (goes {q = q} a l) = leads_keep (begun v session_kind) s rest (subst (λ (p : Progress). Leads p rest (passing s)) (a ∙ begins v) l)

pub kind_at : (journal : List Record) (s : State) → IsSession journal → Leads nothing journal (passing s) → s.kind ≡ session_kind
kind_at (line.head v kind ∷ rest) s is l = session_stays v rest s (subst (λ (k : Kind). Leads nothing (line.head v k ∷ rest) (passing s)) is l)
kind_at other s is l = absurd is
