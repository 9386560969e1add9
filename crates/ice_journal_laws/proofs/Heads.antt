-- The head of a journal that passes so far.
use Rattle.std.proofs.Common.{◌≡◌, Bool, true, false, cond, List, [], ◌∷◌, ◌++◌, refl, subst}
use Rattle.std.specs.Prelude.{None}
use Rattle.std.specs.List.{AllByRecursion}
use Rattle.ice_journal.specs.Records.{Record, Version, version_1, version_2, Kind, session_kind}
use Rattle.ice_journal.specs.Records as line
use Rattle.ice_journal.specs.Ranges.{IsRecord}
use Rattle.ice_journal_laws.specs.State.{done, State, begun}
use Rattle.ice_journal_laws.specs.Checks.{is_checked, IsChecked, Tested, passes, goes_on}
use Rattle.ice_journal_laws.specs.Progress.{Progress, nothing, other_kind, passing, passes_on, after_head, Leads, stays, goes}
use Rattle.ice_journal_laws.specs.Theorems.{HasKind}
use Rattle.ice_journal_laws.proofs.Leading.{other_passes}
use Rattle.ice_journal_laws.proofs.KindStays.{leads_keep}

-- a head that is checked, and the records after it
pub record Headed (journal : List Record) (s : State) : Type 0 where
  pub version : Version
  pub kind : Kind
  pub rest : List Record
  pub is : journal ≡ line.head version kind ∷ rest
  pub checked : is_checked version kind ≡ true
  pub leads : Leads (passing (begun version kind)) rest (passing s)
  pub same_kind : s.kind ≡ kind

from_head : (version : Version) (kind : Kind) (rest : List Record) (s : State) (b : Bool) → is_checked version kind ≡ b → Leads (cond b (passing (begun version kind)) other_kind) rest (passing s) → Headed (line.head version kind ∷ rest) s
from_head version kind rest s true e l = record { version = version; kind = kind; rest = rest; is = refl; checked = e; leads = l; same_kind = leads_keep (begun version kind) s rest l }
from_head version kind rest s false e l = absurd (other_passes rest s l)

from_first : (r : Record) (rest : List Record) (s : State) → Leads (after_head r) rest (passing s) → Headed (r ∷ rest) s
from_first (line.head version kind) rest s l = from_head version kind rest s (is_checked version kind) refl l
from_first other rest s l = absurd (other_passes rest s l)

pub headed : (journal : List Record) (s : State) → Leads nothing journal (passing s) → Headed journal s
headed [] s l = elim l [ ]
headed (r ∷ rest) s (goes {q = q} a l) = from_first r rest s (subst (λ (z : Progress). Leads z rest (passing s)) a l)

-- a session is checked, in either version
in_version : (v : Version) (rest : List Record) → IsChecked (line.head v session_kind ∷ rest)
in_version version_1 rest = refl
in_version version_2 rest = refl

pub session_checked : (journal : List Record) → HasKind session_kind journal → IsChecked journal
session_checked (line.head v session_kind ∷ rest) is = in_version v rest
session_checked (line.head v other ∷ rest) is = absurd cc
session_checked other is = absurd is

-- journals that pass
pub tested_leads : (s : State) (records : List Record) → Tested s records None → (t : State) × Leads (passing s) records (passing t) × (t.place ≡ done)
tested_leads s [] (passes e) = (s, stays, e)
tested_leads s (r ∷ rest) (goes_on {after = after} list none holds is t) =
    let (end, l, e) = tested_leads after rest t in
    (end, goes (passes_on list none holds is) l, e)

pub all_left : (xs ys : List Record) → AllByRecursion IsRecord (xs ++ ys) → AllByRecursion IsRecord xs
all_left [] ys h = tt
all_left (x ∷ xs) ys h = (h.0, all_left xs ys h.1)
