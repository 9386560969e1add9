-- Where the records of a journal that stops have come, and what they say in version 1.
use Rattle.std.proofs.Common.{◌≡◌, ℕ, List, [], ◌∷◌, ◌++◌, length, map, ℤ, refl}
use Rattle.std.specs.Prelude.{Some}
use Rattle.ice_defs.specs.PricingLimit.{Stage, LimitKind}
use Rattle.ice_defs.specs.Exchange.{Exchange, exact_of, opening_bounds}
use Rattle.ice_defs.specs.Session.{Going}
use Rattle.ice_journal.specs.Records.{Record, Version, Kind, version_1, version_2, session_kind, open_end, limit_end}
use Rattle.ice_journal.specs.Records as line
use Rattle.ice_journal.specs.Plain.{plain}
use Rattle.ice_section.specs.Described.{section_records}
use Rattle.ice_journal_laws.specs.State.{State, begun}
use Rattle.ice_journal_laws.specs.Next.{to_line, after_all}
use Rattle.ice_journal_laws.specs.Tests.{BidderSet}
use Rattle.ice_journal_laws.specs.ShowingSession.{goings_in, AreShownGoing}
use Rattle.ice_journal_laws.specs.StepsTaken.{EachTaken, Earns}
use Rattle.ice_journal_laws.specs.Earning.{Earning, IsEarnedTaken}
use Rattle.ice_journal_laws.proofs.Carried.{leads_ordered}
use Rattle.ice_journal_laws.proofs.CarriedVersions.{Unpacks, unpacks_none, unpacks_join, unpacks_then, unpacks_map, plain_record, whole_says}
use Rattle.ice_journal_laws.proofs.CarriedStops.{pool_record, limit_rest}
use Rattle.ice_journal_laws.proofs.CarriedSpentSession.{unpacks_goings}

-- records whose steps are earned lead to this state, and each step so far is earned
pub record IsReached (E : Earning) (version : Version) (kind : Kind) (before : List Record) (state : State) : Type 0 where
  pub line : ℕ
  pub reached : after_all (begun version kind) before ≡ Some (to_line line state)
  pub earned : EachTaken (IsEarnedTaken E) (begun version kind) before

pub earns_reached : (E : Earning) (version : Version) (kind : Kind) (before : List Record) (t : State) → Earns (IsEarnedTaken E) (begun version kind) before t → IsReached E version kind before t
earns_reached E version kind before t h =
    let (m, l) = h.carries.leads 2 in
    record { line = m; reached = leads_ordered (begun version kind) (to_line m t) before l; earned = h.taken 2 }

module _ (ex : Exchange) where
  abbrev goods : ℕ
  goods = length (exact_of ex)

  -- one record behind others
  unpacks_end : (r : Record) (a b : List Record) → Unpacks (length (exact_of ex)) a b → Unpacks (length (exact_of ex)) (r ∷ []) (r ∷ []) → Unpacks (length (exact_of ex)) (a ++ r ∷ []) (b ++ r ∷ [])
  unpacks_end r a b h one = unpacks_join goods a b (r ∷ []) (r ∷ []) h one

  -- a session whose last settlement goes on
  pub open_says : (going : List Going) → AreShownGoing ex 0 (opening_bounds ex) going
      → plain (line.head version_2 session_kind ∷ section_records ex ++ (goings_in version_2 (length (exact_of ex)) 0 going ++ line.end open_end ∷ []))
      ≡ line.head version_1 session_kind ∷ section_records ex ++ (goings_in version_1 (length (exact_of ex)) 0 going ++ line.end open_end ∷ [])
  open_says going are =
      whole_says session_kind ex (goings_in version_2 goods 0 going ++ line.end open_end ∷ []) (goings_in version_1 goods 0 going ++ line.end open_end ∷ [])
      (unpacks_end (line.end open_end) (goings_in version_2 goods 0 going) (goings_in version_1 goods 0 going) (unpacks_goings ex (opening_bounds ex) 0 going are)
      (unpacks_then goods (line.end open_end) [] [] (plain_record goods (line.end open_end) (λ m rest. refl) (λ rest. refl)) (unpacks_none goods)))

  -- the records of a limit are the same in both versions
  pub unpacks_limit : (stage : Stage) (why : LimitKind) (violation : ℤ) (den : ℕ) (pool : List BidderSet) → Unpacks (length (exact_of ex)) (line.limit stage why violation den ∷ limit_rest pool) (line.limit stage why violation den ∷ limit_rest pool)
  unpacks_limit stage why violation den pool =
      unpacks_then goods (line.limit stage why violation den) (limit_rest pool) (limit_rest pool) (plain_record goods (line.limit stage why violation den) (λ m rest. refl) (λ rest. refl))
      (unpacks_end (line.end limit_end) (map pool_record pool) (map pool_record pool) (unpacks_map goods pool_record (λ m. plain_record goods (pool_record m) (λ k rest. refl) (λ rest. refl)) pool)
      (unpacks_then goods (line.end limit_end) [] [] (plain_record goods (line.end limit_end) (λ m rest. refl) (λ rest. refl)) (unpacks_none goods)))
