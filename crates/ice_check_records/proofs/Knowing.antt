-- A state keeps what is known of it.
use Rattle.std.proofs.Common.{◌≡◌, ℕ, suc, refl, sym, subst}
use Rattle.ice_defs.specs.declared.Group.{Group}
use Rattle.ice_defs.specs.declared.Group.TheVariants.{Assign, Final, Rival, Provisional, Without}
use Rattle.ice_journal.specs.Records.{Record}
use Rattle.ice_journal_laws.specs.State.{Stated, State}
use Rattle.ice_journal_laws.specs.Next.{to_line}
use Rattle.ice_journal_laws.specs.Progress.{passing, failed, TakesOn}
use Rattle.ice_check_offer.specs.declared.fault.Fault.{Fault}
use Rattle.ice_check_records.specs.declared.next.Next.{Next}
use Rattle.ice_check_records.specs.declared.next.Next.TheVariants as coming
use Rattle.ice_check_records.specs.declared.groups.Groups.{Groups}
use Rattle.ice_check_records.specs.Groups.{final_stated, final_in, known_in, IsOffering, StandsFor}
use Rattle.ice_check_records.specs.Taking.{Goes, failure_at, IsTaken, Fails}

final_again : (stated : Stated) (group : Group) (old : Stated) → final_in stated group old ≡ final_in stated group (final_in stated group old)
final_again stated Assign old = refl
final_again stated Final old = refl
final_again stated Rival old = refl
final_again stated Provisional old = refl
final_again stated (Without b) old = refl

-- what is known is known of a state in which it was put
pub known_again : (g : Groups) (now : Next) (n : ℕ) (s : State) → to_line n (known_in g now s) ≡ known_in g now (to_line n (known_in g now s))
known_again g (coming.Head group) n s = λ i. record (to_line n (known_in g (coming.Head group) s)) { final = final_again (final_stated g) group s.final i }
known_again g (coming.Set group) n s = λ i. record (to_line n (known_in g (coming.Set group) s)) { final = final_again (final_stated g) group s.final i }
known_again g (coming.Step group) n s = λ i. record (to_line n (known_in g (coming.Step group) s)) { final = final_again (final_stated g) group s.final i }
known_again g coming.Amount n s = refl
known_again g coming.Offer n s = refl
known_again g coming.Threshold n s = refl
known_again g (coming.Payment b) n s = refl
known_again g coming.End n s = refl
known_again g coming.Nothing n s = refl

-- outside an offer
abbrev pub IsQuiet : Next → Type 0
IsQuiet coming.Offer = ⊥
IsQuiet other = Unit {0}

quiet : (g : Groups) (now : Next) (s : State) → IsQuiet now → IsOffering g now s
quiet g (coming.Head group) s is = tt
quiet g (coming.Set group) s is = tt
quiet g (coming.Step group) s is = tt
quiet g coming.Amount s is = tt
quiet g coming.Offer s is = absurd is
quiet g coming.Threshold s is = tt
quiet g (coming.Payment b) s is = tt
quiet g coming.End s is = tt
quiet g coming.Nothing s is = tt

pub stands_known : (g : Groups) (n : ℕ) (s : State) → IsQuiet g.next → StandsFor g (to_line n (known_in g g.next s))
stands_known g n s is = record { known = known_again g g.next n s; offer = quiet g g.next (to_line n (known_in g g.next s)) is }

-- a record passes to a state in which what is known was put
pub goes_on : (s u : State) (r : Record) (after : Groups) → IsQuiet after.next → TakesOn s r (passing (to_line (suc s.line) (known_in after after.next u))) → Goes s r after
goes_on s u r after is takes = record {
  state = to_line (suc s.line) (known_in after after.next u);
  passes = takes;
  line = refl;
  stands = stands_known after (suc s.line) u is;
}

-- ---- in each state of which this is known

pub stands_goes : (g : Groups) (r : Record) (after : Groups) → IsTaken g.next g r after → (s : State) → StandsFor g s → Goes s r after
stands_goes g r after h s stands = subst (λ (t : State). Goes t r after) (sym stands.known) (h.goes s (subst (IsOffering g g.next) stands.known stands.offer))

pub stands_fails : (g : Groups) (r : Record) (fault : Fault) → Fails g.next g r fault → (s : State) → StandsFor g s → TakesOn s r (failed (failure_at s.line fault))
stands_fails g r fault h s stands = subst (λ (t : State). TakesOn t r (failed (failure_at s.line fault))) (sym stands.known) (h s (subst (IsOffering g g.next) stands.known stands.offer))
