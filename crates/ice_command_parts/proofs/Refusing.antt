-- Refusals of files: from the fetch of one to what a command answers.
use Rattle.std.proofs.Common.{◌≡◌, refl, subst, ℕ, ◌<◌, List, length, Option, Some, IfSome, IsSomeAnd}
use Rattle.ice_defs.specs.FileFault.{FileFault}
use Rattle.ice_edge.specs.Told.{Told, IsLonger}
use Rattle.ice_edge.specs.Told as shelf
use Rattle.ice_command_parts.specs.declared.refusal.FileFault.TheVariants.{TooLong}
use Rattle.ice_command_parts.specs.declared.refusal.Refusal.{Refusal}
use Rattle.ice_command_parts.specs.declared.refusal.Refusal.TheVariants.{File, Unread, NoMemory}
use Rattle.ice_command_parts.specs.Call.{Call, IsRefused, too_long, at_fault}
use Rattle.ice_command_parts.specs.Parts.{AreFetched}
use Rattle.ice_command_parts.specs.Refusals.{fault_of, IsRefusal, Refuses, NoFault, IsFaultOf}
use Rattle.ice_command_parts.proofs.Parts.{told_in_call}
use Rattle.ice_edge.proofs.Puts.{rose-later, rose-sooner}

pub unread : (number : ℕ) (name : List ℕ) (limit : ℕ) (HasFault : List ℕ → FileFault → Type 0) (before after : Told)
    → shelf.FaultRose before after name → Refuses number name limit HasFault before after (Unread number)
unread number name limit HasFault before after rose call part =
    (refl, rose-later _ _ _ (rose-sooner _ _ _ (part.begins.faults name) rose) (part.ends.faults name))

too_many : (told : Option (Option (List ℕ))) (limit : ℕ) → IfSome told (λ file. IsSomeAnd file (λ bytes. limit < length bytes)) → (bytes : List ℕ) → told ≡ Some (Some bytes) → limit < length bytes
too_many told limit h bytes e = let P : Option (Option (List ℕ)) → Type 0 = λ o. IfSome o (λ file. IsSomeAnd file (λ b. limit < length b)) in subst P e h

pub overlong : (number : ℕ) (name : List ℕ) (limit : ℕ) (HasFault : List ℕ → FileFault → Type 0) (before after : Told)
    → shelf.OverlongRose before after name limit → IsLonger before name limit → Refuses number name limit HasFault before after (File number TooLong)
overlong number name limit HasFault before after rose longer call part =
    let P : Option (Option (List ℕ)) → Type 0 = λ told. IfSome told (λ file. IsSomeAnd file (λ bytes. limit < length bytes)) in (
      refl,
      too_long (rose-later _ _ _ (rose-sooner _ _ _ (part.begins.overlong name limit) rose) (part.ends.overlong name limit))
          (too_many (call.before.holds name) limit (subst P (part.begins.holds name) longer)),
    )

refused_anyway : (call : Call) (name : List ℕ) (limit : ℕ) (HasFault : List ℕ → FileFault → Type 0) (fault : FileFault) → IsRefused call name limit NoFault fault → IsRefused call name limit HasFault fault
refused_anyway call name limit HasFault fault (too_long rose long) = too_long rose long
refused_anyway call name limit HasFault fault (at_fault bytes h told) = absurd h

-- a file that was not had is not had whatever its bytes' faults are
pub not_had : (call : Call) (number : ℕ) (name : List ℕ) (limit : ℕ) (HasFault : List ℕ → FileFault → Type 0) (refusal : Refusal)
    → IsRefusal call number name limit NoFault refusal → IsRefusal call number name limit HasFault refusal
not_had call number name limit HasFault (File file fault) (e, h) = (e, refused_anyway call name limit HasFault (fault_of fault) h)
not_had call number name limit HasFault (Unread file) h = h
not_had call number name limit HasFault NoMemory h = tt

-- a fault of the bytes that were fetched is a fault of the file
pub fault_of_fetched : (before after : Told) (number : ℕ) (name : List ℕ) (limit : ℕ) (bytes : List ℕ) (HasFault : List ℕ → FileFault → Type 0) (refusal : Refusal)
    → AreFetched before name limit bytes → IsFaultOf number (HasFault bytes) refusal → Refuses number name limit HasFault before after refusal
fault_of_fetched before after number name limit bytes HasFault (File file fault) told (e, h) call part =
    (e, at_fault bytes h (told_in_call call before after name limit (λ other. other ≡ bytes) part told))
fault_of_fetched before after number name limit bytes HasFault (Unread file) told h call part = absurd h
fault_of_fetched before after number name limit bytes HasFault NoMemory told h call part = tt

-- such a fault under a weaker condition
pub fault_anyway : (number : ℕ) (P Q : FileFault → Type 0) (refusal : Refusal) → ((fault : FileFault) → P fault → Q fault) → IsFaultOf number P refusal → IsFaultOf number Q refusal
fault_anyway number P Q (File file fault) gives (e, h) = (e, gives (fault_of fault) h)
fault_anyway number P Q (Unread file) gives h = h
fault_anyway number P Q NoMemory gives h = tt
