-- What holds of an answer, and of a stop, from what holds of it otherwise.
use Rattle.std.proofs.Common.{Result, Ok, Err, IfOk, IfErr}
use Rattle.ice_turns.specs.Large.{IsStoppedBy}
use Rattle.ice_turns.specs.declared.ends.Stop.{Stop}
use Rattle.ice_turns.specs.declared.ends.Stop.TheVariants.{AtLimit, WithoutMemory}

pub if_ok-map : {T E : Type 0} {P Q : T → Type 0} → (r : Result T E) → ((x : T) → P x → Q x) → IfOk r P → IfOk r Q
if_ok-map (Ok x) f h = f x h
if_ok-map (Err e) f h = tt

pub if_err-map : {T E : Type 0} {P Q : E → Type 0} → (r : Result T E) → ((e : E) → P e → Q e) → IfErr r P → IfErr r Q
if_err-map (Ok x) f h = tt
if_err-map (Err e) f h = f e h

-- a stop with one cause has each that follows from it
pub stopped-map : {P Q : Type 0} → (P → Q) → (stop : Stop) → IsStoppedBy P stop → IsStoppedBy Q stop
stopped-map f (AtLimit kind) (e, cause) = (e, f cause)
stopped-map f WithoutMemory h = tt
