-- Records that are put in parts, one after another.
use Rattle.std.proofs.Common.{◌≡◌, sym, subst, ℕ, List, [], ◌∷◌, ◌++◌, Result, Err}
use Rattle.std.proofs.lemmas.List.{append-nil}
use Rattle.ice_edge.specs.declared.sink.SinkFault.{SinkFault}
use Rattle.ice_edge.specs.Puts.{Takes, FailsIn, IsPut}
use Rattle.ice_edge.specs.Taken.{Taken}
use Rattle.ice_journal.specs.Records.{Record}
use Rattle.ice_journal.specs.Spelling.{line_of}
use Rattle.ice_journal.specs.Journal.{bytes_of}
use Rattle.ice_write.proofs.Loops.{put_as, first_fails, then_fails, takes_both, then_put, bytes_append}

module _ (a b : List Record) where
  -- the sink fails in the first part
  pub fails_first : {old new : Taken} → FailsIn (bytes_of a) old new → FailsIn (bytes_of (a ++ b)) old new
  fails_first {old = old} {new = new} fails = subst (λ (t : List ℕ). FailsIn t old new) (sym (bytes_append a b)) (first_fails (bytes_of a) (bytes_of b) fails)

  -- or in the second
  pub fails_then : {old mid new : Taken} → Takes (bytes_of a) old mid → FailsIn (bytes_of b) mid new → FailsIn (bytes_of (a ++ b)) old new
  fails_then {old = old} {mid = mid} {new = new} takes fails = subst (λ (t : List ℕ). FailsIn t old new) (sym (bytes_append a b)) (then_fails (bytes_of a) (bytes_of b) takes fails)

  pub takes_then : {old mid new : Taken} → Takes (bytes_of a) old mid → Takes (bytes_of b) mid new → Takes (bytes_of (a ++ b)) old new
  takes_then {old = old} {mid = mid} {new = new} takes more = subst (λ (t : List ℕ). Takes t old new) (sym (bytes_append a b)) (takes_both (bytes_of a) (bytes_of b) takes more)

  -- the last part is put
  pub put_last : {old mid : Taken} (put : Result (Unit {0}) SinkFault) (new : Taken) → Takes (bytes_of a) old mid → IsPut (bytes_of b) put mid new → IsPut (bytes_of (a ++ b)) put old new
  put_last {old = old} {mid = mid} put new takes is = subst (λ (t : List ℕ). IsPut t put old new) (sym (bytes_append a b)) (then_put (bytes_of a) (bytes_of b) put new takes is)

-- the sink failed
pub put_failed : {old new : Taken} (rs : List Record) (put : Result (Unit {0}) SinkFault) (fault : SinkFault) → put ≡ Err fault → FailsIn (bytes_of rs) old new → IsPut (bytes_of rs) put old new
put_failed {old = old} {new = new} rs put fault is fails = subst (λ r. IsPut (bytes_of rs) r old new) (sym is) fails

-- one record
pub put_one : (r : Record) (put : Result (Unit {0}) SinkFault) (old new : Taken) → IsPut (line_of r) put old new → IsPut (bytes_of (r ∷ [])) put old new
put_one r put old new is = put_as (bytes_of (r ∷ [])) (line_of r) put old new (append-nil (line_of r)) is

-- the same records in other words
pub put_in_words : (text whole : List Record) (put : Result (Unit {0}) SinkFault) (old new : Taken) → text ≡ whole → IsPut (bytes_of whole) put old new → IsPut (bytes_of text) put old new
put_in_words text whole put old new same is = subst (λ (rs : List Record). IsPut (bytes_of rs) put old new) (sym same) is

-- the records of a list that is lent
module _ {X : Type 0} (rs : List X → List Record) (lent xs : List X) (same : lent ≡ xs) where
  pub takes_of : {old new : Taken} → Takes (bytes_of (rs lent)) old new → Takes (bytes_of (rs xs)) old new
  takes_of {old = old} {new = new} takes = subst (λ (l : List X). Takes (bytes_of (rs l)) old new) same takes

  pub fails_of : {old new : Taken} → FailsIn (bytes_of (rs lent)) old new → FailsIn (bytes_of (rs xs)) old new
  fails_of {old = old} {new = new} fails = subst (λ (l : List X). FailsIn (bytes_of (rs l)) old new) same fails
