-- A text that is gathered piece by piece, and put in long ones.
use Rattle.std.proofs.Common.{◌≡◌, ◌∙◌, refl, ap, sym, subst, ℕ, List, [], ◌++◌, Result, Ok, Err, append_assoc}
use Rattle.std.proofs.lemmas.List.{append-nil}
use Rattle.ice_edge.specs.declared.sink.SinkFault.{SinkFault}
use Rattle.ice_edge.specs.Puts.{Takes, FailsIn, IsPut, TakesAllBut}
use Rattle.ice_edge.proofs.Puts.{less_left, fails_next, fails_last, last_taken}
use Rattle.ice_edge.specs.Taken.{Taken}
use Rattle.ice_migrate.specs.Gathering.{IsGathered}

-- what is left of the whole is put
pub rest_put : (rest whole : List ℕ) (put : Result (Unit {0}) SinkFault) (old mid new : Taken) → TakesAllBut rest whole old mid → IsPut rest put mid new → IsPut whole put old new
rest_put rest whole (Ok done) old mid new left taken = last_taken rest whole old mid new left taken
rest_put rest whole (Err fault) old mid new left fails = fails_last rest whole old mid new left fails

-- where all of a text is put, nothing is gathered of it
pub none_gathered : (rest whole : List ℕ) (put : Result (Unit {0}) SinkFault) (old new : Taken) → rest ≡ [] → IsPut whole put old new → IsGathered rest whole put old new
none_gathered rest whole (Ok done) old new none taken = record { front = whole; takes = taken; split = sym (ap (λ (t : List ℕ). whole ++ t) none ∙ append-nil whole) }
none_gathered rest whole (Err fault) old new none fails = fails

-- a text is put at once, behind what was gathered
pub put_at_once : (rest before text : List ℕ) (put : Result (Unit {0}) SinkFault) (old mid new : Taken) → rest ≡ [] → Takes before old mid → IsPut text put mid new → IsGathered rest (before ++ text) put old new
put_at_once rest before text put old mid new none taken is =
    let left : TakesAllBut text (before ++ text) old mid = record { front = before; takes = taken; split = refl } in
    none_gathered rest (before ++ text) put old new none (rest_put text (before ++ text) put old mid new left is)

-- ---- the next piece of a text, behind what was gathered before

module _ (before piece rest text whole : List ℕ) (old mid new : Taken) (is : text ≡ piece ++ rest) (left : TakesAllBut (before ++ text) whole old mid) where
  next_left : TakesAllBut ((before ++ piece) ++ rest) whole old mid
  next_left = subst (λ (t : List ℕ). TakesAllBut t whole old mid) (ap (λ (t : List ℕ). before ++ t) is ∙ sym (append_assoc before piece rest)) left

  -- it is gathered
  pub next_gathered : (after : List ℕ) → TakesAllBut after (before ++ piece) mid new → TakesAllBut (after ++ rest) whole old new
  next_gathered after x =
      let so : TakesAllBut (x.front ++ (after ++ rest)) whole old mid = subst (λ (t : List ℕ). TakesAllBut t whole old mid) (ap (λ (t : List ℕ). t ++ rest) x.split ∙ append_assoc x.front after rest) next_left in
      less_left x.front (after ++ rest) whole old mid new so x.takes

  -- or the sink fails in it
  pub next_fails : FailsIn (before ++ piece) mid new → FailsIn whole old new
  next_fails fails = fails_next (before ++ piece) rest whole old mid new next_left fails
