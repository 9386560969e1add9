-- Puts one after another, seen as one put of the whole text.
use Rattle.std.proofs.Common.{◌≡◌, ◌∙◌, ap, sym, refl, subst, ℕ, ◌+◌, ◌<◌, ◌≤◌, List, [], ◌∷◌, ◌++◌, length, get_or, take, Option, Some, None, Result, Ok, Err, append_assoc, length-append, arith}
use Rattle.std.proofs.lemmas.List.{append-nil, take-append-le, take_more}
use Rattle.std.proofs.lemmas.List.Concat.{flat_map-append}
use Rattle.std.specs.List.{flat_map}
use Rattle.std.proofs.Math.Seq.{take-append-add}
use Rattle.ice_edge.specs.declared.sink.SinkFault.{SinkFault}
use Rattle.ice_edge.specs.Edge.{Rose, Appends, AppendsFront}
use Rattle.ice_edge.specs.Puts.{Takes, FailsIn, IsPut, TakesAllBut}
use Rattle.ice_edge.specs.Taken.{Taken}

pub Appends-nothing : (old : Option (List ℕ)) → Appends old [] old
Appends-nothing None = tt
Appends-nothing (Some old) = ap (λ (l : List ℕ). Some l) (sym (append-nil old))

pub Appends-append : (old mid new : Option (List ℕ)) (t u : List ℕ) → Appends old t mid → Appends mid u new → Appends old (t ++ u) new
Appends-append None mid new t u a b = tt
Appends-append (Some old) mid new t u a b =
    let P : Option (List ℕ) → Type 0 = λ m. Appends m u new in
    let e : new ≡ Some ((old ++ t) ++ u) = subst P a b in
    e ∙ ap (λ (l : List ℕ). Some l) (append_assoc old t u)

-- the front of a first text is the front of the whole
pub front-append : (old new : Option (List ℕ)) (t u : List ℕ) → AppendsFront old t new → AppendsFront old (t ++ u) new
front-append old new t u (n, le, a) =
    let P : List ℕ → Type 0 = λ front. Appends old front new in
    (n, omega (arith, length-append t u), subst P (sym (take-append-le n t u le)) a)

-- and so is the first text with a front of the second
pub append-front : (old mid new : Option (List ℕ)) (t u : List ℕ) → Appends old t mid → AppendsFront mid u new → AppendsFront old (t ++ u) new
append-front old mid new t u a (n, le, b) =
    let P : List ℕ → Type 0 = λ front. Appends old front new in
    (length t + n, omega (arith, length-append t u), subst P (sym (take-append-add t u n)) (Appends-append old mid new t (take n u) a b))

pub rose-later : (a b c : ℕ) → Rose a b → b ≤ c → Rose a c
rose-later a b c rose le h = omega (arith, rose)

pub rose-sooner : (a b c : ℕ) → a ≤ b → Rose b c → Rose a c
rose-sooner a b c le rose h = omega (arith, rose h)

pub rose-kept : (a b c : ℕ) → b ≡ a → Rose b c → Rose a c
rose-kept a b c same rose h = omega (arith, same, rose h)

-- ---- the text of a list, piece by piece

pub text_more : {X : Type 0} (f : X → List ℕ) (xs : List X) (i : ℕ) (x : X) → i < length xs → x ≡ get_or xs i x → flat_map f (take (i + 1) xs) ≡ flat_map f (take i xs) ++ f x
text_more f xs i x h is =
    ap (flat_map f) (take_more xs i x h ∙ ap (λ y. take i xs ++ y ∷ []) (sym is)) ∙ flat_map-append f (take i xs) (x ∷ []) ∙ ap (λ t. flat_map f (take i xs) ++ t) (append-nil (f x))

-- ---- nothing, and one text behind another

pub takes_nothing : (old : Taken) → Takes [] old old
takes_nothing old = record { appends = Appends-nothing old.written; kept = refl }

pub takes_join : (t u : List ℕ) (old mid new : Taken) → Takes t old mid → Takes u mid new → Takes (t ++ u) old new
takes_join t u old mid new a b = record { appends = Appends-append old.written mid.written new.written t u a.appends b.appends; kept = b.kept ∙ a.kept }

-- ---- two pieces

pub first_fails : {old new : Taken} (piece rest : List ℕ) → FailsIn piece old new → FailsIn (piece ++ rest) old new
first_fails {old = old} {new = new} piece rest fails = record { front = front-append old.written new.written piece rest fails.front; rose = fails.rose; later = fails.later }

pub then_fails : {old mid new : Taken} (piece rest : List ℕ) → Takes piece old mid → FailsIn rest mid new → FailsIn (piece ++ rest) old new
then_fails {old = old} {mid = mid} {new = new} piece rest takes fails = record {
  front = append-front old.written mid.written new.written piece rest takes.appends fails.front;
  rose = rose-kept old.faults mid.faults new.faults takes.kept fails.rose;
  later = omega (arith, takes.kept, fails.later);
}

pub then_put : {old mid : Taken} (piece rest : List ℕ) (put : Result (Unit {0}) SinkFault) (new : Taken) → Takes piece old mid → IsPut rest put mid new → IsPut (piece ++ rest) put old new
then_put {old = old} {mid = mid} piece rest (Ok done) new takes is = takes_join piece rest old mid new takes is
then_put piece rest (Err fault) new takes is = then_fails piece rest takes is

-- ---- what is left of a whole text

pub all_left : (whole : List ℕ) (old : Taken) → TakesAllBut whole whole old old
all_left whole old = record { front = []; takes = takes_nothing old; split = refl }

-- one more piece
pub less_left : (piece rest whole : List ℕ) (old mid new : Taken) → TakesAllBut (piece ++ rest) whole old mid → Takes piece mid new → TakesAllBut rest whole old new
less_left piece rest whole old mid new so b = record {
  front = so.front ++ piece;
  takes = takes_join so.front piece old mid new so.takes b;
  split = so.split ∙ sym (append_assoc so.front piece rest);
}

-- the sink fails in the next piece
pub fails_next : (piece rest whole : List ℕ) (old mid new : Taken) → TakesAllBut (piece ++ rest) whole old mid → FailsIn piece mid new → FailsIn whole old new
fails_next piece rest whole old mid new so b =
    let P : List ℕ → Type 0 = λ all. AppendsFront old.written all new.written in
    record {
      front = subst P (sym (so.split ∙ sym (append_assoc so.front piece rest))) (front-append old.written new.written (so.front ++ piece) rest (append-front old.written mid.written new.written so.front piece so.takes.appends b.front));
      rose = rose-kept old.faults mid.faults new.faults so.takes.kept b.rose;
      later = omega (arith, so.takes.kept, b.later);
    }

-- and in the last one
pub fails_last : (piece whole : List ℕ) (old mid new : Taken) → TakesAllBut piece whole old mid → FailsIn piece mid new → FailsIn whole old new
fails_last piece whole old mid new so b =
    let P : List ℕ → Type 0 = λ rest. TakesAllBut rest whole old mid in
    fails_next piece [] whole old mid new (subst P (sym (append-nil piece)) so) b

pub none_left : (whole : List ℕ) (old new : Taken) → TakesAllBut [] whole old new → Takes whole old new
none_left whole old new so =
    let P : List ℕ → Type 0 = λ t. Takes t old new in
    subst P (sym (so.split ∙ append-nil so.front)) so.takes

pub last_taken : (piece whole : List ℕ) (old mid new : Taken) → TakesAllBut piece whole old mid → Takes piece mid new → Takes whole old new
last_taken piece whole old mid new so b =
    let P : List ℕ → Type 0 = λ t. Takes t old new in
    subst P (sym so.split) (takes_join so.front piece old mid new so.takes b)
