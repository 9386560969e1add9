-- Elements of an array that are read one after another.
use Rattle.std.proofs.Common.{◌≡◌, ℕ, suc, ◌+◌, ◌<◌, ◌≤◌, List, [], ◌∷◌, ◌++◌, length, drop, get_or, Ok, Err, refl, sym, ap, ◌∙◌, append-nil, append_assoc, add-one, drop-cons}
use Rattle.std.proofs.lemmas.List.{drop_all}
use Rattle.serde_json.specs.Data.{Data}
use Rattle.serde_json.specs.View.{view, items_view}
use Rattle.serde_json.specs.declared.value.Value.{Value}
use Rattle.ice_defs.specs.FileFault.{FileFault, Path, Read, ◌>>=◌}
use Rattle.ice_read.specs.Values.{at_index, each}

-- those before the index are read, and the rest is still to come
pub record SoFar {X : Type 0} (read : Path → Data → Read X) (whole : Read (List X)) (path : Path) (vs : List Value) (i : ℕ) (xs : List X) : Type 0 where
  pub same : whole ≡ (each read path i (items_view (drop i vs)) >>= λ rest. Ok (xs ++ rest))

bound_none : {X : Type 0} (r : Read (List X)) → (r >>= λ rest. Ok ([] ++ rest)) ≡ r
bound_none (Ok xs) = refl
bound_none (Err fault) = refl

bound_push : {X : Type 0} (r : Read (List X)) (xs : List X) (x : X) → (r >>= (λ rest. Ok (x ∷ rest)) >>= λ rest. Ok (xs ++ rest)) ≡ (r >>= λ rest. Ok ((xs ++ x ∷ []) ++ rest))
bound_push (Ok rest) xs x = ap Ok (sym (append_assoc xs (x ∷ []) rest))
bound_push (Err fault) xs x = refl

module _ {X : Type 0} (read : Path → Data → Read X) (whole : Read (List X)) (path : Path) (vs : List Value) where
  pub first : whole ≡ each read path 0 (items_view vs) → SoFar read whole path vs 0 []
  first is = record { same = is ∙ sym (bound_none (each read path 0 (items_view vs))) }

  at_item : (i : ℕ) (v : Value) → i < length vs → v ≡ get_or vs i v
      → each read path i (items_view (drop i vs)) ≡ (read (at_index path i) (view v) >>= λ x. each read path (suc i) (items_view (drop (suc i) vs)) >>= λ xs. Ok (x ∷ xs))
  at_item i v there item =
      ap (λ l. each read path i (items_view l)) (drop-cons vs i v there)
      ∙ ap (λ w. read (at_index path i) (view w) >>= λ x. each read path (suc i) (items_view (drop (suc i) vs)) >>= λ xs. Ok (x ∷ xs)) (sym item)

  pub next : (i : ℕ) (xs : List X) (v : Value) (x : X) → SoFar read whole path vs i xs → i < length vs → v ≡ get_or vs i v → read (at_index path i) (view v) ≡ Ok x → SoFar read whole path vs (i + 1) (xs ++ x ∷ [])
  next i xs v x is there item reads = record {
    same = is.same
        ∙ ap (λ r. r >>= λ rest. Ok (xs ++ rest)) (at_item i v there item)
        ∙ ap (λ r. (r >>= λ y. each read path (suc i) (items_view (drop (suc i) vs)) >>= λ ys. Ok (y ∷ ys)) >>= λ rest. Ok (xs ++ rest)) reads
        ∙ bound_push (each read path (suc i) (items_view (drop (suc i) vs))) xs x
        ∙ ap (λ n. each read path n (items_view (drop n vs)) >>= λ rest. Ok ((xs ++ x ∷ []) ++ rest)) (sym (add-one i));
  }

  pub stops : (i : ℕ) (xs : List X) (v : Value) (fault : FileFault) → SoFar read whole path vs i xs → i < length vs → v ≡ get_or vs i v → read (at_index path i) (view v) ≡ Err fault → whole ≡ Err fault
  stops i xs v fault is there item reads =
      is.same
      ∙ ap (λ r. r >>= λ rest. Ok (xs ++ rest)) (at_item i v there item)
      ∙ ap (λ r. (r >>= λ y. each read path (suc i) (items_view (drop (suc i) vs)) >>= λ ys. Ok (y ∷ ys)) >>= λ rest. Ok (xs ++ rest)) reads

  pub last : (i : ℕ) (xs : List X) → SoFar read whole path vs i xs → length vs ≤ i → whole ≡ Ok xs
  last i xs is past = is.same ∙ ap (λ l. each read path i (items_view l) >>= λ rest. Ok (xs ++ rest)) (drop_all i vs past) ∙ ap Ok (append-nil xs)
