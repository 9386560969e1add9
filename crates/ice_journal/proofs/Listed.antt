-- Lists whose elements are spelled one field each.
use Rattle.std.proofs.Common.{◌≡◌, ℕ, ◌≤◌, List, [], ◌∷◌, ◌++◌, length, map, refl, ap, ◌∙◌, arith}
use Rattle.std.specs.List.{AllByRecursion}

pub record Tail {A : Type 0} (P : A → Type 0) (g : A → List ℕ) (xs ys : List A) (fields rest : List (List ℕ)) : Type 0 where
  pub tail : List A
  pub whole : ys ≡ xs ++ tail
  pub lawful : AllByRecursion P tail
  pub spelled : fields ≡ map g tail ++ rest

abbrev pub IsOneToOne : {A : Type 0} → (A → Type 0) → (A → List ℕ) → Type 0
IsOneToOne {A} P g = (x y : A) → P x → P y → g x ≡ g y → x ≡ y

-- what was read is the front of every list with this spelling
pub front : {A : Type 0} (P : A → Type 0) (g : A → List ℕ) → IsOneToOne P g → (xs ys : List A) (fields rest : List (List ℕ)) → AllByRecursion P xs → AllByRecursion P ys
    → length xs ≤ length ys → map g xs ++ fields ≡ map g ys ++ rest → Tail P g xs ys fields rest
front P g one [] ys fields rest px py le e = record { tail = ys; whole = refl; lawful = py; spelled = e }
front P g one (x ∷ xs) [] fields rest px py le e = absurd (omega arith)
front P g one (x ∷ xs) (y ∷ ys) fields rest px py le e =
    let heads : g x ≡ g y = cc in
    let more : map g xs ++ fields ≡ map g ys ++ rest = cc in
    let same : x ≡ y = one x y px.0 py.0 heads in
    let later = front P g one xs ys fields rest px.1 py.1 (omega arith) more in
    let whole : ys ≡ xs ++ later.tail = later.whole in
    record { tail = later.tail; whole = cc; lawful = later.lawful; spelled = later.spelled }

-- the same where nothing comes after the list
pub front_of_all : {A : Type 0} (P : A → Type 0) (g : A → List ℕ) → IsOneToOne P g → (xs ys : List A) (fields : List (List ℕ)) → AllByRecursion P xs → AllByRecursion P ys
    → map g xs ++ fields ≡ map g ys → (tail : List A) × (ys ≡ xs ++ tail) × AllByRecursion P tail × (fields ≡ map g tail)
front_of_all P g one [] ys fields px py e = (ys, refl, py, e)
front_of_all P g one (x ∷ xs) [] fields px py e = absurd cc
front_of_all P g one (x ∷ xs) (y ∷ ys) fields px py e =
    let heads : g x ≡ g y = cc in
    let more : map g xs ++ fields ≡ map g ys = cc in
    let same : x ≡ y = one x y px.0 py.0 heads in
    let later = front_of_all P g one xs ys fields px.1 py.1 more in
    let whole : ys ≡ xs ++ later.0 = later.1 in
    (later.0, cc, later.2, later.3)

-- a field among them that spells none
pub no_element : {A : Type 0} (P : A → Type 0) (g : A → List ℕ) (tail : List A) (field : List ℕ) (after : List (List ℕ)) → AllByRecursion P tail → field ∷ after ≡ map g tail
    → ((x : A) → P x → field ≡ g x → ⊥) → ⊥
no_element P g [] field after p e none = absurd cc
no_element P g (x ∷ xs) field after p e none = none x p.0 (cc)

-- an element more
pub push_front : {A : Type 0} (g : A → List ℕ) (whole fields after : List (List ℕ)) (xs : List A) (x : A) (field : List ℕ) → whole ≡ map g xs ++ fields → fields ≡ field ∷ after → field ≡ g x → whole ≡ map g (xs ++ x ∷ []) ++ after
push_front g whole fields after [] x field e cut is = e ∙ cut ∙ ap (λ (f : List ℕ). f ∷ after) is
push_front g whole fields after (y ∷ ys) x field e cut is =
    e ∙ ap (λ (fs : List (List ℕ)). g y ∷ fs) (push_front g (map g ys ++ fields) fields after ys x field refl cut is)
