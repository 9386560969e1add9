-- What a turn of the trace chooses.
use Rattle.std.proofs.Common.{◌≡◌, ◌≢◌, ℕ, zero, suc, ◌+◌, ◌<◌, refl, subst, arith, Bool, true, false, if◌then◌else◌, ◌||◌, ◌&&◌, nat_lt, Option, Some, None, List, [], ◌∷◌, length, slice_index_or, pos, ◌<ℤ◌, ◌≤ℤ◌}
use Rattle.std.specs.Option.{option_map, option_and_then}
use Rattle.std.proofs.lemmas.Int.{ints}
use Rattle.std.proofs.lemmas.Bool.{both_ways}
use Rattle.ice_defs.specs.Fraction.{Fraction, IsFraction, AtMost, negation, fraction_at}
use Rattle.ice_defs.specs.Frac.{div}
use Rattle.ice_defs.specs.Dictionary.{Left, Dictionary, Spot, Choice, is_least, is_unbounded, is_wide, pivots, is_positive, is_negative, lower_spot, entering_from, entering_spot, Ratio, is_below, is_before, lower_ratio, leaving_from, choice_of, choice_at, choice, no_left}
use Rattle.ice_frac.proofs.Fractions.{AtMost-trans}
use Rattle.ice_program_laws.proofs.Results.{some_is, then_some, map_some, IsQuotient, div_means}

-- ---- tests

pub not_positive : (f : Fraction) → is_positive f ≡ false → f.num ≤ℤ pos 0
not_positive f h = grind (arith, ints)

pub negative_is : (f : Fraction) → is_negative f ≡ true → f.num <ℤ pos 0
negative_is f h = grind (arith, ints)

pub not_negative : (f : Fraction) → is_negative f ≡ false → pos 0 ≤ℤ f.num
not_negative f h = grind (arith, ints)

-- ---- the entering variable

-- the place on the right of a variable with a positive coefficient
pub record Enters (start : ℕ) (right : List ℕ) (objective : List Fraction) (k : Spot) : Type 0 where
  pub offset : ℕ
  pub place : k.place ≡ start + offset
  pub within : offset < length right
  pub variable : k.variable ≡ slice_index_or right offset 0
  pub positive : is_positive (fraction_at objective offset) ≡ true

enters_later : (start v : ℕ) (right : List ℕ) (c : Fraction) (objective : List Fraction) (k : Spot) → Enters (suc start) right objective k → Enters start (v ∷ right) (c ∷ objective) k
enters_later start v right c objective k e = record { offset = suc e.offset; place = omega (arith, e.place); within = omega (arith, e.within); variable = e.variable; positive = e.positive }

lower_is : (P : Spot → Type 0) (s : Spot) (o : Option Spot) (k : Spot) → P s → ((x : Spot) → o ≡ Some x → P x) → lower_spot s o ≡ Some k → P k
lower_is P s None k hs ho h = subst P (some_is s k h) hs
lower_is P s (Some other) k hs ho h = by (nat_lt other.variable s.variable) h
  where
    by : (b : Bool) → (if b then Some other else Some s) ≡ Some k → P k
    by true h = subst P (some_is other k h) (ho other refl)
    by false h = subst P (some_is s k h) hs

not_none : (s : Spot) (o : Option Spot) → lower_spot s o ≡ None → ⊥
not_none s None h = cc
not_none s (Some other) h = by (nat_lt other.variable s.variable) h
  where
    by : (b : Bool) → (if b then Some other else Some s) ≡ None → ⊥
    by true h = cc
    by false h = cc

pub entering_is : (start : ℕ) (right : List ℕ) (objective : List Fraction) (k : Spot) → entering_from start right objective ≡ Some k → Enters start right objective k
entering_is start [] objective k h = absurd (cc)
entering_is start (v ∷ right) [] k h = absurd (cc)
entering_is start (v ∷ right) (c ∷ objective) k h = by (λ x e. enters_later start v right c objective x (entering_is (suc start) right objective x e)) (is_positive c) refl h
  where
    by : ((x : Spot) → entering_from (suc start) right objective ≡ Some x → Enters start (v ∷ right) (c ∷ objective) x) → (b : Bool) → is_positive c ≡ b
        → (if b then lower_spot (record { place = start; variable = v }) (entering_from (suc start) right objective) else entering_from (suc start) right objective) ≡ Some k → Enters start (v ∷ right) (c ∷ objective) k
    by later true p h = lower_is (Enters start (v ∷ right) (c ∷ objective)) (record { place = start; variable = v }) (entering_from (suc start) right objective) k
        (record { offset = zero; place = omega arith; within = omega arith; variable = refl; positive = p }) later h
    by later false p h = later k h

pub none_enters : (start : ℕ) (right : List ℕ) (objective : List Fraction) → length objective ≡ length right → entering_from start right objective ≡ None
    → (j : ℕ) → j < length right → is_positive (fraction_at objective j) ≡ false
none_enters start [] objective e h j l = absurd (omega arith)
none_enters start (v ∷ right) [] e h j l = absurd (omega arith)
none_enters start (v ∷ right) (c ∷ objective) e h j l = by (λ x i m. none_enters (suc start) right objective (omega arith) x i m) (is_positive c) refl h j l
  where
    by : (entering_from (suc start) right objective ≡ None → (j : ℕ) → j < length right → is_positive (fraction_at objective j) ≡ false) → (b : Bool) → is_positive c ≡ b
        → (if b then lower_spot (record { place = start; variable = v }) (entering_from (suc start) right objective) else entering_from (suc start) right objective) ≡ None
        → (j : ℕ) → j < length (v ∷ right) → is_positive (fraction_at (c ∷ objective) j) ≡ false
    by rest true p h j l = absurd (not_none (record { place = start; variable = v }) (entering_from (suc start) right objective) h)
    by rest false p h zero l = p
    by rest false p h (suc j) l = rest h j (omega arith)

-- ---- the leaving variable

below_is : (a b : Fraction) → is_below a b ≡ true → AtMost a b
below_is a b h = grind (arith, ints)

not_below_is : (a b : Fraction) → is_below a b ≡ false → AtMost b a
not_below_is a b h = grind (arith, ints)

before_is : (a b : Ratio) → is_before a b ≡ true → AtMost a.ratio b.ratio
before_is a b h = by (is_below a.ratio b.ratio) refl (is_below b.ratio a.ratio) refl h
  where
    by : (x : Bool) → is_below a.ratio b.ratio ≡ x → (y : Bool) → is_below b.ratio a.ratio ≡ y → (x || ((if y then false else true) && nat_lt a.spot.variable b.spot.variable)) ≡ true → AtMost a.ratio b.ratio
    by true e y f h = below_is a.ratio b.ratio e
    by false e true f h = absurd (cc)
    by false e false f h = not_below_is b.ratio a.ratio f

not_before_is : (a b : Ratio) → is_before a b ≡ false → AtMost b.ratio a.ratio
not_before_is a b h = by (is_below a.ratio b.ratio) refl (is_below b.ratio a.ratio) refl h
  where
    by : (x : Bool) → is_below a.ratio b.ratio ≡ x → (y : Bool) → is_below b.ratio a.ratio ≡ y → (x || ((if y then false else true) && nat_lt a.spot.variable b.spot.variable)) ≡ false → AtMost b.ratio a.ratio
    by true e y f h = absurd (cc)
    by false e y f h = not_below_is a.ratio b.ratio e

abbrev pub row_at : List Left → ℕ → Left
row_at rows i = slice_index_or rows i no_left

abbrev pub coeff_at : ℕ → Left → Fraction
coeff_at k row = fraction_at row.coeffs k

-- a row's ratio, at least q
pub record HasRatio (k : ℕ) (row : Left) (q : Fraction) : Type 0 where
  pub ratio : Fraction
  pub is : IsQuotient row.constant (negation (coeff_at k row)) ratio
  pub above : AtMost q ratio

-- the least of the ratios of the rows with a negative coefficient
pub record Leaves (k start : ℕ) (rows : List Left) (r : Ratio) : Type 0 where
  pub offset : ℕ
  pub place : r.spot.place ≡ start + offset
  pub within : offset < length rows
  pub negative : is_negative (coeff_at k (row_at rows offset)) ≡ true
  pub is : IsQuotient (row_at rows offset).constant (negation (coeff_at k (row_at rows offset))) r.ratio
  pub least : (i : ℕ) → i < length rows → is_negative (coeff_at k (row_at rows i)) ≡ true → HasRatio k (row_at rows i) r.ratio

abbrev pub NoneNegative : ℕ → List Left → Type 0
NoneNegative k rows = (i : ℕ) → i < length rows → is_negative (coeff_at k (row_at rows i)) ≡ false

abbrev pub LeavesAs : ℕ → ℕ → List Left → Option Ratio → Type 0
LeavesAs k start rows None = NoneNegative k rows
LeavesAs k start rows (Some r) = Leaves k start rows r

AtMost-refl : (a : Fraction) → AtMost a a
AtMost-refl a = omega (arith, ints)

leaves_here : (k start : ℕ) (row : Left) (rows : List Left) (r : Ratio) → r.spot.place ≡ start → is_negative (coeff_at k row) ≡ true → IsQuotient row.constant (negation (coeff_at k row)) r.ratio
    → ((i : ℕ) → i < length rows → is_negative (coeff_at k (row_at rows i)) ≡ true → HasRatio k (row_at rows i) r.ratio) → Leaves k start (row ∷ rows) r
leaves_here k start row rows r place negative is rest = record { offset = zero; place = omega (arith, place); within = omega arith; negative = negative; is = is; least = each }
  where
    each : (i : ℕ) → i < length (row ∷ rows) → is_negative (coeff_at k (row_at (row ∷ rows) i)) ≡ true → HasRatio k (row_at (row ∷ rows) i) r.ratio
    each zero l n = record { ratio = r.ratio; is = is; above = AtMost-refl r.ratio }
    each (suc i) l n = rest i (omega arith) n

leaves_later : (k start : ℕ) (row : Left) (rows : List Left) (r : Ratio) → (is_negative (coeff_at k row) ≡ true → HasRatio k row r.ratio) → Leaves k (suc start) rows r → Leaves k start (row ∷ rows) r
leaves_later k start row rows r first l = record { offset = suc l.offset; place = omega (arith, l.place); within = omega (arith, l.within); negative = l.negative; is = l.is; least = each }
  where
    each : (i : ℕ) → i < length (row ∷ rows) → is_negative (coeff_at k (row_at (row ∷ rows) i)) ≡ true → HasRatio k (row_at (row ∷ rows) i) r.ratio
    each zero m n = first n
    each (suc i) m n = l.least i (omega arith) n

leaves_step : (k start : ℕ) (row : Left) (rows : List Left) (r : Ratio) (o : Option Ratio) → r.spot.place ≡ start → is_negative (coeff_at k row) ≡ true
    → IsQuotient row.constant (negation (coeff_at k row)) r.ratio → LeavesAs k (suc start) rows o → LeavesAs k start (row ∷ rows) (lower_ratio r o)
leaves_step k start row rows r None place negative is rest = leaves_here k start row rows r place negative is (λ i l n. absurd (both_ways _ (rest i l) n))
leaves_step k start row rows r (Some other) place negative is rest = by (is_before other r) refl
  where
    by : (b : Bool) → is_before other r ≡ b → LeavesAs k start (row ∷ rows) (if b then Some other else Some r)
    by true h = leaves_later k start row rows other (λ n. record { ratio = r.ratio; is = is; above = before_is other r h }) rest
    by false h = leaves_here k start row rows r place negative is
        (λ i l n. let x : HasRatio k (row_at rows i) other.ratio = rest.least i l n in
        record { ratio = x.ratio; is = x.is; above = AtMost-trans r.ratio other.ratio x.ratio rest.is.proper (not_before_is other r h) x.above })

leaves_on : (k start : ℕ) (row : Left) (rows : List Left) (o : Option Ratio) → is_negative (coeff_at k row) ≡ false → LeavesAs k (suc start) rows o → LeavesAs k start (row ∷ rows) o
leaves_on k start row rows None h rest = each
  where
    each : (i : ℕ) → i < length (row ∷ rows) → is_negative (coeff_at k (row_at (row ∷ rows) i)) ≡ false
    each zero l = h
    each (suc i) l = rest i (omega arith)
leaves_on k start row rows (Some r) h rest = leaves_later k start row rows r (λ n. absurd (both_ways _ h n)) rest

nonzero_negated : (f : Fraction) → is_negative f ≡ true → (negation f).num ≢ pos 0
nonzero_negated f h e = let l : f.num <ℤ pos 0 = negative_is f h in omega (arith, ints, l, e)

pub record HasProper (k : ℕ) (row : Left) : Type 0 where
  pub constant : IsFraction row.constant
  pub coeff : IsFraction (coeff_at k row)

pub leaving_is : (k start : ℕ) (rows : List Left) (o : Option Ratio) → ((i : ℕ) → i < length rows → HasProper k (row_at rows i)) → leaving_from k start rows ≡ Some o → LeavesAs k start rows o
leaving_is k start [] o proper h = subst (λ x. LeavesAs k start [] x) (some_is None o h) (λ i l. absurd (omega arith))
leaving_is k start (row ∷ rows) o proper h = by (λ x e. leaving_is k (suc start) rows x (λ i l. proper (suc i) (omega arith)) e) (is_negative (coeff_at k row)) refl h
  where
    by : ((x : Option Ratio) → leaving_from k (suc start) rows ≡ Some x → LeavesAs k (suc start) rows x) → (b : Bool) → is_negative (coeff_at k row) ≡ b
        → (if b then option_and_then (λ ratio. option_map (lower_ratio (record { spot = record { place = start; variable = row.variable }; ratio = ratio })) (leaving_from k (suc start) rows)) (div row.constant (negation (coeff_at k row)))
        else leaving_from k (suc start) rows) ≡ Some o
        → LeavesAs k start (row ∷ rows) o
    by rest true n h =
        let first = then_some (λ ratio. option_map (lower_ratio (record { spot = record { place = start; variable = row.variable }; ratio = ratio })) (leaving_from k (suc start) rows)) (div row.constant (negation (coeff_at k row))) o h in
        let r : Ratio = record { spot = record { place = start; variable = row.variable }; ratio = first.0 } in
        let later = map_some (lower_ratio r) (leaving_from k (suc start) rows) o first.2 in
        let p : HasProper k row = proper zero (omega arith) in
        subst (λ x. LeavesAs k start (row ∷ rows) x) later.2
        (leaves_step k start row rows r later.0 refl n (div_means row.constant (negation (coeff_at k row)) first.0 p.constant p.coeff (nonzero_negated (coeff_at k row) n) first.1) (rest later.0 later.1))
    by rest false n h = leaves_on k start row rows o n (rest o h)

-- ---- the choice

pub data Turn (d : Dictionary) : Choice → Type 0 where
  no_entering : entering_spot d ≡ None → Turn d is_least
  no_leaving : {k : Spot} → entering_spot d ≡ Some k → leaving_from k.place 0 d.left ≡ Some None → Turn d (is_unbounded k)
  too_wide : Turn d is_wide
  pivoting : {l : ℕ} {k : Spot} (r : Ratio) → r.spot.place ≡ l → entering_spot d ≡ Some k → leaving_from k.place 0 d.left ≡ Some (Some r) → Turn d (pivots l k)

pub turn_of : (d : Dictionary) → Turn d (choice d)
turn_of d = by (entering_spot d) refl
  where
    then_by : (k : Spot) → entering_spot d ≡ Some k → (o : Option (Option Ratio)) → leaving_from k.place 0 d.left ≡ o → Turn d (choice_of k o)
    then_by k e None f = too_wide
    then_by k e (Some None) f = no_leaving e f
    then_by k e (Some (Some r)) f = pivoting r refl e f

    by : (o : Option Spot) → entering_spot d ≡ o → Turn d (choice_at d o)
    by None e = no_entering e
    by (Some k) e = then_by k e (leaving_from k.place 0 d.left) refl
