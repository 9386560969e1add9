-- A pivot over rationals.
use Rattle.std.proofs.Common.{◌≡◌, ◌≢◌, ◌⊎◌, inl, inr, ℕ, ◌<◌, refl, sym, ap, ◌∙◌, arith, cond, eqb}
use Rattle.std.proofs.lemmas.Bool.{eq-eqb, ne_eqb, cases_eq}
use Rattle.ice_frac.proofs.Rational.{ℚ, ◌+ℚ◌, ◌*ℚ◌, neg_ℚ, +ℚ_assoc, +ℚ_comm, +ℚ-zero, +ℚ-neg_ℚ, *ℚ_assoc, *ℚ_comm, *ℚ-+ℚ}
use Rattle.ice_program_laws.proofs.Field.{zero_ℚ, one_ℚ, zero-+ℚ, one-*ℚ, plus_swap, cancel_right, +ℚ-*ℚ, neg-*ℚ}
use Rattle.ice_program_laws.proofs.SumsQ.{sum_ℚ, sum-same, sum-+ℚ, sum-*ℚ, sum-single}

-- w at k, and else 0
only_at : ℕ → ℚ → ℕ → ℚ
only_at k w j = cond (eqb j k) w zero_ℚ

only_at-same : (k : ℕ) (w : ℚ) → only_at k w k ≡ w
unfolding only_at
only_at-same k w = ap (λ b. cond b w zero_ℚ) (eq-eqb k k refl)

only_at-other : (k : ℕ) (w : ℚ) (j : ℕ) → j ≢ k → only_at k w j ≡ zero_ℚ
unfolding only_at
only_at-other k w j ne = ap (λ b. cond b w zero_ℚ) (ne_eqb j k ne)

only_at-sum : (k n : ℕ) (w : ℚ) → k < n → sum_ℚ (only_at k w) n ≡ w
only_at-sum k n w h = sum-single (only_at k w) k n h (λ j l ne. only_at-other k w j ne) ∙ only_at-same k w

-- what holds at k and at each other number holds at each
pub by_place : (P : ℕ → Type 0) (k n : ℕ) → (k < n → P k) → ((j : ℕ) → j < n → j ≢ k → P j) → (j : ℕ) → j < n → P j
by_place P k n at others j h = by (cases_eq j k)
  where
    by : (j ≡ k) ⊎ (j ≢ k) → P j
    by (inl e) = rw e (at (omega arith))
    by (inr ne) = others j h ne

-- the values of the variables on the right before and after
pub record Exchanged (k n : ℕ) (v w : ℕ → ℚ) : Type 0 where
  pub within : k < n
  pub kept : (j : ℕ) → j < n → j ≢ k → w j ≡ v j

-- the new row of the leaving variable's place: r0 and r in place of b and e
pub record IsTurned (k n : ℕ) (b : ℚ) (e : ℕ → ℚ) (r0 : ℚ) (r : ℕ → ℚ) : Type 0 where
  pub constant : e k *ℚ r0 ≡ neg_ℚ b
  pub entries : (j : ℕ) → j < n → j ≢ k → e k *ℚ r j ≡ neg_ℚ (e j)
  pub entry : e k *ℚ r k ≡ one_ℚ

-- another row: c0 and c in place of b and e, the new row put in
pub record IsAdded (k n : ℕ) (r0 : ℚ) (r : ℕ → ℚ) (b : ℚ) (e : ℕ → ℚ) (c0 : ℚ) (c : ℕ → ℚ) : Type 0 where
  pub constant : c0 ≡ b +ℚ e k *ℚ r0
  pub entries : (j : ℕ) → j < n → j ≢ k → c j ≡ e j +ℚ e k *ℚ r j
  pub entry : c k ≡ e k *ℚ r k

abbrev pub row_value : ℕ → ℚ → (ℕ → ℚ) → (ℕ → ℚ) → ℚ
row_value n b e v = b +ℚ sum_ℚ (λ j. e j *ℚ v j) n

added-sum : (k n : ℕ) (v w : ℕ → ℚ) (r0 : ℚ) (r : ℕ → ℚ) (b : ℚ) (e : ℕ → ℚ) (c0 : ℚ) (c : ℕ → ℚ) → Exchanged k n v w → IsAdded k n r0 r b e c0 c
    → sum_ℚ (λ j. c j *ℚ w j) n +ℚ e k *ℚ v k ≡ sum_ℚ (λ j. e j *ℚ v j) n +ℚ e k *ℚ sum_ℚ (λ j. r j *ℚ w j) n
added-sum k n v w r0 r b e c0 c x a =
    ap (λ y. sum_ℚ (λ j. c j *ℚ w j) n +ℚ y) (sym (only_at-sum k n (e k *ℚ v k) x.within))
    ∙ sym (sum-+ℚ (λ j. c j *ℚ w j) (only_at k (e k *ℚ v k)) n)
    ∙ sum-same (λ j. c j *ℚ w j +ℚ only_at k (e k *ℚ v k) j) (λ j. e j *ℚ v j +ℚ e k *ℚ (r j *ℚ w j)) n
    (by_place (λ j. c j *ℚ w j +ℚ only_at k (e k *ℚ v k) j ≡ e j *ℚ v j +ℚ e k *ℚ (r j *ℚ w j)) k n (λ h. here) other)
    ∙ sum-+ℚ (λ j. e j *ℚ v j) (λ j. e k *ℚ (r j *ℚ w j)) n
    ∙ ap (λ y. sum_ℚ (λ j. e j *ℚ v j) n +ℚ y) (sum-*ℚ (e k) (λ j. r j *ℚ w j) n)
  where
    here : c k *ℚ w k +ℚ only_at k (e k *ℚ v k) k ≡ e k *ℚ v k +ℚ e k *ℚ (r k *ℚ w k)
    here = ap (λ y. c k *ℚ w k +ℚ y) (only_at-same k (e k *ℚ v k)) ∙ ap (λ y. y *ℚ w k +ℚ e k *ℚ v k) a.entry ∙ ap (λ y. y +ℚ e k *ℚ v k) (*ℚ_assoc (e k) (r k) (w k))
        ∙ +ℚ_comm (e k *ℚ (r k *ℚ w k)) (e k *ℚ v k)

    other : (j : ℕ) → j < n → j ≢ k → c j *ℚ w j +ℚ only_at k (e k *ℚ v k) j ≡ e j *ℚ v j +ℚ e k *ℚ (r j *ℚ w j)
    other j h ne = ap (λ y. c j *ℚ w j +ℚ y) (only_at-other k (e k *ℚ v k) j ne) ∙ +ℚ-zero (c j *ℚ w j) ∙ ap (λ y. y *ℚ w j) (a.entries j h ne)
        ∙ +ℚ-*ℚ (e j) (e k *ℚ r j) (w j) ∙ ap (λ y. e j *ℚ y +ℚ (e k *ℚ r j) *ℚ w j) (x.kept j h ne) ∙ ap (λ y. e j *ℚ v j +ℚ y) (*ℚ_assoc (e k) (r j) (w j))

-- where the entering variable has the new row's value, another row has the value that it had
pub added-value : (k n : ℕ) (v w : ℕ → ℚ) (r0 : ℚ) (r : ℕ → ℚ) (b : ℚ) (e : ℕ → ℚ) (c0 : ℚ) (c : ℕ → ℚ) → Exchanged k n v w → IsAdded k n r0 r b e c0 c
    → v k ≡ row_value n r0 r w → row_value n c0 c w ≡ row_value n b e v
added-value k n v w r0 r b e c0 c x a h =
    let old : ℚ = sum_ℚ (λ j. e j *ℚ v j) n in
    let new : ℚ = sum_ℚ (λ j. c j *ℚ w j) n in
    let turned : ℚ = sum_ℚ (λ j. r j *ℚ w j) n in
    cancel_right (c0 +ℚ new) (b +ℚ old) (e k *ℚ v k)
    (+ℚ_assoc c0 new (e k *ℚ v k) ∙ ap (λ y. c0 +ℚ y) (added-sum k n v w r0 r b e c0 c x a) ∙ ap (λ y. y +ℚ (old +ℚ e k *ℚ turned)) a.constant
    ∙ plus_swap b (e k *ℚ r0) old (e k *ℚ turned) ∙ ap (λ y. (b +ℚ old) +ℚ y) (sym (*ℚ-+ℚ (e k) r0 turned) ∙ ap (λ y. e k *ℚ y) (sym h)))

turned-sum : (k n : ℕ) (v w : ℕ → ℚ) (b : ℚ) (e : ℕ → ℚ) (r0 : ℚ) (r : ℕ → ℚ) → Exchanged k n v w → IsTurned k n b e r0 r
    → e k *ℚ sum_ℚ (λ j. r j *ℚ w j) n +ℚ sum_ℚ (λ j. e j *ℚ v j) n ≡ w k +ℚ e k *ℚ v k
turned-sum k n v w b e r0 r x t =
    ap (λ y. y +ℚ sum_ℚ (λ j. e j *ℚ v j) n) (sym (sum-*ℚ (e k) (λ j. r j *ℚ w j) n))
    ∙ sym (sum-+ℚ (λ j. e k *ℚ (r j *ℚ w j)) (λ j. e j *ℚ v j) n)
    ∙ sum-same (λ j. e k *ℚ (r j *ℚ w j) +ℚ e j *ℚ v j) (only_at k (w k +ℚ e k *ℚ v k)) n
    (by_place (λ j. e k *ℚ (r j *ℚ w j) +ℚ e j *ℚ v j ≡ only_at k (w k +ℚ e k *ℚ v k) j) k n (λ h. here) other)
    ∙ only_at-sum k n (w k +ℚ e k *ℚ v k) x.within
  where
    here : e k *ℚ (r k *ℚ w k) +ℚ e k *ℚ v k ≡ only_at k (w k +ℚ e k *ℚ v k) k
    here = ap (λ y. y +ℚ e k *ℚ v k) (sym (*ℚ_assoc (e k) (r k) (w k)) ∙ ap (λ y. y *ℚ w k) t.entry ∙ one-*ℚ (w k)) ∙ sym (only_at-same k (w k +ℚ e k *ℚ v k))

    other : (j : ℕ) → j < n → j ≢ k → e k *ℚ (r j *ℚ w j) +ℚ e j *ℚ v j ≡ only_at k (w k +ℚ e k *ℚ v k) j
    other j h ne = ap (λ y. y +ℚ e j *ℚ v j)
        (sym (*ℚ_assoc (e k) (r j) (w j)) ∙ ap (λ y. y *ℚ w j) (t.entries j h ne) ∙ ap (λ y. neg_ℚ (e j) *ℚ y) (x.kept j h ne) ∙ neg-*ℚ (e j) (v j))
        ∙ +ℚ_comm (neg_ℚ (e j *ℚ v j)) (e j *ℚ v j) ∙ +ℚ-neg_ℚ (e j *ℚ v j) ∙ sym (only_at-other k (w k +ℚ e k *ℚ v k) j ne)

turned-value : (k n : ℕ) (v w : ℕ → ℚ) (b : ℚ) (e : ℕ → ℚ) (r0 : ℚ) (r : ℕ → ℚ) → Exchanged k n v w → IsTurned k n b e r0 r
    → e k *ℚ row_value n r0 r w +ℚ row_value n b e v ≡ w k +ℚ e k *ℚ v k
turned-value k n v w b e r0 r x t =
    let old : ℚ = sum_ℚ (λ j. e j *ℚ v j) n in
    let turned : ℚ = sum_ℚ (λ j. r j *ℚ w j) n in
    ap (λ y. y +ℚ (b +ℚ old)) (*ℚ-+ℚ (e k) r0 turned) ∙ plus_swap (e k *ℚ r0) (e k *ℚ turned) b old
    ∙ ap (λ y. (y +ℚ b) +ℚ (e k *ℚ turned +ℚ old)) t.constant ∙ ap (λ y. y +ℚ (e k *ℚ turned +ℚ old)) (+ℚ_comm (neg_ℚ b) b ∙ +ℚ-neg_ℚ b)
    ∙ zero-+ℚ (e k *ℚ turned +ℚ old) ∙ turned-sum k n v w b e r0 r x t

pub cancel_left : (a r x y : ℚ) → a *ℚ r ≡ one_ℚ → a *ℚ x ≡ a *ℚ y → x ≡ y
cancel_left a r x y h e = sym (whole x) ∙ ap (λ z. r *ℚ z) e ∙ whole y
  where
    whole : (x : ℚ) → r *ℚ (a *ℚ x) ≡ x
    whole x = sym (*ℚ_assoc r a x) ∙ ap (λ z. z *ℚ x) (*ℚ_comm r a ∙ h) ∙ one-*ℚ x

-- the leaving variable has its row's value exactly where the entering one has the new row's
pub turned_from_old : (k n : ℕ) (v w : ℕ → ℚ) (b : ℚ) (e : ℕ → ℚ) (r0 : ℚ) (r : ℕ → ℚ) → Exchanged k n v w → IsTurned k n b e r0 r
    → w k ≡ row_value n b e v → v k ≡ row_value n r0 r w
turned_from_old k n v w b e r0 r x t h = sym (cancel_left (e k) (r k) (row_value n r0 r w) (v k) t.entry
    (cancel_right (e k *ℚ row_value n r0 r w) (e k *ℚ v k) (row_value n b e v)
    (turned-value k n v w b e r0 r x t ∙ +ℚ_comm (w k) (e k *ℚ v k) ∙ ap (λ y. e k *ℚ v k +ℚ y) h)))

pub old_from_turned : (k n : ℕ) (v w : ℕ → ℚ) (b : ℚ) (e : ℕ → ℚ) (r0 : ℚ) (r : ℕ → ℚ) → Exchanged k n v w → IsTurned k n b e r0 r
    → v k ≡ row_value n r0 r w → w k ≡ row_value n b e v
old_from_turned k n v w b e r0 r x t h = cancel_right (w k) (row_value n b e v) (e k *ℚ v k)
    (sym (turned-value k n v w b e r0 r x t) ∙ +ℚ_comm (e k *ℚ row_value n r0 r w) (row_value n b e v) ∙ ap (λ y. row_value n b e v +ℚ e k *ℚ y) (sym h))
