use Rattle.std.proofs.Common.{◌≡◌, ◌/◌, true, false, pos, ◌+ℤ◌, ◌*ℤ◌, ℤ, ap, sym, subst, ◌∙◌, rules, Some, None}
use Rattle.std.specs.Result.{result_ok}
use Rattle.ice_defs.specs.Fraction.{Fraction, Equals, plus}
use Rattle.ice_defs.specs.Frac.{gcd, lowest, num_fits, den_fits}
use Rattle.ice_frac.proofs.Lowest.{Equals-sum, common_sum, add_is, add_none}
use Rattle.ice_frac.proofs.fraction.Frac.add.Goals as goal

joined : (a b : Fraction) (l r s : ℤ) → l ≡ a.num *ℤ pos (b.den / gcd a.den b.den) → r ≡ b.num *ℤ pos (a.den / gcd a.den b.den) → s ≡ l +ℤ r → s ≡ (common_sum a b).num
joined a b l r s e f g = g ∙ ap (λ x. x +ℤ r) e ∙ ap (λ x. (a.num *ℤ pos (b.den / gcd a.den b.den)) +ℤ x) f

pub returns-in_err-num-clause-exact : goal.returns-in_err-num-clause-exact
returns-in_err-num-clause-exact c =
    let a : Fraction = c.args.self.now in
    let b : Fraction = c.args.other.now in
    let l : c.in_ok-left.left ≡ c.args.self.now.num *ℤ pos (c.args.other.now.den / gcd c.args.self.now.den c.args.other.now.den) = search rules in
    let r : c.in_ok-right.right ≡ c.args.other.now.num *ℤ pos (c.args.self.now.den / gcd c.args.self.now.den c.args.other.now.den) = search rules in
    let wide : num_fits (c.in_ok-left.left +ℤ c.in_ok-right.right) ≡ false = search rules in
    let e : result_ok c.from_residual-in_err-num.result ≡ None = search rules in
    e ∙ sym (add_none a b (ap num_fits (sym (joined a b _ _ (c.in_ok-left.left +ℤ c.in_ok-right.right) l r (λ i. c.in_ok-left.left +ℤ c.in_ok-right.right))) ∙ wide))

pub returns-clause-exact : goal.returns-clause-exact
returns-clause-exact c =
    let a : Fraction = c.args.self.now in
    let b : Fraction = c.args.other.now in
    let l : c.in_ok-left.left ≡ c.args.self.now.num *ℤ pos (c.args.other.now.den / gcd c.args.self.now.den c.args.other.now.den) = search rules in
    let r : c.in_ok-right.right ≡ c.args.other.now.num *ℤ pos (c.args.self.now.den / gcd c.args.self.now.den c.args.other.now.den) = search rules in
    let s : c.in_ok-num.num ≡ c.in_ok-left.left +ℤ c.in_ok-right.right = search rules in
    let d : c.in_ok-den.den ≡ (common_sum c.args.self.now c.args.other.now).den = search rules in
    let n : c.in_ok-num.num ≡ (common_sum a b).num = joined a b _ _ _ l r s in
    let fits_left : num_fits (c.args.self.now.num *ℤ pos (c.args.other.now.den / gcd c.args.self.now.den c.args.other.now.den)) ≡ true = search rules in
    let fits_right : num_fits (c.args.other.now.num *ℤ pos (c.args.self.now.den / gcd c.args.self.now.den c.args.other.now.den)) ≡ true = search rules in
    let fits_sum : num_fits (c.in_ok-left.left +ℤ c.in_ok-right.right) ≡ true = search rules in
    let fits_den : den_fits (common_sum c.args.self.now c.args.other.now).den ≡ true = search rules in
    let e : c.reduce.result ≡ lowest c.in_ok-num.num c.in_ok-den.den = search rules in
    let e' : c.reduce.result ≡ lowest (common_sum a b).num (common_sum a b).den = e ∙ ap (λ x. lowest x c.in_ok-den.den) n ∙ ap (λ x. lowest (common_sum a b).num x) d in
    ap (λ (f : Fraction). Some f) e' ∙ sym (add_is a b fits_left fits_right (ap num_fits (sym n ∙ s) ∙ fits_sum) fits_den)

pub returns-clause-equal : goal.returns-clause-equal
returns-clause-equal c =
    let a : Fraction = c.args.self.now in
    let b : Fraction = c.args.other.now in
    let l : c.in_ok-left.left ≡ c.args.self.now.num *ℤ pos (c.args.other.now.den / gcd c.args.self.now.den c.args.other.now.den) = search rules in
    let r : c.in_ok-right.right ≡ c.args.other.now.num *ℤ pos (c.args.self.now.den / gcd c.args.self.now.den c.args.other.now.den) = search rules in
    let s : c.in_ok-num.num ≡ c.in_ok-left.left +ℤ c.in_ok-right.right = search rules in
    let d : c.in_ok-den.den ≡ (common_sum c.args.self.now c.args.other.now).den = search rules in
    let n : c.in_ok-num.num ≡ (common_sum a b).num = joined a b _ _ _ l r s in
    let e : c.reduce.result ≡ lowest c.in_ok-num.num c.in_ok-den.den = search rules in
    let e' : c.reduce.result ≡ lowest (common_sum a b).num (common_sum a b).den = e ∙ ap (λ x. lowest x c.in_ok-den.den) n ∙ ap (λ x. lowest (common_sum a b).num x) d in
    subst (λ (f : Fraction). Equals f (plus a b)) (sym e') (Equals-sum a b)
