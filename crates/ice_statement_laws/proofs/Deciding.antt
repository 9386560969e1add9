-- The audit has one outcome.
use Rattle.std.proofs.Common.{◌≡◌, ◌<◌, ◌≤◌, List, [], ◌∷◌, refl, ap, subst, arith, ◌⊎◌, inl, inr}
use Rattle.std.specs.Prelude.{Option, Some}
use Rattle.std.proofs.lemmas.Bool.{cases_lt}
use Rattle.ice_journal_laws.specs.declared.rule.Rule.{Rule}
use Rattle.ice_journal_laws.specs.Tests.{place_of}
use Rattle.ice_journal_laws.specs.Checks.{Failure}
use Rattle.ice_journal_laws.proofs.Single.{same_rule, some_same}
use Rattle.ice_statement_laws.specs.Statement.{StatementLine}
use Rattle.ice_statement_laws.specs.Audit.{AuditState, audit_begun, audit_next, AuditFails, Audited, passes, is_short, fails, goes_on}
use Rattle.ice_statement_laws.specs.Laws.{AuditIsOne}

same_first : (x y : Rule) (s : AuditState) (l : StatementLine) → AuditFails x s l → ((z : Rule) → place_of z < place_of x → ¬ AuditFails z s l) → AuditFails y s l → ((z : Rule) → place_of z < place_of y → ¬ AuditFails z s l) → x ≡ y
same_first x y s l f before g earlier = by (cases_lt (place_of x) (place_of y)) (cases_lt (place_of y) (place_of x))
  where
    by : (place_of x < place_of y) ⊎ (place_of y ≤ place_of x) → (place_of y < place_of x) ⊎ (place_of x ≤ place_of y) → x ≡ y
    by (inl m) other = absurd (earlier x m f)
    by (inr m) (inl k) = absurd (before y k g)
    by (inr m) (inr k) = same_rule x y (omega (arith, m, k))

same_audited : (s : AuditState) (lines : List StatementLine) (a b : Option Failure) → Audited s lines a → Audited s lines b → a ≡ b
same_audited s [] a b (passes p) (passes q) = refl
same_audited s [] a b (passes p) (is_short q) = absurd (q p)
same_audited s [] a b (is_short p) (passes q) = absurd (p q)
same_audited s [] a b (is_short p) (is_short q) = refl
same_audited s (l ∷ rest) a b (fails {x = x} f before) (fails {x = y} g earlier) = ap (λ (z : Rule). Some (record { line = s.line; rule = z })) (same_first x y s l f before g earlier)
same_audited s (l ∷ rest) a b (fails {x = x} f before) (goes_on none holds is t) = absurd (none x f)
same_audited s (l ∷ rest) a b (goes_on none holds is t) (fails {x = x} f before) = absurd (none x f)
same_audited s (l ∷ rest) a b (goes_on {after = mine} none holds is t) (goes_on {after = other} none' holds' is' t') =
    same_audited mine rest a b t (subst (λ (z : AuditState). Audited z rest b) (some_same (audit_next s l) other mine is' is) t')

pub audit_is_one : AuditIsOne
audit_is_one lines one other h k = same_audited audit_begun lines one other h k
