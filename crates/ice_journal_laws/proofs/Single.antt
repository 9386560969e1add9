-- A journal has one first failed test.
use Rattle.std.proofs.Common.{◌≡◌, ◌<◌, ◌≤◌, List, [], ◌∷◌, get_or, refl, sym, ◌∙◌, ap, subst, arith, ◌⊎◌, inl, inr}
use Rattle.std.specs.Prelude.{◌-◌, Option, Some}
use Rattle.std.proofs.lemmas.Bool.{cases_lt}
use Rattle.ice_journal.specs.Records.{Record}
use Rattle.ice_journal.specs.Records as line
use Rattle.ice_journal_laws.specs.declared.rule.Rule.{Rule}
use Rattle.ice_journal_laws.specs.declared.rule.Rule.TheVariants as rule
use Rattle.ice_journal_laws.specs.State.{State}
use Rattle.ice_journal_laws.specs.Next.{next}
use Rattle.ice_journal_laws.specs.Tests.{FailsFirst, place_of, ended_list}
use Rattle.ice_journal_laws.specs.Checks.{Failure, Tested, passes, is_short, list_fails, fails, goes_on, FirstFailure}

-- the table of the rules
abbrev table : List Rule
table =
    rule.Closed ∷ rule.Order ∷ rule.Short ∷ rule.Exchange ∷ rule.Count ∷ rule.Parent ∷ rule.Few ∷ rule.Many ∷ rule.Fixing ∷ rule.Excess ∷ rule.Value ∷ rule.Near
    ∷ rule.Sign ∷ rule.Fixed ∷ rule.Above ∷ rule.Alive ∷ rule.Regret ∷ rule.Prices ∷ rule.Violation ∷ rule.Accuracy ∷ rule.Balance ∷ rule.Verdict ∷ rule.Threshold ∷ rule.Payment ∷ []

at_place : (x : Rule) → get_or table (place_of x) rule.Closed ≡ x
at_place rule.Closed = refl
at_place rule.Order = refl
at_place rule.Short = refl
at_place rule.Exchange = refl
at_place rule.Count = refl
at_place rule.Parent = refl
at_place rule.Few = refl
at_place rule.Many = refl
at_place rule.Fixing = refl
at_place rule.Excess = refl
at_place rule.Value = refl
at_place rule.Near = refl
at_place rule.Sign = refl
at_place rule.Fixed = refl
at_place rule.Above = refl
at_place rule.Alive = refl
at_place rule.Regret = refl
at_place rule.Prices = refl
at_place rule.Violation = refl
at_place rule.Accuracy = refl
at_place rule.Balance = refl
at_place rule.Verdict = refl
at_place rule.Threshold = refl
at_place rule.Payment = refl

-- no two rules have one place
pub same_rule : (x y : Rule) → place_of x ≡ place_of y → x ≡ y
same_rule x y e = sym (at_place x) ∙ ap (λ n. get_or table n rule.Closed) e ∙ at_place y

pub same_first : (x y : Rule) (s : State) (r : Record) → FailsFirst x s r → FailsFirst y s r → x ≡ y
same_first x y s r f g = by (cases_lt (place_of x) (place_of y)) (cases_lt (place_of y) (place_of x))
  where
    by : (place_of x < place_of y) ⊎ (place_of y ≤ place_of x) → (place_of y < place_of x) ⊎ (place_of x ≤ place_of y) → x ≡ y
    by (inl l) other = absurd (g.1 x l f.0)
    by (inr l) (inl k) = absurd (f.1 y k g.0)
    by (inr l) (inr k) = same_rule x y (omega arith)

pub some_same : {X : Type 0} (o : Option X) (x y : X) → o ≡ Some x → o ≡ Some y → x ≡ y
some_same o x y e f = cc

pub same_tested : (s : State) (records : List Record) (a b : Option Failure) → Tested s records a → Tested s records b → a ≡ b
same_tested s [] a b (passes p) (passes q) = refl
same_tested s [] a b (passes p) (is_short q) = absurd (q p)
same_tested s [] a b (is_short p) (passes q) = absurd (p q)
same_tested s [] a b (is_short p) (is_short q) = refl
same_tested s (r ∷ rest) a b (list_fails {x = x} e n) (list_fails {x = y} f m) = ap (λ (z : Rule). Some (record { line = s.line - 1; rule = z })) (some_same (ended_list s.place r) x y e f)
same_tested s (r ∷ rest) a b (list_fails {x = x} e n) (fails h f) = absurd (n (h x e))
same_tested s (r ∷ rest) a b (list_fails {x = x} e n) (goes_on h f k g t) = absurd (n (h x e))
same_tested s (r ∷ rest) a b (fails h f) (list_fails {x = x} e n) = absurd (n (h x e))
same_tested s (r ∷ rest) a b (fails {x = x} h f) (fails {x = y} k g) = ap (λ (z : Rule). Some (record { line = s.line; rule = z })) (same_first x y s r f g)
same_tested s (r ∷ rest) a b (fails {x = x} h f) (goes_on k n j g t) = absurd (n x f.0)
same_tested s (r ∷ rest) a b (goes_on h f k g t) (list_fails {x = x} e n) = absurd (n (h x e))
same_tested s (r ∷ rest) a b (goes_on h n k g t) (fails {x = x} j f) = absurd (n x f.0)
same_tested s (r ∷ rest) a b (goes_on {after = mine} h n k g t) (goes_on {after = other} h' n' k' g' t') =
    same_tested mine rest a b t (subst (λ (z : State). Tested z rest b) (some_same (next s r) other mine g' g) t')

pub same_failure : (journal : List Record) (a b : Option Failure) → FirstFailure journal a → FirstFailure journal b → a ≡ b
same_failure (line.head version kind ∷ rest) a b f g = same_tested _ rest a b f g
same_failure (other ∷ rest) a b f g = absurd f
same_failure [] a b f g = absurd f
