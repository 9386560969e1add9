-- What the stages of the checker stand for, behind the exchange and at the end.
use Rattle.std.proofs.Common.{◌≡◌, ℕ, suc, refl, sym, ◌∙◌, ap, subst, ◌⊎◌, inl, inr}
use Rattle.std.specs.Prelude.{Option, Some, None, Ok, unwrap_or}
use Rattle.ice_journal.specs.Records.{Record}
use Rattle.ice_journal_laws.specs.declared.answer.Answer.{Answer}
use Rattle.ice_journal_laws.specs.declared.answer.Answer.TheVariants.{No}
use Rattle.ice_journal_laws.specs.declared.rule.Rule.{Rule}
use Rattle.ice_journal_laws.specs.declared.rule.Rule.TheVariants as rule
use Rattle.ice_journal_laws.specs.State.{State}
use Rattle.ice_journal_laws.specs.Answers.{EndsWith}
use Rattle.ice_journal_laws.specs.Progress.{Progress, passing, failed, other_kind, out_of_memory, IsAfter}
use Rattle.ice_check_offer.specs.declared.fault.Fault.{Fault}
use Rattle.ice_check_records.specs.declared.groups.Groups.{Groups}
use Rattle.ice_check_records.specs.declared.stage.Stage.{Stage}
use Rattle.ice_check_records.specs.declared.stage.Stage.TheVariants as stage
use Rattle.ice_check_records.specs.Groups.{StandsFor}
use Rattle.ice_check_records.specs.Taking.{failure_at, IsTaken, Fails, IsAnswer}
use Rattle.ice_check_records.specs.Stages.{IsProgress, TakesFurther}
use Rattle.ice_check_records.proofs.Knowing.{stands_goes, stands_fails}

-- the tests have come to a state of which this is known
abbrev pub IsBehind : Groups → ℕ → Progress → Type 0
IsBehind g n p = (s : State) × (p ≡ passing s) × (s.line ≡ n) × StandsFor g s

-- a record that passes
pub record GoesBehind (after : Groups) (n : ℕ) (p : Progress) (r : Record) : Type 0 where
  pub state : State
  pub leads : IsAfter p r (passing state)
  pub line : state.line ≡ suc n
  pub stands : StandsFor after state

pub goes_behind : (g after : Groups) (r : Record) (n : ℕ) (p : Progress) → IsTaken g.next g r after → IsBehind g n p → GoesBehind after n p r
goes_behind g after r n p taken (s, is, line, stands) =
    let x = stands_goes g r after taken s stands in
    record { state = x.state; leads = subst (λ (q : Progress). IsAfter q r (passing x.state)) (sym is) x.passes; line = x.line ∙ ap suc line; stands = x.stands }

-- or that fails
pub fails_behind : (g : Groups) (r : Record) (fault : Fault) (n : ℕ) (p : Progress) → Fails g.next g r fault → IsBehind g n p → IsAfter p r (failed (failure_at n fault))
fails_behind g r fault n p fails (s, is, line, stands) =
    subst (λ (q : Progress). IsAfter q r (failed (failure_at n fault))) (sym is)
    (subst (λ (m : ℕ). IsAfter (passing s) r (failed (failure_at m fault))) line (stands_fails g r fault fails s stands))

-- no record matters any more
pub stays_put : (n : ℕ) (s : Stage) (p : Progress) (r : Record) → (s ≡ stage.OtherKind) ⊎ ((line : ℕ) × (x : Rule) × (s ≡ stage.Failed line x)) → IsProgress n s p → TakesFurther n s p r
stays_put n s p r (inl e) is =
    let come : p ≡ other_kind = subst (λ (t : Stage). IsProgress n t p) e is in
    subst (λ (t : Stage). TakesFurther n t p r) (sym e) (record { after = other_kind; leads = subst (λ (q : Progress). IsAfter q r other_kind) (sym come) refl; stands = refl })
stays_put n s p r (inr (line, x, e)) is =
    let first : Progress = failed (record { line = line; rule = x }) in
    let come : p ≡ first = subst (λ (t : Stage). IsProgress n t p) e is in
    subst (λ (t : Stage). TakesFurther n t p r) (sym e) (record { after = first; leads = subst (λ (q : Progress). IsAfter q r first) (sym come) refl; stands = refl })

-- what is answered
pub answers_behind : (g : Groups) (n : ℕ) (found : Option Answer) (p : Progress) → IsAnswer g found → IsBehind g n p → EndsWith p (Ok (unwrap_or found (No n rule.Short)))
answers_behind g n None p h (s, is, line, stands) = subst (λ (q : Progress). EndsWith q (Ok (No n rule.Short))) (sym is) (h s stands, sym line, refl)
answers_behind g n (Some answer) p h (s, is, line, stands) = subst (λ (q : Progress). EndsWith q (Ok answer)) (sym is) (h s stands)

-- no memory was left: nothing else is known
pub stopped_stays : (n : ℕ) (s : Stage) (p : Progress) → IsProgress n s out_of_memory → IsProgress n s p → p ≡ out_of_memory
stopped_stays n stage.Begin p out is = is ∙ sym out
stopped_stays n stage.OtherKind p out is = is ∙ sym out
stopped_stays n (stage.Describing head section) p out is = is ∙ sym out
stopped_stays n (stage.Behind groups) p (s, out, line, stands) is = absurd cc
stopped_stays n (stage.Failed line rule) p out is = is ∙ sym out
stopped_stays n stage.OutOfMemory p out is = is
