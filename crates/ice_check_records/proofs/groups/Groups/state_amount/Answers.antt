use Rattle.std.proofs.Common.{rules, ◌≡◌, ℤ, ◌-ℤ◌, sym, ◌∙◌, ap, subst}
use Rattle.std.proofs.lemmas.Bool.{true≢false}
use Rattle.std.proofs.lemmas.Int.{to_z-of_z}
use mir.Syntax.{w64, w128}
use mir.Val.{SFits, to_z, of_z}
use Rattle.ice_defs.specs.Session.{closes}
use Rattle.ice_journal.specs.Records as records
use Rattle.ice_check_records.specs.declared.next.Next.{Next}
use Rattle.ice_check_records.specs.declared.next.Next.TheVariants as coming
use Rattle.ice_check_records.specs.Groups.{known_in}
use Rattle.ice_check_records.specs.Taking.{behind_regret, IsTaken}
use Rattle.ice_journal_laws.proofs.Settling.{amount_wrong}
use Rattle.ice_check_records.proofs.Ending.{amount_taken}
use Rattle.ice_check_records.proofs.groups.Groups.state_amount.Goals as goal

pub returns-then-not-is_same : goal.returns-then-not-is_same
returns-then-not-is_same c =
    let g = c.args.self.now in
    let amount = c.args.amount in
    let same : to_z w64 (of_z w64 amount) ≡ amount = to_z-of_z w64 amount c.ranges.amount in
    let rival_fits : SFits w64 g.rival = search rules in
    let final_fits : SFits w64 g.final_value = search rules in
    let total_fits : SFits w128 c.difference.result = search rules in
    let is : to_z w128 (of_z w128 c.difference.result) ≡ (g.rival -ℤ g.final_value) = to_z-of_z w128 c.difference.result total_fits ∙ c.difference.ensures
    ∙ ap (λ z. z -ℤ to_z w64 (of_z w64 g.final_value)) (to_z-of_z w64 g.rival rival_fits) ∙ ap (λ z. g.rival -ℤ z) (to_z-of_z w64 g.final_value final_fits) in
    λ s quiet. amount_wrong (known_in g coming.Amount s) amount (λ e. true≢false (sym (c.is_same.ensures.1 (is ∙ sym e ∙ sym same)) ∙ c.if-not-is_same.true))

pub returns : goal.returns
returns c =
    let g = c.args.self.now in
    let amount = c.args.amount in
    let same : to_z w64 (of_z w64 amount) ≡ amount = to_z-of_z w64 amount c.ranges.amount in
    let rival_fits : SFits w64 g.rival = search rules in
    let final_fits : SFits w64 g.final_value = search rules in
    let total_fits : SFits w128 c.difference.result = search rules in
    let is : to_z w128 (of_z w128 c.difference.result) ≡ (g.rival -ℤ g.final_value) = to_z-of_z w128 c.difference.result total_fits ∙ c.difference.ensures
    ∙ ap (λ z. z -ℤ to_z w64 (of_z w64 g.final_value)) (to_z-of_z w64 g.rival rival_fits) ∙ ap (λ z. g.rival -ℤ z) (to_z-of_z w64 g.final_value final_fits) in
    let now_is : c.behind_regret-self.result ≡ behind_regret g.head (closes g.stated.exchange.settings g.number amount) = c.behind_regret-self.ensures ∙ ap (λ (z : ℤ). behind_regret g.head (closes g.stated.exchange.settings g.number z)) same in
    subst (λ (z : ℤ). IsTaken coming.Amount g (records.regret amount) (record g { regret = z; next = c.behind_regret-self.result })) (sym same)
    (subst (λ (now : Next). IsTaken coming.Amount g (records.regret amount) (record g { regret = amount; next = now })) (sym now_is)
    (amount_taken g amount (sym same ∙ sym (c.is_same.ensures.0 c.if-not-is_same.false) ∙ is) c.requires.kept c.requires.ready))
