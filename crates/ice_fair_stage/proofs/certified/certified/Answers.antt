use Rattle.std.proofs.Common.{ℕ, ◌≡◌, ◌*◌, ◌∙◌, ap, sym, subst, pos, ◌≤ℤ◌, List, length, IfOk, arith}
use Rattle.std.specs.List.{AllByRecursion}
use Rattle.ice_defs.specs.Fraction.{Fraction}
use Rattle.ice_defs.specs.Program.{AreNonNegative}
use Rattle.ice_defs.specs.PricingRun.{common_den, num_over}
use Rattle.ice_turns.proofs.Points.{low-drop, low-front}
use Rattle.ice_fair_stage.specs.Stages.{FairStage}
use Rattle.ice_fair_stage.specs.Certified.{IsCertificate}
use Rattle.ice_fair_stage.proofs.Certifying.{all-low, weights-are}
use Rattle.ice_fair_stage.proofs.certified.certified.Goals as goal

pub made_of-requires-clause-low : goal.made_of-requires-clause-low
made_of-requires-clause-low c =
    let later : AreNonNegative c.split_at.result.1.now = subst AreNonNegative (sym c.split_at.ensures.back) (low-drop c.from.result c.args.duals.now c.requires.low) in
    let own : AreNonNegative c.split_at-2.result.0.now = subst AreNonNegative (sym c.split_at-2.ensures.front) (low-front (2 * c.from-2.result) c.split_at.result.1.now later) in
    let members : AreNonNegative c.split_at-2.result.1.now = subst AreNonNegative (sym c.split_at-2.ensures.back) (low-drop (2 * c.from-2.result) c.split_at.result.1.now later) in
    let made = c.deref.ensures.value ∙ c.in_ok-weights.ensures.value in
    subst (λ (ws : List Fraction). AllByRecursion (λ w. pos 0 ≤ℤ num_over (common_den ws) w) ws) (sym made)
    (all-low c.at.inside.cut c.at.inside.den c.split_at-2.result.0.now c.split_at-2.result.1.now own members _)

pub returns-clause-value : goal.returns-clause-value
returns-clause-value c =
    let bidders : c.bidders-bidders.result ≡ length c.args.trade.now.trees = c.bidders-bidders.ensures.value in
    let place : 2 * c.from-2.result ≡ 2 * length c.args.trade.now.trees = omega (arith, c.from-2.ensures, bidders) in
    let made = c.deref.ensures.value ∙ c.in_ok-weights.ensures.value ∙ weights-are c.args.trade.now c.args.at.now c.at.inside.cut c.at.inside.den (2 * c.from-2.result) c.from.result c.args.duals.now
    c.split_at.result.1.now c.split_at-2.result.0.now c.split_at-2.result.1.now (ap (λ (s : FairStage). s.cut) c.at.view_is) (ap (λ (s : FairStage). s.den) c.at.view_is) place
    (c.from.ensures ∙ c.goods.ensures.value) c.split_at.ensures.back c.split_at-2.ensures.front c.split_at-2.ensures.back in
    subst (λ (ws : List Fraction). IfOk c.made_of.result (IsCertificate (length c.args.trade.now.trees) c.args.pool.now ws)) made
    (subst (λ (b : ℕ). IfOk c.made_of.result (IsCertificate b c.args.pool.now c.deref.result.now)) bidders c.made_of.ensures.value)
