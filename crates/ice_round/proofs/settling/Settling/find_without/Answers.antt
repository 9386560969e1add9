use Rattle.std.proofs.Common.{◌≡◌, ◌∙◌, ◌<◌, ◌++◌, ◌∷◌, [], ℕ, ℤ, List, length, ap, sym, subst, arith}
use Rattle.std.specs.Prelude.{IsTrue}
use Rattle.std.proofs.lemmas.Result.{err_from_is_err_and}
use Rattle.ice_defs.specs.Bounds.{Bounds}
use Rattle.ice_defs.specs.Session.{closes}
use Rattle.ice_defs.specs.Trade.{total_value, IsBestOfAll}
use Rattle.ice_defs.specs.Weighing.{lower_weights}
use Rattle.ice_defs.specs.Exchange.{trees_of, exact_of}
use Rattle.ice_defs.specs.Conditions.{AreBoundsOf}
use Rattle.ice_search.specs.Results.{IsEnd}
use Rattle.ice_vickrey.specs.Economy.{economy_at, without_search}
use Rattle.ice_vickrey.specs.Marginals.{IsMarginalOf}
use Rattle.ice_round.specs.Held.{Held, settling_with, HasFound, HasOneMore}
use Rattle.ice_round.specs.Settling.{IsStoppedBehind}
use Rattle.ice_round.specs.KeptSettling.{held_at}
use Rattle.ice_round.proofs.Halting.{stopped_behind_without}
use Rattle.ice_round.proofs.Settlements.{done_count, found_more}
use Rattle.ice_round.proofs.settling.Settling.find_without.Goals as goal

pub without_bidder-requires-clause-bounds : goal.without_bidder-requires-clause-bounds
without_bidder-requires-clause-bounds c = subst (AreBoundsOf (trees_of c.self.inside.session.exchange)) (sym c.bounds.ensures) c.self.invariant.found.found.session.bounds

pub without_bidder-requires-clause-feasible : goal.without_bidder-requires-clause-feasible
without_bidder-requires-clause-feasible c = c.self.invariant.found.found.settlement.settled.final.feasible

pub without_bidder-requires-clause-value : goal.without_bidder-requires-clause-value
without_bidder-requires-clause-value c =
    subst (λ (bs : List Bounds). total_value c.self.inside.best.best (lower_weights bs) ≡ c.self.inside.best.value) (sym c.bounds.ensures) c.self.invariant.found.found.settlement.settled.final.value

pub without_bidder-requires-clause-best : goal.without_bidder-requires-clause-best
without_bidder-requires-clause-best c =
    let ex = c.self.inside.session.exchange in
    subst (λ (bs : List Bounds). IsBestOfAll (trees_of ex) (exact_of ex) (lower_weights bs) c.self.inside.best.value) (sym c.bounds.ensures) c.self.invariant.found.found.settlement.settled.final.best

pub without_bidder-requires-clause-bidder : goal.without_bidder-requires-clause-bidder
without_bidder-requires-clause-bidder c = omega (arith, c.len-bidder.ensures, subst (λ (z : Held). length z.discounts < length (trees_of z.session.exchange)) (sym c.self.view_is) c.requires.next)

pub without_bidder-requires-clause-branches : goal.without_bidder-requires-clause-branches
without_bidder-requires-clause-branches c = omega (arith, c.self.invariant.found.branches, c.self.invariant.session.branches)

pub keep-requires : goal.keep-requires
keep-requires c = c.in_ok-marginal.ensures.marginal.found.attained.feasible.same_length ∙ ap length (sym c.trees.ensures.value)

pub returns-in_err-marginal-clause-end : goal.returns-in_err-marginal-clause-end
returns-in_err-marginal-clause-end c = λ done has.
    let y = c.self.inside in
    let e = c.in_err-marginal.field-0.0 in
    let new = c.without_bidder.new.branches in
    let ex = y.session.exchange in
    let h : Held = held_at y.session y.best y.regret y.discounts.items y.left in
    let held : HasFound h done = subst (λ (z : Held). HasFound z done) (sym c.self.view_is) has in
    let count : length done ≡ length y.discounts.items = done_count h done held in
    let bidder : c.len-bidder.result ≡ length done = omega (arith, count, c.len-bidder.ensures) in
    let p = err_from_is_err_and c.from_residual.result c.from_residual.ensures.1 in
    let ends = subst (λ (n : ℕ). IsEnd (without_search ex y.session.judge.bounds n) y.left new e) bidder
    (subst (λ (bs : List Bounds). IsEnd (without_search ex bs c.len-bidder.result) y.left new e) c.bounds.ensures c.in_err-marginal.ensures.end) in
    rw (p.1, p.2)
    (subst (λ (z : Held). IsStoppedBehind (settling_with z done) e) c.self.view_is
    (stopped_behind_without (settling_with h done) y.left new held.found
    (subst (λ (z : Held). IsTrue (closes z.session.exchange.settings z.session.number z.regret.amount)) (sym c.self.view_is) c.requires.closes)
    (omega (arith, count, subst (λ (z : Held). length z.discounts < length (trees_of z.session.exchange)) (sym c.self.view_is) c.requires.next))
    held.branches e ends))

-- ---- one more bidder is done

pub invariant_of-self : goal.invariant_of-self
invariant_of-self c =
    let y = c.self.inside in
    let m = c.in_ok-marginal.marginal in
    let h : Held = held_at y.session y.best y.regret y.discounts.items y.left in
    let next : Held = held_at y.session y.best y.regret c.keep.new.discounts.items c.without_bidder.new.branches in
    let bidder : c.len-bidder.result ≡ length y.discounts.items = omega (arith, c.len-bidder.ensures) in
    let is = subst (λ (n : ℕ). IsMarginalOf (economy_at y.session.exchange y.session.judge.bounds y.best.value) n m) bidder
    (subst (λ (bs : List Bounds). IsMarginalOf (economy_at y.session.exchange bs y.best.value) c.len-bidder.result m) c.bounds.ensures c.in_ok-marginal.ensures.marginal) in
    let more : HasOneMore h m next = record {
      is = is;
      then = ap (λ (vs : List ℤ). held_at y.session y.best y.regret vs c.without_bidder.new.branches) c.in-Ok.ensures.discount;
      branches = c.in_ok-marginal.ensures.branches;
    } in
    record {
      session = c.self.invariant.session;
      done = c.self.invariant.done ++ m ∷ [];
      found = found_more h next c.self.invariant.done m c.self.invariant.found (subst (λ (z : Held). length z.discounts < length (trees_of z.session.exchange)) (sym c.self.view_is) c.requires.next) more;
    }

pub returns-in-Ok-clause-more : goal.returns-in-Ok-clause-more
returns-in-Ok-clause-more c =
    let y = c.self.inside in
    let m = c.in_ok-marginal.marginal in
    let next : Held = held_at y.session y.best y.regret c.keep.new.discounts.items c.without_bidder.new.branches in
    let bidder : c.len-bidder.result ≡ length y.discounts.items = omega (arith, c.len-bidder.ensures) in
    let is = subst (λ (n : ℕ). IsMarginalOf (economy_at y.session.exchange y.session.judge.bounds y.best.value) n m) bidder
    (subst (λ (bs : List Bounds). IsMarginalOf (economy_at y.session.exchange bs y.best.value) c.len-bidder.result m) c.bounds.ensures c.in_ok-marginal.ensures.marginal) in
    subst (λ (z : Held). HasOneMore z m next) c.self.view_is (record {
      is = is;
      then = ap (λ (vs : List ℤ). held_at y.session y.best y.regret vs c.without_bidder.new.branches) c.in-Ok.ensures.discount;
      branches = c.in_ok-marginal.ensures.branches;
    })
