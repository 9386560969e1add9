use Rattle.std.proofs.Common.{arith, ◌≡◌, ◌+◌, length}
use Rattle.ice_plan.proofs.Behind.{behind_push}
use Rattle.ice_plan.proofs.plan.Plan.push.Goals as goal

pub invariant_of-self-2 : goal.invariant_of-self-2
invariant_of-self-2 c =
    let items = c.self.inside.splits.items in
    let number : c.len-number.result ≡ 0 + length items = omega (arith, c.len-number.ensures) in
    rw c.in_ok-push.ensures.items (behind_push 0 c.len-number.result items c.settled-added.result number c.self.invariant c.settled-added.ensures.behind)
