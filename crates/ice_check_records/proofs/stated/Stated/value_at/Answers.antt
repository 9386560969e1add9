use Rattle.std.proofs.Common.{List, sym, subst, arith}
use Rattle.ice_defs.specs.Tree.{Tree}
use Rattle.ice_tree.specs.Alike.{HasSetPerTree}
use Rattle.ice_check_records.proofs.stated.Stated.value_at.Goals as goal

pub value-requires-clause-sets : goal.value-requires-clause-sets
value-requires-clause-sets c =
    let h = c.self.invariant in
    subst (λ (ts : List Tree). HasSetPerTree ts c.self.inside.sets) (sym c.trees.ensures.value)
    (record { count = h.same_length; nodes = λ b l. h.sizes b (omega (arith, l, h.same_length)) })
