use Rattle.std.proofs.Common.{◌+◌, ◌∙◌, sym, subst, arith}
use Rattle.ice_defs.specs.Trade.{Assignment}
use Rattle.ice_check_records.specs.Stating.{AreStated}
use Rattle.ice_check_records.proofs.Placing.{one_set_stated, next_set}
use Rattle.ice_check_records.proofs.stated.Stated.put.Goals as goal

pub put-requires-clause-nodes : goal.put-requires-clause-nodes
put-requires-clause-nodes c =
    let s = c.self.inside in
    let h = next_set s.exchange s.sets s.taken c.args.set.now c.args.self.now c.self.invariant c.self.view_is c.requires.room c.requires.satisfied in
    let room = h.0 in
    let count = c.self.invariant.same_length in
    h.1.same_length ∙ sym (c.self.invariant.sizes s.taken (omega arith))

pub invariant_of-self : goal.invariant_of-self
invariant_of-self c =
    let s = c.self.inside in
    let h = next_set s.exchange s.sets s.taken c.args.set.now c.args.self.now c.self.invariant c.self.view_is c.requires.room c.requires.satisfied in
    subst (λ (a : Assignment). AreStated s.exchange a (s.taken + 1)) (sym c.put.ensures) (one_set_stated s.exchange s.sets s.taken c.args.set.now c.self.invariant h.0 h.1)
