use Rattle.std.proofs.Common.{arith, rules}
use Rattle.std.proofs.lemmas.Int.{to_z-of_z}
use mir.Syntax.{w128}
use mir.Val.{SFits}
use Rattle.ice_defs.specs.Set.{has, weight_of}
use Rattle.ice_best.proofs.Existence.{taken_set}
use Rattle.ice_best.proofs.RootEntry.{none_open, is_greatest}
use Rattle.ice_best.proofs.table.Table.greatest.Goals as goal

pub returns-then-is_blocked-clause-none : goal.returns-then-is_blocked-clause-none
returns-then-is_blocked-clause-none c = λ t w x is.
    let s = c.args.self.now in
    let blocked = c.is_blocked.ensures.yes c.if-is_blocked.true in
    none_open t w x (weight_of s.gain) (has s.needed) (has s.possible) (has s.taken) is.tree (λ n l. is.entries n (omega arith) l) blocked.0 blocked.1

pub returns-clause-some : goal.returns-clause-some
returns-clause-some c = λ t w x is.
    let s = c.args.self.now in
    let gain_fits : SFits w128 (weight_of s.gain 0) = search rules in
    let fits : SFits w128 c.root_value.result = search rules in
    let gains = rw (to_z-of_z w128 (weight_of s.gain 0) gain_fits) at c.takes_root-root.ensures.gains in
    let left = rw (to_z-of_z w128 (weight_of s.gain 0) gain_fits) at c.takes_root-root.ensures.left in
    let value_is = rw (to_z-of_z w128 (weight_of s.gain 0) gain_fits) at c.root_value.ensures in
    let set = taken_set t (has s.taken) c.takes_root-root.result is.tree in
    rw (to_z-of_z w128 c.root_value.result fits, value_is)
    (is_greatest t w x (weight_of s.gain) (has s.needed) (has s.possible) (has s.taken) is.tree (λ n l. is.entries n (omega arith) l)
    c.takes_root-root.result set.0 set.1 c.takes_root-root.ensures.may c.takes_root-root.ensures.must gains left)
