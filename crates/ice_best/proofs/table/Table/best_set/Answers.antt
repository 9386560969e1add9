use Rattle.std.proofs.Common.{arith, rules}
use Rattle.std.proofs.lemmas.Int.{to_z-of_z}
use mir.Syntax.{w128}
use mir.Val.{SFits}
use Rattle.ice_defs.specs.Set.{has, weight_of}
use Rattle.ice_best.proofs.RootEntry.{none_open, is_open, has_greatest}
use Rattle.ice_best.proofs.table.Table.best_set.Goals as goal

pub returns-then-is_blocked-clause-set : goal.returns-then-is_blocked-clause-set
returns-then-is_blocked-clause-set c = λ w x is v greatest.
    let s = c.args.self.now in
    let blocked = c.is_blocked.ensures.yes c.if-is_blocked.true in
    absurd (none_open c.args.tree.now w x (weight_of s.gain) (has s.needed) (has s.possible) (has s.taken) is.tree (λ n l. is.entries n (omega arith) l) blocked.0 blocked.1
    greatest.attained.0 greatest.attained.1)

pub returns-clause-set : goal.returns-clause-set
returns-clause-set c = λ w x is v greatest.
    let s = c.args.self.now in
    let gain_fits : SFits w128 (weight_of s.gain 0) = search rules in
    let gains = rw (to_z-of_z w128 (weight_of s.gain 0) gain_fits) at c.takes_root-root.ensures.gains in
    let left = rw (to_z-of_z w128 (weight_of s.gain 0) gain_fits) at c.takes_root-root.ensures.left in (
      is_open c.args.tree.now w x (weight_of s.gain) (has s.needed) (has s.possible) (has s.taken) is.tree (λ n l. is.entries n (omega arith) l)
          c.takes_root-root.result c.take_set.result c.take_set.ensures c.takes_root-root.ensures.may c.takes_root-root.ensures.must gains left,
      has_greatest c.args.tree.now w x (weight_of s.gain) (has s.needed) (has s.possible) (has s.taken) is.tree (λ n l. is.entries n (omega arith) l)
          c.takes_root-root.result c.take_set.result c.take_set.ensures c.takes_root-root.ensures.may c.takes_root-root.ensures.must gains left v greatest,
    )

pub returns-clause-empty : goal.returns-clause-empty
returns-clause-empty c = λ w x is none.
    let s = c.args.self.now in
    let gain_fits : SFits w128 (weight_of s.gain 0) = search rules in
    let gains = rw (to_z-of_z w128 (weight_of s.gain 0) gain_fits) at c.takes_root-root.ensures.gains in
    let left = rw (to_z-of_z w128 (weight_of s.gain 0) gain_fits) at c.takes_root-root.ensures.left in
    absurd (none c.take_set.result (is_open c.args.tree.now w x (weight_of s.gain) (has s.needed) (has s.possible) (has s.taken) is.tree (λ n l. is.entries n (omega arith) l)
    c.takes_root-root.result c.take_set.result c.take_set.ensures c.takes_root-root.ensures.may c.takes_root-root.ensures.must gains left))
