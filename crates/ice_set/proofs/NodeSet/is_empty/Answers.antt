use Rattle.std.proofs.Common.{◌≡◌, ◌∙◌, length, ap, sym, arith}
use Rattle.ice_set.specs.Bits.{length-bits_of}
use Rattle.ice_set.specs.Packing.{all_false-from_zeros, zeros-from_all_false}
use Rattle.ice_set.proofs.NodeSet.is_empty.Goals as goal

pub returns : goal.returns
returns c =
    let e : c.self.inside.len ≡ length c.args.self.now = sym (length-bits_of _ _) ∙ ap length c.self.view_is in (
      λ yes n h. rw (← c.self.view_is) (all_false-from_zeros _ _ c.self.invariant (sym c.eq.ensures ∙ yes) n (omega (arith, e))),
      λ each. c.eq.ensures ∙ zeros-from_all_false _ _ c.self.invariant (λ n h. rw c.self.view_is (each n (omega (arith, e)))),
    )
