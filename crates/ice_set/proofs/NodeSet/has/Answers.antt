use Rattle.std.proofs.Common.{◌≡◌, ◌<◌, ◌∙◌, length, ap, sym, arith}
use Rattle.ice_set.specs.Bits.{length-bits_of, get_or-bits_of}
use Rattle.ice_set.proofs.NodeSet.has.Goals as goal

pub bounds-self-inside-node : goal.bounds-self-inside-node
bounds-self-inside-node c =
    let e : length c.args.self.now ≡ c.self.inside.len = ap length (sym c.self.view_is) ∙ length-bits_of _ _ in
    omega (arith, e, c.self.invariant.few)

pub returns : goal.returns
returns c =
    let e : length c.args.self.now ≡ c.self.inside.len = ap length (sym c.self.view_is) ∙ length-bits_of _ _ in
    let lt : c.args.node < c.self.inside.len = omega (arith, e) in
    rw (c.bit.ensures, ← c.self.view_is) (sym (get_or-bits_of c.self.inside.words c.self.inside.len c.args.node lt))
