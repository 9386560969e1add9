use Rattle.std.proofs.Common.{◌≡◌, ◌<◌, ◌^◌, ◌/◌, ◌∙◌, length, set, ap, sym, arith, rules}
use Rattle.ice_set.specs.Bits.{length-bits_of, bits_of-put, ArePacked-put}
use Rattle.ice_set.proofs.NodeSet.put.Goals as goal

pub bounds-self-inside-place : goal.bounds-self-inside-place
bounds-self-inside-place c =
    let e : length c.args.self.now ≡ c.self.inside.len = ap length (sym c.self.view_is) ∙ length-bits_of _ _ in
    omega (arith, e, c.self.invariant.few)

pub bounds-self-inside-place-2 : goal.bounds-self-inside-place-2
bounds-self-inside-place-2 c =
    let e : length c.args.self.now ≡ c.self.inside.len = ap length (sym c.self.view_is) ∙ length-bits_of _ _ in
    omega (arith, e, c.self.invariant.few)

pub invariant_of-self : goal.invariant_of-self
invariant_of-self c =
    let e : length c.args.self.now ≡ c.self.inside.len = ap length (sym c.self.view_is) ∙ length-bits_of _ _ in
    let lt : c.args.node < c.self.inside.len = omega (arith, e) in
    let inside : c.args.node / 64 < length c.self.inside.words = omega (arith, e, c.self.invariant.four, c.self.invariant.few) in
    let low : c.with_bit.result < 2 ^ 64 = search rules in
    ArePacked-put c.self.inside.words c.args.node c.with_bit.result inside c.with_bit.ensures.other c.self.inside.len lt low c.self.invariant

pub returns : goal.returns
returns c =
    let e : length c.args.self.now ≡ c.self.inside.len = ap length (sym c.self.view_is) ∙ length-bits_of _ _ in
    let lt : c.args.node < c.self.inside.len = omega (arith, e) in
    let inside : c.args.node / 64 < length c.self.inside.words = omega (arith, e, c.self.invariant.four, c.self.invariant.few) in
    bits_of-put c.self.inside.words c.args.node c.with_bit.result inside c.with_bit.ensures.other c.self.inside.len c.args.on lt c.with_bit.ensures.same
    ∙ ap (λ l. set l c.args.node c.args.on) c.self.view_is
