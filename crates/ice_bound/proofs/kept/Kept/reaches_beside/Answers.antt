use Rattle.std.proofs.Common.{arith, rules, ◌<◌, ◌≡◌, length, ℤ, ◌≤ℤ◌, sym, subst}
use Rattle.std.specs.Prelude.{IsTrue, ◌↔◌}
use Rattle.std.proofs.lemmas.Int.{to_z-of_z}
use mir.Syntax.{w128}
use mir.Val.{SFits}
use Rattle.ice_defs.specs.Bound.{IsNetSum}
use Rattle.ice_defs.specs.Sweep.{IsLive}
use Rattle.ice_bound.specs.Beside.{with_beside}
use Rattle.ice_bound.proofs.kept.Kept.reaches_beside.Goals as goal

pub invariant_of-beside : goal.invariant_of-beside
invariant_of-beside c =
    let i = c.self.invariant in
    let there : c.args.good < length c.self.inside.found.exact = subst (λ st. c.args.good < length st.exact) (sym c.self.view_is) c.requires.good in
    let moved : c.put.new.self ≡ with_beside c.self.inside.m c.args.good c.args.direction = search rules in
    rw (c.deref.ensures.value, c.deref-2.ensures.value) (record {
      few = i.few;
      weights = i.weights;
      marks = i.marks;
      live = subst (λ st. IsLive st.trees st.marks) (sym c.self.view_is) c.requires.live;
      room = i.room;
      found = i.found;
      leaved = i.leaved;
      good = omega (arith, there, i.multipliers.same_length);
      good_fits = omega (arith, there, i.few_goods);
      moved = moved;
    })

pub returns-clause-answer : goal.returns-clause-answer
returns-clause-answer c =
    let fits : SFits w128 c.args.least = search rules in
    let moved : c.put.new.self ≡ with_beside c.self.inside.m c.args.good c.args.direction = search rules in
    let answer = rw (to_z-of_z w128 c.args.least fits, moved) at c.reaches.ensures.answer in
    subst (λ st. (total : ℤ) → IsNetSum st.trees st.weights (with_beside st.multipliers c.args.good c.args.direction) st.marks total → IsTrue c.reaches.result ↔ (c.args.least ≤ℤ total))
    c.self.view_is answer
