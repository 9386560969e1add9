use Rattle.std.proofs.Common.{arith, rules, refl, ◌<◌, ◌≡◌, length, ℕ, ◌+ℤ◌, ◌-ℤ◌, to_z}
use Rattle.std.proofs.lemmas.Int.{ints, to_z-of_z}
use mir.Syntax.{w128}
use mir.Val.{SFits}
use Rattle.ice_defs.specs.Bound.{IsOpen}
use Rattle.ice_defs.specs.Trade.{tree_of, set_of, fixing_of}
use Rattle.ice_bound.specs.Beside.{share_of}
use Rattle.ice_bound.proofs.Totals.{total_fits}
use Rattle.ice_bound.proofs.Tables.{table_put, one_table_anew}
use Rattle.ice_bound.proofs.Reaching.{open_found, share_fits, greatest_fits, gain_fits, sets_alone, raised, is_below, is_whole}
use Rattle.ice_bound.proofs.beside.Beside.reaches.Goals as goal

pub loop-bidder-init : goal.loop-bidder-init
loop-bidder-init c =
    let st = c.args.self.now in
    let low = c.put_shares-bound.ensures.low in
    let high = c.put_shares-bound.ensures.high in
    let fits : SFits w128 c.put_shares-bound.result = total_fits _ (omega (arith, ints, low)) (omega (arith, ints, high)) in
    rw (to_z-of_z w128 c.put_shares-bound.result fits) (record {
      partial = sets_alone st.trees st.weights st.moved st.marks st.sets c.put_shares-bound.result c.put_shares-bound.ensures.sum;
      low = omega (arith, ints, low);
      high = omega (arith, ints, high);
      there = c.requires.there;
      tables = c.requires.tables;
    })

pub returns-then-bound-least-clause-answer : goal.returns-then-bound-least-clause-answer
returns-then-bound-least-clause-answer c = λ total is.
    let st = c.args.self.now in
    let known = c.bidders-bidder-end.ensures.known in
    let opens : (k : ℕ) → k < length st.trees → IsOpen (tree_of st.trees k) (fixing_of st.marks k) (set_of st.sets k) =
    λ k h. open_found _ _ st.multipliers _ _ _ (known.found.each k h) (λ none. none (known.live k h).0 (known.live k h).1) in
    let below = is_below st.trees st.weights st.moved st.marks st.sets c.loop-bidder.bidder _ total (omega (arith, c.loop-bidder-test.true, c.bidders-bidder-end.ensures.value)) opens
    c.loop-bidder.invariant.partial is in
    ((λ yes. omega (arith, ints, below)), (λ le. refl))

pub overflow_sub-bound : goal.overflow_sub-bound
overflow_sub-bound c =
    let b = c.loop-bidder.bidder in
    let st = c.args.self.now in
    let there : b < length st.trees = omega (arith, c.loop-bidder-test.true, c.bidders-bidder-end.ensures.value) in
    let v = c.greatest.result in
    let share = share_of c.put_shares-bound.new.shares b in
    let shared = c.put_shares-bound.ensures.each b there in
    rw (to_z-of_z w128 v (greatest_fits st b v c.greatest.ensures.greatest), to_z-of_z w128 share (share_fits st b share shared)) (gain_fits st b v share c.greatest.ensures.greatest shared)

pub overflow_add-bound : goal.overflow_add-bound
overflow_add-bound c =
    let b = c.loop-bidder.bidder in
    let st = c.args.self.now in
    let i = c.loop-bidder.invariant in
    let few = c.bidders-bidder-end.ensures.known.few in
    let there : b < length st.trees = omega (arith, c.loop-bidder-test.true, c.bidders-bidder-end.ensures.value) in
    let v = c.greatest.result in
    let share = share_of c.put_shares-bound.new.shares b in
    let greatest = c.greatest.ensures.greatest in
    let shared = c.put_shares-bound.ensures.each b there in
    rw (to_z-of_z w128 v (greatest_fits st b v greatest), to_z-of_z w128 share (share_fits st b share shared), to_z-of_z w128 (v -ℤ share) (gain_fits st b v share greatest shared))
    (total_fits (to_z w128 c.loop-bidder.bound-bits +ℤ (v -ℤ share)) (omega (arith, ints, greatest.low, shared.high, i.low, there, few)) (omega (arith, ints, greatest.high, shared.low, i.high, there, few)))

pub loop-bidder-preserved : goal.loop-bidder-preserved
loop-bidder-preserved c =
    let b = c.loop-bidder.bidder in
    let st = c.args.self.now in
    let i = c.loop-bidder.invariant in
    let few = c.bidders-bidder-end.ensures.known.few in
    let there : b < length st.trees = omega (arith, c.loop-bidder-test.true, c.bidders-bidder-end.ensures.value) in
    let tables = c.loop-bidder.tables.items in
    let room : b < length tables = search rules in
    let v = c.greatest.result in
    let share = share_of c.put_shares-bound.new.shares b in
    let greatest = c.greatest.ensures.greatest in
    let shared = c.put_shares-bound.ensures.each b there in
    let fits : SFits w128 (to_z w128 c.loop-bidder.bound-bits +ℤ (v -ℤ share)) =
    total_fits _ (omega (arith, ints, greatest.low, shared.high, i.low, there, few)) (omega (arith, ints, greatest.high, shared.low, i.high, there, few)) in
    rw (
      to_z-of_z w128 v (greatest_fits st b v greatest),
      to_z-of_z w128 share (share_fits st b share shared),
      to_z-of_z w128 (v -ℤ share) (gain_fits st b v share greatest shared),
      to_z-of_z w128 (to_z w128 c.loop-bidder.bound-bits +ℤ (v -ℤ share)) fits,
    ) (record {
      partial = raised st.trees st.weights st.moved st.marks st.sets b _ v share i.partial greatest.greatest shared.is;
      low = omega (arith, ints, greatest.low, shared.high, i.low);
      high = omega (arith, ints, greatest.high, shared.low, i.high);
      there = search rules;
      tables = one_table_anew st.trees st.weights st.multipliers st.marks tables _ b (table_put tables b _ _ st.multipliers _ c.greatest.new.table room c.greatest.ensures.table)
          (λ k d h ne. i.tables k d h);
    })

pub returns-clause-answer : goal.returns-clause-answer
returns-clause-answer c = λ total is.
    let st = c.args.self.now in
    let all : c.loop-bidder.bidder ≡ length st.trees = omega (arith, c.loop-bidder-test.false, c.loop-bidder.auto.bidder-end, c.bidders-bidder-end.ensures.value) in
    let same = is_whole st.trees st.weights st.moved st.marks st.sets c.loop-bidder.bidder _ total all c.loop-bidder.invariant.partial is in
    ((λ yes. omega (arith, ints, same, yes)), (λ le. grind (arith, ints, same, le)))
