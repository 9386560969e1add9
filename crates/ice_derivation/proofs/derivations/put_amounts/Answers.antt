use mir.Syntax.{w32, w64}
use mir.Val.{SFits}
use Rattle.std.proofs.lemmas.Int.{to_z-of_z}
use Rattle.std.proofs.Common.{rules, ◌≡◌, ◌<◌, ◌+◌, List, [], length, set, drop, get_or, ℤ, pos, arith, sym, ◌∙◌, ap, subst, length-set}
use Rattle.std.proofs.lemmas.List.{set-set, get_or-set_same}
use Rattle.ice_defs.specs.Set.{Weights}
use Rattle.ice_defs.specs.Trade.{weights_of}
use Rattle.ice_derived.specs.Ranges.{IsAmount}
use Rattle.ice_journal.specs.declared.line.Numbered.{Numbered}
use Rattle.ice_derivation.specs.Numbers.{changed}
use Rattle.ice_derivation.proofs.Numbers.{changed_more, none_left, amount_at}
use Rattle.ice_derivation.proofs.Rows.{is_there}
use Rattle.ice_derivation.proofs.derivations.put_amounts.Goals as goal

pub narrow-requires : goal.narrow-requires
narrow-requires c =
    let numbers = c.args.numbers.now in
    let i = c.loop-stated.stated-index in
    let x : Numbered = get_or c.args.numbers.now c.loop-stated.stated-index (record { number = 0; amount = pos 0 }) in
    let fits : SFits w64 x.amount = search rules in
    subst IsAmount (sym (to_z-of_z w64 x.amount fits)) (amount_at numbers i c.loop-stated-test.true c.loop-stated.invariant.in_range).0

pub put-requires-clause-bidder : goal.put-requires-clause-bidder
put-requires-clause-bidder c =
    let inv = c.loop-stated.invariant in
    omega (arith, ap length inv.put, length-set c.args.amounts.now c.args.bidder (weights_of c.loop-stated.amounts c.args.bidder), c.requires.bidder)

pub put-requires-clause-node : goal.put-requires-clause-node
put-requires-clause-node c =
    omega (arith, is_there (length (weights_of c.args.amounts.now c.args.bidder)) c.args.numbers.now c.requires.nodes c.loop-stated.stated-index c.loop-stated-test.true, c.loop-stated.invariant.count)

pub loop-stated-preserved : goal.loop-stated-preserved
loop-stated-preserved c =
    let numbers = c.args.numbers.now in
    let i = c.loop-stated.stated-index in
    let b = c.args.bidder in
    let old = c.loop-stated.amounts in
    let inv = c.loop-stated.invariant in
    let x : Numbered = get_or numbers i (record { number = 0; amount = pos 0 }) in
    let row : Weights = set (weights_of old b) x.number x.amount in
    let inside : b < length old = omega (arith, ap length inv.put, length-set c.args.amounts.now b (weights_of old b), c.requires.bidder) in
    let fits : SFits w64 x.amount = search rules in
    let narrow : c.narrow.result ≡ x.amount = c.narrow.ensures ∙ to_z-of_z w64 x.amount fits in
    let fits_narrow : SFits w32 c.narrow.result = search rules in
    let new : c.put.new.self ≡ set old b row = c.put.ensures ∙ ap (λ (z : ℤ). set old b (set (weights_of old b) x.number z)) (to_z-of_z w32 c.narrow.result fits_narrow ∙ narrow) in
    let row_is : weights_of c.put.new.self b ≡ row = ap (λ (ws : List Weights). weights_of ws b) new ∙ get_or-set_same old b row [] inside in
    record {
      put = new ∙ ap (λ (ws : List Weights). set ws b row) inv.put ∙ set-set c.args.amounts.now b (weights_of old b) row ∙ ap (set c.args.amounts.now b) (sym row_is);
      count = ap (λ (w : Weights). length w) row_is ∙ length-set (weights_of old b) x.number x.amount ∙ inv.count;
      changed_so = subst (λ (w : Weights). changed w (drop (i + 1) numbers) ≡ changed (weights_of c.args.amounts.now b) numbers) (sym row_is)
          (sym (changed_more (weights_of old b) numbers i c.loop-stated-test.true) ∙ inv.changed_so);
      in_range = (amount_at numbers i c.loop-stated-test.true inv.in_range).1;
    }

pub returns : goal.returns
returns c =
    let inv = c.loop-stated.invariant in
    inv.put ∙ ap (set c.args.amounts.now c.args.bidder)
    (sym (none_left (weights_of c.loop-stated.amounts c.args.bidder) c.args.numbers.now c.loop-stated.stated-index c.loop-stated-test.false) ∙ inv.changed_so)
