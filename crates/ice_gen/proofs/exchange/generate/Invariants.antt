use Rattle.std.proofs.Common.{◌≡◌, ◌+◌, ◌*◌, map}
use Rattle.ice_gen.specs.Drawing.{state_after}
use Rattle.ice_gen.specs.Parts.{exchange_with, truth_of}
use Rattle.ice_gen.proofs.Joining.{sellers, traders}
use Rattle.ice_gen.proofs.exchange.generate.Given as goal

abbrev pub invariant-loop-seller_number : goal.invariant-loop-seller_number
invariant-loop-seller_number l =
    (l.draft.maker ≡ exchange_with (sellers l.fn.number l.seller_number))
    × (l.draft.truth.items ≡ map truth_of (sellers l.fn.number l.seller_number))
    × (l.generator ≡ state_after (9 * l.seller_number) l.fn.number)

abbrev pub invariant-loop-buyer_number : goal.invariant-loop-buyer_number
invariant-loop-buyer_number l =
    (l.draft.maker ≡ exchange_with (traders l.fn.number l.buyer_number))
    × (l.draft.truth.items ≡ map truth_of (traders l.fn.number l.buyer_number))
    × (l.generator ≡ state_after (36 + 18 * l.buyer_number) l.fn.number)
