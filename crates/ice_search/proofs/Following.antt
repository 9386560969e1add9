-- The side of a part, by the part above it.
use Rattle.std.proofs.Common.{ℕ, ◌<◌, ◌≡◌, List, length, get_or, arith, ap, subst}
use Rattle.std.proofs.lemmas.List.{length-map}
use Rattle.ice_defs.specs.Steps.{Side, with_mark}
use Rattle.ice_defs.specs.Trade.{fixing_of}
use Rattle.ice_defs.specs.Derived.{goods_alone}
use Rattle.ice_defs.specs.Log.{IsFreeNode}
use Rattle.ice_defs.specs.Conditions.{AreFixingsOf, AreMultipliersOf}
use Rattle.ice_search_log.specs.Parts.{side_at}
use Rattle.ice_search_log.proofs.Marked.{side_is_below, sides_are_fixings}
use Rattle.ice_search_log.specs.declared.part.Part.{Part}
use Rattle.ice_search_log.specs.Code.{part_of, parts_of}
use Rattle.ice_search_log.proofs.Assembling.{part_read}
use Rattle.ice_search.specs.Instance.{Instance, IsInstance, IsSearchOf}

-- a part but the first has one mark more than the part above it
pub below : (x : Instance) (list : List Part) (k : ℕ) (p : Part) → IsSearchOf x (parts_of list) → 0 < k → k < length list → p ≡ get_or list k p
    → (p.above < k) × (side_at x.start (parts_of list) k ≡ with_mark (side_at x.start (parts_of list) p.above) p.bidder p.node p.mark)
    × IsFreeNode x.trees (side_at x.start (parts_of list) p.above) p.bidder p.node
below x list k p is after l e =
    side_is_below goods_alone x.trees x.exact x.weights x.start x.first (parts_of list) k (part_of p).put is after (omega (arith, l, length-map list part_of)) (ap (λ q. q.put) (part_read list k p l e))

-- each side has one mark per node
pub fixings_at : (x : Instance) (list : List Part) (k : ℕ) → IsInstance x → IsSearchOf x (parts_of list) → k < length list → AreFixingsOf x.trees (side_at x.start (parts_of list) k)
fixings_at x list k lawful is l = sides_are_fixings goods_alone x.trees x.exact x.weights x.start x.first (parts_of list) k is lawful.start (omega (arith, l, length-map list part_of))

-- a free node is there
pub node_there : (x : Instance) (side : Side) (b n : ℕ) → AreFixingsOf x.trees side → IsFreeNode x.trees side b n → (b < length side) × (n < length (fixing_of side b))
node_there x side b n are free = (omega (arith, free.0, are.same_length), omega (arith, free.1, are.nodes b free.0))

-- and multipliers of the goods
pub multipliers_at : (x : Instance) (list : List Part) (k : ℕ) (p : Part) → IsSearchOf x (parts_of list) → k < length list → p ≡ get_or list k p → AreMultipliersOf x.exact p.m
multipliers_at x list k p is l e =
    let part = is.each k (omega (arith, l, length-map list part_of)) in
    let read = ap (λ q. q.m) (part_read list k p l e) in
    subst (AreMultipliersOf x.exact) read (record { same_length = part.counts; signs = part.signs })
