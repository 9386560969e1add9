-- The names and the bounds of the bidders, one more at a time.
use Rattle.std.proofs.Common.{◌≡◌, ◌+◌, ◌<◌, ℕ, List, [], ◌∷◌, ◌++◌, length, take, get_or, sym, ◌∙◌, ap}
use Rattle.std.proofs.lemmas.List.{map-append, take_more}
use Rattle.ice_defs.specs.Bounds.{Bounds}
use Rattle.ice_replay.specs.declared.settlement.BidderBounds.{BidderBounds}
use Rattle.ice_replay.specs.Replays.{names_in, bounds_in}

pub one_name : (all : List BidderBounds) (x : BidderBounds) (names : List (List ℕ)) (i : ℕ) → i < length names → names_in all ≡ take i names → x.name ≡ get_or names i [] → names_in (all ++ x ∷ []) ≡ take (i + 1) names
one_name all x names i few so_far is =
    map-append (λ (b : BidderBounds). b.name) all (x ∷ []) ∙ ap (λ (l : List (List ℕ)). l ++ x.name ∷ []) so_far ∙ ap (λ (y : List ℕ). take i names ++ y ∷ []) is ∙ sym (take_more names i [] few)

pub one_bounds : (all : List BidderBounds) (x : BidderBounds) (bounds : List Bounds) (i : ℕ) (d : Bounds) → i < length bounds → bounds_in all ≡ take i bounds → x.bounds ≡ get_or bounds i d → bounds_in (all ++ x ∷ []) ≡ take (i + 1) bounds
one_bounds all x bounds i d few so_far is =
    map-append (λ (b : BidderBounds). b.bounds) all (x ∷ []) ∙ ap (λ (l : List Bounds). l ++ x.bounds ∷ []) so_far ∙ ap (λ (y : Bounds). take i bounds ++ y ∷ []) is ∙ sym (take_more bounds i d few)
