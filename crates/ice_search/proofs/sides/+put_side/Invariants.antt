use Rattle.ice_search.proofs.sides.+put_side.Given as goal

abbrev pub decreases-put_side : goal.decreases-put_side
decreases-put_side l = l.number
