-- What the bound of a side with derived goods is.
use Rattle.std.specs.Prelude.{List}
use Rattle.ice_defs.specs.Tree.{Tree}
use Rattle.ice_defs.specs.Set.{Weights}
use Rattle.ice_defs.specs.Fixing.{Fixing}
use Rattle.ice_defs.specs.Bound.{Multipliers}
use Rattle.ice_defs.specs.Derived.{Derived, Tolls, IsBoundWith}
use Rattle.ice_bound.specs.declared.answer.Bound.{Bound}
use Rattle.ice_bound.specs.declared.answer.Bound.TheVariants.{Dead, AtMost}
use Rattle.ice_bound.specs.Answer.{IsFirstDead}

-- the first dead bidder, and the bound where there is none
abbrev pub IsAnswerWith : List Derived → Tolls → List Tree → List Weights → Multipliers → List Fixing → Bound → Type 0
IsAnswerWith ds tolls ts ws m xs (Dead b) = IsFirstDead ts xs b
IsAnswerWith ds tolls ts ws m xs (AtMost v) = IsBoundWith ds tolls ts ws m xs v
