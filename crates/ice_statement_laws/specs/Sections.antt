-- The section of a statement, which has one bidder.
use Rattle.std.specs.Prelude.{ℕ, ◌≡◌, ◌⊎◌, List, [], ◌∷◌, Option, Some, None}
use Rattle.ice_defs.specs.Exchange.{Bidder}
use Rattle.ice_section.specs.Section.{Draft, Section}

module _ (name : List ℕ) where
  -- an incomplete bidder has the name
  abbrev pub IsDraftNamed : Option Draft → Type 0
  IsDraftNamed None = Unit {0}
  IsDraftNamed (Some d) = d.bidder.name ≡ name

  -- no bidder is complete
  pub record Before (s : Section) : Type 0 where
    pub none : s.bidders ≡ []
    pub draft : IsDraftNamed s.draft

  -- one is, which has the name
  pub record Complete (s : Section) : Type 0 where
    pub bidder : Bidder
    pub one : s.bidders ≡ bidder ∷ []
    pub ended : s.draft ≡ None
    pub called : bidder.name ≡ name

  abbrev pub IsOwnSection : Section → Type 0
  IsOwnSection s = Before s ⊎ Complete s
