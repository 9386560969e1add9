-- What the search gives, as it is in the definitions.
use Rattle.std.specs.Prelude.{◌+◌, length, List}
use Rattle.std.specs.List.{AllByRecursion}
use Rattle.ice_defs.specs.Derived.{Derived, with_derived}
use Rattle.ice_defs.specs.Session.{Proved}
use Rattle.ice_defs.specs.Searched as searched
use Rattle.ice_refute.specs.Laws.{CountsUpTo}
use Rattle.ice_search.specs.Instance.{Instance}
use Rattle.ice_tolled_search.specs.declared.entry.TolledFound.{TolledFound}

abbrev pub proved_found : TolledFound → Proved
proved_found f = record { value = f.value; sets = f.best; log = f.log }

-- the best, by a log whose leaves have no tolls past these derived goods
pub record IsFoundWith (x : Instance) (ds : List Derived) (f : TolledFound) : Type 0 where
  pub found : searched.IsFoundBy (with_derived ds) x.trees x.exact x.weights x.start x.first (proved_found f)
  pub counts : AllByRecursion (CountsUpTo (length x.exact + length ds)) f.log
