-- What a search gives, as it is in the definitions.
use Rattle.std.specs.Prelude.{ℕ, ◌≡◌, length, List}
use Rattle.std.specs.List.{AllByRecursion}
use Rattle.ice_defs.specs.Session.{Proved}
use Rattle.ice_defs.specs.Steps.{Step, branch_count}
use Rattle.ice_defs.specs.Searched as searched
use Rattle.ice_refute.specs.Code.{CountsGoods}
use Rattle.ice_search_log.specs.Code.{IsRangedStep}
use Rattle.ice_search.specs.declared.results.Found.{Found}
use Rattle.ice_search.specs.declared.results.Spent as declared
use Rattle.ice_search.specs.declared.results.SearchEnd as ends
use Rattle.ice_search.specs.declared.results.SearchEnd.TheVariants as variants
use Rattle.ice_search.specs.Instance.{Instance}

abbrev pub proved_found : Found → Proved
proved_found f = record { value = f.value; sets = f.best; log = f.log }

abbrev pub proved_spent : declared.Spent → Proved
proved_spent s = record { value = s.value; sets = s.found; log = s.log }

-- each leaf has one multiplier per good, inside its range
pub record AreWritten (goods : ℕ) (log : List Step) : Type 0 where
  pub counts : AllByRecursion (CountsGoods goods) log
  pub ranged : AllByRecursion IsRangedStep log

-- the best, by a log of so many branches
pub record IsFoundBy (x : Instance) (f : Found) : Type 0 where
  pub found : searched.IsFound x.trees x.exact x.weights x.start x.first (proved_found f)
  pub written : AreWritten (length x.exact) f.log

-- what is known where so many branches were spent
pub record IsSpentBy (x : Instance) (used : ℕ) (s : declared.Spent) : Type 0 where
  pub spent : searched.IsSpentSearch x.trees x.exact x.weights x.start x.first (proved_spent s) s.bound
  pub written : AreWritten (length x.exact) s.log
  pub branches : branch_count s.log ≡ used

-- a search ends early with all branches spent, or by want of memory, which leaves them as they were
abbrev pub IsEnd : Instance → ℕ → ℕ → ends.SearchEnd → Type 0
IsEnd x old new (variants.Spent s) = IsSpentBy x old s × (new ≡ 0)
IsEnd x old new variants.NoMemory = new ≡ old
