-- What holds of a reader behind all records.
use Rattle.std.proofs.Common.{ℕ, List, [], ◌∷◌, ◌++◌, sym, subst, append_assoc}
use Rattle.std.proofs.lemmas.List.{append-nil}
use Rattle.ice_journal.specs.Records.{Record}
use Rattle.ice_reading.specs.Reading.{Runs, stays, goes, IsRead}

module _ {S : Type 0} (Step : S → Record → S → Type 0) where
  -- one more step
  pub runs_more : (s t end : S) (records : List Record) (r : Record) → Runs Step s records t → Step t r end → Runs Step s (records ++ r ∷ []) end
  runs_more s t end [] r stays h = goes h stays
  runs_more s t end (first ∷ rest) r (goes {t = mid} a l) h = goes a (runs_more mid t end rest r l h)

  module _ (Holds : List Record → S → Type 0) (each : (records : List Record) (s t : S) (r : Record) → Holds records s → Step s r t → Holds (records ++ r ∷ []) t) where
    holds_behind : (before records : List Record) (s end : S) → Holds before s → Runs Step s records end → Holds (before ++ records) end
    holds_behind before [] s end h stays = subst (λ (rs : List Record). Holds rs s) (sym (append-nil before)) h
    holds_behind before (r ∷ rest) s end h (goes {t = mid} a l) =
        subst (λ (rs : List Record). Holds rs end) (append_assoc before (r ∷ []) rest) (holds_behind (before ++ r ∷ []) rest mid end (each before s mid r h a) l)

    -- what holds of no record, and of one record more where it held before, holds of all
    pub holds_of_all : (bytes : List ℕ) (s end : S) → Holds [] s → (x : IsRead Step bytes s end) → Holds x.journal end
    holds_of_all bytes s end h x = holds_behind [] x.journal s end h x.runs
