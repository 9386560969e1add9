-- What is known of a session whose records are read.
use Rattle.std.proofs.Common.{◌≡◌, ℕ, List, [], ◌∷◌, ◌++◌, refl, sym, subst}
use Rattle.ice_journal.specs.Records.{Record}
use Rattle.ice_journal_laws.specs.Progress.{Progress, nothing, Leads, stays}
use Rattle.ice_journal_laws.proofs.Leading.{leads_more}
use Rattle.ice_check_records.specs.Checking.{HasCome}
use Rattle.ice_reading.specs.Reading.{IsRead}
use Rattle.ice_reading.proofs.Running.{holds_of_all}
use Rattle.ice_last.specs.declared.closing.Closing.{Closing}
use Rattle.ice_last.specs.declared.watch.Watch.{Watch}
use Rattle.ice_last.specs.declared.watch.Watch.TheVariants.{Start}
use Rattle.ice_last.specs.Watching.{IsWatched}
use Rattle.ice_last.specs.Reading.{ClosesOn}

pub record IsKnown (records : List Record) (c : Closing) : Type 0 where
  pub progress : Progress
  pub leads : Leads nothing records progress
  pub come : HasCome c.checker progress
  pub watched : IsWatched c.watch records

one_more : (records : List Record) (s t : Closing) (r : Record) → IsKnown records s → ClosesOn s r t → IsKnown (records ++ r ∷ []) t
one_more records s t r known step =
    let next = step.takes known.progress known.come in
    record {
      progress = next.after;
      leads = leads_more nothing known.progress next.after records r known.leads next.leads;
      come = next.come;
      watched = step.watches records known.watched;
    }

pub all_known : (bytes : List ℕ) (s end : Closing) → HasCome s.checker nothing → s.watch ≡ Start → (read : IsRead ClosesOn bytes s end) → IsKnown read.journal end
all_known bytes s end come first read =
    holds_of_all ClosesOn IsKnown one_more bytes s end (record { progress = nothing; leads = stays; come = come; watched = subst (λ (w : Watch). IsWatched w []) (sym first) refl }) read
