-- What is known of a session and of a settlement behind its records.
use Rattle.std.proofs.Common.{◌≡◌, ℕ, List, [], ◌∷◌, ◌++◌, refl, sym, ◌∙◌, subst}
use Rattle.ice_journal.specs.Records.{Record}
use Rattle.ice_journal_laws.specs.Progress.{Progress, nothing, Leads, stays}
use Rattle.ice_journal_laws.proofs.Leading.{leads_more}
use Rattle.ice_check_records.specs.Checking.{HasCome}
use Rattle.ice_reading.specs.Reading.{IsRead}
use Rattle.ice_reading.proofs.Running.{holds_of_all}
use Rattle.ice_replay.specs.declared.tests.WatchedTests.{WatchedTests}
use Rattle.ice_replay.specs.declared.watch.Watch.{Watch}
use Rattle.ice_replay.specs.declared.watch.Watch.TheVariants.{Start}
use Rattle.ice_replay.specs.Watching.{IsWatched, TestsOn}

pub record IsKnown (number : ℕ) (records : List Record) (s : WatchedTests) : Type 0 where
  pub number_is : s.number ≡ number
  pub progress : Progress
  pub leads : Leads nothing records progress
  pub come : HasCome s.checker progress
  pub watched : IsWatched number s.watch progress records

one_more : (number : ℕ) (records : List Record) (s t : WatchedTests) (r : Record) → IsKnown number records s → TestsOn s r t → IsKnown number (records ++ r ∷ []) t
one_more number records s t r known step =
    let next = step.takes known.progress known.come in
    let watched = subst (λ (n : ℕ). IsWatched n s.watch known.progress records) (sym known.number_is) known.watched in
    record {
      number_is = step.number ∙ known.number_is;
      progress = next.after;
      leads = leads_more nothing known.progress next.after records r known.leads next.leads;
      come = next.come;
      watched = subst (λ (n : ℕ). IsWatched n t.watch next.after (records ++ r ∷ [])) known.number_is (step.watches records known.progress next.after known.leads known.come next.leads watched);
    }

pub all_known : (bytes : List ℕ) (number : ℕ) (s end : WatchedTests) → s.number ≡ number → HasCome s.checker nothing → s.watch ≡ Start → (read : IsRead TestsOn bytes s end) → IsKnown number read.journal end
all_known bytes number s end is come first read =
    holds_of_all TestsOn (IsKnown number) (one_more number) bytes s end
    (record { number_is = is; progress = nothing; leads = stays; come = come; watched = subst (λ (w : Watch). IsWatched number w nothing []) (sym first) refl }) read
