-- The rounds of a journal, and the round files that they come from.
use Rattle.std.specs.Prelude.{ℕ, ◌<◌, ◌≡◌, ◌≢◌, List, [], ◌∷◌, map, Ok}
use Rattle.ice_defs.specs.Round.{Submission}
use Rattle.ice_defs.specs.Exchange.{Exchange}
use Rattle.ice_defs.specs.Session.{Going}
use Rattle.ice_journal.specs.Records.{Record, Kind}
use Rattle.ice_journal.specs.Records as line
use Rattle.ice_journal_laws.specs.SoFar.{IsSoFar}
use Rattle.ice_read.specs.RoundFile.{bids_of}
use Rattle.ice_command_parts.specs.Call.{Call, file_limit, OfFile, IsPrefix}
use Rattle.ice_command_parts.specs.Files.{IsExchangeOf}
use Rattle.ice_command_parts.specs.Journals.{HasExchangeOf}

abbrev pub submissions_before_next : List Record → List Submission
submissions_before_next [] = []
submissions_before_next (line.settle number ∷ rest) = []
submissions_before_next (line.submit s ∷ rest) = s ∷ submissions_before_next rest
submissions_before_next (r ∷ rest) = submissions_before_next rest

-- the submissions after each settlement
abbrev pub rounds_in : List Record → List (List Submission)
rounds_in [] = []
rounds_in (line.settle number ∷ rest) = submissions_before_next rest ∷ rounds_in rest
rounds_in (r ∷ rest) = rounds_in rest

-- the bids of a round file
abbrev pub OfBids : Call → List ℕ → (List Submission → Type 0) → Type 0
OfBids call name P = OfFile call name file_limit (λ bytes. (bids : List Submission) × (bids_of bytes ≡ Ok bids) × P bids)

-- after the last settlement, the first bids of its file
abbrev pub BeginsRound : Call → List (List ℕ) → List Submission → Type 0
BeginsRound call [] last = last ≡ []
BeginsRound call (file ∷ files) last = last ≢ [] → OfBids call file (IsPrefix last)

-- each round that a settlement follows has all bids of its file in their order
abbrev pub HasRoundsOf : Call → List (List ℕ) → List (List Submission) → Type 0
HasRoundsOf call files [] = Unit {0}
HasRoundsOf call files (last ∷ []) = BeginsRound call files last
HasRoundsOf call [] (round ∷ next ∷ later) = ⊥
HasRoundsOf call (file ∷ files) (round ∷ next ∷ later) = OfBids call file (λ bids. round ≡ bids) × HasRoundsOf call files (next ∷ later)

abbrev pub submissions_of : Going → List Submission
submissions_of g = map (λ j. j.submission) g.judged

-- the rounds of these settlements are the bids of the files in their order
abbrev pub AreRoundsOf : Call → List (List ℕ) → List Going → Type 0
AreRoundsOf call files [] = Unit {0}
AreRoundsOf call [] (g ∷ later) = ⊥
AreRoundsOf call (file ∷ files) (g ∷ later) = OfBids call file (λ bids. submissions_of g ≡ bids) × AreRoundsOf call files later

-- what a run has written so far
pub record IsRunSoFar (call : Call) (exchange : List ℕ) (rounds : List (List ℕ)) (kind : Kind) (journal : List Record) : Type 0 where
  pub so_far : IsSoFar kind journal
  pub exchange_is : HasExchangeOf call exchange kind journal
  pub rounds_are : HasRoundsOf call rounds (rounds_in journal)

-- the settings of the file's exchange allow a round
abbrev pub HasRounds : Call → List ℕ → Type 0
HasRounds call name = OfFile call name file_limit (λ bytes. (ex : Exchange) × IsExchangeOf bytes (Ok ex) × (0 < ex.settings.rounds))
