-- What `gen` writes at each status.
use Rattle.std.specs.Prelude.{ℕ, ◌≡◌, ◌⊎◌, if◌then◌else◌, int_lt, List, [], ◌∷◌, codes, decimal, pos}
use Rattle.std.specs.Fmt.{signed_decimal}
use Rattle.std.specs.List.{flat_map}
use Rattle.ice_edge.specs.declared.status.Status.{Status}
use Rattle.ice_edge.specs.declared.status.Status.TheVariants.{Done, Spent, Limit, NoMemory}
use Rattle.ice_edge.specs.Taken.{Taken}
use Rattle.ice_defs.specs.Round.{Submission}
use Rattle.ice_defs.specs.Exchange.{names_of}
use Rattle.ice_journal.specs.Records.{Record, session_kind}
use Rattle.ice_journal.specs.Journal.{IsJournal}
use Rattle.ice_journal.specs.Spelling.{fraction_text}
use Rattle.ice_journal_laws.specs.Stops.{IsSpent}
use Rattle.ice_journal_laws.specs.SoFar.{IsSoFar}
use Rattle.ice_session_laws.specs.Stops.{IsLimited}
use Rattle.ice_session_laws.specs.Written.{begun_records, HasGapAnswer}
use Rattle.ice_gen.specs.Generated.{generated_exchange, truths}
use Rattle.ice_trial.specs.Truths.{truth_bids}
use Rattle.ice_trial.specs.declared.summary.Summary.{Summary}
use Rattle.ice_trial.specs.Summaries.{IsSummary}
use Rattle.ice_command_parts.specs.Call.{IsPrefix}
use Rattle.ice_command_parts.specs.Lines.{line_text}
use Rattle.ice_command_parts.specs.Parts.{IsSaid}
use Rattle.ice_session_commands.specs.Rounds.{rounds_in}

-- ---- the session closed

-- the fields of each line
abbrev pub summary_fields : ℕ → Summary → List (List (List ℕ))
summary_fields number s =
    (codes "gen" ∷ decimal number ∷ [])
    ∷ (codes "goods" ∷ codes "12" ∷ [])
    ∷ (codes "bidders" ∷ codes "8" ∷ [])
    ∷ (codes "nodes" ∷ codes "68" ∷ [])
    ∷ (codes "opened" ∷ signed_decimal s.opened ∷ signed_decimal s.opened_regret ∷ [])
    ∷ (codes "settled" ∷ decimal s.settled ∷ [])
    ∷ (codes "total" ∷ signed_decimal s.total ∷ [])
    ∷ (codes "regret" ∷ signed_decimal s.regret ∷ [])
    ∷ (codes "surplus" ∷ fraction_text s.surplus ∷ [])
    ∷ (codes "end" ∷ codes "gen" ∷ [])
    ∷ []

abbrev pub summary_text : ℕ → Summary → List ℕ
summary_text number s = flat_map line_text (summary_fields number s)

-- the figures are those of the generated exchange, in which the
-- bidders state their generated true values; no regret is left
pub record GenEnds (text : List ℕ) (number : ℕ) : Type 0 where
  pub summary : Summary
  pub written : text ≡ summary_text number summary
  pub is : IsSummary (generated_exchange number) (truths number) summary
  -- it settled twice where there was a regret at the opening
  pub settled : summary.settled ≡ (if int_lt (pos 0) summary.opened_regret then 1 else 0)
  pub no_regret : summary.regret ≡ pos 0

-- ---- a search or a pricing ended it

-- its round, if settlement 0 opened one, has the true values of all bidders
abbrev pub AreTruthRounds : ℕ → List (List Submission) → Type 0
AreTruthRounds number rounds = (rounds ≡ [] ∷ []) ⊎ (rounds ≡ truth_bids (names_of (generated_exchange number)) (truths number) ∷ [] ∷ [])

-- the journal of its session as far as it came, with the generated exchange
pub record GenStops (text : List ℕ) (number : ℕ) (journal : List Record) : Type 0 where
  pub written : IsJournal text journal
  pub so_far : IsSoFar session_kind journal
  pub exchange : IsPrefix (begun_records (generated_exchange number)) journal
  pub rounds : AreTruthRounds number (rounds_in journal)

abbrev pub GenAnswers : List ℕ → ℕ → Status → Type 0
GenAnswers text number Done = GenEnds text number
GenAnswers text number Spent = (journal : List Record) × GenStops text number journal × IsSpent session_kind journal × HasGapAnswer journal
GenAnswers text number Limit = (journal : List Record) × GenStops text number journal × (rounds_in journal ≡ [] ∷ []) × IsLimited journal
GenAnswers text number NoMemory = text ≡ []
GenAnswers text number other = ⊥

-- a command that fetches nothing has an answer, and says it
abbrev pub Says : (List ℕ → Status → Type 0) → Taken → Taken → Status → Type 0
Says IsAnswer old new result =
    (text : List ℕ) × (status : Status) × IsAnswer text status × IsSaid text status old new result
