-- A round taken one submission at a time is the round of the definition: the laws, as statements.
use Rattle.std.specs.Prelude.{ℕ, ◌<◌, ◌≡◌, ◌≢◌, ◌↔◌, true, false, List, [], ◌∷◌, ◌++◌, length, map, slice_index_or, slice_set, ℤ}
use Rattle.std.specs.List.{IsDistinct}
use Rattle.std.specs.Str.{bytes_eq}
use Rattle.ice_defs.specs.declared.Verdict.{Verdict}
use Rattle.ice_defs.specs.declared.Verdict.TheVariants.{UnknownBidder}
use Rattle.ice_defs.specs.Trade.{Assignment, set_of}
use Rattle.ice_defs.specs.Bounds.{Bounds, bounds_of}
use Rattle.ice_defs.specs.Prices.{Prices}
use Rattle.ice_defs.specs.Round.{Judged, Submission, Standing, stated_bounds, is_accepted, IsVerdict, IsRound, next_bounds, IsNextVerdict}
use Rattle.ice_defs.specs.Exchange.{Bidder, Exchange, names_of}
use Rattle.ice_defs.specs.Session.{standings}
use Rattle.ice_round_laws.specs.Entries.{Entry, entries_before, with_bounds, entry_after, entries_after, entries_after_all, is_entered}
use Rattle.ice_round_laws.specs.Entries.{IsVerdictBy, AreVerdictsBy, entries_of}

-- ---- the entries are the definition's

abbrev pub EntriesBegin : Type 0
EntriesBegin = (bidders : List Standing) → entries_of bidders [] ≡ entries_before bidders

abbrev pub EntriesGoOn : Type 0
EntriesGoOn = (bidders : List Standing) (earlier : List Judged) (j : Judged)
    → entries_of bidders (earlier ++ j ∷ []) ≡ entries_after (entries_of bidders earlier) j

abbrev pub EntriesAreDefined : Type 0
EntriesAreDefined = (bidders : List Standing) (judged : List Judged)
    → entries_after_all (entries_before bidders) judged ≡ entries_of bidders judged

abbrev pub EntriesTellBounds : Type 0
EntriesTellBounds = (bidders : List Standing) (judged : List Judged)
    → map (λ (e : Entry). e.next) (entries_of bidders judged) ≡ next_bounds bidders judged

-- ---- the verdicts are the definition's

-- the next verdict goes by the entries alone
abbrev pub EntriesTellVerdict : Type 0
EntriesTellVerdict = (p : Prices) (improve : ℤ) (bidders : List Standing) (earlier : List Judged) (s : Submission) (verdict : Verdict)
    → IsNextVerdict p improve bidders earlier s verdict ↔ IsVerdictBy p improve (entries_of bidders earlier) s verdict

-- no submission yet
abbrev pub RoundsBegin : Type 0
RoundsBegin = (p : Prices) (improve : ℤ) (bidders : List Standing) → IsRound p improve bidders []

-- one submission more
abbrev pub RoundsGoOn : Type 0
RoundsGoOn = (p : Prices) (improve : ℤ) (bidders : List Standing) (earlier : List Judged) (j : Judged)
    → IsRound p improve bidders (earlier ++ j ∷ []) ↔
    (IsRound p improve bidders earlier × IsNextVerdict p improve bidders earlier j.submission j.verdict)

-- verdicts taken one at a time are those of a round, and no others are
abbrev pub VerdictsMakeRound : Type 0
VerdictsMakeRound = (p : Prices) (improve : ℤ) (bidders : List Standing) (judged : List Judged)
    → IsRound p improve bidders judged ↔ AreVerdictsBy p improve (entries_before bidders) judged

-- there is at most one next verdict
abbrev pub VerdictIsOne : Type 0
VerdictIsOne = (p : Prices) (improve : ℤ) (bidders : List Standing) (earlier : List Judged) (s : Submission) (one other : Verdict)
    → IsNextVerdict p improve bidders earlier s one → IsNextVerdict p improve bidders earlier s other → one ≡ other

-- ---- the names of the entries

abbrev pub names_in : List Entry → List (List ℕ)
names_in entries = map (λ (e : Entry). e.standing.name) entries

-- they are the bidders', and no submission changes them
abbrev pub NamesBegin : Type 0
NamesBegin = (bidders : List Standing) → names_in (entries_before bidders) ≡ map (λ (bidder : Standing). bidder.name) bidders

abbrev pub NamesStay : Type 0
NamesStay = (entries : List Entry) (j : Judged) → names_in (entries_after entries j) ≡ names_in entries

-- what the bidders of an exchange bring into a round has their names, one each
abbrev pub StandingsAreNamed : Type 0
StandingsAreNamed = (ex : Exchange) (bounds : List Bounds) (sets : Assignment) → length bounds ≡ length ex.bidders
    → length sets ≡ length ex.bidders
    → map (λ (bidder : Standing). bidder.name) (standings ex bounds sets) ≡ names_of ex

-- and each brings its own tree, bounds and set
abbrev pub StandingIs : Type 0
StandingIs = (ex : Exchange) (bounds : List Bounds) (sets : Assignment) (b : ℕ) (d : Standing) (bidder : Bidder)
    → length bounds ≡ length ex.bidders → length sets ≡ length ex.bidders
    → b < length ex.bidders → slice_index_or ex.bidders b bidder ≡ bidder
    → slice_index_or (standings ex bounds sets) b d
    ≡ record { name = bidder.name; tree = bidder.tree; bounds = bounds_of bounds b; set = set_of sets b }

-- ---- one entry at a time

-- where names are apart, the entry of a submission's bidder decides its verdict
abbrev pub OneEntryDecides : Type 0
OneEntryDecides = (p : Prices) (improve : ℤ) (entries : List Entry) (b : ℕ) (d : Entry) (s : Submission) (verdict : Verdict)
    → IsDistinct bytes_eq (names_in entries) → b < length entries → (slice_index_or entries b d).standing.name ≡ s.name
    → IsVerdictBy p improve entries s verdict ↔ IsVerdict p improve (slice_index_or entries b d).standing
    (slice_index_or entries b d).is_taken s verdict

-- where no entry has its name, the bidder is unknown
abbrev pub NoEntryDecides : Type 0
NoEntryDecides = (p : Prices) (improve : ℤ) (entries : List Entry) (s : Submission) (verdict : Verdict)
    → is_entered entries s.name ≡ false → IsVerdictBy p improve entries s verdict ↔ (verdict ≡ UnknownBidder)

-- where names are apart, a submission changes its bidder's entry alone
abbrev pub OneEntryChanges : Type 0
OneEntryChanges = (entries : List Entry) (b : ℕ) (d : Entry) (j : Judged)
    → IsDistinct bytes_eq (names_in entries) → b < length entries → (slice_index_or entries b d).standing.name ≡ j.submission.name
    → entries_after entries j ≡ slice_set entries b (entry_after j (slice_index_or entries b d))

-- an accepted one gives its bounds to an entry that took none before
abbrev pub AcceptedIsTaken : Type 0
AcceptedIsTaken = (e : Entry) (j : Judged) → e.standing.name ≡ j.submission.name → e.is_taken ≡ false → is_accepted j ≡ true
    → entry_after j e ≡ with_bounds (stated_bounds j.submission) e

-- one that isn't accepted changes nothing
abbrev pub OthersChangeNothing : Type 0
OthersChangeNothing = (entries : List Entry) (j : Judged) → is_accepted j ≡ false → entries_after entries j ≡ entries

-- whatever is said of it, a submission leaves the entries of other names as they are
abbrev pub OtherEntriesStay : Type 0
OtherEntriesStay = (e : Entry) (j : Judged) → e.standing.name ≢ j.submission.name → entry_after j e ≡ e
