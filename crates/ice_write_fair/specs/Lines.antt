-- The lines of fair prices, and of a limit of the search for them.
use Rattle.std.specs.Prelude.{ℕ, zero, suc, List, [], ◌∷◌, ◌++◌, map, codes, decimal}
use Rattle.std.specs.List.{join_with_byte}
use Rattle.ice_defs.specs.Fraction.{Fraction}
use Rattle.ice_defs.specs.PricingLimit.{fairness_stage, limit_of}
use Rattle.ice_journal.specs.Records.{Record, limit_end}
use Rattle.ice_journal.specs.Records as line
use Rattle.ice_journal.specs.Spelling.{fraction_text, line_of}
use Rattle.ice_journal.specs.Journal.{bytes_of}
use Rattle.ice_journal_laws.specs.Written.{row_record}
use Rattle.ice_fair_laws.specs.Fair.{FairCertificate}
use Rattle.ice_fair.specs.declared.answer.Fair.{Fair}
use Rattle.ice_fair_stage.specs.declared.ends.FairLimit.{FairLimit}
use Rattle.ice_write_session.specs.Records.{member_record}

-- fields with a space between each two, and a newline
abbrev pub line_text : List (List ℕ) → List ℕ
line_text fields = join_with_byte 32 fields ++ 10 ∷ []

-- the prices, their violation, and the certificate of it
abbrev pub accuracy_records : Fair → List Record
accuracy_records f = line.prices f.prices ∷ line.accuracy f.delta f.accuracy.den ∷ map row_record f.accuracy.rows

abbrev pub distance_line : Fraction → List ℕ
distance_line d = line_text (codes "distance" ∷ fraction_text d ∷ [])

abbrev pub fairness_line : ℕ → List ℕ
fairness_line den = line_text (codes "fairness" ∷ decimal den ∷ [])

abbrev pub hold_line : ℕ → ℕ → ℕ → List ℕ
hold_line b low high = line_text (codes "hold" ∷ decimal b ∷ decimal low ∷ decimal high ∷ [])

-- the numbers of a bidder, where one is not 0
abbrev pub hold_text : ℕ → ℕ → ℕ → List ℕ
hold_text b zero zero = []
hold_text b zero (suc high) = hold_line b zero (suc high)
hold_text b (suc low) high = hold_line b (suc low) high

-- those of the bidders from this one on
abbrev pub hold_lines : ℕ → List ℕ → List ℕ → List ℕ
hold_lines b (low ∷ lows) (high ∷ highs) = hold_text b low high ++ hold_lines (suc b) lows highs
hold_lines b lows highs = []

-- the denominator, the bidders' numbers and the rows
abbrev pub certificate_lines : FairCertificate → List ℕ
certificate_lines c = fairness_line c.den ++ hold_lines 0 c.low c.high ++ bytes_of (map row_record c.rows)

abbrev pub last_line : List ℕ
last_line = codes "end fair" ++ 10 ∷ []

-- the prices with what shows their violation, their distance with what shows it, and an end
abbrev pub fair_lines : Fair → List ℕ
fair_lines f = bytes_of (accuracy_records f) ++ distance_line f.distance ++ certificate_lines f.certificate ++ last_line

-- spelled as the records of a limit are, but that no journal has this stage
abbrev pub limit_line : FairLimit → List ℕ
limit_line l = line_of (line.limit fairness_stage (limit_of l.kind) l.delta l.den)

abbrev pub fair_limit_lines : FairLimit → List ℕ
fair_limit_lines l = limit_line l ++ bytes_of (map member_record l.pool.items) ++ bytes_of (line.end limit_end ∷ [])
