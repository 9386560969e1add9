-- The record that a line of the program is.
use Rattle.std.specs.Prelude.{ℕ, ℤ, List, map}
use Rattle.std.specs.Borrow.{Bor}
use Rattle.arrayvec.specs.ArrayVec.{ArrayVec}
use Rattle.ice_defs.specs.Fraction.{Fraction}
use Rattle.ice_defs.specs.Round.{Submission}
use Rattle.ice_defs.specs.PricingLimit.{Stage, LimitKind, stage_of, limit_of}
use Rattle.ice_defs.specs.declared.PricingStage.{PricingStage}
use Rattle.ice_defs.specs.declared.LimitKind.{LimitKind as CodeLimit}
use Rattle.ice_defs.specs.Steps.{branch, leaf, dead}
use Rattle.ice_journal.specs.Records as spec
use Rattle.ice_journal.specs.Nodes.{node_record}
use Rattle.ice_journal.specs.declared.line.Version.{Version}
use Rattle.ice_journal.specs.declared.line.Version.TheVariants as version
use Rattle.ice_journal.specs.declared.line.Kind.{Kind}
use Rattle.ice_journal.specs.declared.line.Kind.TheVariants as kind
use Rattle.ice_journal.specs.declared.line.EndWord.{EndWord}
use Rattle.ice_journal.specs.declared.line.EndWord.TheVariants as ending
use Rattle.ice_journal.specs.declared.line.Change.{Change}
use Rattle.ice_journal.specs.declared.line.Numbered.{Numbered}
use Rattle.ice_journal.specs.declared.line.LowestFraction.{LowestFraction}
use Rattle.ice_journal.specs.declared.line.Line.{Line}
use Rattle.ice_journal.specs.declared.line.Line.TheVariants as line

abbrev pub version_of : Version → spec.Version
version_of version.One = spec.version_1
version_of version.Two = spec.version_2

abbrev pub kind_of : Kind → spec.Kind
kind_of kind.Assign = spec.assign_kind
kind_of kind.Regret = spec.regret_kind
kind_of kind.Session = spec.session_kind
kind_of kind.Exchange = spec.exchange_kind
kind_of kind.Prices = spec.prices_kind

abbrev pub end_of : EndWord → spec.EndWord
end_of ending.Assign = spec.assign_end
end_of ending.Exchange = spec.exchange_end
end_of ending.Prices = spec.prices_end
end_of ending.Regret = spec.regret_end
end_of ending.Closed = spec.closed_end
end_of ending.Open = spec.open_end
end_of ending.Spent = spec.spent_end
end_of ending.Limit = spec.limit_end

abbrev pub change_of : Change → spec.Change
change_of c = record { good = c.good; multiplier = c.multiplier }

abbrev pub changes_of : ArrayVec Change → List spec.Change
changes_of changes = map change_of changes.items

abbrev pub numbered_of : Numbered → spec.Numbered
numbered_of n = record { number = n.number; amount = n.amount }

abbrev pub numbers_of : List Numbered → List spec.Numbered
numbers_of numbers = map numbered_of numbers

abbrev pub fraction_of : LowestFraction → Fraction
fraction_of f = record { num = f.num; den = f.den }

-- the fields of a row that come in pairs and more
abbrev pub head_of : Version × Kind → spec.Version × spec.Kind
head_of head = (version_of head.0, kind_of head.1)

abbrev pub bidder_of : List ℕ × ArrayVec ℕ → List ℕ × List ℕ
bidder_of bidder = (bidder.0, bidder.1.items)

abbrev pub submission_of : List ℕ × ArrayVec ℤ × ArrayVec ℤ → Submission
submission_of found = record { name = found.0; lo = found.1.items; hi = found.2.items }

abbrev pub amounts_of : ℕ × Bor (List Numbered) → ℕ × List spec.Numbered
amounts_of found = (found.0, numbers_of found.1.now)

abbrev pub threshold_of : LowestFraction × LowestFraction → Fraction × Fraction
threshold_of found = (fraction_of found.0, fraction_of found.1)

abbrev pub payment_of : List ℕ × ℤ × LowestFraction × LowestFraction → List ℕ × ℤ × Fraction × Fraction
payment_of found = (found.0, found.1, fraction_of found.2, fraction_of found.3)

abbrev pub limit_row_of : PricingStage × CodeLimit × ℤ × ℕ → Stage × LimitKind × ℤ × ℕ
limit_row_of found = (stage_of found.0, limit_of found.1, found.2, found.3)

abbrev pub refused_of : ℕ × ℕ × ArrayVec ℕ → ℕ × ℕ × List ℕ
refused_of found = (found.0, found.1, found.2.items)

abbrev pub record_of : Line → spec.Record
record_of (line.Head v k) = spec.head (version_of v) (kind_of k)
record_of (line.Settings s) = spec.settings s
record_of (line.Good name) = spec.good name
record_of (line.Exact name) = spec.exact name
record_of (line.Bidder name own) = spec.bidder name own.items
record_of (line.Node kind children lo hi) = node_record kind children lo hi
record_of line.Assign = spec.assign
record_of (line.Settle number) = spec.settle number
record_of (line.Final value) = spec.final value
record_of (line.Rival value) = spec.rival value
record_of (line.Provisional value) = spec.provisional value
record_of (line.Without bidder value) = spec.without bidder value
record_of (line.Set s) = spec.set s
record_of (line.Branch bidder node) = spec.step (branch bidder node)
record_of (line.Leaf multipliers) = spec.step (leaf multipliers.items)
record_of (line.Dead bidder) = spec.step (dead bidder)
record_of (line.Near changes) = spec.near (changes_of changes)
record_of (line.Tolled numbers) = spec.tolled (numbers_of numbers.now)
record_of (line.Derive limit) = spec.derive limit
record_of (line.Amounts bidder numbers) = spec.amounts bidder (numbers_of numbers.now)
record_of (line.Regret amount) = spec.regret amount
record_of (line.Prices p) = spec.prices p
record_of (line.Accuracy violation den) = spec.accuracy violation den
record_of (line.Balance den) = spec.balance den
record_of (line.Row bidder weight s) = spec.row bidder weight s
record_of (line.Submit name lo hi) = spec.submit (record { name = name; lo = lo.items; hi = hi.items })
record_of (line.Verdict v) = spec.verdict v
record_of (line.Threshold cut surplus) = spec.threshold (fraction_of cut) (fraction_of surplus)
record_of (line.Payment name vickrey discount payment) = spec.payment name vickrey (fraction_of discount) (fraction_of payment)
record_of (line.Spent value bound) = spec.spent value bound
record_of (line.Limit s k violation den) = spec.limit (stage_of s) (limit_of k) violation den
record_of (line.Pool bidder s) = spec.pool bidder s
record_of (line.End word) = spec.end (end_of word)
record_of (line.Refused file number place) = spec.refused file number place.items
record_of (line.Unread file) = spec.unread file
