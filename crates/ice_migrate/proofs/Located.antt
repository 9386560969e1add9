-- The line of a stop, and what stands before and behind it.
use Rattle.std.proofs.Common.{◌≡◌, ◌+◌, ◌-◌, ◌∙◌, ℕ, true, List, ◌∷◌, ◌++◌, length, refl, sym, ap, subst, arith}
use Rattle.std.specs.Prelude.{Some}
use Rattle.std.proofs.lemmas.List.{length-map}
use Rattle.ice_journal.specs.declared.line.Line.{Line}
use Rattle.ice_journal.specs.Records.{Record, version_1, Kind}
use Rattle.ice_journal.specs.Records as line
use Rattle.ice_journal.specs.Journal.{IsJournal}
use Rattle.ice_journal.specs.Lines.{record_of}
use Rattle.ice_journal.specs.Plain.{goods_in}
use Rattle.ice_journal_laws.specs.declared.rule.Rule.TheVariants as rule
use Rattle.ice_journal_laws.specs.State.{State, begun, goods_at}
use Rattle.ice_journal_laws.specs.Next.{next, bidder_count}
use Rattle.ice_journal_laws.specs.Tests.{IsStop}
use Rattle.ice_migrate.specs.Order.{order_from, order_failure}
use Rattle.ice_migrate.specs.Migrating.{is_old, StopsAt}
use Rattle.ice_migrate.specs.Reading.{bidders_in}
use Rattle.ice_migrate.specs.Stopped.{place_of, StandsAt}
use Rattle.ice_migrate.specs.declared.place.Place.{Place}
use Rattle.ice_migrate.specs.declared.counts.Counts.{Counts}
use Rattle.ice_migrate.proofs.Growing.{drafts}
use Rattle.ice_migrate.proofs.Following.{goods_are}
use Rattle.ice_migrate.proofs.Stopping.{stop_past}
use Rattle.ice_migrate.proofs.Walking.{Stopped, old_begins, stopped, stop_names}
use Rattle.ice_migrate.proofs.Judged.{of_old}

pub record Located (journal : List Record) (stop : ℕ) : Type 0 where
  pub before : List Record
  pub first : Record
  pub after : List Record
  pub split : journal ≡ before ++ first ∷ after
  pub count : length before ≡ stop - 1
  pub at : State
  pub now : State
  pub stop_is : IsStop at first
  pub leads : next at first ≡ Some now
  pub order : order_failure journal ≡ order_from now after
  pub version : now.version ≡ version_1
  pub goods : goods_at now ≡ goods_in before
  pub bidders : bidder_count now ≡ bidders_in before
  pub line_is : now.line ≡ length before + 2

bidders_are : (s : State) → bidder_count s ≡ length s.section.bidders
bidders_are s = length-map s.section.bidders (λ bidder. bidder.tree)

of_stopped : (kind : Kind) (rest : List Record) (stop : ℕ) → Stopped (begun version_1 kind) rest stop → Located (line.head version_1 kind ∷ rest) stop
of_stopped kind rest stop x =
    let names = stop_names x.at x.first x.stop in
    let whole = x.follows_it.whole (stop_past x.at x.now x.first x.stop x.leads) in
    record {
      before = line.head version_1 kind ∷ x.before;
      first = x.first;
      after = x.after;
      split = ap (λ (l : List Record). line.head version_1 kind ∷ l) x.split;
      count = omega (arith, x.number_is);
      at = x.at;
      now = x.now;
      stop_is = x.stop;
      leads = x.leads;
      order = x.order;
      version = x.follows_it.version;
      goods = omega (arith, goods_are x.now, x.follows_it.goods, x.goods, names.0);
      bidders = omega (arith, bidders_are x.now, x.follows_it.bidders, x.bidders, names.1, ap drafts whole);
      line_is = omega (arith, x.follows_it.line_is, x.line_is, x.number_is);
    }

pub located : (stop : ℕ) (journal : List Record) → is_old journal ≡ true → StopsAt stop journal → Located journal stop
located stop = of_old (λ journal. StopsAt stop journal → Located journal stop)
    (λ kind rest old t. of_stopped kind rest stop (stopped (begun version_1 kind) rest (record { line = stop; rule = rule.Closed }) (old_begins kind) t refl))

pub split_is : (bytes records : List ℕ) (journal : List Record) (stop : ℕ) (x : Located journal stop) → records ≡ bytes → IsJournal bytes journal → IsJournal records (x.before ++ x.first ∷ x.after)
split_is bytes records journal stop x same is = subst (λ (b : List ℕ). IsJournal b (x.before ++ x.first ∷ x.after)) (sym same) (subst (IsJournal bytes) x.split is)

-- where the records behind the stop begin
pub stands_behind : (journal : List Record) (stop : ℕ) (x : Located journal stop) (c : Counts) (place : Place) (found : Line) (lines : ℕ) → length x.before ≡ lines → c.goods ≡ goods_in x.before → c.bidders ≡ bidders_in x.before
    → record_of found ≡ x.first → ((s after : State) → IsStop s (record_of found) → next s (record_of found) ≡ Some after → after.place ≡ place_of place) → StandsAt x.now c place (lines + 2)
stands_behind journal stop x c place found lines count goods bidders is leads = record {
  counts = record { version = x.version; goods = x.goods ∙ sym goods; bidders = x.bidders ∙ sym bidders };
  place_is = leads x.at x.now (subst (IsStop x.at) (sym is) x.stop_is) (subst (λ (r : Record). next x.at r ≡ Some x.now) (sym is) x.leads);
  line_is = omega (arith, x.line_is, count);
}
