-- Journals of version 1 whose records stand in order, and those that stop.
use Rattle.std.proofs.Common.{◌≡◌, ◌+◌, ◌∙◌, ℕ, Bool, true, false, cond, List, [], ◌∷◌, ◌++◌, length, refl, sym, ap, subst, arith}
use Rattle.std.specs.Prelude.{Option, Some, None, IsSome, is_none, ◌&&◌}
use Rattle.std.proofs.lemmas.Bool.{false≢true}
use Rattle.std.proofs.lemmas.Option.{none-some}
use Rattle.ice_defs.specs.Steps.{leaf, branch, dead}
use Rattle.ice_journal.specs.Records.{Record, version_1, Kind}
use Rattle.ice_journal.specs.Records as line
use Rattle.ice_journal.specs.Plain.{goods_in, AreOfVersion1}
use Rattle.ice_journal_laws.specs.declared.rule.Rule.{Rule}
use Rattle.ice_journal_laws.specs.declared.rule.Rule.TheVariants as rule
use Rattle.ice_journal_laws.specs.Fields.{row_in}
use Rattle.ice_journal_laws.specs.State.{Place, at_accuracy_rows, at_balance_rows, State, begun}
use Rattle.ice_journal_laws.specs.Next.{next, may_have_row}
use Rattle.ice_journal_laws.specs.Tests.{Fails, IsStop, IsRefused, ended_list}
use Rattle.ice_journal_laws.specs.Checks.{Failure, Tested, passes, is_short, list_fails, fails, goes_on}
use Rattle.ice_journal_laws.proofs.Plaining.{goods_more}
use Rattle.ice_migrate.specs.Order.{short_unless, order_or, order_from}
use Rattle.ice_migrate.specs.Reading.{bidders_in}
use Rattle.ice_migrate.proofs.Keeping.{is_past}
use Rattle.ice_migrate.proofs.Growing.{named}
use Rattle.ice_migrate.proofs.Following.{IsOldStep, Follows, follows}

-- ---- records that may stand in their places, to the end

pub data Walks : State → List Record → Type 0 where
  ends : {s : State} → Walks s []
  goes : {s after : State} {r : Record} {rest : List Record} → ¬ IsRefused s r → next s r ≡ Some after → Walks after rest → Walks s (r ∷ rest)

pub record IsOld (s : State) : Type 0 where
  pub version : s.version ≡ version_1
  pub whole : is_past s.place ≡ true → s.section.draft ≡ None

pub old_begins : (kind : Kind) → IsOld (begun version_1 kind)
old_begins kind = record { version = refl; whole = λ past. absurd (false≢true past) }

pub old_after : (s after : State) (r : Record) → Follows s r after → IsOld after
old_after s after r f = record { version = f.version; whole = f.whole }

-- behind the exchange no good is named
clear : (s : State) (rest : List Record) → IsOld s → is_past s.place ≡ true → Walks s rest → goods_in rest ≡ 0
clear s [] old past w = refl
clear s (r ∷ rest) old past (goes {after = after} fine e w) =
    let f = follows s after r old.version old.whole fine e in
    omega (arith, goods_more (r ∷ []) rest, f.none past, clear after rest (old_after s after r f) (f.past past) w)

with_record : (goods all : ℕ) (past : Bool) (r : Record) (rest : List Record) → IsOldStep goods past r → (past ≡ true → goods ≡ all) → AreOfVersion1 all rest → AreOfVersion1 all (r ∷ rest)
with_record goods all past (line.near changes) rest old same later = absurd old
with_record goods all past (line.step (leaf m)) rest old same later = (old.0 ∙ same old.1, later)
with_record goods all past (line.step (branch b n)) rest old same later = later
with_record goods all past (line.step (dead b)) rest old same later = later
with_record goods all past other rest old same later = later

all_old : (s : State) (rest : List Record) → IsOld s → Walks s rest → AreOfVersion1 (length s.section.goods + goods_in rest) rest
all_old s [] old w = tt
all_old s (r ∷ rest) old (goes {after = after} fine e w) =
    let f = follows s after r old.version old.whole fine e in
    let later : AreOfVersion1 (length after.section.goods + goods_in rest) rest = all_old after rest (old_after s after r f) w in
    let same : length after.section.goods + goods_in rest ≡ length s.section.goods + goods_in (r ∷ rest) = omega (arith, f.goods, goods_more (r ∷ []) rest) in
    with_record (length s.section.goods) (length s.section.goods + goods_in (r ∷ rest)) (is_past s.place) r rest f.old
    (λ past. omega (arith, clear s (r ∷ rest) old past (goes fine e w)))
    (subst (λ (n : ℕ). AreOfVersion1 n rest) same later)

-- so are the records of a whole journal
pub walked_old : (kind : Kind) (rest : List Record) → Walks (begun version_1 kind) rest → AreOfVersion1 (goods_in rest) rest
walked_old kind rest w =
    let same : 0 + goods_in rest ≡ goods_in rest = omega arith in
    subst (λ (n : ℕ). AreOfVersion1 n rest) same (all_old (begun version_1 kind) rest (old_begins kind) w)

-- ---- journals that pass every test

pub tested_walks : (s : State) (rest : List Record) → Tested s rest None → Walks s rest
tested_walks s [] (passes e) = ends
tested_walks s (r ∷ rest) (goes_on {after = after} list none holds is t) = goes (λ h. none rule.Exchange h) is (tested_walks after rest t)

pub tested_order : (s : State) (rest : List Record) → Tested s rest None → order_from s rest ≡ None
tested_order s [] (passes e) = ap (short_unless s) e
tested_order s (r ∷ rest) (goes_on {after = after} list none holds is t) = ap (λ (o : Option State). order_or s o (λ next. order_from next rest)) is ∙ tested_order after rest t

-- ---- journals that stop

inside : (s : State) (r : Record) → is_past s.place ≡ true → ¬ IsRefused s r
inside s r past refused = false≢true (sym (ap is_past refused.0) ∙ past)

pub ordered_walks : (s : State) (rest : List Record) → IsOld s → is_past s.place ≡ true → order_from s rest ≡ None → Walks s rest
ordered_walks s [] old past e = ends
ordered_walks s (r ∷ rest) old past e = by (next s r) refl e (λ after is f. let follow = follows s after r old.version old.whole (inside s r past) is in ordered_walks after rest (old_after s after r follow) (follow.past past) f)
  where
    by : (o : Option State) → next s r ≡ o → order_or s o (λ next. order_from next rest) ≡ None → ((after : State) → next s r ≡ Some after → order_from after rest ≡ None → Walks after rest) → Walks s (r ∷ rest)
    by None is f later = absurd (none-some _ (sym f))
    by (Some after) is f later = goes (inside s r past) is (later after is f)

-- the first record of a stop describes nothing
pub stop_names : (s : State) (r : Record) → IsStop s r → (goods_in (r ∷ []) ≡ 0) × (bidders_in (r ∷ []) ≡ 0)
stop_names s (line.good name) stop = absurd (false≢true stop.0)
stop_names s (line.exact name) stop = absurd (false≢true stop.0)
stop_names s (line.bidder name own) stop = absurd (false≢true stop.0)
stop_names s other stop = (refl, refl)

stop_fine : (s : State) (r : Record) → IsStop s r → ¬ IsRefused s r
stop_fine s (line.settings settings) stop refused = false≢true stop.0
stop_fine s (line.good name) stop refused = false≢true stop.0
stop_fine s (line.exact name) stop refused = false≢true stop.0
stop_fine s (line.bidder name own) stop refused = false≢true stop.0
stop_fine s (line.choose least most children lo hi) stop refused = false≢true stop.0
stop_fine s (line.buy good units lo hi) stop refused = false≢true stop.0
stop_fine s (line.sell good units lo hi) stop refused = false≢true stop.0
stop_fine s other stop refused = false≢true refused.1

pub record Stopped (s : State) (rest : List Record) (number : ℕ) : Type 0 where
  pub before : List Record
  pub first : Record
  pub after : List Record
  pub split : rest ≡ before ++ first ∷ after
  -- where the stop stands, and behind its first record
  pub at : State
  pub old : IsOld at
  pub now : State
  pub stop : IsStop at first
  pub leads : next at first ≡ Some now
  pub follows_it : Follows at first now
  pub line_is : at.line ≡ number
  pub number_is : number ≡ s.line + length before
  pub order : order_from s rest ≡ order_from now after
  pub goods : length at.section.goods ≡ length s.section.goods + goods_in before
  pub bidders : named at.section ≡ named s.section + bidders_in before
  pub walks : Walks now after → Walks s rest

pub bidders_more : (r : Record) (rest : List Record) → bidders_in (r ∷ rest) ≡ bidders_in (r ∷ []) + bidders_in rest
bidders_more (line.bidder name own) rest = omega arith
bidders_more other rest = omega arith

-- the stop stands next
stops_here : (s now : State) (r : Record) (rest : List Record) → IsOld s → IsStop s r → next s r ≡ Some now → Stopped s (r ∷ rest) s.line
stops_here s now r rest old stop e = record {
  before = [];
  first = r;
  after = rest;
  split = refl;
  at = s;
  old = old;
  now = now;
  stop = stop;
  leads = e;
  follows_it = follows s now r old.version old.whole (stop_fine s r stop) e;
  line_is = refl;
  number_is = omega arith;
  order = ap (λ (o : Option State). order_or s o (λ next. order_from next rest)) e;
  goods = omega arith;
  bidders = omega arith;
  walks = λ w. goes (stop_fine s r stop) e w;
}

-- or behind one record more
stops_later : (s after : State) (r : Record) (rest : List Record) (number : ℕ) → Follows s r after → ¬ IsRefused s r → next s r ≡ Some after → Stopped after rest number → Stopped s (r ∷ rest) number
stops_later s after r rest number f fine e x = record {
  before = r ∷ x.before;
  first = x.first;
  after = x.after;
  split = ap (λ (l : List Record). r ∷ l) x.split;
  at = x.at;
  old = x.old;
  now = x.now;
  stop = x.stop;
  leads = x.leads;
  follows_it = x.follows_it;
  line_is = x.line_is;
  number_is = omega (arith, x.number_is, f.line_is);
  order = ap (λ (o : Option State). order_or s o (λ next. order_from next rest)) e ∙ x.order;
  goods = omega (arith, x.goods, f.goods, goods_more (r ∷ []) x.before);
  bidders = omega (arith, x.bidders, f.bidders, bidders_more r x.before);
  walks = λ w. goes fine e (x.walks w);
}

ended_is : (place : Place) (r : Record) (x : Rule) → ended_list place r ≡ Some x → x ≡ rule.Closed → ⊥
ended_is (at_accuracy_rows den rows) r x e f = by (is_none (row_in r) && may_have_row rows) e
  where
    by : (b : Bool) → cond b (Some rule.Accuracy) None ≡ Some x → ⊥
    by true g = other g f
      where
        other : Some rule.Accuracy ≡ Some x → x ≡ rule.Closed → ⊥
        other h i = cc
    by false g = none-some x g
ended_is (at_balance_rows den rows) r x e f = by (is_none (row_in r) && may_have_row rows) e
  where
    by : (b : Bool) → cond b (Some rule.Balance) None ≡ Some x → ⊥
    by true g = other g f
      where
        other : Some rule.Balance ≡ Some x → x ≡ rule.Closed → ⊥
        other h i = cc
    by false g = none-some x g
ended_is other r x e f = none-some x e

stops_now : (s : State) (r : Record) (rest : List Record) → IsOld s → IsStop s r → Stopped s (r ∷ rest) s.line
stops_now s r rest old stop = by (next s r) refl stop.1
  where
    by : (o : Option State) → next s r ≡ o → IsSome o → Stopped s (r ∷ rest) s.line
    by None e there = absurd (false≢true there)
    by (Some now) e there = stops_here s now r rest old stop e

pub stopped : (s : State) (rest : List Record) (failure : Failure) → IsOld s → Tested s rest (Some failure) → failure.rule ≡ rule.Closed → Stopped s rest failure.line
stopped s [] failure old (is_short e) closed = absurd (short closed)
  where
    short : rule.Short ≡ rule.Closed → ⊥
    short f = cc
stopped s (r ∷ rest) failure old (list_fails {x = x} e n) closed = absurd (ended_is s.place r x e closed)
stopped s (r ∷ rest) failure old (fails {x = x} list first) closed = stops_now s r rest old (subst (λ (y : Rule). Fails y s r) closed first.0)
stopped s (r ∷ rest) failure old (goes_on {after = after} list none holds is t) closed =
    let f = follows s after r old.version old.whole (λ h. none rule.Exchange h) is in
    stops_later s after r rest failure.line f (λ h. none rule.Exchange h) is (stopped after rest failure (old_after s after r f) t closed)
