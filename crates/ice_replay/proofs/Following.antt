-- What one record more makes of what is known of a settlement.
use Rattle.std.proofs.Common.{◌≡◌, ℕ, suc, Bool, true, false, cond, eqb, List, [], ◌∷◌, ◌++◌, length, ℤ, refl, sym, ◌∙◌, ap, subst, append_assoc, ⊎_elim}
use Rattle.std.specs.Prelude.{◌≢◌, Option, Some, None, option_map, option_and_then, MatchOption}
use Rattle.std.proofs.lemmas.Bool.{true≢false, false≢true}
use Rattle.std.proofs.lemmas.Option.{none-some, same_Some}
use Rattle.ice_defs.specs.Prices.{Prices}
use Rattle.ice_defs.specs.Exchange.{names_of}
use Rattle.ice_journal.specs.Records.{Record, Version, session_kind}
use Rattle.ice_journal.specs.Records as line
use Rattle.ice_journal_laws.specs.declared.rule.Rule.{Rule}
use Rattle.ice_journal_laws.specs.Fields.{amount_in, prices_in}
use Rattle.ice_journal_laws.specs.State.{Place, at_regret, at_prices, at_accuracy, at_pool, State, begun, exchange_at, goods_at}
use Rattle.ice_journal_laws.specs.Next.{next, next_at, to_line, go_to, or_stop, after_all}
use Rattle.ice_journal_laws.specs.Tests.{Fails, IsStop}
use Rattle.ice_journal_laws.specs.Progress.{Progress, nothing, other_kind, passing, failed, out_of_memory, TakesOn, passes_on, fails_at, list_fails_at, IsAfter, Leads}
use Rattle.ice_check_records.specs.declared.due.DueRegret.{DueRegret}
use Rattle.ice_check_records.specs.Checking.{Checking, HasCome}
use Rattle.ice_check_records.specs.Due.{is_regret_place, awaits_regret, is_prices_place, awaits_prices, IsDue, TellsDue}
use Rattle.ice_replay.specs.declared.settlement.Replay.{Replay}
use Rattle.ice_replay.specs.declared.watch.Watch.TheVariants as watch
use Rattle.ice_replay.specs.Settlements.{OfSession, IsSession, is_session_head, Settles, prices_from}
use Rattle.ice_replay.specs.Replays.{names_in, bounds_in, Tells}
use Rattle.ice_replay.specs.Watching.{IsFine, prices_to_come, prices_behind, HasBegun, IsWhole, IsWatched, IsComeTo, IsStated, WatchesOn}
use Rattle.ice_replay.proofs.Stopping.{stopped_regret, IsBehind, stops, no_prices_behind}
use Rattle.ice_replay.proofs.Coming.{list_stops, Stood, all_passed, has_stopped, stood, fine_before, IsLast, none_settles, settled}

-- ---- prices

-- where no prices come next, those of the records from here on are those from the next state on
module _ (t : State) (r : Record) (more : List Record) where
  from_next : is_prices_place t.place ≡ false → prices_from t (r ∷ more) ≡ option_and_then (λ after. prices_from after more) (next t r)
  from_next none = ap (λ (b : Bool). cond b (prices_in (goods_at t) r) (option_and_then (λ after. prices_from after more) (next t r))) none

  behind_stop : (o : Option State) → IsBehind o → option_and_then (λ after. prices_from after more) o ≡ None
  behind_stop None h = refl
  behind_stop (Some after) h = no_prices_behind after more h

  pub prices_go_on : (q : Progress) → is_prices_place t.place ≡ false → TakesOn t r q → IsFine q → prices_from t (r ∷ more) ≡ prices_to_come q more
  prices_go_on q none (passes_on {after = after} list fails holds is) fine = from_next none ∙ ap (option_and_then (λ x. prices_from x more)) is
  prices_go_on q none (fails_at {x = x} list first) fine = from_next none ∙ behind_stop (next t r) (stops t r (subst (λ (y : Rule). Fails y t r) fine first.0))
  prices_go_on q none (list_fails_at {x = x} ends not) fine = absurd (list_stops t.place r x ends fine)

-- prices that pass are for as many goods as there are
prices_place : (p : Place) → is_prices_place p ≡ true → p ≡ at_prices
prices_place at_prices e = refl
prices_place other e = absurd (false≢true e)

module _ (t : State) (p : Prices) (here : is_prices_place t.place ≡ true) where
  counted : (b : Bool) (after : State) → option_map (to_line (suc t.line)) (or_stop false (go_to at_pool t) (option_map (λ (x : Prices). go_to at_accuracy (record t { prices = x })) (cond b (Some p) None))) ≡ Some after → b ≡ true
  counted true after e = refl
  counted false after e = absurd (none-some after e)

  pub prices_count : (q : Progress) → TakesOn t (line.prices p) q → IsFine q → prices_in (goods_at t) (line.prices p) ≡ Some p
  prices_count q (passes_on {after = after} list fails holds is) fine =
      ap (λ (b : Bool). cond b (Some p) None)
      (counted (eqb (length p.nums) (goods_at t)) after (sym (ap (λ (x : Place). option_map (to_line (suc t.line)) (next_at t x (line.prices p))) (prices_place t.place here)) ∙ is))
  prices_count q (fails_at {x = x} list first) fine = let stop : IsStop t (line.prices p) = subst (λ (y : Rule). Fails y t (line.prices p)) fine first.0 in absurd (false≢true stop.0)
  prices_count q (list_fails_at {x = x} ends not) fine = absurd (list_stops t.place (line.prices p) x ends fine)

-- what a record states in the place of prices
stated_prices : (t : State) (r : Record) (q : Progress) (found : Option Prices) → is_prices_place t.place ≡ true → TakesOn t r q → IsFine q
    → MatchOption found ((goods : ℕ) → prices_in goods r ≡ None) (λ p. r ≡ line.prices p) → prices_in (goods_at t) r ≡ found
stated_prices t r q None here takes fine none = none (goods_at t)
stated_prices t r q (Some p) here takes fine is =
    ap (prices_in (goods_at t)) is ∙ prices_count t p here q (subst (λ (x : Record). TakesOn t x q) is takes) fine

-- ---- a settlement among more records

abbrev more_settles : {number : ℕ} {s : State} {records : List Record} (r : Record) → Settles number s records → Settles number s (records ++ r ∷ [])
more_settles r x = record {
  before = x.before;
  amount = x.amount;
  rest = x.rest ++ r ∷ [];
  stands = ap (λ (l : List Record). l ++ r ∷ []) x.stands ∙ append_assoc x.before (line.regret x.amount ∷ x.rest) (r ∷ []);
  state = x.state;
  reached = x.reached;
  place = x.place;
  number_is = x.number_is;
}

abbrev more_told : {number : ℕ} {replay : Replay} {s : State} {records : List Record} (r : Record) → Tells number replay s records → Tells number replay s (records ++ r ∷ [])
more_told r x = record {
  settles = more_settles r x.settles;
  number_is = x.number_is;
  names = x.names;
  bounds = x.bounds;
  final = x.final;
  regret = x.regret;
}

more_behind : (number : ℕ) (s : State) (records : List Record) (r : Record) (x : Settles number s records) (more : List Record) → prices_behind (more_settles r x) more ≡ prices_behind x (r ∷ more)
more_behind number s records r x more = ap (λ (l : List Record). prices_from x.state (line.regret x.amount ∷ l)) (append_assoc x.rest (r ∷ []) more)

-- ---- what stays known

module _ (number : ℕ) (s : State) (records : List Record) (p q : Progress) (r : Record) (after : IsAfter p r q) (fine : IsFine q) (at : Stood s records p) where
  -- the settlement has not come
  pub still_before : ¬ Settles number s records → ((t : State) (amount : ℤ) → p ≡ passing t → t.place ≡ at_regret → t.number ≡ number → r ≡ line.regret amount → ⊥) → ¬ Settles number s (records ++ r ∷ [])
  still_before before none x = ⊎_elim before (at_last p at none) (settled number s records r x)
    where
      at_last : (o : Progress) → Stood s records o → ((t : State) (amount : ℤ) → o ≡ passing t → t.place ≡ at_regret → t.number ≡ number → r ≡ line.regret amount → ⊥) → IsLast number s records r → ⊥
      at_last o (all_passed {t = t} e) none_due last =
          none_due last.state last.amount (ap passing (same_Some t last.state (sym e ∙ last.reached))) last.place last.number_is last.is
      at_last o (has_stopped {f = f} closed stopped) none_due last = stopped_regret last.state.place (stopped last.state last.reached) last.place

  -- the prices that are still to come
  to_come : (o : Progress) → Stood s records o → awaits_prices o ≡ false → IsAfter o r q → (more : List Record) → prices_to_come o (r ∷ more) ≡ prices_to_come q more
  to_come o (all_passed {t = t} e) none a more = prices_go_on t r more q none a fine
  to_come o (has_stopped {f = f} closed stopped) none a more = ap (λ (x : Progress). prices_to_come x more) (sym a)

  -- its prices have not come
  pub still_begun : (replay : Replay) → awaits_prices p ≡ false → HasBegun number replay p s records → HasBegun number replay q s (records ++ r ∷ [])
  still_begun replay none h = record {
    told = more_told r h.told;
    none = h.none;
    prices = λ more. more_behind number s records r h.told.settles more ∙ h.prices (r ∷ more) ∙ to_come p at none after more;
  }

  -- they come
  pub now_whole : (replay : Replay) (found : Option Prices) → awaits_prices p ≡ true → MatchOption found ((goods : ℕ) → prices_in goods r ≡ None) (λ x. r ≡ line.prices x) → HasBegun number replay p s records
      → IsWhole number (record replay { prices = found }) s (records ++ r ∷ [])
  now_whole replay found here states h = record {
    told = record {
      settles = more_settles r h.told.settles;
      number_is = h.told.number_is;
      names = h.told.names;
      bounds = h.told.bounds;
      final = h.told.final;
      regret = h.told.regret;
    };
    prices = λ more. more_behind number s records r h.told.settles more ∙ h.prices (r ∷ more) ∙ by p here after more;
  }
    where
      by : (o : Progress) → awaits_prices o ≡ true → IsAfter o r q → (more : List Record) → prices_to_come o (r ∷ more) ≡ found
      by nothing here' a more = absurd (false≢true here')
      by other_kind here' a more = absurd (false≢true here')
      by (passing t) here' a more =
          ap (λ (b : Bool). cond b (prices_in (goods_at t) r) (option_and_then (λ x. prices_from x more) (next t r))) here' ∙ stated_prices t r q found here' a fine states
      by (failed f) here' a more = absurd (false≢true here')
      by out_of_memory here' a more = absurd (false≢true here')

-- all of it is known
pub still_whole : (number : ℕ) (replay : Replay) (s : State) (records : List Record) (r : Record) → IsWhole number replay s records → IsWhole number replay s (records ++ r ∷ [])
still_whole number replay s records r h = record {
  told = more_told r h.told;
  prices = λ more. more_behind number s records r h.told.settles more ∙ h.prices (r ∷ more);
}

-- ---- the regret comes

module _ (number : ℕ) (replay : Replay) (s t : State) (records : List Record) (amount : ℤ) (q : Progress) where
  pub begins : after_all s records ≡ Some t → t.place ≡ at_regret → t.number ≡ number → replay.number ≡ number → names_in replay.bidders.items ≡ names_of (exchange_at t) → bounds_in replay.bidders.items ≡ t.bounds
      → replay.final_value ≡ t.final.value → replay.regret ≡ amount → replay.prices ≡ None → TakesOn t (line.regret amount) q → IsFine q → HasBegun number replay q s (records ++ line.regret amount ∷ [])
  begins reached place number_is same_number names bounds final regret none takes fine = record {
    told = record {
      settles = record {
        before = records;
        amount = amount;
        rest = [];
        stands = refl;
        state = t;
        reached = reached;
        place = place;
        number_is = number_is;
      };
      number_is = same_number;
      names = names;
      bounds = bounds;
      final = final;
      regret = regret;
    };
    none = none;
    prices = λ more. prices_go_on t (line.regret amount) more q (ap is_prices_place place) takes fine;
  }

-- ---- whatever the version

-- what holds behind the head of a session holds with one record more
on_session : (P Q : State → List Record → Type 0) (records : List Record) (p : Progress) (r : Record) → Leads nothing records p
    → ((v : Version) (rest : List Record) → Leads nothing (line.head v session_kind ∷ rest) p → P (begun v session_kind) rest → Q (begun v session_kind) (rest ++ r ∷ [])) → OfSession P records → OfSession Q (records ++ r ∷ [])
on_session P Q (line.head v session_kind ∷ rest) p r l each h = each v rest l h
on_session P Q other p r l each h = absurd h

module _ (number : ℕ) (c : Checking) (r : Record) where
  -- no record is read yet
  pub session_begins : is_session_head r ≡ true → WatchesOn number watch.Start c r watch.Before
  session_begins head records p q l come a none = subst (λ (rs : List Record). IsWatched number watch.Before q (rs ++ r ∷ [])) (sym none) (by r head)
    where
      by : (x : Record) → is_session_head x ≡ true → OfSession (λ s rest. IsFine q → ¬ Settles number s rest) (x ∷ [])
      by (line.head v session_kind) e = λ fine. none_settles number (begun v session_kind)
      by other e = absurd (false≢true e)

  pub other_begins : is_session_head r ≡ false → WatchesOn number watch.Start c r watch.Other
  other_begins head records p q l come a none = subst (λ (rs : List Record). IsWatched number watch.Other q (rs ++ r ∷ [])) (sym none) (r, [], refl, by r head)
    where
      by : (x : Record) → is_session_head x ≡ false → ¬ IsSession (x ∷ [])
      by (line.head v session_kind) e h = true≢false e
      by other e h = h

  -- the journal is of another kind
  pub still_other : WatchesOn number watch.Other c r watch.Other
  still_other records p q l come a (first, rest, is, not) = (
    first,
    rest ++ r ∷ [],
    ap (λ (rs : List Record). rs ++ r ∷ []) is,
    λ h. by first (subst (λ (rs : List Record). ¬ IsSession rs) is not) (subst IsSession (ap (λ (rs : List Record). rs ++ r ∷ []) is) h),
  )
    where
      by : (x : Record) → ¬ IsSession (x ∷ rest) → IsSession (x ∷ rest ++ r ∷ []) → ⊥
      by (line.head v session_kind) none h = none tt
      by other none h = h

  -- the settlement has not come
  pub before_stays : ((p : Progress) (t : State) (amount : ℤ) → HasCome c p → p ≡ passing t → t.place ≡ at_regret → t.number ≡ number → r ≡ line.regret amount → ⊥) → WatchesOn number watch.Before c r watch.Before
  before_stays none records p q l come a =
      on_session (λ s rest. IsFine p → ¬ Settles number s rest) (λ s rest. IsFine q → ¬ Settles number s rest) records p r l
      (λ v rest leads before fine.
      let fine_p = fine_before v rest p q r leads a fine in
      still_before number (begun v session_kind) rest p q r a fine (stood v rest p leads fine_p) (before fine_p) (λ t amount. none p t amount come))

  -- its prices have not come
  pub begun_stays : (replay : Replay) → ((p : Progress) → HasCome c p → awaits_prices p ≡ false) → WatchesOn number (watch.Begun replay) c r (watch.Begun replay)
  begun_stays replay none records p q l come a =
      on_session (λ s rest. IsFine p → HasBegun number replay p s rest) (λ s rest. IsFine q → HasBegun number replay q s rest) records p r l
      (λ v rest leads h fine.
      let fine_p = fine_before v rest p q r leads a fine in
      still_begun number (begun v session_kind) rest p q r a fine (stood v rest p leads fine_p) replay (none p come) (h fine_p))

  pub prices_come : (replay : Replay) (found : Option Prices) → ((p : Progress) → HasCome c p → awaits_prices p ≡ true) → MatchOption found ((goods : ℕ) → prices_in goods r ≡ None) (λ x. r ≡ line.prices x)
      → WatchesOn number (watch.Begun replay) c r (watch.Whole (record replay { prices = found }))
  prices_come replay found here states records p q l come a =
      on_session (λ s rest. IsFine p → HasBegun number replay p s rest) (λ s rest. IsFine q → IsWhole number (record replay { prices = found }) s rest) records p r l
      (λ v rest leads h fine.
      let fine_p = fine_before v rest p q r leads a fine in
      now_whole number (begun v session_kind) rest p q r a fine (stood v rest p leads fine_p) replay found (here p come) states (h fine_p))

  pub whole_stays : (replay : Replay) → WatchesOn number (watch.Whole replay) c r (watch.Whole replay)
  whole_stays replay records p q l come a =
      on_session (λ s rest. IsFine p → IsWhole number replay s rest) (λ s rest. IsFine q → IsWhole number replay s rest) records p r l
      (λ v rest leads h fine. still_whole number replay (begun v session_kind) rest r (h (fine_before v rest p q r leads a fine)))

-- the regret of a settlement is stated: it is this one
module _ (number : ℕ) (c : Checking) (due : DueRegret) (amount : ℤ) (here : IsComeTo due c) where
  pub regret_comes : (replay : Replay) → due.number ≡ number → IsStated due amount replay → WatchesOn number watch.Before c (line.regret amount) (watch.Begun replay)
  regret_comes replay same stated records p q l come a =
      on_session (λ s rest. IsFine p → ¬ Settles number s rest) (λ s rest. IsFine q → HasBegun number replay q s rest) records p (line.regret amount) l
      (λ v rest leads before fine. by v rest p (here p come) a (stood v rest p leads (fine_before v rest p q (line.regret amount) leads a fine)) fine)
    where
      by : (v : Version) (rest : List Record) (o : Progress) → IsDue due.number due.exchange.now due.bounds.now due.final_value o → IsAfter o (line.regret amount) q → Stood (begun v session_kind) rest o → IsFine q
          → HasBegun number replay q (begun v session_kind) (rest ++ line.regret amount ∷ [])
      by v rest o x a (all_passed {t = t} e) fine =
          let is : x.state ≡ t = state_is x.state t (sym x.come) in
          begins number replay (begun v session_kind) t rest amount q e (subst (λ (y : State). y.place ≡ at_regret) is x.place) (sym (ap (λ (y : State). y.number) is) ∙ x.number_is ∙ same) (stated.number ∙ same)
          (stated.names ∙ ap names_of (sym x.exchange) ∙ ap (λ (y : State). names_of (exchange_at y)) is)
          (stated.bounds ∙ sym x.bounds_are ∙ ap (λ (y : State). y.bounds) is)
          (stated.final ∙ sym x.final_is ∙ ap (λ (y : State). y.final.value) is)
          stated.regret stated.none a fine
        where
          state_is : (y z : State) → passing y ≡ passing z → y ≡ z
          state_is y z i = cc
      by v rest o x a (has_stopped {f = f} closed stopped) fine = absurd (apart f x.state x.come)
        where
          apart : (g : _) (y : State) → failed g ≡ passing y → ⊥
          apart g y i = cc

  -- it is another
  pub other_regret : due.number ≢ number → WatchesOn number watch.Before c (line.regret amount) watch.Before
  other_regret other = before_stays number c (line.regret amount) (λ p t sum come is place number_is same. by p t (here p come) is number_is)
    where
      state_is : (y z : State) → passing y ≡ passing z → y ≡ z
      state_is y z i = cc

      by : (p : Progress) (t : State) → IsDue due.number due.exchange.now due.bounds.now due.final_value p → p ≡ passing t → t.number ≡ number → ⊥
      by p t x is number_is = other (sym x.number_is ∙ ap (λ (y : State). y.number) (state_is x.state t (sym x.come ∙ is)) ∙ number_is)

-- no regret is due
pub none_due : (number : ℕ) (c : Checking) (r : Record) → ((p : Progress) → HasCome c p → TellsDue None p) → WatchesOn number watch.Before c r watch.Before
none_due number c r none = before_stays number c r (λ p t sum come is place number_is same. true≢false (sym (ap is_regret_place place) ∙ sym (ap awaits_regret is) ∙ none p come))

-- the record states no regret
pub no_amount : (number : ℕ) (c : Checking) (r : Record) → amount_in r ≡ None → WatchesOn number watch.Before c r watch.Before
no_amount number c r none = before_stays number c r (λ p t sum come is place number_is same. none-some sum (sym none ∙ ap amount_in same))
