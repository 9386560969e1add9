-- The rounds of a run's journal are the bids of its files.
use Rattle.std.proofs.Common.{◌≡◌, ◌∙◌, ℕ, suc, Bool, true, false, cond, List, [], ◌∷◌, ◌++◌, length, map, refl, sym, ap, arith, append_assoc, drop, ℤ}
use Rattle.std.specs.List.{AllByRecursion, flat_map}
use Rattle.std.proofs.lemmas.List.{append-nil}
use Rattle.ice_defs.specs.declared.NodeKind.{NodeKind}
use Rattle.ice_defs.specs.declared.NodeKind.TheVariants.{Choose, Buy, Sell}
use Rattle.ice_defs.specs.Sum.{numbers_below}
use Rattle.ice_defs.specs.Steps.{Step, branch, leaf, dead}
use Rattle.ice_defs.specs.Bound.{Multipliers}
use Rattle.ice_defs.specs.Rows.{Row}
use Rattle.ice_defs.specs.Round.{Submission, Judged}
use Rattle.ice_defs.specs.Tree.{kind_of, children_of}
use Rattle.ice_defs.specs.Set.{weight_of}
use Rattle.ice_defs.specs.Trade.{Assignment}
use Rattle.ice_defs.specs.PricingRun.{Member}
use Rattle.ice_defs.specs.Exchange.{Good, Bidder, Exchange, exact_of}
use Rattle.ice_defs.proofs.Lists.{all-append}
use Rattle.ice_defs.specs.Session.{Proved, Settlement, Payment, Going, Closed}
use Rattle.ice_journal.specs.Records.{Record, Version, version_1, version_2, closed_end, spent_end, limit_end}
use Rattle.ice_journal.specs.Records as line
use Rattle.ice_journal.specs.Nodes.{node_record}
use Rattle.ice_journal.specs.Plain.{all_zero}
use Rattle.ice_section.specs.Section.{good_record}
use Rattle.ice_section.specs.Described.{bidder_records}
use Rattle.ice_journal_laws.specs.Fields.{multipliers_after}
use Rattle.ice_journal_laws.specs.Written.{row_record, judged_records, payment_record}
use Rattle.ice_journal_laws.specs.Showing.{step_records, group_records, regret_group_records}
use Rattle.ice_journal_laws.specs.ShowingSession.{closed_in, opening_in, going_in, goings_in, without_group_records}
use Rattle.ice_journal_laws.specs.Positions.{Position, before_final, before_rival, before_provisional, before_without, position_records}
use Rattle.ice_search.specs.Results.{proved_found, proved_spent}
use Rattle.ice_search.specs.declared.results.Found.{Found}
use Rattle.ice_search.specs.declared.results.Spent.{Spent}
use Rattle.ice_regret.specs.declared.lead.Regret.{Regret}
use Rattle.ice_defs.specs.PricingLimit.{stage_of, limit_of}
use Rattle.ice_price.specs.declared.ends.PriceLimit.{PriceLimit}
use Rattle.ice_round.specs.SessionAt.{SessionAt}
use Rattle.ice_settled.specs.Shown.{settlement_of}
use Rattle.ice_write_session.specs.Records.{member_record, spent_records, limit_records}
use Rattle.ice_session_laws.specs.Laws.{sought_records}
use Rattle.ice_session_laws.specs.Written.{begun_records, run_records, round_records}
use Rattle.ice_command_parts.specs.Call.{Call, file_limit, IsPrefix}
use Rattle.ice_session_commands.specs.Rounds.{submissions_before_next, rounds_in, OfBids, BeginsRound, HasRoundsOf, submissions_of, AreRoundsOf}
use Rattle.ice_command_parts.proofs.Parts.{told_also}

-- ---- records that neither settle nor submit

abbrev pub IsOther : Record → Type 0
IsOther (line.settle number) = ⊥
IsOther (line.submit s) = ⊥
IsOther r = Unit {0}

rounds_one : (r : Record) (rest : List Record) → IsOther r → rounds_in (r ∷ rest) ≡ rounds_in rest
rounds_one (line.settle number) rest is = absurd is
rounds_one other rest is = refl

before_one : (r : Record) (rest : List Record) → IsOther r → submissions_before_next (r ∷ rest) ≡ submissions_before_next rest
before_one (line.settle number) rest is = absurd is
before_one (line.submit s) rest is = absurd is
before_one other rest is = refl

rounds_skip : (xs ys : List Record) → AllByRecursion IsOther xs → rounds_in (xs ++ ys) ≡ rounds_in ys
rounds_skip [] ys are = refl
rounds_skip (x ∷ xs) ys are = rounds_one x (xs ++ ys) are.0 ∙ rounds_skip xs ys are.1

before_skip : (xs ys : List Record) → AllByRecursion IsOther xs → submissions_before_next (xs ++ ys) ≡ submissions_before_next ys
before_skip [] ys are = refl
before_skip (x ∷ xs) ys are = before_one x (xs ++ ys) are.0 ∙ before_skip xs ys are.1

-- ---- the exchange

goods_other : (goods : List Good) → AllByRecursion IsOther (map good_record goods)
goods_other [] = tt
goods_other (good ∷ goods) = (by good.exact, goods_other goods)
  where
    by : (b : Bool) → IsOther (cond b (line.exact good.name) (line.good good.name))
    by true = tt
    by false = tt

nodes_other : (kind : ℕ → NodeKind) (children : ℕ → ℕ) (lo hi : ℕ → ℤ) (ns : List ℕ) → AllByRecursion IsOther (map (λ n. node_record (kind n) (children n) (lo n) (hi n)) ns)
nodes_other kind children lo hi [] = tt
nodes_other kind children lo hi (n ∷ ns) = (by (kind n), nodes_other kind children lo hi ns)
  where
    by : (k : NodeKind) → IsOther (node_record k (children n) (lo n) (hi n))
    by (Choose least most) = tt
    by (Buy good units) = tt
    by (Sell good units) = tt

bidders_other : (bidders : List Bidder) → AllByRecursion IsOther (flat_map bidder_records bidders)
bidders_other [] = tt
bidders_other (b ∷ bidders) =
    all-append IsOther (bidder_records b) (flat_map bidder_records bidders)
    (tt, nodes_other (kind_of b.tree) (λ n. length (children_of b.tree n)) (weight_of b.bounds.lo) (weight_of b.bounds.hi) (numbers_below (length b.tree))) (bidders_other bidders)

begun_other : (ex : Exchange) → AllByRecursion IsOther (begun_records ex)
begun_other ex = (tt, (tt, all-append IsOther (map good_record ex.goods) (flat_map bidder_records ex.bidders) (goods_other ex.goods) (bidders_other ex.bidders)))

-- ---- groups

steps_other : (v : Version) (m : Multipliers) (log : List Step) → AllByRecursion IsOther (step_records v m log)
steps_other v m [] = tt
steps_other version_1 m (x ∷ log) = (tt, steps_other version_1 (multipliers_after m x) log)
steps_other version_2 m (branch b n ∷ log) = (tt, steps_other version_2 (multipliers_after m (branch b n)) log)
steps_other version_2 m (leaf new ∷ log) = (tt, steps_other version_2 (multipliers_after m (leaf new)) log)
steps_other version_2 m (dead b ∷ log) = (tt, steps_other version_2 (multipliers_after m (dead b)) log)

sets_other : (sets : Assignment) → AllByRecursion IsOther (map line.set sets)
sets_other [] = tt
sets_other (x ∷ sets) = (tt, sets_other sets)

group_other : (v : Version) (goods : ℕ) (first : Record) (p : Proved) → IsOther first → AllByRecursion IsOther (group_records v goods first p)
group_other v goods first p is = (is, all-append IsOther (map line.set p.sets) (step_records v (all_zero goods) p.log) (sets_other p.sets) (steps_other v (all_zero goods) p.log))

regret_other : (v : Version) (goods : ℕ) (x : Settlement) → AllByRecursion IsOther (regret_group_records v goods x)
regret_other v goods x =
    all-append IsOther (group_records v goods (line.final x.final.value) x.final ++ group_records v goods (line.rival x.rival.value) x.rival) (line.regret x.regret ∷ [])
    (all-append IsOther (group_records v goods (line.final x.final.value) x.final) (group_records v goods (line.rival x.rival.value) x.rival)
    (group_other v goods (line.final x.final.value) x.final tt) (group_other v goods (line.rival x.rival.value) x.rival tt))
    (tt, tt)

rows_other : (rows : List Row) → AllByRecursion IsOther (map row_record rows)
rows_other [] = tt
rows_other (row ∷ rows) = (tt, rows_other rows)

opening_other : (v : Version) (goods : ℕ) (g : Going) → AllByRecursion IsOther (opening_in v goods g)
opening_other v goods g =
    let offered : List Record = group_records v goods (line.provisional g.provisional.value) g.provisional in
    let accurate : List Record = line.prices g.prices ∷ line.accuracy g.violation g.accuracy.den ∷ map row_record g.accuracy.rows in
    let balanced : List Record = line.balance g.balance.den ∷ map row_record g.balance.rows in
    all-append IsOther (offered ++ accurate) balanced
    (all-append IsOther offered accurate (group_other v goods (line.provisional g.provisional.value) g.provisional tt) (tt, (tt, rows_other g.accuracy.rows)))
    (tt, rows_other g.balance.rows)

withouts_other : (v : Version) (goods b : ℕ) (ps : List Proved) → AllByRecursion IsOther (without_group_records v goods b ps)
withouts_other v goods b [] = tt
withouts_other v goods b (p ∷ later) = all-append IsOther (group_records v goods (line.without b p.value) p) (without_group_records v goods (suc b) later) (group_other v goods (line.without b p.value) p tt) (withouts_other v goods (suc b) later)

payments_other : (payments : List Payment) → AllByRecursion IsOther (map payment_record payments)
payments_other [] = tt
payments_other (p ∷ payments) = (tt, payments_other payments)

members_other : (pool : List Member) → AllByRecursion IsOther (map member_record pool)
members_other [] = tt
members_other (m ∷ pool) = (tt, members_other pool)

-- ---- settlements

-- these records settle once, with this number, and submit nothing
pub record SettlesOnce (number : ℕ) (records : List Record) : Type 0 where
  pub rest : List Record
  pub is : records ≡ line.settle number ∷ rest
  pub others : AllByRecursion IsOther rest

pub settles_more : (number : ℕ) (xs ys : List Record) → SettlesOnce number xs → AllByRecursion IsOther ys → SettlesOnce number (xs ++ ys)
settles_more number xs ys once others = record { rest = once.rest ++ ys; is = ap (λ (rs : List Record). rs ++ ys) once.is; others = all-append IsOther once.rest ys once.others others }

pub position_settles : (v : Version) (goods number : ℕ) (at : Position) → SettlesOnce number (position_records v goods number at)
position_settles v goods number before_final = record { rest = []; is = refl; others = tt }
position_settles v goods number (before_rival final) = record { rest = _; is = refl; others = group_other v goods (line.final final.value) final tt }
position_settles v goods number (before_provisional x) = record { rest = _; is = refl; others = regret_other v goods x }
position_settles v goods number (before_without x withouts) = record {
  rest = _;
  is = refl;
  others = all-append IsOther (regret_group_records v goods x) (without_group_records v goods 0 withouts) (regret_other v goods x) (withouts_other v goods 0 withouts);
}

pub spent_other : (ex : Exchange) (s : Spent) → AllByRecursion IsOther (spent_records ex s)
spent_other ex s = all-append IsOther (group_records version_2 (length (exact_of ex)) (line.spent s.value s.bound) (proved_spent s)) (line.end spent_end ∷ []) (group_other version_2 (length (exact_of ex)) (line.spent s.value s.bound) (proved_spent s) tt) (tt, tt)

pub limit_other : (limit : PriceLimit) → AllByRecursion IsOther (limit_records limit)
limit_other limit = all-append IsOther (line.limit (stage_of limit.stage) (limit_of limit.kind) limit.delta limit.den ∷ map member_record limit.pool.items) (line.end limit_end ∷ []) (tt, members_other limit.pool.items) (tt, tt)

pub offered_other : (v : Version) (goods : ℕ) (p : Proved) → AllByRecursion IsOther (group_records v goods (line.provisional p.value) p)
offered_other v goods p = group_other v goods (line.provisional p.value) p tt

-- a settlement as far as its provisional sets
pub sought_settles : (s : SessionAt) (final : Found) (amount : Regret) (offered : Found) → SettlesOnce s.number (sought_records s final amount offered)
sought_settles s final amount offered =
    let at : Position = before_provisional (settlement_of final amount) in
    settles_more s.number (position_records version_2 (length (exact_of s.exchange)) s.number at) (group_records version_2 (length (exact_of s.exchange)) (line.provisional offered.value) (proved_found offered))
    (position_settles version_2 (length (exact_of s.exchange)) s.number at) (offered_other version_2 (length (exact_of s.exchange)) (proved_found offered))

pub closed_settles : (v : Version) (goods number : ℕ) (c : Closed) → SettlesOnce number (closed_in v goods number c)
closed_settles v goods number c =
    let charged : List Record = line.threshold c.cut c.surplus ∷ map payment_record c.payments in
    let settled : List Record = regret_group_records v goods c.settlement in
    let withouts : List Record = without_group_records v goods 0 c.withouts in
    record {
      rest = ((settled ++ withouts) ++ charged) ++ line.end closed_end ∷ [];
      is = refl;
      others = all-append IsOther ((settled ++ withouts) ++ charged) (line.end closed_end ∷ [])
          (all-append IsOther (settled ++ withouts) charged (all-append IsOther settled withouts (regret_other v goods c.settlement) (withouts_other v goods 0 c.withouts)) (tt, payments_other c.payments))
          (tt, tt);
    }

once_rounds : (number : ℕ) (records : List Record) → SettlesOnce number records → rounds_in records ≡ [] ∷ []
once_rounds number records once =
    ap rounds_in once.is
    ∙ ap (λ (s : List Submission). s ∷ rounds_in once.rest) (ap submissions_before_next (sym (append-nil once.rest)) ∙ before_skip once.rest [] once.others)
    ∙ ap (λ (rs : List (List Submission)). [] ∷ rs) (ap rounds_in (sym (append-nil once.rest)) ∙ rounds_skip once.rest [] once.others)

once_before : (number : ℕ) (records : List Record) → SettlesOnce number records → submissions_before_next records ≡ []
once_before number records once = ap submissions_before_next once.is

-- ---- settlements that go on

judged_before : (js : List Judged) (ys : List Record) → submissions_before_next (flat_map judged_records js ++ ys) ≡ map (λ j. j.submission) js ++ submissions_before_next ys
judged_before [] ys = refl
judged_before (j ∷ js) ys = ap (λ (ss : List Submission). j.submission ∷ ss) (judged_before js ys)

judged_rounds : (js : List Judged) (ys : List Record) → rounds_in (flat_map judged_records js ++ ys) ≡ rounds_in ys
judged_rounds [] ys = refl
judged_rounds (j ∷ js) ys = judged_rounds js ys

module _ (v : Version) (goods : ℕ) where
  going_rounds : (n : ℕ) (g : Going) (ys : List Record) → submissions_before_next ys ≡ [] → rounds_in (going_in v goods n g ++ ys) ≡ submissions_of g ∷ rounds_in ys
  going_rounds n g ys none =
      let quiet : List Record = regret_group_records v goods g.settlement ++ opening_in v goods g in
      let said : List Record = flat_map judged_records g.judged in
      let others : AllByRecursion IsOther (regret_group_records v goods g.settlement ++ opening_in v goods g) = all-append IsOther (regret_group_records v goods g.settlement) (opening_in v goods g) (regret_other v goods g.settlement) (opening_other v goods g) in
      ap (λ (rs : List Record). rounds_in (line.settle n ∷ rs)) (append_assoc quiet said ys)
      ∙ ap (λ (ss : List Submission). ss ∷ rounds_in (quiet ++ (said ++ ys))) (before_skip quiet (said ++ ys) others ∙ judged_before g.judged ys ∙ ap (λ (ss : List Submission). submissions_of g ++ ss) none ∙ append-nil (submissions_of g))
      ∙ ap (λ (rs : List (List Submission)). submissions_of g ∷ rs) (rounds_skip quiet (said ++ ys) others ∙ judged_rounds g.judged ys)

  goings_before : (n : ℕ) (going : List Going) (ys : List Record) → submissions_before_next ys ≡ [] → submissions_before_next (goings_in v goods n going ++ ys) ≡ []
  goings_before n [] ys none = none
  goings_before n (g ∷ later) ys none = refl

  goings_rounds : (n : ℕ) (going : List Going) (ys : List Record) → submissions_before_next ys ≡ [] → rounds_in (goings_in v goods n going ++ ys) ≡ map submissions_of going ++ rounds_in ys
  goings_rounds n [] ys none = refl
  goings_rounds n (g ∷ later) ys none =
      ap rounds_in (append_assoc (going_in v goods n g) (goings_in v goods (suc n) later) ys)
      ∙ going_rounds n g (goings_in v goods (suc n) later ++ ys) (goings_before (suc n) later ys none)
      ∙ ap (λ (rs : List (List Submission)). submissions_of g ∷ rs) (goings_rounds (suc n) later ys none)

-- ---- a run

pub run_rounds : (ex : Exchange) (going : List Going) (ys : List Record) → submissions_before_next ys ≡ [] → rounds_in (run_records ex going ++ ys) ≡ map submissions_of going ++ rounds_in ys
run_rounds ex going ys none =
    ap rounds_in (append_assoc (begun_records ex) (goings_in version_2 (length (exact_of ex)) 0 going) ys)
    ∙ rounds_skip (begun_records ex) (goings_in version_2 (length (exact_of ex)) 0 going ++ ys) (begun_other ex)
    ∙ goings_rounds version_2 (length (exact_of ex)) 0 going ys none

-- behind it, records that settle once
pub once_behind : (ex : Exchange) (going : List Going) (number : ℕ) (records : List Record) → SettlesOnce number records → rounds_in (run_records ex going ++ records) ≡ map submissions_of going ++ [] ∷ []
once_behind ex going number records once = run_rounds ex going records (once_before number records once) ∙ ap (λ (rs : List (List Submission)). map submissions_of going ++ rs) (once_rounds number records once)

-- nothing behind it
pub none_behind : (ex : Exchange) (going : List Going) → rounds_in (run_records ex going) ≡ map submissions_of going
none_behind ex going = ap rounds_in (sym (append-nil (run_records ex going))) ∙ run_rounds ex going [] refl ∙ append-nil (map submissions_of going)

-- a settlement whose round has come so far, and records that neither settle nor submit
pub round_behind : (s : SessionAt) (going : List Going) (last : Going) (ys : List Record) → AllByRecursion IsOther ys → rounds_in (round_records s going last ++ ys) ≡ map submissions_of going ++ submissions_of last ∷ []
round_behind s going last ys others =
    let here : List Record = going_in version_2 (length (exact_of s.exchange)) s.number last in
    let before : submissions_before_next ys ≡ [] = ap submissions_before_next (sym (append-nil ys)) ∙ before_skip ys [] others in
    let none : rounds_in ys ≡ [] = ap rounds_in (sym (append-nil ys)) ∙ rounds_skip ys [] others in
    ap rounds_in (append_assoc (run_records s.exchange going) here ys)
    ∙ run_rounds s.exchange going (here ++ ys) refl
    ∙ ap (λ (rs : List (List Submission)). map submissions_of going ++ rs) (going_rounds version_2 (length (exact_of s.exchange)) s.number last ys before ∙ ap (λ (rs : List (List Submission)). submissions_of last ∷ rs) none)

-- ---- the files

module _ (call : Call) where
  all_begin : (file : List ℕ) (round : List Submission) → OfBids call file (λ bids. round ≡ bids) → OfBids call file (IsPrefix round)
  all_begin file round of_bids = told_also (call.before.holds file) file_limit _ _ (λ bytes h. (h.0, h.1, ([], sym h.2 ∙ sym (append-nil round)))) of_bids

  -- a round without a submission
  pub begins_none : (files : List (List ℕ)) → BeginsRound call files []
  begins_none [] = refl
  begins_none (file ∷ files) = λ some. absurd (some refl)

  pub whole_rounds : (files : List (List ℕ)) (going : List Going) → AreRoundsOf call files going → HasRoundsOf call files (map submissions_of going)
  whole_rounds files [] are = tt
  whole_rounds [] (g ∷ later) are = absurd are
  whole_rounds (file ∷ files) (g ∷ []) are = λ some. all_begin file (submissions_of g) are.0
  whole_rounds (file ∷ files) (g ∷ next ∷ later) are = (are.0, whole_rounds files (next ∷ later) are.1)

  pub last_round : (files : List (List ℕ)) (going : List Going) (last : List Submission) → AreRoundsOf call files going → BeginsRound call (drop (length going) files) last → HasRoundsOf call files (map submissions_of going ++ last ∷ [])
  last_round files [] last are begins = begins
  last_round [] (g ∷ later) last are begins = absurd are
  last_round (file ∷ files) (g ∷ []) last are begins = (are.0, begins)
  last_round (file ∷ files) (g ∷ next ∷ later) last are begins = (are.0, last_round files (next ∷ later) last are.1 begins)

  pub rounds_count : (going : List Going) (last : List Submission) → length (map submissions_of going ++ last ∷ []) ≡ suc (length going)
  rounds_count [] last = refl
  rounds_count (g ∷ later) last = omega (arith, rounds_count later last)

  -- files behind them change nothing
  pub longer_rounds : (files more : List (List ℕ)) (going : List Going) → AreRoundsOf call files going → AreRoundsOf call (files ++ more) going
  longer_rounds files more [] are = tt
  longer_rounds [] more (g ∷ later) are = absurd are
  longer_rounds (file ∷ files) more (g ∷ later) are = (are.0, longer_rounds files more later are.1)
