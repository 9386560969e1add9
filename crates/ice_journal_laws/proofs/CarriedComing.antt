-- A session as far as its next settlement: its exchange, and settlements that go on.
use Rattle.std.proofs.Common.{◌≡◌, ◌<◌, ◌+◌, ℕ, suc, Bool, true, false, cond, List, [], ◌∷◌, ◌++◌, length, map, ℤ, refl, ◌∙◌, arith}
use Rattle.std.specs.List.{AllByRecursion, flat_map}
use Rattle.ice_defs.specs.declared.NodeKind.{NodeKind}
use Rattle.ice_defs.specs.declared.NodeKind.TheVariants.{Choose, Buy, Sell}
use Rattle.ice_defs.specs.Sum.{numbers_below}
use Rattle.ice_defs.specs.Tree.{kind_of, children_of}
use Rattle.ice_defs.specs.Set.{weight_of}
use Rattle.ice_defs.specs.Bounds.{Bounds}
use Rattle.ice_defs.specs.declared.Group.TheVariants.{Final}
use Rattle.ice_defs.specs.Exchange.{Good, Bidder, Exchange, exact_of, opening_bounds}
use Rattle.ice_defs.specs.Lawful.{IsExchange}
use Rattle.ice_headline_laws.specs.Right.{bounds_after_rounds}
use Rattle.ice_defs.specs.Session.{Going}
use Rattle.ice_journal.specs.Records.{Record, Version, session_kind}
use Rattle.ice_journal.specs.Nodes.{node_record}
use Rattle.ice_journal.specs.Records as line
use Rattle.ice_section.specs.Section.{good_record}
use Rattle.ice_section.specs.Described.{bidder_records, section_records}
use Rattle.ice_section.specs.Laws.{DescribedAreTaken}
use Rattle.ice_journal_laws.specs.State.{at_group, State, begun, exchange_at, trees_at, goods_at}
use Rattle.ice_journal_laws.specs.Next.{go_to, next_settlement}
use Rattle.ice_journal_laws.specs.Assigning.{section_state, section_of, exchange_state}
use Rattle.ice_journal_laws.specs.ShowingSession.{going_in, goings_in, AreShownGoing}
use Rattle.ice_journal_laws.specs.StepsTaken.{Earns}
use Rattle.ice_journal_laws.specs.Earning.{Earning, IsEarnedTaken, EarnGoings}
use Rattle.ice_journal_laws.proofs.Carried.{TakesTo}
use Rattle.ice_journal_laws.proofs.CarriedSection.{section_carries, first_settle_takes}
use Rattle.ice_journal_laws.proofs.CarriedRegret.{some_trees}
use Rattle.ice_journal_laws.proofs.CarriedRound.{resting_at, settle_takes}
use Rattle.ice_journal_laws.proofs.CarriedGoing.{settling, with_going}
use Rattle.ice_journal_laws.proofs.CarriedTaken.{IsNoStep, earns_none, earns_join, earns_quiet}
use Rattle.ice_journal_laws.proofs.CarriedEarnedGoing.{going_earns}

-- ---- a section has no log

quiet_append : (xs ys : List Record) → AllByRecursion IsNoStep xs → AllByRecursion IsNoStep ys → AllByRecursion IsNoStep (xs ++ ys)
quiet_append [] ys a b = b
quiet_append (x ∷ xs) ys a b = (a.0, quiet_append xs ys a.1 b)

goods_quiet : (goods : List Good) → AllByRecursion IsNoStep (map good_record goods)
goods_quiet [] = tt
goods_quiet (good ∷ goods) = (by good.exact, goods_quiet goods)
  where
    by : (b : Bool) → IsNoStep (cond b (line.exact good.name) (line.good good.name))
    by true = tt
    by false = tt

nodes_quiet : (kind : ℕ → NodeKind) (children : ℕ → ℕ) (lo hi : ℕ → ℤ) (ns : List ℕ) → AllByRecursion IsNoStep (map (λ n. node_record (kind n) (children n) (lo n) (hi n)) ns)
nodes_quiet kind children lo hi [] = tt
nodes_quiet kind children lo hi (n ∷ ns) = (by (kind n), nodes_quiet kind children lo hi ns)
  where
    by : (k : NodeKind) → IsNoStep (node_record k (children n) (lo n) (hi n))
    by (Choose least most) = tt
    by (Buy good units) = tt
    by (Sell good units) = tt

bidders_quiet : (bidders : List Bidder) → AllByRecursion IsNoStep (flat_map bidder_records bidders)
bidders_quiet [] = tt
bidders_quiet (b ∷ bidders) =
    quiet_append (bidder_records b) (flat_map bidder_records bidders)
    (tt, nodes_quiet (kind_of b.tree) (λ n. length (children_of b.tree n)) (weight_of b.bounds.lo) (weight_of b.bounds.hi) (numbers_below (length b.tree))) (bidders_quiet bidders)

pub section_quiet : (ex : Exchange) → AllByRecursion IsNoStep (section_records ex)
section_quiet ex = (tt, quiet_append (map good_record ex.goods) (flat_map bidder_records ex.bidders) (goods_quiet ex.goods) (bidders_quiet ex.bidders))

-- ---- the next settlement

module _ (E : Earning) where
  -- these records lead from here to where the settlement of this number comes, with these bounds,
  -- and their steps are earned
  pub record Comes (start : State) (records : List Record) (v : Version) (ex : Exchange) (number : ℕ) (bounds : List Bounds) : Type 0 where
    pub rest : State
    pub state : State
    pub earns : Earns (IsEarnedTaken E) start records rest
    pub settles : TakesTo rest (line.settle state.number) (go_to (at_group Final) (settling state))
    pub version : state.version ≡ v
    pub exchange : exchange_at state ≡ ex
    pub number_is : state.number ≡ number
    pub bounds_are : state.bounds ≡ bounds

  abbrev behind : Going → State → State
  behind g s = next_settlement (record (with_going g s) { judged = g.judged })

  pub goings_come : (going : List Going) (s start : State) → TakesTo start (line.settle s.number) (go_to (at_group Final) (settling s)) → 0 < length (trees_at s) → AreShownGoing (exchange_at s) s.number s.bounds going → EarnGoings E (exchange_at s) s.bounds going
      → Comes start (goings_in s.version (goods_at s) s.number going) s.version (exchange_at s) (s.number + length going) (bounds_after_rounds (exchange_at s) s.bounds going)
  goings_come [] s start settles some is earned = record {
    rest = start;
    state = s;
    earns = earns_none (IsEarnedTaken E) start;
    settles = settles;
    version = refl;
    exchange = refl;
    number_is = omega arith;
    bounds_are = refl;
  }
  goings_come (g ∷ later) s start settles some is earned =
      let next = goings_come later (behind g s) (resting_at g.balance g.judged (with_going g s)) (settle_takes (with_going g s) g.balance g.judged is.1.pricing.balance) some is.2 earned.1 in
      record {
        rest = next.rest;
        state = next.state;
        earns =
            earns_join (IsEarnedTaken E) start (resting_at g.balance g.judged (with_going g s)) next.rest (going_in s.version (goods_at s) s.number g) (goings_in s.version (goods_at s) (suc s.number) later)
            (going_earns E s start g settles some is.0 is.1 earned.0) next.earns;
        settles = next.settles;
        version = next.version;
        exchange = next.exchange;
        number_is = omega (arith, next.number_is);
        bounds_are = next.bounds_are;
      }

  -- a session, from its head
  pub session_comes : DescribedAreTaken → (v : Version) (ex : Exchange) → IsExchange ex → (going : List Going) → AreShownGoing ex 0 (opening_bounds ex) going → EarnGoings E ex (opening_bounds ex) going
      → Comes (begun v session_kind) (section_records ex ++ goings_in v (length (exact_of ex)) 0 going) v ex (length going) (bounds_after_rounds ex (opening_bounds ex) going)
  session_comes taken v ex lawful going is earned =
      let next = goings_come going (exchange_state v session_kind 2 ex) (section_state v session_kind 2 (section_of ex)) (first_settle_takes v ex lawful) (some_trees ex lawful) is earned in
      record {
        rest = next.rest;
        state = next.state;
        earns =
            earns_join (IsEarnedTaken E) (begun v session_kind) (section_state v session_kind 2 (section_of ex)) next.rest (section_records ex) (goings_in v (length (exact_of ex)) 0 going)
            (earns_quiet (IsEarnedTaken E) (begun v session_kind) (section_state v session_kind 2 (section_of ex)) (section_records ex) (section_carries taken v session_kind ex lawful) (section_quiet ex)) next.earns;
        settles = next.settles;
        version = next.version;
        exchange = next.exchange;
        number_is = next.number_is ∙ omega arith;
        bounds_are = next.bounds_are;
      }
