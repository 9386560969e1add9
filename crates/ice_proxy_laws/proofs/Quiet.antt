-- Records that are neither a submission nor the beginning of a settlement.
use Rattle.std.proofs.Common.{ℕ, suc, ◌≡◌, Bool, true, false, List, [], ◌∷◌, ◌++◌, length, map, ℤ, refl, ap, sym, subst, ◌∙◌}
use Rattle.std.specs.Prelude.{Option, Some, IfSome, option_and_then}
use Rattle.std.specs.List.{AllByRecursion, flat_map}
use Rattle.std.proofs.lemmas.Option.{same_Some}
use Rattle.ice_defs.specs.declared.NodeKind.{NodeKind}
use Rattle.ice_defs.specs.declared.NodeKind.TheVariants.{Choose, Buy, Sell}
use Rattle.ice_defs.specs.Sum.{numbers_below}
use Rattle.ice_defs.specs.Tree.{kind_of, children_of}
use Rattle.ice_defs.specs.Set.{weight_of}
use Rattle.ice_defs.specs.Bound.{Multipliers}
use Rattle.ice_defs.specs.Steps.{Step, branch, leaf, dead}
use Rattle.ice_defs.specs.Rows.{Row}
use Rattle.ice_defs.specs.Exchange.{Good, Bidder, Exchange}
use Rattle.ice_defs.specs.Session.{Proved, Settlement, Going, Closed}
use Rattle.ice_defs.proofs.Lists.{all-append}
use Rattle.ice_journal.specs.Records.{Record, Version, version_1, version_2, closed_end}
use Rattle.ice_journal.specs.Records as line
use Rattle.ice_journal.specs.Nodes.{node_record}
use Rattle.ice_journal.specs.Plain.{all_zero}
use Rattle.ice_section.specs.Section.{good_record}
use Rattle.ice_section.specs.Described.{bidder_records, section_records}
use Rattle.ice_journal_laws.specs.Fields.{multipliers_after}
use Rattle.ice_journal_laws.specs.State.{State}
use Rattle.ice_journal_laws.specs.Next.{next, after_all}
use Rattle.ice_journal_laws.specs.Written.{row_record, payment_record}
use Rattle.ice_journal_laws.specs.Showing.{step_record, step_records, group_records, regret_group_records}
use Rattle.ice_journal_laws.specs.ShowingSession.{without_group_records, closed_in, opening_in}
use Rattle.ice_proxy_laws.specs.Journals.{IsNextProxy, HasWholeRound, SubmitsRecord, SubmitsProxies}
use Rattle.ice_proxy_laws.specs.Laws.{IsQuiet}

abbrev pub AreQuiet : List Record → Type 0
AreQuiet records = AllByRecursion IsQuiet records

-- ---- lists of them

quiet_map : {X : Type 0} (f : X → Record) (xs : List X) → ((x : X) → IsQuiet (f x)) → AreQuiet (map f xs)
quiet_map f [] each = tt
quiet_map f (x ∷ xs) each = (each x, quiet_map f xs each)

quiet_flat : {X : Type 0} (f : X → List Record) (xs : List X) → ((x : X) → AreQuiet (f x)) → AreQuiet (flat_map f xs)
quiet_flat f [] each = tt
quiet_flat f (x ∷ xs) each = all-append IsQuiet (f x) (flat_map f xs) (each x) (quiet_flat f xs each)

pub quiet_join : (a b : List Record) → AreQuiet a → AreQuiet b → AreQuiet (a ++ b)
quiet_join a b x y = all-append IsQuiet a b x y

quiet_step : (v : Version) (m : Multipliers) (x : Step) → IsQuiet (step_record v m x)
quiet_step version_1 m x = record { no_submission = refl; no_settlement = refl }
quiet_step version_2 m (branch b n) = record { no_submission = refl; no_settlement = refl }
quiet_step version_2 m (leaf new) = record { no_submission = refl; no_settlement = refl }
quiet_step version_2 m (dead b) = record { no_submission = refl; no_settlement = refl }

quiet_steps : (v : Version) (m : Multipliers) (log : List Step) → AreQuiet (step_records v m log)
quiet_steps v m [] = tt
quiet_steps v m (x ∷ log) = (quiet_step v m x, quiet_steps v (multipliers_after m x) log)

pub quiet_group : (v : Version) (goods : ℕ) (first : Record) (p : Proved) → IsQuiet first → AreQuiet (group_records v goods first p)
quiet_group v goods first p is =
    (is, quiet_join (map line.set p.sets) (step_records v (all_zero goods) p.log) (quiet_map line.set p.sets (λ s. record { no_submission = refl; no_settlement = refl })) (quiet_steps v (all_zero goods) p.log))

pub quiet_regret : (v : Version) (goods : ℕ) (x : Settlement) → AreQuiet (regret_group_records v goods x)
quiet_regret v goods x =
    quiet_join (group_records v goods (line.final x.final.value) x.final ++ group_records v goods (line.rival x.rival.value) x.rival) (line.regret x.regret ∷ [])
    (quiet_join (group_records v goods (line.final x.final.value) x.final) (group_records v goods (line.rival x.rival.value) x.rival)
    (quiet_group v goods (line.final x.final.value) x.final (record { no_submission = refl; no_settlement = refl }))
    (quiet_group v goods (line.rival x.rival.value) x.rival (record { no_submission = refl; no_settlement = refl })))
    (record { no_submission = refl; no_settlement = refl }, tt)

quiet_rows : (rows : List Row) → AreQuiet (map row_record rows)
quiet_rows rows = quiet_map row_record rows (λ r. record { no_submission = refl; no_settlement = refl })

pub quiet_opening : (v : Version) (goods : ℕ) (g : Going) → AreQuiet (opening_in v goods g)
quiet_opening v goods g =
    let prices : List Record = line.prices g.prices ∷ line.accuracy g.violation g.accuracy.den ∷ map row_record g.accuracy.rows in
    let balance : List Record = line.balance g.balance.den ∷ map row_record g.balance.rows in
    quiet_join (group_records v goods (line.provisional g.provisional.value) g.provisional ++ prices) balance
    (quiet_join (group_records v goods (line.provisional g.provisional.value) g.provisional) prices
    (quiet_group v goods (line.provisional g.provisional.value) g.provisional (record { no_submission = refl; no_settlement = refl }))
    (record { no_submission = refl; no_settlement = refl }, (record { no_submission = refl; no_settlement = refl }, quiet_rows g.accuracy.rows)))
    (record { no_submission = refl; no_settlement = refl }, quiet_rows g.balance.rows)

pub quiet_withouts : (v : Version) (goods b : ℕ) (ps : List Proved) → AreQuiet (without_group_records v goods b ps)
quiet_withouts v goods b [] = tt
quiet_withouts v goods b (p ∷ later) =
    quiet_join (group_records v goods (line.without b p.value) p) (without_group_records v goods (suc b) later) (quiet_group v goods (line.without b p.value) p (record { no_submission = refl; no_settlement = refl }))
    (quiet_withouts v goods (suc b) later)

-- what follows the first record of the last settlement
pub closed_rest : Version → ℕ → Closed → List Record
closed_rest v goods c =
    regret_group_records v goods c.settlement ++ without_group_records v goods 0 c.withouts ++ line.threshold c.cut c.surplus ∷ map payment_record c.payments ++ line.end closed_end ∷ []

pub closed_is : (v : Version) (goods number : ℕ) (c : Closed) → closed_in v goods number c ≡ line.settle number ∷ closed_rest v goods c
unfolding closed_rest
closed_is v goods number c = refl

pub quiet_closed : (v : Version) (goods : ℕ) (c : Closed) → AreQuiet (closed_rest v goods c)
unfolding closed_rest
quiet_closed v goods c =
    let withouts : List Record = without_group_records v goods 0 c.withouts in
    let payments : List Record = line.threshold c.cut c.surplus ∷ map payment_record c.payments in
    quiet_join (regret_group_records v goods c.settlement ++ withouts ++ payments) (line.end closed_end ∷ [])
    (quiet_join (regret_group_records v goods c.settlement ++ withouts) payments
    (quiet_join (regret_group_records v goods c.settlement) withouts (quiet_regret v goods c.settlement) (quiet_withouts v goods 0 c.withouts))
    (record { no_submission = refl; no_settlement = refl }, quiet_map payment_record c.payments (λ p. record { no_submission = refl; no_settlement = refl })))
    (record { no_submission = refl; no_settlement = refl }, tt)

-- ---- the section of the exchange

quiet_good : (g : Good) → IsQuiet (good_record g)
quiet_good g = by g.exact refl
  where
    by : (b : Bool) → g.exact ≡ b → IsQuiet (good_record g)
    by true e = rw e (record { no_submission = refl; no_settlement = refl })
    by false e = rw e (record { no_submission = refl; no_settlement = refl })

quiet_node : (k : NodeKind) (children : ℕ) (lo hi : ℤ) → IsQuiet (node_record k children lo hi)
quiet_node (Choose least most) children lo hi = record { no_submission = refl; no_settlement = refl }
quiet_node (Buy good units) children lo hi = record { no_submission = refl; no_settlement = refl }
quiet_node (Sell good units) children lo hi = record { no_submission = refl; no_settlement = refl }

quiet_bidder : (b : Bidder) → AreQuiet (bidder_records b)
quiet_bidder b = (
  record { no_submission = refl; no_settlement = refl },
  quiet_map (λ (n : ℕ). node_record (kind_of b.tree n) (length (children_of b.tree n)) (weight_of b.bounds.lo n) (weight_of b.bounds.hi n)) (numbers_below (length b.tree))
      (λ n. quiet_node (kind_of b.tree n) (length (children_of b.tree n)) (weight_of b.bounds.lo n) (weight_of b.bounds.hi n)),
)

pub quiet_section : (ex : Exchange) → AreQuiet (section_records ex)
quiet_section ex =
    quiet_join (line.settings ex.settings ∷ map good_record ex.goods) (flat_map bidder_records ex.bidders) (record { no_submission = refl; no_settlement = refl }, quiet_map good_record ex.goods quiet_good)
    (quiet_flat bidder_records ex.bidders quiet_bidder)

-- ---- what they submit

quiet_record : (s : State) (truths : List (List ℤ)) (r : Record) → IsQuiet r → SubmitsRecord s truths r
quiet_record s truths r is = (subst (λ o. IfSome o (IsNextProxy s truths)) (sym is.no_submission) tt, subst (λ o. IfSome o (HasWholeRound s)) (sym is.no_settlement) tt)

pub quiet_submits : (s : State) (truths : List (List ℤ)) (records : List Record) → AreQuiet records → SubmitsProxies s truths records
quiet_submits s truths [] quiet = tt
quiet_submits s truths (r ∷ rest) quiet = (quiet_record s truths r quiet.0, λ after e. quiet_submits after truths rest quiet.1)

pub submits_then : (s t : State) (truths : List (List ℤ)) (r : Record) (rest : List Record) → SubmitsRecord s truths r → next s r ≡ Some t → SubmitsProxies t truths rest → SubmitsProxies s truths (r ∷ rest)
submits_then s t truths r rest is e more = (is, λ after f. subst (λ (u : State). SubmitsProxies u truths rest) (same_Some t after (sym e ∙ f)) more)

pub submits_join : (s t : State) (truths : List (List ℤ)) (a b : List Record) → SubmitsProxies s truths a → after_all s a ≡ Some t → SubmitsProxies t truths b → SubmitsProxies s truths (a ++ b)
submits_join s t truths [] b is e more = subst (λ (u : State). SubmitsProxies u truths b) (same_Some t s (sym e)) more
submits_join s t truths (r ∷ rest) b is e more =
    (is.0, λ after f. submits_join after t truths rest b (is.1 after f) (sym (ap (λ (o : Option State). option_and_then (λ x. after_all x rest) o) f) ∙ e) more)
