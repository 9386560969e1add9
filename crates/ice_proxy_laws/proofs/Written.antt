-- What a proxy session writes.
use Rattle.std.proofs.Common.{ℕ, zero, suc, ◌+◌, ◌<◌, ◌≡◌, false, List, [], ◌∷◌, ◌++◌, length, map, ℤ, refl, ap, sym, subst, arith, append_assoc, ◌∙◌}
use Rattle.std.specs.Prelude.{Some, slice_get}
use Rattle.std.specs.List.{flat_map}
use Rattle.std.proofs.lemmas.List.{length-map}
use Rattle.ice_defs.specs.declared.Group.TheVariants.{Final, Provisional}
use Rattle.ice_defs.specs.Bounds.{Bounds}
use Rattle.ice_defs.specs.Prices.{Prices}
use Rattle.ice_defs.specs.Rows.{Certificate}
use Rattle.ice_defs.specs.Round.{Submission, Judged, Standing, next_bounds}
use Rattle.ice_defs.specs.declared.Verdict.{Verdict}
use Rattle.ice_defs.specs.Exchange.{Exchange, exact_of, opening_bounds}
use Rattle.ice_defs.specs.Session.{Going, Closed, closes, standings}
use Rattle.ice_headline_laws.specs.Right.{bounds_after_round, bounds_after_rounds}
use Rattle.ice_journal.specs.Records.{Record, Version, session_kind}
use Rattle.ice_journal.specs.Records as line
use Rattle.ice_section.specs.Described.{section_records}
use Rattle.ice_section.proofs.Describing.{described_are_taken}
use Rattle.ice_journal_laws.specs.State.{Place, at_group, at_prices, at_accuracy_rows, at_balance_rows, at_round, at_verdict, State, begun, exchange_at, settings_at, trees_at, goods_at}
use Rattle.ice_journal_laws.specs.Next.{next, to_line, go_to, next_settlement}
use Rattle.ice_journal_laws.specs.Assigning.{section_state, section_of, exchange_state}
use Rattle.ice_journal_laws.specs.Written.{row_record, judged_records}
use Rattle.ice_journal_laws.specs.Carrying.{Carries}
use Rattle.ice_journal_laws.specs.Showing.{group_records, regret_group_records}
use Rattle.ice_journal_laws.specs.ShowingSession.{opening_in, going_in, goings_in, settlements_in, IsShownGoing, AreShownGoing, AreShownFrom}
use Rattle.ice_journal_laws.proofs.Carried.{TakesTo, carries_join, leads_ordered}
use Rattle.ice_journal_laws.proofs.CarriedGroup.{group_carries}
use Rattle.ice_journal_laws.proofs.CarriedSection.{section_carries, first_settle_takes}
use Rattle.ice_journal_laws.proofs.CarriedSettlement.{with_settlement}
use Rattle.ice_journal_laws.proofs.CarriedRegret.{some_trees}
use Rattle.ice_journal_laws.proofs.CarriedRound.{resting_at, rests, standings_count, settle_takes}
use Rattle.ice_journal_laws.proofs.CarriedGoing.{settling, regret_stated, with_going, prices_carry, balance_carries, going_carries}
use Rattle.ice_proxy.specs.Proposals.{IsProxyBid}
use Rattle.ice_proxy.specs.Sessions.{IsProxyRound, IsProxyFrom}
use Rattle.ice_proxy_laws.specs.Journals.{HasWholeRound, SubmitsProxies}
use Rattle.ice_proxy_laws.specs.Laws.{IsProxyFront, IsRest, nothing, begins, goes_on, RunSubmitsProxies, SessionSubmitsProxies}
use Rattle.ice_proxy_laws.proofs.Quiet.{AreQuiet, quiet_join, quiet_regret, quiet_opening, quiet_section, quiet_submits, submits_then, submits_join, closed_rest, closed_is, quiet_closed}

-- ---- a round, as far as it has come

-- the bidder and the truth of this place
abbrev IsBidAt : Prices → ℤ → List Standing → List (List ℤ) → ℕ → Submission → Type 0
IsBidAt p improve bidders truths i x = (b : Standing) × (truth : List ℤ) × (slice_get bidders i ≡ Some b) × (slice_get truths i ≡ Some truth) × IsProxyBid p improve b truth x

bid_at : (p : Prices) (improve : ℤ) (bidders : List Standing) (truths : List (List ℤ)) (earlier later : List Judged) (j : Judged) → IsProxyFront p improve bidders truths (earlier ++ j ∷ later)
    → IsBidAt p improve bidders truths (length earlier) j.submission
bid_at p improve [] truths [] later j front = absurd front
bid_at p improve (b ∷ bidders) [] [] later j front = absurd front
bid_at p improve (b ∷ bidders) (t ∷ truths) [] later j front = (b, t, refl, refl, front.0)
bid_at p improve [] truths (i ∷ earlier) later j front = absurd front
bid_at p improve (b ∷ bidders) [] (i ∷ earlier) later j front = absurd front
bid_at p improve (b ∷ bidders) (t ∷ truths) (i ∷ earlier) later j front = bid_at p improve bidders truths earlier later j front.1

round_front : (p : Prices) (improve : ℤ) (bidders : List Standing) (truths : List (List ℤ)) (judged : List Judged) → IsProxyRound p improve bidders truths judged → IsProxyFront p improve bidders truths judged
round_front p improve [] truths [] round = tt
round_front p improve [] truths (j ∷ judged) round = absurd round
round_front p improve (b ∷ bidders) [] [] round = tt
round_front p improve (b ∷ bidders) [] (j ∷ judged) round = absurd round
round_front p improve (b ∷ bidders) (t ∷ truths) [] round = tt
round_front p improve (b ∷ bidders) (t ∷ truths) (j ∷ judged) round = (round.0, round_front p improve bidders truths judged round.1)

round_count : (p : Prices) (improve : ℤ) (bidders : List Standing) (truths : List (List ℤ)) (judged : List Judged) → IsProxyRound p improve bidders truths judged → length judged ≡ length bidders
round_count p improve [] truths [] round = refl
round_count p improve [] truths (j ∷ judged) round = absurd round
round_count p improve (b ∷ bidders) [] judged round = absurd round
round_count p improve (b ∷ bidders) (t ∷ truths) [] round = absurd round
round_count p improve (b ∷ bidders) (t ∷ truths) (j ∷ judged) round = omega (arith, round_count p improve bidders truths judged round.1)

submit_next : (s : State) (c : Certificate) (judged : List Judged) (x : Submission) (n : ℕ)
    → next (to_line n (resting_at c judged s)) (line.submit x) ≡ Some (to_line (suc n) (record s { place = at_verdict x; judged = judged }))
submit_next s c [] x n = refl
submit_next s c (j ∷ judged) x n = refl

verdict_next : (s : State) (judged : List Judged) (x : Submission) (v : Verdict) (n : ℕ)
    → next (to_line n (record s { place = at_verdict x; judged = judged })) (line.verdict v) ≡ Some (to_line (suc n) (record s { place = at_round; judged = judged ++ record { submission = x; verdict = v } ∷ [] }))
verdict_next s judged x v n = refl

abbrev standings_at : State → List Standing
standings_at s = standings (exchange_at s) s.bounds s.offered

judged_submit : (s : State) (c : Certificate) (truths : List (List ℤ)) (earlier later : List Judged) (n : ℕ) → IsProxyFront s.prices (settings_at s).improve (standings_at s) truths (earlier ++ later)
    → SubmitsProxies (to_line n (resting_at c earlier s)) truths (flat_map judged_records later)
judged_submit s c truths earlier [] n front = tt
judged_submit s c truths earlier (j ∷ later) n front =
    submits_then (to_line n (resting_at c earlier s)) (to_line (suc n) (record s { place = at_verdict j.submission; judged = earlier })) truths (line.submit j.submission) (line.verdict j.verdict ∷ flat_map judged_records later)
    (bid_at s.prices (settings_at s).improve (standings_at s) truths earlier later j front, tt) (submit_next s c earlier j.submission n)
    (submits_then (to_line (suc n) (record s { place = at_verdict j.submission; judged = earlier })) (to_line (suc (suc n)) (record s { place = at_round; judged = earlier ++ j ∷ [] })) truths (line.verdict j.verdict) (flat_map judged_records later)
    (tt, tt) (verdict_next s earlier j.submission j.verdict (suc n))
    (subst (λ (p : Place). SubmitsProxies (to_line (suc (suc n)) (record s { place = p; judged = earlier ++ j ∷ [] })) truths (flat_map judged_records later)) (rests c earlier j)
    (judged_submit s c truths (earlier ++ j ∷ []) later (suc (suc n))
    (subst (λ (js : List Judged). IsProxyFront s.prices (settings_at s).improve (standings_at s) truths js) (sym (append_assoc earlier (j ∷ []) later)) front))))

-- ---- a settlement that goes on

-- from its first record to the end of its prices
opening_carries : (s start : State) (g : Going) → TakesTo start (line.settle s.number) (go_to (at_group Final) (settling s)) → 0 < length (trees_at s) → closes (settings_at s) s.number g.settlement.regret ≡ false
    → IsShownGoing (exchange_at s) s.bounds g
    → Carries start (line.settle s.number ∷ regret_group_records s.version (goods_at s) g.settlement ++ opening_in s.version (goods_at s) g) (resting_at g.balance [] (with_going g s))
opening_carries s start g settles some open_session is =
    let one : State = with_settlement g.settlement (settling s) in
    let two : State = record one { offered = g.provisional.sets } in
    let settle_records : List Record = line.settle s.number ∷ regret_group_records s.version (goods_at s) g.settlement in
    let provisional : List Record = group_records s.version (goods_at s) (line.provisional g.provisional.value) g.provisional in
    let prices : List Record = line.prices g.prices ∷ line.accuracy g.violation g.accuracy.den ∷ map row_record g.accuracy.rows in
    let balance : List Record = line.balance g.balance.den ∷ map row_record g.balance.rows in
    carries_join start (go_to (at_group Provisional) one) (go_to (at_balance_rows g.balance.den g.balance.rows) (with_going g s)) settle_records (opening_in s.version (goods_at s) g)
    (regret_stated s start g.settlement false open_session settles some is.settlement)
    (carries_join (go_to (at_group Provisional) one) (go_to (at_accuracy_rows g.accuracy.den g.accuracy.rows) (with_going g s)) (go_to (at_balance_rows g.balance.den g.balance.rows) (with_going g s)) (provisional ++ prices) balance
    (carries_join (go_to (at_group Provisional) one) (go_to at_prices two) (go_to (at_accuracy_rows g.accuracy.den g.accuracy.rows) (with_going g s)) provisional prices
    (group_carries one Provisional g.provisional refl some is.provisional)
    (prices_carry two g is.pricing))
    (balance_carries two g is.pricing))

-- the first record of a settlement, and quiet ones
settle_submits : (start : State) (truths : List (List ℤ)) (number n : ℕ) (rest : List Record) → HasWholeRound start number → AreQuiet rest → SubmitsProxies (to_line n start) truths (line.settle number ∷ rest)
settle_submits start truths zero n rest whole quiet = ((tt, tt), λ after e. quiet_submits after truths rest quiet)
settle_submits start truths (suc number) n rest whole quiet = ((tt, whole), λ after e. quiet_submits after truths rest quiet)

going_submits : (s start : State) (truths : List (List ℤ)) (g : Going) (n : ℕ) → TakesTo start (line.settle s.number) (go_to (at_group Final) (settling s)) → 0 < length (trees_at s) → closes (settings_at s) s.number g.settlement.regret ≡ false
    → IsShownGoing (exchange_at s) s.bounds g → HasWholeRound start s.number → IsProxyFront g.prices (settings_at s).improve (standings (exchange_at s) s.bounds g.provisional.sets) truths g.judged
    → SubmitsProxies (to_line n start) truths (going_in s.version (goods_at s) s.number g)
going_submits s start truths g n settles some open_session is whole front =
    let opened = opening_carries s start g settles some open_session is in
    let (m, l) = opened.leads n in
    submits_join (to_line n start) (to_line m (resting_at g.balance [] (with_going g s))) truths (line.settle s.number ∷ regret_group_records s.version (goods_at s) g.settlement ++ opening_in s.version (goods_at s) g) (flat_map judged_records g.judged)
    (settle_submits start truths s.number n (regret_group_records s.version (goods_at s) g.settlement ++ opening_in s.version (goods_at s) g) whole
    (quiet_join (regret_group_records s.version (goods_at s) g.settlement) (opening_in s.version (goods_at s) g) (quiet_regret s.version (goods_at s) g.settlement) (quiet_opening s.version (goods_at s) g)))
    (leads_ordered (to_line n start) (to_line m (resting_at g.balance [] (with_going g s))) (line.settle s.number ∷ regret_group_records s.version (goods_at s) g.settlement ++ opening_in s.version (goods_at s) g) l)
    (judged_submit (with_going g s) g.balance truths [] g.judged m front)

-- ---- settlement after settlement

abbrev behind : Going → State → State
behind g s = next_settlement (record (with_going g s) { judged = g.judged })

next_count : (bidders : List Standing) (judged : List Judged) → length (next_bounds bidders judged) ≡ length bidders
next_count bidders judged = length-map bidders _

goings_submit : (going : List Going) (rest : List Record) (s start : State) (truths : List (List ℤ)) (n : ℕ) → TakesTo start (line.settle s.number) (go_to (at_group Final) (settling s)) → 0 < length (trees_at s) → HasWholeRound start s.number
    → length s.bounds ≡ length (exchange_at s).bidders → AreShownGoing (exchange_at s) s.number s.bounds going → IsProxyFrom (exchange_at s) truths s.bounds going
    → IsRest s.version (exchange_at s) truths (s.number + length going) (bounds_after_rounds (exchange_at s) s.bounds going) rest
    → SubmitsProxies (to_line n start) truths (goings_in s.version (goods_at s) s.number going ++ rest)
goings_submit [] rest s start truths n settles some whole count shown proxies is = by (s.number + 0) (omega arith) rest is
  where
    by : (number : ℕ) → number ≡ s.number → (rest : List Record) → IsRest s.version (exchange_at s) truths number s.bounds rest → SubmitsProxies (to_line n start) truths rest
    by number e rest nothing = tt
    by number e rest (begins rest' quiet) = settle_submits start truths number n rest' (subst (λ (k : ℕ). HasWholeRound start k) (sym e) whole) quiet
    by number e rest (goes_on g open_session shows front) =
        subst (λ (k : ℕ). SubmitsProxies (to_line n start) truths (going_in s.version (goods_at s) k g)) (sym e)
        (going_submits s start truths g n settles some (subst (λ (k : ℕ). closes (settings_at s) k g.settlement.regret ≡ false) e open_session) shows whole front)
goings_submit (g ∷ later) rest s start truths n settles some whole count shown proxies is =
    let front = round_front g.prices (settings_at s).improve (standings (exchange_at s) s.bounds g.provisional.sets) truths g.judged proxies.0 in
    let (m, l) = (going_carries s start g settles some shown.0 shown.1).leads n in
    let standing : length (standings (exchange_at s) s.bounds g.provisional.sets) ≡ length (exchange_at s).bidders =
    standings_count (exchange_at s).bidders s.bounds g.provisional.sets count (shown.1.provisional.feasible.same_length ∙ length-map (exchange_at s).bidders _) in
    let rounds : length g.judged ≡ length (trees_at s) =
    round_count g.prices (settings_at s).improve (standings (exchange_at s) s.bounds g.provisional.sets) truths g.judged proxies.0 ∙ standing ∙ sym (length-map (exchange_at s).bidders _) in
    subst (λ (rs : List Record). SubmitsProxies (to_line n start) truths rs) (sym (append_assoc (going_in s.version (goods_at s) s.number g) (goings_in s.version (goods_at s) (suc s.number) later) rest))
    (submits_join (to_line n start) (to_line m (resting_at g.balance g.judged (with_going g s))) truths (going_in s.version (goods_at s) s.number g) (goings_in s.version (goods_at s) (suc s.number) later ++ rest)
    (going_submits s start truths g n settles some shown.0 shown.1 whole front)
    (leads_ordered (to_line n start) (to_line m (resting_at g.balance g.judged (with_going g s))) (going_in s.version (goods_at s) s.number g) l)
    (goings_submit later rest (behind g s) (resting_at g.balance g.judged (with_going g s)) truths m (settle_takes (with_going g s) g.balance g.judged shown.1.pricing.balance) some rounds
    (next_count (standings (exchange_at s) s.bounds g.provisional.sets) g.judged ∙ standing) shown.2 proxies.1
    (subst (λ (k : ℕ). IsRest s.version (exchange_at s) truths k (bounds_after_rounds (exchange_at s) (bounds_after_round (exchange_at s) s.bounds g) later) rest) (omega arith) is)))

pub run_submits_proxies : RunSubmitsProxies
run_submits_proxies v ex truths going rest lawful shown proxies is =
    let section = section_carries described_are_taken v session_kind ex lawful in
    let (m, l) = section.leads 2 in
    subst (λ (rs : List Record). SubmitsProxies (begun v session_kind) truths rs) (sym (append_assoc (section_records ex) (goings_in v (length (exact_of ex)) 0 going) rest))
    (submits_join (begun v session_kind) (to_line m (section_state v session_kind 2 (section_of ex))) truths (section_records ex) (goings_in v (length (exact_of ex)) 0 going ++ rest)
    (quiet_submits (begun v session_kind) truths (section_records ex) (quiet_section ex))
    (leads_ordered (begun v session_kind) (to_line m (section_state v session_kind 2 (section_of ex))) (section_records ex) l)
    (goings_submit going rest (exchange_state v session_kind 2 ex) (section_state v session_kind 2 (section_of ex)) truths m (first_settle_takes v ex lawful) (some_trees ex lawful) tt (length-map ex.bidders _) shown proxies
    (subst (λ (k : ℕ). IsRest v ex truths k (bounds_after_rounds ex (opening_bounds ex) going) rest) (omega arith) is)))

-- ---- a whole session

settlements_split : (v : Version) (goods number : ℕ) (going : List Going) (c : Closed) → settlements_in v goods number going c ≡ goings_in v goods number going ++ (line.settle (number + length going) ∷ closed_rest v goods c)
settlements_split v goods number [] c = closed_is v goods number c ∙ ap (λ (k : ℕ). line.settle k ∷ closed_rest v goods c) (omega arith)
settlements_split v goods number (g ∷ later) c =
    ap (λ (rs : List Record). going_in v goods number g ++ rs) (settlements_split v goods (suc number) later c)
    ∙ ap (λ (k : ℕ). going_in v goods number g ++ (goings_in v goods (suc number) later ++ (line.settle k ∷ closed_rest v goods c))) (omega arith)
    ∙ sym (append_assoc (going_in v goods number g) (goings_in v goods (suc number) later) (line.settle (number + length (g ∷ later)) ∷ closed_rest v goods c))

shown_goings : (ex : Exchange) (number : ℕ) (bounds : List Bounds) (going : List Going) (c : Closed) → AreShownFrom ex number bounds going c → AreShownGoing ex number bounds going
shown_goings ex number bounds [] c shown = tt
shown_goings ex number bounds (g ∷ later) c shown = (shown.0, shown.1, shown_goings ex (suc number) (bounds_after_round ex bounds g) later c shown.2)

pub session_submits_proxies : SessionSubmitsProxies
session_submits_proxies v s truths is proxies =
    let goods : ℕ = length (exact_of s.exchange) in
    let e : section_records s.exchange ++ goings_in v (length (exact_of s.exchange)) 0 s.going ++ (line.settle (length s.going) ∷ closed_rest v (length (exact_of s.exchange)) s.closed)
    ≡ section_records s.exchange ++ settlements_in v (length (exact_of s.exchange)) 0 s.going s.closed =
    append_assoc (section_records s.exchange) (goings_in v (length (exact_of s.exchange)) 0 s.going) (line.settle (length s.going) ∷ closed_rest v (length (exact_of s.exchange)) s.closed)
    ∙ ap (λ (k : ℕ). section_records s.exchange ++ (goings_in v (length (exact_of s.exchange)) 0 s.going ++ (line.settle k ∷ closed_rest v (length (exact_of s.exchange)) s.closed))) (omega arith)
    ∙ ap (λ (rs : List Record). section_records s.exchange ++ rs) (sym (settlements_split v (length (exact_of s.exchange)) 0 s.going s.closed)) in
    subst (λ (rs : List Record). SubmitsProxies (begun v session_kind) truths rs) e
    (run_submits_proxies v s.exchange truths s.going (line.settle (length s.going) ∷ closed_rest v (length (exact_of s.exchange)) s.closed) is.exchange (shown_goings s.exchange 0 (opening_bounds s.exchange) s.going s.closed is.settlements) proxies
    (begins (closed_rest v (length (exact_of s.exchange)) s.closed) (quiet_closed v (length (exact_of s.exchange)) s.closed)))
