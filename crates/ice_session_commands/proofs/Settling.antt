-- A settlement ends the session or opens a round: what it puts, group by group, is put behind what
-- was put before.
use Rattle.std.proofs.Common.{◌≡◌, ◌∙◌, ◌<◌, ◌≤◌, ◌-◌, ◌^◌, ℕ, ℤ, suc, false, List, [], ◌∷◌, ◌++◌, length, map, refl, sym, ap, subst, arith, append_assoc, length-append, Option, None, Some, inl, inr}
use Rattle.std.specs.Prelude.{IsTrue, ◌+◌}
use Rattle.std.specs.Global.{Vec}
use Rattle.std.specs.List.{AllByRecursion}
use Rattle.std.proofs.lemmas.List.{append-nil}
use Rattle.ice_edge.specs.Puts.{Takes, FailsIn}
use Rattle.ice_edge.specs.declared.status.Status.{Status}
use Rattle.ice_edge.specs.declared.status.Status.TheVariants.{Done, Spent, Limit, WriteFault, NoMemory}
use Rattle.ice_edge.specs.Taken.{Taken}
use Rattle.ice_defs.specs.Exchange.{Exchange, exact_of, names_of, trees_of}
use Rattle.ice_defs.specs.Session.{Going, closes}
use Rattle.ice_terms.specs.Terms.{ArePriceTerms}
use Rattle.ice_journal.specs.Records.{Record, version_2, closed_end}
use Rattle.ice_journal.specs.Records as line
use Rattle.ice_journal.specs.Ranges.{IsRecord}
use Rattle.ice_journal.specs.Journal.{bytes_of}
use Rattle.ice_journal_laws.specs.Written.{payment_record, row_record}
use Rattle.ice_journal_laws.specs.ShowingSession.{going_in, without_group_records}
use Rattle.ice_journal_laws.specs.Positions.{Position, before_without, position_records}
use Rattle.ice_search.specs.Results.{proved_spent}
use Rattle.ice_search.specs.declared.results.Found.{Found}
use Rattle.ice_search.specs.declared.results.Spent as results
use Rattle.ice_regret.specs.declared.lead.Regret.{Regret}
use Rattle.ice_price.specs.declared.ends.PriceLimit.{PriceLimit}
use Rattle.ice_vickrey.specs.Marginals.{proved_without}
use Rattle.ice_vickrey.specs.declared.marginal.Marginal.{Marginal}
use Rattle.ice_round.specs.SessionAt.{SessionAt, RoundAt}
use Rattle.ice_round.specs.Settling.{SettlingAt, IsSettling, IsChargedFor, IsOfferOf, IsOpenedBy}
use Rattle.ice_round.specs.Held.{Held, settling_with, HasFound, HasOneMore, IsChargeOf}
use Rattle.ice_round.specs.declared.offer.Offer.{Offer}
use Rattle.ice_settled.specs.Shown.{settlement_of, discounts_of, payments_of, charges_of, closing_with, going_of}
use Rattle.ice_round.specs.Shown.{IsClosing, IsOpening}
use Rattle.ice_round.specs.Ends.{IsHaltOf, IsSpentAt, IsLimitAt, at_pricing}
use Rattle.ice_round.proofs.GoingOn.{more_rounds}
use Rattle.ice_settled.specs.declared.settled.Closing.{Closing}
use Rattle.ice_settled.specs.declared.settled.Charged.{Charged}
use Rattle.ice_settled.specs.declared.settled.Opening.{Opening}
use Rattle.ice_settled.specs.declared.settled.Halt.{Halt}
use Rattle.ice_write_session.specs.Records.{regret_records, provisional_records, one_without, without_records, pricing_records, charged_records, opening_records, closing_records, halted_records, halt_records, spent_records, limit_records}
use Rattle.ice_write_session.specs.Writable.{IsWritable, IsWritableCharged, IsWritableLimit}
use Rattle.ice_write_session.proofs.Puts.{takes_then}
use Rattle.ice_write_session.proofs.Halts.{halts_before_final, halts_before_rival, halts_before_without, halts_before_provisional, halts_at_prices}
use Rattle.ice_write_session.proofs.Lawful.{settling_are_records, offered_are_records, opening_are_records, closing_are_records, charged_may, halt_are_records, spent_are_records, limit_are_records}
use Rattle.ice_session_laws.specs.Running.{IsRunning, IsInRound}
use Rattle.ice_session_laws.specs.Stops.{ComesTo, to_final, to_rival, to_provisional, to_without}
use Rattle.ice_session_laws.specs.Laws.{PricesSought, sought_records}
use Rattle.ice_session_laws.specs.FoundLaws.{settling_records, offered_records}
use Rattle.ice_session_laws.specs.Written.{run_records, IsLimitedJournal}
use Rattle.ice_session_laws.proofs.Rounds.{round_begins, opening_going}
use Rattle.ice_session_laws.proofs.Ends.{spends, is_limited, opening_may_be_written, closing_may_be_written, spent_may_be_written}
use Rattle.ice_session_laws.proofs.Spending.{stopped}
use Rattle.ice_session_laws.proofs.Limiting.{limited}
use Rattle.ice_session_laws.proofs.Finding.{settling_may_be_written, offer_may_be_written, settling_is_unended, offer_is_unended}
use Rattle.ice_session_laws.proofs.BranchSessions.{spent_session_has_few}
use Rattle.ice_command_parts.specs.Parts.{IsSaid}
use Rattle.ice_command_parts.specs.Journals.{WritesBehind}
use Rattle.ice_command_parts.proofs.Writing.{nothing_more, failed_piece, piece_then}
use Rattle.ice_session_commands.specs.SessionEnds.{EndsSettling, without_memory, finds, offers, opens, limits}
use Rattle.ice_session_commands.specs.SessionEnds as settling
use Rattle.ice_session_commands.specs.SessionSteps.{OpensRound, EndsHere, EndsBehind, EndsOffering, OpensBehind, OpensOffering}
use Rattle.ice_session_commands.proofs.Putting.{said_piece}

-- ---- a settlement ends the session

module _ (s : SessionAt) where
  pub ends_without_memory : (old : Taken) → EndsHere s old old NoMemory
  ends_without_memory old going run = nothing_more (run_records s.exchange going) (EndsSettling going s) old NoMemory without_memory

  halted_at : (number : ℕ) (best : Option Found) (regret : Option Regret) (provisional : Option Found) (ms : List Marginal) (at : Position) → ComesTo best regret provisional ms at
      → halted_records s.exchange number best regret ms provisional ≡ position_records version_2 (length (exact_of s.exchange)) number at
  halted_at number _ _ _ _ _ to_final = halts_before_final s.exchange number
  halted_at number _ _ _ _ _ (to_rival {best = best}) = halts_before_rival s.exchange number best
  halted_at number _ _ _ _ _ (to_provisional {best = best} {regret = regret}) = halts_before_provisional s.exchange number best regret
  halted_at number _ _ _ _ _ (to_without {best = best} {regret = regret} {done = done}) = halts_before_without s.exchange number best regret done

  halt_is : (h : Halt) → IsHaltOf s h → halt_records h ≡ halted_records s.exchange s.number h.best h.regret h.marginals.items h.provisional
  halt_is h is =
      ap (λ (x : Exchange). halted_records x h.number h.best h.regret h.marginals.items h.provisional) is.exchange
      ∙ ap (λ (k : ℕ). halted_records s.exchange k h.best h.regret h.marginals.items h.provisional) is.number

  pub halt_at : (h : Halt) → IsHaltOf s h → (at : Position) → ComesTo h.best h.regret h.provisional h.marginals.items at → halt_records h ≡ position_records version_2 (length (exact_of s.exchange)) s.number at
  halt_at h is at comes = halt_is h is ∙ halted_at s.number h.best h.regret h.provisional h.marginals.items at comes

  pub ends_spent : (h : Halt) (spent : results.Spent) (old new : Taken) (result : Status) → IsHaltOf s h → IsSpentAt s h.best h.regret h.provisional h.marginals.items spent → IsRecord (line.spent spent.value spent.bound)
      → IsSaid (bytes_of (halt_records h ++ spent_records h.exchange spent)) Spent old new result → EndsHere s old new result
  ends_spent h spent old new result halt is fits said going run =
      let (at, comes, writes) = spends going s h.best h.regret h.provisional h.marginals.items spent run is in
      let may = spent_may_be_written going s h spent run halt is in
      let same : halt_records h ≡ position_records version_2 (length (exact_of s.exchange)) s.number at = halt_at h halt at comes in
      let position : List Record = position_records version_2 (length (exact_of s.exchange)) s.number at in
      let whole : IsSaid (bytes_of (position ++ spent_records s.exchange spent)) Spent old new result =
      subst (λ (rs : List Record). IsSaid (bytes_of (rs ++ spent_records s.exchange spent)) Spent old new result) same
      (subst (λ (x : Exchange). IsSaid (bytes_of (halt_records h ++ spent_records x spent)) Spent old new result) halt.exchange said) in
      let ended = writes (subst (AllByRecursion IsRecord) same (halt_are_records h may.0)) (spent_are_records s.exchange spent may.1 fits) in
      said_piece (run_records s.exchange going) (EndsSettling going s) (position ++ spent_records s.exchange spent) Spent result old new
      (subst (λ (rs : List Record). EndsSettling going s rs Spent) (append_assoc (run_records s.exchange going) position (spent_records s.exchange spent))
      (settling.spends at spent (spent_session_has_few going s h.best h.regret h.provisional h.marginals.items spent run is) ended)) whole

  prices_at : (best : Option Found) (regret : Option Regret) (provisional : Option Found) (ms : List Marginal) (sought : PricesSought best regret provisional ms)
      → halted_records s.exchange s.number best regret ms provisional ≡ sought_records s sought.final sought.amount sought.offered
  prices_at best regret provisional ms sought =
      ap (λ (o : Option Found). halted_records s.exchange s.number o regret ms provisional) sought.best_is
      ∙ ap (λ (o : Option Regret). halted_records s.exchange s.number (Some sought.final) o ms provisional) sought.regret_is
      ∙ ap (λ (o : Option Found). halted_records s.exchange s.number (Some sought.final) (Some sought.amount) ms o) sought.provisional_is
      ∙ ap (λ (xs : List Marginal). halted_records s.exchange s.number (Some sought.final) (Some sought.amount) xs (Some sought.offered)) sought.none
      ∙ halts_at_prices s.exchange s.number sought.final sought.amount sought.offered

  pub halt_at_prices : (h : Halt) → IsHaltOf s h → (sought : PricesSought h.best h.regret h.provisional h.marginals.items) → halt_records h ≡ sought_records s sought.final sought.amount sought.offered
  halt_at_prices h is sought = halt_is h is ∙ prices_at h.best h.regret h.provisional h.marginals.items sought

  -- such a settlement doesn't close, so a round was to follow
  rounds_left : (best : Option Found) (regret : Option Regret) (provisional : Option Found) (ms : List Marginal) (limit : PriceLimit) → s.number ≤ s.exchange.settings.rounds → IsLimitAt s best regret provisional ms limit → 0 < s.exchange.settings.rounds
  rounds_left _ _ _ _ _ few (at_pricing {regret = regret} left goes_on settlement found count ends) = omega (arith, more_rounds s.exchange.settings s.number regret.amount goes_on few)

-- ---- a settlement has found its final sets and regret

-- their records are put, or the sink fails in them
module _ (x : SettlingAt) (found : IsSettling x) (none : x.done ≡ []) where
  abbrev ex : Exchange
  ex = x.session.exchange

  settled_first : settling_records x ≡ line.settle x.session.number ∷ regret_records x.session.exchange x.best x.regret
  settled_first =
      ap (λ (ms : List Marginal). (line.settle x.session.number ∷ regret_records x.session.exchange x.best x.regret) ++ without_records x.session.exchange ms) none
      ∙ append-nil (line.settle x.session.number ∷ regret_records ex x.best x.regret)

  pub settling_fails : (old new : Taken) → FailsIn (bytes_of (line.settle x.session.number ∷ regret_records x.session.exchange x.best x.regret)) old new → EndsHere x.session old new WriteFault
  settling_fails old new fails going run =
      failed_piece (run_records ex going) (EndsSettling going x.session) (settling_records x) NoMemory old new
      (finds (before_without (settlement_of x.best x.regret) (map proved_without x.done)) (settling_is_unended going x run found (inr none)))
      (subst (λ (rs : List Record). FailsIn (bytes_of rs) old new) (sym settled_first) fails)

  pub settling_ends : (old mid new : Taken) (result : Status) → Takes (bytes_of (line.settle x.session.number ∷ regret_records x.session.exchange x.best x.regret)) old mid → EndsBehind x mid new result → EndsHere x.session old new result
  settling_ends old mid new result takes ends going run =
      piece_then (run_records ex going) (EndsSettling going x.session) (settling_records x) result old mid new (subst (λ (rs : List Record). Takes (bytes_of rs) old mid) (sym settled_first) takes) (ends going run)

  pub settling_opens : (r : RoundAt) (old mid new : Taken) → Takes (bytes_of (line.settle x.session.number ∷ regret_records x.session.exchange x.best x.regret)) old mid → OpensBehind x r mid new → OpensRound x.session r old new
  settling_opens r old mid new takes opened going run =
      let (last, rest, round, empty, same, more) = opened going run in (
        last,
        round,
        empty,
        subst (λ (rs : List Record). Takes (bytes_of rs) old new) (sym same)
            (takes_then (settling_records x) rest (subst (λ (rs : List Record). Takes (bytes_of rs) old mid) (sym settled_first) takes) more),
      )

-- ---- it closes the session

module _ (x : SettlingAt) (found : IsSettling x) (closing : IsTrue (closes x.session.exchange.settings x.session.number x.regret.amount)) where
  pub closing_without_memory : (old : Taken) → EndsBehind x old old NoMemory
  closing_without_memory old going run =
      nothing_more (run_records x.session.exchange going ++ settling_records x) (EndsSettling going x.session) old NoMemory
      (finds (before_without (settlement_of x.best x.regret) (map proved_without x.done)) (settling_is_unended going x run found (inl closing)))

-- a search without a bidder, or for the provisional sets, is spent
spent_comes : (x : SettlingAt) (spent : results.Spent) (at : Position) → ComesTo (Some x.best) (Some x.regret) None x.done at → settling_records x ≡ position_records version_2 (length (exact_of x.session.exchange)) x.session.number at
spent_comes x spent at comes = by x.done at comes
  where
    by : (ms : List Marginal) (at : Position) → ComesTo (Some x.best) (Some x.regret) None ms at
        → position_records version_2 (length (exact_of x.session.exchange)) x.session.number (before_without (settlement_of x.best x.regret) (map proved_without ms)) ≡ position_records version_2 (length (exact_of x.session.exchange)) x.session.number at
    by _ _ to_provisional = append-nil (line.settle x.session.number ∷ regret_records x.session.exchange x.best x.regret)
    by _ _ to_without = refl

pub spent_may : (going : List Going) (x : SettlingAt) (spent : results.Spent) → IsRunning going x.session → IsSpentAt x.session (Some x.best) (Some x.regret) None x.done spent → IsWritable (length (exact_of x.session.exchange)) (proved_spent spent)
spent_may going x spent run is = (stopped x.session run.exchange run.lawful (Some x.best) (Some x.regret) None x.done spent is).stops.may_be_written

pub ends_spent_behind : (x : SettlingAt) (spent : results.Spent) (old new : Taken) (result : Status) → IsSettling x → IsSpentAt x.session (Some x.best) (Some x.regret) None x.done spent → IsRecord (line.spent spent.value spent.bound)
    → IsSaid (bytes_of (spent_records x.session.exchange spent)) Spent old new result → EndsBehind x old new result
ends_spent_behind x spent old new result found is fits said going run =
    let s = x.session in
    let (at, comes, writes) = spends going s (Some x.best) (Some x.regret) None x.done spent run is in
    let same = spent_comes x spent at comes in
    let may = settling_may_be_written going x run found in
    let records : AllByRecursion IsRecord (settling_records x) = settling_are_records s.exchange s.number x.best x.regret x.done may.number may.settlement may.withouts in
    let ended = writes (subst (AllByRecursion IsRecord) same records) (spent_are_records s.exchange spent (spent_may going x spent run is) fits) in
    said_piece (run_records s.exchange going ++ settling_records x) (EndsSettling going s) (spent_records s.exchange spent) Spent result old new
    (subst (λ (rs : List Record). EndsSettling going s (run_records s.exchange going ++ rs ++ spent_records s.exchange spent) Spent) (sym same)
    (settling.spends at spent (spent_session_has_few going s (Some x.best) (Some x.regret) None x.done spent run is) ended)) said

-- ---- one more bidder is done

withouts_from : (ex : Exchange) (m : Marginal) (b : ℕ) (ms : List Marginal) → without_group_records version_2 (length (exact_of ex)) b (map proved_without (ms ++ m ∷ []))
    ≡ without_group_records version_2 (length (exact_of ex)) b (map proved_without ms) ++ one_without ex (b + length ms) m
withouts_from ex m b [] = append-nil (one_without ex b m) ∙ ap (λ (k : ℕ). one_without ex k m) (omega arith)
withouts_from ex m b (x ∷ ms) =
    let later : List Record = without_group_records version_2 (length (exact_of ex)) (suc b) (map proved_without ms) in
    ap (λ (rs : List Record). one_without ex b x ++ rs) (withouts_from ex m (suc b) ms ∙ ap (λ (k : ℕ). later ++ one_without ex k m) (omega arith))
    ∙ sym (append_assoc (one_without ex b x) later (one_without ex (b + suc (length ms)) m))

withouts_more : (ex : Exchange) (ms : List Marginal) (m : Marginal) → without_records ex (ms ++ m ∷ []) ≡ without_records ex ms ++ one_without ex (length ms) m
withouts_more ex ms m = withouts_from ex m 0 ms ∙ ap (λ (k : ℕ). without_records ex ms ++ one_without ex k m) (omega arith)

one_more_records : (x y : SettlingAt) (m : Marginal) → y ≡ record x { done = x.done ++ m ∷ [] } → settling_records y ≡ settling_records x ++ one_without x.session.exchange (length x.done) m
one_more_records x y m e =
    ap (λ (z : SettlingAt). settling_records z) e
    ∙ ap (λ (rs : List Record). (line.settle x.session.number ∷ regret_records x.session.exchange x.best x.regret) ++ rs) (withouts_more x.session.exchange x.done m)
    ∙ sym (append_assoc (line.settle x.session.number ∷ regret_records x.session.exchange x.best x.regret) (without_records x.session.exchange x.done) (one_without x.session.exchange (length x.done) m))

module _ (h next : Held) (done : List Marginal) (m : Marginal) (more : HasOneMore h m next) where
  abbrev before : SettlingAt
  before = settling_with h done

  abbrev behind : SettlingAt
  behind = settling_with next (done ++ m ∷ [])

  same_session : next.session ≡ h.session
  same_session = ap (λ (z : Held). z.session) more.then

  same_regret_amount : next.regret ≡ h.regret
  same_regret_amount = ap (λ (z : Held). z.regret) more.then

  grown : settling_with next (done ++ m ∷ []) ≡ record (settling_with h done) { done = done ++ m ∷ [] }
  grown = ap (λ (z : Held). settling_with z (done ++ m ∷ [])) more.then

  pub still_running : (going : List Going) → IsRunning going h.session → IsRunning going next.session
  still_running going run = subst (IsRunning going) (sym same_session) run

  pub still_closes : IsTrue (closes h.session.exchange.settings h.session.number h.regret.amount) → IsTrue (closes next.session.exchange.settings next.session.number next.regret.amount)
  still_closes closing =
      subst (λ (s : SessionAt). IsTrue (closes s.exchange.settings s.number next.regret.amount)) (sym same_session)
      (subst (λ (r : Regret). IsTrue (closes h.session.exchange.settings h.session.number r.amount)) (sym same_regret_amount) closing)

  -- a bidder less is left
  pub fewer : length h.discounts < length (trees_of h.session.exchange) → length (trees_of next.session.exchange) - length next.discounts < length (trees_of h.session.exchange) - length h.discounts
  fewer left =
      subst (λ (s : SessionAt). length (trees_of s.exchange) - length next.discounts < length (trees_of h.session.exchange) - length h.discounts) (sym same_session)
      (omega (arith, left, ap (λ (z : Held). length z.discounts) more.then, length-append h.discounts (m.discount ∷ [])))

  pub one_more_ends : (old mid new : Taken) (result : Status) → Takes (bytes_of (one_without next.session.exchange (length done) m)) old mid → EndsBehind (settling_with next (done ++ m ∷ [])) mid new result → EndsBehind (settling_with h done) old new result
  one_more_ends old mid new result takes ends going run =
      let ex : Exchange = h.session.exchange in
      let group : List Record = one_without ex (length done) m in
      let ended = subst (λ (s : SessionAt). WritesBehind (run_records s.exchange going ++ settling_records behind) (EndsSettling going s) mid new result) same_session (ends going (still_running going run)) in
      piece_then (run_records ex going ++ settling_records before) (EndsSettling going h.session) group result old mid new
      (subst (λ (s : SessionAt). Takes (bytes_of (one_without s.exchange (length done) m)) old mid) same_session takes)
      (subst (λ (rs : List Record). WritesBehind rs (EndsSettling going h.session) mid new result)
      (ap (λ (rs : List Record). run_records ex going ++ rs) (one_more_records before behind m grown) ∙ sym (append_assoc (run_records ex going) (settling_records before) group)) ended)

  pub one_more_fails : (old new : Taken) → IsSettling (settling_with next (done ++ m ∷ [])) → IsTrue (closes next.session.exchange.settings next.session.number next.regret.amount) → FailsIn (bytes_of (one_without next.session.exchange (length done) m)) old new
      → EndsBehind (settling_with h done) old new WriteFault
  one_more_fails old new found closing fails going run =
      let ex : Exchange = h.session.exchange in
      let group : List Record = one_without ex (length done) m in
      let unended = settling_is_unended going behind (still_running going run) found (inl closing) in
      let ends : EndsSettling going next.session (run_records next.session.exchange going ++ settling_records behind) NoMemory = finds (before_without (settlement_of next.best next.regret) (map proved_without behind.done)) unended in
      failed_piece (run_records ex going ++ settling_records before) (EndsSettling going h.session) group NoMemory old new
      (subst (λ (rs : List Record). EndsSettling going h.session rs NoMemory)
      (ap (λ (rs : List Record). run_records ex going ++ rs) (one_more_records before behind m grown) ∙ sym (append_assoc (run_records ex going) (settling_records before) group))
      (subst (λ (s : SessionAt). EndsSettling going s (run_records s.exchange going ++ settling_records behind) NoMemory) same_session ends))
      (subst (λ (s : SessionAt). FailsIn (bytes_of (one_without s.exchange (length done) m)) old new) same_session fails)

pub last_writable : (goods : ℕ) (ms : List Marginal) (m : Marginal) → AllByRecursion (λ x. IsWritable goods (proved_without x)) (ms ++ m ∷ []) → IsWritable goods (proved_without m)
last_writable goods [] m all = all.0
last_writable goods (x ∷ ms) m all = last_writable goods ms m all.1

-- ---- the payments

-- a list with the place of another one
abbrev listed : {X : Type 0} → Vec X → (ms : List Marginal) → length ms < 2 ^ 63 → Vec Marginal
listed v ms small = record { ptr = v.ptr; len = length ms; cap = length ms; alloc = v.alloc; items = ms; ok = (refl, omega arith); small = small }

settled_as : (x : SettlingAt) (c : Closing) → IsClosing x.session c → IsChargedFor x c
    → (line.settle c.number ∷ regret_records c.exchange c.best c.regret) ++ without_records c.exchange c.marginals.items ≡ settling_records x
settled_as x c is made =
    ap (λ (y : Exchange). (line.settle c.number ∷ regret_records y c.best c.regret) ++ without_records y c.marginals.items) is.exchange
    ∙ ap (λ (k : ℕ). (line.settle k ∷ regret_records x.session.exchange c.best c.regret) ++ without_records x.session.exchange c.marginals.items) is.number
    ∙ ap (λ (f : Found). (line.settle x.session.number ∷ regret_records x.session.exchange f c.regret) ++ without_records x.session.exchange c.marginals.items) made.best
    ∙ ap (λ (r : Regret). (line.settle x.session.number ∷ regret_records x.session.exchange x.best r) ++ without_records x.session.exchange c.marginals.items) made.regret
    ∙ ap (λ (ms : List Marginal). (line.settle x.session.number ∷ regret_records x.session.exchange x.best x.regret) ++ without_records x.session.exchange ms) made.marginals

charged_is : (x : SettlingAt) (c : Charged) (ms : Vec Marginal) → c.vickreys.items ≡ discounts_of ms.items → IsClosing x.session (closing_with c ms) → IsChargedFor x (closing_with c ms)
    → closing_records (closing_with c ms) ≡ settling_records x ++ charged_records c
charged_is x c ms same is made =
    let all : Closing = closing_with c ms in
    let front : List Record = (line.settle c.number ∷ regret_records c.exchange c.best c.regret) ++ without_records c.exchange ms.items in
    let charges : List Record = line.threshold c.payments.cut c.payments.surplus ∷ map payment_record (charges_of c) in
    let last : List Record = line.end closed_end ∷ [] in
    ap (λ (vs : List ℤ). (front ++ (line.threshold c.payments.cut c.payments.surplus ∷ map payment_record (payments_of (names_of c.exchange) vs c.payments.discounts.items c.payments.payments.items))) ++ last) (sym same)
    ∙ ap (λ (rs : List Record). (rs ++ charges) ++ last) (settled_as x all is made)
    ∙ append_assoc (settling_records x) charges last

-- they are at most 40
is_few : (going : List Going) (h : Held) (done : List Marginal) → IsRunning going h.session → HasFound h done → length done < 2 ^ 63
is_few going h done run has = omega (arith, (settling_may_be_written going (settling_with h done) run has.found).withouts.few)

pub charged_may_be_written : (going : List Going) (h : Held) (c : Charged) → IsRunning going h.session → (done : List Marginal) → HasFound h done → IsChargeOf h c → IsWritableCharged c
charged_may_be_written going h c run done has is =
    let ms = listed c.bounds done (is_few going h done run has) in
    charged_may c ms (is.vickreys ∙ has.discounts) (closing_may_be_written going h.session (closing_with c ms) run (is.closing ms has))

pub ends_charged : (h : Held) (done : List Marginal) (c : Charged) (old new : Taken) (result : Status) → HasFound h done → IsChargeOf h c → IsSaid (bytes_of (charged_records c)) Done old new result → EndsBehind (settling_with h done) old new result
ends_charged h done c old new result has is said going run =
    let s = h.session in
    let x = settling_with h done in
    let ms = listed c.bounds done (is_few going h done run has) in
    let closing = is.closing ms has in
    said_piece (run_records s.exchange going ++ settling_records x) (EndsSettling going s) (charged_records c) Done result old new
    (subst (λ (rs : List Record). EndsSettling going s rs Done)
    (ap (λ (rs : List Record). run_records s.exchange going ++ rs) (charged_is x c ms (is.vickreys ∙ has.discounts) closing (is.made ms has)) ∙ sym (append_assoc (run_records s.exchange going) (settling_records x) (charged_records c)))
    (settling.closes (closing_with c ms) closing (closing_are_records (closing_with c ms) (closing_may_be_written going s (closing_with c ms) run closing)))) said

-- ---- it goes on

same_found : (a b : Found) → Some a ≡ Some b → a ≡ b
same_found a b e = cc

same_regret : (a b : Regret) → Some a ≡ Some b → a ≡ b
same_regret a b e = cc

opening_parts : (ex : Exchange) (o : Opening) → opening_records ex o ≡ ((line.settle o.number ∷ regret_records ex o.best o.regret) ++ provisional_records ex o.provisional) ++ pricing_records o.pricing
opening_parts ex o =
    let first : List Record = line.settle o.number ∷ regret_records ex o.best o.regret in
    let offered : List Record = provisional_records ex o.provisional in
    let accurate : List Record = line.prices o.pricing.prices ∷ line.accuracy o.pricing.delta o.pricing.accuracy.den ∷ map row_record o.pricing.accuracy.rows in
    let balanced : List Record = line.balance o.pricing.balance.den ∷ map row_record o.pricing.balance.rows in
    ap (λ (rs : List Record). first ++ rs) (append_assoc offered accurate balanced) ∙ sym (append_assoc first offered (pricing_records o.pricing))

module _ (x : SettlingAt) (found : IsSettling x) (goes_on : closes x.session.exchange.settings x.session.number x.regret.amount ≡ false) (none : x.done ≡ []) where
  pub going_without_memory : (old : Taken) → EndsBehind x old old NoMemory
  going_without_memory old going run =
      nothing_more (run_records x.session.exchange going ++ settling_records x) (EndsSettling going x.session) old NoMemory
      (finds (before_without (settlement_of x.best x.regret) (map proved_without x.done)) (settling_is_unended going x run found (inr none)))

  module _ (o : Offer) (offer : IsOfferOf x o) where
    abbrev s : SessionAt
    s = x.session

    abbrev group : List Record
    group = provisional_records x.session.exchange o.provisional

    -- the provisional sets are put behind the final sets and their regret
    offered_parts : offered_records x o ≡ settling_records x ++ provisional_records x.session.exchange o.provisional
    offered_parts =
        ap (λ (rs : List Record). rs ++ group) (sym (append-nil (line.settle s.number ∷ regret_records s.exchange x.best x.regret)))
        ∙ ap (λ (ms : List Marginal). ((line.settle s.number ∷ regret_records s.exchange x.best x.regret) ++ without_records s.exchange ms) ++ group) (sym none)

    offered_behind : (going : List Going) → run_records x.session.exchange going ++ offered_records x o ≡ run_records x.session.exchange going ++ settling_records x ++ provisional_records x.session.exchange o.provisional
    offered_behind going = ap (λ (rs : List Record). run_records s.exchange going ++ rs) offered_parts ∙ sym (append_assoc (run_records s.exchange going) (settling_records x) group)

    pub offered_fails : (old new : Taken) → FailsIn (bytes_of (provisional_records x.session.exchange o.provisional)) old new → EndsBehind x old new WriteFault
    offered_fails old new fails going run =
        failed_piece (run_records s.exchange going ++ settling_records x) (EndsSettling going s) group NoMemory old new
        (subst (λ (rs : List Record). EndsSettling going s rs NoMemory) (offered_behind going) (offers x.best x.regret o.provisional (offer_is_unended going x o run found goes_on offer))) fails

    pub offered_ends : (old mid new : Taken) (result : Status) → Takes (bytes_of (provisional_records x.session.exchange o.provisional)) old mid → EndsOffering x o mid new result → EndsBehind x old new result
    offered_ends old mid new result takes ends going run =
        piece_then (run_records s.exchange going ++ settling_records x) (EndsSettling going s) group result old mid new takes
        (subst (λ (rs : List Record). WritesBehind rs (EndsSettling going s) mid new result) (offered_behind going) (ends going run))

    pub offered_opens : (r : RoundAt) (old mid new : Taken) → Takes (bytes_of (provisional_records x.session.exchange o.provisional)) old mid → OpensOffering x o r mid new → OpensBehind x r old new
    offered_opens r old mid new takes opened going run =
        let (last, rest, round, empty, same, more) = opened going run in (
          last,
          group ++ rest,
          round,
          empty,
          same ∙ ap (λ (rs : List Record). rs ++ rest) offered_parts ∙ append_assoc (settling_records x) group rest,
          takes_then group rest takes more,
        )

    -- ---- the prices

    pub offered_without_memory : (old : Taken) → EndsOffering x o old old NoMemory
    offered_without_memory old going run =
        nothing_more (run_records s.exchange going ++ offered_records x o) (EndsSettling going s) old NoMemory
        (offers x.best x.regret o.provisional (offer_is_unended going x o run found goes_on offer))

    pub limit_may : (going : List Going) (limit : PriceLimit) → IsRunning going x.session → IsLimitAt x.session (Some x.best) (Some x.regret) (Some o.provisional) x.done limit → IsWritableLimit limit
    limit_may going limit run is = (limited s run.exchange run.lawful (Some x.best) (Some x.regret) (Some o.provisional) x.done limit is).limits.may_be_written

    pub ends_limited : (limit : PriceLimit) (old new : Taken) (result : Status) → IsLimitAt x.session (Some x.best) (Some x.regret) (Some o.provisional) x.done limit → IsSaid (bytes_of (limit_records limit)) Limit old new result
        → EndsOffering x o old new result
    ends_limited limit old new result is said going run =
        let may = settling_may_be_written going x run found in
        let records : AllByRecursion IsRecord (offered_records x o) = offered_are_records s.exchange s.number x.best x.regret o.provisional may.number may.settlement (offer_may_be_written going x o run offer) in
        said_piece (run_records s.exchange going ++ offered_records x o) (EndsSettling going s) (limit_records limit) Limit result old new
        (limits x.best x.regret o.provisional limit (rounds_left s (Some x.best) (Some x.regret) (Some o.provisional) x.done limit run.few is)
        (limited_journal going run limit is records (limit_are_records limit (limit_may going limit run is)))) said
      where
        limited_journal : (going : List Going) → IsRunning going x.session → (limit : PriceLimit) → IsLimitAt x.session (Some x.best) (Some x.regret) (Some o.provisional) x.done limit
            → AllByRecursion IsRecord (offered_records x o) → AllByRecursion IsRecord (limit_records limit) → IsLimitedJournal (run_records x.session.exchange going ++ offered_records x o ++ limit_records limit)
        limited_journal going run limit is before behind =
            let (sought, writes) = is_limited going s (Some x.best) (Some x.regret) (Some o.provisional) x.done limit run is in
            let same : sought_records s sought.final sought.amount sought.offered ≡ offered_records x o =
            ap (λ (f : Found). sought_records s f sought.amount sought.offered) (sym (same_found x.best sought.final sought.best_is))
            ∙ ap (λ (r : Regret). sought_records s x.best r sought.offered) (sym (same_regret x.regret sought.amount sought.regret_is))
            ∙ ap (λ (f : Found). sought_records s x.best x.regret f) (sym (same_found o.provisional sought.offered sought.provisional_is)) in
            subst (λ (rs : List Record). IsLimitedJournal (run_records x.session.exchange going ++ rs ++ limit_records limit)) same
            (writes (subst (AllByRecursion IsRecord) (sym same) before) behind)

    module _ (r : RoundAt) (opening : Opening) (is : IsOpening x.session r opening) (made : IsOpenedBy x o opening) (terms : ArePriceTerms opening.pricing.prices) (fits : IsRecord (line.prices opening.pricing.prices)) where
      opening_are : (going : List Going) → IsRunning going x.session → AllByRecursion IsRecord (opening_records x.session.exchange opening)
      opening_are going run = opening_are_records s.exchange opening (opening_may_be_written going s r opening run is terms) fits

      begins : (going : List Going) → IsRunning going x.session → IsInRound going x.session (going_of opening []) r
      begins going run = round_begins going s r opening run is (opening_are going run)

      priced_parts : going_in version_2 (length (exact_of x.session.exchange)) x.session.number (going_of opening []) ≡ offered_records x o ++ pricing_records opening.pricing
      priced_parts =
          sym (opening_going s.exchange s.number opening is.number)
          ∙ opening_parts s.exchange opening
          ∙ ap (λ (k : ℕ). ((line.settle k ∷ regret_records s.exchange opening.best opening.regret) ++ provisional_records s.exchange opening.provisional) ++ pricing_records opening.pricing) is.number
          ∙ ap (λ (f : Found). ((line.settle s.number ∷ regret_records s.exchange f opening.regret) ++ provisional_records s.exchange opening.provisional) ++ pricing_records opening.pricing) made.best
          ∙ ap (λ (g : Regret). ((line.settle s.number ∷ regret_records s.exchange x.best g) ++ provisional_records s.exchange opening.provisional) ++ pricing_records opening.pricing) made.regret
          ∙ ap (λ (f : Found). ((line.settle s.number ∷ regret_records s.exchange x.best x.regret) ++ provisional_records s.exchange f) ++ pricing_records opening.pricing) made.provisional

      pub pricing_opens : (old new : Taken) → Takes (bytes_of (pricing_records opening.pricing)) old new → OpensOffering x o r old new
      pricing_opens old new takes going run = (going_of opening [], pricing_records opening.pricing, begins going run, refl, priced_parts, takes)

      pub pricing_fails : (old new : Taken) → FailsIn (bytes_of (pricing_records opening.pricing)) old new → EndsOffering x o old new WriteFault
      pricing_fails old new fails going run =
          failed_piece (run_records s.exchange going ++ offered_records x o) (EndsSettling going s) (pricing_records opening.pricing) NoMemory old new
          (subst (λ (rs : List Record). EndsSettling going s rs NoMemory)
          (ap (λ (rs : List Record). run_records s.exchange going ++ rs) priced_parts ∙ sym (append_assoc (run_records s.exchange going) (offered_records x o) (pricing_records opening.pricing)))
          (opens (going_of opening []) r (begins going run) refl)) fails
