-- What is gathered of a session, record by record, is the statement of its bidder.
use Rattle.std.proofs.Common.{◌≡◌, ℕ, zero, suc, ◌+◌, ◌<◌, Bool, true, false, List, [], ◌∷◌, ◌++◌, map, length, get_or, ℤ, refl, sym, ap, subst, ◌∙◌, arith, append_assoc}
use Rattle.std.specs.Prelude.{◌==◌, if◌then◌else◌, Some, slice_get}
use Rattle.std.specs.List.{AllByRecursion, IsDistinct, flat_map}
use Rattle.std.specs.Str.{bytes_eq}
use Rattle.std.proofs.lemmas.Bool.{eq-eqb, ne_eqb, true≢false}
use Rattle.std.proofs.lemmas.Option.{none-some, slice_get_within}
use Rattle.std.proofs.lemmas.List.{append-nil, map-append, length-map}
use Rattle.std.proofs.lemmas.List.Concat.{flat_map-cons}
use Rattle.ice_defs.proofs.Naming.{bytes_eq-same}
use Rattle.ice_round_laws.proofs.Names.{false_at_others}
use Rattle.ice_defs.specs.declared.NodeKind.{NodeKind}
use Rattle.ice_defs.specs.declared.NodeKind.TheVariants.{Choose, Buy, Sell}
use Rattle.ice_defs.specs.Sum.{numbers_below}
use Rattle.ice_defs.specs.Tree.{kind_of, children_of}
use Rattle.ice_defs.specs.Set.{NodeSet, weight_of}
use Rattle.ice_defs.specs.Steps.{Step}
use Rattle.ice_defs.specs.Bound.{Multipliers}
use Rattle.ice_defs.specs.Rows.{Row}
use Rattle.ice_defs.specs.Round.{Judged, of_name}
use Rattle.ice_defs.specs.Exchange.{Good, Bidder, Exchange, trees_of, exact_of, names_of, opening_bounds}
use Rattle.ice_defs.specs.Trade.{Assignment, IsFeasible}
use Rattle.ice_defs.specs.Bounds.{Bounds}
use Rattle.ice_headline_laws.specs.Right.{bounds_after_round, IsRightFrom, IsRight}
use Rattle.ice_defs.specs.Session.{Proved, Settlement, Going, Payment, Closed, Session}
use Rattle.ice_journal.specs.Records.{Record, version_2, closed_end}
use Rattle.ice_journal.specs.Records as line
use Rattle.ice_journal.specs.Nodes.{node_record}
use Rattle.ice_journal.specs.Plain.{after_changes, all_zero, goods_in, plain_records, plain}
use Rattle.ice_section.specs.Section.{good_record}
use Rattle.ice_section.specs.Described.{node_records, bidder_records, section_records}
use Rattle.ice_journal_laws.specs.Written.{proved_records, regret_records, row_record, judged_records, opening_records, going_records, without_records, payment_record, closed_records, settlement_records, session_records}
use Rattle.ice_statement_laws.specs.Statement.{public_records, Own, IsOwn, statement_lines, StatementLine, named, shown, kept, offered, ended}
use Rattle.ice_statement_laws.specs.Own.{step_lines, lines_from, own_exchange, own_lines}
use Rattle.ice_statement_laws.specs.Parts.{step_of, part_of}
use Rattle.ice_statement_laws.proofs.Parting.{at_map, at_all}
use Rattle.ice_statement_laws.proofs.Shown.{plain_shown}
use Rattle.ice_statement_laws.proofs.Stating.{lines_are_own}
use Rattle.ice_statement_laws.specs.Texts.{bytes_of_lines}
use Rattle.ice_statement_laws.specs.Laws.{BytesTellJournals, StatementIsOne}
use Rattle.ice_statement_laws.specs.Gathering.{Slot, to_kept, to_offered, nowhere, Gathering, new_gathering, with_bidder, gathering_after, shown_if, lines_at, lines_gathered, gathering_after_all, gathered_lines, GatheredIsStatement, LinesAreOne}

at_map_get : {X Y : Type 0} (f : X → Y) (xs : List X) (i : ℕ) (x : X) → slice_get xs i ≡ Some x → slice_get (map f xs) i ≡ Some (f x)
at_map_get f [] i x e = absurd (none-some x e)
at_map_get f (y ∷ xs) zero x e = let same : y ≡ x = cc in ap (λ (z : _). Some (f z)) same
at_map_get f (y ∷ xs) (suc i) x e = at_map_get f xs i x e

-- ---- lists of records

gathered_more : (g : Gathering) (xs ys : List Record) → lines_gathered g (xs ++ ys) ≡ lines_gathered g xs ++ lines_gathered (gathering_after_all g xs) ys
gathered_more g [] ys = refl
gathered_more g (r ∷ xs) ys = ap (λ (ls : List StatementLine). lines_at g r ++ ls) (gathered_more (gathering_after g r) xs ys) ∙ sym (append_assoc (lines_at g r) (lines_gathered (gathering_after g r) xs) (lines_gathered (gathering_after_all (gathering_after g r) xs) ys))

after_more : (g : Gathering) (xs ys : List Record) → gathering_after_all g (xs ++ ys) ≡ gathering_after_all (gathering_after_all g xs) ys
after_more g [] ys = refl
after_more g (r ∷ xs) ys = after_more (gathering_after g r) xs ys

-- these records add these lines, and lead here
record Adds (g : Gathering) (rs : List Record) (ls : List StatementLine) (h : Gathering) : Type 0 where
  adds : lines_gathered g rs ≡ ls
  leads : gathering_after_all g rs ≡ h

joined : (g h k : Gathering) (xs ys : List Record) (ls ms : List StatementLine) → Adds g xs ls h → Adds h ys ms k → Adds g (xs ++ ys) (ls ++ ms) k
joined g h k xs ys ls ms a b = record {
  adds = gathered_more g xs ys ∙ ap (λ (zs : List StatementLine). zs ++ lines_gathered (gathering_after_all g xs) ys) a.adds ∙ ap (λ (x : Gathering). ls ++ lines_gathered x ys) a.leads ∙ ap (λ (zs : List StatementLine). ls ++ zs) b.adds;
  leads = after_more g xs ys ∙ ap (λ (x : Gathering). gathering_after_all x ys) a.leads ∙ b.leads;
}

-- records that add nothing and change nothing
idle : (g : Gathering) (rs : List Record) → AllByRecursion (λ r. (lines_at g r ≡ []) × (gathering_after g r ≡ g)) rs → Adds g rs [] g
idle g [] all = record { adds = refl; leads = refl }
idle g (r ∷ rs) all =
    let more = idle g rs all.1 in
    record {
      adds = ap (λ (ls : List StatementLine). ls ++ lines_gathered (gathering_after g r) rs) all.0.0 ∙ ap (λ (x : Gathering). lines_gathered x rs) all.0.1 ∙ more.adds;
      leads = ap (λ (x : Gathering). gathering_after_all x rs) all.0.1 ∙ more.leads;
    }

each : {X Y : Type 0} (P : Y → Type 0) (f : X → Y) (xs : List X) → ((x : X) → P (f x)) → AllByRecursion P (map f xs)
each P f [] h = tt
each P f (x ∷ xs) h = (h x, each P f xs h)

-- ---- the section

node_adds : (g : Gathering) (kind : NodeKind) (children : ℕ) (lo hi : ℤ) → (lines_at g (node_record kind children lo hi) ≡ shown_if g.is_own (node_record kind children lo hi)) × (gathering_after g (node_record kind children lo hi) ≡ g)
node_adds g (Choose least most) children lo hi = (refl, refl)
node_adds g (Buy good units) children lo hi = (refl, refl)
node_adds g (Sell good units) children lo hi = (refl, refl)

module _ (kind : ℕ → NodeKind) (children : ℕ → ℕ) (lo hi : ℕ → ℤ) where
  abbrev node : ℕ → Record
  node n = node_record (kind n) (children n) (lo n) (hi n)

  nodes_shown : (g : Gathering) (ns : List ℕ) → g.is_own ≡ true → Adds g (map node ns) (map shown (map node ns)) g
  nodes_shown g [] own = record { adds = refl; leads = refl }
  nodes_shown g (n ∷ ns) own =
      let one = node_adds g (kind n) (children n) (lo n) (hi n) in
      let more = nodes_shown g ns own in
      record {
        adds = ap (λ (ls : List StatementLine). ls ++ lines_gathered (gathering_after g (node n)) (map node ns)) (one.0 ∙ ap (λ (b : Bool). shown_if b (node n)) own)
            ∙ ap (λ (x : Gathering). shown (node n) ∷ lines_gathered x (map node ns)) one.1 ∙ ap (λ (ls : List StatementLine). shown (node n) ∷ ls) more.adds;
        leads = ap (λ (x : Gathering). gathering_after_all x (map node ns)) one.1 ∙ more.leads;
      }

  nodes_hidden : (g : Gathering) (ns : List ℕ) → g.is_own ≡ false → Adds g (map node ns) [] g
  nodes_hidden g ns other = idle g (map node ns) (each (λ r. (lines_at g r ≡ []) × (gathering_after g r ≡ g)) node ns (λ n.
      let one = node_adds g (kind n) (children n) (lo n) (hi n) in (one.0 ∙ ap (λ (b : Bool). shown_if b (node n)) other, one.1)))

-- a bidder that has the name, or another
bidder_shown : (g : Gathering) (b : Bidder) → bytes_eq g.name b.name ≡ true → Adds g (bidder_records b) (map shown (bidder_records b)) (with_bidder g b.name)
bidder_shown g b own =
    let more = nodes_shown (kind_of b.tree) (λ n. length (children_of b.tree n)) (weight_of b.bounds.lo) (weight_of b.bounds.hi) (with_bidder g b.name) (numbers_below (length b.tree)) own in
    record {
      adds = ap (λ (t : Bool). shown_if t (line.bidder b.name b.own) ++ lines_gathered (with_bidder g b.name) (node_records b)) own ∙ ap (λ (ls : List StatementLine). shown (line.bidder b.name b.own) ∷ ls) more.adds;
      leads = more.leads;
    }

bidder_hidden : (g : Gathering) (b : Bidder) → bytes_eq g.name b.name ≡ false → Adds g (bidder_records b) [] (with_bidder g b.name)
bidder_hidden g b other =
    let more = nodes_hidden (kind_of b.tree) (λ n. length (children_of b.tree n)) (weight_of b.bounds.lo) (weight_of b.bounds.hi) (with_bidder g b.name) (numbers_below (length b.tree)) other in
    record {
      adds = ap (λ (t : Bool). shown_if t (line.bidder b.name b.own) ++ lines_gathered (with_bidder g b.name) (node_records b)) other ∙ more.adds;
      leads = more.leads;
    }

-- bidders none of which has the name
record Counts (g h : Gathering) (count number : ℕ) : Type 0 where
  name : h.name ≡ g.name
  bidders : h.bidders ≡ count
  number_is : h.number ≡ number

module _ (name : List ℕ) where
  others_hidden : (g : Gathering) (bidders : List Bidder) → g.name ≡ name → AllByRecursion (λ (other : List ℕ). bytes_eq name other ≡ false) (map (λ (b : Bidder). b.name) bidders)
      → (h : Gathering) × Adds g (flat_map bidder_records bidders) [] h × Counts g h (g.bidders + length bidders) g.number
  others_hidden g [] e all = (g, record { adds = refl; leads = refl }, record { name = refl; bidders = omega arith; number_is = refl })
  others_hidden g (b ∷ bidders) e all =
      let other : bytes_eq g.name b.name ≡ false = ap (λ (n : List ℕ). bytes_eq n b.name) e ∙ all.0 in
      let (h, adds, counts) = others_hidden (with_bidder g b.name) bidders e all.1 in (
        h,
        subst (λ (rs : List Record). Adds g rs [] h) (sym (flat_map-cons bidder_records b bidders)) (joined g (with_bidder g b.name) h (bidder_records b) (flat_map bidder_records bidders) [] [] (bidder_hidden g b other) adds),
        record { name = counts.name; bidders = omega (arith, counts.bidders); number_is = counts.number_is ∙ ap (λ (t : Bool). if t then g.bidders else g.number) other },
      )

  -- the bidder at a place has the name, and no other
  bidders_shown : (g : Gathering) (bidders : List Bidder) (i : ℕ) (bidder : Bidder) → g.name ≡ name → bidder.name ≡ name → slice_get bidders i ≡ Some bidder → IsDistinct bytes_eq (map (λ (b : Bidder). b.name) bidders)
      → (h : Gathering) × Adds g (flat_map bidder_records bidders) (map shown (bidder_records bidder)) h × Counts g h (g.bidders + length bidders) (g.bidders + i)
  unfolding IsDistinct
  bidders_shown g [] i bidder e called is distinct = absurd (none-some bidder is)
  bidders_shown g (b ∷ bidders) zero bidder e called is distinct =
      let same : b ≡ bidder = cc in
      let own_name : b.name ≡ name = ap (λ (x : Bidder). x.name) same ∙ called in
      let own : bytes_eq g.name b.name ≡ true = bytes_eq-same g.name b.name (e ∙ sym own_name) in
      let (h, adds, counts) = others_hidden (with_bidder g b.name) bidders e (subst (λ (n : List ℕ). AllByRecursion (λ (other : List ℕ). bytes_eq n other ≡ false) (map (λ (x : Bidder). x.name) bidders)) own_name distinct.0) in (
        h,
        subst (λ (rs : List Record). Adds g rs (map shown (bidder_records bidder)) h) (sym (flat_map-cons bidder_records b bidders))
            (subst (λ (ls : List StatementLine). Adds g (bidder_records b ++ flat_map bidder_records bidders) ls h) (append-nil (map shown (bidder_records b)) ∙ ap (λ (x : Bidder). map shown (bidder_records x)) same)
            (joined g (with_bidder g b.name) h (bidder_records b) (flat_map bidder_records bidders) (map shown (bidder_records b)) [] (bidder_shown g b own) adds)),
        record { name = counts.name; bidders = omega (arith, counts.bidders); number_is = counts.number_is ∙ ap (λ (t : Bool). if t then g.bidders else g.number) own ∙ omega arith },
      )
  bidders_shown g (b ∷ bidders) (suc i) bidder e called is distinct =
      let apart : bytes_eq b.name bidder.name ≡ false = at_all (λ (other : List ℕ). bytes_eq b.name other ≡ false) (map (λ (x : Bidder). x.name) bidders) i bidder.name (at_map_get (λ (x : Bidder). x.name) bidders i bidder is) distinct.0 in
      let other : bytes_eq g.name b.name ≡ false = false_at_others g.name b.name (λ h. true≢false (sym (bytes_eq-same b.name bidder.name (sym h ∙ e ∙ sym called)) ∙ apart)) in
      let (h, adds, counts) = bidders_shown (with_bidder g b.name) bidders i bidder e called is distinct.1 in (
        h,
        subst (λ (rs : List Record). Adds g rs (map shown (bidder_records bidder)) h) (sym (flat_map-cons bidder_records b bidders))
            (joined g (with_bidder g b.name) h (bidder_records b) (flat_map bidder_records bidders) [] (map shown (bidder_records bidder)) (bidder_hidden g b other) adds),
        record { name = counts.name; bidders = omega (arith, counts.bidders); number_is = counts.number_is ∙ omega arith },
      )

good_adds : (g : Gathering) (x : Good) → (lines_at g (good_record x) ≡ shown (good_record x) ∷ []) × (gathering_after g (good_record x) ≡ g)
good_adds g x = by x.exact
  where
    by : (t : Bool) → (lines_at g (if t then line.exact x.name else line.good x.name) ≡ shown (if t then line.exact x.name else line.good x.name) ∷ []) × (gathering_after g (if t then line.exact x.name else line.good x.name) ≡ g)
    by true = (refl, refl)
    by false = (refl, refl)

goods_shown : (g : Gathering) (goods : List Good) → Adds g (map good_record goods) (map shown (map good_record goods)) g
goods_shown g [] = record { adds = refl; leads = refl }
goods_shown g (x ∷ goods) =
    let one = good_adds g x in
    let more = goods_shown g goods in
    record {
      adds = ap (λ (ls : List StatementLine). ls ++ lines_gathered (gathering_after g (good_record x)) (map good_record goods)) one.0
          ∙ ap (λ (y : Gathering). shown (good_record x) ∷ lines_gathered y (map good_record goods)) one.1 ∙ ap (λ (ls : List StatementLine). shown (good_record x) ∷ ls) more.adds;
      leads = ap (λ (y : Gathering). gathering_after_all y (map good_record goods)) one.1 ∙ more.leads;
    }

-- ---- groups

-- how many sets came, and the one at a number, if it came
abbrev count : ℕ → List NodeSet → ℕ
count j [] = j
count j (x ∷ xs) = count (suc j) xs

abbrev pick : ℕ → ℕ → List NodeSet → NodeSet → NodeSet
pick n j [] old = old
pick n j (x ∷ xs) old = pick n (suc j) xs (if j == n then x else old)

pick_past : (n j : ℕ) (xs : List NodeSet) (old : NodeSet) → n < j → pick n j xs old ≡ old
pick_past n j [] old l = refl
pick_past n j (x ∷ xs) old l = ap (λ (t : Bool). pick n (suc j) xs (if t then x else old)) (ne_eqb j n (λ e. omega (arith, l, e))) ∙ pick_past n (suc j) xs old (omega (arith, l))

pick_at : (n j i : ℕ) (xs : List NodeSet) (old : NodeSet) → n ≡ j + i → i < length xs → pick n j xs old ≡ get_or xs i []
pick_at n j i [] old e l = absurd (omega (arith, l))
pick_at n j zero (x ∷ xs) old e l = ap (λ (t : Bool). pick n (suc j) xs (if t then x else old)) (eq-eqb j n (omega (arith, e))) ∙ pick_past n (suc j) xs x (omega (arith, e))
pick_at n j (suc i) (x ∷ xs) old e l = pick_at n (suc j) i xs (if j == n then x else old) (omega (arith, e)) (omega (arith, l))

sets_kept : (g : Gathering) (j : ℕ) (xs : List NodeSet) → Adds (record g { slot = to_kept; sets = j }) (map line.set xs) [] (record g { slot = to_kept; sets = count j xs; kept = pick g.number j xs g.kept })
sets_kept g j [] = record { adds = refl; leads = refl }
sets_kept g j (x ∷ xs) =
    let more = sets_kept (record g { kept = if j == g.number then x else g.kept }) (suc j) xs in
    record { adds = more.adds; leads = more.leads }

sets_offered : (g : Gathering) (j : ℕ) (xs : List NodeSet) → Adds (record g { slot = to_offered; sets = j }) (map line.set xs) [] (record g { slot = to_offered; sets = count j xs; offered = pick g.number j xs g.offered })
sets_offered g j [] = record { adds = refl; leads = refl }
sets_offered g j (x ∷ xs) =
    let more = sets_offered (record g { offered = if j == g.number then x else g.offered }) (suc j) xs in
    record { adds = more.adds; leads = more.leads }

sets_nowhere : (g : Gathering) (j : ℕ) (xs : List NodeSet) → Adds (record g { slot = nowhere; sets = j }) (map line.set xs) [] (record g { slot = nowhere; sets = count j xs })
sets_nowhere g j [] = record { adds = refl; leads = refl }
sets_nowhere g j (x ∷ xs) =
    let more = sets_nowhere g (suc j) xs in
    record { adds = more.adds; leads = more.leads }

log_idle : (g : Gathering) (log : List Step) → Adds g (map line.step log) [] g
log_idle g log = idle g (map line.step log) (each (λ r. (lines_at g r ≡ []) × (gathering_after g r ≡ g)) line.step log (λ x. (refl, refl)))

final_adds : (g : Gathering) (v : ℤ) (p : Proved) → Adds g (proved_records (line.final v) p) [] (record g { slot = to_kept; sets = count 0 p.sets; kept = pick g.number 0 p.sets g.kept })
final_adds g v p =
    let h : Gathering = record g { slot = to_kept; sets = count 0 p.sets; kept = pick g.number 0 p.sets g.kept } in
    let sets = sets_kept g 0 p.sets in
    joined g h h (line.final v ∷ map line.set p.sets) (map line.step p.log) [] [] (record { adds = sets.adds; leads = sets.leads }) (log_idle h p.log)

rival_adds : (g : Gathering) (v : ℤ) (p : Proved) → Adds g (proved_records (line.rival v) p) [] (record g { slot = nowhere; sets = count 0 p.sets })
rival_adds g v p =
    let h : Gathering = record g { slot = nowhere; sets = count 0 p.sets } in
    let sets = sets_nowhere g 0 p.sets in
    joined g h h (line.rival v ∷ map line.set p.sets) (map line.step p.log) [] [] (record { adds = sets.adds; leads = sets.leads }) (log_idle h p.log)

without_adds : (g : Gathering) (b : ℕ) (v : ℤ) (p : Proved) → Adds g (proved_records (line.without b v) p) [] (record g { slot = nowhere; sets = count 0 p.sets })
without_adds g b v p =
    let h : Gathering = record g { slot = nowhere; sets = count 0 p.sets } in
    let sets = sets_nowhere g 0 p.sets in
    joined g h h (line.without b v ∷ map line.set p.sets) (map line.step p.log) [] [] (record { adds = sets.adds; leads = sets.leads }) (log_idle h p.log)

provisional_adds : (g : Gathering) (v : ℤ) (p : Proved) → Adds g (proved_records (line.provisional v) p) [] (record g { slot = to_offered; sets = count 0 p.sets; offered = pick g.number 0 p.sets g.offered })
provisional_adds g v p =
    let h : Gathering = record g { slot = to_offered; sets = count 0 p.sets; offered = pick g.number 0 p.sets g.offered } in
    let sets = sets_offered g 0 p.sets in
    joined g h h (line.provisional v ∷ map line.set p.sets) (map line.step p.log) [] [] (record { adds = sets.adds; leads = sets.leads }) (log_idle h p.log)

-- ---- settlements

-- behind a settlement's regret
abbrev settled : Gathering → Settlement → Gathering
settled g x = record g { slot = nowhere; sets = count 0 x.rival.sets; kept = pick g.number 0 x.final.sets g.kept }

regret_adds : (g : Gathering) (x : Settlement) → Adds g (regret_records x) (shown (line.regret x.regret) ∷ kept (pick g.number 0 x.final.sets g.kept) ∷ []) (settled g x)
regret_adds g x =
    let f : Gathering = record g { slot = to_kept; sets = count 0 x.final.sets; kept = pick g.number 0 x.final.sets g.kept } in
    joined g (settled g x) (settled g x) (proved_records (line.final x.final.value) x.final ++ proved_records (line.rival x.rival.value) x.rival) (line.regret x.regret ∷ []) []
    (shown (line.regret x.regret) ∷ kept (pick g.number 0 x.final.sets g.kept) ∷ [])
    (joined g f (settled g x) (proved_records (line.final x.final.value) x.final) (proved_records (line.rival x.rival.value) x.rival) [] [] (final_adds g x.final.value x.final) (rival_adds f x.rival.value x.rival))
    (record { adds = refl; leads = refl })

rows_idle : (g : Gathering) (rows : List Row) → Adds g (map row_record rows) [] g
rows_idle g rows = idle g (map row_record rows) (each (λ r. (lines_at g r ≡ []) × (gathering_after g r ≡ g)) row_record rows (λ x. (refl, refl)))

abbrev opened : Gathering → Going → Gathering
opened g x = record g { slot = to_offered; sets = count 0 x.provisional.sets; offered = pick g.number 0 x.provisional.sets g.offered }

opening_adds : (g : Gathering) (x : Going) → Adds g (opening_records x) (offered (pick g.number 0 x.provisional.sets g.offered) ∷ shown (line.prices x.prices) ∷ []) (opened g x)
opening_adds g x =
    joined g (opened g x) (opened g x) (proved_records (line.provisional x.provisional.value) x.provisional ++ line.prices x.prices ∷ line.accuracy x.violation x.accuracy.den ∷ map row_record x.accuracy.rows)
    (line.balance x.balance.den ∷ map row_record x.balance.rows) (offered (pick g.number 0 x.provisional.sets g.offered) ∷ shown (line.prices x.prices) ∷ []) []
    (joined g (opened g x) (opened g x) (proved_records (line.provisional x.provisional.value) x.provisional) (line.prices x.prices ∷ line.accuracy x.violation x.accuracy.den ∷ map row_record x.accuracy.rows) []
    (offered (pick g.number 0 x.provisional.sets g.offered) ∷ shown (line.prices x.prices) ∷ []) (provisional_adds g x.provisional.value x.provisional) (priced (rows_idle (opened g x) x.accuracy.rows)))
    (balanced (rows_idle (opened g x) x.balance.rows))
  where
    priced : Adds (opened g x) (map row_record x.accuracy.rows) [] (opened g x)
        → Adds (opened g x) (line.prices x.prices ∷ line.accuracy x.violation x.accuracy.den ∷ map row_record x.accuracy.rows) (offered (pick g.number 0 x.provisional.sets g.offered) ∷ shown (line.prices x.prices) ∷ []) (opened g x)
    priced a = record { adds = ap (λ (ls : List StatementLine). offered (pick g.number 0 x.provisional.sets g.offered) ∷ shown (line.prices x.prices) ∷ ls) a.adds; leads = a.leads }

    balanced : Adds (opened g x) (map row_record x.balance.rows) [] (opened g x) → Adds (opened g x) (line.balance x.balance.den ∷ map row_record x.balance.rows) [] (opened g x)
    balanced a = record { adds = a.adds; leads = a.leads }

-- the round
judged_adds : (g : Gathering) (judged : List Judged) → (own : Bool) × Adds g (flat_map judged_records judged) (map shown (flat_map judged_records (of_name g.name judged))) (record g { is_own = own })
judged_adds g [] = (g.is_own, record { adds = refl; leads = refl })
judged_adds g (j ∷ judged) = by (bytes_eq g.name j.submission.name) refl (judged_adds (record g { is_own = bytes_eq g.name j.submission.name }) judged)
  where
    by : (t : Bool) → bytes_eq g.name j.submission.name ≡ t
        → (own : Bool) × Adds (record g { is_own = bytes_eq g.name j.submission.name }) (flat_map judged_records judged) (map shown (flat_map judged_records (of_name g.name judged))) (record g { is_own = own })
        → (own : Bool) × Adds g (flat_map judged_records (j ∷ judged)) (map shown (flat_map judged_records (if t then j ∷ of_name g.name judged else of_name g.name judged))) (record g { is_own = own })
    by true e (own, more) = (
      own,
      subst (λ (rs : List Record). Adds g rs (map shown (flat_map judged_records (j ∷ of_name g.name judged))) (record g { is_own = own })) (sym (flat_map-cons judged_records j judged)) (record {
        adds =
            ap (λ (t : Bool). shown_if t (line.submit j.submission) ++ (shown_if t (line.verdict j.verdict) ++ lines_gathered (record g { is_own = bytes_eq g.name j.submission.name }) (flat_map judged_records judged))) e
            ∙ ap (λ (ls : List StatementLine). shown (line.submit j.submission) ∷ shown (line.verdict j.verdict) ∷ ls) more.adds ∙ ap (map shown) (sym (flat_map-cons judged_records j (of_name g.name judged)));
        leads = more.leads;
      }),
    )
    by false e (own, more) = (
      own,
      subst (λ (rs : List Record). Adds g rs (map shown (flat_map judged_records (of_name g.name judged))) (record g { is_own = own })) (sym (flat_map-cons judged_records j judged)) (record {
        adds =
            ap (λ (t : Bool). shown_if t (line.submit j.submission) ++ (shown_if t (line.verdict j.verdict) ++ lines_gathered (record g { is_own = bytes_eq g.name j.submission.name }) (flat_map judged_records judged))) e ∙ more.adds;
        leads = more.leads;
      }),
    )

-- the name and the number stay
record Stays (g h : Gathering) : Type 0 where
  name : h.name ≡ g.name
  number : h.number ≡ g.number

going_adds : (g : Gathering) (number : ℕ) (x : Going) → g.number < length x.settlement.final.sets → g.number < length x.provisional.sets
    → (h : Gathering) × Adds g (going_records number x) (shown (line.settle number) ∷ step_lines (step_of g.number g.name x)) h × Stays g h
going_adds g number x here there =
    let s : Gathering = settled g x.settlement in
    let o : Gathering = opened s x in
    let (own, judged) = judged_adds o x.judged in
    let regret = regret_adds g x.settlement in
    let opening = opening_adds s x in (
      record o { is_own = own },
      subst (λ (ls : List StatementLine). Adds g (going_records number x) ls (record o { is_own = own })) (lines_are s)
          (joined g o (record o { is_own = own }) ((line.settle number ∷ regret_records x.settlement) ++ opening_records x) (flat_map judged_records x.judged)
          (shown (line.settle number) ∷ shown (line.regret x.settlement.regret) ∷ kept (pick g.number 0 x.settlement.final.sets g.kept) ∷ offered (pick g.number 0 x.provisional.sets s.offered) ∷ shown (line.prices x.prices) ∷ [])
          (map shown (flat_map judged_records (of_name g.name x.judged)))
          (joined g s o (line.settle number ∷ regret_records x.settlement) (opening_records x) (shown (line.settle number) ∷ shown (line.regret x.settlement.regret) ∷ kept (pick g.number 0 x.settlement.final.sets g.kept) ∷ [])
          (offered (pick g.number 0 x.provisional.sets s.offered) ∷ shown (line.prices x.prices) ∷ []) (begun s regret) opening)
          judged),
      record { name = refl; number = refl },
    )
  where
    begun : (s : Gathering) → Adds g (regret_records x.settlement) (shown (line.regret x.settlement.regret) ∷ kept (pick g.number 0 x.settlement.final.sets g.kept) ∷ []) s
        → Adds g (line.settle number ∷ regret_records x.settlement) (shown (line.settle number) ∷ shown (line.regret x.settlement.regret) ∷ kept (pick g.number 0 x.settlement.final.sets g.kept) ∷ []) s
    begun s a = record { adds = ap (λ (ls : List StatementLine). shown (line.settle number) ∷ ls) a.adds; leads = a.leads }

    lines_are : (s : Gathering)
        → (shown (line.settle number) ∷ shown (line.regret x.settlement.regret) ∷ kept (pick g.number 0 x.settlement.final.sets g.kept) ∷ offered (pick g.number 0 x.provisional.sets s.offered) ∷ shown (line.prices x.prices) ∷ [])
        ++ map shown (flat_map judged_records (of_name g.name x.judged)) ≡ shown (line.settle number) ∷ step_lines (step_of g.number g.name x)
    lines_are s =
        ap (λ (k : NodeSet). shown (line.settle number) ∷ shown (line.regret x.settlement.regret) ∷ kept k ∷ offered (pick g.number 0 x.provisional.sets s.offered) ∷ shown (line.prices x.prices) ∷ map shown (flat_map judged_records (of_name g.name x.judged)))
        (pick_at g.number 0 g.number x.settlement.final.sets g.kept (omega arith) here)
        ∙ ap (λ (k : NodeSet). shown (line.settle number) ∷ shown (line.regret x.settlement.regret) ∷ kept (get_or x.settlement.final.sets g.number []) ∷ offered k ∷ shown (line.prices x.prices) ∷ map shown (flat_map judged_records (of_name g.name x.judged)))
        (pick_at g.number 0 g.number x.provisional.sets s.offered (omega arith) there)

-- ---- the closing

withouts_add : (g : Gathering) (b : ℕ) (ps : List Proved) → (slot : Slot) × (sets : ℕ) × Adds g (without_records b ps) [] (record g { slot = slot; sets = sets })
withouts_add g b [] = (g.slot, g.sets, record { adds = refl; leads = refl })
withouts_add g b (p ∷ later) =
    let h : Gathering = record g { slot = nowhere; sets = count 0 p.sets } in
    let (slot, sets, more) = withouts_add h (suc b) later in
    (slot, sets, joined g h (record g { slot = slot; sets = sets }) (proved_records (line.without b p.value) p) (without_records (suc b) later) [] [] (without_adds g b p.value p) more)

payments_hidden : (g : Gathering) (payments : List Payment) → AllByRecursion (λ (other : List ℕ). bytes_eq g.name other ≡ false) (map (λ (p : Payment). p.name) payments) → Adds g (map payment_record payments) [] g
payments_hidden g [] all = record { adds = refl; leads = refl }
payments_hidden g (p ∷ payments) all =
    let more = payments_hidden g payments all.1 in
    record { adds = ap (λ (t : Bool). shown_if t (payment_record p) ++ lines_gathered g (map payment_record payments)) all.0 ∙ more.adds; leads = more.leads }

payments_shown : (g : Gathering) (payments : List Payment) (i : ℕ) (p : Payment) → p.name ≡ g.name → slice_get payments i ≡ Some p → IsDistinct bytes_eq (map (λ (q : Payment). q.name) payments)
    → Adds g (map payment_record payments) (shown (payment_record p) ∷ []) g
unfolding IsDistinct
payments_shown g [] i p e is distinct = absurd (none-some p is)
payments_shown g (q ∷ payments) zero p e is distinct =
    let same : q ≡ p = cc in
    let name_is : q.name ≡ g.name = ap (λ (x : Payment). x.name) same ∙ e in
    let more = payments_hidden g payments (subst (λ (n : List ℕ). AllByRecursion (λ (other : List ℕ). bytes_eq n other ≡ false) (map (λ (x : Payment). x.name) payments)) name_is distinct.0) in
    record {
      adds = ap (λ (t : Bool). shown_if t (payment_record q) ++ lines_gathered g (map payment_record payments)) (bytes_eq-same g.name q.name (sym name_is)) ∙ ap (λ (ls : List StatementLine). shown (payment_record q) ∷ ls) more.adds
          ∙ ap (λ (x : Payment). shown (payment_record x) ∷ []) same;
      leads = more.leads;
    }
payments_shown g (q ∷ payments) (suc i) p e is distinct =
    let apart : bytes_eq q.name p.name ≡ false = at_all (λ (other : List ℕ). bytes_eq q.name other ≡ false) (map (λ (x : Payment). x.name) payments) i p.name (at_map_get (λ (x : Payment). x.name) payments i p is) distinct.0 in
    let other : bytes_eq g.name q.name ≡ false = false_at_others g.name q.name (λ h. true≢false (sym (bytes_eq-same q.name p.name (sym h ∙ sym e)) ∙ apart)) in
    let more = payments_shown g payments i p e is distinct.1 in
    record { adds = ap (λ (t : Bool). shown_if t (payment_record q) ++ lines_gathered g (map payment_record payments)) other ∙ more.adds; leads = more.leads }

closed_adds : (g : Gathering) (number : ℕ) (c : Closed) (p : Payment) → g.number < length c.settlement.final.sets → p.name ≡ g.name → slice_get c.payments g.number ≡ Some p → IsDistinct bytes_eq (map (λ (q : Payment). q.name) c.payments)
    → (h : Gathering) × Adds g (closed_records number c)
    (shown (line.settle number) ∷ shown (line.regret c.settlement.regret) ∷ kept (get_or c.settlement.final.sets g.number []) ∷ shown (line.threshold c.cut c.surplus) ∷ shown (payment_record p) ∷ []) h
closed_adds g number c p here e is distinct =
    let s : Gathering = settled g c.settlement in
    let regret = regret_adds g c.settlement in
    let (slot, sets, withouts) = withouts_add s 0 c.withouts in
    let w : Gathering = record s { slot = slot; sets = sets } in
    let payments = payments_shown w c.payments g.number p e is distinct in (
      w,
      subst (λ (k : NodeSet). Adds g (closed_records number c) (shown (line.settle number) ∷ shown (line.regret c.settlement.regret) ∷ kept k ∷ shown (line.threshold c.cut c.surplus) ∷ shown (payment_record p) ∷ []) w)
          (pick_at g.number 0 g.number c.settlement.final.sets g.kept (omega arith) here)
          (joined g w w (((line.settle number ∷ regret_records c.settlement) ++ without_records 0 c.withouts) ++ (line.threshold c.cut c.surplus ∷ map payment_record c.payments)) (line.end closed_end ∷ [])
          (shown (line.settle number) ∷ shown (line.regret c.settlement.regret) ∷ kept (pick g.number 0 c.settlement.final.sets g.kept) ∷ shown (line.threshold c.cut c.surplus) ∷ shown (payment_record p) ∷ []) []
          (joined g w w ((line.settle number ∷ regret_records c.settlement) ++ without_records 0 c.withouts) (line.threshold c.cut c.surplus ∷ map payment_record c.payments)
          (shown (line.settle number) ∷ shown (line.regret c.settlement.regret) ∷ kept (pick g.number 0 c.settlement.final.sets g.kept) ∷ []) (shown (line.threshold c.cut c.surplus) ∷ shown (payment_record p) ∷ [])
          (joined g s w (line.settle number ∷ regret_records c.settlement) (without_records 0 c.withouts) (shown (line.settle number) ∷ shown (line.regret c.settlement.regret) ∷ kept (pick g.number 0 c.settlement.final.sets g.kept) ∷ []) []
          (begun s regret) withouts)
          (charged w payments))
          (record { adds = refl; leads = refl })),
    )
  where
    begun : (s : Gathering) → Adds g (regret_records c.settlement) (shown (line.regret c.settlement.regret) ∷ kept (pick g.number 0 c.settlement.final.sets g.kept) ∷ []) s
        → Adds g (line.settle number ∷ regret_records c.settlement) (shown (line.settle number) ∷ shown (line.regret c.settlement.regret) ∷ kept (pick g.number 0 c.settlement.final.sets g.kept) ∷ []) s
    begun s a = record { adds = ap (λ (ls : List StatementLine). shown (line.settle number) ∷ ls) a.adds; leads = a.leads }

    charged : (w : Gathering) → Adds w (map payment_record c.payments) (shown (payment_record p) ∷ []) w
        → Adds w (line.threshold c.cut c.surplus ∷ map payment_record c.payments) (shown (line.threshold c.cut c.surplus) ∷ shown (payment_record p) ∷ []) w
    charged w a = record { adds = ap (λ (ls : List StatementLine). shown (line.threshold c.cut c.surplus) ∷ ls) a.adds; leads = a.leads }

-- ---- all settlements

pub last_names : (ex : Exchange) (number : ℕ) (bounds : List Bounds) (going : List Going) (c : Closed) → IsRightFrom ex number bounds going c → map (λ (p : Payment). p.name) c.payments ≡ names_of ex
last_names ex number bounds [] c (ends, closed) = closed.names
last_names ex number bounds (x ∷ later) c (goes, going, more) = last_names ex (suc number) (bounds_after_round ex bounds x) later c more

module _ (ex : Exchange) where
  count_sets : (exact : List Bool) (sets : Assignment) → IsFeasible (trees_of ex) exact sets → length sets ≡ length ex.bidders
  count_sets exact sets feasible = feasible.same_length ∙ length-map ex.bidders (λ (x : Bidder). x.tree)

  settlements_add : (g : Gathering) (number : ℕ) (bounds : List Bounds) (going : List Going) (c : Closed) (p : Payment) → g.number < length ex.bidders → IsRightFrom ex number bounds going c
      → p.name ≡ g.name → slice_get c.payments g.number ≡ Some p → IsDistinct bytes_eq (names_of ex)
      → lines_gathered g (settlement_records number going c) ++ ended ∷ []
      ≡ lines_from number (map (step_of g.number g.name) going) (record { regret = c.settlement.regret; kept = get_or c.settlement.final.sets g.number []; cut = c.cut; surplus = c.surplus; payment = p })
  settlements_add g number bounds [] c p l (ends, closed) e is distinct =
      let (h, adds) = closed_adds g number c p (omega (arith, l, count_sets (exact_of ex) c.settlement.final.sets closed.settled.final.feasible)) e is (subst (λ (names : List (List ℕ)). IsDistinct bytes_eq names) (sym closed.names) distinct) in
      ap (λ (ls : List StatementLine). ls ++ ended ∷ []) adds.adds
  settlements_add g number bounds (x ∷ later) c p l (goes, going, more) e is distinct =
      let (h, adds, stays) = going_adds g number x (omega (arith, l, count_sets (exact_of ex) x.settlement.final.sets going.settled.final.feasible)) (omega (arith, l, count_sets (exact_of ex) x.provisional.sets going.provisional.feasible)) in
      let rest = settlements_add h (suc number) (bounds_after_round ex bounds x) later c p (subst (λ (n : ℕ). n < length ex.bidders) (sym stays.number) l) more (e ∙ sym stays.name) (subst (λ (n : ℕ). slice_get c.payments n ≡ Some p) (sym stays.number) is) distinct in
      ap (λ (ls : List StatementLine). ls ++ ended ∷ [])
      (gathered_more g (going_records number x) (settlement_records (suc number) later c)
      ∙ ap (λ (ls : List StatementLine). ls ++ lines_gathered (gathering_after_all g (going_records number x)) (settlement_records (suc number) later c)) adds.adds
      ∙ ap (λ (y : Gathering). (shown (line.settle number) ∷ step_lines (step_of g.number g.name x)) ++ lines_gathered y (settlement_records (suc number) later c)) adds.leads)
      ∙ append_assoc (shown (line.settle number) ∷ step_lines (step_of g.number g.name x)) (lines_gathered h (settlement_records (suc number) later c)) (ended ∷ [])
      ∙ ap (λ (ls : List StatementLine). (shown (line.settle number) ∷ step_lines (step_of g.number g.name x)) ++ ls) rest
      ∙ ap (λ (n : ℕ). (shown (line.settle number) ∷ step_lines (step_of g.number g.name x)) ++ lines_from (suc number) (map (step_of n h.name) later) (record { regret = c.settlement.regret; kept = get_or c.settlement.final.sets n []; cut = c.cut; surplus = c.surplus; payment = p })) stays.number
      ∙ ap (λ (name : List ℕ). (shown (line.settle number) ∷ step_lines (step_of g.number g.name x)) ++ lines_from (suc number) (map (step_of g.number name) later) (record { regret = c.settlement.regret; kept = get_or c.settlement.final.sets g.number []; cut = c.cut; surplus = c.surplus; payment = p })) stays.name

-- ---- the whole journal

plain_gathered : (goods : ℕ) (m : Multipliers) (g : Gathering) (records : List Record) → lines_gathered g (plain_records goods m records) ≡ lines_gathered g records
plain_gathered goods m g [] = refl
plain_gathered goods m g (line.near changes ∷ rest) = plain_gathered goods (after_changes m changes) g rest
plain_gathered goods m g (line.step s ∷ rest) = plain_gathered goods m g rest
plain_gathered goods m g (r ∷ rest) = ap (λ (ls : List StatementLine). lines_at g r ++ ls) (plain_gathered goods (all_zero goods) (gathering_after g r) rest)

gathered_plain : (g : Gathering) (journal : List Record) → lines_gathered g (plain journal) ≡ lines_gathered g journal
gathered_plain g (line.head version_2 kind ∷ rest) = plain_gathered (goods_in rest) (all_zero (goods_in rest)) g rest
gathered_plain g other = refl

nested : (a : StatementLine) (A B C : List StatementLine) → (a ∷ (A ++ B)) ++ C ≡ (a ∷ A) ++ (B ++ C)
nested a A B C = append_assoc (a ∷ A) B C

module _ (x : Session) (name : List ℕ) (own : Own) (right : IsRight x) (o : IsOwn x name own) where
  section_adds : (h : Gathering) × Adds (new_gathering name) (section_records x.exchange) (map shown (section_records (own_exchange (part_of x o.number own)))) h × Counts (new_gathering name) h (0 + length x.exchange.bidders) (0 + o.number)
  section_adds =
      let g : Gathering = new_gathering name in
      let (h, bidders, counts) = bidders_shown name g x.exchange.bidders o.number own.bidder refl o.named o.bidder right.exchange.names in
      let goods = goods_shown g x.exchange.goods in (
        h,
        subst (λ (ls : List StatementLine). Adds g (section_records x.exchange) ls h) lines
            (joined g g h (line.settings x.exchange.settings ∷ map good_record x.exchange.goods) (flat_map bidder_records x.exchange.bidders) (shown (line.settings x.exchange.settings) ∷ map shown (map good_record x.exchange.goods)) (map shown (bidder_records own.bidder))
            (record { adds = ap (λ (ls : List StatementLine). shown (line.settings x.exchange.settings) ∷ ls) goods.adds; leads = goods.leads }) bidders),
        counts,
      )
    where
      lines : (shown (line.settings x.exchange.settings) ∷ map shown (map good_record x.exchange.goods)) ++ map shown (bidder_records own.bidder) ≡ map shown (section_records (own_exchange (part_of x o.number own)))
      lines =
          sym (map-append shown (line.settings x.exchange.settings ∷ map good_record x.exchange.goods) (bidder_records own.bidder))
          ∙ ap (λ (rs : List Record). map shown ((line.settings x.exchange.settings ∷ map good_record x.exchange.goods) ++ rs)) (sym (flat_map-cons bidder_records own.bidder [] ∙ append-nil (bidder_records own.bidder)))

  payment_name : own.payment.name ≡ name
  payment_name =
      sym (at_map (λ (q : Payment). q.name) x.closed.payments o.number own.payment [] o.payment) ∙ ap (λ (names : List (List ℕ)). get_or names o.number []) (last_names x.exchange 0 (opening_bounds x.exchange) x.going x.closed right.settlements)
      ∙ at_map (λ (y : Bidder). y.name) x.exchange.bidders o.number own.bidder [] o.bidder ∙ o.named

  session_gathered : (named name ∷ lines_gathered (new_gathering name) (session_records x)) ++ ended ∷ [] ≡ own_lines (part_of x o.number own)
  session_gathered =
      let (h, adds, counts) = section_adds in
      let number_is : h.number ≡ o.number = counts.number_is ∙ omega arith in
      let rest = settlements_add x.exchange h 0 (opening_bounds x.exchange) x.going x.closed own.payment (omega (arith, number_is, slice_get_within x.exchange.bidders o.number own.bidder o.bidder)) right.settlements
      (payment_name ∙ sym counts.name) (subst (λ (n : ℕ). slice_get x.closed.payments n ≡ Some own.payment) (sym number_is) o.payment) right.exchange.names in
      ap (λ (ls : List StatementLine). (named name ∷ ls) ++ ended ∷ [])
      (gathered_more (new_gathering name) (section_records x.exchange) (settlement_records 0 x.going x.closed)
      ∙ ap (λ (ls : List StatementLine). ls ++ lines_gathered (gathering_after_all (new_gathering name) (section_records x.exchange)) (settlement_records 0 x.going x.closed)) adds.adds
      ∙ ap (λ (y : Gathering). map shown (section_records (own_exchange (part_of x o.number own))) ++ lines_gathered y (settlement_records 0 x.going x.closed)) adds.leads)
      ∙ nested (named name) (map shown (section_records (own_exchange (part_of x o.number own)))) (lines_gathered h (settlement_records 0 x.going x.closed)) (ended ∷ [])
      ∙ ap (λ (ls : List StatementLine). (named name ∷ map shown (section_records (own_exchange (part_of x o.number own)))) ++ ls)
      (rest
      ∙ ap (λ (n : ℕ). lines_from 0 (map (step_of n h.name) x.going) (record { regret = x.closed.settlement.regret; kept = get_or x.closed.settlement.final.sets n []; cut = x.closed.cut; surplus = x.closed.surplus; payment = own.payment })) number_is
      ∙ ap (λ (m : List ℕ). lines_from 0 (map (step_of o.number m) x.going) (record { regret = x.closed.settlement.regret; kept = get_or x.closed.settlement.final.sets o.number []; cut = x.closed.cut; surplus = x.closed.surplus; payment = own.payment })) (counts.name ∙ sym o.named)
      ∙ ap (λ (k : NodeSet). lines_from 0 (map (step_of o.number own.bidder.name) x.going) (record { regret = x.closed.settlement.regret; kept = k; cut = x.closed.cut; surplus = x.closed.surplus; payment = own.payment })) (sym o.kept))
      ∙ ap (λ (m : List ℕ). (named m ∷ map shown (section_records (own_exchange (part_of x o.number own)))) ++ lines_from 0 (part_of x o.number own).going (part_of x o.number own).closed) (sym o.named)

pub gathered_is_statement : GatheredIsStatement
gathered_is_statement journal name own of =
    ap (λ (ls : List StatementLine). (named name ∷ ls) ++ ended ∷ []) (sym (gathered_plain (new_gathering name) journal) ∙ ap (lines_gathered (new_gathering name)) of.says)
    ∙ session_gathered of.session name own of.right of.is_own
    ∙ sym (ap (λ (rs : List Record). statement_lines rs own) (sym (plain_shown journal) ∙ ap public_records of.says) ∙ lines_are_own of.session name own of.is_own)

pub lines_are_one : LinesAreOne
lines_are_one journal name a b one other = sym (gathered_is_statement journal name a one) ∙ gathered_is_statement journal name b other

pub statement_is_one : BytesTellJournals → StatementIsOne
statement_is_one tells bytes name s t a b one other =
    one.text_is
    ∙ ap bytes_of_lines (sym (gathered_is_statement one.journal name a one.own_is) ∙ ap (gathered_lines name) (tells bytes one.journal other.journal one.spelled other.spelled) ∙ gathered_is_statement other.journal name b other.own_is)
    ∙ sym other.text_is
