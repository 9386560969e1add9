-- The amount that a regret journal says is a function of its records.
use Rattle.std.proofs.Common.{◌≡◌, ℕ, Bool, true, false, cond, List, [], ◌∷◌, ◌++◌, length, map, ℤ, pos, refl, ◌∙◌, ap}
use Rattle.std.specs.List.{flat_map}
use Rattle.std.proofs.lemmas.List.{append_assoc}
use Rattle.ice_defs.specs.declared.NodeKind.{NodeKind}
use Rattle.ice_defs.specs.declared.NodeKind.TheVariants.{Choose, Buy, Sell}
use Rattle.ice_defs.specs.Sum.{numbers_below}
use Rattle.ice_defs.specs.Tree.{kind_of, children_of}
use Rattle.ice_defs.specs.Set.{weight_of}
use Rattle.ice_defs.specs.Exchange.{Good, Bidder, Exchange}
use Rattle.ice_defs.specs.Session.{Proved, Settlement, Regretted}
use Rattle.ice_journal.specs.Records.{Record, version_1, regret_kind, regret_end}
use Rattle.ice_journal.specs.Nodes.{node_record}
use Rattle.ice_journal.specs.Records as line
use Rattle.ice_section.specs.Section.{good_record}
use Rattle.ice_section.specs.Described.{bidder_records, section_records}
use Rattle.ice_journal_laws.specs.Written.{proved_records, regret_records, regretted_records}

-- the first amount
abbrev pub amount_said : List Record → ℤ
amount_said [] = pos 0
amount_said (line.regret amount ∷ rest) = amount
amount_said (r ∷ rest) = amount_said rest

-- these records state none
abbrev AreSilent : List Record → Type 0
AreSilent records = (rest : List Record) → amount_said (records ++ rest) ≡ amount_said rest

both_silent : (xs ys : List Record) → AreSilent xs → AreSilent ys → AreSilent (xs ++ ys)
both_silent xs ys h k rest = ap amount_said (append_assoc xs ys rest) ∙ h (ys ++ rest) ∙ k rest

module _ {X : Type 0} (f : X → Record) (each : (x : X) (rest : List Record) → amount_said (f x ∷ rest) ≡ amount_said rest) where
  all_silent : (xs : List X) → AreSilent (map f xs)
  all_silent [] rest = refl
  all_silent (x ∷ xs) rest = each x (map f xs ++ rest) ∙ all_silent xs rest

good_silent : (good : Good) (rest : List Record) → amount_said (good_record good ∷ rest) ≡ amount_said rest
good_silent good rest = by good.exact
  where
    by : (b : Bool) → amount_said (cond b (line.exact good.name) (line.good good.name) ∷ rest) ≡ amount_said rest
    by true = refl
    by false = refl

node_silent : (kind : NodeKind) (children : ℕ) (lo hi : ℤ) (rest : List Record) → amount_said (node_record kind children lo hi ∷ rest) ≡ amount_said rest
node_silent (Choose least most) children lo hi rest = refl
node_silent (Buy good units) children lo hi rest = refl
node_silent (Sell good units) children lo hi rest = refl

bidder_silent : (b : Bidder) → AreSilent (bidder_records b)
bidder_silent b rest =
    all_silent (λ (n : ℕ). node_record (kind_of b.tree n) (length (children_of b.tree n)) (weight_of b.bounds.lo n) (weight_of b.bounds.hi n))
    (λ n rest. node_silent (kind_of b.tree n) _ (weight_of b.bounds.lo n) (weight_of b.bounds.hi n) rest) (numbers_below (length b.tree)) rest

bidders_silent : (bidders : List Bidder) → AreSilent (flat_map bidder_records bidders)
bidders_silent [] = λ rest. refl
bidders_silent (b ∷ bidders) = both_silent (bidder_records b) (flat_map bidder_records bidders) (bidder_silent b) (bidders_silent bidders)

section_silent : (ex : Exchange) → AreSilent (section_records ex)
section_silent ex = both_silent (line.settings ex.settings ∷ map good_record ex.goods) (flat_map bidder_records ex.bidders) (λ rest. all_silent good_record good_silent ex.goods rest) (bidders_silent ex.bidders)

proved_silent : (first : Record) (p : Proved) → ((rest : List Record) → amount_said (first ∷ rest) ≡ amount_said rest) → AreSilent (proved_records first p)
proved_silent first p head =
    both_silent (first ∷ map line.set p.sets) (map line.step p.log) (λ rest. head (map line.set p.sets ++ rest) ∙ all_silent line.set (λ x rest. refl) p.sets rest) (all_silent line.step (λ x rest. refl) p.log)

pub amount_of_regretted : (r : Regretted) → amount_said (regretted_records r) ≡ r.settlement.regret
amount_of_regretted r =
    ap amount_said (append_assoc before (regret_records s) (line.end regret_end ∷ []))
    ∙ section_silent r.exchange (regret_records s ++ line.end regret_end ∷ [])
    ∙ ap amount_said (append_assoc groups (line.regret s.regret ∷ []) (line.end regret_end ∷ []))
    ∙ both_silent (proved_records (line.final s.final.value) s.final) (proved_records (line.rival s.rival.value) s.rival)
    (proved_silent (line.final s.final.value) s.final (λ rest. refl)) (proved_silent (line.rival s.rival.value) s.rival (λ rest. refl)) (line.regret s.regret ∷ line.end regret_end ∷ [])
  where
    s : Settlement
    s = r.settlement

    before : List Record
    before = line.head version_1 regret_kind ∷ section_records r.exchange

    groups : List Record
    groups = proved_records (line.final s.final.value) s.final ++ proved_records (line.rival s.rival.value) s.rival
