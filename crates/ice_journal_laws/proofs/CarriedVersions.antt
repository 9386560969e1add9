-- What a writer writes in version 2 says the journal of version 1.
use Rattle.std.proofs.Common.{◌≡◌, ℕ, List, [], ◌∷◌, ◌++◌, length, map, refl, sym, ◌∙◌, ap, arith, append_assoc, Bool}
use Rattle.std.specs.List.{AllByRecursion}
use Rattle.ice_defs.specs.Trade.{Assignment}
use Rattle.ice_defs.specs.Bound.{Multipliers}
use Rattle.ice_defs.specs.Steps.{Step, branch, leaf, dead}
use Rattle.ice_defs.specs.Bounds.{Bounds}
use Rattle.ice_defs.specs.Exchange.{Exchange, exact_of}
use Rattle.ice_defs.specs.Session.{Proved, Settlement, Regretted}
use Rattle.ice_refute.specs.Code.{CountsGoods}
use Rattle.ice_journal.specs.Records.{Record, Kind, version_1, version_2, regret_kind, regret_end}
use Rattle.ice_journal.specs.Records as line
use Rattle.ice_journal.specs.Plain.{goods_in, all_zero, plain_records, plain, changes_from, after_changes}
use Rattle.ice_journal.proofs.Packed.{leaf_back, zeros}
use Rattle.ice_section.specs.Described.{section_records}
use Rattle.ice_journal_laws.specs.Written.{proved_records, regret_records, regretted_records}
use Rattle.ice_journal_laws.specs.Showing.{step_records, group_records, regret_group_records, regretted_in, IsShownSettlement, IsShownRegretted}
use Rattle.ice_journal_laws.proofs.Plaining.{plain_more, goods_more, kept, section_wrote}

module _ (goods : ℕ) where
  -- after any multipliers these records say those, and they name no good
  pub record Unpacks (a b : List Record) : Type 0 where
    pub says : (m : Multipliers) → plain_records goods m a ≡ b
    pub names : goods_in a ≡ 0

  pub unpacks_none : Unpacks [] []
  unpacks_none = record { says = λ m. refl; names = refl }

  pub unpacks_join : (a b c d : List Record) → Unpacks a b → Unpacks c d → Unpacks (a ++ c) (b ++ d)
  unpacks_join a b c d x y = record {
    says = λ m. plain_more goods m a c ∙ ap (λ (rs : List Record). rs ++ plain_records goods (kept goods m a) c) (x.says m) ∙ ap (λ (rs : List Record). b ++ rs) (y.says (kept goods m a));
    names = goods_more a c ∙ omega (arith, x.names, y.names);
  }

  -- a record that is the same in both versions, and ends a log
  pub record IsSame (r : Record) : Type 0 where
    pub says : (m : Multipliers) (rest : List Record) → plain_records goods m (r ∷ rest) ≡ r ∷ plain_records goods (all_zero goods) rest
    pub names : (rest : List Record) → goods_in (r ∷ rest) ≡ goods_in rest

  pub unpacks_then : (r : Record) (a b : List Record) → IsSame r → Unpacks a b → Unpacks (r ∷ a) (r ∷ b)
  unpacks_then r a b same x = record { says = λ m. same.says m a ∙ ap (λ (rs : List Record). r ∷ rs) (x.says (all_zero goods)); names = same.names a ∙ x.names }

  pub unpacks_map : {X : Type 0} (f : X → Record) → ((x : X) → IsSame (f x)) → (xs : List X) → Unpacks (map f xs) (map f xs)
  unpacks_map f same [] = unpacks_none
  unpacks_map f same (x ∷ xs) = unpacks_then (f x) (map f xs) (map f xs) (same x) (unpacks_map f same xs)

  -- ---- groups

  no_goods : (m : Multipliers) (log : List Step) → goods_in (step_records version_2 m log) ≡ 0
  no_goods m [] = refl
  no_goods m (branch b n ∷ log) = no_goods m log
  no_goods m (leaf new ∷ log) = no_goods new log
  no_goods m (dead b ∷ log) = no_goods m log

  steps_say : (m : Multipliers) (log : List Step) → length m ≡ goods → AllByRecursion (CountsGoods goods) log → plain_records goods m (step_records version_2 m log) ≡ map line.step log
  steps_say m [] count counts = refl
  steps_say m (branch b n ∷ log) count counts = ap (λ (rs : List Record). line.step (branch b n) ∷ rs) (steps_say m log count counts.1)
  steps_say m (leaf new ∷ log) count counts =
      let back : after_changes m (changes_from 0 m new) ≡ new = leaf_back m new (count ∙ sym counts.0) in
      ap (λ (k : Multipliers). line.step (leaf k) ∷ plain_records goods k (step_records version_2 new log)) back
      ∙ ap (λ (rs : List Record). line.step (leaf new) ∷ rs) (steps_say new log counts.0 counts.1)
  steps_say m (dead b ∷ log) count counts = ap (λ (rs : List Record). line.step (dead b) ∷ rs) (steps_say m log count counts.1)

  set_same : (x : List Bool) → IsSame (line.set x)
  set_same x = record { says = λ m rest. refl; names = λ rest. refl }

  kept_zero : (sets : Assignment) → kept goods (all_zero goods) (map line.set sets) ≡ all_zero goods
  kept_zero [] = refl
  kept_zero (x ∷ sets) = kept_zero sets

  pub unpacks_group : (first : Record) (p : Proved) → IsSame first → AllByRecursion (CountsGoods goods) p.log → Unpacks (group_records version_2 goods first p) (proved_records first p)
  unpacks_group first p same counts = record {
    says = λ m.
        same.says m (map line.set p.sets ++ step_records version_2 (all_zero goods) p.log)
        ∙ ap (λ (rs : List Record). first ∷ rs)
        (plain_more goods (all_zero goods) (map line.set p.sets) (step_records version_2 (all_zero goods) p.log)
        ∙ ap (λ (rs : List Record). rs ++ plain_records goods (kept goods (all_zero goods) (map line.set p.sets)) (step_records version_2 (all_zero goods) p.log)) ((unpacks_map line.set set_same p.sets).says (all_zero goods))
        ∙ ap (λ (k : Multipliers). map line.set p.sets ++ plain_records goods k (step_records version_2 (all_zero goods) p.log)) (kept_zero p.sets)
        ∙ ap (λ (rs : List Record). map line.set p.sets ++ rs) (steps_say (all_zero goods) p.log (zeros goods) counts));
    names = same.names (map line.set p.sets ++ step_records version_2 (all_zero goods) p.log) ∙ goods_more (map line.set p.sets) (step_records version_2 (all_zero goods) p.log)
        ∙ omega (arith, (unpacks_map line.set set_same p.sets).names, no_goods (all_zero goods) p.log);
  }

  pub plain_record : (r : Record) → ((m : Multipliers) (rest : List Record) → plain_records goods m (r ∷ rest) ≡ r ∷ plain_records goods (all_zero goods) rest) → ((rest : List Record) → goods_in (r ∷ rest) ≡ goods_in rest) → IsSame r
  plain_record r says names = record { says = says; names = names }

  -- the logs of a settlement count the goods
  pub record CountSettlement (x : Settlement) : Type 0 where
    pub final : AllByRecursion (CountsGoods goods) x.final.log
    pub rival : AllByRecursion (CountsGoods goods) x.rival.log

  pub unpacks_settlement : (x : Settlement) → CountSettlement x → Unpacks (regret_group_records version_2 goods x) (regret_records x)
  unpacks_settlement x counts =
      unpacks_join (group_records version_2 goods (line.final x.final.value) x.final ++ group_records version_2 goods (line.rival x.rival.value) x.rival) (proved_records (line.final x.final.value) x.final ++ proved_records (line.rival x.rival.value) x.rival) (line.regret x.regret ∷ []) (line.regret x.regret ∷ [])
      (unpacks_join (group_records version_2 goods (line.final x.final.value) x.final) (proved_records (line.final x.final.value) x.final) (group_records version_2 goods (line.rival x.rival.value) x.rival) (proved_records (line.rival x.rival.value) x.rival)
      (unpacks_group (line.final x.final.value) x.final (plain_record (line.final x.final.value) (λ m rest. refl) (λ rest. refl)) counts.final)
      (unpacks_group (line.rival x.rival.value) x.rival (plain_record (line.rival x.rival.value) (λ m rest. refl) (λ rest. refl)) counts.rival))
      (unpacks_then (line.regret x.regret) [] [] (plain_record (line.regret x.regret) (λ m rest. refl) (λ rest. refl)) unpacks_none)

-- ---- a whole journal: a section, and records that name no good

pub whole_says : (kind : Kind) (ex : Exchange) (a b : List Record) → Unpacks (length (exact_of ex)) a b
    → plain (line.head version_2 kind ∷ section_records ex ++ a) ≡ line.head version_1 kind ∷ section_records ex ++ b
whole_says kind ex a b x =
    ap (λ (n : ℕ). line.head version_1 kind ∷ plain_records n (all_zero n) (section_records ex ++ a)) named
    ∙ ap (λ (rs : List Record). line.head version_1 kind ∷ rs)
    (plain_more (length (exact_of ex)) (all_zero (length (exact_of ex))) (section_records ex) a
    ∙ ap (λ (rs : List Record). rs ++ plain_records (length (exact_of ex)) (kept (length (exact_of ex)) (all_zero (length (exact_of ex))) (section_records ex)) a) (section_wrote version_2 ex).said
    ∙ ap (λ (rs : List Record). section_records ex ++ rs) (x.says (kept (length (exact_of ex)) (all_zero (length (exact_of ex))) (section_records ex))))
  where
    named : goods_in (section_records ex ++ a) ≡ length (exact_of ex)
    named = goods_more (section_records ex) a ∙ omega (arith, (section_wrote version_2 ex).goods, x.names)

-- the logs of shown groups count the goods
pub settlement_counts : (ex : Exchange) (bounds : List Bounds) (x : Settlement) → IsShownSettlement ex bounds x → CountSettlement (length (exact_of ex)) x
settlement_counts ex bounds x is = record { final = is.final.counts; rival = is.rival.counts }

-- a regret journal
pub regretted_says : (r : Regretted) → IsShownRegretted r → plain (regretted_in version_2 r) ≡ regretted_records r
regretted_says r is =
    ap plain (ap (λ (rs : List Record). line.head version_2 regret_kind ∷ rs) (append_assoc (section_records r.exchange) (regret_group_records version_2 (length (exact_of r.exchange)) r.settlement) (line.end regret_end ∷ [])))
    ∙ whole_says regret_kind r.exchange (regret_group_records version_2 (length (exact_of r.exchange)) r.settlement ++ line.end regret_end ∷ []) (regret_records r.settlement ++ line.end regret_end ∷ [])
    (unpacks_join (length (exact_of r.exchange)) (regret_group_records version_2 (length (exact_of r.exchange)) r.settlement) (regret_records r.settlement) (line.end regret_end ∷ []) (line.end regret_end ∷ [])
    (unpacks_settlement (length (exact_of r.exchange)) r.settlement (settlement_counts r.exchange _ r.settlement is.settlement))
    (unpacks_then (length (exact_of r.exchange)) (line.end regret_end) [] [] (plain_record (length (exact_of r.exchange)) (line.end regret_end) (λ m rest. refl) (λ rest. refl)) (unpacks_none (length (exact_of r.exchange)))))
    ∙ ap (λ (rs : List Record). line.head version_1 regret_kind ∷ rs) (sym (append_assoc (section_records r.exchange) (regret_records r.settlement) (line.end regret_end ∷ [])))
