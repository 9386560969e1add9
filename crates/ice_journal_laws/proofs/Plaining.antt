-- What the records of a journal say in version 1, record by record.
use Rattle.std.proofs.Common.{◌≡◌, ◌+◌, ℕ, suc, Bool, true, false, cond, eqb, List, [], ◌∷◌, ◌++◌, length, map, ℤ, refl, sym, ◌∙◌, ap, subst, arith}
use Rattle.std.specs.Prelude.{Some, None}
use Rattle.std.specs.List.{AllByRecursion, flat_map}
use Rattle.std.proofs.lemmas.Bool.{eqb-true}
use Rattle.std.proofs.lemmas.Option.{none-some}
use Rattle.std.proofs.lemmas.List.{length-set, length-map}
use Rattle.ice_defs.specs.declared.NodeKind.{NodeKind}
use Rattle.ice_defs.specs.declared.NodeKind.TheVariants.{Choose, Buy, Sell}
use Rattle.ice_defs.specs.Sum.{numbers_below}
use Rattle.ice_defs.specs.Tree.{kind_of, children_of}
use Rattle.ice_defs.specs.Set.{weight_of}
use Rattle.ice_defs.specs.Bound.{Multipliers}
use Rattle.ice_defs.specs.Steps.{Step, branch, leaf, dead}
use Rattle.ice_defs.specs.Exchange.{Good, Bidder, Exchange, exact_of}
use Rattle.ice_journal.specs.Records.{Record, Version, version_1, version_2, Kind, Change}
use Rattle.ice_journal.specs.Nodes.{node_record}
use Rattle.ice_journal.specs.Records as line
use Rattle.ice_journal.specs.Plain.{after_changes, goods_in, all_zero, plain_records, plain}
use Rattle.ice_section.specs.Section.{good_record}
use Rattle.ice_section.specs.Described.{node_records, bidder_records, section_records}
use Rattle.ice_refute.specs.Code.{CountsGoods}
use Rattle.ice_journal_laws.specs.Fields.{step_in, counted_step, unchanged_step, multipliers_after}
use Rattle.ice_journal_laws.proofs.Single.{some_same}

-- ---- records behind others

-- the multipliers that the next changes are applied to
abbrev pub kept : ℕ → Multipliers → List Record → Multipliers
kept goods m [] = m
kept goods m (line.near changes ∷ rest) = kept goods (after_changes m changes) rest
kept goods m (line.step s ∷ rest) = kept goods m rest
kept goods m (r ∷ rest) = kept goods (all_zero goods) rest

pub plain_more : (goods : ℕ) (m : Multipliers) (xs ys : List Record) → plain_records goods m (xs ++ ys) ≡ plain_records goods m xs ++ plain_records goods (kept goods m xs) ys
plain_more goods m [] ys = refl
plain_more goods m (line.near changes ∷ xs) ys = ap (λ (rs : List Record). line.step (leaf (after_changes m changes)) ∷ rs) (plain_more goods (after_changes m changes) xs ys)
plain_more goods m (line.step s ∷ xs) ys = ap (λ (rs : List Record). line.step s ∷ rs) (plain_more goods m xs ys)
plain_more goods m (r ∷ xs) ys = ap (λ (rs : List Record). r ∷ rs) (plain_more goods (all_zero goods) xs ys)

kept_more : (goods : ℕ) (m : Multipliers) (xs ys : List Record) → kept goods m (xs ++ ys) ≡ kept goods (kept goods m xs) ys
kept_more goods m [] ys = refl
kept_more goods m (line.near changes ∷ xs) ys = kept_more goods (after_changes m changes) xs ys
kept_more goods m (line.step s ∷ xs) ys = kept_more goods m xs ys
kept_more goods m (r ∷ xs) ys = kept_more goods (all_zero goods) xs ys

pub goods_more : (xs ys : List Record) → goods_in (xs ++ ys) ≡ goods_in xs + goods_in ys
goods_more [] ys = omega arith
goods_more (line.good name ∷ xs) ys = omega (arith, goods_more xs ys)
goods_more (line.exact name ∷ xs) ys = omega (arith, goods_more xs ys)
goods_more (r ∷ xs) ys = goods_more xs ys

-- ---- what is said

abbrev pub said_by : Version → ℕ → List Record → List Record
said_by version_1 goods records = records
said_by version_2 goods records = plain_records goods (all_zero goods) records

-- these records are said, and name so many goods
pub record Wrote (version : Version) (count : ℕ) (records written : List Record) : Type 0 where
  pub said : said_by version count records ≡ written
  pub goods : goods_in records ≡ count

-- changes are applied to these multipliers, in version 2
abbrev pub IsLast : Version → ℕ → List Record → Multipliers → Type 0
IsLast version_1 goods records m = Unit {0}
IsLast version_2 goods records m = kept goods (all_zero goods) records ≡ m

said_more : (version : Version) (goods : ℕ) (records said : List Record) (r : Record) → ((m : Multipliers) → plain_records goods m (r ∷ []) ≡ r ∷ [])
    → said_by version goods records ≡ said → said_by version goods (records ++ r ∷ []) ≡ said ++ r ∷ []
said_more version_1 goods records said r same e = ap (λ (rs : List Record). rs ++ r ∷ []) e
said_more version_2 goods records said r same e =
    plain_more goods (all_zero goods) records (r ∷ []) ∙ ap (λ (rs : List Record). plain_records goods (all_zero goods) records ++ rs) (same (kept goods (all_zero goods) records))
    ∙ ap (λ (rs : List Record). rs ++ r ∷ []) e

goods_no_more : (goods : ℕ) (records : List Record) (r : Record) → goods_in (r ∷ []) ≡ 0 → goods_in records ≡ goods → goods_in (records ++ r ∷ []) ≡ goods
goods_no_more goods records r none e = omega (arith, goods_more records (r ∷ []), none, e)

-- a record that says the same in both versions
pub wrote_more : (version : Version) (goods : ℕ) (records said : List Record) (r : Record) → ((m : Multipliers) → plain_records goods m (r ∷ []) ≡ r ∷ []) → goods_in (r ∷ []) ≡ 0
    → Wrote version goods records said → Wrote version goods (records ++ r ∷ []) (said ++ r ∷ [])
wrote_more version goods records said r same none wrote = record {
  said = said_more version goods records said r same wrote.said;
  goods = goods_no_more goods records r none wrote.goods;
}

-- a log begins with all 0
pub last_begins : (version : Version) (goods : ℕ) (records : List Record) (r : Record) → ((m : Multipliers) → kept goods m (r ∷ []) ≡ all_zero goods) → IsLast version goods (records ++ r ∷ []) (all_zero goods)
last_begins version_1 goods records r zero = tt
last_begins version_2 goods records r zero = kept_more goods (all_zero goods) records (r ∷ []) ∙ zero (kept goods (all_zero goods) records)

-- ---- a step

pub record WroteStep (version : Version) (goods : ℕ) (records said : List Record) (m : Multipliers) (x : Step) : Type 0 where
  pub wrote : Wrote version goods records (said ++ line.step x ∷ [])
  pub last : IsLast version goods records (multipliers_after m x)
  pub counts : CountsGoods goods x
  pub length : length (multipliers_after m x) ≡ goods

counted_is : (goods : ℕ) (s x : Step) → counted_step goods s ≡ Some x → (s ≡ x) × CountsGoods goods x
counted_is goods (branch b n) x e = (some_same (Some (branch b n)) (branch b n) x refl e, subst (CountsGoods goods) (some_same (Some (branch b n)) (branch b n) x refl e) tt)
counted_is goods (leaf m) x e = by (eqb (length m) goods) refl e
  where
    by : (t : Bool) → eqb (length m) goods ≡ t → cond t (Some (leaf m)) None ≡ Some x → (leaf m ≡ x) × CountsGoods goods x
    by true same f =
        let is : leaf m ≡ x = some_same (Some (leaf m)) (leaf m) x refl f in
        (is, subst (CountsGoods goods) is (eqb-true (length m) goods same))
    by false same f = absurd (none-some x f)
counted_is goods (dead b) x e = (some_same (Some (dead b)) (dead b) x refl e, subst (CountsGoods goods) (some_same (Some (dead b)) (dead b) x refl e) tt)

unchanged_is : (goods : ℕ) (m : Multipliers) (s x : Step) → unchanged_step s ≡ Some x → (s ≡ x) × CountsGoods goods x × (multipliers_after m x ≡ m)
unchanged_is goods m (branch b n) x e =
    let is : branch b n ≡ x = some_same (Some (branch b n)) (branch b n) x refl e in
    (is, subst (CountsGoods goods) is tt, subst (λ (y : Step). multipliers_after m y ≡ m) is refl)
unchanged_is goods m (leaf new) x e = absurd (none-some x e)
unchanged_is goods m (dead b) x e =
    let is : dead b ≡ x = some_same (Some (dead b)) (dead b) x refl e in
    (is, subst (CountsGoods goods) is tt, subst (λ (y : Step). multipliers_after m y ≡ m) is refl)

pub changed_length : (m : Multipliers) (changes : List Change) → length (after_changes m changes) ≡ length m
changed_length m [] = refl
changed_length m (c ∷ later) = changed_length _ later ∙ length-set m c.good c.multiplier

-- after a step there is still one multiplier per good
pub length_after : (goods : ℕ) (m : Multipliers) (x : Step) → length m ≡ goods → CountsGoods goods x → length (multipliers_after m x) ≡ goods
length_after goods m (branch b n) count counts = count
length_after goods m (leaf new) count counts = counts
length_after goods m (dead b) count counts = count

step_1 : (goods : ℕ) (records said : List Record) (m : Multipliers) (s x : Step) → length m ≡ goods → Wrote version_1 goods records said → counted_step goods s ≡ Some x
    → WroteStep version_1 goods (records ++ line.step s ∷ []) said m x
step_1 goods records said m s x count wrote e =
    let (is, counts) = counted_is goods s x e in
    record {
      wrote = subst (λ (y : Step). Wrote version_1 goods (records ++ line.step s ∷ []) (said ++ line.step y ∷ [])) is (wrote_more version_1 goods records said (line.step s) (λ _. refl) refl wrote);
      last = tt;
      counts = counts;
      length = length_after goods m x count counts;
    }

step_2 : (goods : ℕ) (records said : List Record) (m : Multipliers) (s x : Step) → length m ≡ goods → Wrote version_2 goods records said → IsLast version_2 goods records m → unchanged_step s ≡ Some x
    → WroteStep version_2 goods (records ++ line.step s ∷ []) said m x
step_2 goods records said m s x count wrote last e =
    let (is, counts, same) = unchanged_is goods m s x e in
    record {
      wrote = subst (λ (y : Step). Wrote version_2 goods (records ++ line.step s ∷ []) (said ++ line.step y ∷ [])) is (wrote_more version_2 goods records said (line.step s) (λ _. refl) refl wrote);
      last = kept_more goods (all_zero goods) records (line.step s ∷ []) ∙ last ∙ sym same;
      counts = counts;
      length = length_after goods m x count counts;
    }

leaf_2 : (goods : ℕ) (records said : List Record) (m : Multipliers) (changes : List Change) (x : Step) → length m ≡ goods → Wrote version_2 goods records said → IsLast version_2 goods records m → leaf (after_changes m changes) ≡ x
    → WroteStep version_2 goods (records ++ line.near changes ∷ []) said m x
leaf_2 goods records said m changes x count wrote last is = subst (WroteStep version_2 goods (records ++ line.near changes ∷ []) said m) is (record {
  wrote = record {
    said = plain_more goods (all_zero goods) records (line.near changes ∷ [])
        ∙ ap (λ (n : Multipliers). plain_records goods (all_zero goods) records ++ line.step (leaf (after_changes n changes)) ∷ []) last
        ∙ ap (λ (rs : List Record). rs ++ line.step (leaf (after_changes m changes)) ∷ []) wrote.said;
    goods = goods_no_more goods records (line.near changes) refl wrote.goods;
  };
  last = kept_more goods (all_zero goods) records (line.near changes ∷ []) ∙ ap (λ (n : Multipliers). after_changes n changes) last;
  counts = changed_length m changes ∙ count;
  length = changed_length m changes ∙ count;
})

pub wrote_step : (version : Version) (goods : ℕ) (records said : List Record) (m : Multipliers) (r : Record) (x : Step) → length m ≡ goods → Wrote version goods records said → IsLast version goods records m
    → step_in version goods m r ≡ Some x → WroteStep version goods (records ++ r ∷ []) said m x
wrote_step version_1 goods records said m (line.step s) x count wrote last e = step_1 goods records said m s x count wrote e
wrote_step version_2 goods records said m (line.step s) x count wrote last e = step_2 goods records said m s x count wrote last e
wrote_step version_2 goods records said m (line.near changes) x count wrote last e =
    leaf_2 goods records said m changes x count wrote last (some_same (Some (leaf (after_changes m changes))) (leaf (after_changes m changes)) x refl e)
wrote_step version goods records said m other x count wrote last e = absurd (none-some x e)

-- ---- the section

-- a record that says the same in both versions
abbrev IsPlain : Record → Type 0
IsPlain (line.near changes) = ⊥
IsPlain other = Unit {0}

plain_same : (goods : ℕ) (m : Multipliers) (rs : List Record) → AllByRecursion IsPlain rs → plain_records goods m rs ≡ rs
plain_same goods m [] h = refl
plain_same goods m (line.near changes ∷ rs) h = absurd h.0
plain_same goods m (line.step s ∷ rs) h = ap (λ (later : List Record). line.step s ∷ later) (plain_same goods m rs h.1)
plain_same goods m (r ∷ rs) h = ap (λ (later : List Record). r ∷ later) (plain_same goods (all_zero goods) rs h.1)

plain_append : (xs ys : List Record) → AllByRecursion IsPlain xs → AllByRecursion IsPlain ys → AllByRecursion IsPlain (xs ++ ys)
plain_append [] ys a b = b
plain_append (x ∷ xs) ys a b = (a.0, plain_append xs ys a.1 b)

goods_plain : (goods : List Good) → AllByRecursion IsPlain (map good_record goods)
goods_plain [] = tt
goods_plain (good ∷ goods) = (by good.exact, goods_plain goods)
  where
    by : (b : Bool) → IsPlain (cond b (line.exact good.name) (line.good good.name))
    by true = tt
    by false = tt

goods_named : (goods : List Good) → goods_in (map good_record goods) ≡ length goods
goods_named [] = refl
goods_named (good ∷ goods) = by good.exact (goods_named goods)
  where
    by : (b : Bool) → goods_in (map good_record goods) ≡ length goods → goods_in (cond b (line.exact good.name) (line.good good.name) ∷ map good_record goods) ≡ suc (length goods)
    by true e = ap suc e
    by false e = ap suc e

module _ (kind : ℕ → NodeKind) (children : ℕ → ℕ) (lo hi : ℕ → ℤ) where
  nodes_plain : (ns : List ℕ) → AllByRecursion IsPlain (map (λ n. node_record (kind n) (children n) (lo n) (hi n)) ns)
  nodes_plain [] = tt
  nodes_plain (n ∷ ns) = (by (kind n), nodes_plain ns)
    where
      by : (k : NodeKind) → IsPlain (node_record k (children n) (lo n) (hi n))
      by (Choose least most) = tt
      by (Buy good units) = tt
      by (Sell good units) = tt

  nodes_name_none : (ns : List ℕ) → goods_in (map (λ n. node_record (kind n) (children n) (lo n) (hi n)) ns) ≡ 0
  nodes_name_none [] = refl
  nodes_name_none (n ∷ ns) = by (kind n) (nodes_name_none ns)
    where
      by : (k : NodeKind) → goods_in (map (λ n. node_record (kind n) (children n) (lo n) (hi n)) ns) ≡ 0
          → goods_in (node_record k (children n) (lo n) (hi n) ∷ map (λ n. node_record (kind n) (children n) (lo n) (hi n)) ns) ≡ 0
      by (Choose least most) e = e
      by (Buy good units) e = e
      by (Sell good units) e = e

bidders_plain : (bidders : List Bidder) → AllByRecursion IsPlain (flat_map bidder_records bidders)
bidders_plain [] = tt
bidders_plain (b ∷ bidders) = plain_append (bidder_records b) (flat_map bidder_records bidders) (tt, mine) (bidders_plain bidders)
  where
    mine : AllByRecursion IsPlain (node_records b)
    mine = nodes_plain (kind_of b.tree) (λ n. length (children_of b.tree n)) (weight_of b.bounds.lo) (weight_of b.bounds.hi) (numbers_below (length b.tree))

bidders_name_none : (bidders : List Bidder) → goods_in (flat_map bidder_records bidders) ≡ 0
bidders_name_none [] = refl
bidders_name_none (b ∷ bidders) = goods_more (bidder_records b) (flat_map bidder_records bidders) ∙ omega (arith, mine, bidders_name_none bidders)
  where
    mine : goods_in (bidder_records b) ≡ 0
    mine = nodes_name_none (kind_of b.tree) (λ n. length (children_of b.tree n)) (weight_of b.bounds.lo) (weight_of b.bounds.hi) (numbers_below (length b.tree))

-- the records of a section say the same in both versions, and name its goods
pub section_wrote : (version : Version) (ex : Exchange) → Wrote version (length (exact_of ex)) (section_records ex) (section_records ex)
section_wrote version ex = record {
  said = by version;
  goods =
      goods_more (map good_record ex.goods) (flat_map bidder_records ex.bidders)
      ∙ omega (arith, goods_named ex.goods, bidders_name_none ex.bidders, length-map ex.goods (λ (good : Good). good.exact));
}
  where
    by : (version : Version) → said_by version (length (exact_of ex)) (section_records ex) ≡ section_records ex
    by version_1 = refl
    by version_2 =
        plain_same (length (exact_of ex)) (all_zero (length (exact_of ex))) (section_records ex)
        (tt, plain_append (map good_record ex.goods) (flat_map bidder_records ex.bidders) (goods_plain ex.goods) (bidders_plain ex.bidders))

-- ---- the whole journal

-- the version 1 journal
pub whole_says : (version : Version) (goods : ℕ) (kind : Kind) (rest written : List Record) → Wrote version goods rest written → plain (line.head version kind ∷ rest) ≡ line.head version_1 kind ∷ written
whole_says version_1 goods kind rest written is = ap (λ (rs : List Record). line.head version_1 kind ∷ rs) is.said
whole_says version_2 goods kind rest written is =
    ap (λ (n : ℕ). line.head version_1 kind ∷ plain_records n (all_zero n) rest) is.goods ∙ ap (λ (rs : List Record). line.head version_1 kind ∷ rs) is.said
