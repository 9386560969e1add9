-- The value that a lawful exchange is written as has a text that is read as the value.
use Rattle.std.proofs.Common.{◌≡◌, ℕ, zero, suc, ◌+◌, ◌<◌, ◌≤◌, Bool, true, false, List, [], ◌∷◌, ◌++◌, length, map, ℤ, pos, negsuc, neg_ℤ, ◌≤ℤ◌, Some, IsUtf8, refl, sym, ap, subst, arith, cond}
use Rattle.std.specs.Prelude.{codes, IsTrue}
use Rattle.std.specs.List.{AllByRecursion, filter}
use Rattle.std.proofs.Math.Dec.{eqb-suc-zero}
use Rattle.std.proofs.lemmas.Int.{ints}
use Rattle.std.proofs.lemmas.List.{get_or-map, length-map}
use Rattle.json.proofs.Printed.Utf8.{are_ascii, IsUtf8-are_ascii}
use Rattle.serde_json.specs.Data.{Data, null, array, object}
use Rattle.serde_json.specs.Read.{max_depth}
use Rattle.serde_json.specs.Written.{has_float}
use Rattle.ice_defs.specs.declared.NodeKind.{NodeKind}
use Rattle.ice_defs.specs.declared.NodeKind.TheVariants.{Choose, Buy, Sell}
use Rattle.ice_defs.specs.Tree.{IsInterval, kind_of, is_child, children_of}
use Rattle.ice_defs.specs.Set.{weight_of}
use Rattle.ice_defs.specs.Name.{is_name}
use Rattle.ice_defs.specs.Lawful.{IsLimitedKind, IsBidder, IsExchange}
use Rattle.ice_defs.specs.Exchange.{Settings, AreSettings, Good, Bidder, Exchange}
use Rattle.ice_terms.proofs.Names.{name_text}
use Rattle.ice_read.specs.Values.{value_of}
use Rattle.ice_read.specs.Written.{whole_data, items_of, Member, members_of, object_of, is_called, good_name, good_data, own_members, kind_data, node_data, bidder_data, setting_members, settings_data, exchange_data, exchange_text}
use Rattle.ice_read.proofs.Floatless.{floatless}
use Rattle.ice_read.proofs.NamePlaces.{all_at}
use Rattle.ice_read.proofs.OwnedAmounts.{spelled_members, rising_members}
use Rattle.ice_read.proofs.Levels.{from, numbers_from, few_pass}
use Rattle.ice_read.proofs.Spelling.{IsSpelled, unsigned_spelled, negative_spelled, string_spelled, array_spelled, object_spelled, AreItemsSpelled, AreMembersSpelled, AreMembersSpelled-put, AreRising, AreRising-put, value_of-spelled}

-- ---- parts

spelled_deeper : (n m : ℕ) (d : Data) → n ≤ m → IsSpelled n d → IsSpelled m d
spelled_deeper n m d l is = record { numbers = is.numbers; back = is.back; shallow = omega (arith, is.shallow); text = is.text }

null_spelled : (n : ℕ) → IsSpelled n null
null_spelled n = record { numbers = tt; back = refl; shallow = omega arith; text = IsUtf8-are_ascii (110 ∷ 117 ∷ 108 ∷ 108 ∷ []) refl }

whole_spelled : (n : ℕ) (z : ℤ) → neg_ℤ (pos 1000000000) ≤ℤ z → z ≤ℤ pos 1000000000000 → IsSpelled n (whole_data z)
whole_spelled n (pos k) low high = unsigned_spelled n k (omega (arith, ints))
whole_spelled n (negsuc k) low high = negative_spelled n k (omega (arith, ints))

items_spelled : (n : ℕ) (ds : List Data) → AllByRecursion (IsSpelled n) ds → AreItemsSpelled n (items_of ds)
items_spelled n [] all = tt
items_spelled n (d ∷ ds) all = (all.0, items_spelled n ds all.1)

list_spelled : (n : ℕ) (ds : List Data) → AllByRecursion (IsSpelled n) ds → IsSpelled (suc n) (array (items_of ds))
list_spelled n ds all = array_spelled n (items_of ds) (items_spelled n ds all)

-- a member with a name in ASCII
record FitMember (n : ℕ) : Type 0 where
  name : List ℕ
  value : Data
  ascii : are_ascii name ≡ true
  spelled : IsSpelled n value

abbrev fit : {n : ℕ} {value : Data} (name : List ℕ) → are_ascii name ≡ true → IsSpelled n value → FitMember n
fit {n} {value} name ascii spelled = record { name = name; value = value; ascii = ascii; spelled = spelled }

abbrev members_in : {n : ℕ} → List (FitMember n) → List Member
members_in [] = []
members_in (m ∷ ms) = is_called m.name m.value ∷ members_in ms

fit_spelled : {n : ℕ} (ms : List (FitMember n)) → AreMembersSpelled n (members_of (members_in ms)) × AreRising (members_of (members_in ms))
fit_spelled [] = (tt, tt)
fit_spelled {n} (m ∷ ms) =
    let later = fit_spelled ms in
    (AreMembersSpelled-put n m.name m.value (members_of (members_in ms)) (IsUtf8-are_ascii m.name m.ascii) m.spelled later.0, AreRising-put m.name m.value (members_of (members_in ms)) later.1)

members_spelled : (n : ℕ) (ms : List (FitMember n)) → IsSpelled (suc n) (object_of (members_in ms))
members_spelled n ms = let all = fit_spelled ms in object_spelled n (members_of (members_in ms)) all.0 all.1

-- ---- settings and goods

settings_spelled : (s : Settings) → AreSettings s → IsSpelled 1 (settings_data s)
settings_spelled s is = by s.derived is.derived
  where
    with : (derived : List (FitMember 0)) → IsSpelled 1 (object_of (setting_members s ++ members_in derived))
    with derived = members_spelled 0 (
        fit (codes "weight") refl (whole_spelled 0 (pos s.weight) (omega (arith, ints)) (omega (arith, ints, is.weight)))
        ∷ fit (codes "close_regret") refl (whole_spelled 0 s.close_regret (omega (arith, ints, is.close_regret.0)) is.close_regret.1)
        ∷ fit (codes "cap") refl (whole_spelled 0 s.cap (omega (arith, ints, is.cap.0)) (omega (arith, ints, is.cap.1)))
        ∷ fit (codes "improve") refl (whole_spelled 0 s.improve (omega (arith, ints, is.improve.0)) (omega (arith, ints, is.improve.1)))
        ∷ fit (codes "rounds") refl (whole_spelled 0 (pos s.rounds) (omega (arith, ints)) (omega (arith, ints, is.rounds)))
        ∷ fit (codes "branches") refl (whole_spelled 0 (pos s.branches) (omega (arith, ints)) (omega (arith, ints, is.branches)))
        ∷ derived)

    by : (n : ℕ) → n ≤ 2000 → IsSpelled 1 (settings_data (record s { derived = n }))
    by zero few = with []
    by (suc n) few = rw (eqb-suc-zero n) (with (fit (codes "derived") refl (whole_spelled 0 (pos (suc n)) (omega (arith, ints)) (omega (arith, ints, few))) ∷ []))

good_spelled : (good : Good) → IsUtf8 good.name → IsSpelled 1 (good_data good)
good_spelled good u = by good.exact
  where
    by : (exact : Bool) → IsSpelled 1 (good_data (record { name = good.name; exact = exact }))
    by true = members_spelled 0 (fit (codes "exact") refl (string_spelled 0 good.name u) ∷ [])
    by false = string_spelled 1 good.name u

goods_spelled : (goods : List Good) → AllByRecursion IsUtf8 (map (λ good. good.name) goods) → AllByRecursion (IsSpelled 1) (map good_data goods)
goods_spelled [] named = tt
goods_spelled (good ∷ goods) named = (good_spelled good named.0, goods_spelled goods named.1)

-- ---- trees

abbrev twice : ℕ → ℕ
twice zero = 0
twice (suc n) = suc (suc (twice n))

kept_spelled : (k : ℕ) (p : ℕ → Bool) (f : ℕ → Data) (m j : ℕ) → ((c : ℕ) → c < m + j → IsSpelled k (f c)) → AllByRecursion (IsSpelled k) (map f (filter p (from m j)))
kept_spelled k p f m zero each = tt
kept_spelled k p f m (suc j) each = by (p m) (kept_spelled k p f (suc m) j (λ c l. each c (omega arith)))
  where
    by : (b : Bool) → AllByRecursion (IsSpelled k) (map f (filter p (from (suc m) j))) → AllByRecursion (IsSpelled k) (map f (cond b (m ∷ filter p (from (suc m) j)) (filter p (from (suc m) j))))
    by true later = (each m (omega arith), later)
    by false later = later

module _ (goods : List Good) (named : AllByRecursion IsUtf8 (map (λ good. good.name) goods)) (b : Bidder) (is : IsBidder (length goods) b) where
  good_text : (g : ℕ) → g < length goods → IsUtf8 (good_name goods g)
  good_text g l =
      subst IsUtf8 (get_or-map (λ (good : Good). good.name) goods g (record { name = []; exact = false }) [] l)
      (all_at IsUtf8 (map (λ good. good.name) goods) g [] (omega (arith, length-map goods (λ (good : Good). good.name))) named)

  lo_spelled : (k n : ℕ) → n < length b.tree → IsSpelled k (whole_data (weight_of b.bounds.lo n))
  lo_spelled k n l = whole_spelled k (weight_of b.bounds.lo n) (is.bounds.low n l) (omega (arith, ints, is.bounds.ordered n l, is.bounds.high n l))

  hi_spelled : (k n : ℕ) → n < length b.tree → IsSpelled k (whole_data (weight_of b.bounds.hi n))
  hi_spelled k n l = whole_spelled k (weight_of b.bounds.hi n) (omega (arith, ints, is.bounds.low n l, is.bounds.ordered n l)) (omega (arith, ints, is.bounds.high n l))

  kind_spelled : (k n : ℕ) (kind : NodeKind) (children : List Data) → n < length b.tree → IsLimitedKind (length goods) kind → IsInterval kind (length children) → length children ≤ 200 → AllByRecursion (IsSpelled k) children
      → IsSpelled (suc (suc k)) (kind_data goods kind (weight_of b.bounds.lo n) (weight_of b.bounds.hi n) children)
  kind_spelled k n (Buy g u) children l fits interval few all = members_spelled (suc k) (
      fit (codes "buy") refl (string_spelled (suc k) (good_name goods g) (good_text g fits.0))
      ∷ fit (codes "units") refl (whole_spelled (suc k) (pos u) (omega (arith, ints)) (omega (arith, ints, fits.2)))
      ∷ fit (codes "lo") refl (lo_spelled (suc k) n l)
      ∷ fit (codes "hi") refl (hi_spelled (suc k) n l)
      ∷ [])
  kind_spelled k n (Sell g u) children l fits interval few all = members_spelled (suc k) (
      fit (codes "sell") refl (string_spelled (suc k) (good_name goods g) (good_text g fits.0))
      ∷ fit (codes "units") refl (whole_spelled (suc k) (pos u) (omega (arith, ints)) (omega (arith, ints, fits.2)))
      ∷ fit (codes "lo") refl (lo_spelled (suc k) n l)
      ∷ fit (codes "hi") refl (hi_spelled (suc k) n l)
      ∷ [])
  kind_spelled k n (Choose least most) children l fits interval few all =
      let bounds : IsSpelled k (whole_data (pos least)) × (IsSpelled k (whole_data (pos most)) × Unit {0}) = (
        whole_spelled k (pos least) (omega (arith, ints)) (omega (arith, ints, interval.0, interval.1)),
        (whole_spelled k (pos most) (omega (arith, ints)) (omega (arith, ints, interval.1)), tt),
      ) in
      members_spelled (suc k) (
      fit (codes "choose") refl (list_spelled k (whole_data (pos least) ∷ whole_data (pos most) ∷ []) bounds)
      ∷ fit (codes "lo") refl (lo_spelled (suc k) n l)
      ∷ fit (codes "hi") refl (hi_spelled (suc k) n l)
      ∷ fit (codes "of") refl (list_spelled k children all)
      ∷ [])

  node_spelled : (levels n : ℕ) → n < length b.tree → IsSpelled (twice levels) (node_data goods b levels n)
  node_spelled zero n l = null_spelled 0
  node_spelled (suc levels) n l =
      let children : List Data = map (node_data goods b levels) (children_of b.tree n) in
      let count : length children ≡ length (children_of b.tree n) = length-map (children_of b.tree n) (node_data goods b levels) in
      let few : length (children_of b.tree n) ≤ length b.tree = omega (arith, ap (λ l. length (filter (is_child b.tree n) l)) (numbers_from (length b.tree)), few_pass (is_child b.tree n) 0 (length b.tree)) in
      kind_spelled (twice levels) n (kind_of b.tree n) children l (is.tree.kinds n l) (subst (IsInterval (kind_of b.tree n)) (sym count) (is.tree.tree.interval n l)) (omega (arith, count, few, is.tree.count))
      (subst (λ l. AllByRecursion (IsSpelled (twice levels)) (map (node_data goods b levels) (filter (is_child b.tree n) l))) (sym (numbers_from (length b.tree)))
      (kept_spelled (twice levels) (is_child b.tree n) (node_data goods b levels) 0 (length b.tree) (λ c inside. node_spelled levels c (omega arith))))

  tree_spelled : (levels : ℕ) → levels ≡ 16 → IsSpelled (twice levels) (node_data goods b levels 0)
  tree_spelled levels e = node_spelled levels 0 is.tree.tree.rooted

  bidder_spelled : IsUtf8 b.name → IsSpelled 33 (bidder_data goods b)
  bidder_spelled name = members_spelled 32 (
      fit (codes "name") refl (string_spelled 32 b.name name)
      ∷ fit (codes "own") refl (spelled_deeper 1 32 (object (own_members goods b.own)) (omega arith) (object_spelled 0 (own_members goods b.own) (spelled_members goods b.own named is.own) (rising_members goods b.own)))
      ∷ fit (codes "tree") refl (tree_spelled 16 refl)
      ∷ [])

bidders_spelled : (goods : List Good) (named : AllByRecursion IsUtf8 (map (λ good. good.name) goods)) (bidders : List Bidder) → AllByRecursion (IsBidder (length goods)) bidders → AllByRecursion IsUtf8 (map (λ b. b.name) bidders)
    → AllByRecursion (IsSpelled 33) (map (bidder_data goods) bidders)
bidders_spelled goods named [] are texts = tt
bidders_spelled goods named (b ∷ bidders) are texts = (bidder_spelled goods named b are.0 texts.0, bidders_spelled goods named bidders are.1 texts.1)

names_text : (names : List (List ℕ)) → AllByRecursion (λ name. IsTrue (is_name name)) names → AllByRecursion IsUtf8 names
names_text [] all = tt
names_text (name ∷ names) all = (name_text name all.0, names_text names all.1)

exchange_spelled : (ex : Exchange) → IsExchange ex → IsSpelled 35 (exchange_data ex)
exchange_spelled ex is =
    let named : AllByRecursion IsUtf8 (map (λ good. good.name) ex.goods) = names_text (map (λ good. good.name) ex.goods) is.goods_named in
    members_spelled 34 (
    fit (codes "settings") refl (spelled_deeper 1 34 (settings_data ex.settings) (omega arith) (settings_spelled ex.settings is.settings))
    ∷ fit (codes "goods") refl (spelled_deeper 2 34 (array (items_of (map good_data ex.goods))) (omega arith) (list_spelled 1 (map good_data ex.goods) (goods_spelled ex.goods named)))
    ∷ fit (codes "bidders") refl (list_spelled 33 (map (bidder_data ex.goods) ex.bidders) (bidders_spelled ex.goods named ex.bidders is.bidders (names_text (map (λ b. b.name) ex.bidders) is.bidders_named)))
    ∷ [])

-- the text is read as the value
pub value_again : (ex : Exchange) → IsExchange ex → value_of (exchange_text ex) ≡ Some (exchange_data ex)
value_again ex is = value_of-spelled (exchange_data ex) (spelled_deeper 35 max_depth (exchange_data ex) (omega arith) (exchange_spelled ex is))

pub exchange_no_float : (ex : Exchange) → IsExchange ex → has_float (exchange_data ex) ≡ false
exchange_no_float ex is = floatless (exchange_data ex) (exchange_spelled ex is).numbers
