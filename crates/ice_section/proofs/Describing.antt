-- The records that describe a lawful exchange are records, and
-- a section takes them and has that exchange.
use Rattle.std.proofs.Common.{ℕ, zero, suc, ◌-◌, ◌<◌, ◌≤◌, ◌≡◌, Bool, true, false, cond, List, [], ◌∷◌, ◌++◌, map, length, ℤ, Option, Some, None, Ok, refl, arith, ap, sym, ◌∙◌, subst, length-append, append_assoc}
use Rattle.std.specs.Prelude.{IsTrue}
use Rattle.std.specs.List.{AllByRecursion, list_any, flat_map, filter}
use Rattle.std.specs.Str.{bytes_eq}
use Rattle.std.proofs.lemmas.Int.{ints}
use Rattle.std.proofs.lemmas.List.{append-nil, map-append}
use Rattle.std.proofs.lemmas.List.Sums.{sum_by-append, sum_by-cons}
use Rattle.std.proofs.lemmas.List.Elements.{filter-append}
use Rattle.ice_defs.specs.declared.NodeKind.{NodeKind}
use Rattle.ice_defs.specs.declared.NodeKind.TheVariants.{Choose, Buy, Sell}
use Rattle.ice_defs.specs.Sum.{numbers_below}
use Rattle.ice_defs.specs.Name.{is_name}
use Rattle.ice_defs.specs.Tree.{Tree, IsInterval, kind_of, is_child, children_of}
use Rattle.ice_defs.specs.Set.{weight_of, units}
use Rattle.ice_defs.specs.Making.{node_count, over_sale}
use Rattle.ice_defs.specs.Bounds.{Bounds}
use Rattle.ice_defs.specs.Lawful.{IsLimitedKind, IsLimitedTree, AreBounds, IsBidder}
use Rattle.ice_defs.specs.Exchange.{Settings, Good, Bidder}
use Rattle.ice_defs.proofs.Lists.{all-append, all_middle}
use Rattle.ice_defs.proofs.Naming.{AreNamed, new_among}
use Rattle.ice_trade.proofs.Passing.{good_passes, bidder_passes, owned_lawful}
use Rattle.ice_journal.specs.Records.{Record}
use Rattle.ice_journal.specs.Nodes.{node_record}
use Rattle.ice_journal.specs.Records as line
use Rattle.ice_journal.specs.Ranges.{IsRecord, IsValue}
use Rattle.ice_section.specs.Section.{Section, no_section, unless_refused, take_good, take_record, good_record}
use Rattle.ice_section.specs.Described.{bidder_records}
use Rattle.ice_section.specs.Taking.{take_records, section_of}
use Rattle.ice_section.specs.Laws.{DescribedAreRecords, DescribedAreTaken}
use Rattle.ice_section.proofs.BidderRecords.{take_then, take_one, bidder_taken}

-- ---- goods

goods_at : Settings → List Good → Section
goods_at settings goods = record { settings = Some settings; goods = goods; bidders = []; draft = None }

pub take_as_good : (s : Section) (name : List ℕ) (exact : Bool) → take_record s (cond exact (line.exact name) (line.good name)) ≡ take_good s (record { name = name; exact = exact })
take_as_good s name true = refl
take_as_good s name false = refl

good_taken : (settings : Settings) (goods : List Good) (good : Good) → is_name good.name ≡ true → list_any (λ other. bytes_eq other.name good.name) goods ≡ false → length goods < 32
    → take_record (goods_at settings goods) (good_record good) ≡ Ok (goods_at settings (goods ++ good ∷ []))
unfolding goods_at
good_taken settings goods good named new few =
    take_as_good (goods_at settings goods) good.name good.exact
    ∙ ap (λ r. unless_refused r (goods_at settings (goods ++ good ∷ []))) (good_passes goods good.name named new few)

goods_taken : (settings : Settings) (before after : List Good) → AreNamed (λ good. good.name) (before ++ after) → length (before ++ after) ≤ 32
    → take_records (goods_at settings before) (map good_record after) ≡ Ok (goods_at settings (before ++ after))
goods_taken settings before [] named few = ap (λ goods. Ok (goods_at settings goods)) (sym (append-nil before))
goods_taken settings before (good ∷ after) named few =
    let next = append_assoc before (good ∷ []) after in
    take_then (goods_at settings before) (goods_at settings (before ++ good ∷ [])) (goods_at settings (before ++ good ∷ after)) (good_record good ∷ []) (map good_record after)
    (take_one (goods_at settings before) (goods_at settings (before ++ good ∷ [])) (good_record good) (
    good_taken settings before good (all_middle (λ n. IsTrue (is_name n)) (λ g. g.name) before good after named.0) (new_among (λ g. g.name) before good after named.1)
    (omega (arith, length-append before (good ∷ after)))))
    (goods_taken settings (before ++ good ∷ []) after (subst (AreNamed (λ g. g.name)) (sym next) named) (omega (arith, ap length next))
    ∙ ap (λ goods. Ok (goods_at settings goods)) next)

-- ---- bidders

abbrev AreOwned : ℕ → List Bidder → Type 0
AreOwned goods bidders = AllByRecursion (λ b. over_sale goods b.tree b.own ≡ None) bidders

bidders_taken : (settings : Option Settings) (goods : List Good) → 1 ≤ length goods → (before after : List Bidder) → AllByRecursion (IsBidder (length goods)) after → AreOwned (length goods) after
    → AreNamed (λ b. b.name) (before ++ after) → length (before ++ after) ≤ 40 → node_count (before ++ after) ≤ 2000
    → take_records (record { settings = settings; goods = goods; bidders = before; draft = None }) (flat_map bidder_records after) ≡ Ok (record { settings = settings; goods = goods; bidders = before ++ after; draft = None })
bidders_taken settings goods some before [] are owned named few few_nodes = ap (λ bs. Ok (record { settings = settings; goods = goods; bidders = bs; draft = None })) (sym (append-nil before))
bidders_taken settings goods some before (b ∷ after) are owned named few few_nodes =
    let next = append_assoc before (b ∷ []) after in
    let count = sum_by-append (λ (x : Bidder). length x.tree) before (b ∷ after) in
    let more = sum_by-cons (λ (x : Bidder). length x.tree) b after in
    let unrefused = bidder_passes (length goods) before b (all_middle (λ n. IsTrue (is_name n)) (λ x. x.name) before b after named.0) (new_among (λ x. x.name) before b after named.1)
    (omega (arith, length-append before (b ∷ after))) (omega (arith, count, more)) owned.0 in
    take_then (record { settings = settings; goods = goods; bidders = before; draft = None }) (record { settings = settings; goods = goods; bidders = before ++ b ∷ []; draft = None })
    (record { settings = settings; goods = goods; bidders = before ++ b ∷ after; draft = None }) (bidder_records b) (flat_map bidder_records after)
    (bidder_taken settings goods before some b are.0 unrefused)
    (bidders_taken settings goods some (before ++ b ∷ []) after are.1 owned.1 (subst (AreNamed (λ x. x.name)) (sym next) named) (omega (arith, ap length next)) (omega (arith, ap node_count next))
    ∙ ap (λ bs. Ok (record { settings = settings; goods = goods; bidders = bs; draft = None })) next)

pub described_are_taken : DescribedAreTaken
unfolding goods_at
described_are_taken ex is =
    take_then no_section (goods_at ex.settings ex.goods) (section_of ex) (line.settings ex.settings ∷ map good_record ex.goods) (flat_map bidder_records ex.bidders)
    (goods_taken ex.settings [] ex.goods (is.goods_named, is.goods) is.goods_count.1)
    (bidders_taken (Some ex.settings) ex.goods is.goods_count.0 [] ex.bidders is.bidders (owned_lawful ex is) (is.bidders_named, is.names) is.bidders_count.1 is.nodes)

-- ---- ranges

all_numbers : (P : Record → Type 0) (f : ℕ → Record) (n : ℕ) → ((k : ℕ) → k < n → P (f k)) → AllByRecursion P (map f (numbers_below n))
all_numbers P f zero each = tt
all_numbers P f (suc n) each =
    subst (AllByRecursion P) (sym (map-append f (numbers_below n) (n ∷ []))) (all-append P (map f (numbers_below n)) (f n ∷ []) (all_numbers P f n (λ k l. each k (omega arith))) (each n (omega arith), tt))

-- where 0 doesn't pass, fewer than n + 1 numbers do
few_numbers : (p : ℕ → Bool) (n : ℕ) → p 0 ≡ false → length (filter p (numbers_below (suc n))) ≤ n
few_numbers p zero first = omega (arith, ap (λ b. length {A = ℕ} (cond b (0 ∷ []) [])) first)
few_numbers p (suc n) first =
    omega (arith, few_numbers p n first, ap length (filter-append p (numbers_below (suc n)) (suc n ∷ [])), length-append (filter p (numbers_below (suc n))) (filter p (suc n ∷ [])), one (p (suc n)))
  where
    one : (b : Bool) → length (cond b (suc n ∷ []) []) ≤ 1
    one true = omega arith
    one false = omega arith

pub few_children : (t : Tree) (p : ℕ) → 0 < length t → length t ≤ 200 → length (children_of t p) ≤ 199
few_children t p some few = by (length t - 1) (omega arith)
  where
    by : (n : ℕ) → length t ≡ suc n → length (children_of t p) ≤ 199
    by n e = omega (arith, few_numbers (is_child t p) n refl, ap (λ m. length (filter (is_child t p) (numbers_below m))) e)

node_is_record : (goods : ℕ) (kind : NodeKind) (children : ℕ) (lo hi : ℤ) → goods ≤ 32 → IsLimitedKind goods kind → IsInterval kind children → children ≤ 199 → IsValue lo → IsValue hi
    → IsRecord (node_record kind children lo hi)
node_is_record goods (Choose least most) children lo hi few fits interval count low high = (omega (arith, interval), omega (arith, interval), count, low, high)
node_is_record goods (Buy good units) children lo hi few fits interval count low high = (omega (arith, fits), (fits.1, fits.2), low, high)
node_is_record goods (Sell good units) children lo hi few fits interval count low high = (omega (arith, fits), (fits.1, fits.2), low, high)

-- the nodes of a tree with its bounds
pub nodes_are_records : (goods : ℕ) (t : Tree) (bounds : Bounds) → goods ≤ 32 → IsLimitedTree goods t → AreBounds (length t) bounds → (n : ℕ) → n < length t
    → IsRecord (node_record (kind_of t n) (length (children_of t n)) (weight_of bounds.lo n) (weight_of bounds.hi n))
nodes_are_records goods t bounds few is are n l =
    node_is_record goods (kind_of t n) (length (children_of t n)) (weight_of bounds.lo n) (weight_of bounds.hi n) few (is.kinds n l) (is.tree.interval n l)
    (few_children t n is.tree.rooted is.count)
    (are.low n l, omega (arith, ints, are.ordered n l, are.high n l)) (omega (arith, ints, are.low n l, are.ordered n l), are.high n l)

bidder_are_records : (goods : ℕ) (b : Bidder) → 1 ≤ goods → goods ≤ 32 → IsTrue (is_name b.name) → IsBidder goods b → AllByRecursion IsRecord (bidder_records b)
bidder_are_records goods b some few named is = (
  (named, (omega (arith, is.own_count), omega (arith, is.own_count)), is.own),
  all_numbers IsRecord (λ n. node_record (kind_of b.tree n) (length (children_of b.tree n)) (weight_of b.bounds.lo n) (weight_of b.bounds.hi n)) (length b.tree)
      (nodes_are_records goods b.tree b.bounds few is.tree is.bounds),
)

good_are_records : (goods : List Good) → AllByRecursion (λ name. IsTrue (is_name name)) (map (λ g. g.name) goods) → AllByRecursion IsRecord (map good_record goods)
good_are_records [] named = tt
good_are_records (good ∷ goods) named = (by good.exact, good_are_records goods named.1)
  where
    by : (exact : Bool) → IsRecord (cond exact (line.exact good.name) (line.good good.name))
    by true = named.0
    by false = named.0

bidders_are_records : (goods : ℕ) (bidders : List Bidder) → 1 ≤ goods → goods ≤ 32 → AllByRecursion (λ name. IsTrue (is_name name)) (map (λ b. b.name) bidders) → AllByRecursion (IsBidder goods) bidders
    → AllByRecursion IsRecord (flat_map bidder_records bidders)
bidders_are_records goods [] some few named are = tt
bidders_are_records goods (b ∷ bidders) some few named are =
    all-append IsRecord (bidder_records b) (flat_map bidder_records bidders) (bidder_are_records goods b some few named.0 are.0) (bidders_are_records goods bidders some few named.1 are.1)

pub described_are_records : DescribedAreRecords
described_are_records ex is = (
  is.settings,
  all-append IsRecord (map good_record ex.goods) (flat_map bidder_records ex.bidders) (good_are_records ex.goods is.goods_named)
      (bidders_are_records (length ex.goods) ex.bidders is.goods_count.0 is.goods_count.1 is.bidders_named is.bidders),
)
