-- What holds of a section after the records that it took, and that those records describe it.
use Rattle.std.proofs.Common.{ℕ, suc, ◌+◌, ◌<◌, ◌≤◌, ◌≡◌, Bool, true, false, cond, ◌||◌, not, eqb, ltb, leb, List, [], ◌∷◌, ◌++◌, map, length, ℤ, Option, Some, None, Result, Ok, Err, refl, arith, ap, sym, ◌∙◌, subst, append_assoc}
use Rattle.std.specs.Prelude.{IsTrue, is_none, is_some}
use Rattle.std.specs.List.{AllByRecursion, IsDistinct, list_any, flat_map}
use Rattle.std.specs.Str.{bytes_eq}
use Rattle.std.proofs.lemmas.Bool.{true≢false, ltb-true, ltb-false, leb-false, eqb-true, eqb-false, and_parts, or_parts, not-false}
use Rattle.std.proofs.lemmas.List.{map-append, append-nil, nil_from_length, length_push}
use Rattle.std.proofs.lemmas.List.Concat.{flat_map-append}
use Rattle.std.proofs.lemmas.List.Sums.{sum_by_push}
use Rattle.ice_defs.specs.declared.NodeKind.{NodeKind}
use Rattle.ice_defs.specs.declared.NodeKind.TheVariants.{Choose, Buy, Sell}
use Rattle.ice_defs.specs.Name.{is_name}
use Rattle.ice_defs.specs.Bounds.{no_bounds}
use Rattle.ice_defs.specs.Making.{node_refusal, good_refusal, node_count, over_sale, bidder_refusal}
use Rattle.ice_defs.specs.Lawful.{IsLimitedTree, AreBounds}
use Rattle.ice_defs.specs.Exchange.{Settings, Good, Bidder}
use Rattle.ice_defs.proofs.Lists.{all_push}
use Rattle.ice_defs.proofs.Choices.{is_none-true, is_some-false, some_refused}
use Rattle.ice_defs.proofs.Naming.{AreNamed, named_push}
use Rattle.ice_journal.specs.Records.{Record}
use Rattle.ice_journal.specs.Nodes.{node_record}
use Rattle.ice_journal.specs.Records as line
use Rattle.ice_section.specs.Section.{SectionFault, order, count, no_good, OpenNode, Draft, Section, no_section, may_end, settings_in, exchange_in, take_settings, unless_refused, take_good, take_bidder, with_node, add_bidder, go_on, open_after, names_no_good, unless_unmade, take_node_of, take_node_at, take_node, take_record, good_record}
use Rattle.ice_section.specs.Described.{bidder_records, section_records}
use Rattle.ice_section.specs.Taking.{unless_fault, take_records}
use Rattle.ice_section.proofs.NewNode.{with_last}
use Rattle.ice_section.proofs.OpenNodes.{IsLeafCount}
use Rattle.ice_section.proofs.Drafts.{drafted, drafted_more, drafted_complete, IsDraft, IsDraft-begun, IsDraftGrown, draft_grown, limited_complete}

-- ---- what holds

-- a bidder with its whole tree
pub record IsBuilt (goods : ℕ) (b : Bidder) : Type 0 where
  pub tree : IsLimitedTree goods b.tree
  pub bounds : AreBounds (length b.tree) b.bounds
  pub own_count : length b.own ≡ goods
  pub sold : over_sale goods b.tree b.own ≡ None

-- the records of a bidder whose tree isn't complete
abbrev pub IsDrafted : ℕ → Option Draft → List Record → Type 0
IsDrafted goods None records = records ≡ []
IsDrafted goods (Some d) records = (stated : ℕ → ℕ) × (depth : ℕ → ℕ) × IsDraft goods d.bidder d.opened stated depth × (records ≡ drafted d.bidder stated)

abbrev pub settings_records : Option Settings → List Record
settings_records None = []
settings_records (Some settings) = line.settings settings ∷ []

abbrev pub described : Option Settings → List Good → List Bidder → List Record → List Record
described settings goods bidders rest = settings_records settings ++ (map good_record goods ++ (flat_map bidder_records bidders ++ rest))

pub record Stands (s : Section) (records : List Record) : Type 0 where
  pub goods_count : length s.goods ≤ 32
  pub goods_named : AreNamed (λ good. good.name) s.goods
  pub bidders_count : length s.bidders ≤ 40
  pub bidders_named : AreNamed (λ bidder. bidder.name) s.bidders
  pub nodes : node_count s.bidders ≤ 2000
  pub built : AllByRecursion (IsBuilt (length s.goods)) s.bidders
  pub no_settings : s.settings ≡ None → s.goods ≡ []
  pub no_goods : s.goods ≡ [] → (s.bidders ≡ []) × (s.draft ≡ None)
  pub told : (rest : List Record) × IsDrafted (length s.goods) s.draft rest × (records ≡ described s.settings s.goods s.bidders rest)

-- ---- steps

pub ok_if : (b : Bool) (s after : Section) (fault : SectionFault) → cond b (Ok s) (Err fault) ≡ Ok after → (b ≡ true) × (s ≡ after)
ok_if true s after fault e = (refl, cc)
ok_if false s after fault e = absurd cc

pub ok_unless : (b : Bool) (next : Result Section SectionFault) (after : Section) (fault : SectionFault) → cond b (Err fault) next ≡ Ok after → (b ≡ false) × (next ≡ Ok after)
ok_unless true next after fault e = absurd cc
ok_unless false next after fault e = (refl, e)

pub unless_refused_ok : (refusal : Option ℕ) (s after : Section) → unless_refused refusal s ≡ Ok after → (refusal ≡ None) × (s ≡ after)
unless_refused_ok (Some number) s after e = absurd cc
unless_refused_ok None s after e = (refl, cc)

pub unless_unmade_ok : (refusal : Option ℕ) (next : Result Section SectionFault) (after : Section) → unless_unmade refusal next ≡ Ok after → (refusal ≡ None) × (next ≡ Ok after)
unless_unmade_ok (Some number) next after e = absurd cc
unless_unmade_ok None next after e = (refl, e)

-- one more record at the end
described_push : (settings : Option Settings) (goods : List Good) (bidders : List Bidder) (rest : List Record) (r : Record) → described settings goods bidders rest ++ r ∷ [] ≡ described settings goods bidders (rest ++ r ∷ [])
described_push settings goods bidders rest r =
    append_assoc (settings_records settings) (map good_record goods ++ (flat_map bidder_records bidders ++ rest)) (r ∷ [])
    ∙ ap (λ l. settings_records settings ++ l) (
    append_assoc (map good_record goods) (flat_map bidder_records bidders ++ rest) (r ∷ [])
    ∙ ap (λ l. map good_record goods ++ l) (append_assoc (flat_map bidder_records bidders) rest (r ∷ [])))

described_same : (a b : Option Settings) (goods more : List Good) (bidders others : List Bidder) (rest last : List Record) → a ≡ b → goods ≡ more → bidders ≡ others → rest ≡ last → described a goods bidders rest ≡ described b more others last
described_same a b goods more bidders others rest last p q r s =
    ap (λ x. described x goods bidders rest) p ∙ ap (λ x. described b x bidders rest) q ∙ ap (λ x. described b more x rest) r ∙ ap (λ x. described b more others x) s

-- settings
settings_stands : (s : Section) (records : List Record) (settings : Settings) (after : Section) → Stands s records → take_settings s settings ≡ Ok after → Stands after (records ++ line.settings settings ∷ [])
settings_stands s records settings after is e =
    let (none, same) = ok_if (is_none s.settings) (record s { settings = Some settings }) after order e in
    let unset : s.settings ≡ None = is_none-true s.settings none in
    let no_good_yet : s.goods ≡ [] = is.no_settings unset in
    let (no_bidder, no_draft) = is.no_goods no_good_yet in
    let (rest, of_draft, are) = is.told in
    let no_rest : rest ≡ [] = subst (λ d. IsDrafted (length s.goods) d rest) no_draft of_draft in
    subst (λ x. Stands x (records ++ line.settings settings ∷ [])) same (record {
      goods_count = is.goods_count;
      goods_named = is.goods_named;
      bidders_count = is.bidders_count;
      bidders_named = is.bidders_named;
      nodes = is.nodes;
      built = is.built;
      no_settings = λ f. absurd cc;
      no_goods = is.no_goods;
      told = (
        rest,
        of_draft,
        ap (λ l. l ++ line.settings settings ∷ []) (are ∙ described_same _ _ _ _ _ _ _ _ unset no_good_yet no_bidder no_rest)
            ∙ sym (described_same (Some settings) (Some settings) s.goods [] s.bidders [] rest [] refl no_good_yet no_bidder no_rest),
      );
    })

-- a good
good_stands : (s : Section) (records : List Record) (good : Good) (after : Section) → Stands s records → take_good s good ≡ Ok after → Stands after (records ++ good_record good ∷ [])
good_stands s records good after is e =
    let (may, e₁) = ok_unless (is_none s.settings || ltb 0 (length s.bidders) || is_some s.draft) _ after order e in
    let (earlier, draft_none) = or_parts (is_none s.settings || ltb 0 (length s.bidders)) (is_some s.draft) may in
    let (set_before, bidder_none) = or_parts (is_none s.settings) (ltb 0 (length s.bidders)) earlier in
    let no_draft : s.draft ≡ None = is_some-false s.draft draft_none in
    let no_bidder : s.bidders ≡ [] = nil_from_length s.bidders (omega (arith, ltb-false 0 (length s.bidders) bidder_none)) in
    let (unrefused, same) = unless_refused_ok (good_refusal s.goods s.bidders good.name) (record s { goods = s.goods ++ good ∷ [] }) after e₁ in
    let (f₁, r₁) = some_refused (ltb 0 (length s.bidders)) _ _ unrefused in
    let (named, r₂) = some_refused (not (is_name good.name)) _ _ r₁ in
    let (new, r₃) = some_refused (list_any (λ other. bytes_eq other.name good.name) s.goods) _ _ r₂ in
    let (few, r₄) = some_refused (leb 32 (length s.goods)) _ _ r₃ in
    let (rest, of_draft, are) = is.told in
    let no_rest : rest ≡ [] = subst (λ d. IsDrafted (length s.goods) d rest) no_draft of_draft in
    subst (λ x. Stands x (records ++ good_record good ∷ [])) same (record {
      goods_count = omega (arith, length_push s.goods good, leb-false 32 (length s.goods) few);
      goods_named = named_push (λ g. g.name) s.goods good is.goods_named (not-false _ named) new;
      bidders_count = is.bidders_count;
      bidders_named = is.bidders_named;
      nodes = is.nodes;
      built = subst (λ bs. AllByRecursion (IsBuilt (length (s.goods ++ good ∷ []))) bs) (sym no_bidder) tt;
      no_settings = λ f. absurd (true≢false (sym (ap is_none f) ∙ set_before));
      no_goods = λ f. absurd (omega (arith, ap length f, length_push s.goods good));
      told = (
        rest,
        subst (λ d. IsDrafted (length (s.goods ++ good ∷ [])) d rest) (sym no_draft) no_rest,
        ap (λ l. l ++ good_record good ∷ []) (are ∙ described_same _ _ s.goods s.goods _ _ _ _ refl refl no_bidder no_rest)
            ∙ described_push s.settings s.goods [] [] (good_record good)
            ∙ ap (λ l. settings_records s.settings ++ l) (sym (map-append good_record s.goods (good ∷ [])) ∙ sym (append-nil (map good_record (s.goods ++ good ∷ []))))
            ∙ sym (described_same s.settings s.settings (s.goods ++ good ∷ []) (s.goods ++ good ∷ []) s.bidders [] rest [] refl refl no_bidder no_rest),
      );
    })

-- a bidder
bidder_stands : (s : Section) (records : List Record) (name own : List ℕ) (after : Section) → Stands s records → take_bidder s name own ≡ Ok after → Stands after (records ++ line.bidder name own ∷ [])
bidder_stands s records name own after is e =
    let (some, e₁) = ok_unless (eqb (length s.goods) 0) _ after order e in
    let (draft_none, e₂) = ok_unless (is_some s.draft) _ after order e₁ in
    let (counted, e₃) = ok_unless (not (eqb (length own) (length s.goods))) _ after count e₂ in
    let no_draft : s.draft ≡ None = is_some-false s.draft draft_none in
    let begun : Draft = record { bidder = record { name = name; own = own; tree = []; bounds = no_bounds }; opened = [] } in
    let same : record s { draft = Some begun } ≡ after = cc in
    let (rest, of_draft, are) = is.told in
    let no_rest : rest ≡ [] = subst (λ d. IsDrafted (length s.goods) d rest) no_draft of_draft in
    let there : length s.goods ≡ 0 → ⊥ = eqb-false (length s.goods) 0 some in
    subst (λ x. Stands x (records ++ line.bidder name own ∷ [])) same (record {
      goods_count = is.goods_count;
      goods_named = is.goods_named;
      bidders_count = is.bidders_count;
      bidders_named = is.bidders_named;
      nodes = is.nodes;
      built = is.built;
      no_settings = is.no_settings;
      no_goods = λ f. absurd (there (ap length f));
      told = (
        line.bidder name own ∷ [],
        (λ n. 0, λ n. 1, IsDraft-begun (length s.goods) name own (λ n. 0) (λ n. 1) refl (eqb-true _ _ (not-false _ counted)), refl),
        ap (λ l. l ++ line.bidder name own ∷ []) (are ∙ described_same _ _ _ _ _ _ _ _ refl refl refl no_rest)
            ∙ described_push s.settings s.goods s.bidders [] (line.bidder name own),
      );
    })

-- ---- nodes

-- the draft has one more node
module _ (s : Section) (records : List Record) (is : Stands s records) (there : s.goods ≡ [] → ⊥) (rest : List Record)
    (are : records ≡ described s.settings s.goods s.bidders rest) (b : Bidder) (stated depth : ℕ → ℕ) (r : Record) (told : rest ++ r ∷ [] ≡ drafted b stated) where
  drafted_now : records ++ r ∷ [] ≡ described s.settings s.goods s.bidders (drafted b stated)
  drafted_now = ap (λ l. l ++ r ∷ []) are ∙ described_push s.settings s.goods s.bidders rest r ∙ ap (described s.settings s.goods s.bidders) told

  node_stands : (opened : List OpenNode) → 0 < length opened → IsDraftGrown (length s.goods) b opened stated depth
      → Stands (record s { draft = Some (record { bidder = b; opened = opened }) }) (records ++ r ∷ [])
  node_stands opened some grown = record {
    goods_count = is.goods_count;
    goods_named = is.goods_named;
    bidders_count = is.bidders_count;
    bidders_named = is.bidders_named;
    nodes = is.nodes;
    built = is.built;
    no_settings = is.no_settings;
    no_goods = λ f. absurd (there f);
    told = (drafted b stated, (stated, depth, record { shaped = grown.shaped; started = λ l. some; waiting = grown.waiting; closed = grown.closed; own_count = grown.own_count }, refl), drafted_now);
  }

  last_stands : (after : Section) → add_bidder s b ≡ Ok after → IsDraftGrown (length s.goods) b [] stated depth → Stands after (records ++ r ∷ [])
  last_stands after e grown =
      let (unrefused, same) = unless_refused_ok (bidder_refusal (length s.goods) s.bidders b) (record s { bidders = s.bidders ++ b ∷ []; draft = None }) after e in
      let (named, r₁) = some_refused (not (is_name b.name)) _ _ unrefused in
      let (new, r₂) = some_refused (list_any (λ other. bytes_eq other.name b.name) s.bidders) _ _ r₁ in
      let (few, r₃) = some_refused (leb 40 (length s.bidders) || ltb 2000 (node_count s.bidders + length b.tree)) _ _ r₂ in
      let (sold, r₄) = some_refused (is_some (over_sale (length s.goods) b.tree b.own)) _ _ r₃ in
      let (few_bidders, few_nodes) = or_parts (leb 40 (length s.bidders)) (ltb 2000 (node_count s.bidders + length b.tree)) few in
      subst (λ x. Stands x (records ++ r ∷ [])) same (record {
        goods_count = is.goods_count;
        goods_named = is.goods_named;
        bidders_count = omega (arith, length_push s.bidders b, leb-false 40 (length s.bidders) few_bidders);
        bidders_named = named_push (λ x. x.name) s.bidders b is.bidders_named (not-false _ named) new;
        nodes = omega (arith, sum_by_push (λ x. length x.tree) s.bidders b, ltb-false 2000 (node_count s.bidders + length b.tree) few_nodes);
        built = all_push (IsBuilt (length s.goods)) s.bidders b is.built (record {
          tree = limited_complete (length s.goods) b stated depth grown;
          bounds = grown.shaped.values;
          own_count = grown.own_count;
          sold = is_some-false _ sold;
        });
        no_settings = is.no_settings;
        no_goods = λ f. absurd (there f);
        told = (
          [],
          refl,
          drafted_now
              ∙ ap (λ l. described s.settings s.goods s.bidders l) (drafted_complete b stated grown.closed)
              ∙ ap (λ l. settings_records s.settings ++ (map good_record s.goods ++ l)) (
              ap (λ l. flat_map bidder_records s.bidders ++ l) (sym (append-nil (bidder_records b)))
              ∙ sym (flat_map-append bidder_records s.bidders (b ∷ []))
              ∙ sym (append-nil (flat_map bidder_records (s.bidders ++ b ∷ [])))),
        );
      })

node_of_stands : (s : Section) (records : List Record) (draft : Draft) (kind : NodeKind) (children : ℕ) (lo hi : ℤ) (after : Section) → Stands s records → IsLeafCount kind children
    → s.draft ≡ Some draft → take_node_of s draft kind children lo hi ≡ Ok after → Stands after (records ++ node_record kind children lo hi ∷ [])
node_of_stands s records draft kind children lo hi after is leaf drafting e =
    let b : Bidder = draft.bidder in
    let (known, e₁) = ok_unless (names_no_good kind (length s.goods)) _ after no_good e in
    let (unrefused, e₂) = unless_unmade_ok (node_refusal (length s.goods) (length draft.bidder.tree) (suc (length draft.opened)) kind lo hi) _ after e₁ in
    let (rest, of_draft, are) = is.told in
    let (stated, depth, was, told) = subst (λ d. IsDrafted (length s.goods) d rest) drafting of_draft in
    let there = λ (f : s.goods ≡ []). some_drafting (is.no_goods f).1 in
    by stated depth rest are was unrefused (ap (λ l. l ++ node_record kind children lo hi ∷ []) told ∙ sym (drafted_more draft.bidder draft.opened stated kind children lo hi was.shaped.values)) there
    (open_after kind (length draft.bidder.tree) children draft.opened) refl e₂
  where
    some_drafting : s.draft ≡ None → ⊥
    some_drafting f = let e : None ≡ Some draft = sym f ∙ drafting in absurd cc

    by : (stated depth : ℕ → ℕ) (rest : List Record) → records ≡ described s.settings s.goods s.bidders rest → IsDraft (length s.goods) draft.bidder draft.opened stated depth
        → node_refusal (length s.goods) (length draft.bidder.tree) (suc (length draft.opened)) kind lo hi ≡ None
        → rest ++ node_record kind children lo hi ∷ [] ≡ drafted (with_node draft.bidder draft.opened kind lo hi) (with_last (length draft.bidder.tree) children stated)
        → (s.goods ≡ [] → ⊥)
        → (opened : Result (List OpenNode) SectionFault) → open_after kind (length draft.bidder.tree) children draft.opened ≡ opened
        → go_on s (with_node draft.bidder draft.opened kind lo hi) opened ≡ Ok after → Stands after (records ++ node_record kind children lo hi ∷ [])
    by stated depth rest are was unrefused told there (Err fault) opens e = absurd cc
    by stated depth rest are was unrefused told there (Ok []) opens e =
        last_stands s records is there rest are (with_node draft.bidder draft.opened kind lo hi) (with_last (length draft.bidder.tree) children stated)
        (with_last (length draft.bidder.tree) (suc (length draft.opened)) depth) (node_record kind children lo hi) told after e
        (draft_grown (length s.goods) draft.bidder draft.opened [] stated depth kind children lo hi was unrefused leaf opens)
    by stated depth rest are was unrefused told there (Ok (o ∷ outer)) opens e =
        let same : record s { draft = Some (record { bidder = with_node draft.bidder draft.opened kind lo hi; opened = o ∷ outer }) } ≡ after = cc in
        subst (λ x. Stands x (records ++ node_record kind children lo hi ∷ [])) same (
        node_stands s records is there rest are (with_node draft.bidder draft.opened kind lo hi) (with_last (length draft.bidder.tree) children stated)
        (with_last (length draft.bidder.tree) (suc (length draft.opened)) depth) (node_record kind children lo hi) told (o ∷ outer) (omega arith)
        (draft_grown (length s.goods) draft.bidder draft.opened (o ∷ outer) stated depth kind children lo hi was unrefused leaf opens))

node_at_stands : (s : Section) (records : List Record) (kind : NodeKind) (children : ℕ) (lo hi : ℤ) (after : Section) → Stands s records → IsLeafCount kind children
    → take_node s kind children lo hi ≡ Ok after → Stands after (records ++ node_record kind children lo hi ∷ [])
node_at_stands s records kind children lo hi after is leaf e = by s.draft refl e
  where
    by : (draft : Option Draft) → s.draft ≡ draft → take_node_at s draft kind children lo hi ≡ Ok after → Stands after (records ++ node_record kind children lo hi ∷ [])
    by None none e = absurd cc
    by (Some draft) drafting e = node_of_stands s records draft kind children lo hi after is leaf drafting e

-- ---- any record

pub record_stands : (s : Section) (records : List Record) (r : Record) (after : Section) → Stands s records → take_record s r ≡ Ok after → Stands after (records ++ r ∷ [])
record_stands s records (line.settings settings) after is e = settings_stands s records settings after is e
record_stands s records (line.good name) after is e = good_stands s records (record { name = name; exact = false }) after is e
record_stands s records (line.exact name) after is e = good_stands s records (record { name = name; exact = true }) after is e
record_stands s records (line.bidder name own) after is e = bidder_stands s records name own after is e
record_stands s records (line.choose least most children lo hi) after is e = node_at_stands s records (Choose least most) children lo hi after is tt e
record_stands s records (line.buy good units lo hi) after is e = node_at_stands s records (Buy good units) 0 lo hi after is refl e
record_stands s records (line.sell good units lo hi) after is e = node_at_stands s records (Sell good units) 0 lo hi after is refl e
record_stands s records other after is e = absurd cc

pub no_section_stands : Stands no_section []
unfolding IsDistinct
no_section_stands = record {
  goods_count = omega arith;
  goods_named = (tt, tt);
  bidders_count = omega arith;
  bidders_named = (tt, tt);
  nodes = omega arith;
  built = tt;
  no_settings = λ e. refl;
  no_goods = λ e. (refl, refl);
  told = ([], refl, refl);
}

pub records_stand : (s : Section) (before records : List Record) (after : Section) → Stands s before → take_records s records ≡ Ok after → Stands after (before ++ records)
records_stand s before [] after is e =
    let same : s ≡ after = cc in
    subst (λ x. Stands x (before ++ [])) same (subst (Stands s) (sym (append-nil before)) is)
records_stand s before (r ∷ rest) after is e = by (take_record s r) refl e (λ next taken later. records_stand next (before ++ r ∷ []) rest after (record_stands s before r next is taken) later)
  where
    by : (found : Result Section SectionFault) → take_record s r ≡ found → unless_fault found (λ next. take_records next rest) ≡ Ok after
        → ((next : Section) → take_record s r ≡ Ok next → take_records next rest ≡ Ok after → Stands after (before ++ r ∷ [] ++ rest)) → Stands after (before ++ r ∷ rest)
    by (Err fault) is e go = absurd cc
    by (Ok next) is e go = subst (Stands after) (append_assoc before (r ∷ []) rest) (go next is e)

-- ---- where the section may end

pub record IsWhole (s : Section) : Type 0 where
  pub settings : is_some s.settings ≡ true
  pub good_there : 1 ≤ length s.goods
  pub bidder_there : 1 ≤ length s.bidders
  pub draft : s.draft ≡ None

pub whole : (s : Section) (records : List Record) → Stands s records → IsTrue (may_end s) → IsWhole s
whole s records is ends =
    let (bidder, draft) = and_parts (ltb 0 (length s.bidders)) (is_none s.draft) ends in
    let some : 0 < length s.bidders = ltb-true 0 (length s.bidders) bidder in
    let good : s.goods ≡ [] → ⊥ = λ f. omega (arith, ap length (is.no_goods f).0) in
    record {
      settings = by s.settings (λ f. good (is.no_settings f));
      good_there = there s.goods good;
      bidder_there = some;
      draft = is_none-true s.draft draft;
    }
  where
    by : (o : Option Settings) → (o ≡ None → ⊥) → is_some o ≡ true
    by None f = absurd (f refl)
    by (Some x) f = refl

    there : (goods : List Good) → (goods ≡ [] → ⊥) → 1 ≤ length goods
    there [] f = absurd (f refl)
    there (x ∷ xs) f = omega arith

-- the records describe the exchange
pub described_whole : (s : Section) (records : List Record) → Stands s records → IsTrue (may_end s) → records ≡ section_records (exchange_in s)
described_whole s records is ends =
    let ended = whole s records is ends in
    let (rest, of_draft, are) = is.told in
    let no_rest : rest ≡ [] = subst (λ d. IsDrafted (length s.goods) d rest) ended.draft of_draft in
    are
    ∙ ap (described s.settings s.goods s.bidders) no_rest
    ∙ ap (λ l. settings_records s.settings ++ (map good_record s.goods ++ l)) (append-nil (flat_map bidder_records s.bidders))
    ∙ ap (λ l. l ++ (map good_record s.goods ++ flat_map bidder_records s.bidders)) (by s.settings ended.settings)
  where
    by : (o : Option Settings) → is_some o ≡ true → settings_records o ≡ line.settings (settings_in o) ∷ []
    by None f = absurd cc
    by (Some x) f = refl
