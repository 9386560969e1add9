-- The audit passes over the section of one bidder's exchange.
use Rattle.std.proofs.Common.{◌≡◌, ℕ, suc, ◌<◌, Bool, true, false, cond, List, [], ◌∷◌, ◌++◌, map, length, ℤ, refl, sym, ◌∙◌, ap, subst, arith, Result, Ok, Err, ◌⊎◌, inl, inr}
use Rattle.std.specs.Prelude.{◌==◌, ◌&&◌, ◌||◌, not, is_none, is_some, Option, Some, None, option_map, nat_lt}
use Rattle.std.specs.List.{flat_map}
use Rattle.std.proofs.lemmas.List.{append-nil}
use Rattle.std.proofs.lemmas.List.Concat.{flat_map-cons}
use Rattle.std.proofs.lemmas.Bool.{true≢false}
use Rattle.ice_defs.proofs.Naming.{bytes_eq-same}
use Rattle.ice_defs.specs.declared.NodeKind.{NodeKind}
use Rattle.ice_defs.specs.declared.NodeKind.TheVariants.{Choose, Buy, Sell}
use Rattle.ice_defs.specs.Exchange.{Settings, Good, Bidder}
use Rattle.ice_defs.specs.Making.{node_refusal, good_refusal, bidder_refusal}
use Rattle.ice_defs.specs.Sum.{numbers_below}
use Rattle.ice_defs.specs.Tree.{kind_of, children_of}
use Rattle.ice_defs.specs.Set.{weight_of}
use Rattle.ice_defs.specs.Bounds.{no_bounds}
use Rattle.ice_journal.specs.Records.{Record}
use Rattle.ice_journal.specs.Records as line
use Rattle.ice_journal.specs.Nodes.{node_record}
use Rattle.ice_section.specs.Section.{SectionFault, order, count, good_record, take_good, take_bidder, OpenNode, Draft, Section, no_section, may_end, unless_refused, unless_unmade, go_on, with_node, open_after, names_no_good, take_node_at, take_record}
use Rattle.ice_section.specs.Described.{node_records, bidder_records, section_records}
use Rattle.ice_section.specs.Taking.{unless_fault, take_records}
use Rattle.ice_journal_laws.specs.Tests.{is_refusal}
use Rattle.ice_statement_laws.specs.Statement.{StatementLine, shown}
use Rattle.ice_statement_laws.specs.Audit.{at_section, AuditState, audit_begun, bidder_at, begin_settlement, is_named, with_section, to_line, audit_next, Audited, goes_on}
use Rattle.ice_statement_laws.proofs.Walking.{quiet}

-- ---- nodes behind a complete bidder are refused

-- a bidder is there
abbrev pub HasBidder : Section → Type 0
HasBidder s = (0 < length s.bidders) × (s.draft ≡ None)

node_refused : (s : Section) (kind : NodeKind) (children : ℕ) (lo hi : ℤ) → s.draft ≡ None → take_record s (node_record kind children lo hi) ≡ Err order
node_refused s (Choose least most) children lo hi e = ap (λ (d : Option Draft). take_node_at s d (Choose least most) children lo hi) e
node_refused s (Buy good units) children lo hi e = ap (λ (d : Option Draft). take_node_at s d (Buy good units) 0 lo hi) e
node_refused s (Sell good units) children lo hi e = ap (λ (d : Option Draft). take_node_at s d (Sell good units) 0 lo hi) e

-- no bidder is complete yet
abbrev IsBefore : Section → Type 0
IsBefore s = s.bidders ≡ []

ok_same : (s t : Section) → (let o : Result Section SectionFault = Ok s in o) ≡ Ok t → s ≡ t
ok_same s t e = cc

ok_err : {A : Type 0} (f : SectionFault) (t : Section) → (let o : Result Section SectionFault = Err f in o) ≡ Ok t → A
ok_err f t e = absurd cc

-- what a record of the section leaves
abbrev Leaves : Section → Type 0
Leaves after = IsBefore after ⊎ HasBidder after

refused_or : (refusal : Option ℕ) (s after : Section) → HasBidder s → unless_refused refusal s ≡ Ok after → HasBidder after
refused_or None s after has e = subst HasBidder (ok_same s after e) has
refused_or (Some number) s after has e = ok_err _ after e

went : (s : Section) (b : Bidder) (o : Result (List OpenNode) SectionFault) (after : Section) → IsBefore s → go_on s b o ≡ Ok after → Leaves after
went s b (Err fault) after none e = ok_err fault after e
went s b (Ok []) after none e = inr (refused_or (bidder_refusal (length s.goods) s.bidders b) (record s { bidders = s.bidders ++ b ∷ []; draft = None }) after (subst (λ (bs : List Bidder). 0 < length (bs ++ b ∷ [])) (sym none) (omega arith), refl) e)
went s b (Ok (node ∷ outer)) after none e = inl (subst IsBefore (ok_same (record s { draft = Some (record { bidder = b; opened = node ∷ outer }) }) after e) none)

unmade_or : (refusal : Option ℕ) (next : Result Section SectionFault) (after : Section) → (next ≡ Ok after → Leaves after) → unless_unmade refusal next ≡ Ok after → Leaves after
unmade_or None next after leaves e = leaves e
unmade_or (Some number) next after leaves e = ok_err _ after e

named_or : (b : Bool) (next : Result Section SectionFault) (fault : SectionFault) (after : Section) → (next ≡ Ok after → Leaves after) → cond b (Err fault) next ≡ Ok after → Leaves after
named_or true next fault after leaves e = ok_err fault after e
named_or false next fault after leaves e = leaves e

noded : (s : Section) (d : Option Draft) (kind : NodeKind) (children : ℕ) (lo hi : ℤ) (after : Section) → IsBefore s → take_node_at s d kind children lo hi ≡ Ok after → Leaves after
noded s None kind children lo hi after none e = ok_err order after e
noded s (Some draft) kind children lo hi after none e =
    named_or (names_no_good kind (length s.goods)) _ _ after
    (unmade_or (node_refusal (length s.goods) (length draft.bidder.tree) (suc (length draft.opened)) kind lo hi) _ after
    (went s (with_node draft.bidder draft.opened kind lo hi) (open_after kind (length draft.bidder.tree) children draft.opened) after none))
    e

node_leaves : (s : Section) (kind : NodeKind) (children : ℕ) (lo hi : ℤ) (after : Section) → IsBefore s → take_record s (node_record kind children lo hi) ≡ Ok after → Leaves after
node_leaves s (Choose least most) children lo hi after none e = noded s s.draft (Choose least most) children lo hi after none e
node_leaves s (Buy good units) children lo hi after none e = noded s s.draft (Buy good units) 0 lo hi after none e
node_leaves s (Sell good units) children lo hi after none e = noded s s.draft (Sell good units) 0 lo hi after none e

-- ---- a run of records, each where no bidder is complete yet

abbrev IsNamed : List ℕ → Record → Type 0
IsNamed name (line.bidder other own) = other ≡ name
IsNamed name other = Unit {0}

pub data Runs (name : List ℕ) : Section → List Record → Section → Type 0 where
  ran : {s : Section} → Runs name s [] s
  runs : {s after t : Section} {r : Record} {rest : List Record} → IsBefore s → IsNamed name r → take_record s r ≡ Ok after → Runs name after rest t → Runs name s (r ∷ rest) t

pub runs_on : (name : List ℕ) (s t u : Section) (xs ys : List Record) → Runs name s xs t → Runs name t ys u → Runs name s (xs ++ ys) u
runs_on name s t u [] ys ran more = more
runs_on name s t u (r ∷ xs) ys (runs {after = after} none is e later) more = runs none is e (runs_on name after t u xs ys later more)

node_named : (name : List ℕ) (kind : NodeKind) (children : ℕ) (lo hi : ℤ) → IsNamed name (node_record kind children lo hi)
node_named name (Choose least most) children lo hi = tt
node_named name (Buy good units) children lo hi = tt
node_named name (Sell good units) children lo hi = tt

module _ (name : List ℕ) (kind : ℕ → NodeKind) (children : ℕ → ℕ) (lo hi : ℕ → ℤ) where
  abbrev node : ℕ → Record
  node n = node_record (kind n) (children n) (lo n) (hi n)

  pub nodes_run : (ns : List ℕ) (s t : Section) → IsBefore s → take_records s (map node ns) ≡ Ok t → Runs name s (map node ns) t
  nodes_run [] s t none e = subst (λ (x : Section). Runs name s [] x) (ok_same s t e) ran
  nodes_run (n ∷ ns) s t none e = by (take_record s (node n)) refl e (λ after b f. nodes_run ns after t b f)
    where
      last : (ms : List ℕ) (after : Section) → HasBidder after → take_records after (map node ms) ≡ Ok t → Runs name after (map node ms) t
      last [] after has f = subst (λ (x : Section). Runs name after [] x) (ok_same after t f) ran
      last (m ∷ ms) after has f = ok_err order t (sym (ap (λ (o : Result Section SectionFault). unless_fault o (λ next. take_records next (map node ms))) (node_refused after (kind m) (children m) (lo m) (hi m) has.1)) ∙ f)

      by : (o : Result Section SectionFault) → take_record s (node n) ≡ o → unless_fault o (λ next. take_records next (map node ns)) ≡ Ok t
          → ((after : Section) → IsBefore after → take_records after (map node ns) ≡ Ok t → Runs name after (map node ns) t) → Runs name s (node n ∷ map node ns) t
      by (Err fault) is f more = ok_err fault t f
      by (Ok after) is f more = runs none (node_named name (kind n) (children n) (lo n) (hi n)) is (left (node_leaves s (kind n) (children n) (lo n) (hi n) after none is))
        where
          left : Leaves after → Runs name after (map node ns) t
          left (inl before) = more after before f
          left (inr has) = last ns after has f

-- ---- the records before the nodes

-- records one behind the other
parted : (s t : Section) (xs ys : List Record) → take_records s (xs ++ ys) ≡ Ok t → (mid : Section) × (take_records s xs ≡ Ok mid) × (take_records mid ys ≡ Ok t)
parted s t [] ys e = (s, refl, e)
parted s t (r ∷ xs) ys e = by (take_record s r) refl e (λ after f. parted after t xs ys f)
  where
    by : (o : Result Section SectionFault) → take_record s r ≡ o → unless_fault o (λ next. take_records next (xs ++ ys)) ≡ Ok t
        → ((after : Section) → take_records after (xs ++ ys) ≡ Ok t → (mid : Section) × (take_records after xs ≡ Ok mid) × (take_records mid ys ≡ Ok t))
        → (mid : Section) × (unless_fault (take_record s r) (λ next. take_records next xs) ≡ Ok mid) × (take_records mid ys ≡ Ok t)
    by (Err fault) is f more = ok_err fault t f
    by (Ok after) is f more =
        let (mid, first, second) = more after f in
        (mid, ap (λ (o : Result Section SectionFault). unless_fault o (λ next. take_records next xs)) is ∙ first, second)

same_refused : (refusal : Option ℕ) (s after : Section) → IsBefore s → unless_refused refusal s ≡ Ok after → IsBefore after
same_refused None s after none e = subst IsBefore (ok_same s after e) none
same_refused (Some number) s after none e = ok_err _ after e

kept_unless : (b : Bool) (next : Result Section SectionFault) (fault : SectionFault) (after : Section) → (next ≡ Ok after → IsBefore after) → cond b (Err fault) next ≡ Ok after → IsBefore after
kept_unless true next fault after stays e = ok_err fault after e
kept_unless false next fault after stays e = stays e

good_stays : (s : Section) (g : Good) (after : Section) → IsBefore s → take_good s g ≡ Ok after → IsBefore after
good_stays s g after none e =
    kept_unless (is_none s.settings || nat_lt 0 (length s.bidders) || is_some s.draft) _ order after (same_refused (good_refusal s.goods s.bidders g.name) (record s { goods = s.goods ++ g ∷ [] }) after none) e

good_as : (s : Section) (g : Good) → take_record s (good_record g) ≡ take_good s g
good_as s g = by g.exact
  where
    by : (b : Bool) → take_record s (cond b (line.exact g.name) (line.good g.name)) ≡ take_good s (record { name = g.name; exact = b })
    by true = refl
    by false = refl

good_named : (name : List ℕ) (g : Good) → IsNamed name (good_record g)
good_named name g = by g.exact
  where
    by : (b : Bool) → IsNamed name (cond b (line.exact g.name) (line.good g.name))
    by true = tt
    by false = tt

goods_run : (name : List ℕ) (goods : List Good) (s t : Section) → IsBefore s → take_records s (map good_record goods) ≡ Ok t → Runs name s (map good_record goods) t × IsBefore t
goods_run name [] s t none e = (subst (λ (x : Section). Runs name s [] x) (ok_same s t e) ran, subst IsBefore (ok_same s t e) none)
goods_run name (g ∷ goods) s t none e = by (take_record s (good_record g)) refl e (λ after b f. goods_run name goods after t b f)
  where
    by : (o : Result Section SectionFault) → take_record s (good_record g) ≡ o → unless_fault o (λ next. take_records next (map good_record goods)) ≡ Ok t
        → ((after : Section) → IsBefore after → take_records after (map good_record goods) ≡ Ok t → Runs name after (map good_record goods) t × IsBefore t)
        → Runs name s (good_record g ∷ map good_record goods) t × IsBefore t
    by (Err fault) is f more = ok_err fault t f
    by (Ok after) is f more =
        let (run, before) = more after (good_stays s g after none (sym (good_as s g) ∙ is)) f in
        (runs none (good_named name g) is run, before)

bidder_stays : (s : Section) (name own : List ℕ) (after : Section) → IsBefore s → take_bidder s name own ≡ Ok after → IsBefore after
bidder_stays s name own after none e =
    kept_unless (length s.goods == 0) _ order after
    (kept_unless (is_some s.draft) _ order after
    (kept_unless (not (length own == length s.goods)) _ count after
    (λ f. subst IsBefore (ok_same (record s { draft = Some (record { bidder = record { name = name; own = own; tree = []; bounds = no_bounds }; opened = [] }) }) after f) none)))
    e

-- a bidder with its nodes
bidder_runs : (b : Bidder) (s t : Section) → IsBefore s → take_records s (bidder_records b) ≡ Ok t → Runs b.name s (bidder_records b) t
bidder_runs b s t none e = by (take_record s (line.bidder b.name b.own)) refl e
  where
    by : (o : Result Section SectionFault) → take_record s (line.bidder b.name b.own) ≡ o → unless_fault o (λ next. take_records next (node_records b)) ≡ Ok t → Runs b.name s (bidder_records b) t
    by (Err fault) is f = ok_err fault t f
    by (Ok after) is f =
        runs none refl is
        (nodes_run b.name (kind_of b.tree) (λ n. length (children_of b.tree n)) (weight_of b.bounds.lo) (weight_of b.bounds.hi) (numbers_below (length b.tree)) after t (bidder_stays s b.name b.own after none is) f)

-- the whole section
pub section_runs : (settings : Settings) (goods : List Good) (b : Bidder) (t : Section)
    → take_records no_section (section_records (record { settings = settings; goods = goods; bidders = b ∷ [] })) ≡ Ok t
    → Runs b.name no_section (section_records (record { settings = settings; goods = goods; bidders = b ∷ [] })) t
section_runs settings goods b t e =
    let one : flat_map bidder_records (b ∷ []) ≡ bidder_records b = flat_map-cons bidder_records b [] ∙ append-nil (bidder_records b) in
    let (mid, first, second) = parted (record no_section { settings = Some settings }) t (map good_record goods) (flat_map bidder_records (b ∷ [])) e in
    let (run, before) = goods_run b.name goods (record no_section { settings = Some settings }) mid refl first in
    runs refl tt refl
    (runs_on b.name (record no_section { settings = Some settings }) mid t (map good_record goods) (flat_map bidder_records (b ∷ [])) run
    (subst (λ (rs : List Record). Runs b.name mid rs t) (sym one) (bidder_runs b mid t before (subst (λ (rs : List Record). take_records mid rs ≡ Ok t) one second))))

-- ---- the audit of a run

module _ (name : List ℕ) where
  -- a state of the audit in the section
  abbrev pub in_section : ℕ → Section → AuditState
  in_section n s = record audit_begun { line = n; name = name; section = s; spot = at_section }

  next_is : (n : ℕ) (s after : Section) (r : Record) → IsBefore s → IsNamed name r → take_record s r ≡ Ok after → audit_next (in_section n s) (shown r) ≡ Some (in_section (suc n) after)
  next_is n s after r none named is = ap (λ (b : Bool). option_map (to_line (suc n)) (cond b (begin_settlement (record (in_section n s) { bounds = (bidder_at (in_section n s)).bounds }) 0 r) (cond (is_named (in_section n s) r) (with_section (in_section n s) (take_record s r)) None))) early
      ∙ ap (λ (b : Bool). option_map (to_line (suc n)) (cond b (with_section (in_section n s) (take_record s r)) None)) (named_is r named)
      ∙ ap (λ (o : Result Section SectionFault). option_map (to_line (suc n)) (with_section (in_section n s) o)) is
    where
      early : may_end s ≡ false
      early = ap (λ (bs : List Bidder). nat_lt 0 (length bs) && is_none s.draft) none

      named_is : (r : Record) → IsNamed name r → is_named (in_section n s) r ≡ true
      named_is (line.bidder other own) e = bytes_eq-same name other (sym e)
      named_is other e = refl

  pub run_on : (n : ℕ) (s t : Section) (records : List Record) (rest : List StatementLine) → Runs name s records t → ((m : ℕ) → Audited (in_section m t) rest None) → Audited (in_section n s) (map shown records ++ rest) None
  run_on n s t [] rest ran later = later n
  run_on n s t (r ∷ records) rest (runs {after = after} none named is run) later =
      goes_on (quiet (in_section n s) (in_section (suc n) after) (shown r) (next_is n s after r none named is)
      (λ h. true≢false (sym h ∙ ap is_refusal is)) (λ h. h) (λ k h. h) (λ h. h) (λ h. h) (λ h. h)) tt (next_is n s after r none named is)
      (run_on (suc n) after t records rest run later)
