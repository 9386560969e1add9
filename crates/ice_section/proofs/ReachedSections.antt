-- The sections that lawful records lead to.
use Rattle.std.proofs.Common.{ℕ, ◌≡◌, true, false, ◌||◌, not, eqb, ltb, List, [], ◌∷◌, ◌++◌, length, ℤ, Option, Some, None, Result, Ok, Err, refl, ap, sym, ◌∙◌, ◌⊎◌, inl, inr, subst}
use Rattle.std.specs.Prelude.{is_none, is_some}
use Rattle.std.specs.List.{AllByRecursion}
use Rattle.std.proofs.lemmas.Bool.{or_parts}
use Rattle.ice_defs.specs.declared.NodeKind.{NodeKind}
use Rattle.ice_defs.specs.declared.NodeKind.TheVariants.{Choose, Buy, Sell}
use Rattle.ice_defs.specs.Bounds.{no_bounds}
use Rattle.ice_defs.specs.Making.{node_refusal, good_refusal, bidder_refusal}
use Rattle.ice_defs.specs.Exchange.{Good, Bidder}
use Rattle.ice_journal.specs.Records.{Record}
use Rattle.ice_journal.specs.Records as line
use Rattle.ice_journal.specs.Ranges.{IsRecord}
use Rattle.ice_defs.proofs.Lists.{all_push}
use Rattle.ice_defs.proofs.Choices.{is_none-true, is_some-false}
use Rattle.ice_section.specs.Section.{SectionFault, order, count, no_good, OpenNode, Draft, Section, no_section, take_good, with_node, go_on, open_after, names_no_good, take_node_of, take_node_at, take_node, take_record}
use Rattle.ice_section.specs.Taking.{unless_fault, take_records}
use Rattle.ice_section.specs.Kept.{IsReached}
use Rattle.ice_section.proofs.Sections.{ok_if, ok_unless, unless_refused_ok, unless_unmade_ok, Stands, no_section_stands, record_stands, records_stand}
use Rattle.ice_section.proofs.Ranges.{IsRanged, no_section_ranged, records_ranged}
use Rattle.ice_section.proofs.BidderRecords.{take_then, take_one}

-- one more record
pub reached_more : (s after : Section) (r : Record) → IsReached s → IsRecord r → take_record s r ≡ Ok after → IsReached after
reached_more s after r (records, lawful, taken) is e =
    (records ++ r ∷ [], all_push IsRecord records r lawful is, take_then no_section s after records (r ∷ []) taken (take_one s after r e))

pub none_reached : IsReached no_section
none_reached = ([], tt, refl)

pub reached_stands : (s : Section) → IsReached s → (records : List Record) × Stands s records × IsRanged s
reached_stands s (records, lawful, taken) = (records, records_stand no_section [] records s no_section_stands taken, records_ranged no_section records s no_section_ranged lawful taken)

-- ---- a section whose incomplete bidder is given up

abbrev pub without_draft : Section → Section
without_draft s = record s { draft = None }

no_draft_same : (s : Section) → s.draft ≡ None → without_draft s ≡ s
no_draft_same s e = λ i. record { settings = s.settings; goods = s.goods; bidders = s.bidders; draft = sym e i }

node_without : (s : Section) (draft : Draft) (kind : NodeKind) (children : ℕ) (lo hi : ℤ) (after : Section) → take_node_of s draft kind children lo hi ≡ Ok after
    → (without_draft after ≡ without_draft s) ⊎ (after.draft ≡ None)
node_without s draft kind children lo hi after e =
    let (known, e₁) = ok_unless (names_no_good kind (length s.goods)) _ after no_good e in
    let (unrefused, e₂) = unless_unmade_ok (node_refusal (length s.goods) (length draft.bidder.tree) _ kind lo hi) _ after e₁ in
    by (open_after kind (length draft.bidder.tree) children draft.opened) e₂
  where
    by : (opened : Result (List OpenNode) SectionFault) → go_on s (with_node draft.bidder draft.opened kind lo hi) opened ≡ Ok after → (without_draft after ≡ without_draft s) ⊎ (after.draft ≡ None)
    by (Err fault) e = absurd cc
    by (Ok []) e =
        let b : Bidder = with_node draft.bidder draft.opened kind lo hi in
        let (unrefused, same) = unless_refused_ok (bidder_refusal (length s.goods) s.bidders b) (record s { bidders = s.bidders ++ b ∷ []; draft = None }) after e in
        inr (ap (λ x. x.draft) (sym same))
    by (Ok (o ∷ outer)) e =
        let same : record s { draft = Some (record { bidder = with_node draft.bidder draft.opened kind lo hi; opened = o ∷ outer }) } ≡ after = cc in
        inl (ap without_draft (sym same))

node_at_without : (s : Section) (kind : NodeKind) (children : ℕ) (lo hi : ℤ) (after : Section) → take_node s kind children lo hi ≡ Ok after → (without_draft after ≡ without_draft s) ⊎ (after.draft ≡ None)
node_at_without s kind children lo hi after e = by s.draft e
  where
    by : (draft : Option Draft) → take_node_at s draft kind children lo hi ≡ Ok after → (without_draft after ≡ without_draft s) ⊎ (after.draft ≡ None)
    by None e = absurd cc
    by (Some draft) e = node_without s draft kind children lo hi after e

good_without : (s : Section) (good : Good) (after : Section) → take_good s good ≡ Ok after → after.draft ≡ None
good_without s good after e =
    let (may, e₁) = ok_unless (is_none s.settings || ltb 0 (length s.bidders) || is_some s.draft) _ after order e in
    let (earlier, draft_none) = or_parts (is_none s.settings || ltb 0 (length s.bidders)) (is_some s.draft) may in
    let (unrefused, same) = unless_refused_ok (good_refusal s.goods s.bidders good.name) (record s { goods = s.goods ++ good ∷ [] }) after e₁ in
    ap (λ x. x.draft) (sym same) ∙ is_some-false s.draft draft_none

record_without : (s : Section) (before : List Record) (r : Record) (after : Section) → Stands s before → take_record s r ≡ Ok after → (without_draft after ≡ without_draft s) ⊎ (after.draft ≡ None)
record_without s before (line.settings settings) after is e =
    let (none, same) = ok_if (is_none s.settings) (record s { settings = Some settings }) after order e in
    inr (ap (λ x. x.draft) (sym same) ∙ (is.no_goods (is.no_settings (is_none-true s.settings none))).1)
record_without s before (line.good name) after is e = inr (good_without s (record { name = name; exact = false }) after e)
record_without s before (line.exact name) after is e = inr (good_without s (record { name = name; exact = true }) after e)
record_without s before (line.bidder name own) after is e =
    let (some, e₁) = ok_unless (eqb (length s.goods) 0) _ after order e in
    let (draft_none, e₂) = ok_unless (is_some s.draft) _ after order e₁ in
    let (counted, e₃) = ok_unless (not (eqb (length own) (length s.goods))) _ after count e₂ in
    let begun : Draft = record { bidder = record { name = name; own = own; tree = []; bounds = no_bounds }; opened = [] } in
    let same : record s { draft = Some begun } ≡ after = cc in
    inl (ap without_draft (sym same))
record_without s before (line.choose least most children lo hi) after is e = node_at_without s (Choose least most) children lo hi after e
record_without s before (line.buy good units lo hi) after is e = node_at_without s (Buy good units) 0 lo hi after e
record_without s before (line.sell good units lo hi) after is e = node_at_without s (Sell good units) 0 lo hi after e
record_without s before other after is e = absurd cc

records_without : (s : Section) (before records : List Record) (after : Section) → Stands s before → AllByRecursion IsRecord before → take_records no_section before ≡ Ok s → IsReached (without_draft s)
    → AllByRecursion IsRecord records → take_records s records ≡ Ok after → IsReached (without_draft after)
records_without s before [] after is lawful taken reached all e = let same : s ≡ after = cc in subst (λ x. IsReached (without_draft x)) same reached
records_without s before (r ∷ rest) after is lawful taken reached all e =
    by (take_record s r) refl e (λ next step here later.
    records_without next (before ++ r ∷ []) rest after (record_stands s before r next is step) (all_push IsRecord before r lawful all.0) (take_then no_section s next before (r ∷ []) taken (take_one s next r step)) here all.1 later)
  where
    here : (next : Section) → take_record s r ≡ Ok next → (without_draft next ≡ without_draft s) ⊎ (next.draft ≡ None) → IsReached (without_draft next)
    here next step (inl same) = subst IsReached (sym same) reached
    here next step (inr none) = subst IsReached (sym (no_draft_same next none)) (reached_more s next r (before, lawful, taken) all.0 step)

    by : (found : Result Section SectionFault) → take_record s r ≡ found → unless_fault found (λ next. take_records next rest) ≡ Ok after
        → ((next : Section) → take_record s r ≡ Ok next → IsReached (without_draft next) → take_records next rest ≡ Ok after → IsReached (without_draft after)) → IsReached (without_draft after)
    by (Err fault) is' e go = absurd cc
    by (Ok next) is' e go = go next is' (here next is' (record_without s before r next is is')) e

pub reached_without : (s : Section) → IsReached s → IsReached (without_draft s)
reached_without s (records, lawful, taken) = records_without no_section [] records s no_section_stands tt refl none_reached lawful taken
