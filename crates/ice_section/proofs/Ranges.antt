-- The numbers of a section's settings and owned amounts are in their ranges.
use Rattle.std.proofs.Common.{ℕ, ◌≤◌, ◌≡◌, true, false, ◌||◌, not, eqb, ltb, List, [], ◌∷◌, ◌++◌, length, ℤ, Option, Some, None, Result, Ok, Err, refl, subst}
use Rattle.std.specs.Prelude.{is_none, is_some}
use Rattle.std.specs.List.{AllByRecursion}
use Rattle.ice_defs.specs.declared.NodeKind.{NodeKind}
use Rattle.ice_defs.specs.declared.NodeKind.TheVariants.{Choose, Buy, Sell}
use Rattle.ice_defs.specs.Bounds.{no_bounds}
use Rattle.ice_defs.specs.Making.{node_refusal, good_refusal, bidder_refusal}
use Rattle.ice_defs.specs.Exchange.{Settings, AreSettings, Good, Bidder}
use Rattle.ice_journal.specs.Records.{Record}
use Rattle.ice_journal.specs.Records as line
use Rattle.ice_journal.specs.Ranges.{IsRecord}
use Rattle.ice_defs.proofs.Lists.{all_push}
use Rattle.ice_section.specs.Section.{SectionFault, order, count, no_good, OpenNode, Draft, Section, no_section, take_good, with_node, go_on, open_after, names_no_good, take_node_of, take_node_at, take_node, take_record}
use Rattle.ice_section.specs.Taking.{unless_fault, take_records}
use Rattle.ice_section.proofs.Sections.{ok_if, ok_unless, unless_refused_ok, unless_unmade_ok}

abbrev pub AreSettingsOf : Option Settings → Type 0
AreSettingsOf None = Unit {0}
AreSettingsOf (Some settings) = AreSettings settings

abbrev pub IsOwned : List ℕ → Type 0
IsOwned own = AllByRecursion (λ amount. amount ≤ 1000000) own

abbrev pub IsDraftOwned : Option Draft → Type 0
IsDraftOwned None = Unit {0}
IsDraftOwned (Some draft) = IsOwned draft.bidder.own

pub record IsRanged (s : Section) : Type 0 where
  pub settings : AreSettingsOf s.settings
  pub owned : AllByRecursion (λ b. IsOwned b.own) s.bidders
  pub drafted : IsDraftOwned s.draft

node_ranged : (s : Section) (draft : Draft) (kind : NodeKind) (children : ℕ) (lo hi : ℤ) (after : Section) → IsRanged s
    → s.draft ≡ Some draft → take_node_of s draft kind children lo hi ≡ Ok after → IsRanged after
node_ranged s draft kind children lo hi after is drafting e =
    let (known, e₁) = ok_unless (names_no_good kind (length s.goods)) _ after no_good e in
    let (unrefused, e₂) = unless_unmade_ok (node_refusal (length s.goods) (length draft.bidder.tree) _ kind lo hi) _ after e₁ in
    by (subst IsDraftOwned drafting is.drafted) (open_after kind (length draft.bidder.tree) children draft.opened) e₂
  where
    by : IsOwned draft.bidder.own → (opened : Result (List OpenNode) SectionFault) → go_on s (with_node draft.bidder draft.opened kind lo hi) opened ≡ Ok after → IsRanged after
    by own (Err fault) e = absurd cc
    by own (Ok []) e =
        let b : Bidder = with_node draft.bidder draft.opened kind lo hi in
        let (unrefused, same) = unless_refused_ok (bidder_refusal (length s.goods) s.bidders b) (record s { bidders = s.bidders ++ b ∷ []; draft = None }) after e in
        subst IsRanged same (record { settings = is.settings; owned = all_push (λ x. IsOwned x.own) s.bidders b is.owned own; drafted = tt })
    by own (Ok (o ∷ outer)) e =
        let same : record s { draft = Some (record { bidder = with_node draft.bidder draft.opened kind lo hi; opened = o ∷ outer }) } ≡ after = cc in
        subst IsRanged same (record { settings = is.settings; owned = is.owned; drafted = own })

node_at_ranged : (s : Section) (kind : NodeKind) (children : ℕ) (lo hi : ℤ) (after : Section) → IsRanged s → take_node s kind children lo hi ≡ Ok after → IsRanged after
node_at_ranged s kind children lo hi after is e = by s.draft refl e
  where
    by : (draft : Option Draft) → s.draft ≡ draft → take_node_at s draft kind children lo hi ≡ Ok after → IsRanged after
    by None none e = absurd cc
    by (Some draft) drafting e = node_ranged s draft kind children lo hi after is drafting e

good_ranged : (s : Section) (good : Good) (after : Section) → IsRanged s → take_good s good ≡ Ok after → IsRanged after
good_ranged s good after is e =
    let (may, e₁) = ok_unless (is_none s.settings || ltb 0 (length s.bidders) || is_some s.draft) _ after order e in
    let (unrefused, same) = unless_refused_ok (good_refusal s.goods s.bidders good.name) (record s { goods = s.goods ++ good ∷ [] }) after e₁ in
    subst IsRanged same (record { settings = is.settings; owned = is.owned; drafted = is.drafted })

pub record_ranged : (s : Section) (r : Record) (after : Section) → IsRanged s → IsRecord r → take_record s r ≡ Ok after → IsRanged after
record_ranged s (line.settings settings) after is fits e =
    let (none, same) = ok_if (is_none s.settings) (record s { settings = Some settings }) after order e in
    subst IsRanged same (record { settings = fits; owned = is.owned; drafted = is.drafted })
record_ranged s (line.good name) after is fits e = good_ranged s (record { name = name; exact = false }) after is e
record_ranged s (line.exact name) after is fits e = good_ranged s (record { name = name; exact = true }) after is e
record_ranged s (line.bidder name own) after is fits e =
    let (some, e₁) = ok_unless (eqb (length s.goods) 0) _ after order e in
    let (draft_none, e₂) = ok_unless (is_some s.draft) _ after order e₁ in
    let (counted, e₃) = ok_unless (not (eqb (length own) (length s.goods))) _ after count e₂ in
    let begun : Draft = record { bidder = record { name = name; own = own; tree = []; bounds = no_bounds }; opened = [] } in
    let same : record s { draft = Some begun } ≡ after = cc in
    subst IsRanged same (record { settings = is.settings; owned = is.owned; drafted = fits.2 })
record_ranged s (line.choose least most children lo hi) after is fits e = node_at_ranged s (Choose least most) children lo hi after is e
record_ranged s (line.buy good units lo hi) after is fits e = node_at_ranged s (Buy good units) 0 lo hi after is e
record_ranged s (line.sell good units lo hi) after is fits e = node_at_ranged s (Sell good units) 0 lo hi after is e
record_ranged s other after is fits e = absurd cc

pub records_ranged : (s : Section) (records : List Record) (after : Section) → IsRanged s → AllByRecursion IsRecord records → take_records s records ≡ Ok after → IsRanged after
records_ranged s [] after is fit e = let same : s ≡ after = cc in subst IsRanged same is
records_ranged s (r ∷ rest) after is fit e = by (take_record s r) refl e (λ next taken later. records_ranged next rest after (record_ranged s r next is fit.0 taken) fit.1 later)
  where
    by : (found : Result Section SectionFault) → take_record s r ≡ found → unless_fault found (λ next. take_records next rest) ≡ Ok after
        → ((next : Section) → take_record s r ≡ Ok next → take_records next rest ≡ Ok after → IsRanged after) → IsRanged after
    by (Err fault) is e go = absurd cc
    by (Ok next) is e go = go next is e

pub no_section_ranged : IsRanged no_section
no_section_ranged = record { settings = tt; owned = tt; drafted = tt }
