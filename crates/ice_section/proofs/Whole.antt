-- Where a section may end, its exchange is lawful, and its records are those that describe it.
use Rattle.std.proofs.Common.{ℕ, zero, suc, ◌<◌, ◌≡◌, true, List, [], ◌∷◌, map, length, pos, ◌+ℤ◌, ◌≤ℤ◌, Option, Some, None, arith}
use Rattle.std.specs.Prelude.{IsTrue, is_some, slice_index, slice_index_or}
use Rattle.std.specs.List.{AllByRecursion}
use Rattle.std.proofs.lemmas.List.{length-map}
use Rattle.ice_defs.specs.Set.{NodeSet, IsSatisfied, units}
use Rattle.ice_defs.specs.Trade.{tree_of}
use Rattle.ice_defs.specs.Lawful.{IsBidder, IsExchange}
use Rattle.ice_defs.specs.Exchange.{Settings, AreSettings, Good, Bidder}
use Rattle.ice_journal.specs.Records.{Record}
use Rattle.ice_section.specs.Section.{Section, no_section, may_end, settings_in, exchange_in}
use Rattle.ice_section.specs.Laws.{SectionIsLawful, SectionRecords}
use Rattle.ice_trade.proofs.Passing.{sells_owned}
use Rattle.ice_section.proofs.Sections.{IsBuilt, Stands, whole, described_whole, no_section_stands, records_stand}
use Rattle.ice_section.proofs.Ranges.{AreSettingsOf, IsOwned, IsRanged, no_section_ranged, records_ranged}

settings_whole : (settings : Option Settings) → is_some settings ≡ true → AreSettingsOf settings → AreSettings (settings_in settings)
settings_whole None some are = absurd cc
settings_whole (Some x) some are = are

bidders_whole : (goods : ℕ) (bidders : List Bidder) → AllByRecursion (IsBuilt goods) bidders → AllByRecursion (λ b. IsOwned b.own) bidders → AllByRecursion (IsBidder goods) bidders
bidders_whole goods [] built owned = tt
bidders_whole goods (b ∷ bidders) built owned = (
  record { tree = built.0.tree; bounds = built.0.bounds; own_count = built.0.own_count; own = owned.0 },
  bidders_whole goods bidders built.1 owned.1,
)

sold_at : (goods : ℕ) (bidders : List Bidder) → AllByRecursion (IsBuilt goods) bidders → (b g : ℕ) (s : NodeSet)
    → b < length (map (λ x. x.tree) bidders) → g < goods → IsSatisfied (tree_of (map (λ x. x.tree) bidders) b) s
    → pos 0 ≤ℤ (pos (slice_index (slice_index_or (map (λ x. x.own) bidders) b []) g) +ℤ units (tree_of (map (λ x. x.tree) bidders) b) s g)
sold_at goods [] built b g s there known is = absurd (omega arith)
sold_at goods (x ∷ bidders) built zero g s there known is = sells_owned goods x.tree x.own built.0.sold g s known is
sold_at goods (x ∷ bidders) built (suc b) g s there known is = sold_at goods bidders built.1 b g s (omega arith) known is

pub lawful_whole : (s : Section) (records : List Record) → Stands s records → IsRanged s → IsTrue (may_end s) → IsExchange (exchange_in s)
lawful_whole s records is ranged ends =
    let ended = whole s records is ends in
    record {
      settings = settings_whole s.settings ended.settings ranged.settings;
      goods_count = (ended.good_there, is.goods_count);
      bidders_count = (ended.bidder_there, is.bidders_count);
      goods_named = is.goods_named.0;
      goods = is.goods_named.1;
      bidders_named = is.bidders_named.0;
      names = is.bidders_named.1;
      bidders = bidders_whole (length s.goods) s.bidders is.built ranged.owned;
      nodes = is.nodes;
      owned = λ b g x there known sat. sold_at (length s.goods) s.bidders is.built b g x there (omega (arith, length-map s.goods (λ (good : Good). good.exact))) sat;
    }

pub section_is_lawful : SectionIsLawful
section_is_lawful records s lawful taken ends =
    lawful_whole s records (records_stand no_section [] records s no_section_stands taken) (records_ranged no_section records s no_section_ranged lawful taken) ends

pub section_records_are : SectionRecords
section_records_are records s taken ends = described_whole s records (records_stand no_section [] records s no_section_stands taken) ends
