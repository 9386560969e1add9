-- A whole exchange file.
use Rattle.std.proofs.Common.{◌≡◌, true, List, [], ◌∷◌, None, sym, ap, ◌∙◌}
use Rattle.std.specs.Prelude.{Ok, codes}
use Rattle.ice_defs.specs.Exchange.{Settings, Good, Bidder, Exchange}
use Rattle.ice_defs.specs.Making.{exchange_refusal}
use Rattle.ice_trade.specs.Parts.{no_exchange}
use Rattle.serde_json.specs.Data.{Data}
use Rattle.ice_read.specs.Values.{has_exactly, of_member}
use Rattle.ice_read.specs.ExchangeFile.{settings_at, goods_at, bidders_at, not_empty, exchange_of_value}

pub file_chain : (d : Data) (settings : Settings) (goods : List Good) (bidders : List Bidder) → true ≡ has_exactly (codes "settings" ∷ codes "goods" ∷ codes "bidders" ∷ []) d → of_member [] d (codes "settings") settings_at ≡ Ok settings
    → of_member [] d (codes "goods") goods_at ≡ Ok goods → of_member [] d (codes "bidders") (bidders_at goods) ≡ Ok bidders → exchange_of_value d ≡ not_empty settings goods bidders
file_chain d settings goods bidders exact first second third = rw (← exact, first, second, third)

-- the exchange that was made of these parts
pub whole : (settings : Settings) (made with_goods full : Exchange) → made ≡ no_exchange settings → with_goods ≡ record made { goods = with_goods.goods } → full ≡ record with_goods { bidders = full.bidders }
    → record { settings = settings; goods = with_goods.goods; bidders = full.bidders } ≡ full
whole settings made with_goods full first second third =
    sym (third ∙ ap (λ (e : Exchange). record e { bidders = full.bidders }) (second ∙ ap (λ (e : Exchange). record e { goods = with_goods.goods }) first))

pub not_refused : (settings : Settings) (goods : List Good) (bidders : List Bidder) → exchange_refusal goods bidders ≡ None → not_empty settings goods bidders ≡ Ok (record { settings = settings; goods = goods; bidders = bidders })
not_refused settings goods bidders due = rw due
