-- A whole file of flat bids.
use Rattle.std.proofs.Common.{◌≡◌, ℕ, Bool, true, cond, ◌||◌, eqb, List, [], ◌∷◌, length, Ok, sym, ap, ◌∙◌}
use Rattle.std.specs.Prelude.{codes}
use Rattle.serde_json.specs.Data.{Data}
use Rattle.ice_defs.specs.Exchange.{Settings, Good, Exchange}
use Rattle.ice_defs.specs.FileFault.{refuse}
use Rattle.ice_trade.specs.Parts.{no_exchange}
use Rattle.ice_read.specs.Values.{has_exactly, of_member}
use Rattle.ice_read.specs.ExchangeFile.{settings_at, goods_at}
use Rattle.ice_xor.specs.FlatBids.{FlatBidder, FlatExchange}
use Rattle.ice_xor.specs.FlatFile.{flat_bidders_at, flat_made, flat_of_value}
use Rattle.ice_xor.specs.Kept.{flat_kept}

pub flat_chain : (d : Data) (settings : Settings) (goods : List Good) (bidders : List FlatBidder) → true ≡ has_exactly (codes "settings" ∷ codes "goods" ∷ codes "bidders" ∷ []) d → of_member [] d (codes "settings") settings_at ≡ Ok settings
    → of_member [] d (codes "goods") goods_at ≡ Ok goods → of_member [] d (codes "bidders") (flat_bidders_at goods) ≡ Ok bidders → flat_of_value d ≡ flat_made settings goods bidders
flat_chain d settings goods bidders exact first second third = rw (← exact, first, second, third)

-- whether it has no good or no bidder, as code counts them
pub made-where : (settings : Settings) (goods : List Good) (bidders : List FlatBidder) (g b : ℕ) (empty : Bool) → g ≡ length goods → b ≡ length bidders → empty ≡ (eqb g 0 || eqb b 0)
    → flat_made settings goods bidders ≡ cond empty (refuse 16 []) (Ok (record { settings = settings; goods = goods; bidders = bidders }))
made-where settings goods bidders g b empty counted numbered is =
    ap (λ n. cond (eqb n 0 || eqb (length bidders) 0) (refuse 16 []) (Ok (record { settings = settings; goods = goods; bidders = bidders }))) (sym counted)
    ∙ ap (λ n. cond (eqb g 0 || eqb n 0) (refuse 16 []) (Ok (record { settings = settings; goods = goods; bidders = bidders }))) (sym numbered)
    ∙ ap (λ e. cond e (refuse 16 []) (Ok (record { settings = settings; goods = goods; bidders = bidders }))) (sym is)

pub kept-settings : (settings : Settings) (made with_goods : Exchange) (bidders : List FlatBidder) → made ≡ no_exchange settings → with_goods ≡ record made { goods = with_goods.goods }
    → record { settings = settings; goods = with_goods.goods; bidders = bidders } ≡ flat_kept with_goods bidders
kept-settings settings made with_goods bidders first second =
    let same : settings ≡ with_goods.settings = sym (ap (λ (e : Exchange). e.settings) second ∙ ap (λ (e : Exchange). e.settings) first) in
    ap (λ s. let f : FlatExchange = record { settings = s; goods = with_goods.goods; bidders = bidders } in f) same
