use Rattle.std.proofs.Common.{◌≡◌, ◌∙◌, sym, subst, ℕ, length, Ok}
use Rattle.std.proofs.lemmas.List.{length-map}
use Rattle.std.proofs.lemmas.Result.{err_from_is_err_and}
use Rattle.ice_defs.specs.Exchange.{Good, exact_of}
use Rattle.ice_section.specs.LineFile.{IsPricesOfLines}
use Rattle.ice_command_parts.specs.Call.{file_limit}
use Rattle.ice_command_parts.specs.Files.{IsExchangeOf, IsPricesFault, HoldsPrices}
use Rattle.ice_command_parts.specs.Refusals.{IsRefusal}
use Rattle.ice_commands.specs.BestFound.{at_prices}
use Rattle.ice_command_parts.proofs.Parts.{later_part, told_in_call, told_before}
use Rattle.ice_commands.proofs.best.best_of_files.Goals as goal

pub returns-in_err-prices-clause-refusal : goal.returns-in_err-prices-clause-refusal
returns-in_err-prices-clause-refusal g c =
    let ex = c.in_ok-exchange.exchange in
    let goods : c.goods.result ≡ length (exact_of ex) = c.goods.ensures.value ∙ sym (length-map ex.goods (λ (good : Good). good.exact)) in
    let p = err_from_is_err_and c.from_residual-in_err-prices.result c.from_residual-in_err-prices.ensures.1 in
    rw (p.1, p.2) (λ call part. at_prices ex
    (told_in_call call _ _ c.args.exchange.now file_limit (λ bytes. IsExchangeOf bytes (Ok ex)) part c.in_ok-exchange.ensures.exchange)
    (subst (λ (n : ℕ). IsRefusal call 2 c.args.prices.now file_limit (IsPricesFault n) c.in_err-prices.field-0.0) goods
    (c.in_err-prices.ensures.refusal call (later_part call _ _ _ part c.read_exchange.ensures.later))))

pub returns-in-Ok-clause-sets : goal.returns-in-Ok-clause-sets
returns-in-Ok-clause-sets g c =
    let ex = c.in_ok-exchange.exchange in
    let prices = c.in_ok-prices.prices in
    let goods : c.goods.result ≡ length (exact_of ex) = c.goods.ensures.value ∙ sym (length-map ex.goods (λ (good : Good). good.exact)) in
    record {
      exchange_of = ex;
      prices_of = prices;
      exchange_told = c.in_ok-exchange.ensures.exchange;
      prices_told = subst (λ (n : ℕ). HoldsPrices (g.H.Shelf.told c.args.shelf.now) c.args.prices.now n prices) goods
          (told_before _ _ c.args.prices.now file_limit (λ bytes. IsPricesOfLines c.goods.result bytes (Ok prices)) c.read_exchange.ensures.later c.in_ok-prices.ensures.prices);
      best = c.in-Ok.ensures;
    }
