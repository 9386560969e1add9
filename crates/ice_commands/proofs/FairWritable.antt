-- What is found of a last settlement is in the ranges of its records.
use Rattle.std.proofs.Common.{subst, ◌≤◌, ◌^◌, List, [], ◌∷◌, arith}
use Rattle.std.specs.List.{AllByRecursion}
use Rattle.ice_defs.specs.Tree.{Tree}
use Rattle.ice_defs.specs.Rows.{Certificate}
use Rattle.ice_defs.specs.Pricing.{IsChoice}
use Rattle.ice_defs.specs.PricingRun.{Member}
use Rattle.ice_defs.specs.Lawful.{IsExchange}
use Rattle.ice_pricing.specs.Priced.{IsLimited}
use Rattle.ice_price.specs.declared.ends.PriceLimit.{PriceLimit}
use Rattle.ice_fair.specs.Lasts.{LastTrade, IsLast, trade_of}
use Rattle.ice_fair.specs.Found.{IsFairFound}
use Rattle.ice_fair.specs.Ends.{IsFairEnd}
use Rattle.ice_fair.proofs.Weights.{wider}
use Rattle.ice_fair.specs.declared.answer.Fair.{Fair}
use Rattle.ice_fair_stage.specs.declared.ends.FairLimit.{FairLimit}
use Rattle.ice_fair.specs.declared.ends.FairEnd.TheVariants.{Price, Limit}
use Rattle.ice_fair_laws.proofs.Fairs.{fair_pool_is_proper}
use Rattle.ice_write_session.specs.Writable.{IsWritableMember, IsWritableLimit}
use Rattle.ice_write_fair.specs.Writable.{IsWritableFair, IsWritableFairLimit}
use Rattle.ice_session_laws.proofs.Violations.{violation_may_be_written, bits_of, bidder_number, certificate_may_be_written}
use Rattle.ice_session_laws.proofs.Limits.{limit_may_be_written}
use Rattle.ice_commands.specs.FairParts.{HasItsTrees}

module _ (last : LastTrade) (lawful : IsExchange last.exchange) (same : HasItsTrees last) (is : IsLast last) where
  pub fair_may_be_written : (f : Fair) → f.prices.den ≤ 2 ^ 32 → IsFairFound last f → IsWritableFair f
  fair_may_be_written f few found =
      let t = trade_of last.paid in
      let limited = found.certificate_limited in
      let rows : Certificate = record { den = f.certificate.den; rows = f.certificate.rows } in
      let rows_limited : IsLimited rows =
      record { positive = limited.positive; den_fits = omega (arith, limited.den_fits); few = limited.few; weights_fit = wider f.certificate.rows limited.weights_fit } in
      record {
        violation = violation_may_be_written t is.trade f.prices f.delta f.accuracy few found.passes.violates found.passes.accurate;
        accuracy = certificate_may_be_written last.exchange lawful t same f.accuracy found.passes.accurate.rows found.accuracy_limited;
        certificate = record {
          few = omega (arith, limited.low_count, is.trade.bidders.1);
          count = omega (arith, limited.low_count, limited.high_count);
          rows = (certificate_may_be_written last.exchange lawful t same rows found.passes.fairness.rows rows_limited).rows;
        };
      }

  pub price_limit_may_be_written : (limit : PriceLimit) → IsFairEnd last (Price limit) → IsWritableLimit limit
  price_limit_may_be_written limit ends = limit_may_be_written (trade_of last.paid) is.trade last.exchange lawful same limit ends

  members_are : (pool : List Member) → AllByRecursion (λ m. IsChoice last.paid.trees last.paid.weights last.paid.sets (m.bidder, m.set)) pool → AllByRecursion IsWritableMember pool
  members_are [] are = tt
  members_are (m ∷ pool) (one, others) =
      let here = subst (λ (ts : List Tree). IsChoice ts last.paid.weights last.paid.sets (m.bidder, m.set)) same one in
      ((bidder_number last.exchange lawful m.bidder here.0, bits_of last.exchange lawful m.bidder m.set here.0 here.1.same_length), members_are pool others)

  pub fair_limit_may_be_written : (limit : FairLimit) → IsFairEnd last (Limit limit) → IsWritableFairLimit limit
  fair_limit_may_be_written limit ends =
      members_are limit.pool.items (fair_pool_is_proper last.paid last.cut limit.delta limit.den limit.pool.items ends.ends.turn).0
