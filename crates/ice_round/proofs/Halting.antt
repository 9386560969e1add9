-- What a halt says, from what it was made of.
use Rattle.std.proofs.Common.{ℕ, ◌+◌, ◌<◌, ◌≡◌, false, List, [], length, Option, Some, None, refl, sym, ap, subst, arith}
use Rattle.std.specs.Prelude.{IsTrue}
use Rattle.ice_defs.specs.Exchange.{trees_of}
use Rattle.ice_defs.specs.Steps.{branch_count}
use Rattle.ice_defs.specs.Session.{closes}
use Rattle.ice_search.specs.Results.{IsFoundBy, IsEnd}
use Rattle.ice_search.specs.declared.results.SearchEnd.{SearchEnd}
use Rattle.ice_search.specs.declared.results.SearchEnd.TheVariants.{Spent, NoMemory}
use Rattle.ice_regret.specs.Regretted.{rival_search}
use Rattle.ice_search.specs.declared.results.Found.{Found}
use Rattle.ice_search.specs.declared.results.Spent as search
use Rattle.ice_regret.specs.declared.lead.Regret.{Regret}
use Rattle.ice_price.specs.Ends.{IsPriceEnd}
use Rattle.ice_price.specs.declared.ends.PriceEnd.{PriceEnd}
use Rattle.ice_price.specs.declared.ends.PriceEnd.TheVariants as price
use Rattle.ice_vickrey.specs.Economy.{without_search}
use Rattle.ice_vickrey.specs.Marginals.{AreMarginalsFrom, branches_of}
use Rattle.ice_vickrey.specs.declared.marginal.Marginal.{Marginal}
use Rattle.ice_round.specs.SessionAt.{SessionAt}
use Rattle.ice_round.specs.Searches.{final_search, provisional_search, economy_of, settlement_branches, IsSettlementOf}
use Rattle.ice_round.specs.Ends.{IsHaltOf, IsSpentAt, at_final, at_rival, at_without, at_provisional, IsLimitAt, at_pricing, IsStoppedAt, IsHaltedBy}
use Rattle.ice_round.specs.Settling.{SettlingAt, IsSettling, IsStoppedBehind, IsOfferOf, IsUnpriced, offered_trade}
use Rattle.ice_round.specs.declared.offer.Offer.{Offer}
use Rattle.ice_settled.specs.declared.settled.Halt.{Halt}

module _ (s : SessionAt) (h : Halt) (best : Option Found) (regret : Option Regret) (provisional : Option Found) (ms : List Marginal)
    (a : h.best ≡ best) (b : h.regret ≡ regret) (c : h.provisional ≡ provisional) (d : h.marginals.items ≡ ms) where
  pub spent_in : (spent : search.Spent) → IsSpentAt s best regret provisional ms spent → IsSpentAt s h.best h.regret h.provisional h.marginals.items spent
  spent_in spent is =
      subst (λ x. IsSpentAt s x h.regret h.provisional h.marginals.items spent) (sym a)
      (subst (λ x. IsSpentAt s best x h.provisional h.marginals.items spent) (sym b)
      (subst (λ x. IsSpentAt s best regret x h.marginals.items spent) (sym c)
      (subst (λ x. IsSpentAt s best regret provisional x spent) (sym d) is)))

-- a search ended early
pub halted_by : (s : SessionAt) (h : Halt) (best : Option Found) (regret : Option Regret) (ms : List Marginal) → h.best ≡ best → h.regret ≡ regret → h.provisional ≡ None → h.marginals.items ≡ ms → IsHaltOf s h
    → (end : SearchEnd) → IsStoppedAt s best regret ms end → IsHaltedBy s h end
halted_by s h best regret ms a b c d halt (Spent spent) is = (halt, spent_in s h best regret None ms a b c d spent is)
halted_by s h best regret ms a b c d halt NoMemory is = tt

-- ---- searches that end early

module _ (s : SessionAt) (new : ℕ) where
  pub stopped_final : (end : SearchEnd) → IsEnd (final_search s) s.branches new end → IsStoppedAt s None None [] end
  stopped_final (Spent spent) is = at_final is.0
  stopped_final NoMemory is = tt

  pub stopped_rival : (best : Found) (left : ℕ) (end : SearchEnd) → IsFoundBy (final_search s) best → left + branch_count best.log ≡ s.branches
      → IsEnd (rival_search s.exchange s.bounds best.best) left new end → IsStoppedAt s (Some best) None [] end
  stopped_rival best left (Spent spent) found count is = at_rival left found count is.0
  stopped_rival best left NoMemory found count is = tt

  module _ (best : Found) (regret : Regret) (left : ℕ) (settlement : IsSettlementOf s best regret) where
    pub stopped_provisional : (done : List Marginal) → done ≡ [] → (end : SearchEnd) → closes s.exchange.settings s.number regret.amount ≡ false → left + (settlement_branches best regret + branches_of done) ≡ s.branches
        → IsEnd (provisional_search s) left new end → IsStoppedAt s (Some best) (Some regret) done end
    stopped_provisional done none (Spent spent) goes_on count is =
        subst (λ (ms : List Marginal). IsSpentAt s (Some best) (Some regret) None ms spent) (sym none)
        (at_provisional left goes_on settlement (omega (arith, count, ap branches_of none)) is.0)
    stopped_provisional done none NoMemory goes_on count is = tt

    pub stopped_without : (done : List Marginal) (end : SearchEnd) → IsTrue (closes s.exchange.settings s.number regret.amount) → length done < length (trees_of s.exchange) → AreMarginalsFrom (economy_of s best) 0 done
        → left + (settlement_branches best regret + branches_of done) ≡ s.branches → IsEnd (without_search s.exchange s.bounds (length done)) left new end → IsStoppedAt s (Some best) (Some regret) done end
    stopped_without done (Spent spent) closing next each count is =
        at_without (left + branches_of done) closing settlement (omega (arith, count)) (record {
          next = next;
          each = each;
          spent = record { spent = is.0.spent; written = is.0.written; branches = refl };
          branches = omega (arith, is.0.branches);
        })
    stopped_without done NoMemory closing next each count is = tt

-- ---- behind final sets with their regret

pub stopped_behind_without : (x : SettlingAt) (left new : ℕ) → IsSettling x → IsTrue (closes x.session.exchange.settings x.session.number x.regret.amount) → length x.done < length (trees_of x.session.exchange)
    → left + (settlement_branches x.best x.regret + branches_of x.done) ≡ x.session.branches → (end : SearchEnd) → IsEnd (without_search x.session.exchange x.session.bounds (length x.done)) left new end → IsStoppedBehind x end
stopped_behind_without x left new is closing next count end ends = stopped_without x.session new x.best x.regret left is.settlement x.done end closing next is.each count ends

pub unpriced : (x : SettlingAt) (o : Offer) (e : PriceEnd) → closes x.session.exchange.settings x.session.number x.regret.amount ≡ false → x.done ≡ [] → IsSettling x → IsOfferOf x o → IsPriceEnd (offered_trade x o) e → IsUnpriced x o e
unpriced x o (price.Limit limit) goes_on none is offer ends =
    subst (λ (ms : List Marginal). IsLimitAt x.session (Some x.best) (Some x.regret) (Some o.provisional) ms limit) (sym none)
    (at_pricing o.left goes_on is.settlement offer.found offer.branches ends)
unpriced x o price.NoMemory goes_on none is offer ends = tt
