-- What a settlement holds whose final sets and regret are found, and what it stands for.
use Rattle.std.specs.Prelude.{ℕ, ◌+◌, ◌≡◌, List, [], ◌∷◌, ◌++◌, length, ℤ}
use Rattle.std.specs.Global.{Vec}
use Rattle.ice_defs.specs.Steps.{branch_count}
use Rattle.ice_search.specs.declared.results.Found.{Found}
use Rattle.ice_regret.specs.declared.lead.Regret.{Regret}
use Rattle.ice_vickrey.specs.Marginals.{IsMarginalOf, branches_of}
use Rattle.ice_vickrey.specs.declared.marginal.Marginal.{Marginal}
use Rattle.ice_settled.specs.Shown.{discounts_of, closing_with}
use Rattle.ice_settled.specs.declared.settled.Charged.{Charged}
use Rattle.ice_round.specs.SessionAt.{SessionAt}
use Rattle.ice_round.specs.Searches.{economy_of, settlement_branches}
use Rattle.ice_round.specs.Settling.{SettlingAt, IsSettling, IsChargedFor}
use Rattle.ice_round.specs.Shown.{IsClosing}

-- the session before the settlement, the final sets, their regret, the Vickrey discounts of the
-- first bidders, and the branches that are left
pub record Held : Type 0 where
  pub session : SessionAt
  pub best : Found
  pub regret : Regret
  pub discounts : List ℤ
  pub left : ℕ

-- the settlement, with what the market is worth without the first bidders
abbrev pub settling_with : Held → List Marginal → SettlingAt
settling_with h done = record { session = h.session; best = h.best; regret = h.regret; done = done }

-- this is what was found without the first bidders, of which the discounts are held: all of it is
-- right, and the branches of its searches are gone
pub record HasFound (h : Held) (done : List Marginal) : Type 0 where
  pub found : IsSettling (settling_with h done)
  pub discounts : h.discounts ≡ discounts_of done
  pub branches : h.left + (settlement_branches h.best h.regret + branches_of done) ≡ h.session.branches

-- one more bidder is done: what was found without it is right, its discount is held, and the
-- branches of its search are gone
pub record HasOneMore (h : Held) (m : Marginal) (next : Held) : Type 0 where
  pub is : IsMarginalOf (economy_of h.session h.best) (length h.discounts) m
  pub then : next ≡ record h { discounts = h.discounts ++ m.discount ∷ []; left = next.left }
  pub branches : next.left + branch_count m.log ≡ h.left

-- what is left of it behind the groups without each bidder: with these, whatever they are, it is
-- the settlement that closes the session, and made of what was found
pub record IsChargeOf (h : Held) (c : Charged) : Type 0 where
  pub vickreys : c.vickreys.items ≡ h.discounts
  pub closing : (done : Vec Marginal) → HasFound h done.items → IsClosing h.session (closing_with c done)
  pub made : (done : Vec Marginal) → HasFound h done.items → IsChargedFor (settling_with h done.items) (closing_with c done)
