use Rattle.std.proofs.Common.{◌≡◌, sym, subst, arith, inl, inr, ℤ}
use Rattle.std.proofs.lemmas.Int.{ints}
use Rattle.ice_defs.specs.Trade.{Assignment}
use Rattle.ice_search.specs.Results.{IsFoundBy}
use Rattle.ice_regret.specs.Regretted.{IsRegretOf, lower_search}
use Rattle.ice_regret.specs.Ties.{IsUseless}
use Rattle.ice_regret.proofs.Tied.{tie_is_found}
use Rattle.ice_regret.proofs.ties.keep_smallest.Goals as goal

pub returns-in-None-clause-kept : goal.returns-in-None-clause-kept
returns-in-None-clause-kept c =
    let now = c.loop-try.invariant in
    let useless = rw c.in-None.is at c.in_ok-smaller_regret.ensures in
    record {
      first = c.args.first.amount;
      is_first = c.requires.first.regret;
      no_greater = omega (arith, ints, now.falls);
      changed = now.changed;
      unchanged = now.unchanged;
      last = inl (subst (λ (v : ℤ). IsUseless c.args.exchange.now c.args.bounds.now c.args.before v c.loop-try.kept) now.value useless);
    }

pub loop-try-preserved : goal.loop-try-preserved
loop-try-preserved c =
    let ex = c.args.exchange.now in
    let bounds = c.args.bounds.now in
    let now = c.loop-try.invariant in
    let taken = rw c.in-Some.is at c.in_ok-smaller_regret.ensures in
    let rival : c.loop-try.kept.rival ≡ c.into_rival.result = sym c.into_rival.ensures in
    record {
      found = subst (λ (a : Assignment). IsFoundBy (lower_search ex bounds) (record { best = a; value = c.loop-try.best.value; log = c.loop-try.best.log })) rival
          (tie_is_found ex bounds c.loop-try.best c.loop-try.kept.rival now.found now.regret.found.attained.feasible taken.0.tied);
      log = now.log;
      value = now.value;
      regret = subst (λ (a : Assignment). IsRegretOf ex bounds a c.in-Some.other) rival taken.1;
      branches = taken.3;
      falls = omega (arith, ints, taken.2, now.falls);
      changed = inr (omega (arith, ints, taken.2, now.falls));
      unchanged = λ h. absurd (omega (arith, ints, h, taken.0.above, now.falls));
    }
