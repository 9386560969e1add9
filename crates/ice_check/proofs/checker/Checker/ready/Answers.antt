use Rattle.std.proofs.Common.{sym, subst}
use Rattle.ice_check.specs.Standing.{Checking, AreRead}
use Rattle.ice_check.proofs.checker.Checker.ready.Goals as goal

pub returns-clause-of : goal.returns-clause-of
returns-clause-of c = λ bytes h. record {
  whole = h.ends.whole;
  begun = h.ends.begun;
  cut = h.ends.cut;
  one_line = h.ends.one_line;
  lines = c.ready.ensures.of h.ends.whole (subst (λ (v : Checking). AreRead v.lines h.ends.whole) (sym c.self.view_is) h.ends.lines);
  text = tt;
}
