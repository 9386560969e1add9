use Rattle.std.proofs.Common.{◌≡◌, [], rules, refl, sym, subst}
use Rattle.ice_check.specs.declared.begun.Begun.{Begun}
use Rattle.ice_check.specs.Standing.{IsTextOf}
use Rattle.ice_check.proofs.Standing.{no_byte, nothing_taken}
use Rattle.ice_check.proofs.checker.Checker.new.Goals as goal

pub returns-clause-stands : goal.returns-clause-stands
returns-clause-stands c =
    let same : c.in_ok-begun.begun.value ≡ c.new.result = search rules in
    record {
      count = refl;
      ends = record {
        whole = [];
        begun = [];
        cut = refl;
        one_line = no_byte;
        lines = nothing_taken c.new-5.result c.new-5.ensures.made c.new-5.ensures.first;
        text = subst (λ (b : Begun). IsTextOf b []) (sym same) c.new.ensures;
      };
    }
