-- What a line that fails or passes makes of a state of the audit.
use Rattle.std.proofs.Common.{◌≡◌, ◌≢◌, suc, ◌<◌, length, sym, ap, ◌∙◌, arith}
use Rattle.std.specs.Prelude.{Some, None, option_map, IsSomeAnd}
use Rattle.std.proofs.lemmas.Option.{none-some}
use Rattle.ice_defs.specs.declared.SatRule.{SatRule}
use Rattle.ice_defs.specs.declared.SatRule.TheVariants.{Parent, Few, Many}
use Rattle.ice_journal_laws.specs.declared.rule.Rule.{Rule}
use Rattle.ice_journal_laws.specs.declared.rule.Rule.TheVariants as rule
use Rattle.ice_journal_laws.specs.Tests.{place_of}
use Rattle.ice_statement_laws.specs.Statement.{StatementLine}
use Rattle.ice_statement_laws.specs.Audit.{AuditState, bidder_at, spot_next, to_line, audit_next, stated_set, IsUnsatisfied, HasUnlawfulPrices, IsOtherVerdict, IsOtherPayment, IsRefused, AuditFails, HasOwnVerdict}
use Rattle.ice_statement_laws.proofs.Walking.{quiet}
use Rattle.ice_audit.specs.Taking.{Passes, FailsFirst}

-- the tests but the order
pub record Tests (s : AuditState) (l : StatementLine) : Type 0 where
  pub refused : ¬ IsRefused s.spot s l
  pub count : ¬ IsSomeAnd (stated_set s.spot l) (λ x. length x ≢ length (bidder_at s).tree)
  pub fault : (k : SatRule) → ¬ IsUnsatisfied k s l
  pub prices : ¬ HasUnlawfulPrices s.spot s l
  pub verdict : ¬ IsOtherVerdict s.spot s l
  pub payment : ¬ IsOtherPayment s.spot s l

-- a spot at which a line leads nowhere
pub no_next : (s : AuditState) (l : StatementLine) → spot_next s s.spot l ≡ None → audit_next s l ≡ None
no_next s l e = ap (option_map (to_line (suc s.line))) e

pub has_next : (s after : AuditState) (l : StatementLine) → spot_next s s.spot l ≡ Some after → audit_next s l ≡ Some (to_line (suc s.line) after)
has_next s after l e = ap (option_map (to_line (suc s.line))) e

-- the order comes first
pub order_fails : (s : AuditState) (l : StatementLine) → spot_next s s.spot l ≡ None → FailsFirst s l rule.Order
order_fails s l e = record { fails = no_next s l e; first = first }
  where
    first : (y : Rule) → place_of y < place_of rule.Order → ¬ AuditFails y s l
    first rule.Closed h f = f
    first other h f = absurd (omega (arith, h))

pub passes_on : (s after : AuditState) (l : StatementLine) → spot_next s s.spot l ≡ Some after → Tests s l → HasOwnVerdict s.spot s l → Passes s l (to_line (suc s.line) after)
passes_on s after l e t own = record {
  none = quiet s (to_line (suc s.line) after) l (has_next s after l e) t.refused t.count t.fault t.prices t.verdict t.payment;
  verdict = own;
  next = has_next s after l e;
}

-- ---- the other tests, where the order holds

module _ (s after : AuditState) (l : StatementLine) (e : spot_next s s.spot l ≡ Some after) where
  in_order : ¬ (audit_next s l ≡ None)
  in_order f = none-some (to_line (suc s.line) after) (sym f ∙ has_next s after l e)

  pub exchange_fails : IsRefused s.spot s l → FailsFirst s l rule.Exchange
  exchange_fails h = record { fails = h; first = first }
    where
      first : (y : Rule) → place_of y < place_of rule.Exchange → ¬ AuditFails y s l
      first rule.Order h f = in_order f
      first rule.Closed h f = f
      first rule.Short h f = f
      first other h f = absurd (omega (arith, h))

  module _ (refused : ¬ IsRefused s.spot s l) where
    pub count_fails : IsSomeAnd (stated_set s.spot l) (λ x. length x ≢ length (bidder_at s).tree) → FailsFirst s l rule.Count
    count_fails h = record { fails = h; first = first }
      where
        first : (y : Rule) → place_of y < place_of rule.Count → ¬ AuditFails y s l
        first rule.Order h f = in_order f
        first rule.Exchange h f = refused f
        first rule.Closed h f = f
        first rule.Short h f = f
        first other h f = absurd (omega (arith, h))

    module _ (count : ¬ IsSomeAnd (stated_set s.spot l) (λ x. length x ≢ length (bidder_at s).tree)) where
      pub parent_fails : IsUnsatisfied Parent s l → FailsFirst s l rule.Parent
      parent_fails h = record { fails = h; first = first }
        where
          first : (y : Rule) → place_of y < place_of rule.Parent → ¬ AuditFails y s l
          first rule.Order h f = in_order f
          first rule.Exchange h f = refused f
          first rule.Count h f = count f
          first rule.Closed h f = f
          first rule.Short h f = f
          first other h f = absurd (omega (arith, h))

      pub few_fails : IsUnsatisfied Few s l → ¬ IsUnsatisfied Parent s l → FailsFirst s l rule.Few
      few_fails h parent = record { fails = h; first = first }
        where
          first : (y : Rule) → place_of y < place_of rule.Few → ¬ AuditFails y s l
          first rule.Order h f = in_order f
          first rule.Exchange h f = refused f
          first rule.Count h f = count f
          first rule.Parent h f = parent f
          first rule.Closed h f = f
          first rule.Short h f = f
          first other h f = absurd (omega (arith, h))

      pub many_fails : IsUnsatisfied Many s l → ¬ IsUnsatisfied Parent s l → ¬ IsUnsatisfied Few s l → FailsFirst s l rule.Many
      many_fails h parent few = record { fails = h; first = first }
        where
          first : (y : Rule) → place_of y < place_of rule.Many → ¬ AuditFails y s l
          first rule.Order h f = in_order f
          first rule.Exchange h f = refused f
          first rule.Count h f = count f
          first rule.Parent h f = parent f
          first rule.Few h f = few f
          first rule.Closed h f = f
          first rule.Short h f = f
          first other h f = absurd (omega (arith, h))

      module _ (fault : (k : SatRule) → ¬ IsUnsatisfied k s l) where
        pub prices_fail : HasUnlawfulPrices s.spot s l → FailsFirst s l rule.Prices
        prices_fail h = record { fails = h; first = first }
          where
            first : (y : Rule) → place_of y < place_of rule.Prices → ¬ AuditFails y s l
            first rule.Prices h f = absurd (omega (arith, h))
            first rule.Verdict h f = absurd (omega (arith, h))
            first rule.Payment h f = absurd (omega (arith, h))
            first rule.Order h f = in_order f
            first rule.Exchange h f = refused f
            first rule.Count h f = count f
            first rule.Parent h f = fault Parent f
            first rule.Few h f = fault Few f
            first rule.Many h f = fault Many f
            first other h f = f

        module _ (prices : ¬ HasUnlawfulPrices s.spot s l) where
          pub verdict_fails : IsOtherVerdict s.spot s l → FailsFirst s l rule.Verdict
          verdict_fails h = record { fails = h; first = first }
            where
              first : (y : Rule) → place_of y < place_of rule.Verdict → ¬ AuditFails y s l
              first rule.Verdict h f = absurd (omega (arith, h))
              first rule.Payment h f = absurd (omega (arith, h))
              first rule.Order h f = in_order f
              first rule.Exchange h f = refused f
              first rule.Count h f = count f
              first rule.Parent h f = fault Parent f
              first rule.Few h f = fault Few f
              first rule.Many h f = fault Many f
              first rule.Prices h f = prices f
              first other h f = f

          pub payment_fails : IsOtherPayment s.spot s l → ¬ IsOtherVerdict s.spot s l → FailsFirst s l rule.Payment
          payment_fails h verdict = record { fails = h; first = first }
            where
              first : (y : Rule) → place_of y < place_of rule.Payment → ¬ AuditFails y s l
              first rule.Payment h f = absurd (omega (arith, h))
              first rule.Order h f = in_order f
              first rule.Exchange h f = refused f
              first rule.Count h f = count f
              first rule.Parent h f = fault Parent f
              first rule.Few h f = fault Few f
              first rule.Many h f = fault Many f
              first rule.Prices h f = prices f
              first rule.Verdict h f = verdict f
              first other h f = f
