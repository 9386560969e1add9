use Rattle.std.proofs.Common.{sym, subst}
use Rattle.ice_journal.specs.Records as line
use Rattle.ice_verdicts.specs.Judges.{Round}
use Rattle.ice_statement_laws.specs.Statement.{shown}
use Rattle.ice_audit.specs.declared.next.Next.TheVariants as next
use Rattle.ice_audit.specs.Taking.{GoesOn}
use Rattle.ice_audit.proofs.Stepping.{prices_taken, prices_unlawful}
use Rattle.ice_audit.proofs.settlements.Settlements.put_prices.Goals as goal

pub returns-then-are_lawful_in : goal.returns-then-are_lawful_in
returns-then-are_lawful_in c =
    let x = c.args.self.now in
    subst (λ (r : Round). GoesOn x (shown (line.prices c.args.prices.now)) (record x { judge = r; next = next.Round })) (sym c.price.ensures.prices)
    (prices_taken x c.args.prices.now c.requires.next c.requires.counts (c.are_lawful_in.ensures.yes c.if-are_lawful_in.true) c.requires.kept)

pub returns-else-are_lawful_in : goal.returns-else-are_lawful_in
returns-else-are_lawful_in c = prices_unlawful c.args.self.now c.args.prices.now c.requires.next c.requires.counts (c.are_lawful_in.ensures.no c.if-are_lawful_in.false)
