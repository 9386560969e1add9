use Rattle.std.proofs.Common.{[], ap}
use Rattle.ice_section.specs.declared.prices_file.PricesFile.{PricesFile}
use Rattle.ice_section.specs.FileSteps.{prices_after}
use Rattle.ice_section.specs.FileStates.{prices_so_far}
use Rattle.ice_section.proofs.Files.{is_misplaced}
use Rattle.ice_section.proofs.prices_file.PricesFile.finish.Goals as goal

pub returns-in-Head-clause-fault : goal.returns-in-Head-clause-fault
returns-in-Head-clause-fault c = (
  λ goods. is_misplaced _ 1 c.misplaced.result c.misplaced.ensures (ap (λ (file : PricesFile). prices_after goods (prices_so_far file) []) c.in-Head.is),
  λ e. absurd cc,
)

pub returns-in-Prices-clause-fault : goal.returns-in-Prices-clause-fault
returns-in-Prices-clause-fault c = (
  λ goods. is_misplaced _ 2 c.misplaced-in-Prices.result c.misplaced-in-Prices.ensures (ap (λ (file : PricesFile). prices_after goods (prices_so_far file) []) c.in-Prices.is),
  λ e. absurd cc,
)

pub returns-in-End-clause-fault : goal.returns-in-End-clause-fault
returns-in-End-clause-fault c = (
  λ goods. is_misplaced _ 3 c.misplaced-in-End.result c.misplaced-in-End.ensures (ap (λ (file : PricesFile). prices_after goods (prices_so_far file) []) c.in-End.is),
  λ e. absurd cc,
)

pub returns-in-Failed-clause-fault : goal.returns-in-Failed-clause-fault
returns-in-Failed-clause-fault c = (
  λ goods. is_misplaced _ c.in-Failed.line c.misplaced-in-Failed.result c.misplaced-in-Failed.ensures (ap (λ (file : PricesFile). prices_after goods (prices_so_far file) []) c.in-Failed.is),
  λ e. absurd cc,
)
