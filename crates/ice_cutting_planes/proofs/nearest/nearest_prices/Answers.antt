use Rattle.ice_cutting_planes.proofs.Works.{more-trans}
use Rattle.ice_cutting_planes.proofs.nearest.nearest_prices.Goals as goal

pub returns-in_err-prices : goal.returns-in_err-prices
returns-in_err-prices c = more-trans _ _ _ c.run_whole_stage.ensures c.prices_at.ensures

pub returns-in_err-delta : goal.returns-in_err-delta
returns-in_err-delta c = more-trans _ _ _ c.run_whole_stage.ensures c.prices_at.ensures

pub returns : goal.returns
returns c = more-trans _ _ _ c.run_whole_stage.ensures c.prices_at.ensures
