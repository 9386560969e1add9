use Rattle.std.proofs.Common.{◌≡◌, map, take}
use Rattle.serde_json.specs.View.{view}
use Rattle.ice_read.specs.Written.{good_data}
use Rattle.ice_read.proofs.write.goods_value.Given as goal

abbrev pub invariant-loop-good : goal.invariant-loop-good
invariant-loop-good l = map view l.goods.items ≡ map good_data (take l.good l.ex.goods)
