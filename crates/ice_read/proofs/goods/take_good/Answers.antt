use Rattle.std.proofs.Common.{◌∙◌, ◌++◌, ◌∷◌, [], ap}
use Rattle.ice_defs.specs.Exchange.{Good}
use Rattle.ice_defs.specs.FileFault.{◌>>=◌}
use Rattle.ice_defs.specs.Making.{good_refusal}
use Rattle.ice_read.specs.ExchangeFile.{add_good}
use Rattle.ice_read.proofs.GoodsAndBidders.{unmade}
use Rattle.ice_read.proofs.goods.take_good.Goals as goal

pub returns-in-Err-add_good-clause-refused : goal.returns-in-Err-add_good-clause-refused
returns-in-Err-add_good-clause-refused c = λ path.
    let ex = c.args.exchange.now in
    let good : Good = record { name = c.in-Ok.good.0.now; exact = c.in-Ok.good.1 } in
    let due = rw c.requires at c.in-Err-add_good.ensures.refused in
    ap (λ r. r >>= add_good path ex.goods) (c.in-Ok.ensures.reading path) ∙ unmade (good_refusal ex.goods [] good.name) c.in-Err-add_good.fault c.of.result (ex.goods ++ good ∷ []) path due.0 due.1 c.of.ensures
