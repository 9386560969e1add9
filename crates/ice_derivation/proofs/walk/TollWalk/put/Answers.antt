use Rattle.std.proofs.Common.{rules, ◌≡◌, ◌<◌, ◌≤◌, ◌-◌, length, set, arith}
use Rattle.ice_derivation.proofs.Views.{rate_put, toll_put}
use Rattle.ice_derivation.proofs.walk.TollWalk.put.Goals as goal

pub returns-then-place-goods : goal.returns-then-place-goods
returns-then-place-goods c =
    let i = c.self.inside in
    let there : c.args.place < length c.self.inside.rates = omega (arith, c.if-place-goods.true, c.from-goods.ensures, c.len.ensures.value) in
    let new : c.put.new.self ≡ set c.self.inside.rates c.args.place c.args.number = search (rules, there) in
    rate_put i.derived.goods i.derived.most i.walk.nodes i.desk.room i.rates i.derived.tolls i.walk.sides c.args.self.now c.self.view_is c.put.new.self c.args.place c.args.number there new

pub returns-then-place-goods-2 : goal.returns-then-place-goods-2
returns-then-place-goods-2 c =
    let i = c.self.inside in
    let past : length c.self.inside.rates ≤ c.args.place = omega (arith, c.if-place-goods.false, c.from-goods.ensures, c.len.ensures.value) in
    let new : c.put_toll.new.self.tolls ≡ set c.self.inside.derived.tolls (c.args.place - length c.self.inside.rates) c.args.number = search (rules, past) in
    toll_put i.derived.goods i.derived.most i.walk.nodes i.desk.room i.rates i.derived.tolls i.walk.sides c.args.self.now c.self.view_is c.put_toll.new.self.goods c.put_toll.new.self.most
    c.put_toll.new.self.tolls c.args.place c.args.number c.put_toll.ensures.goods c.put_toll.ensures.most past new
