use Rattle.std.proofs.Common.{◌≡◌, ℕ, suc, ◌∙◌, [], length, get_or, true, ◌&&◌, None, sym, ap, subst, arith, rules}
use Rattle.std.specs.Prelude.{nat_lt}
use Rattle.std.proofs.lemmas.Bool.Decides.{nat_tests}
use Rattle.std.proofs.lemmas.Result.{err_from_is_err_and}
use Rattle.ice_defs.specs.Making.{TreeDraft, is_complete}
use Rattle.ice_tree.specs.Making.{Making, draft_close_refusal}
use Rattle.ice_xor.specs.FlatBids.{packages_nodes}
use Rattle.ice_xor.specs.Building.{package_refusal}
use Rattle.ice_xor.proofs.Built.{built, few-packages, most-same, most-few}
use Rattle.ice_xor.proofs.Packing.{IsBuilding, building-root, building-refused, building-more, building-closes, building-allowed, building-done}
use Rattle.ice_xor.proofs.building.tree_of.Goals as goal

rooted : (n : ℕ) → (nat_lt 0 (suc n) && true) ≡ true
rooted n = grind (arith, nat_tests)

pub add_package-requires-clause-root : goal.add_package-requires-clause-root
add_package-requires-clause-root c = building-root c.args.goods c.args.bidder.now c.most_of-most.result c.loop-taken.maker.draft c.loop-taken.taken-index c.loop-taken.invariant.building

pub returns-in_err-add_package-clause-refused : goal.returns-in_err-add_package-clause-refused
returns-in_err-add_package-clause-refused c =
    let p = err_from_is_err_and c.from_residual-in_err-add_package.result c.from_residual-in_err-add_package.ensures.1 in
    let goods = c.args.goods in
    let now = c.loop-taken.maker.draft in
    let i = c.loop-taken.taken-index in
    let taken = c.taken-item.result in
    let item : taken ≡ get_or c.args.bidder.now.packages i taken = c.taken-item.is ∙ ap (λ xs. get_or xs i taken) c.packages-taken-items.ensures in
    let refused = ap (λ g. package_refusal g (length now.tree) taken) (sym c.loop-taken.invariant.goods) ∙ c.in_err-add_package.ensures.refused in
    rw (p.1, p.2) (building-refused goods c.args.bidder.now c.most_of-most.result now i taken _ c.loop-taken.invariant.building (omega (arith, ap length c.packages-taken-items.ensures)) item refused)

pub loop-taken-preserved : goal.loop-taken-preserved
loop-taken-preserved c =
    let goods = c.args.goods in
    let now = c.loop-taken.maker.draft in
    let i = c.loop-taken.taken-index in
    let taken = c.taken-item.result in
    let item : taken ≡ get_or c.args.bidder.now.packages i taken = c.taken-item.is ∙ ap (λ xs. get_or xs i taken) c.packages-taken-items.ensures in
    let allowed : package_refusal goods (length now.tree) taken ≡ None = ap (λ g. package_refusal g (length now.tree) taken) (sym c.loop-taken.invariant.goods) ∙ c.in_ok-add_package.ensures.refused in
    record {
      goods = ap (λ (m : Making). m.goods) c.in_ok-add_package.ensures.made ∙ c.loop-taken.invariant.goods;
      building = building-more goods c.args.bidder.now c.most_of-most.result now c.add_package.new.maker.draft i taken c.loop-taken.invariant.building (omega (arith, ap length c.packages-taken-items.ensures)) item allowed
          (ap (λ (m : Making). m.draft) c.in_ok-add_package.ensures.made);
    }

pub returns-in_err-close-clause-refused : goal.returns-in_err-close-clause-refused
returns-in_err-close-clause-refused c =
    let goods = c.args.goods in
    let b = c.args.bidder.now in
    let most = c.most_of-most.result in
    let now = c.loop-taken.maker.draft in
    let all : c.loop-taken.taken-index ≡ length b.packages = omega (arith, ap length c.packages-taken-items.ensures) in
    let building = subst (IsBuilding goods b most now) all c.loop-taken.invariant.building in
    let closes : draft_close_refusal now ≡ None = building-closes goods b most now building c.requires.some (most-few b most c.most_of-most.ensures c.requires.some) in
    let refused = c.in_err-close.ensures.refused in
    absurd cc

pub returns-clause-refused : goal.returns-clause-refused
returns-clause-refused c =
    let goods = c.args.goods in
    let b = c.args.bidder.now in
    let most = c.most_of-most.result in
    let now = c.loop-taken.maker.draft in
    let all : c.loop-taken.taken-index ≡ length b.packages = omega (arith, ap length c.packages-taken-items.ensures) in
    building-allowed goods b most now (subst (IsBuilding goods b most now) all c.loop-taken.invariant.building)

pub unreachable-requires : goal.unreachable-requires
unreachable-requires c =
    let goods = c.args.goods in
    let b = c.args.bidder.now in
    let most = c.most_of-most.result in
    let now = c.loop-taken.maker.draft in
    let all : c.loop-taken.taken-index ≡ length b.packages = omega (arith, ap length c.packages-taken-items.ensures) in
    let building = subst (IsBuilding goods b most now) all c.loop-taken.invariant.building in
    let draft : c.close.new.self.draft ≡ record (built most b.packages) { opened = [] } = ap (λ (m : Making). m.draft) c.in_ok-close.ensures.made ∙ building-done goods b most now building in
    let whole : is_complete c.close.new.self.draft ≡ true = ap is_complete draft ∙ rooted (length (packages_nodes 1 b.packages)) in
    search (rules, c.in_default.ensures.complete, whole)

pub returns-clause-made : goal.returns-clause-made
returns-clause-made c =
    let goods = c.args.goods in
    let b = c.args.bidder.now in
    let most = c.most_of-most.result in
    let now = c.loop-taken.maker.draft in
    let all : c.loop-taken.taken-index ≡ length b.packages = omega (arith, ap length c.packages-taken-items.ensures) in
    let building = subst (IsBuilding goods b most now) all c.loop-taken.invariant.building in
    let draft : c.close.new.self.draft ≡ record (built most b.packages) { opened = [] } = ap (λ (m : Making). m.draft) c.in_ok-close.ensures.made ∙ building-done goods b most now building in
    let few = few-packages goods b (building-allowed goods b most now building) in
    (c.in-Ok.ensures.made.0 ∙ ap (λ (x : TreeDraft). x.tree) draft ∙ most-same b most c.most_of-most.ensures few, c.in-Ok.ensures.made.1 ∙ ap (λ (x : TreeDraft). x.bounds) draft)
