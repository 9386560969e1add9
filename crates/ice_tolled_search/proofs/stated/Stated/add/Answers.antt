use Rattle.std.proofs.Common.{ap, sym, ◌∙◌, subst, ◌++◌, ◌∷◌, [], rules, FitsSigned, to_z, of_z}
use Rattle.std.specs.Int.{w64}
use Rattle.std.proofs.lemmas.Int.{to_z-of_z}
use Rattle.ice_defs.specs.Derived.{Derived}
use Rattle.ice_defs.specs.Follows.{AreLawful}
use Rattle.ice_refute.proofs.Derived.{lawful_grows}
use Rattle.ice_tolled_search.proofs.stated.Stated.add.Goals as goal

pub returns-clause-lawful : goal.returns-clause-lawful
returns-clause-lawful c =
    let ts = c.args.trees.now in
    let exact = c.args.room.now in
    let d = c.args.one.derived in
    let fits : FitsSigned w64 c.limit.result = search rules in
    let limit = to_z-of_z w64 c.limit.result fits ∙ c.limit.ensures in
    let added = c.push.ensures.goods ∙ ap (λ (x : Derived). c.args.self.now.goods.goods ++ x ∷ [])
    (ap (λ a. record { amounts = a; limit = to_z w64 (of_z w64 c.limit.result) }) c.amounts.ensures ∙ ap (λ l. record { amounts = d.amounts; limit = l }) limit) in
    subst (AreLawful ts exact) (sym added) (((lawful_grows ts exact).1 c.args.self.now.goods.goods d).1 (c.requires.lawful, c.requires.is.follows c.args.self.now.goods.goods))
