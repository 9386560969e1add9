use Rattle.std.proofs.Common.{◌≡◌, ◌∙◌, ℕ, List, ap, take, replicate}
use Rattle.std.proofs.lemmas.List.{take-replicate}
use Rattle.ice_read.proofs.own.nothing.Goals as goal

pub returns : goal.returns
returns c =
    let zeros : c.from-own.result.items ≡ replicate 32 0 = c.from-own.ensures.0 in
    c.truncate.ensures.items ∙ ap (λ (xs : List ℕ). take c.args.goods xs) zeros ∙ take-replicate c.args.goods 32 0 c.requires
