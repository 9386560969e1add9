use Rattle.std.proofs.Common.{◌≡◌, true, arith, length, ap, sym, ◌∙◌}
use Rattle.ice_defs.specs.Steps.{leaf, sides_after}
use Rattle.ice_refute.specs.Waiting.{WalkView, open_sides}
use Rattle.ice_refute.proofs.Kept.{few_sides}
use Rattle.ice_refute.proofs.Opening.{is_opened}
use Rattle.ice_refute.proofs.walk.Walk.leave.Goals as goal

pub returns-clause-sides : goal.returns-clause-sides
returns-clause-sides c m =
    let same : open_sides c.self.inside.is_open c.self.inside.marks c.self.inside.branches.items ≡ c.args.self.now.sides = ap (λ (v : WalkView). v.sides) c.self.view_is in
    let opened : c.self.inside.is_open ≡ true = is_opened c.self.inside.is_open c.self.inside.marks c.self.inside.branches.items (omega (arith, ap length same, c.requires)) in
    c.leave-self-inside.ensures.sides
    ∙ ap (λ b. sides_after (open_sides b c.self.inside.marks c.self.inside.branches.items) (leaf m)) (sym opened)
    ∙ ap (λ s. sides_after s (leaf m)) same

pub returns-clause-few : goal.returns-clause-few
returns-clause-few c = few_sides c.leave-self-inside.result c.leave-self-inside.new.marks c.leave-self-inside.new.branches.items c.leave-self-inside.ensures.kept
