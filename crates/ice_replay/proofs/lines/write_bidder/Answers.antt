use Rattle.std.proofs.Common.{◌≡◌, [], ◌∷◌, ◌++◌, List, ℕ, ◌∙◌, ap, rules}
use Rattle.std.specs.Prelude.{codes}
use Rattle.ice_line.specs.Writing.{with_fields}
use Rattle.ice_journal.proofs.Joined.{with_fields-joined}
use Rattle.ice_replay.specs.Lines.{pairs}
use Rattle.ice_replay.proofs.lines.write_bidder.Goals as goal

pub returns : goal.returns
returns c =
    let b = c.args.bidder.now in
    let all : c.write_nodes.new.to ≡ with_fields (codes "bounds") (b.name ∷ pairs b.bounds.lo b.bounds.hi) = search rules in
    c.end.ensures ∙ ap (λ (t : List ℕ). t ++ 10 ∷ []) (all ∙ with_fields-joined 98 (111 ∷ 117 ∷ 110 ∷ 100 ∷ 115 ∷ []) (b.name ∷ pairs b.bounds.lo b.bounds.hi))
