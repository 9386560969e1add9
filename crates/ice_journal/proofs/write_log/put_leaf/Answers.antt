use Rattle.std.proofs.Common.{◌≡◌, [], ◌∷◌, map, refl, rules}
use Rattle.std.specs.Prelude.{codes}
use Rattle.std.specs.Fmt.{signed_decimal}
use Rattle.ice_defs.specs.Steps.{leaf}
use Rattle.ice_line.specs.Writing.{with_fields}
use Rattle.ice_journal.specs.Records as line
use Rattle.ice_journal.proofs.Joined.{text_is}
use Rattle.ice_journal.proofs.write_log.put_leaf.Goals as goal

pub returns-clause-text : goal.returns-clause-text
returns-clause-text c =
    let all : c.put_integers.new.to ≡ with_fields (codes "leaf") (map signed_decimal c.args.multipliers.now) = search rules in
    text_is (line.step (leaf c.args.multipliers.now)) 108 (101 ∷ 97 ∷ 102 ∷ []) (map signed_decimal c.args.multipliers.now) c.put_integers.new.to refl all
