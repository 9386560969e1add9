use Rattle.std.proofs.Common.{◌≡◌, [], ◌∷◌, decimal, ◌∙◌, rules}
use Rattle.std.specs.Prelude.{codes}
use Rattle.std.specs.Fmt.{signed_decimal}
use Rattle.ice_line.specs.Writing.{with_fields}
use Rattle.ice_journal.proofs.Joined.{with_fields-joined}
use Rattle.ice_journal.proofs.write_exchange.put_leaf.Goals as goal

pub returns-clause-text : goal.returns-clause-text
returns-clause-text c =
    let fields = c.args.word.now ∷ decimal c.args.good ∷ decimal c.args.units ∷ signed_decimal c.args.lo ∷ signed_decimal c.args.hi ∷ [] in
    let all : c.integer-2.new.self ≡ with_fields (codes "node") fields = search rules in
    all ∙ with_fields-joined 110 (111 ∷ 100 ∷ 101 ∷ []) fields
