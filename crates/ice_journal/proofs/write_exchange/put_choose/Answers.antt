use Rattle.std.proofs.Common.{◌≡◌, [], ◌∷◌, decimal, refl, rules}
use Rattle.std.specs.Prelude.{codes}
use Rattle.std.specs.Fmt.{signed_decimal}
use Rattle.ice_line.specs.Writing.{with_fields}
use Rattle.ice_journal.specs.Records as line
use Rattle.ice_journal.proofs.Joined.{text_is}
use Rattle.ice_journal.proofs.write_exchange.put_choose.Goals as goal

pub returns-clause-text : goal.returns-clause-text
returns-clause-text c =
    let all : c.integer-2.new.self ≡ with_fields (codes "node") (codes "choose" ∷ decimal c.args.least ∷ decimal c.args.most ∷ decimal c.args.children ∷ signed_decimal c.args.lo ∷ signed_decimal c.args.hi ∷ []) = search rules in
    text_is (line.choose c.args.least c.args.most c.args.children c.args.lo c.args.hi) 110 (111 ∷ 100 ∷ 101 ∷ []) (codes "choose" ∷ decimal c.args.least ∷ decimal c.args.most ∷ decimal c.args.children ∷ signed_decimal c.args.lo ∷ signed_decimal c.args.hi ∷ []) c.integer-2.new.self refl all
