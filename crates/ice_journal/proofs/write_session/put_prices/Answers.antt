use Rattle.std.proofs.Common.{◌≡◌, [], ◌∷◌, map, decimal, refl, rules}
use Rattle.std.specs.Prelude.{codes}
use Rattle.std.specs.Fmt.{signed_decimal}
use Rattle.ice_line.specs.Writing.{with_fields}
use Rattle.ice_journal.specs.Records as line
use Rattle.ice_journal.proofs.Joined.{text_is}
use Rattle.ice_journal.proofs.write_session.put_prices.Goals as goal

pub returns-clause-text : goal.returns-clause-text
returns-clause-text c =
    let all : c.put_integers.new.to ≡ with_fields (codes "prices") (decimal c.args.prices.now.den ∷ map signed_decimal c.args.prices.now.nums) = search rules in
    text_is (line.prices c.args.prices.now) 112 (114 ∷ 105 ∷ 99 ∷ 101 ∷ 115 ∷ []) (decimal c.args.prices.now.den ∷ map signed_decimal c.args.prices.now.nums) c.put_integers.new.to refl all
