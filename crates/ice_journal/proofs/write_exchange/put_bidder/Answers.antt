use Rattle.std.proofs.Common.{◌≡◌, [], ◌∷◌, map, decimal, refl, rules}
use Rattle.std.specs.Prelude.{codes}
use Rattle.ice_line.specs.Writing.{with_fields}
use Rattle.ice_journal.specs.Records as line
use Rattle.ice_journal.proofs.Joined.{text_is}
use Rattle.ice_journal.proofs.write_exchange.put_bidder.Goals as goal

pub returns-clause-text : goal.returns-clause-text
returns-clause-text c =
    let all : c.put_amounts.new.to ≡ with_fields (codes "bidder") (c.args.name.now ∷ map decimal c.args.own.now) = search rules in
    text_is (line.bidder c.args.name.now c.args.own.now) 98 (105 ∷ 100 ∷ 100 ∷ 101 ∷ 114 ∷ []) (c.args.name.now ∷ map decimal c.args.own.now) c.put_amounts.new.to refl all
