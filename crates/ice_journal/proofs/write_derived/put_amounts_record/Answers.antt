use Rattle.std.proofs.Common.{◌≡◌, [], ◌∷◌, decimal, refl, rules}
use Rattle.std.specs.Prelude.{codes}
use Rattle.ice_line.specs.Writing.{with_fields}
use Rattle.ice_journal.specs.Records as line
use Rattle.ice_journal.specs.Spelling.{numbers_fields}
use Rattle.ice_journal.specs.Lines.{numbers_of}
use Rattle.ice_journal.proofs.Joined.{text_is}
use Rattle.ice_journal.proofs.write_derived.put_amounts_record.Goals as goal

pub returns-clause-text : goal.returns-clause-text
returns-clause-text c =
    let numbers = numbers_of c.args.numbers.now in
    let all : c.put_numbers.new.to ≡ with_fields (codes "amounts") (decimal c.args.bidder ∷ numbers_fields numbers) = search rules in
    text_is (line.amounts c.args.bidder numbers) 97 (109 ∷ 111 ∷ 117 ∷ 110 ∷ 116 ∷ 115 ∷ []) (decimal c.args.bidder ∷ numbers_fields numbers) c.put_numbers.new.to refl all
