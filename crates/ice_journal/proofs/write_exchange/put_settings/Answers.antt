use Rattle.std.proofs.Common.{◌≡◌, [], ◌∷◌, refl, rules}
use Rattle.std.specs.Prelude.{codes}
use Rattle.ice_line.specs.Writing.{with_fields}
use Rattle.ice_journal.specs.Records as line
use Rattle.ice_journal.specs.Spelling.{settings_fields}
use Rattle.ice_journal.proofs.Joined.{text_is}
use Rattle.ice_journal.proofs.write_exchange.put_settings.Goals as goal

pub returns-clause-text : goal.returns-clause-text
returns-clause-text c =
    let all : c.put_derived.new.to ≡ with_fields (codes "settings") (settings_fields c.args.settings.now) = search rules in
    text_is (line.settings c.args.settings.now) 115 (101 ∷ 116 ∷ 116 ∷ 105 ∷ 110 ∷ 103 ∷ 115 ∷ []) (settings_fields c.args.settings.now) c.put_derived.new.to refl all
