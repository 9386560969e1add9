use Rattle.std.proofs.Common.{◌≡◌, [], ◌∷◌, length, map, decimal, refl, sym, ap, ◌∙◌, rules}
use Rattle.std.specs.Prelude.{codes}
use Rattle.std.specs.List.{flat_map}
use Rattle.std.proofs.lemmas.List.{length-map}
use Rattle.ice_line.specs.Writing.{with_fields}
use Rattle.ice_journal.specs.Records as line
use Rattle.ice_journal.specs.Spelling.{change_fields}
use Rattle.ice_journal.specs.Lines.{change_of}
use Rattle.ice_journal.proofs.Joined.{text_is}
use Rattle.ice_journal.proofs.write_log.put_near.Goals as goal

pub returns-clause-text : goal.returns-clause-text
returns-clause-text c =
    let changes = map change_of c.args.changes.now in
    let all : c.put_changes.new.to ≡ with_fields (codes "near") (decimal (length c.args.changes.now) ∷ flat_map change_fields changes) = search rules in
    text_is (line.near changes) 110 (101 ∷ 97 ∷ 114 ∷ []) (decimal (length changes) ∷ flat_map change_fields changes) c.put_changes.new.to refl
    (all ∙ ap (λ n. with_fields (codes "near") (decimal n ∷ flat_map change_fields changes)) (sym (length-map c.args.changes.now change_of)))
