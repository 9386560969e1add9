use Rattle.std.proofs.Common.{◌≡◌, [], ◌∷◌, refl, sym, ◌∙◌, rules}
use Rattle.std.specs.Prelude.{codes}
use Rattle.ice_line.specs.Writing.{with_field, with_fields}
use Rattle.ice_journal.specs.Records as line
use Rattle.ice_journal.specs.Spelling.{counted_list, submission_fields}
use Rattle.ice_journal.proofs.Joined.{text_is, with_fields-append}
use Rattle.ice_journal.proofs.write_session.put_submission.Goals as goal

pub returns-clause-text : goal.returns-clause-text
returns-clause-text c =
    let named = with_field (codes "submit") c.args.name.now in
    let all : c.put_values-2.new.to ≡ with_fields (with_fields named (counted_list c.args.lo.now)) (counted_list c.args.hi.now) = search rules in
    text_is (line.submit (record { name = c.args.name.now; lo = c.args.lo.now; hi = c.args.hi.now })) 115 (117 ∷ 98 ∷ 109 ∷ 105 ∷ 116 ∷ [])
    (submission_fields (record { name = c.args.name.now; lo = c.args.lo.now; hi = c.args.hi.now })) c.put_values-2.new.to refl
    (all ∙ sym (with_fields-append named (counted_list c.args.lo.now) (counted_list c.args.hi.now)))
