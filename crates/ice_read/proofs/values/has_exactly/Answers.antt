use Rattle.std.proofs.Common.{◌≡◌, true, false, sym, ◌∙◌, length, nat_eq, arith}
use Rattle.std.proofs.lemmas.Bool.Decides.{nat_tests}
use Rattle.serde_json.specs.View.{view}
use Rattle.ice_read.proofs.ObjectMembers.{counted}
use Rattle.ice_read.proofs.values.has_exactly.Goals as goal

pub returns-then-len-names : goal.returns-then-len-names
returns-then-len-names c =
    let same : nat_eq (length c.in-Some.members.now.entries) (length c.args.names.now) ≡ true = grind (arith, nat_tests) in
    c.has_each.ensures ∙ sym (counted c.args.names.now (view c.args.value.now) c.in-Some.members.now.entries c.in-Some.ensures ∙ rw same)

pub returns-else-len-names : goal.returns-else-len-names
returns-else-len-names c =
    let other : nat_eq (length c.in-Some.members.now.entries) (length c.args.names.now) ≡ false = grind (arith, nat_tests) in
    let counts : nat_eq c.len.result (length c.args.names.now) ≡ false = grind (arith, nat_tests) in
    counts ∙ sym (counted c.args.names.now (view c.args.value.now) c.in-Some.members.now.entries c.in-Some.ensures ∙ rw other)
