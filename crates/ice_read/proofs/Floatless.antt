-- What is spelled in numbers has no float.
use Rattle.std.proofs.Common.{◌≡◌, false, refl}
use Rattle.std.proofs.lemmas.Bool.{or_from}
use Rattle.json.specs.Word.{after_number}
use Rattle.json.specs.Tree.{HasNumbers, ItemsHaveNumbers, MembersHaveNumbers}
use Rattle.serde_json.specs.Data.{Data, unsigned, negative, float, null, boolean, number, string, array, object, Items, no_items, item, Members, no_members, member}
use Rattle.serde_json.specs.Written.{outline, items_outline, members_outline, has_float, items_have_float, members_have_float}

mutual
  unfolding after_number

  pub floatless : (d : Data) → HasNumbers (outline d) → has_float d ≡ false
  floatless null numbers = refl
  floatless (boolean b) numbers = refl
  floatless (number (unsigned n)) numbers = refl
  floatless (number (negative z)) numbers = refl
  floatless (number (float x)) numbers = absurd cc
  floatless (string s) numbers = refl
  floatless (array ds) numbers = items_floatless ds numbers
  floatless (object ms) numbers = members_floatless ms numbers

  items_floatless : (ds : Items) → ItemsHaveNumbers (items_outline ds) → items_have_float ds ≡ false
  items_floatless no_items numbers = refl
  items_floatless (item d ds) numbers = or_from (has_float d) (items_have_float ds) (floatless d numbers.0) (items_floatless ds numbers.1)

  members_floatless : (ms : Members) → MembersHaveNumbers (members_outline ms) → members_have_float ms ≡ false
  members_floatless no_members numbers = refl
  members_floatless (member k d ms) numbers = or_from (has_float d) (members_have_float ms) (floatless d numbers.0) (members_floatless ms numbers.1)
