use Rattle.std.proofs.lemmas.Nat.Bits.{shr_and_one}
use Rattle.std.proofs.Common.{refl}
use Rattle.ice_set.proofs.word.bit.Goals as goal

pub returns : goal.returns
returns c = rw shr_and_one refl
