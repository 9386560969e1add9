use Rattle.ice_xor.proofs.Translated.{IsTranslating}
use Rattle.ice_xor.proofs.translation.translate.Given as goal

abbrev pub invariant-loop-bidder : goal.invariant-loop-bidder
invariant-loop-bidder l = record {
  translating : IsTranslating l.flat l.exchange l.bidder;
}
