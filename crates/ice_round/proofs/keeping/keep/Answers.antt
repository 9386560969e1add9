use Rattle.std.proofs.Common.{◌∙◌, sym, ap, length}
use Rattle.std.proofs.lemmas.List.{length-map}
use Rattle.ice_round.proofs.keeping.keep.Goals as goal

pub copy_from-requires : goal.copy_from-requires
copy_from-requires c = c.requires ∙ sym (ap length c.in_ok-witness.ensures ∙ length-map c.args.trees.now _)
