-- Parts and steps of the code as those of the definitions.
use Rattle.std.specs.Prelude.{List, map}
use Rattle.std.specs.Option.{option_map}
use Rattle.ice_defs.specs.Steps as steps
use Rattle.ice_search_log.specs.Parts as parts
use Rattle.ice_search_log.specs.Code.{split_of}
use Rattle.ice_tolled_log.specs.declared.part.TolledPart.{TolledPart}
use Rattle.ice_tolled_log.specs.declared.step.TolledStep.{TolledStep}
use Rattle.ice_tolled_log.specs.declared.step.TolledStep.TheVariants.{Branch, Leaf}

abbrev pub part_of : TolledPart → parts.Part
part_of p = record {
  put = record { above = p.above; bidder = p.bidder; node = p.node; mark = p.mark };
  m = p.m;
  key = p.key;
  swept = p.swept;
  split = option_map split_of p.split;
}

abbrev pub parts_of : List TolledPart → List parts.Part
parts_of list = map part_of list

abbrev pub step_of : TolledStep → steps.Step
step_of (Branch bidder node) = steps.branch bidder node
step_of (Leaf m) = steps.leaf m

abbrev pub steps_of : List TolledStep → List steps.Step
steps_of log = map step_of log
