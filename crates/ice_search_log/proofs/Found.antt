-- What a search finds is the best, by its log.
use Rattle.ice_refute.proofs.Refutes.{log_refutes, log_by_refutes}
use Rattle.ice_search_log.specs.Laws.{FoundIsBest, FoundByIsBest}

pub found_is_best : FoundIsBest
found_is_best ts exact ws start first p counts found = record {
  attained = (p.sets, (found.attained.feasible, found.attained.meets), found.attained.has);
  bound = λ a is. log_refutes ts exact ws p.value start p.log a counts found.passes is.0 is.1;
}

pub found_by_is_best : FoundByIsBest
found_by_is_best means ts exact ws start first p lawful counts found = record {
  attained = (p.sets, (found.attained.feasible, found.attained.meets), found.attained.has);
  bound = λ a is. log_by_refutes means ts exact ws p.value start p.log a lawful counts found.passes is.0 is.1;
}
