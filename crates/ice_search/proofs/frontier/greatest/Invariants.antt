use Rattle.ice_search_log.specs.Code.{parts_of}
use Rattle.ice_search.specs.Open.{IsAboveFirst, IsHigher, bound_at}
use Rattle.ice_search.proofs.frontier.greatest.Given as goal

abbrev pub invariant-loop-place : goal.invariant-loop-place
invariant-loop-place l = record {
  higher : IsHigher (parts_of l.parts) l.open_parts l.value l.place l.found;
  above : IsAboveFirst (parts_of l.parts) l.open_parts l.place (bound_at (parts_of l.parts) l.open_parts l.value l.found);
}
