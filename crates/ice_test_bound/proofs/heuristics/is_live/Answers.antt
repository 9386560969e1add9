use Rattle.ice_test_bound.proofs.heuristics.is_live.Goals as goal

pub returns-in-Sum : goal.returns-in-Sum
returns-in-Sum c sure b h =
    let (best, each, sum) = c.in-Sum.ensures.answer in
    let (s, is, same) = (each b h).attained in (s, is)
