-- A log that passes from the start of a group has fewer branch steps than 2 to the number of nodes.
use Rattle.std.proofs.Common.{ℕ, ◌≤◌, ◌≡◌, List, [], ◌∷◌, length, replicate, sum, refl, ap, arith}
use Rattle.std.specs.Prelude.{sum_by}
use Rattle.std.proofs.Math.Nat.{pow-le-pow_right}
use Rattle.std.proofs.lemmas.List.{length-replicate}
use Rattle.std.proofs.lemmas.List.Sums.{sum_by-cons}
use Rattle.ice_defs.specs.declared.Mark.TheVariants.{Free, Never}
use Rattle.ice_defs.specs.declared.Group.{Group}
use Rattle.ice_defs.specs.declared.Group.TheVariants.{Assign, Final, Rival, Provisional, Without}
use Rattle.ice_defs.specs.Tree.{Tree}
use Rattle.ice_defs.specs.Group.{free_side, start_of}
use Rattle.ice_defs.specs.Exchange.{trees_of, exact_of}
use Rattle.ice_defs.specs.Conditions.{AreFixingsOf}
use Rattle.ice_bound.proofs.Fixings.{free_fixings, marked_fixings}
use Rattle.ice_refute.specs.Waiting.{nodes_of, free_count}
use Rattle.ice_refute.proofs.Kept.{free_count-le, nodes_of-with_mark}
use Rattle.ice_defs.specs.Derived.{goods_alone}
use Rattle.ice_refute.proofs.Counting.{log_is_short}
use Rattle.ice_session_laws.specs.Branches.{node_total}
use Rattle.ice_session_laws.specs.BranchLaws.{GroupLogIsShort}

free_nodes : (ts : List Tree) → sum (nodes_of (free_side ts)) ≡ sum_by (λ (t : Tree). length t) ts
free_nodes [] = refl
free_nodes (t ∷ ts) =
    omega (arith, sum_by-cons (λ (n : ℕ). n) (length (replicate (length t) Free)) (nodes_of (free_side ts)), sum_by-cons (λ (x : Tree). length x) t ts, length-replicate (length t) Free, free_nodes ts)

start_fixings : (ts : List Tree) (g : Group) → AreFixingsOf ts (start_of ts g)
start_fixings ts Assign = free_fixings ts
start_fixings ts Final = free_fixings ts
start_fixings ts Rival = free_fixings ts
start_fixings ts Provisional = free_fixings ts
start_fixings ts (Without b) = marked_fixings ts (free_side ts) b 0 Never (free_fixings ts)

start_nodes : (ts : List Tree) (g : Group) → nodes_of (start_of ts g) ≡ nodes_of (free_side ts)
start_nodes ts Assign = refl
start_nodes ts Final = refl
start_nodes ts Rival = refl
start_nodes ts Provisional = refl
start_nodes ts (Without b) = nodes_of-with_mark (free_side ts) b 0 Never

pub group_log_is_short : GroupLogIsShort
group_log_is_short ex ws target g log passes =
    let ts = trees_of ex in
    let start = start_of ts g in
    let short = (log_is_short goods_alone ts (exact_of ex) ws target start log (start_fixings ts g) passes).0 in
    let few : free_count start ≤ node_total ex = omega (arith, free_count-le start, ap sum (start_nodes ts g), free_nodes ts) in
    omega (arith, short, pow-le-pow_right {n = 2} (omega arith) few)
