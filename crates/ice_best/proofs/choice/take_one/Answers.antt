use Rattle.std.proofs.Common.{arith, ◌+◌, ◌<◌, ◌≤◌, subst, sym, get_or, length, set, true, pos, ◌≤ℤ◌}
use Rattle.std.proofs.lemmas.Int.{ints}
use Rattle.std.proofs.lemmas.Bool.{both_ways, leb-true, leb-false}
use Rattle.ice_defs.specs.Set.{has, weight_of}
use Rattle.ice_best.proofs.Partial.{IsPartial, IsPartial-needed, IsPartial-put, IsBestChoice-from_partial, no_choice-few}
use Rattle.ice_best.proofs.Flags.{has-put_same, has-put_other, apart}
use Rattle.ice_best.proofs.choice.take_one.Goals as goal
use Rattle.ice_best.proofs.choice.take_one.Goals.{else-n-least-via-then-n-least+else-not-adds_value, else-n-least-via-else-n-least}

pub returns-then-n-most-clause-best : goal.returns-then-n-most-clause-best
returns-then-n-most-clause-best c =
    let gain = weight_of c.args.gain.now in
    let possible = has c.args.possible.now in
    let taken = has c.args.taken.now in
    let cs = c.args.family.now.children.now in
    let partial = IsPartial-needed gain taken possible c.args.family.now.least c.args.family.now.most cs taken c.args.n c.requires.started c.requires.few in
    λ enough.
    IsBestChoice-from_partial gain taken possible c.args.family.now.least c.args.family.now.most cs taken c.args.n partial (leb-true _ _ enough)
    (λ l. absurd (omega (arith, c.if-n-most.true)))

pub returns-in_default-clause-best : goal.returns-in_default-clause-best
returns-in_default-clause-best c =
    let gain = weight_of c.args.gain.now in
    let possible = has c.args.possible.now in
    let taken = has c.args.taken.now in
    let cs = c.args.family.now.children.now in
    let partial = IsPartial-needed gain taken possible c.args.family.now.least c.args.family.now.most cs taken c.args.n c.requires.started c.requires.few in
    λ enough.
    IsBestChoice-from_partial gain taken possible c.args.family.now.least c.args.family.now.most cs taken c.args.n partial (leb-true _ _ enough)
    (λ _ j h free may. absurd (both_ways _ free (c.in_default.ensures j h may)))

pub returns-in_default-clause-none : goal.returns-in_default-clause-none
returns-in_default-clause-none c =
    let taken = has c.args.taken.now in
    λ e T is.
    no_choice-few taken (has c.args.possible.now) c.args.family.now.least c.args.family.now.most c.args.family.now.children.now taken T c.in_default.ensures
    (omega (arith, leb-false _ _ e, c.requires.started.count_is)) is

pub returns-then-not-adds_value-clause-best : goal.returns-then-not-adds_value-clause-best
returns-then-not-adds_value-clause-best c =
    let gain = weight_of c.args.gain.now in
    let possible = has c.args.possible.now in
    let taken = has c.args.taken.now in
    let cs = c.args.family.now.children.now in
    let partial = IsPartial-needed gain taken possible c.args.family.now.least c.args.family.now.most cs taken c.args.n c.requires.started c.requires.few in
    let none = c.adds_value.ensures.no c.if-not-adds_value.true in
    λ _.
    IsBestChoice-from_partial gain taken possible c.args.family.now.least c.args.family.now.most cs taken c.args.n partial (omega (arith, c.if-n-least.true))
    (λ _ j h free may. omega (arith, ints, c.in-Some.ensures.is_best.best j h free may, c.in-Some.ensures.gain_is, none))

pub returns-clause-best : goal.returns-clause-best
returns-clause-best c =
    let gain = weight_of c.args.gain.now in
    let possible = has c.args.possible.now in
    let taken = c.args.taken.now in
    let cs = c.args.family.now.children.now in
    let partial = IsPartial-needed gain (has taken) possible c.args.family.now.least c.args.family.now.most cs (has taken) c.args.n c.requires.started c.requires.few in
    let j = c.in-Some.ensures.place in
    let best = c.in-Some.ensures.is_best in
    let in_taken : get_or c.args.family.now.children.now c.in-Some.ensures.place 0 < length c.args.taken.now = c.requires.taken j best.there in
    let adds : c.args.family.now.least ≤ c.args.n → pos 0 ≤ℤ weight_of c.args.gain.now (get_or c.args.family.now.children.now c.in-Some.ensures.place 0) =
    λ h. elim c.else-n-least.branch [
      | else-n-least-via-then-n-least+else-not-adds_value w ↦ omega (arith, ints, c.in-Some.ensures.gain_is, w.adds_value.ensures.yes w.if-not-adds_value.false)
      | else-n-least-via-else-n-least w ↦ absurd {A = pos 0 ≤ℤ weight_of c.args.gain.now (get_or c.args.family.now.children.now c.in-Some.ensures.place 0)} (omega (arith, h, w.if-n-least.false))
    ] in
    let put =
    IsPartial-put gain (has taken) possible c.args.family.now.least c.args.family.now.most cs (has taken) (has (set taken (get_or cs j 0) true)) c.args.n j partial best
    (omega (arith, c.if-n-most.false, c.requires.few)) adds (has-put_same taken (get_or cs j 0) true in_taken)
    (λ i h ne. has-put_other taken (get_or cs j 0) (get_or cs i 0) true (apart cs i j c.requires.increasing h best.there ne)) in
    λ enough.
    IsBestChoice-from_partial gain (has taken) possible c.args.family.now.least c.args.family.now.most cs _ (c.args.n + 1)
    (subst (λ n. IsPartial gain (has taken) possible c.args.family.now.least c.args.family.now.most cs (has (set taken n true)) (c.args.n + 1)) (sym c.in-Some.ensures.child_is) put)
    (leb-true _ _ enough) (λ l. absurd (omega (arith, l, c.requires.one)))
