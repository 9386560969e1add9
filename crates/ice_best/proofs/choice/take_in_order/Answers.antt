use Rattle.std.proofs.Common.{arith, ◌≡◌, ◌-◌, ◌+◌, ◌<◌, subst, get_or, length, take, set, true, pos, ◌≤ℤ◌, ◌≤◌, refl}
use Rattle.std.proofs.lemmas.Int.{ints}
use Rattle.std.proofs.lemmas.List.{length-take-le}
use Rattle.std.proofs.lemmas.Bool.{both_ways, leb-true, leb-false}
use Rattle.ice_defs.specs.Set.{has, weight_of}
use Rattle.ice_best.specs.declared.choice.Offer.{Offer}
use Rattle.ice_best.specs.Choice.{ChangesOnly}
use Rattle.ice_best.specs.Offers.{AreOffers}
use Rattle.ice_best.proofs.Partial.{IsPartial, IsPartial-needed, IsPartial-put, IsBestChoice-from_partial, no_choice-few}
use Rattle.ice_best.proofs.Offers.{AreOffers-start, AreOffers-rest, last_adds, last_place, last_best, last_gain, none_left}
use Rattle.ice_best.proofs.Flags.{has-put_same, has-put_other, apart, ChangesOnly-put}
use Rattle.ice_best.proofs.choice.take_in_order.Goals as goal
use Rattle.ice_best.proofs.choice.take_in_order.Goals.{else-count-least-via-then-count-least+else-not-adds_value, else-count-least-via-else-count-least}

pub loop-k-init : goal.loop-k-init
loop-k-init c = record {
  partial =
      IsPartial-needed (weight_of c.args.gain.now) (has c.args.taken.now) (has c.args.possible.now) c.args.family.now.least c.args.family.now.most c.args.family.now.children.now
      (has c.args.taken.now) c.args.n c.requires.started c.requires.fits;
  same = λ n other. refl;
  offers =
      AreOffers-start (weight_of c.args.gain.now) (has c.args.possible.now) (has c.args.taken.now) c.args.family.now.children.now c.list_offers-offered.result
      _ _ c.sort_offers.ensures.permutation (length-take-le _ _ c.list_offers-offered.ensures.fits) c.list_offers-offered.ensures.offers;
}

pub returns-then-count-most-clause-best : goal.returns-then-count-most-clause-best
returns-then-count-most-clause-best c =
    λ enough.
    IsBestChoice-from_partial (weight_of c.args.gain.now) (has c.args.taken.now) (has c.args.possible.now) c.args.family.now.least c.args.family.now.most c.args.family.now.children.now
    (has c.loop-k.taken) c.loop-k.count c.loop-k.invariant.partial (leb-true _ _ enough) (λ l. absurd (omega (arith, c.if-count-most.true)))

pub returns-then-not-adds_value-clause-best : goal.returns-then-not-adds_value-clause-best
returns-then-not-adds_value-clause-best c =
    let k = c.loop-k.k - 1 in
    let d : Offer = record { gain = pos 0; child = 0 } in
    let size = length-take-le _ _ c.list_offers-offered.ensures.fits in
    let there : c.loop-k.k - 1 < length c.sort_offers.new.offers = omega (arith, size) in
    let next : c.loop-k.k ≡ c.loop-k.k - 1 + 1 = omega arith in
    let are : AreOffers (weight_of c.args.gain.now) (has c.args.possible.now) (has c.loop-k.taken) c.args.family.now.children.now (take (c.loop-k.k - 1 + 1) c.sort_offers.new.offers) =
    subst (λ n. AreOffers (weight_of c.args.gain.now) (has c.args.possible.now) (has c.loop-k.taken) c.args.family.now.children.now (take n c.sort_offers.new.offers)) next c.loop-k.invariant.offers in
    λ _.
    IsBestChoice-from_partial (weight_of c.args.gain.now) (has c.args.taken.now) (has c.args.possible.now) c.args.family.now.least c.args.family.now.most c.args.family.now.children.now
    (has c.loop-k.taken) c.loop-k.count c.loop-k.invariant.partial (omega (arith, c.if-count-least.true))
    (λ _. last_gain (weight_of c.args.gain.now) (has c.args.possible.now) (has c.loop-k.taken) c.args.family.now.children.now c.requires.increasing
    c.sort_offers.new.offers c.sort_offers.ensures.rising k there d are (c.adds_value-adds_value.ensures.no c.if-not-adds_value.true))

pub bounds-taken-offers : goal.bounds-taken-offers
bounds-taken-offers c =
    let k = c.loop-k.k - 1 in
    let d : Offer = record { gain = pos 0; child = 0 } in
    let size = length-take-le _ _ c.list_offers-offered.ensures.fits in
    let there : c.loop-k.k - 1 < length c.sort_offers.new.offers = omega (arith, size) in
    let next : c.loop-k.k ≡ c.loop-k.k - 1 + 1 = omega arith in
    let are : AreOffers (weight_of c.args.gain.now) (has c.args.possible.now) (has c.loop-k.taken) c.args.family.now.children.now (take (c.loop-k.k - 1 + 1) c.sort_offers.new.offers) =
    subst (λ n. AreOffers (weight_of c.args.gain.now) (has c.args.possible.now) (has c.loop-k.taken) c.args.family.now.children.now (take n c.sort_offers.new.offers)) next c.loop-k.invariant.offers in
    let (j, l, e) = last_place (weight_of c.args.gain.now) (has c.args.possible.now) (has c.loop-k.taken) c.args.family.now.children.now c.requires.increasing
    c.sort_offers.new.offers c.sort_offers.ensures.rising k there d are in
    omega (arith, e, c.requires.taken j l)

pub loop-k-preserved : goal.loop-k-preserved
loop-k-preserved c =
    let gain = weight_of c.args.gain.now in
    let possible = has c.args.possible.now in
    let cs = c.args.family.now.children.now in
    let taken = c.loop-k.taken in
    let offers = c.sort_offers.new.offers in
    let k = c.loop-k.k - 1 in
    let d : Offer = record { gain = pos 0; child = 0 } in
    let size = length-take-le _ _ c.list_offers-offered.ensures.fits in
    let there : c.loop-k.k - 1 < length c.sort_offers.new.offers = omega (arith, size) in
    let next : c.loop-k.k ≡ c.loop-k.k - 1 + 1 = omega arith in
    let are : AreOffers (weight_of c.args.gain.now) (has c.args.possible.now) (has c.loop-k.taken) c.args.family.now.children.now (take (c.loop-k.k - 1 + 1) c.sort_offers.new.offers) =
    subst (λ n. AreOffers (weight_of c.args.gain.now) (has c.args.possible.now) (has c.loop-k.taken) c.args.family.now.children.now (take n c.sort_offers.new.offers)) next c.loop-k.invariant.offers in
    let up = c.requires.increasing in
    let rising = c.sort_offers.ensures.rising in
    let (j, l, e) = last_place gain possible (has taken) cs up offers rising k there d are in
    let best = last_best gain possible (has taken) cs up offers rising k there d are j l e in
    let in_taken : get_or cs j 0 < length taken = omega (arith, c.requires.taken j l) in
    let adds_is = last_adds gain possible (has taken) cs up offers rising k there d are j e in
    let adds : c.args.family.now.least ≤ c.loop-k.count → pos 0 ≤ℤ weight_of c.args.gain.now (get_or cs j 0) =
    λ h. elim c.else-count-least.branch [
      | else-count-least-via-then-count-least+else-not-adds_value w ↦ omega (arith, ints, adds_is, c.adds_value-adds_value.ensures.yes w.if-not-adds_value.false)
      | else-count-least-via-else-count-least w ↦ absurd {A = pos 0 ≤ℤ weight_of c.args.gain.now (get_or cs j 0)} (omega (arith, h, w.if-count-least.false))
    ] in
    record {
      partial =
          subst (λ n. IsPartial gain (has c.args.taken.now) possible c.args.family.now.least c.args.family.now.most cs (has (set taken n true)) (c.loop-k.count + 1)) e
          (IsPartial-put gain (has c.args.taken.now) possible c.args.family.now.least c.args.family.now.most cs
          (has taken) _ c.loop-k.count j c.loop-k.invariant.partial best (omega (arith, c.if-count-most.false)) adds
          (has-put_same taken (get_or cs j 0) true in_taken)
          (λ i h ne. has-put_other taken (get_or cs j 0) (get_or cs i 0) true (apart cs i j up h l ne)));
      same = subst (λ n. ChangesOnly c.args.taken.now (set taken n true) cs) e (ChangesOnly-put c.args.taken.now taken cs j _ l c.loop-k.invariant.same);
      offers =
          AreOffers-rest gain possible (has taken) cs up offers rising k there d are _ j l e
          (subst (λ n. has (set taken n true) (get_or cs j 0) ≡ true) e (has-put_same taken (get_or cs j 0) true in_taken))
          (λ i h ne. subst (λ n. has (set taken n true) (get_or cs i 0) ≡ has taken (get_or cs i 0)) e
          (has-put_other taken (get_or cs j 0) (get_or cs i 0) true (apart cs i j up h l ne)));
    }

pub returns-clause-best : goal.returns-clause-best
returns-clause-best c =
    let at_end : c.loop-k.k ≡ 0 = omega arith in
    let are : AreOffers (weight_of c.args.gain.now) (has c.args.possible.now) (has c.loop-k.taken) c.args.family.now.children.now (take 0 c.sort_offers.new.offers) =
    subst (λ n. AreOffers (weight_of c.args.gain.now) (has c.args.possible.now) (has c.loop-k.taken) c.args.family.now.children.now (take n c.sort_offers.new.offers)) at_end c.loop-k.invariant.offers in
    λ enough.
    IsBestChoice-from_partial (weight_of c.args.gain.now) (has c.args.taken.now) (has c.args.possible.now) c.args.family.now.least c.args.family.now.most c.args.family.now.children.now
    (has c.loop-k.taken) c.loop-k.count c.loop-k.invariant.partial (leb-true _ _ enough)
    (λ _ j h free can. absurd (both_ways _ free
    (none_left (weight_of c.args.gain.now) (has c.args.possible.now) (has c.loop-k.taken) c.args.family.now.children.now c.sort_offers.new.offers are j h can)))

pub returns-clause-none : goal.returns-clause-none
returns-clause-none c =
    let at_end : c.loop-k.k ≡ 0 = omega arith in
    let are : AreOffers (weight_of c.args.gain.now) (has c.args.possible.now) (has c.loop-k.taken) c.args.family.now.children.now (take 0 c.sort_offers.new.offers) =
    subst (λ n. AreOffers (weight_of c.args.gain.now) (has c.args.possible.now) (has c.loop-k.taken) c.args.family.now.children.now (take n c.sort_offers.new.offers)) at_end c.loop-k.invariant.offers in
    λ e T is.
    no_choice-few (has c.args.taken.now) (has c.args.possible.now) c.args.family.now.least c.args.family.now.most c.args.family.now.children.now (has c.loop-k.taken) T
    (none_left (weight_of c.args.gain.now) (has c.args.possible.now) (has c.loop-k.taken) c.args.family.now.children.now c.sort_offers.new.offers are)
    (omega (arith, leb-false _ _ e, c.loop-k.invariant.partial.count_is)) is
