-- What holds at the end of a trace.
use Rattle.std.proofs.Common.{◌≡◌, ◌↔◌, ℕ, zero, suc, ◌+◌, ◌<◌, refl, sym, ap, subst, ◌∙◌, arith, Option, Some, None, length, pos, ◌<ℤ◌}
use Rattle.std.proofs.lemmas.Int.{ints}
use Rattle.ice_defs.specs.Fraction.{Fraction, IsFraction, fraction_at}
use Rattle.ice_defs.specs.Program.{Program}
use Rattle.ice_defs.specs.Dictionary.{Dictionary, Spot, Choice, is_least, is_unbounded, is_wide, pivots, entering_spot, leaving_from, choice, pivot_dictionary, first_dictionary}
use Rattle.ice_defs.specs.Trace.{TraceEnd, least_end, infeasible_end, wide_end, pivots_end, and_pivot, at_choice, end_from, trace_end}
use Rattle.ice_program_laws.specs.Solutions.{left_at, right_at, Holds, IsDictionary, IsPivot}
use Rattle.ice_program_laws.proofs.Choosing.{Enters, entering_is, Leaves, leaving_is, NoneNegative, HasProper, row_at, coeff_at, negative_is, Turn, no_entering, no_leaving, too_wide, pivoting, turn_of}
use Rattle.ice_program_laws.proofs.Pivot.{Made, made, pivot_keeps_solutions}
use Rattle.ice_program_laws.proofs.Standing.{Stands, stands_after}
use Rattle.ice_program_laws.proofs.Constants.{Low, low_after}

-- ---- one turn

pub record Reached (p : Program) (d : Dictionary) : Type 0 where
  pub dictionary : IsDictionary d
  pub stands : Stands (length p.rows + length p.costs) d
  pub solutions : (value : ℕ → Fraction) (total : Fraction) → ((v : ℕ) → IsFraction (value v)) → IsFraction total → Holds (first_dictionary p) value total ↔ Holds d value total
  pub low : Low (first_dictionary p) → Low d

pub proper_at : (d : Dictionary) (k : ℕ) → IsDictionary d → k < length d.right → (i : ℕ) → i < length d.left → HasProper k (row_at d.left i)
proper_at d k hd hk i h = record { constant = (hd.left i h).constant; coeff = (hd.left i h).coeffs.proper k hk }

-- the entering variable's place
pub record Spotted (d : Dictionary) (k : Spot) : Type 0 where
  pub place : k.place < length d.right
  pub variable : k.variable ≡ right_at d k.place
  pub positive : pos 0 <ℤ (fraction_at d.objective k.place).num

pub spotted : (d : Dictionary) (k : Spot) → entering_spot d ≡ Some k → Spotted d k
spotted d k h =
    let e : Enters 0 d.right d.objective k = entering_is 0 d.right d.objective k h in
    let same : e.offset ≡ k.place = omega (arith, e.place) in
    record {
      place = omega (arith, e.place, e.within);
      variable = e.variable ∙ ap (λ j. right_at d j) same;
      positive = subst (λ j. pos 0 <ℤ (fraction_at d.objective j).num) same (grind (arith, ints, e.positive));
    }

pub none_leaves : (d : Dictionary) (k : Spot) → IsDictionary d → Spotted d k → leaving_from k.place 0 d.left ≡ Some None → NoneNegative k.place d.left
none_leaves d k hd s h = leaving_is k.place 0 d.left None (proper_at d k.place hd s.place) h

turned : (p : Program) (d after : Dictionary) (l : ℕ) (k : Spot) → Reached p d → Turn d (pivots l k) → pivot_dictionary d l k ≡ Some after → Reached p after
turned p d after l k reached (pivoting r place entered left) h =
    let hd : IsDictionary d = reached.dictionary in
    let s : Spotted d k = spotted d k entered in
    let leaves : Leaves k.place 0 d.left r = leaving_is k.place 0 d.left (Some r) (proper_at d k.place hd s.place) left in
    let same : l ≡ leaves.offset = omega (arith, place, leaves.place) in
    let negative : (coeff_at k.place (left_at d l)).num <ℤ pos 0 = subst (λ i. (coeff_at k.place (left_at d i)).num <ℤ pos 0) (sym same) (negative_is (coeff_at k.place (row_at d.left leaves.offset)) leaves.negative) in
    let hp : IsPivot d l k = record {
      row = omega (arith, same, leaves.within);
      place = s.place;
      variable = s.variable;
      coefficient = λ z. omega (arith, ints, negative, z);
    } in
    let keeps = pivot_keeps_solutions d after l k hd hp h in
    let m : Made d after l k = made d after l k hd hp h in
    record {
      dictionary = keeps.0;
      stands = stands_after (length p.rows + length p.costs) d after l k hp m reached.stands;
      solutions = λ value total hv ht. let before = reached.solutions value total hv ht in
          let here = keeps.1 value total hv ht in
          (λ x. here.0 (before.0 x), λ x. before.1 (here.1 x));
      low = λ first. low_after d after l k hd hp m r leaves same (reached.low first);
    }

-- ---- all turns

pub record LeastAt (p : Program) (d : Dictionary) : Type 0 where
  pub reached : Reached p d
  pub none : entering_spot d ≡ None

pub record InfeasibleAt (p : Program) (d : Dictionary) (k : Spot) : Type 0 where
  pub reached : Reached p d
  pub entered : entering_spot d ≡ Some k
  pub none : leaving_from k.place 0 d.left ≡ Some None

abbrev pub EndsAt : Program → TraceEnd → Type 0
EndsAt p (least_end count d) = LeastAt p d
EndsAt p (infeasible_end count d k) = InfeasibleAt p d k
EndsAt p wide_end = Unit {0}
EndsAt p pivots_end = Unit {0}

at_turn : (p : Program) (count : ℕ) (d : Dictionary) (next : Option Dictionary → TraceEnd) (c : Choice) → Reached p d → Turn d c → ((l : ℕ) (k : Spot) → Turn d (pivots l k) → EndsAt p (next (pivot_dictionary d l k))) → EndsAt p (at_choice count d next c)
at_turn p count d next is_least r (no_entering e) on = record { reached = r; none = e }
at_turn p count d next (is_unbounded k) r (no_leaving e f) on = record { reached = r; entered = e; none = f }
at_turn p count d next is_wide r too_wide on = tt
at_turn p count d next (pivots l k) r t on = on l k t

after_pivot : (p : Program) (next : Dictionary → TraceEnd) (o : Option Dictionary) → ((after : Dictionary) → o ≡ Some after → EndsAt p (next after)) → EndsAt p (and_pivot next o)
after_pivot p next None each = tt
after_pivot p next (Some after) each = each after refl

ends_from : (p : Program) (left count : ℕ) (d : Dictionary) → Reached p d → EndsAt p (end_from left count d)
unfolding end_from
ends_from p zero count d r = at_turn p count d (λ after. pivots_end) (choice d) r (turn_of d) (λ l k t. tt)
ends_from p (suc left) count d r =
    at_turn p count d (and_pivot (end_from left (suc count))) (choice d) r (turn_of d)
    (λ l k t. after_pivot p (end_from left (suc count)) (pivot_dictionary d l k) (λ after e. ends_from p left (suc count) after (turned p d after l k r t e)))

pub ends : (p : Program) → Reached p (first_dictionary p) → EndsAt p (trace_end p)
ends p r = ends_from p 2000 0 (first_dictionary p) r
