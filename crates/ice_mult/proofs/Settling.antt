-- What is known of kept bounds stays known where one good is moved.
use Rattle.std.proofs.Common.{ℕ, ◌<◌, ◌≡◌, Bool, false, List, length, set, set-set, ℤ, pos, refl, ap, sym, ◌∙◌, subst, inl, inr}
use Rattle.std.proofs.lemmas.Bool.{both_ways}
use Rattle.std.proofs.lemmas.List.{length-set, set-get_or}
use Rattle.ice_defs.specs.Tree.{Tree}
use Rattle.ice_defs.specs.Set.{Weights}
use Rattle.ice_defs.specs.Trade.{is_exact}
use Rattle.ice_defs.specs.Bound.{Multipliers, IsNetSum}
use Rattle.ice_defs.specs.Steps.{Side}
use Rattle.ice_defs.specs.Sweep.{IsLive, IsLowest}
use Rattle.ice_defs.specs.Log.{IsMultiplier}
use Rattle.ice_bound.specs.Kept.{Standing}
use Rattle.ice_bound.specs.Multipliers.{multiplier_of}
use Rattle.ice_bound.specs.declared.direction.Direction.{Direction}
use Rattle.ice_bound.specs.declared.direction.Direction.TheVariants.{Up, Down}
use Rattle.ice_bound.specs.Direction.{toward}
use Rattle.ice_mult.specs.Foot.{IsAllowed, IsWay, Falls, Rests}
use Rattle.ice_mult.specs.Moved.{AreAlike, IsMoved, MayMove, IsSumWith, IsSettled}

-- the same sum of the same things
pub sum_at : (ts ts2 : List Tree) (ws ws2 : List Weights) (m m2 : Multipliers) (side side2 : Side) (total : ℤ)
    → ts2 ≡ ts → ws2 ≡ ws → m2 ≡ m → side2 ≡ side → IsNetSum ts2 ws2 m2 side2 total → IsNetSum ts ws m side total
sum_at ts ts2 ws ws2 m m2 side side2 total trees weights same marks is =
    subst (λ t. IsNetSum t ws m side total) trees
    (subst (λ w. IsNetSum ts2 w m side total) weights
    (subst (λ k. IsNetSum ts2 ws2 k side total) same
    (subst (λ s. IsNetSum ts2 ws2 m2 s total) marks is)))

pub live_at : (ts ts2 : List Tree) (side side2 : Side) → ts2 ≡ ts → side2 ≡ side → IsLive ts side → IsLive ts2 side2
live_at ts ts2 side side2 trees marks live = subst (λ t. IsLive t side2) (sym trees) (subst (λ s. IsLive ts s) (sym marks) live)

pub lowest_at : (ts ts2 : List Tree) (exact exact2 : List Bool) (ws ws2 : List Weights) (side side2 : Side) (m m2 : Multipliers) (g : ℕ) (z total : ℤ)
    → ts2 ≡ ts → exact2 ≡ exact → ws2 ≡ ws → side2 ≡ side → m2 ≡ m → IsLowest ts2 exact2 ws2 side2 m2 g z total → IsLowest ts exact ws side m g z total
lowest_at ts ts2 exact exact2 ws ws2 side side2 m m2 g z total t e w x n is =
    subst (λ a. IsLowest a exact ws side m g z total) t
    (subst (λ a. IsLowest ts2 a ws side m g z total) e
    (subst (λ a. IsLowest ts2 exact2 a side m g z total) w
    (subst (λ a. IsLowest ts2 exact2 ws2 a m g z total) x (subst (λ a. IsLowest ts2 exact2 ws2 side2 a g z total) n is))))

-- a good that isn't exact needs no look down
pub plain_way : (IsSum : ℤ → ℤ → Type 0) (exact : Bool) (d : Direction) → IsAllowed exact d → exact ≡ false → IsWay IsSum exact d
plain_way IsSum exact Up allowed plain = λ is. absurd (both_ways exact plain is)
plain_way IsSum exact Down allowed plain = absurd (both_ways exact plain allowed)

module _ (old mid : Standing) (g : ℕ) (a : ℤ) (moved : IsMoved old g a mid) where
  -- another multiplier takes the place of the one before
  placed : (z : ℤ) → set mid.multipliers g z ≡ set old.multipliers g z
  placed z = ap (λ m. set m g z) moved.multipliers ∙ set-set old.multipliers g a z

  pub sum_back : (z total : ℤ) → IsSumWith mid g z total → IsSumWith old g z total
  sum_back z total is =
      sum_at old.trees mid.trees old.weights mid.weights (set old.multipliers g z) (set mid.multipliers g z) old.marks mid.marks total moved.alike.trees moved.alike.weights
      (placed z) moved.alike.marks is

  pub sum_on : (z total : ℤ) → IsSumWith old g z total → IsSumWith mid g z total
  sum_on z total is =
      sum_at mid.trees old.trees mid.weights old.weights (set mid.multipliers g z) (set old.multipliers g z) mid.marks old.marks total (sym moved.alike.trees)
      (sym moved.alike.weights) (sym (placed z)) (sym moved.alike.marks) is

  pub rests_back : (d : Direction) (k : ℕ) → Rests (IsSumWith mid g) d k → Rests (IsSumWith old g) d k
  rests_back d k (inl end) = inl end
  rests_back d k (inr (here, is, on)) = inr (here, sum_back (toward d k) here is, λ j other h others. on j other h (sum_on (toward d j) other others))

  pub falls_back : (d : Direction) (k : ℕ) → Falls (IsSumWith mid g) d k → Falls (IsSumWith old g) d k
  falls_back d k (inl none) = inl none
  falls_back d k (inr (j, e, before, here, is_before, is_here, down)) =
      inr (j, e, before, here, sum_back (toward d j) before is_before, sum_back (toward d k) here is_here, down)

  pub alike_on : (new : Standing) → AreAlike mid new → AreAlike old new
  alike_on new alike = record {
    trees = alike.trees ∙ moved.alike.trees;
    weights = alike.weights ∙ moved.alike.weights;
    marks = alike.marks ∙ moved.alike.marks;
    exact = alike.exact ∙ moved.alike.exact;
  }

  pub moved_again : (z : ℤ) (new : Standing) → IsMoved mid g z new → IsMoved old g z new
  moved_again z new on = record { alike = alike_on new on.alike; multipliers = on.multipliers ∙ placed z }

  pub may_still : MayMove old g → MayMove mid g
  may_still may = record {
    live = live_at old.trees mid.trees old.marks mid.marks moved.alike.trees moved.alike.marks may.live;
    there = subst (λ l. g < length l) (sym moved.alike.exact) may.there;
    fits = may.fits;
    goods = ap length moved.multipliers ∙ length-set old.multipliers g a ∙ may.goods ∙ ap length (sym moved.alike.exact);
  }

  lowest_back : (z total : ℤ) → IsLowest mid.trees mid.exact mid.weights mid.marks mid.multipliers g z total → IsLowest old.trees old.exact old.weights old.marks old.multipliers g z total
  lowest_back z total is = record {
    lawful = subst (λ e. IsMultiplier (is_exact e g) z) moved.alike.exact is.lawful;
    has = sum_back z total is.has;
    least = λ y other lawful others. is.least y other (subst (λ e. IsMultiplier (is_exact e g) y) (sym moved.alike.exact) lawful) (sum_on y other others);
    nearest = λ y lawful others. is.nearest y (subst (λ e. IsMultiplier (is_exact e g) y) (sym moved.alike.exact) lawful) (sum_on y total others);
  }

  pub settled_back : (new : Standing) → IsSettled mid g new → IsSettled old g new
  settled_back new (z, total, lowest, on) = (z, total, lowest_back z total lowest, moved_again z new on)

-- a good that takes the multiplier that it has
pub unmoved : (old : Standing) (g : ℕ) (z : ℤ) → multiplier_of old.multipliers g ≡ z → set old.multipliers g z ≡ old.multipliers
unmoved old g z there = ap (λ k. set old.multipliers g k) (sym there) ∙ set-get_or old.multipliers g (pos 0)

pub stays_moved : (old : Standing) (g : ℕ) (z : ℤ) → multiplier_of old.multipliers g ≡ z → IsMoved old g z old
stays_moved old g z there = record { alike = record { trees = refl; weights = refl; marks = refl; exact = refl }; multipliers = sym (unmoved old g z there) }
