-- The derived goods that stand, and the log of the next one.
use Rattle.std.proofs.Common.{ℕ, ◌<◌, ◌≡◌, Bool, List, [], ◌∷◌, ◌++◌, length, Some, ℤ, arith, sym, ◌∙◌, ap, subst}
use Rattle.ice_defs.specs.Tree.{Tree}
use Rattle.ice_defs.specs.Set.{Weights}
use Rattle.ice_defs.specs.Derived.{Derived, Means, with_derived}
use Rattle.ice_defs.specs.Follows.{Follows, AreLawful}
use Rattle.ice_defs.specs.Group.{free_side}
use Rattle.ice_defs.specs.Steps.{Step, branch, leaf, dead, Side, sides_after}
use Rattle.ice_refute.specs.Passing.{PassesAt, PassesAtBy, HasFault, HasFaultBy}
use Rattle.ice_refute.specs.Waiting.{nodes_of, first_side}
use Rattle.ice_refute.specs.declared.fault.StepFault.{StepFault}
use Rattle.ice_refute.specs.declared.fault.StepFault.TheVariants.{Fixed, Sign, Above, NotDead}
use Rattle.ice_refute.proofs.Derived.{lawful_grows}
use Rattle.ice_derivation.specs.declared.derivations.Stage.{Stage}
use Rattle.ice_derivation.specs.declared.derivations.Stage.TheVariants.{Outside, Amounts, Log}
use Rattle.ice_derivation.specs.declared.derivations.Derivations.{Derivations}
use Rattle.ice_derivation.specs.Walks.{WalkView, begun, stepped, with_one, PassesIn, IsPlain, IsWalked, at_start, one_more}
use Rattle.ice_derivation.specs.Derivations.{at_log, good_of, place_in, place_of, TakesAmounts, good_at, walk_at, place_after, walk_after, TakesStep, IsReady, IsInLog, AreOf, AreKept}
use Rattle.ice_derivation.proofs.Walked.{walked_passes}

module _ (means : Means) (ts : List Tree) (exact : List Bool) (ws : List Weights) (target : ℤ) (start : Side) where
  -- some log is walked so far
  abbrev Reaches : List Side → Type 0
  Reaches sides = (log : List Step) × IsWalked means ts exact ws target start log sides

  reaches_more : (sides : List Side) (x : Step) → 0 < length sides → PassesAtBy means ts exact ws target (first_side sides) x
      → Reaches sides → Reaches (sides_after sides x)
  reaches_more [] x l passes is = absurd (omega (arith, l))
  reaches_more (side ∷ sides) x l passes (log, walked) = (log ++ x ∷ [], one_more x walked passes)

-- where the log of a derived good is closed, one more stands
stands_more : (ts : List Tree) (exact : List Bool) (ds : List Derived) (good : Derived) → AreLawful ts exact ds
    → Reaches (with_derived ds) ts exact good.amounts good.limit (free_side ts) [] → AreLawful ts exact (ds ++ good ∷ [])
stands_more ts exact ds good lawful (log, walked) =
    let follows : Follows ts exact ds good = (log, walked_passes (with_derived ds) ts exact good.amounts good.limit (free_side ts) log walked) in
    ((lawful_grows ts exact).1 ds good).1 (lawful, follows)

module _ (ts : List Tree) (d : Derivations) where
  -- the log begins
  pub opened_kept : (w : WalkView) → w ≡ begun d.walk d.free → AreOf ts d → length d.walk.derived < d.walk.most → AreKept ts (record d { walk = w; stage = Log })
  opened_kept w e of room = subst (λ (v : WalkView). AreKept ts (record d { walk = v; stage = Log })) (sym e) (record {
    of = record { lawful = of.lawful; nodes = of.nodes; free = of.free; zeros = of.zeros; amounts = of.amounts; limit = of.limit };
    ready = (
      omega arith,
      record {
        room = room;
        walked = ([], subst (λ (side : Side). IsWalked (with_derived d.walk.derived) ts d.walk.exact d.amounts d.limit (free_side ts) [] (side ∷ [])) (sym of.free) at_start);
      },
    );
  })

  -- and it is closed
  pub closed_kept : (w : WalkView) → w ≡ with_one d.walk (good_of d) → AreOf ts d → IsInLog ts d (good_of d) → d.walk.sides ≡ [] → AreKept ts (record d { walk = w; stage = Outside })
  closed_kept w e of log closed = subst (λ (v : WalkView). AreKept ts (record d { walk = v; stage = Outside })) (sym e) (record {
    of = record {
      lawful = stands_more ts d.walk.exact d.walk.derived (good_of d) of.lawful
          (subst (Reaches (with_derived d.walk.derived) ts d.walk.exact d.amounts d.limit (free_side ts)) closed log.walked);
      nodes = of.nodes;
      free = of.free;
      zeros = of.zeros;
      amounts = of.amounts;
      limit = of.limit;
    };
    ready = tt;
  })

  -- the amounts of one more bidder
  pub named_kept : (amounts : List Weights) (b least : ℕ) → TakesAmounts (place_of d) b → nodes_of amounts ≡ nodes_of ts → AreKept ts d
      → AreKept ts (record d { amounts = amounts; least = least })
  named_kept amounts b least takes nodes kept = record {
    of = record { lawful = kept.of.lawful; nodes = kept.of.nodes; free = kept.of.free; zeros = kept.of.zeros; amounts = nodes; limit = kept.of.limit };
    ready = by d.stage takes kept.ready;
  }
    where
      by : (stage : Stage) → TakesAmounts (place_in stage (good_of d) d.least) b → IsReady ts d (place_in stage (good_of d) d.least)
          → IsReady ts (record d { amounts = amounts; least = least }) (place_in stage (record { amounts = amounts; limit = d.limit }) least)
      by Outside takes ready = absurd takes
      by Amounts takes ready = ready
      by Log takes ready = absurd takes

  -- other numbers of the leaf before
  pub numbered_kept : (w : WalkView) (numbers : List ℤ) → w ≡ record d.walk { numbers = numbers } → AreKept ts d → AreKept ts (record d { walk = w })
  numbered_kept w numbers e kept = subst (λ (v : WalkView). AreKept ts (record d { walk = v })) (sym e) (record {
    of = record { lawful = kept.of.lawful; nodes = kept.of.nodes; free = kept.of.free; zeros = kept.of.zeros; amounts = kept.of.amounts; limit = kept.of.limit };
    ready = by d.stage kept.ready;
  })
    where
      by : (stage : Stage) → IsReady ts d (place_in stage (good_of d) d.least)
          → IsReady ts (record d { walk = record d.walk { numbers = numbers } }) (place_in stage (good_of d) d.least)
      by Outside ready = ready
      by Amounts ready = ready
      by Log (opened, log) = (opened, record { room = log.room; walked = log.walked })

  -- while the log is read
  pub ready_log : (good : Derived) → place_of d ≡ at_log good → good_of d ≡ good → AreKept ts d → (0 < length d.walk.sides) × IsInLog ts d (good_of d)
  ready_log good at same kept = subst (IsReady ts d) (at ∙ ap (λ (g : Derived). at_log g) (sym same)) kept.ready

  pub stepped_of : (w : WalkView) (numbers : List ℤ) (sides : List Side) → w ≡ record d.walk { numbers = numbers; sides = sides } → AreOf ts d → AreOf ts (record d { walk = w })
  stepped_of w numbers sides e of = subst (λ (v : WalkView). AreOf ts (record d { walk = v })) (sym e)
      (record { lawful = of.lawful; nodes = of.nodes; free = of.free; zeros = of.zeros; amounts = of.amounts; limit = of.limit })

  pub stepped_log : (w : WalkView) (numbers : List ℤ) (x : Step) → w ≡ record d.walk { numbers = numbers; sides = sides_after d.walk.sides x }
      → PassesAtBy (with_derived d.walk.derived) ts d.walk.exact d.amounts d.limit (first_side d.walk.sides) x
      → (0 < length d.walk.sides) × IsInLog ts d (good_of d) → IsInLog ts (record d { walk = w }) (good_of d)
  stepped_log w numbers x e passes (opened, log) = subst (λ (v : WalkView). IsInLog ts (record d { walk = v }) (good_of d)) (sym e) (record {
    room = log.room;
    walked = reaches_more (with_derived d.walk.derived) ts d.walk.exact d.amounts d.limit (free_side ts) d.walk.sides x opened passes log.walked;
  })

-- a step that is taken in the log
pub step_taken : (ts : List Tree) (old d after : Derivations) (w : WalkView) (x : WalkView → Step) → good_at (place_of old) ≡ Some (good_of old)
    → d.walk ≡ walk_at ts (place_of old) old.walk → good_of d ≡ good_of old → w ≡ stepped d.walk (x d.walk) → PassesIn ts d.amounts d.limit d.walk (x d.walk)
    → place_of after ≡ place_after (good_of d) w.sides → after.walk ≡ walk_after (good_of d) w.sides w
    → TakesStep ts old (x (walk_at ts (place_of old) old.walk)) after
step_taken ts old d after w x there walk same is passes place_is walk_is =
    let at : WalkView = walk_at ts (place_of old) old.walk in
    let to : w ≡ stepped (walk_at ts (place_of old) old.walk) (x (walk_at ts (place_of old) old.walk)) = is ∙ ap (λ (v : WalkView). stepped v (x v)) walk in
    record {
      good = good_of old;
      in_log = there;
      passes = subst (λ (g : Derived). PassesIn ts g.amounts g.limit at (x at)) same (subst (λ (v : WalkView). PassesIn ts d.amounts d.limit v (x v)) walk passes);
      place = place_is ∙ ap (λ (g : Derived). place_after g w.sides) same ∙ ap (λ (v : WalkView). place_after (good_of old) v.sides) to;
      walk = walk_is ∙ ap (λ (g : Derived). walk_after g w.sides w) same ∙ ap (λ (v : WalkView). walk_after (good_of old) v.sides v) to;
    }

-- ---- branches and dead steps look at no weights

module _ (means : Means) (ts : List Tree) (exact : List Bool) (ws others : List Weights) (target limit : ℤ) (side : Side) where
  pub plain_passes : (x : Step) → IsPlain x → PassesAt ts exact ws target side x → PassesAtBy means ts exact others limit side x
  plain_passes (branch b n) plain passes = passes
  plain_passes (leaf m) plain passes = absurd plain
  plain_passes (dead b) plain passes = passes

  pub plain_fails : (x : Step) (why : StepFault) → IsPlain x → HasFault ts exact ws target side x why → HasFaultBy means ts exact others limit side x why
  plain_fails (branch b n) Fixed plain fails = fails
  plain_fails (branch b n) Sign plain fails = absurd fails
  plain_fails (branch b n) (Above v) plain fails = absurd fails
  plain_fails (branch b n) NotDead plain fails = absurd fails
  plain_fails (leaf m) why plain fails = absurd plain
  plain_fails (dead b) Fixed plain fails = absurd fails
  plain_fails (dead b) Sign plain fails = absurd fails
  plain_fails (dead b) (Above v) plain fails = absurd fails
  plain_fails (dead b) NotDead plain fails = fails
