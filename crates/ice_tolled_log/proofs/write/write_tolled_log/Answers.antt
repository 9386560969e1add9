use Rattle.std.proofs.Common.{ℕ, rules, arith, ◌≡◌, ◌<◌, ◌++◌, ◌+◌, length, get_or, ap, sym, ◌∙◌, subst, [], ◌∷◌, List}
use Rattle.ice_defs.specs.Steps.{Step, branch, leaf}
use Rattle.ice_search_log.specs.Parts.{steps_left}
use Rattle.ice_search_log.specs.Code.{stops_at}
use Rattle.ice_search_log.proofs.Assembling.{leaf_step, branch_step, inside_push, inside_pop, turn}
use Rattle.ice_tolled_log.specs.declared.part.TolledPart.{TolledPart}
use Rattle.ice_tolled_log.specs.Code.{part_of, parts_of}
use Rattle.ice_tolled_log.proofs.write.write_tolled_log.Goals as goal

abbrev Inside : List TolledPart → List ℕ → Type 0
Inside parts stack = (i : ℕ) → i < length stack → get_or stack i 0 < length parts

pub overflow_add-split : goal.overflow_add-split
overflow_add-split c =
    let parts = c.args.parts.now in
    let outer = c.pop.new.self.items in
    let popped = inside_pop outer c.in-Some.k (length parts) (subst (Inside parts) c.in-Some.ensures.items c.loop-k.invariant.inside) in
    let step = branch_step part_of (stops_at c.args.value) parts outer c.in-Some.k c.index-parts-k.result c.requires.later popped.0 c.index-parts-k.is c.in-Some-split_above.split c.in-Some-split_above.ensures in
    let small = step.0 in
    omega (arith, small, c.requires.few)

pub loop-k-smaller-in_ok-push-in-Some-split_above-3 : goal.loop-k-smaller-in_ok-push-in-Some-split_above-3
loop-k-smaller-in_ok-push-in-Some-split_above-3 c =
    let parts = c.args.parts.now in
    let left = steps_left (stops_at c.args.value) (parts_of parts) in
    let outer = c.pop.new.self.items in
    let split = c.in-Some-split_above.split in
    let popped = inside_pop outer c.in-Some.k (length parts) (subst (Inside parts) c.in-Some.ensures.items c.loop-k.invariant.inside) in
    let step = branch_step part_of (stops_at c.args.value) parts outer c.in-Some.k c.index-parts-k.result c.requires.later popped.0 c.index-parts-k.is split c.in-Some-split_above.ensures in
    let first : c.push-in-Some-split_above.new.self.items ≡ outer ++ (split.must + 1) ∷ [] = search rules in
    let second : c.push-in-Some-split_above-2.new.self.items ≡ c.push-in-Some-split_above.new.self.items ++ split.must ∷ [] = search rules in
    let both = second ∙ ap (λ xs. xs ++ split.must ∷ []) first in
    omega (arith, ap (λ xs. length (left xs)) both, ap (λ xs. length (left xs)) c.in-Some.ensures.items, ap (length {A = Step}) step.1)

pub loop-k-preserved-in_ok-push-in-Some-split_above-3 : goal.loop-k-preserved-in_ok-push-in-Some-split_above-3
loop-k-preserved-in_ok-push-in-Some-split_above-3 c =
    let parts = c.args.parts.now in
    let left = steps_left (stops_at c.args.value) (parts_of parts) in
    let outer = c.pop.new.self.items in
    let split = c.in-Some-split_above.split in
    let popped = inside_pop outer c.in-Some.k (length parts) (subst (Inside parts) c.in-Some.ensures.items c.loop-k.invariant.inside) in
    let step = branch_step part_of (stops_at c.args.value) parts outer c.in-Some.k c.index-parts-k.result c.requires.later popped.0 c.index-parts-k.is split c.in-Some-split_above.ensures in
    let first : c.push-in-Some-split_above.new.self.items ≡ outer ++ (split.must + 1) ∷ [] = search rules in
    let second : c.push-in-Some-split_above-2.new.self.items ≡ c.push-in-Some-split_above.new.self.items ++ split.must ∷ [] = search rules in
    let both = second ∙ ap (λ xs. xs ++ split.must ∷ []) first in
    let small = step.0 in
    record {
      log = turn c.loop-k.log _ left c.loop-k.stack.items c.push-in-Some-split_above-2.new.self.items (branch split.bidder split.node) _
          c.in_ok-push-in-Some-split_above-3.ensures.ok (ap left c.in-Some.ensures.items ∙ step.1 ∙ ap (λ xs. branch split.bidder split.node ∷ left xs) (sym both)) c.loop-k.invariant.log;
      inside = subst (Inside parts) (sym both) (inside_push (outer ++ (split.must + 1) ∷ []) split.must (length parts) (inside_push outer (split.must + 1) (length parts) popped.1 small) (omega (arith, small)));
    }

pub loop-k-smaller : goal.loop-k-smaller
loop-k-smaller c =
    let parts = c.args.parts.now in
    let left = steps_left (stops_at c.args.value) (parts_of parts) in
    let outer = c.pop.new.self.items in
    let popped = inside_pop outer c.in-Some.k (length parts) (subst (Inside parts) c.in-Some.ensures.items c.loop-k.invariant.inside) in
    let step = leaf_step part_of (stops_at c.args.value) parts outer c.in-Some.k c.index-parts-k.result c.requires.later popped.0 c.index-parts-k.is c.in-None.ensures in
    omega (arith, ap (λ xs. length (left xs)) c.in-Some.ensures.items, ap (length {A = Step}) step)

pub loop-k-preserved : goal.loop-k-preserved
loop-k-preserved c =
    let parts = c.args.parts.now in
    let left = steps_left (stops_at c.args.value) (parts_of parts) in
    let outer = c.pop.new.self.items in
    let popped = inside_pop outer c.in-Some.k (length parts) (subst (Inside parts) c.in-Some.ensures.items c.loop-k.invariant.inside) in
    let step = leaf_step part_of (stops_at c.args.value) parts outer c.in-Some.k c.index-parts-k.result c.requires.later popped.0 c.index-parts-k.is c.in-None.ensures in
    let written = c.in_ok-push-in-None.ensures.ok ∙ ap (λ m. c.loop-k.log ++ leaf m ∷ []) c.in_ok-copy-in-None.ensures in
    record {
      log = turn c.loop-k.log _ left c.loop-k.stack.items outer (leaf c.index-parts-k.result.m) _
          written (ap left c.in-Some.ensures.items ∙ step) c.loop-k.invariant.log;
      inside = popped.1;
    }
