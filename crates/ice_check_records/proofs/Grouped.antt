-- What the records of a group's head and sets make of what is known of a journal.
use Rattle.std.proofs.Common.{◌≡◌, ◌≢◌, ◌<◌, suc, List, [], ◌∷◌, ◌++◌, length, ℤ, refl, sym, ◌∙◌, ap, subst, arith, length-append}
use Rattle.std.specs.Prelude.{Some, Result, Ok, Err}
use Rattle.std.proofs.lemmas.Bool.{false≢true}
use Rattle.ice_defs.specs.Set.{NodeSet, IsSatisfied}
use Rattle.ice_defs.specs.Trade.{Assignment, tree_of, total_value}
use Rattle.ice_defs.specs.Bound.{Multipliers}
use Rattle.ice_defs.specs.Steps.{Side}
use Rattle.ice_defs.specs.Exchange.{trees_of, exact_of}
use Rattle.ice_defs.specs.Group.{start_of}
use Rattle.ice_defs.specs.declared.Group.{Group}
use Rattle.ice_defs.specs.declared.Group.TheVariants.{Assign, Final, Rival, Provisional, Without}
use Rattle.ice_journal.specs.Records.{Record, EndWord, assign_end}
use Rattle.ice_journal.specs.Records as line
use Rattle.ice_journal.specs.Plain.{all_zero}
use Rattle.ice_check_records.specs.declared.head.Head.{Head}
use Rattle.ice_check_records.specs.declared.head.Head.TheVariants as head
use Rattle.ice_journal_laws.specs.declared.rule.Rule.{Rule}
use Rattle.ice_journal_laws.specs.declared.rule.Rule.TheVariants as rule
use Rattle.ice_check_offer.specs.declared.fault.Fault.{Fault}
use Rattle.ice_check_offer.specs.declared.fault.Fault.TheVariants.{Here}
use Rattle.ice_check_records.specs.declared.next.Next.{Next}
use Rattle.ice_check_records.specs.declared.next.Next.TheVariants as coming
use Rattle.ice_check_records.specs.declared.groups.Groups.{Groups}
use Rattle.ice_journal_laws.specs.State.{Stated, at_sets, at_log, at_end, State, weights_at}
use Rattle.ice_journal_laws.specs.Next.{to_line, go_to}
use Rattle.ice_journal_laws.specs.Tests.{HasLeftOut}
use Rattle.ice_journal_laws.specs.Progress.{passing, failed, TakesOn}
use Rattle.ice_journal_laws.specs.Fields.{head_value}
use Rattle.ice_journal_laws.specs.Assigning.{AreBalanced}
use Rattle.ice_journal_laws.proofs.Settling.{head_opens}
use Rattle.ice_journal_laws.proofs.Sets.{IsFit, set_on, sets_short, sets_misvalued, sets_complete}
use Rattle.ice_check_records.specs.Heads.{end_of, IsGroupOf, HasLog}
use Rattle.ice_check_records.specs.Stating.{Stating}
use Rattle.ice_check_offer.specs.Broken.{IsBroken}
use Rattle.ice_check_records.specs.Groups.{at_hand, known_in, weights_for, AreKept, IsGroupAt}
use Rattle.ice_check_records.specs.Taking.{failure_at, IsTaken, Fails, Takes, HasOpened, HasBegun, HasKeptFinal, with_final, FollowsSets, FailsAsWhole, are_short, are_misvalued, LogFollows, Closes}
use Rattle.ice_check_records.proofs.Knowing.{goes_on}
use Rattle.ice_check_records.proofs.Placing.{broken_fails, left_out_fails, is_fit}

assigns : (h : Head) → IsGroupOf h Assign → end_of h ≡ assign_end
assigns head.Assign is = refl
assigns (head.Regret version) is = absurd is
assigns (head.Session version) is = absurd is

-- the weights of a group, where the final sets are those that are known in it
pub weights_known : (g : Groups) (group : Group) (s : State) → weights_at (known_in g (coming.Set group) s) group ≡ weights_for g group
weights_known g Assign s = refl
weights_known g Final s = refl
weights_known g Rival s = refl
weights_known g Provisional s = refl
weights_known g (Without b) s = refl

-- ---- the head of a group

pub head_taken : (group : Group) (g after : Groups) (r : Record) (value : ℤ) → IsGroupAt g group → g.stated.sets ≡ [] → AreKept g → 0 < length (trees_of g.stated.exchange) → head_value group r ≡ Some value → HasOpened group value g after
    → IsTaken (coming.Head group) g r after
head_taken group g after r value is none kept some e h =
    subst (IsTaken (coming.Head group) g r) (sym h.same) (record {
      goes = λ s quiet.
          goes_on (known_in g (coming.Head group) s) s r (record g { next = coming.Set group; value = value; log = after.log }) tt
          (subst (λ (sets : Assignment). TakesOn (known_in g (coming.Head group) s) r (passing (to_line (suc s.line) (go_to (at_sets group (record { value = value; sets = sets })) (known_in g (coming.Head group) s)))))
          (sym none) (head_opens (known_in g (coming.Head group) s) group r value e));
      kept = record { lawful = kept.lawful; walk = h.walk; room = kept.room; offer = kept.offer; number = kept.number };
      ready = (
        record { of = is.of; there = is.there; withouts = is.withouts; round = is.round; fresh = is.fresh },
        subst (λ (sets : Assignment). length sets < length (trees_of g.stated.exchange)) (sym none) some,
        h.weights,
      );
    })

-- ---- sets

module _ (group : Group) (g : Groups) where
  pub broken_set : (x : NodeSet) (y : Rule) → length g.stated.sets < length (trees_of g.stated.exchange) → IsBroken (tree_of (trees_of g.stated.exchange) (length g.stated.sets)) x (Some y) → Fails (coming.Set group) g (line.set x) (Here y)
  broken_set x y room h s quiet = broken_fails (known_in g (coming.Set group) s) group (at_hand g) x y room h

  module _ (x : NodeSet) (room : length g.stated.sets < length (trees_of g.stated.exchange)) (sat : IsSatisfied (tree_of (trees_of g.stated.exchange) (length g.stated.sets)) x) where
    pub left_out_set : HasLeftOut (at_sets group (at_hand g)) (line.set x) → Fails (coming.Set group) g (line.set x) (Here rule.Fixing)
    left_out_set left s quiet = left_out_fails (known_in g (coming.Set group) s) group (at_hand g) x room sat left

    module _ (taken : ¬ HasLeftOut (at_sets group (at_hand g)) (line.set x)) where
      fit : (s : State) → IsFit (known_in g (coming.Set group) s) group (at_hand g) x
      fit s = is_fit (known_in g (coming.Set group) s) group (at_hand g) x taken room sat

      -- with one more set
      abbrev With : Groups
      With = record g { stated = record { exchange = g.stated.exchange; sets = g.stated.sets ++ x ∷ [] } }

      -- more sets are to come
      pub set_taken : (stated : Stating) → g.next ≡ coming.Set group → AreKept g → IsGroupAt g group → g.log.weights ≡ weights_for g group → stated ≡ record { exchange = g.stated.exchange; sets = g.stated.sets ++ x ∷ [] }
          → (length stated.sets ≡ length (trees_of stated.exchange) → ⊥) → IsTaken (coming.Set group) g (line.set x) (record g { stated = stated })
      set_taken stated now kept is weights same more =
          subst (λ (s : Stating). IsTaken (coming.Set group) g (line.set x) (record g { stated = s })) (sym same)
          (subst (λ (m : Next). IsTaken (coming.Set group) g (line.set x) (record With { next = m })) (sym now) (record {
            goes = λ s quiet.
                goes_on (known_in g (coming.Set group) s) s (line.set x) (record With { next = coming.Set group }) tt
                (set_on (known_in g (coming.Set group) s) group (at_hand g) x (fit s) (λ e. not_full (omega (arith, e, length-append g.stated.sets (x ∷ [])))));
            kept = record { lawful = kept.lawful; walk = kept.walk; room = kept.room; offer = kept.offer; number = kept.number };
            ready = (record { of = is.of; there = is.there; withouts = is.withouts; round = is.round; fresh = is.fresh }, fewer, weights);
          }))
        where
          not_full : length (g.stated.sets ++ x ∷ []) ≡ length (trees_of g.stated.exchange) → ⊥
          not_full = subst (λ (s : Stating). length s.sets ≡ length (trees_of s.exchange) → ⊥) same more

          fewer : length (g.stated.sets ++ x ∷ []) < length (trees_of g.stated.exchange)
          fewer = omega (arith, room, not_full, length-append g.stated.sets (x ∷ []))

-- the sets are all there, and pass
module _ (g : Groups) (x : NodeSet) (s : State) (last : suc (length g.stated.sets) ≡ length (trees_of g.stated.exchange)) (balanced : AreBalanced g.stated.exchange (g.stated.sets ++ x ∷ [])) where
  abbrev found : Stated
  found = record { value = g.value; sets = g.stated.sets ++ x ∷ [] }

  complete_assign : IsGroupOf g.head Assign → IsFit (known_in g (coming.Set Assign) s) Assign (at_hand g) x
      → TakesOn (known_in g (coming.Set Assign) s) (line.set x) (passing (to_line (suc s.line) (go_to (at_end (end_of g.head)) (record (known_in g (coming.Set Assign) s) { final = found }))))
  complete_assign is fit =
      subst (λ (word : EndWord). TakesOn (known_in g (coming.Set Assign) s) (line.set x) (passing (to_line (suc s.line) (go_to (at_end word) (record (known_in g (coming.Set Assign) s) { final = found })))))
      (sym (assigns g.head is)) (sets_complete (known_in g (coming.Set Assign) s) Assign (at_hand g) x fit last balanced (λ valued. absurd (false≢true valued)))

  complete_set : (group : Group) → HasLog group → IsFit (known_in g (coming.Set group) s) group (at_hand g) x → total_value (g.stated.sets ++ x ∷ []) (weights_for g group) ≡ g.value
      → TakesOn (known_in g (coming.Set group) s) (line.set x)
      (passing (to_line (suc s.line) (go_to (at_log group found (start_of (trees_of g.stated.exchange) group ∷ []) (all_zero (length (exact_of g.stated.exchange)))) (known_in g (coming.Set group) s))))
  complete_set Assign is fit valued = absurd is
  complete_set Final is fit valued = sets_complete (known_in g (coming.Set Final) s) Final (at_hand g) x fit last balanced (λ v. valued)
  complete_set Rival is fit valued = sets_complete (known_in g (coming.Set Rival) s) Rival (at_hand g) x fit last balanced (λ v. valued)
  complete_set Provisional is fit valued = sets_complete (known_in g (coming.Set Provisional) s) Provisional (at_hand g) x fit last balanced (λ v. valued)
  complete_set (Without b) is fit valued = sets_complete (known_in g (coming.Set (Without b)) s) (Without b) (at_hand g) x fit last balanced (λ v. valued)

short_set : (group : Group) (g : Groups) (x : NodeSet) (y : Fault) (s : State) → IsFit (known_in g (coming.Set group) s) group (at_hand g) x → suc (length g.stated.sets) ≡ length (trees_of g.stated.exchange)
    → FailsAsWhole group (record g { stated = record { exchange = g.stated.exchange; sets = g.stated.sets ++ x ∷ [] } }) y → TakesOn (known_in g (coming.Set group) s) (line.set x) (failed (failure_at s.line y))
short_set group g x y s fit last (are_short short) = sets_short (known_in g (coming.Set group) s) group (at_hand g) x fit last short
short_set group g x y s fit last (are_misvalued balanced valued other) =
    sets_misvalued (known_in g (coming.Set group) s) group (at_hand g) x fit last balanced valued
    (λ e. other (ap (total_value (g.stated.sets ++ x ∷ [])) (sym (weights_known g group s)) ∙ e))

module _ (g : Groups) (x : NodeSet) (room : length g.stated.sets < length (trees_of g.stated.exchange)) (sat : IsSatisfied (tree_of (trees_of g.stated.exchange) (length g.stated.sets)) x) where
  abbrev Full : Groups
  Full = record g { stated = record { exchange = g.stated.exchange; sets = g.stated.sets ++ x ∷ [] } }

  module _ (after : Groups) (kept : AreKept g) (last : suc (length g.stated.sets) ≡ length (trees_of g.stated.exchange)) (balanced : AreBalanced g.stated.exchange (g.stated.sets ++ x ∷ [])) where
    -- the sets of an assignment are the final ones
    assigned : IsGroupOf g.head Assign → ¬ HasLeftOut (at_sets Assign (at_hand g)) (line.set x) → HasKeptFinal coming.End Full after → IsTaken (coming.Set Assign) g (line.set x) after
    assigned is taken h =
        subst (IsTaken (coming.Set Assign) g (line.set x)) (sym h.same) (record {
          goes = λ s quiet. goes_on (known_in g (coming.Set Assign) s) s (line.set x) (with_final coming.End Full) tt (complete_assign g x s last balanced is (fit Assign g x room sat taken s));
          kept = subst AreKept h.same h.kept;
          ready = tt;
        })

    -- the log begins
    begun : (group : Group) → IsGroupAt g group → HasLog group → ¬ HasLeftOut (at_sets group (at_hand g)) (line.set x) → g.log.weights ≡ weights_for g group → HasBegun group Full after → IsTaken (coming.Set group) g (line.set x) after
    begun group is log taken weights h =
        subst (IsTaken (coming.Set group) g (line.set x)) (sym h.same) (record {
          goes = λ s quiet.
              goes_on (known_in g (coming.Set group) s) s (line.set x) (record Full { next = coming.Step group; log = after.log }) tt
              (subst (λ (sides : List Side). Passing s sides after.log.before) (sym h.sides)
              (subst (λ (m : Multipliers). Passing s (start_of (trees_of g.stated.exchange) group ∷ []) m) (sym h.before)
              (complete_set g x s last balanced group log (fit group g x room sat taken s) h.valued)));
          kept = record { lawful = kept.lawful; walk = h.walk; room = kept.room; offer = kept.offer; number = kept.number };
          ready = (
            record {
              at = record { of = is.of; there = is.there; withouts = is.withouts; round = is.round; fresh = is.fresh };
              log = log;
              full = omega (arith, last, length-append g.stated.sets (x ∷ []));
              weights = h.weights ∙ weights;
            },
            subst (λ (sides : List Side). 0 < length sides) (sym h.sides) (omega arith),
          );
        })
      where
        Passing : State → List Side → Multipliers → Type 0
        Passing s sides m = TakesOn (known_in g (coming.Set group) s) (line.set x)
            (passing (to_line (suc s.line) (go_to (at_log group (record { value = g.value; sets = g.stated.sets ++ x ∷ [] }) sides m) (known_in g (coming.Set group) s))))

    follows : (group : Group) → IsGroupAt g group → ¬ HasLeftOut (at_sets group (at_hand g)) (line.set x) → g.log.weights ≡ weights_for g group → FollowsSets group Full after → IsTaken (coming.Set group) g (line.set x) after
    follows Assign is taken weights h = assigned is.of taken h
    follows Final is taken weights h = begun Final is tt taken weights h
    follows Rival is taken weights h = begun Rival is tt taken weights h
    follows Provisional is taken weights h = begun Provisional is tt taken weights h
    follows (Without b) is taken weights h = begun (Without b) is tt taken weights h

  -- the sets are all there: they pass, or they don't
  pub sets_closed : (group : Group) → IsGroupAt g group → ¬ HasLeftOut (at_sets group (at_hand g)) (line.set x) → (stated : Stating) (result : Result (Unit {0}) Fault) (after : Groups) → AreKept g → g.log.weights ≡ weights_for g group
      → stated ≡ record { exchange = g.stated.exchange; sets = g.stated.sets ++ x ∷ [] } → length stated.sets ≡ length (trees_of stated.exchange) → Closes group (record g { stated = stated }) result after
      → Takes (coming.Set group) g (line.set x) result after
  sets_closed group is taken stated result after kept weights same full h = by result (subst (λ (s : Stating). Closes group (record g { stated = s }) result after) same h)
    where
      last : suc (length g.stated.sets) ≡ length (trees_of g.stated.exchange)
      last = omega (arith, subst (λ (s : Stating). length s.sets ≡ length (trees_of s.exchange)) same full, length-append g.stated.sets (x ∷ []))

      by : (result : Result (Unit {0}) Fault) → Closes group Full result after → Takes (coming.Set group) g (line.set x) result after
      by (Ok u) f = follows after kept last f.0 group is taken weights f.1
      by (Err y) f = λ s quiet. short_set group g x y s (fit group g x room sat taken s) last f

-- a log follows the sets of any other group than those of an assignment
pub log_follows : (group : Group) (g : Groups) (result : Result (Unit {0}) Fault) (after : Groups) → group ≢ Assign → AreBalanced g.stated.exchange g.stated.sets
    → LogFollows group g result after → Closes group g result after
log_follows Assign g result after other balanced h = absurd (other refl)
log_follows Final g (Ok u) after other balanced h = (balanced, h)
log_follows Rival g (Ok u) after other balanced h = (balanced, h)
log_follows Provisional g (Ok u) after other balanced h = (balanced, h)
log_follows (Without b) g (Ok u) after other balanced h = (balanced, h)
log_follows Final g (Err y) after other balanced h = subst (FailsAsWhole Final g) (sym h.0) (are_misvalued balanced refl h.1)
log_follows Rival g (Err y) after other balanced h = subst (FailsAsWhole Rival g) (sym h.0) (are_misvalued balanced refl h.1)
log_follows Provisional g (Err y) after other balanced h = subst (FailsAsWhole Provisional g) (sym h.0) (are_misvalued balanced refl h.1)
log_follows (Without b) g (Err y) after other balanced h = subst (FailsAsWhole (Without b) g) (sym h.0) (are_misvalued balanced refl h.1)
