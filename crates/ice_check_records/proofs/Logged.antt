-- What the records of a log make of what is known of a journal behind its exchange.
use Rattle.std.proofs.Common.{◌≡◌, ◌<◌, ℕ, suc, Bool, List, [], ◌∷◌, length, ℤ, refl, sym, ap, subst, arith}
use Rattle.std.proofs.lemmas.List.{nil_from_length}
use Rattle.ice_defs.specs.declared.Group.{Group}
use Rattle.ice_defs.specs.declared.Group.TheVariants.{Assign, Final, Rival, Provisional, Without}
use Rattle.ice_defs.specs.Tree.{Tree}
use Rattle.ice_defs.specs.Set.{Weights}
use Rattle.ice_defs.specs.Bound.{Multipliers}
use Rattle.ice_defs.specs.Steps.{Side}
use Rattle.ice_defs.specs.Bounds.{Bounds}
use Rattle.ice_defs.specs.Weighing.{weighted_weights}
use Rattle.ice_defs.specs.Exchange.{trees_of, exact_of}
use Rattle.ice_journal.specs.Records.{Record, Version}
use Rattle.ice_check_records.specs.declared.head.Head.{Head}
use Rattle.ice_check_records.specs.declared.head.Head.TheVariants as head
use Rattle.ice_journal_laws.specs.declared.rule.Rule.{Rule}
use Rattle.ice_check_offer.specs.declared.fault.Fault.TheVariants.{Here}
use Rattle.ice_check_offer.specs.declared.offer.Offer.{Offer}
use Rattle.ice_check_offer.specs.Offers as offers
use Rattle.ice_check_records.specs.declared.next.Next.{Next}
use Rattle.ice_check_records.specs.declared.next.Next.TheVariants as coming
use Rattle.ice_check_records.specs.declared.groups.Groups.{Groups}
use Rattle.ice_check_records.specs.declared.log.LogWalk.{LogWalk}
use Rattle.ice_journal_laws.specs.State.{at_log, at_prices, State, exchange_at, weights_at}
use Rattle.ice_journal_laws.specs.Next.{to_line, go_to, after_log, after_step}
use Rattle.ice_journal_laws.specs.Stepping.{PassesStep, FailsStep}
use Rattle.ice_journal_laws.proofs.Walking.{record_fails, record_passes}
use Rattle.ice_check_records.specs.Heads.{version_of_head, HasRegret, IsSession, IsGroupOf, HasLog}
use Rattle.ice_check_records.specs.Groups.{at_hand, known_in, IsOffering, StandsFor, weights_for, AreKept, HasOpen, IsReady}
use Rattle.ice_check_records.specs.Taking.{IsTaken, Fails, HasKeptFinal, HasLeft, LeavesGroup}
use Rattle.ice_check_records.proofs.Knowing.{known_again}

-- ---- a group is complete

rival_follows : (h : Head) → IsGroupOf h Final → IsGroupOf h Rival
rival_follows head.Assign is = absurd is
rival_follows (head.Regret version) is = tt
rival_follows (head.Session version) is = tt

regret_follows : (h : Head) → IsGroupOf h Rival → HasRegret h
regret_follows head.Assign is = absurd is
regret_follows (head.Regret version) is = tt
regret_follows (head.Session version) is = tt

offer_follows : (h : Head) → IsGroupOf h Provisional → IsSession h
offer_follows head.Assign is = absurd is
offer_follows (head.Regret version) is = absurd is
offer_follows (head.Session version) is = tt

pub final_left : (g after : Groups) → HasOpen g Final → HasKeptFinal (coming.Head Rival) g after → LeavesGroup Final g after
final_left g after holds h = subst (HasLeft (λ s. after_log s Final (at_hand g)) Final g) (sym h.same) (record {
  stands = λ n s. record { known = refl; offer = tt };
  kept = subst AreKept h.same h.kept;
  ready = (record { of = rival_follows g.head holds.at.of; there = tt; withouts = holds.at.withouts; round = tt; fresh = holds.at.fresh }, refl);
})

pub rival_left : (g : Groups) → HasOpen g Rival → AreKept g → LeavesGroup Rival g (record g { rival = g.value; stated = record { exchange = g.stated.exchange; sets = [] }; next = coming.Amount })
rival_left g holds kept = record {
  stands = λ n s. record { known = refl; offer = tt };
  kept = record { lawful = kept.lawful; walk = kept.walk; room = kept.room; offer = kept.offer; number = kept.number };
  ready = record { regret = regret_follows g.head holds.at.of; none = refl; withouts = nil_from_length g.withouts.items holds.at.withouts; fresh = holds.at.fresh };
}

-- the provisional sets are offered
pub provisional_left : (g : Groups) (offer : Offer) → HasOpen g Provisional → AreKept g → offers.IsKept g.stated.exchange offer → offer.judge.bounds ≡ g.offer.judge.bounds
    → ((s : State) → exchange_at s ≡ g.stated.exchange → s.place ≡ at_prices → s.bounds ≡ g.offer.judge.bounds → s.offered ≡ g.stated.sets → s.judged ≡ [] → offers.IsOfferOf g.stated.exchange offer s)
    → LeavesGroup Provisional g (record g { offer = offer; stated = record { exchange = g.stated.exchange; sets = [] }; next = coming.Offer })
provisional_left g offer holds kept offer_kept same stands = record {
  stands = λ n s. record {
    known = λ i. record (to_line n (after_log (known_in g (coming.Step Provisional) s) Provisional (at_hand g))) { bounds = sym same i };
    offer = stands (to_line n (after_log (known_in g (coming.Step Provisional) s) Provisional (at_hand g))) refl refl refl refl refl;
  };
  kept = record { lawful = kept.lawful; walk = kept.walk; room = kept.room; offer = offer_kept; number = kept.number };
  ready = record {
    session = offer_follows g.head holds.at.of;
    none = refl;
    withouts = nil_from_length g.withouts.items holds.at.withouts;
    weights = subst (λ (bounds : List Bounds). g.log.weights ≡ weighted_weights g.stated.exchange.settings.weight bounds) (sym same) holds.weights;
    rounds = holds.at.round;
  };
}

-- ---- a step that doesn't close the log, or that does

pub log_goes_on : (group : Group) (g : Groups) → g.next ≡ coming.Step group → HasOpen g group → AreKept g → (g.log.walk.sides ≡ [] → ⊥) → HasLeft (λ s. after_step s group (at_hand g) g.log.walk.sides g.log.before) group g g
log_goes_on group g now holds kept opened = record {
  stands = λ n s. subst (λ (t : State). StandsFor g (to_line n t)) (by s g.log.walk.sides refl) (here n s);
  kept = kept;
  ready = subst (IsReady g) (sym now) (holds, some g.log.walk.sides opened);
}
  where
    some : (sides : List Side) → (sides ≡ [] → ⊥) → 0 < length sides
    some [] h = absurd (h refl)
    some (side ∷ sides) h = omega arith

    here : (n : ℕ) (s : State) → StandsFor g (to_line n (known_in g (coming.Step group) s))
    here n s = record {
      known = subst (λ (m : Next). to_line n (known_in g (coming.Step group) s) ≡ known_in g m (to_line n (known_in g (coming.Step group) s))) (sym now) (known_again g (coming.Step group) n s);
      offer = subst (λ (m : Next). IsOffering g m (to_line n (known_in g (coming.Step group) s))) (sym now) tt;
    }

    by : (s : State) (sides : List Side) → g.log.walk.sides ≡ sides → known_in g (coming.Step group) s ≡ after_step (known_in g (coming.Step group) s) group (at_hand g) sides g.log.before
    by s [] e = absurd (opened e)
    by s (side ∷ sides) e = ap (λ (l : List Side). go_to (at_log group (at_hand g) l g.log.before) (known_in g (coming.Step group) s)) e

pub log_closes : (group : Group) (g after : Groups) → g.log.walk.sides ≡ [] → HasLeft (λ s. after_log s group (at_hand g)) group g after → HasLeft (λ s. after_step s group (at_hand g) g.log.walk.sides g.log.before) group g after
log_closes group g after e h = record {
  stands = λ n s. subst (λ (l : List Side). StandsFor after (to_line n (after_step (known_in g (coming.Step group) s) group (at_hand g) l g.log.before))) (sym e) (h.stands n s);
  kept = h.kept;
  ready = h.ready;
}

-- ---- the records of a log

module _ (group : Group) (g : Groups) where
  -- what the walk is given
  pub record IsGiven (ts : List Tree) (ws : List Weights) (target : ℤ) (version : Version) : Type 0 where
    pub trees : ts ≡ trees_of g.stated.exchange
    pub weights : ws ≡ weights_for g group
    pub target_is : target ≡ g.value
    pub version_is : version ≡ version_of_head g.head

  weights_there : (s : State) → weights_at (known_in g (coming.Step group) s) group ≡ weights_for g group
  weights_there s = by group
    where
      by : (group : Group) → weights_at (known_in g (coming.Step group) s) group ≡ weights_for g group
      by Assign = refl
      by Final = refl
      by Rival = refl
      by Provisional = refl
      by (Without b) = refl

  -- a record that fails
  pub step_fails : (ts : List Tree) (ws : List Weights) (target : ℤ) (version : Version) (r : Record) (y : Rule) → IsGiven ts ws target version → AreKept g → 0 < length g.log.walk.sides
      → FailsStep ts g.log.desk.room ws target version g.log.walk.sides g.log.before r y → Fails (coming.Step group) g r (Here y)
  step_fails ts ws target version r y given kept opened h s quiet =
      record_fails (known_in g (coming.Step group) s) group (at_hand g) g.log.walk.sides g.log.before r y opened kept.walk.goods
      (subst (λ (w : List Weights). Broken (trees_of g.stated.exchange) (exact_of g.stated.exchange) w g.value) (sym (weights_there s))
      (subst (λ (t : List Tree). Broken t (exact_of g.stated.exchange) (weights_for g group) g.value) given.trees
      (subst (λ (e : List Bool). Broken ts e (weights_for g group) g.value) kept.walk.flags
      (subst (λ (w : List Weights). Broken ts g.log.desk.room w g.value) given.weights
      (subst (λ (z : ℤ). Broken ts g.log.desk.room ws z) given.target_is
      (subst (λ (v : Version). FailsStep ts g.log.desk.room ws target v g.log.walk.sides g.log.before r y) given.version_is h))))))
    where
      Broken : List Tree → List Bool → List Weights → ℤ → Type 0
      Broken t e w z = FailsStep t e w z (version_of_head g.head) g.log.walk.sides g.log.before r y

same_after : (group : Group) (g : Groups) (log : LogWalk) (n : ℕ) (s : State) (sides : List Side) (m : Multipliers) → HasLog group
    → to_line n (after_step (known_in (record g { log = log }) (coming.Step group) s) group (at_hand g) sides m) ≡ to_line n (after_step (known_in g (coming.Step group) s) group (at_hand g) sides m)
same_after Assign g log n s sides m is = absurd is
same_after Final g log n s [] m is = refl
same_after Final g log n s (side ∷ sides) m is = refl
same_after Rival g log n s [] m is = refl
same_after Rival g log n s (side ∷ sides) m is = refl
same_after Provisional g log n s [] m is = refl
same_after Provisional g log n s (side ∷ sides) m is = refl
same_after (Without b) g log n s [] m is = refl
same_after (Without b) g log n s (side ∷ sides) m is = refl

-- a record that passes
abbrev Walks : Groups → LogWalk → Record → List Tree → List Bool → List Weights → ℤ → Type 0
Walks g log r t e w z = PassesStep t e w z (version_of_head g.head) g.log.walk.sides g.log.before r log.walk.sides log.before

pub step_taken : (group : Group) (g : Groups) (log : LogWalk) (after : Groups) (ts : List Tree) (ws : List Weights) (target : ℤ) (version : Version) (r : Record) → HasLog group → IsGiven group g ts ws target version → AreKept g → 0 < length g.log.walk.sides
    → PassesStep ts g.log.desk.room ws target version g.log.walk.sides g.log.before r log.walk.sides log.before
    → HasLeft (λ s. after_step s group (at_hand g) log.walk.sides log.before) group (record g { log = log }) after → IsTaken (coming.Step group) g r after
step_taken group g log after ts ws target version r has given kept opened h left = record {
  goes = λ s quiet. record {
    state = to_line (suc s.line) (after_step (known_in g (coming.Step group) s) group (at_hand g) log.walk.sides log.before);
    passes =
        record_passes (known_in g (coming.Step group) s) group (at_hand g) g.log.walk.sides log.walk.sides g.log.before log.before r opened kept.walk.goods
        (subst (λ (w : List Weights). Walks g log r (trees_of g.stated.exchange) (exact_of g.stated.exchange) w g.value) (sym (weights_there group g s))
        (subst (λ (t : List Tree). Walks g log r t (exact_of g.stated.exchange) (weights_for g group) g.value) given.trees
        (subst (λ (e : List Bool). Walks g log r ts e (weights_for g group) g.value) kept.walk.flags
        (subst (λ (w : List Weights). Walks g log r ts g.log.desk.room w g.value) given.weights (subst (λ (z : ℤ). Walks g log r ts g.log.desk.room ws z) given.target_is
        (subst (λ (v : Version). PassesStep ts g.log.desk.room ws target v g.log.walk.sides g.log.before r log.walk.sides log.before) given.version_is h))))));
    line = refl;
    stands = subst (StandsFor after) (same_after group g log (suc s.line) s log.walk.sides log.before has) (left.stands (suc s.line) s);
  };
  kept = left.kept;
  ready = left.ready;
}
