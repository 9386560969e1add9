-- What is known of the states of a journal behind its exchange.
use Rattle.std.specs.Prelude.{◌<◌, ◌≤◌, ◌≡◌, List, [], length}
use Rattle.ice_defs.specs.declared.Group.{Group}
use Rattle.ice_defs.specs.declared.Group.TheVariants.{Assign, Final, Rival, Provisional, Without}
use Rattle.ice_defs.specs.Set.{Weights}
use Rattle.ice_defs.specs.Round.{Judged}
use Rattle.ice_defs.specs.Exchange.{trees_of, exact_of}
use Rattle.ice_defs.specs.Group.{group_weights}
use Rattle.ice_defs.specs.Lawful.{IsExchange}
use Rattle.ice_tree.specs.Alike.{HasSetPerTree}
use Rattle.ice_journal_laws.specs.State.{Stated, Place, at_group, at_sets, at_log, at_regret, at_threshold, at_payment, at_end, done, State}
use Rattle.ice_journal_laws.specs.Assigning.{section_of}
use Rattle.ice_gap_laws.specs.Gap.{IsThere}
use Rattle.ice_check_offer.specs.Offers as offers
use Rattle.ice_check_records.specs.declared.next.Next.{Next}
use Rattle.ice_check_records.specs.declared.next.Next.TheVariants as next
use Rattle.ice_check_records.specs.declared.groups.Groups.{Groups}
use Rattle.ice_check_records.specs.Heads.{version_of_head, kind_of_head, end_of}
use Rattle.ice_check_records.specs.Heads.{HasRegret, IsSession, IsGroupOf, HasLog, withouts_before}
use Rattle.ice_check_records.specs.Logs.{IsWalkOf}

-- the value and the sets of the group at hand
abbrev pub at_hand : Groups → Stated
at_hand g = record { value = g.value; sets = g.stated.sets }

-- those of the final group, once it is complete
abbrev pub final_stated : Groups → Stated
final_stated g = record { value = g.final_value; sets = g.final_sets }

-- ---- what is known of a state

-- of the final group nothing is known before it is complete
abbrev pub final_in : Stated → Group → Stated → Stated
final_in stated Assign old = old
final_in stated Final old = old
final_in stated Rival old = stated
final_in stated Provisional old = stated
final_in stated (Without b) old = stated

abbrev pub final_at : Stated → Next → Stated → Stated
final_at stated (next.Head group) old = final_in stated group old
final_at stated (next.Set group) old = final_in stated group old
final_at stated (next.Step group) old = final_in stated group old
final_at stated other old = stated

-- the place; where it is in an offer, the offer knows
abbrev pub place_at : Groups → Next → Place → Place
place_at g (next.Head group) old = at_group group
place_at g (next.Set group) old = at_sets group (at_hand g)
place_at g (next.Step group) old = at_log group (at_hand g) g.log.walk.sides g.log.before
place_at g next.Amount old = at_regret
place_at g next.Offer old = old
place_at g next.Threshold old = at_threshold
place_at g (next.Payment b) old = at_payment b
place_at g next.End old = at_end (end_of g.head)
place_at g next.Nothing old = done

-- outside an offer there is no round
abbrev pub judged_at : Next → List Judged → List Judged
judged_at next.Offer old = old
judged_at other old = []

-- a state with what is known of it in the place of what it has
abbrev pub known_in : Groups → Next → State → State
known_in g now s = record s {
  version = version_of_head g.head;
  kind = kind_of_head g.head;
  section = section_of g.stated.exchange;
  place = place_at g now s.place;
  number = g.number;
  bounds = g.offer.judge.bounds;
  final = final_at (final_stated g) now s.final;
  rival = g.rival;
  regret = g.regret;
  judged = judged_at now s.judged;
  withouts = g.withouts.items;
  cut = g.charge.cut;
  surplus = g.charge.surplus;
}

abbrev pub IsOffering : Groups → Next → State → Type 0
IsOffering g next.Offer s = offers.IsOfferOf g.stated.exchange g.offer s
IsOffering g other s = Unit {0}

-- all that is known of the state holds, whatever its line
pub record StandsFor (g : Groups) (s : State) : Type 0 where
  pub known : s ≡ known_in g g.next s
  pub offer : IsOffering g g.next s

-- ---- what is kept

abbrev pub weights_for : Groups → Group → List Weights
weights_for g group = group_weights g.stated.exchange.settings.weight g.offer.judge.bounds g.final_sets group

pub record AreKept (g : Groups) : Type 0 where
  pub lawful : IsExchange g.stated.exchange
  pub walk : IsWalkOf (trees_of g.stated.exchange) (exact_of g.stated.exchange) g.log
  pub room : HasSetPerTree (trees_of g.stated.exchange) g.final_sets
  pub offer : offers.IsKept g.stated.exchange g.offer
  pub number : g.number ≤ g.stated.exchange.settings.rounds

-- provisional sets come only where a round is left
abbrev pub HasRound : Groups → Group → Type 0
HasRound g Provisional = g.number < g.stated.exchange.settings.rounds
HasRound g other = Unit {0}

-- a group of the journal, with the values without a bidder that come before it; no submission
-- of its settlement was judged
pub record IsGroupAt (g : Groups) (group : Group) : Type 0 where
  pub of : IsGroupOf g.head group
  pub there : IsThere (length (trees_of g.stated.exchange)) group
  pub withouts : length g.withouts.items ≡ withouts_before group
  pub round : HasRound g group
  pub fresh : offers.IsFresh g.stated.exchange g.offer.judge

-- the value without each bidder is complete
pub record IsClosing (g : Groups) : Type 0 where
  pub session : IsSession g.head
  pub withouts : length g.withouts.items ≡ length (trees_of g.stated.exchange)
  pub weights : g.log.weights ≡ weights_for g Final

pub record HasSettled (g : Groups) : Type 0 where
  pub regret : HasRegret g.head
  pub none : g.stated.sets ≡ []
  pub withouts : g.withouts.items ≡ []
  pub fresh : offers.IsFresh g.stated.exchange g.offer.judge

pub record HasOffered (g : Groups) : Type 0 where
  pub session : IsSession g.head
  pub none : g.stated.sets ≡ []
  pub withouts : g.withouts.items ≡ []
  pub weights : g.log.weights ≡ weights_for g Provisional
  pub rounds : g.number < g.stated.exchange.settings.rounds

pub record HasOpen (g : Groups) (group : Group) : Type 0 where
  pub at : IsGroupAt g group
  pub log : HasLog group
  pub full : length g.stated.sets ≡ length (trees_of g.stated.exchange)
  pub weights : g.log.weights ≡ weights_for g group

-- what is ready where this is next
abbrev pub IsReady : Groups → Next → Type 0
IsReady g (next.Head group) = IsGroupAt g group × (g.stated.sets ≡ [])
IsReady g (next.Set group) = IsGroupAt g group × (length g.stated.sets < length (trees_of g.stated.exchange))
    × (g.log.weights ≡ weights_for g group)
IsReady g (next.Step group) = HasOpen g group × (0 < length g.log.walk.sides)
IsReady g next.Amount = HasSettled g
IsReady g next.Offer = HasOffered g
IsReady g next.Threshold = IsClosing g
IsReady g (next.Payment b) = IsClosing g × (b < length (trees_of g.stated.exchange))
IsReady g next.End = Unit {0}
IsReady g next.Nothing = Unit {0}
