-- A journal has one replay of a settlement.
use Rattle.std.proofs.Common.{◌≡◌, ℕ, List, ◌∷◌, ℤ, sym, ◌∙◌, ap}
use Rattle.ice_defs.specs.Exchange.{names_of}
use Rattle.ice_journal.specs.Records.{Record, session_kind}
use Rattle.ice_journal.specs.Records as line
use Rattle.ice_journal_laws.specs.State.{State, begun, exchange_at}
use Rattle.ice_replay.specs.declared.settlement.Replay.{Replay}
use Rattle.ice_replay.specs.Settlements.{OfSession, Settles, prices_from, prices_of}
use Rattle.ice_replay.specs.Replays.{IsReplay}
use Rattle.ice_replay.specs.Laws.{SaySame}
use Rattle.ice_replay.proofs.Once.{AreSame, one_settlement}

same_prices : (number : ℕ) (s : State) (records : List Record) (x y : Settles number s records) → AreSame x y → prices_of x ≡ prices_of y
same_prices number s records x y same =
    ap (λ (t : State). prices_from t (line.regret x.amount ∷ x.rest)) same.state
    ∙ ap (λ (a : ℤ). prices_from y.state (line.regret a ∷ x.rest)) same.amount
    ∙ ap (λ (l : List Record). prices_from y.state (line.regret y.amount ∷ l)) same.rest

say_same : (number : ℕ) (one other : Replay) (s : State) (records : List Record) → IsReplay number one s records → IsReplay number other s records → SaySame one other
say_same number one other s records h k =
    let same = one_settlement number s records h.told.settles k.told.settles in
    record {
      number = h.told.number_is ∙ sym k.told.number_is;
      names = h.told.names ∙ ap (λ (t : State). names_of (exchange_at t)) same.state ∙ sym k.told.names;
      bounds = h.told.bounds ∙ ap (λ (t : State). t.bounds) same.state ∙ sym k.told.bounds;
      final = h.told.final ∙ ap (λ (t : State). t.final.value) same.state ∙ sym k.told.final;
      regret = h.told.regret ∙ same.amount ∙ sym k.told.regret;
      prices = h.prices ∙ same_prices number s records h.told.settles k.told.settles same ∙ sym k.prices;
    }

pub of_session : (number : ℕ) (one other : Replay) (journal : List Record) → OfSession (IsReplay number one) journal → OfSession (IsReplay number other) journal → SaySame one other
of_session number one other (line.head v session_kind ∷ rest) h k = say_same number one other (begun v session_kind) rest h k
of_session number one other others h k = absurd h
