-- Settlements that are past: one more of them, and the last settlement behind them.
use Rattle.std.proofs.Common.{◌≡◌, ◌+◌, ℕ, suc, Bool, true, false, List, [], ◌∷◌, ◌++◌, length, ℤ, refl, sym, ◌∙◌, ap, subst, arith}
use Rattle.std.specs.Prelude.{◌-ℤ◌}
use Rattle.std.proofs.lemmas.List.{append-nil, append_assoc, length-append, length-map}
use Rattle.ice_defs.specs.Bounds.{Bounds}
use Rattle.ice_defs.specs.Regret.{IsRegret}
use Rattle.ice_defs.specs.Exchange.{Bidder, Exchange, trees_of, opening_bounds, market_of}
use Rattle.ice_defs.specs.Lawful.{IsExchange}
use Rattle.ice_defs.specs.Session.{Settlement, Going, Closed, closes}
use Rattle.ice_headline_laws.specs.Right.{IsSettled, IsGoing, IsClosed, IsRightFrom, bounds_after_round, bounds_after_rounds}
use Rattle.ice_journal.specs.Records.{Record}
use Rattle.ice_defs.specs.Conditions.{AreBoundsOf}
use Rattle.ice_round_laws.proofs.Keeping.{rounds_keep_bounds, bounds_count, bounds_at, bounds_from}
use Rattle.ice_regret_laws.specs.Laws.{PerturbedGivesRegret}
use Rattle.ice_journal_laws.specs.Written.{going_records, closed_records, settlement_records}
use Rattle.ice_journal_laws.specs.Stops.{all_going_records, AreGoing}
use Rattle.ice_journal_laws.proofs.Regretting.{AreSettled}
use Rattle.ice_bound.proofs.Living.{opening_are_bounds}

-- the settlements before this one are right, and leave these bounds
pub record IsPast (ex : Exchange) (number : ℕ) (bounds : List Bounds) (past : List Going) : Type 0 where
  pub count : length past ≡ number
  pub going : AreGoing ex 0 (opening_bounds ex) past
  pub after : bounds_after_rounds ex (opening_bounds ex) past ≡ bounds
  pub lawful : AreBoundsOf (trees_of ex) bounds

-- ---- the first settlement

pub past_begins : (ex : Exchange) → IsExchange ex → IsPast ex 0 (opening_bounds ex) []
past_begins ex lawful = record {
  count = refl;
  going = tt;
  after = refl;
  lawful = opening_are_bounds ex lawful;
}

-- ---- one more

at_number : (ex : Exchange) (m n : ℕ) (regret : ℤ) (b : Bool) → m ≡ n → closes ex.settings m regret ≡ b → closes ex.settings n regret ≡ b
at_number ex m n regret b e c = subst (λ (k : ℕ). closes ex.settings k regret ≡ b) e c

going_more : (ex : Exchange) (n : ℕ) (bounds : List Bounds) (past : List Going) (g : Going) → AreGoing ex n bounds past → closes ex.settings (n + length past) g.settlement.regret ≡ false
    → IsGoing ex (bounds_after_rounds ex bounds past) g → AreGoing ex n bounds (past ++ g ∷ [])
going_more ex n bounds [] g are c is = (at_number ex (n + 0) n g.settlement.regret false (omega arith) c, is, tt)
going_more ex n bounds (first ∷ later) g are c is = (
  are.0,
  are.1,
  going_more ex (suc n) (bounds_after_round ex bounds first) later g are.2 (at_number ex (n + suc (length later)) (suc n + length later) g.settlement.regret false (omega arith) c) is,
)

bounds_more : (ex : Exchange) (bounds : List Bounds) (past : List Going) (g : Going) → bounds_after_rounds ex bounds (past ++ g ∷ []) ≡ bounds_after_round ex (bounds_after_rounds ex bounds past) g
bounds_more ex bounds [] g = refl
bounds_more ex bounds (first ∷ later) g = bounds_more ex (bounds_after_round ex bounds first) later g

records_more : (n : ℕ) (past : List Going) (g : Going) → all_going_records n (past ++ g ∷ []) ≡ all_going_records n past ++ going_records (n + length past) g
records_more n [] g = append-nil (going_records n g) ∙ ap (λ (k : ℕ). going_records k g) (omega arith)
records_more n (first ∷ later) g =
    ap (λ (rs : List Record). going_records n first ++ rs) (records_more (suc n) later g ∙ ap (λ (k : ℕ). all_going_records (suc n) later ++ going_records k g) (omega arith))
    ∙ sym (append_assoc (going_records n first) (all_going_records (suc n) later) (going_records (n + suc (length later)) g))

-- a round leaves bounds of the same trees
bounds_kept : (ex : Exchange) (bounds : List Bounds) (g : Going) → AreBoundsOf (trees_of ex) bounds → IsGoing ex bounds g → AreBoundsOf (trees_of ex) (bounds_after_round ex bounds g)
bounds_kept ex bounds g are going =
    let trees = length-map ex.bidders (λ (b : Bidder). b.tree) in
    let kept =
    rounds_keep_bounds g.prices ex.settings.improve g.judged ex.bidders bounds g.provisional.sets (going.provisional.feasible.same_length ∙ trees)
    (bounds_from ex.bidders bounds (are.same_length ∙ trees) are.each) going.round in
    record { same_length = bounds_count ex.bidders (bounds_after_round ex bounds g) kept ∙ sym trees; each = bounds_at ex.bidders (bounds_after_round ex bounds g) kept }

-- the settlement goes on, and is past
pub past_more : (ex : Exchange) (number : ℕ) (bounds : List Bounds) (past : List Going) (g : Going) → IsPast ex number bounds past → closes ex.settings number g.settlement.regret ≡ false → IsGoing ex bounds g
    → IsPast ex (suc number) (bounds_after_round ex bounds g) (past ++ g ∷ [])
past_more ex number bounds past g is c going = record {
  count = length-append past (g ∷ []) ∙ omega (arith, is.count);
  going =
      going_more ex 0 (opening_bounds ex) past g is.going (at_number ex number (0 + length past) g.settlement.regret false (omega (arith, is.count)) c)
      (subst (λ (b : List Bounds). IsGoing ex b g) (sym is.after) going);
  after = bounds_more ex (opening_bounds ex) past g ∙ ap (λ (b : List Bounds). bounds_after_round ex b g) is.after;
  lawful = bounds_kept ex bounds g is.lawful going;
}

pub text_more : (ex : Exchange) (number : ℕ) (bounds : List Bounds) (past : List Going) (g : Going) → IsPast ex number bounds past
    → all_going_records 0 past ++ going_records number g ≡ all_going_records 0 (past ++ g ∷ [])
text_more ex number bounds past g is = ap (λ (k : ℕ). all_going_records 0 past ++ going_records k g) (omega (arith, is.count)) ∙ sym (records_more 0 past g)

-- ---- the last one

right_from : (ex : Exchange) (n : ℕ) (bounds : List Bounds) (past : List Going) (c : Closed) → AreGoing ex n bounds past → closes ex.settings (n + length past) c.settlement.regret ≡ true
    → IsClosed ex (bounds_after_rounds ex bounds past) c → IsRightFrom ex n bounds past c
right_from ex n bounds [] c are ends is = (at_number ex (n + 0) n c.settlement.regret true (omega arith) ends, is)
right_from ex n bounds (first ∷ later) c are ends is = (
  are.0,
  are.1,
  right_from ex (suc n) (bounds_after_round ex bounds first) later c are.2 (at_number ex (n + suc (length later)) (suc n + length later) c.settlement.regret true (omega arith) ends) is,
)

pub past_closed : (ex : Exchange) (number : ℕ) (bounds : List Bounds) (past : List Going) (c : Closed) → IsPast ex number bounds past → closes ex.settings number c.settlement.regret ≡ true → IsClosed ex bounds c
    → IsRightFrom ex 0 (opening_bounds ex) past c
past_closed ex number bounds past c is ends closed =
    right_from ex 0 (opening_bounds ex) past c is.going (at_number ex number (0 + length past) c.settlement.regret true (omega (arith, is.count)) ends)
    (subst (λ (b : List Bounds). IsClosed ex b c) (sym is.after) closed)

closed_from : (n : ℕ) (past : List Going) (c : Closed) → settlement_records n past c ≡ all_going_records n past ++ closed_records (n + length past) c
closed_from n [] c = ap (λ (k : ℕ). closed_records k c) (omega arith)
closed_from n (first ∷ later) c =
    ap (λ (rs : List Record). going_records n first ++ rs) (closed_from (suc n) later c ∙ ap (λ (k : ℕ). all_going_records (suc n) later ++ closed_records k c) (omega arith))
    ∙ sym (append_assoc (going_records n first) (all_going_records (suc n) later) (closed_records (n + suc (length later)) c))

pub text_closed : (ex : Exchange) (number : ℕ) (bounds : List Bounds) (past : List Going) (c : Closed) → IsPast ex number bounds past
    → all_going_records 0 past ++ closed_records number c ≡ settlement_records 0 past c
text_closed ex number bounds past c is = ap (λ (k : ℕ). all_going_records 0 past ++ closed_records k c) (omega (arith, is.count)) ∙ sym (closed_from 0 past c)

-- ---- the regret

-- the two groups give the regret, at any bounds of the trees
pub settled_right : (perturbed : PerturbedGivesRegret) (ex : Exchange) (bounds : List Bounds) (x : Settlement) → AreBoundsOf (trees_of ex) bounds → AreSettled ex bounds x → IsSettled ex bounds x
settled_right perturbed ex bounds x lawful are = record {
  final = are.final;
  rival = are.rival;
  regret =
      subst (IsRegret (market_of ex) bounds x.final.sets) (ap (λ (v : ℤ). x.rival.value -ℤ v) are.final.value ∙ sym are.amount)
      (perturbed (market_of ex) bounds x.final.sets x.rival.value lawful.same_length lawful.each are.final.feasible are.rival.best);
}
