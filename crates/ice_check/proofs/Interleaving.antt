-- The order in which the submissions of different bidders come changes no yes.
use Rattle.std.proofs.Common.{◌≡◌, ℕ, pos, List, [], ◌∷◌, ◌++◌, refl, sym, ◌∙◌, ap, subst}
use Rattle.std.specs.Prelude.{Option, None, option_map, unwrap_or, Result, Ok}
use Rattle.ice_defs.specs.declared.Verdict.{Verdict}
use Rattle.ice_defs.specs.Bound.{Multipliers}
use Rattle.ice_defs.specs.Steps.{Step, leaf}
use Rattle.ice_defs.specs.Round.{Submission}
use Rattle.ice_defs.specs.Fraction.{whole_number}
use Rattle.ice_journal.specs.Records.{Record, Version, version_1, version_2, Kind, assign_kind, session_kind, Change}
use Rattle.ice_journal.specs.Records as line
use Rattle.ice_journal.specs.Journal.{LinesFault}
use Rattle.ice_journal.specs.Plain.{plain, plain_records, after_changes, goods_in, all_zero}
use Rattle.ice_journal.proofs.Journals.{one_answer}
use Rattle.ice_headline_laws.proofs.Promised.{right_gives_headline}
use Rattle.ice_journal_laws.specs.Fields.{amount_in, Closing, threshold_in}
use Rattle.ice_journal_laws.specs.Written.{session_records}
use Rattle.ice_journal_laws.specs.Checks.{Checks}
use Rattle.ice_journal_laws.specs.Theorems.{HasKind}
use Rattle.ice_journal_laws.specs.Reordering.{Reordered, same, swapped}
use Rattle.ice_journal_laws.proofs.SaidSession.{told, regret_said, regret_of_session, surplus_said, surplus_of_session}
use Rattle.ice_journal_laws.proofs.SessionRight.{checked_is_right}
use Rattle.ice_journal_laws.proofs.Swapping.{order_of_rounds_is_free}
use Rattle.ice_check.specs.Laws.{OrderOfRoundsKeepsYes}

-- what a journal says of something that heads, submissions, verdicts and steps say nothing of
module _ {X : Type 0} (f : Record → Option X) (head : (v : Version) (k : Kind) → f (line.head v k) ≡ None) (submit : (x : Submission) → f (line.submit x) ≡ None)
    (verdict : (v : Verdict) → f (line.verdict v) ≡ None) (near : (cs : List Change) → f (line.near cs) ≡ None) (step : (s : Step) → f (line.step s) ≡ None) where
  quiet : (a : X) (r : Record) (rest : List Record) → f r ≡ None → told f a (r ∷ rest) ≡ told f a rest
  quiet a r rest none = ap (λ (o : Option X). told f (unwrap_or o a) rest) none

  pair : (a : X) (x : Submission) (v : Verdict) (rest : List Record) → told f a (line.submit x ∷ line.verdict v ∷ rest) ≡ told f a rest
  pair a x v rest = quiet a (line.submit x) (line.verdict v ∷ rest) (submit x) ∙ quiet a (line.verdict v) rest (verdict v)

  pairs : (a : X) (x y : Submission) (v w : Verdict) (rest : List Record) → told f a (line.submit x ∷ line.verdict v ∷ line.submit y ∷ line.verdict w ∷ rest) ≡ told f a rest
  pairs a x y v w rest = pair a x v (line.submit y ∷ line.verdict w ∷ rest) ∙ pair a y w rest

  said_swapped : (a : X) (before after : List Record) (x y : Submission) (v w : Verdict)
      → told f a (before ++ line.submit x ∷ line.verdict v ∷ line.submit y ∷ line.verdict w ∷ after) ≡ told f a (before ++ line.submit y ∷ line.verdict w ∷ line.submit x ∷ line.verdict v ∷ after)
  said_swapped a [] after x y v w = pairs a x y v w after ∙ sym (pairs a y x w v after)
  said_swapped a (r ∷ before) after x y v w = said_swapped (unwrap_or (f r) a) before after x y v w

  said_reordered : {one other : List Record} (a : X) → Reordered one other → told f a one ≡ told f a other
  said_reordered a same = refl
  said_reordered a (swapped before after x y v w apart rest) = said_swapped a before after x y v w ∙ said_reordered a rest

  said_records : (goods : ℕ) (m : Multipliers) (a : X) (records : List Record) → told f a (plain_records goods m records) ≡ told f a records
  said_records goods m a [] = refl
  said_records goods m a (line.near cs ∷ rest) =
      quiet a (line.step (leaf (after_changes m cs))) (plain_records goods (after_changes m cs) rest) (step (leaf (after_changes m cs)))
      ∙ said_records goods (after_changes m cs) a rest ∙ sym (quiet a (line.near cs) rest (near cs))
  said_records goods m a (line.step s ∷ rest) = said_records goods m (unwrap_or (f (line.step s)) a) rest
  said_records goods m a (r ∷ rest) = said_records goods (all_zero goods) (unwrap_or (f r) a) rest

  said_plain : (a : X) (journal : List Record) → told f a (plain journal) ≡ told f a journal
  said_plain a (line.head version_2 kind ∷ rest) =
      quiet a (line.head version_1 kind) (plain_records (goods_in rest) (all_zero (goods_in rest)) rest) (head version_1 kind)
      ∙ said_records (goods_in rest) (all_zero (goods_in rest)) a rest ∙ sym (quiet a (line.head version_2 kind) rest (head version_2 kind))
  said_plain a (line.head version_1 kind ∷ rest) = refl
  said_plain a (other ∷ rest) = refl
  said_plain a [] = refl

  pub said_alike : {one other : List Record} (a : X) → Reordered one other → told f a (plain one) ≡ told f a (plain other)
  said_alike {one} {other} a order = said_plain a one ∙ said_reordered a order ∙ sym (said_plain a other)

regret_alike : {one other : List Record} → Reordered one other → regret_said (plain one) ≡ regret_said (plain other)
regret_alike order = said_alike amount_in (λ v k. refl) (λ x. refl) (λ v. refl) (λ cs. refl) (λ s. refl) (pos 0) order

surplus_alike : {one other : List Record} → Reordered one other → surplus_said (plain one) ≡ surplus_said (plain other)
surplus_alike order =
    said_alike (λ (r : Record). option_map (λ (c : Closing). c.surplus) (threshold_in r)) (λ v k. refl) (λ x. refl) (λ v. refl) (λ cs. refl) (λ s. refl) (whole_number (pos 0)) order

-- ---- the kind

abbrev kind_said : List Record → Kind
kind_said (line.head version kind ∷ rest) = kind
kind_said (other ∷ rest) = assign_kind
kind_said [] = assign_kind

of_kind : (journal : List Record) → kind_said (plain journal) ≡ session_kind → HasKind session_kind journal
of_kind (line.head version_1 kind ∷ rest) e = e
of_kind (line.head version_2 kind ∷ rest) e = e
of_kind (other ∷ rest) e = cc
of_kind [] e = cc

kind_swapped : (before after : List Record) (x y : Submission) (v w : Verdict) → HasKind session_kind (before ++ line.submit x ∷ line.verdict v ∷ line.submit y ∷ line.verdict w ∷ after)
    → HasKind session_kind (before ++ line.submit y ∷ line.verdict w ∷ line.submit x ∷ line.verdict v ∷ after)
kind_swapped [] after x y v w h = absurd h
kind_swapped (line.head version kind ∷ before) after x y v w h = h
kind_swapped (other ∷ before) after x y v w h = absurd h

kind_reordered : {one other : List Record} → Reordered one other → HasKind session_kind one → HasKind session_kind other
kind_reordered same h = h
kind_reordered (swapped before after x y v w apart rest) h = kind_reordered rest (kind_swapped before after x y v w h)

-- ---- the answer

one_journal : (journal one : List Record) (a b : Result (List Record) LinesFault) → a ≡ Ok journal → b ≡ Ok one → a ≡ b → journal ≡ one
one_journal journal one a b p q e = cc

pub order_keeps_yes : OrderOfRoundsKeepsYes
order_keeps_yes bytes more one other regret surplus is_one is_other order (journal, is, (checks, (x, says, right, headline, regret_is, surplus_is))) =
    let same_journal : journal ≡ one = one_journal journal one (Ok journal) (Ok one) refl refl (one_answer bytes (Ok journal) (Ok one) is is_one) in
    let says_one : plain one ≡ session_records x = ap plain (sym same_journal) ∙ says in
    let kind : HasKind session_kind one = of_kind one (ap kind_said says_one) in
    let checks_other : Checks other = order_of_rounds_is_free one other kind order (subst Checks same_journal checks) in
    let (y, says_other, right_other) = checked_is_right other (kind_reordered order kind) is_other.lawful checks_other in (
      other,
      is_other,
      (
        checks_other,
        (
          y,
          says_other,
          right_other,
          right_gives_headline y right_other,
          regret_is ∙ sym (regret_of_session x) ∙ ap regret_said (sym says_one) ∙ regret_alike order ∙ ap regret_said says_other ∙ regret_of_session y,
          surplus_is ∙ sym (surplus_of_session x) ∙ ap surplus_said (sym says_one) ∙ surplus_alike order ∙ ap surplus_said says_other ∙ surplus_of_session y,
        ),
      ),
    )
