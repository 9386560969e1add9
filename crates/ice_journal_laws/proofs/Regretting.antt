-- What the records of a regret journal say so far, where each test of them passes.
use Rattle.std.proofs.Common.{◌≡◌, ◌<◌, suc, Bool, true, false, cond, List, [], ◌∷◌, ◌++◌, ℤ, refl, sym, ◌∙◌, ap, subst, arith}
use Rattle.std.specs.Prelude.{Some, None, option_map, Result, Ok, Err, IsTrue, ◌-ℤ◌}
use Rattle.std.specs.List.{AllByRecursion}
use Rattle.std.proofs.lemmas.Option.{none-some}
use Rattle.std.proofs.lemmas.List.{append-nil, length-map}
use Rattle.ice_defs.specs.Bound.{Multipliers}
use Rattle.ice_defs.specs.Steps.{Step, Side}
use Rattle.ice_defs.specs.declared.Group.TheVariants.{Final, Rival}
use Rattle.ice_defs.specs.Weighing.{lower_weights, perturbed_weights}
use Rattle.ice_defs.specs.Bounds.{Bounds}
use Rattle.ice_defs.specs.Exchange.{Exchange, Bidder, opening_bounds}
use Rattle.ice_defs.specs.Lawful.{IsExchange}
use Rattle.ice_defs.specs.Session.{Proved, Settlement}
use Rattle.ice_headline_laws.specs.Right.{IsBestFound}
use Rattle.ice_journal.specs.Records.{Record, Version, Kind, regret_kind, regret_end}
use Rattle.ice_journal.specs.Records as line
use Rattle.ice_journal.specs.Ranges.{IsRecord}
use Rattle.ice_section.specs.Section.{Section, SectionFault, order, count, no_good, maker, no_section, take_record, may_end}
use Rattle.ice_section.specs.Taking.{unless_fault, take_records}
use Rattle.ice_section.specs.Described.{section_records}
use Rattle.ice_section.specs.Laws.{SectionIsLawful, SectionRecords}
use Rattle.ice_refute.specs.Laws.{LogRefutes}
use Rattle.ice_journal_laws.specs.declared.rule.Rule.{Rule}
use Rattle.ice_journal_laws.specs.declared.rule.Rule.TheVariants as rule
use Rattle.ice_journal_laws.specs.Fields.{head_value}
use Rattle.ice_journal_laws.specs.State.{Stated, Place, at_section, at_group, at_sets, at_log, at_regret, at_end, done, State, exchange_at, goods_at}
use Rattle.ice_journal_laws.specs.Next.{next, go_to, to_line, bidder_count, from_section, after_section, past_section, from_head, after_regret}
use Rattle.ice_journal_laws.specs.Tests.{Fails, Holds, is_refusal}
use Rattle.ice_journal_laws.specs.Written.{proved_records, regret_records}
use Rattle.ice_journal_laws.proofs.Faultless.{covered}
use Rattle.ice_journal_laws.proofs.Assigning.{taken_more}
use Rattle.ice_journal_laws.proofs.Plaining.{Wrote, section_wrote}
use Rattle.ice_journal_laws.proofs.Grouping.{of_same, so_far, Tells, tells_more, InSets, InLog, head_begins, sets_go_on, log_goes_on, best_found}

-- the bounds are those of settlement 0
abbrev pub IsOpening : State → Type 0
IsOpening s = s.bounds ≡ opening_bounds (exchange_at s)

-- the final group says this, and none is worth more at lower values
abbrev pub final_text : State → List Step → List Record
final_text s log = proved_records (line.final s.final.value) (so_far s.final log)

abbrev pub IsFinal : State → List Step → Type 0
IsFinal s log = IsBestFound (exchange_at s) s.bounds (lower_weights s.bounds) (so_far s.final log)

abbrev pub IsRival : State → Proved → Type 0
IsRival s rival = IsBestFound (exchange_at s) s.bounds (perturbed_weights s.final.sets s.bounds) rival

-- a settlement whose two groups are best, with the regret that they give
pub record AreSettled (ex : Exchange) (bounds : List Bounds) (x : Settlement) : Type 0 where
  pub final : IsBestFound ex bounds (lower_weights bounds) x.final
  pub rival : IsBestFound ex bounds (perturbed_weights x.final.sets bounds) x.rival
  pub amount : x.regret ≡ (x.rival.value -ℤ x.final.value)

-- what the records after the head say, where this place is next
abbrev pub IsAt : List Record → State → Place → Type 0
IsAt before s at_section = take_records no_section before ≡ Ok s.section
IsAt before s (at_sets Final found) = IsOpening s × InSets before s [] Final found
IsAt before s (at_log Final found (side ∷ sides) m) = IsOpening s × InLog before s [] Final found (side ∷ sides) m
IsAt before s (at_group Rival) = (log : List Step) × IsOpening s × IsFinal s log × Tells before s (final_text s log)
IsAt before s (at_sets Rival found) = (log : List Step) × IsOpening s × IsFinal s log × InSets before s (final_text s log) Rival found
IsAt before s (at_log Rival found (side ∷ sides) m) =
    (log : List Step) × IsOpening s × IsFinal s log × InLog before s (final_text s log) Rival found (side ∷ sides) m
IsAt before s at_regret =
    (log : List Step) × (rival : Proved) × IsOpening s × IsFinal s log × IsRival s rival × (rival.value ≡ s.rival)
    × Tells before s (final_text s log ++ proved_records (line.rival rival.value) rival)
IsAt before s (at_end regret_end) = (x : Settlement) × IsOpening s × AreSettled (exchange_at s) s.bounds x × (x.regret ≡ s.regret) × Tells before s (regret_records x)
IsAt before s done =
    (x : Settlement) × IsOpening s × AreSettled (exchange_at s) s.bounds x × (x.regret ≡ s.regret) × Tells before s (regret_records x ++ line.end regret_end ∷ [])
IsAt before s place = ⊥

pub record IsStanding (version : Version) (before : List Record) (s : State) : Type 0 where
  pub same_version : s.version ≡ version
  pub kind : s.kind ≡ regret_kind
  pub place : IsAt before s s.place

-- ---- one more record

pub some_bidder : (s : State) → IsExchange (exchange_at s) → 0 < bidder_count s
some_bidder s lawful = omega (arith, lawful.bidders_count.0, length-map s.section.bidders (λ (b : Bidder). b.tree))

module _ (lawful : SectionIsLawful) (described : SectionRecords) (refutes : LogRefutes) where
  -- the section is complete, and its exchange lawful
  pub section_told : (before : List Record) (s : State) → AllByRecursion IsRecord before → take_records no_section before ≡ Ok s.section → may_end s.section ≡ true → Tells before s []
  section_told before s records taken ended =
      let same : before ≡ section_records (exchange_at s) = described before s.section taken ended in
      record {
        exchange = lawful before s.section records taken ended;
        wrote = subst (λ (rs : List Record). Wrote s.version (goods_at s) rs (section_records (exchange_at s) ++ [])) (sym same)
            (subst (Wrote s.version (goods_at s) (section_records (exchange_at s))) (sym (append-nil (section_records (exchange_at s)))) (section_wrote s.version (exchange_at s)));
      }

  -- the record after the section
  ends_section : (version : Version) (before : List Record) (s : State) (r : Record) (after : State) → s.version ≡ version → s.kind ≡ regret_kind → AllByRecursion IsRecord before
      → take_records no_section before ≡ Ok s.section → may_end s.section ≡ true → next (go_to at_section s) r ≡ Some after → ¬ Fails rule.Closed (go_to at_section s) r
      → option_map (to_line (suc s.line)) (from_head (past_section (go_to at_section s)) Final r (head_value Final r)) ≡ Some after → IsStanding version (before ++ r ∷ []) after
  ends_section version before s r after same kind records taken ended is pass e =
      head_begins (go_to at_section s) (past_section (go_to at_section s)) Final r (suc s.line) after is pass e (λ x t. IsStanding version (before ++ x ∷ []) t)
      (λ value. record {
        same_version = same;
        kind = kind;
        place = (
          refl,
          record {
            tells = tells_more before s [] (line.final value ∷ []) (line.final value) (λ m. refl) refl refl (section_told before s records taken ended);
            room = some_bidder s (section_told before s records taken ended).exchange;
            satisfied = λ b l. absurd (omega arith);
            left = tt;
          },
        );
      })

  in_section : (version : Version) (before : List Record) (s : State) (r : Record) (after : State) (o : Result Section SectionFault) → s.version ≡ version → s.kind ≡ regret_kind → AllByRecursion IsRecord before
      → take_records no_section before ≡ Ok s.section → next (go_to at_section s) r ≡ Some after → ¬ Fails rule.Closed (go_to at_section s) r
      → take_record s.section r ≡ o → option_map (to_line (suc s.line)) (from_section (go_to at_section s) r o) ≡ Some after → ¬ IsTrue (is_refusal o) → IsStanding version (before ++ r ∷ []) after
  in_section version before s r after (Ok section) same kind records taken is pass e f refused = of_same _ after f (IsStanding version (before ++ r ∷ [])) (record {
    same_version = same;
    kind = kind;
    place = taken_more no_section before r ∙ ap (λ o. unless_fault o (λ next. take_record next r)) taken ∙ e;
  })
  in_section version before s r after (Err order) same kind records taken is pass e f refused = by (may_end s.section) refl f
    where
      by : (b : Bool) → may_end s.section ≡ b → option_map (to_line (suc s.line)) (cond b (after_section (past_section (go_to at_section s)) s.kind r) None) ≡ Some after → IsStanding version (before ++ r ∷ []) after
      by true ended h = ends_section version before s r after same kind records taken ended is pass
          (subst (λ (k : Kind). option_map (to_line (suc s.line)) (after_section (past_section (go_to at_section s)) k r) ≡ Some after) kind h)
      by false ended h = absurd (none-some after h)
  in_section version before s r after (Err count) same kind records taken is pass e f refused = absurd (refused refl)
  in_section version before s r after (Err no_good) same kind records taken is pass e f refused = absurd (refused refl)
  in_section version before s r after (Err (maker number)) same kind records taken is pass e f refused = absurd (refused refl)

  -- the final group
  in_final_sets : (version : Version) (before : List Record) (s : State) (found : Stated) (r : Record) (after : State) → s.version ≡ version → s.kind ≡ regret_kind → IsAt before s (at_sets Final found)
      → next (go_to (at_sets Final found) s) r ≡ Some after → ((k : Rule) → ¬ Fails k (go_to (at_sets Final found) s) r) → IsStanding version (before ++ r ∷ []) after
  in_final_sets version before s found r after same kind (opening, sets) is pass =
      sets_go_on before s [] Final found r after refl sets is pass (IsStanding version (before ++ r ∷ []))
      (λ x more. record { same_version = same; kind = kind; place = (opening, more) })
      (λ x full. record { same_version = same; kind = kind; place = (opening, full) })

  in_final_log : (version : Version) (before : List Record) (s : State) (found : Stated) (side : Side) (sides : List Side) (m : Multipliers) (r : Record) (after : State) → s.version ≡ version → s.kind ≡ regret_kind
      → IsAt before s (at_log Final found (side ∷ sides) m) → next (go_to (at_log Final found (side ∷ sides) m) s) r ≡ Some after
      → ((k : Rule) → ¬ Fails k (go_to (at_log Final found (side ∷ sides) m) s) r) → Holds (go_to (at_log Final found (side ∷ sides) m) s) r → IsStanding version (before ++ r ∷ []) after
  in_final_log version before s found side sides m r after same kind (opening, log) is pass holds =
      log_goes_on before s [] Final found side sides m r after log is pass holds.leaf (IsStanding version (before ++ r ∷ []))
      (λ first others new more. record { same_version = same; kind = kind; place = (opening, more) })
      (λ closed. record {
        same_version = same;
        kind = kind;
        place = (closed.log, opening, best_found refutes (before ++ r ∷ []) s [] Final found refl closed, closed.tells);
      })

  -- the rival group
  in_rival : (version : Version) (before : List Record) (s : State) (r : Record) (after : State) → s.version ≡ version → s.kind ≡ regret_kind → IsAt before s (at_group Rival)
      → next (go_to (at_group Rival) s) r ≡ Some after → ¬ Fails rule.Closed (go_to (at_group Rival) s) r → IsStanding version (before ++ r ∷ []) after
  in_rival version before s r after same kind (log, opening, final, tells) is pass =
      head_begins (go_to (at_group Rival) s) (go_to (at_group Rival) s) Rival r (suc s.line) after is pass is (λ x t. IsStanding version (before ++ x ∷ []) t)
      (λ value. record {
        same_version = same;
        kind = kind;
        place = (
          log,
          opening,
          final,
          record {
            tells = tells_more before s (final_text s log) (final_text s log ++ line.rival value ∷ []) (line.rival value) (λ m. refl) refl refl tells;
            room = some_bidder s tells.exchange;
            satisfied = λ b l. absurd (omega arith);
            left = tt;
          },
        );
      })

  in_rival_sets : (version : Version) (before : List Record) (s : State) (found : Stated) (r : Record) (after : State) → s.version ≡ version → s.kind ≡ regret_kind → IsAt before s (at_sets Rival found)
      → next (go_to (at_sets Rival found) s) r ≡ Some after → ((k : Rule) → ¬ Fails k (go_to (at_sets Rival found) s) r) → IsStanding version (before ++ r ∷ []) after
  in_rival_sets version before s found r after same kind (log, opening, final, sets) is pass =
      sets_go_on before s (final_text s log) Rival found r after refl sets is pass (IsStanding version (before ++ r ∷ []))
      (λ x more. record { same_version = same; kind = kind; place = (log, opening, final, more) })
      (λ x full. record { same_version = same; kind = kind; place = (log, opening, final, full) })

  in_rival_log : (version : Version) (before : List Record) (s : State) (found : Stated) (side : Side) (sides : List Side) (m : Multipliers) (r : Record) (after : State) → s.version ≡ version → s.kind ≡ regret_kind
      → IsAt before s (at_log Rival found (side ∷ sides) m) → next (go_to (at_log Rival found (side ∷ sides) m) s) r ≡ Some after
      → ((k : Rule) → ¬ Fails k (go_to (at_log Rival found (side ∷ sides) m) s) r) → Holds (go_to (at_log Rival found (side ∷ sides) m) s) r → IsStanding version (before ++ r ∷ []) after
  in_rival_log version before s found side sides m r after same kind (log, opening, final, rival) is pass holds =
      log_goes_on before s (final_text s log) Rival found side sides m r after rival is pass holds.leaf (IsStanding version (before ++ r ∷ []))
      (λ first others new more. record { same_version = same; kind = kind; place = (log, opening, final, more) })
      (λ closed. record {
        same_version = same;
        kind = kind;
        place = (log, so_far found closed.log, opening, final, best_found refutes (before ++ r ∷ []) s (final_text s log) Rival found refl closed, refl, closed.tells);
      })

  -- the regret
  in_regret : (version : Version) (before : List Record) (s : State) (r : Record) (after : State) → s.version ≡ version → s.kind ≡ regret_kind → IsAt before s at_regret
      → next (go_to at_regret s) r ≡ Some after → ¬ Fails rule.Regret (go_to at_regret s) r → IsStanding version (before ++ r ∷ []) after
  in_regret version before s (line.regret amount) after same kind (log, rival, opening, final, best, value, tells) is pass =
      of_same _ after (subst (λ (k : Kind). Some (to_line (suc s.line) (after_regret (record (go_to at_regret s) { regret = amount }) k)) ≡ Some after) kind is) (IsStanding version (before ++ line.regret amount ∷ []))
      (record {
        same_version = same;
        kind = kind;
        place = (
          record { final = so_far s.final log; rival = rival; regret = amount },
          opening,
          record { final = final; rival = best; amount = covered true amount _ (λ no. pass no) ∙ ap (λ (v : ℤ). v -ℤ s.final.value) (sym value) },
          refl,
          tells_more before s _ _ (line.regret amount) (λ m. refl) refl refl tells,
        );
      })
  in_regret version before s other after same kind at is pass = absurd (none-some after is)

  in_end : (version : Version) (before : List Record) (s : State) (r : Record) (after : State) → s.version ≡ version → s.kind ≡ regret_kind → IsAt before s (at_end regret_end)
      → next (go_to (at_end regret_end) s) r ≡ Some after → IsStanding version (before ++ r ∷ []) after
  in_end version before s (line.end regret_end) after same kind (x, opening, settled, regret, tells) is = of_same _ after is (IsStanding version (before ++ line.end regret_end ∷ [])) (record {
    same_version = same;
    kind = kind;
    place = (x, opening, settled, regret, tells_more before s (regret_records x) (regret_records x ++ line.end regret_end ∷ []) (line.end regret_end) (λ m. refl) refl refl tells);
  })
  in_end version before s other after same kind at is = absurd (none-some after is)

  stands_on : (version : Version) (before : List Record) (s : State) (r : Record) (after : State) (place : Place) → s.version ≡ version → s.kind ≡ regret_kind → AllByRecursion IsRecord before → IsAt before s place
      → next (go_to place s) r ≡ Some after → ((k : Rule) → ¬ Fails k (go_to place s) r) → Holds (go_to place s) r → IsStanding version (before ++ r ∷ []) after
  stands_on version before s r after at_section same kind records at is pass holds =
      in_section version before s r after (take_record s.section r) same kind records at is (pass rule.Closed) refl is (λ e. pass rule.Exchange (refl, e))
  stands_on version before s r after (at_sets Final found) same kind records at is pass holds = in_final_sets version before s found r after same kind at is pass
  stands_on version before s r after (at_log Final found (side ∷ sides) m) same kind records at is pass holds = in_final_log version before s found side sides m r after same kind at is pass holds
  stands_on version before s r after (at_group Rival) same kind records at is pass holds = in_rival version before s r after same kind at is (pass rule.Closed)
  stands_on version before s r after (at_sets Rival found) same kind records at is pass holds = in_rival_sets version before s found r after same kind at is pass
  stands_on version before s r after (at_log Rival found (side ∷ sides) m) same kind records at is pass holds = in_rival_log version before s found side sides m r after same kind at is pass holds
  stands_on version before s r after at_regret same kind records at is pass holds = in_regret version before s r after same kind at is (pass rule.Regret)
  stands_on version before s r after (at_end regret_end) same kind records at is pass holds = in_end version before s r after same kind at is
  stands_on version before s r after done same kind records at is pass holds = absurd (none-some after is)
  stands_on version before s r after other same kind records at is pass holds = absurd at

  -- the state after a record that passes each test
  pub standing_more : (version : Version) (before : List Record) (s : State) (r : Record) (after : State) → AllByRecursion IsRecord before → IsStanding version before s
      → next s r ≡ Some after → ((k : Rule) → ¬ Fails k s r) → Holds s r → IsStanding version (before ++ r ∷ []) after
  standing_more version before s r after records h is pass holds = stands_on version before s r after s.place h.same_version h.kind records h.place is pass holds
