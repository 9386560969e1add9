-- What the records of an assign journal say so far, where each test of them passes.
use Rattle.std.proofs.Common.{◌≡◌, ◌<◌, ◌≤◌, ℕ, suc, Bool, true, false, cond, eqb, List, [], ◌∷◌, ◌++◌, length, map, pos, refl, sym, ◌∙◌, ap, subst, arith, ◌⊎◌, inl, inr, length-append}
use Rattle.std.specs.Prelude.{Some, None, option_map, Result, Ok, Err, IsTrue, IsSomeAnd}
use Rattle.std.proofs.lemmas.Bool.{and_parts, ltb-true, cases_lt, cases_eq, eqb-true, eqb-false}
use Rattle.std.proofs.lemmas.Option.{none-some}
use Rattle.std.proofs.lemmas.List.{length-map, map-append, append_assoc, get_or_append_left, get_or_at}
use Rattle.ice_defs.specs.declared.SatRule.{SatRule}
use Rattle.ice_defs.specs.declared.SatRule.TheVariants.{Parent, Few, Many}
use Rattle.ice_defs.specs.Tree.{Tree}
use Rattle.ice_defs.specs.Set.{NodeSet, IsSatisfied}
use Rattle.ice_defs.specs.Trade.{Assignment, tree_of, set_of, IsFeasible, is_exact, IsCovered, total_units}
use Rattle.ice_defs.specs.declared.Group.{Group}
use Rattle.ice_defs.specs.declared.Group.TheVariants.{Assign}
use Rattle.ice_defs.specs.Bounds.{Bounds}
use Rattle.ice_defs.specs.Exchange.{Bidder, opening_bounds}
use Rattle.ice_defs.specs.SetFault.{set_fault}
use Rattle.ice_journal.specs.Records.{Record, assign_kind, assign_end}
use Rattle.ice_journal.specs.Records as line
use Rattle.ice_section.specs.Section.{Section, SectionFault, order, count, no_good, maker, no_section, take_record, may_end, exchange_in}
use Rattle.ice_section.specs.Taking.{unless_fault, take_records}
use Rattle.ice_journal_laws.specs.declared.rule.Rule.{Rule}
use Rattle.ice_journal_laws.specs.declared.rule.Rule.TheVariants as rule
use Rattle.ice_journal_laws.specs.State.{Stated, Place, at_section, at_sets, at_end, done, State, trees_at, exact_at, goods_at}
use Rattle.ice_journal_laws.specs.Next.{go_to, next, from_section, after_section, past_section, with_set, bidder_count, after_sets, to_line}
use Rattle.ice_journal_laws.specs.Tests.{Fails, is_refusal, Complete}
use Rattle.ice_journal_laws.proofs.Faultless.{satisfied_without_fault, no_fault, covered}

pub taken_more : (s : Section) (records : List Record) (r : Record) → take_records s (records ++ r ∷ []) ≡ unless_fault (take_records s records) (λ next. take_record next r)
taken_more s [] r = last (take_record s r)
  where
    last : (o : Result Section SectionFault) → unless_fault o (λ next. Ok next) ≡ o
    last (Ok x) = refl
    last (Err x) = refl
taken_more s (first ∷ rest) r = by (take_record s first) (λ x. taken_more x rest r)
  where
    by : (o : Result Section SectionFault) → ((x : Section) → take_records x (rest ++ r ∷ []) ≡ unless_fault (take_records x rest) (λ next. take_record next r))
        → unless_fault o (λ next. take_records next (rest ++ r ∷ [])) ≡ unless_fault (unless_fault o (λ next. take_records next rest)) (λ next. take_record next r)
    by (Ok x) each = each x
    by (Err x) each = refl

-- these records described the exchange, and it is complete
pub record IsDescribed (s : Section) (bounds : List Bounds) (records : List Record) : Type 0 where
  pub taken : take_records no_section records ≡ Ok s
  pub ended : IsTrue (may_end s)
  pub opening : bounds ≡ opening_bounds (exchange_in s)

abbrev pub AreSatisfied : List Tree → Assignment → Type 0
AreSatisfied ts sets = (b : ℕ) → b < length sets → IsSatisfied (tree_of ts b) (set_of sets b)

-- what the records after the head say, where this place is next
abbrev pub IsAt : List Record → State → Place → Type 0
IsAt before s at_section = take_records no_section before ≡ Ok s.section
IsAt before s (at_sets Assign found) =
    (section : List Record) × IsDescribed s.section s.bounds section × (before ≡ section ++ line.assign ∷ map line.set found.sets)
    × (length found.sets < bidder_count s) × AreSatisfied (trees_at s) found.sets
IsAt before s (at_end assign_end) =
    (section : List Record) × IsDescribed s.section s.bounds section × (before ≡ section ++ line.assign ∷ map line.set s.final.sets) × IsFeasible (trees_at s) (exact_at s) s.final.sets
IsAt before s done =
    (section : List Record) × IsDescribed s.section s.bounds section × (before ≡ section ++ line.assign ∷ map line.set s.final.sets ++ line.end assign_end ∷ []) × IsFeasible (trees_at s) (exact_at s) s.final.sets
IsAt before s place = ⊥

pub record IsStanding (before : List Record) (s : State) : Type 0 where
  pub kind : s.kind ≡ assign_kind
  pub place : IsAt before s s.place

-- ---- one more record

is_after : (records : List Record) (mine after : State) → Some mine ≡ Some after → IsStanding records mine → IsStanding records after
is_after records mine after e h = subst (IsStanding records) (same e) h
  where
    same : Some mine ≡ Some after → mine ≡ after
    same f = cc

-- the record after the section
ends_section : (before : List Record) (s : State) (r : Record) (after : State) → s.kind ≡ assign_kind → take_records no_section before ≡ Ok s.section → may_end s.section ≡ true
    → option_map (to_line (suc s.line)) (after_section (past_section (go_to at_section s)) assign_kind r) ≡ Some after → IsStanding (before ++ r ∷ []) after
ends_section before s line.assign after kind taken ended is =
    is_after (before ++ line.assign ∷ []) _ after is (record {
      kind = kind;
      place = (before, record { taken = taken; ended = ended; opening = refl }, refl, some_bidder, λ b l. absurd (omega arith));
    })
  where
    some_bidder : 0 < bidder_count s
    some_bidder = omega (arith, length-map s.section.bidders (λ (b : Bidder). b.tree), ltb-true 0 (length s.section.bidders) (and_parts _ _ ended).0)
ends_section before s other after kind taken ended is = absurd (none-some after is)

in_section : (before : List Record) (s : State) (r : Record) (after : State) (o : Result Section SectionFault) → s.kind ≡ assign_kind → take_records no_section before ≡ Ok s.section
    → take_record s.section r ≡ o → option_map (to_line (suc s.line)) (from_section (go_to at_section s) r o) ≡ Some after → ¬ IsTrue (is_refusal o) → IsStanding (before ++ r ∷ []) after
in_section before s r after (Ok section) kind taken e is pass =
    is_after (before ++ r ∷ []) _ after is (record {
      kind = kind;
      place = taken_more no_section before r ∙ ap (λ o. unless_fault o (λ next. take_record next r)) taken ∙ e;
    })
in_section before s r after (Err order) kind taken e is pass = by (may_end s.section) refl is
  where
    by : (b : Bool) → may_end s.section ≡ b → option_map (to_line (suc s.line)) (cond b (after_section (past_section (go_to at_section s)) s.kind r) None) ≡ Some after → IsStanding (before ++ r ∷ []) after
    by true ended h = ends_section before s r after kind taken ended (subst (λ k. option_map (to_line (suc s.line)) (after_section (past_section (go_to at_section s)) k r) ≡ Some after) kind h)
    by false ended h = absurd (none-some after h)
in_section before s r after (Err count) kind taken e is pass = absurd (pass refl)
in_section before s r after (Err no_good) kind taken e is pass = absurd (pass refl)
in_section before s r after (Err (maker number)) kind taken e is pass = absurd (pass refl)

-- one more set
set_added : (before section : List Record) (sets : Assignment) (x : NodeSet) → before ≡ section ++ line.assign ∷ map line.set sets → before ++ line.set x ∷ [] ≡ section ++ line.assign ∷ map line.set (sets ++ x ∷ [])
set_added before section sets x e =
    ap (λ rs. rs ++ line.set x ∷ []) e ∙ append_assoc section (line.assign ∷ map line.set sets) (line.set x ∷ [])
    ∙ ap (λ rs. section ++ line.assign ∷ rs) (sym (map-append line.set sets (x ∷ [])))

pub set_passes : (s : State) (g : Group) (found : Stated) (x : NodeSet) → length found.sets < bidder_count s → AreSatisfied (trees_at s) found.sets
    → ((k : Rule) → ¬ Fails k (go_to (at_sets g found) s) (line.set x)) → AreSatisfied (trees_at s) (found.sets ++ x ∷ [])
set_passes s g found x room each pass b l = by (cases_lt b (length found.sets))
  where
    same_count : length x ≡ length (tree_of (trees_at s) (length found.sets))
    same_count = decide (cases_eq (length x) (length (tree_of (trees_at s) (length found.sets))))
      where
        decide : (length x ≡ length (tree_of (trees_at s) (length found.sets))) ⊎ (length x ≡ length (tree_of (trees_at s) (length found.sets)) → ⊥) → length x ≡ length (tree_of (trees_at s) (length found.sets))
        decide (inl e) = e
        decide (inr ne) = absurd (pass rule.Count (inl ne))

    faultless : (k : SatRule) → ¬ (set_fault (tree_of (trees_at s) (length found.sets)) x ≡ Some k)
    faultless Parent = pass rule.Parent
    faultless Few = pass rule.Few
    faultless Many = pass rule.Many

    satisfied : IsSatisfied (tree_of (trees_at s) (length found.sets)) x
    satisfied = satisfied_without_fault (tree_of (trees_at s) (length found.sets)) x same_count (no_fault (tree_of (trees_at s) (length found.sets)) x faultless)

    by : (b < length found.sets) ⊎ (length found.sets ≤ b) → IsSatisfied (tree_of (trees_at s) b) (set_of (found.sets ++ x ∷ []) b)
    by (inl h) = subst (IsSatisfied (tree_of (trees_at s) b)) (sym (get_or_append_left found.sets (x ∷ []) [] b h)) (each b h)
    by (inr h) =
        let here : length found.sets ≡ b = omega (arith, length-append found.sets (x ∷ [])) in
        subst (IsSatisfied (tree_of (trees_at s) b)) (sym (get_or_at found.sets x [] [] b here)) (subst (λ n. IsSatisfied (tree_of (trees_at s) n) x) here satisfied)

in_sets : (before : List Record) (s : State) (found : Stated) (r : Record) (after : State) → s.kind ≡ assign_kind → IsAt before s (at_sets Assign found)
    → next (go_to (at_sets Assign found) s) r ≡ Some after → ((k : Rule) → ¬ Fails k (go_to (at_sets Assign found) s) r) → IsStanding (before ++ r ∷ []) after
in_sets before s found (line.set x) after kind (section, described, said, room, each) is pass = by (eqb (suc (length found.sets)) (bidder_count s)) refl is
  where
    sets : AreSatisfied (trees_at s) (found.sets ++ x ∷ [])
    sets = set_passes s Assign found x room each pass

    by : (b : Bool) → eqb (suc (length found.sets)) (bidder_count s) ≡ b
        → Some (to_line (suc s.line) (cond b (after_sets (go_to (at_sets Assign found) s) Assign (with_set found x)) (go_to (at_sets Assign (with_set found x)) s))) ≡ Some after
        → IsStanding (before ++ line.set x ∷ []) after
    by true last h = is_after (before ++ line.set x ∷ []) _ after h (record {
      kind = kind;
      place = (
        section,
        described,
        set_added before section found.sets x said,
        record {
          same_length = length-append found.sets (x ∷ []) ∙ omega (arith, eqb-true (suc (length found.sets)) (bidder_count s) last);
          satisfied = λ b l. sets b (omega (arith, length-append found.sets (x ∷ []), eqb-true (suc (length found.sets)) (bidder_count s) last));
          balanced = λ g l. covered _ _ _ (λ no. subst (λ b. ¬ IsSomeAnd (cond b (Some (record { group = Assign; stated = with_set found x })) None) (λ (c : Complete). (g : ℕ) × (g < goods_at s) × ¬ IsCovered (is_exact (exact_at s) g) (total_units (trees_at s) c.stated.sets g) (pos 0))) last (pass rule.Excess) (g, l, no));
        },
      );
    })
    by false more h = is_after (before ++ line.set x ∷ []) _ after h (record {
      kind = kind;
      place = (
        section,
        described,
        set_added before section found.sets x said,
        omega (arith, length-append found.sets (x ∷ []), eqb-false (suc (length found.sets)) (bidder_count s) more),
        sets,
      );
    })
in_sets before s found other after kind at is pass = absurd (none-some after is)

in_end : (before : List Record) (s : State) (r : Record) (after : State) → s.kind ≡ assign_kind → IsAt before s (at_end assign_end) → next (go_to (at_end assign_end) s) r ≡ Some after → IsStanding (before ++ r ∷ []) after
in_end before s (line.end assign_end) after kind (section, described, said, feasible) is = is_after (before ++ line.end assign_end ∷ []) _ after is (record {
  kind = kind;
  place = (section, described, ap (λ rs. rs ++ line.end assign_end ∷ []) said, feasible);
})
in_end before s other after kind at is = absurd (none-some after is)

stands_on : (before : List Record) (s : State) (r : Record) (after : State) (place : Place) → s.kind ≡ assign_kind → IsAt before s place
    → next (go_to place s) r ≡ Some after → ((x : Rule) → ¬ Fails x (go_to place s) r) → IsStanding (before ++ r ∷ []) after
stands_on before s r after at_section kind at is pass = in_section before s r after (take_record s.section r) kind at refl is (λ e. pass rule.Exchange (refl, e))
stands_on before s r after (at_sets Assign found) kind at is pass = in_sets before s found r after kind at is pass
stands_on before s r after (at_end assign_end) kind at is pass = in_end before s r after kind at is
stands_on before s r after done kind at is pass = absurd (none-some after is)
stands_on before s r after other kind at is pass = absurd at

-- the state after a record that passes each test
pub standing_more : (before : List Record) (s : State) (r : Record) (after : State) → IsStanding before s → next s r ≡ Some after → ((x : Rule) → ¬ Fails x s r) → IsStanding (before ++ r ∷ []) after
standing_more before s r after h is pass = stands_on before s r after s.place h.kind h.place is pass
