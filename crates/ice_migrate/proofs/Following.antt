-- What one record of version 1 that may stand in its place makes of the state.
use Rattle.std.proofs.Common.{◌≡◌, ◌+◌, ◌∙◌, ℕ, suc, Bool, true, false, cond, List, [], ◌∷◌, length, refl, sym, ap, subst, arith}
use Rattle.std.specs.Prelude.{◌==◌, Option, Some, None, is_none, nat_lt, option_map, Result, Ok, Err}
use Rattle.std.proofs.lemmas.Bool.{and_parts, true≢false, false≢true, eqb-true}
use Rattle.std.proofs.lemmas.Option.{none-some}
use Rattle.std.proofs.lemmas.List.{length-map}
use Rattle.ice_defs.specs.Steps.{Step, leaf, branch, dead, sides_after}
use Rattle.ice_defs.specs.Bound.{Multipliers}
use Rattle.ice_defs.specs.declared.Group.TheVariants.{Assign, Final, Rival, Provisional, Without}
use Rattle.ice_journal.specs.Records.{Record, Change, Version, version_1, Kind, assign_kind, regret_kind, session_kind, exchange_kind, prices_kind, spent_end}
use Rattle.ice_journal.specs.Records as line
use Rattle.ice_journal.specs.Plain.{goods_in, all_zero}
use Rattle.ice_section.specs.Section.{Section, SectionFault, order, count, no_good, maker, Draft, take_record, may_end}
use Rattle.ice_journal_laws.specs.Fields.{step_in, multipliers_after}
use Rattle.ice_journal_laws.specs.State.{Place, at_section, at_group, at_log, at_spent_log, at_end, State, goods_at}
use Rattle.ice_journal_laws.specs.Next.{next, next_at, to_line, go_to, open_after, after_step, after_section, past_section, from_section}
use Rattle.ice_journal_laws.specs.Tests.{is_refusal, IsRefused}
use Rattle.ice_migrate.specs.Reading.{bidders_in}
use Rattle.ice_migrate.proofs.Keeping.{is_past, IsKept, Keeps, keeps, of_after}
use Rattle.ice_migrate.proofs.Growing.{named, Grows, grows}

-- ---- records that stand nowhere behind the exchange of a version 1 journal

-- a record that names a good or a bidder, or changes a leaf
abbrev is_foreign : Record → Bool
is_foreign (line.good name) = true
is_foreign (line.exact name) = true
is_foreign (line.bidder name own) = true
is_foreign (line.near changes) = true
is_foreign other = false

no_step : (v : Version) (goods : ℕ) (m : Multipliers) (r : Record) → v ≡ version_1 → is_foreign r ≡ true → step_in v goods m r ≡ None
no_step v goods m r is foreign = ap (λ (u : Version). step_in u goods m r) is ∙ by r foreign
  where
    by : (r : Record) → is_foreign r ≡ true → step_in version_1 goods m r ≡ None
    by (line.good name) e = refl
    by (line.exact name) e = refl
    by (line.bidder name own) e = refl
    by (line.near changes) e = refl
    by other e = absurd (false≢true e)

good_nowhere : (s : State) (place : Place) (name : List ℕ) → s.version ≡ version_1 → is_past place ≡ true → next_at s place (line.good name) ≡ None
good_nowhere s at_section name is past = absurd (false≢true past)
good_nowhere s (at_group Assign) name is past = refl
good_nowhere s (at_group Final) name is past = refl
good_nowhere s (at_group Rival) name is past = refl
good_nowhere s (at_group Provisional) name is past = refl
good_nowhere s (at_group (Without b)) name is past = refl
good_nowhere s (at_log g found sides m) name is past = ap (option_map _) (no_step s.version (goods_at s) m (line.good name) is refl)
good_nowhere s (at_spent_log open_sides) name is past = ap (option_map _) (no_step s.version (goods_at s) (all_zero (goods_at s)) (line.good name) is refl)
good_nowhere s other name is past = refl

exact_nowhere : (s : State) (place : Place) (name : List ℕ) → s.version ≡ version_1 → is_past place ≡ true → next_at s place (line.exact name) ≡ None
exact_nowhere s at_section name is past = absurd (false≢true past)
exact_nowhere s (at_group Assign) name is past = refl
exact_nowhere s (at_group Final) name is past = refl
exact_nowhere s (at_group Rival) name is past = refl
exact_nowhere s (at_group Provisional) name is past = refl
exact_nowhere s (at_group (Without b)) name is past = refl
exact_nowhere s (at_log g found sides m) name is past = ap (option_map _) (no_step s.version (goods_at s) m (line.exact name) is refl)
exact_nowhere s (at_spent_log open_sides) name is past = ap (option_map _) (no_step s.version (goods_at s) (all_zero (goods_at s)) (line.exact name) is refl)
exact_nowhere s other name is past = refl

bidder_nowhere : (s : State) (place : Place) (name own : List ℕ) → s.version ≡ version_1 → is_past place ≡ true → next_at s place (line.bidder name own) ≡ None
bidder_nowhere s at_section name own is past = absurd (false≢true past)
bidder_nowhere s (at_group Assign) name own is past = refl
bidder_nowhere s (at_group Final) name own is past = refl
bidder_nowhere s (at_group Rival) name own is past = refl
bidder_nowhere s (at_group Provisional) name own is past = refl
bidder_nowhere s (at_group (Without b)) name own is past = refl
bidder_nowhere s (at_log g found sides m) name own is past = ap (option_map _) (no_step s.version (goods_at s) m (line.bidder name own) is refl)
bidder_nowhere s (at_spent_log open_sides) name own is past = ap (option_map _) (no_step s.version (goods_at s) (all_zero (goods_at s)) (line.bidder name own) is refl)
bidder_nowhere s other name own is past = refl

near_nowhere : (s : State) (place : Place) (changes : List Change) → s.version ≡ version_1 → is_past place ≡ true → next_at s place (line.near changes) ≡ None
near_nowhere s at_section changes is past = absurd (false≢true past)
near_nowhere s (at_group Assign) changes is past = refl
near_nowhere s (at_group Final) changes is past = refl
near_nowhere s (at_group Rival) changes is past = refl
near_nowhere s (at_group Provisional) changes is past = refl
near_nowhere s (at_group (Without b)) changes is past = refl
near_nowhere s (at_log g found sides m) changes is past = ap (option_map _) (no_step s.version (goods_at s) m (line.near changes) is refl)
near_nowhere s (at_spent_log open_sides) changes is past = ap (option_map _) (no_step s.version (goods_at s) (all_zero (goods_at s)) (line.near changes) is refl)
near_nowhere s other changes is past = refl

-- a record that may stand there names none of them
names_none : (s after : State) (place : Place) (r : Record) → s.version ≡ version_1 → is_past place ≡ true → next_at s place r ≡ Some after → (goods_in (r ∷ []) ≡ 0) × (bidders_in (r ∷ []) ≡ 0)
names_none s after place (line.good name) is past e = absurd (none-some after (sym (good_nowhere s place name is past) ∙ e))
names_none s after place (line.exact name) is past e = absurd (none-some after (sym (exact_nowhere s place name is past) ∙ e))
names_none s after place (line.bidder name own) is past e = absurd (none-some after (sym (bidder_nowhere s place name own is past) ∙ e))
names_none s after place other is past e = (refl, refl)

-- ---- leaves

-- no changed leaf, and each leaf has one multiplier per good and stands behind the exchange
abbrev pub IsOldStep : ℕ → Bool → Record → Type 0
IsOldStep goods past (line.near changes) = ⊥
IsOldStep goods past (line.step (leaf m)) = (length m ≡ goods) × (past ≡ true)
IsOldStep goods past r = Unit {0}

counts_goods : (goods : ℕ) (m : Multipliers) (t : Bool) (f : Step → State) (after : State) → (length m == goods) ≡ t → option_map f (cond t (Some (leaf m)) None) ≡ Some after → length m ≡ goods
counts_goods goods m true f after is e = eqb-true (length m) goods is
counts_goods goods m false f after is e = absurd (none-some after e)

leaf_of : (v : Version) (goods : ℕ) (before m : Multipliers) (f : Step → State) (after : State) → v ≡ version_1 → option_map f (step_in v goods before (line.step (leaf m))) ≡ Some after → length m ≡ goods
leaf_of v goods before m f after is e =
    counts_goods goods m (length m == goods) f after refl (ap (λ (u : Version). option_map f (step_in u goods before (line.step (leaf m)))) (sym is) ∙ e)

leaf_counts : (s after : State) (place : Place) (m : Multipliers) → s.version ≡ version_1 → is_past place ≡ true → next_at s place (line.step (leaf m)) ≡ Some after → length m ≡ goods_at s
leaf_counts s after at_section m is past e = absurd (false≢true past)
leaf_counts s after (at_group Assign) m is past e = absurd (none-some after e)
leaf_counts s after (at_group Final) m is past e = absurd (none-some after e)
leaf_counts s after (at_group Rival) m is past e = absurd (none-some after e)
leaf_counts s after (at_group Provisional) m is past e = absurd (none-some after e)
leaf_counts s after (at_group (Without b)) m is past e = absurd (none-some after e)
leaf_counts s after (at_log g found sides before) m is past e = leaf_of s.version (goods_at s) before m (λ x. after_step s g found (sides_after sides x) (multipliers_after before x)) after is e
leaf_counts s after (at_spent_log open_sides) m is past e =
    leaf_of s.version (goods_at s) (all_zero (goods_at s)) m (λ x. go_to (cond (open_after x open_sides == 0) (at_end spent_end) (at_spent_log (open_after x open_sides))) s) after is e
leaf_counts s after other m is past e = absurd (none-some after e)

pub goods_are : (s : State) → goods_at s ≡ length s.section.goods
goods_are s = length-map s.section.goods (λ good. good.exact)

old_step : (s after : State) (place : Place) (r : Record) → s.version ≡ version_1 → is_past place ≡ true → next_at s place r ≡ Some after → IsOldStep (length s.section.goods) (is_past place) r
old_step s after place (line.near changes) is past e = absurd (none-some after (sym (near_nowhere s place changes is past) ∙ e))
old_step s after place (line.step (leaf m)) is past e = (leaf_counts s after place m is past e ∙ goods_are s, past)
old_step s after place (line.step (branch b n)) is past e = tt
old_step s after place (line.step (dead b)) is past e = tt
old_step s after place other is past e = tt

-- ---- what comes of a record

pub record Follows (s : State) (r : Record) (after : State) : Type 0 where
  pub version : after.version ≡ version_1
  pub whole : is_past after.place ≡ true → after.section.draft ≡ None
  pub past : is_past s.place ≡ true → is_past after.place ≡ true
  pub goods : length after.section.goods ≡ length s.section.goods + goods_in (r ∷ [])
  pub bidders : named after.section ≡ named s.section + bidders_in (r ∷ [])
  pub none : is_past s.place ≡ true → goods_in (r ∷ []) ≡ 0
  pub old : IsOldStep (length s.section.goods) (is_past s.place) r
  pub line_is : after.line ≡ suc s.line

abbrev FollowsIf : State → Record → Option State → Type 0
FollowsIf s r None = Unit {0}
FollowsIf s r (Some after) = Follows s r after

-- the exchange stays the same, and the record names nothing
stays : (s t : State) (r : Record) → s.version ≡ version_1 → (is_past t.place ≡ true → s.section.draft ≡ None) → IsKept s t → (goods_in (r ∷ []) ≡ 0) × (bidders_in (r ∷ []) ≡ 0)
    → IsOldStep (length s.section.goods) (is_past s.place) r → Follows s r (to_line (suc s.line) t)
stays s t r is whole kept none old = record {
  version = kept.1 ∙ is;
  whole = λ past. ap (λ (x : Section). x.draft) kept.0 ∙ whole past;
  past = λ past. kept.2;
  goods = omega (arith, ap (λ (x : Section). length x.goods) kept.0, none.0);
  bidders = omega (arith, ap named kept.0, none.1);
  none = λ past. none.0;
  old = old;
  line_is = refl;
}

module _ (s after : State) (r : Record) (is : s.version ≡ version_1) where
  behind : is_past s.place ≡ true → s.section.draft ≡ None → next s r ≡ Some after → Follows s r after
  behind past whole e = by (next_at s s.place r) refl (keeps s s.place r past past) e
    where
      by : (o : Option State) → next_at s s.place r ≡ o → Keeps s o → option_map (to_line (suc s.line)) o ≡ Some after → Follows s r after
      by None at kept f = absurd (none-some after f)
      by (Some t) at kept f =
          subst (FollowsIf s r) f (stays s t r is (λ p. whole) kept (names_none s t s.place r is past at) (old_step s t s.place r is past at))

-- ---- in the section of the exchange

-- a record of an exchange, or of a log
abbrev is_inner : Record → Bool
is_inner (line.good name) = true
is_inner (line.exact name) = true
is_inner (line.bidder name own) = true
is_inner (line.near changes) = true
is_inner (line.step x) = true
is_inner other = false

-- it opens nothing behind the section
opens_none : (t : State) (kind : Kind) (r : Record) → is_inner r ≡ true → after_section t kind r ≡ None
opens_none t assign_kind r inner = by r inner
  where
    by : (r : Record) → is_inner r ≡ true → after_section t assign_kind r ≡ None
    by (line.good name) e = refl
    by (line.exact name) e = refl
    by (line.bidder name own) e = refl
    by (line.near changes) e = refl
    by (line.step x) e = refl
    by other e = absurd (false≢true e)
opens_none t regret_kind r inner = by r inner
  where
    by : (r : Record) → is_inner r ≡ true → after_section t regret_kind r ≡ None
    by (line.good name) e = refl
    by (line.exact name) e = refl
    by (line.bidder name own) e = refl
    by (line.near changes) e = refl
    by (line.step x) e = refl
    by other e = absurd (false≢true e)
opens_none t session_kind r inner = by r inner
  where
    by : (r : Record) → is_inner r ≡ true → after_section t session_kind r ≡ None
    by (line.good name) e = refl
    by (line.exact name) e = refl
    by (line.bidder name own) e = refl
    by (line.near changes) e = refl
    by (line.step x) e = refl
    by other e = absurd (false≢true e)
opens_none t exchange_kind r inner = refl
opens_none t prices_kind r inner = refl

-- so what opens something names nothing, and is no step
opening_names : (r : Record) → is_inner r ≡ false → (goods_in (r ∷ []) ≡ 0) × (bidders_in (r ∷ []) ≡ 0)
opening_names (line.good name) e = absurd (true≢false e)
opening_names (line.exact name) e = absurd (true≢false e)
opening_names (line.bidder name own) e = absurd (true≢false e)
opening_names other e = (refl, refl)

opening_old : (goods : ℕ) (past : Bool) (r : Record) → is_inner r ≡ false → IsOldStep goods past r
opening_old goods past (line.near changes) e = absurd (true≢false e)
opening_old goods past (line.step x) e = absurd (true≢false e)
opening_old goods past other e = tt

-- what a section takes is no step
taken_old : (s after : Section) (goods : ℕ) (past : Bool) (r : Record) → take_record s r ≡ Ok after → IsOldStep goods past r
taken_old s after goods past (line.near changes) e = absurd (apart e)
  where
    apart : Err order ≡ Ok after → ⊥
    apart f = cc
taken_old s after goods past (line.step x) e = absurd (apart e)
  where
    apart : Err order ≡ Ok after → ⊥
    apart f = cc
taken_old s after goods past other e = tt

section_place : (p : Place) → is_past p ≡ false → p ≡ at_section
section_place at_section e = refl
section_place other e = absurd (true≢false e)

none_drafted : (o : Option Draft) → is_none o ≡ true → o ≡ None
none_drafted None e = refl
none_drafted (Some draft) e = absurd (false≢true e)

module _ (s after : State) (r : Record) (is : s.version ≡ version_1) (inside : is_past s.place ≡ false) (fine : ¬ IsRefused s r) where
  taken : (x : Section) → take_record s.section r ≡ Ok x → Follows s r (to_line (suc s.line) (record s { section = x }))
  taken x e =
      let grown : Grows s.section (goods_in (r ∷ [])) (bidders_in (r ∷ [])) (Ok x) = subst (Grows s.section (goods_in (r ∷ [])) (bidders_in (r ∷ []))) e (grows s.section r) in
      record {
        version = is;
        whole = λ past. absurd (false≢true (sym inside ∙ past));
        past = λ past. past;
        goods = grown.0;
        bidders = grown.1;
        none = λ past. absurd (false≢true (sym inside ∙ past));
        old = taken_old s.section x (length s.section.goods) (is_past s.place) r e;
        line_is = refl;
      }

  opens : may_end s.section ≡ true → option_map (to_line (suc s.line)) (after_section (past_section s) s.kind r) ≡ Some after → Follows s r after
  opens ended e = by (after_section (past_section s) s.kind r) refl (of_after (past_section s) s.kind r) e
    where
      by : (o : Option State) → after_section (past_section s) s.kind r ≡ o → Keeps (past_section s) o → option_map (to_line (suc s.line)) o ≡ Some after → Follows s r after
      by None at kept f = absurd (none-some after f)
      by (Some t) at kept f = inner (is_inner r) refl
        where
          inner : (b : Bool) → is_inner r ≡ b → Follows s r after
          inner true i = absurd (none-some t (sym (opens_none (past_section s) s.kind r i) ∙ at))
          inner false i =
              subst (FollowsIf s r) f
              (stays s t r is (λ past. none_drafted s.section.draft (and_parts (nat_lt 0 (length s.section.bidders)) (is_none s.section.draft) ended).1) kept (opening_names r i)
              (opening_old (length s.section.goods) (is_past s.place) r i))

  within : next s r ≡ Some after → Follows s r after
  within e =
      let place : s.place ≡ at_section = section_place s.place inside in
      by (take_record s.section r) refl (sym (ap (λ (p : Place). option_map (to_line (suc s.line)) (next_at s p r)) place) ∙ e)
    where
      ended : (b : Bool) → may_end s.section ≡ b → option_map (to_line (suc s.line)) (cond b (after_section (past_section s) s.kind r) None) ≡ Some after → Follows s r after
      ended true m f = opens m f
      ended false m f = absurd (none-some after f)

      by : (o : Result Section SectionFault) → take_record s.section r ≡ o → option_map (to_line (suc s.line)) (from_section s r o) ≡ Some after → Follows s r after
      by (Ok x) t f = subst (FollowsIf s r) f (taken x t)
      by (Err order) t f = ended (may_end s.section) refl f
      by (Err count) t f = absurd (fine (section_place s.place inside, ap is_refusal t))
      by (Err no_good) t f = absurd (fine (section_place s.place inside, ap is_refusal t))
      by (Err (maker number)) t f = absurd (fine (section_place s.place inside, ap is_refusal t))

pub follows : (s after : State) (r : Record) → s.version ≡ version_1 → (is_past s.place ≡ true → s.section.draft ≡ None) → ¬ IsRefused s r → next s r ≡ Some after → Follows s r after
follows s after r is whole fine e = by (is_past s.place) refl
  where
    by : (b : Bool) → is_past s.place ≡ b → Follows s r after
    by true past = behind s after r is past (whole past) e
    by false inside = within s after r is inside fine e
