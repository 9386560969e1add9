-- What a section keeps stays so.
use Rattle.std.proofs.Common.{ℕ, ◌≤◌, ◌≡◌, ◌≢◌, Bool, true, false, ◌||◌, not, eqb, ltb, List, [], length, Option, Some, None, Result, Ok, Err, refl, ap, sym, ◌∙◌, subst}
use Rattle.std.specs.Prelude.{is_some, OnOk, OnErr}
use Rattle.std.proofs.lemmas.Bool.{or_from, le-ltb, eq-eqb, ne_eqb, cond-false}
use Rattle.ice_defs.specs.Bounds.{no_bounds}
use Rattle.ice_defs.specs.Making.{good_refusal}
use Rattle.ice_defs.specs.Exchange.{Settings, AreSettings, Good, Exchange}
use Rattle.ice_trade.specs.Parts.{no_exchange, with_good}
use Rattle.ice_journal.specs.Records as line
use Rattle.ice_journal.specs.Ranges.{IsName, IsRecord}
use Rattle.ice_section.specs.Section.{unless_refused, good_record}
use Rattle.ice_section.specs.Kept.{Drafting, section_from, IsHeld}
use Rattle.ice_section.proofs.Describing.{take_as_good}
use Rattle.ice_section.proofs.ReachedSections.{reached_more}

pub held_settings : (made : Option Exchange) (drafting : Option Drafting) (x : Settings) → IsHeld made drafting → is_some made ≡ false → AreSettings x → IsHeld (Some (no_exchange x)) drafting
held_settings (Some ex) drafting x h none are = absurd cc
held_settings None drafting x h none are = record {
  reached = reached_more (section_from None drafting) (section_from (Some (no_exchange x)) drafting) (line.settings x) h.reached are refl;
  counted = h.counted;
}

good_is_record : (name : List ℕ) (exact : Bool) → IsName name → IsRecord (good_record (record { name = name; exact = exact }))
good_is_record name true is = is
good_is_record name false is = is

held_good_made : (ex : Exchange) (drafting : Option Drafting) (good : Good) → IsHeld (Some ex) drafting → length ex.bidders ≤ 0 → is_some drafting ≡ false → IsName good.name
    → good_refusal ex.goods ex.bidders good.name ≡ None → IsHeld (Some (with_good ex good)) drafting
held_good_made ex (Some d) good h none free named unrefused = absurd cc
held_good_made ex None good h none free named unrefused = record {
  reached = reached_more (section_from (Some ex) None) (section_from (Some (with_good ex good)) None) (good_record good) h.reached (good_is_record good.name good.exact named) (
      take_as_good (section_from (Some ex) None) good.name good.exact
      ∙ cond-false (ltb 0 (length ex.bidders) || false) _ _ (or_from (ltb 0 (length ex.bidders)) false (le-ltb 0 (length ex.bidders) none) refl)
      ∙ ap (λ r. unless_refused r (section_from (Some (with_good ex good)) None)) unrefused);
  counted = tt;
}

pub held_good : {X E : Type 0} (r : Result X E) (ex after : Exchange) (drafting : Option Drafting) (good : Good) → IsHeld (Some ex) drafting → length ex.bidders ≤ 0 → is_some drafting ≡ false → IsName good.name
    → OnOk r ((good_refusal ex.goods ex.bidders good.name ≡ None) × (after ≡ with_good ex good)) → OnErr r (after ≡ ex) → IsHeld (Some after) drafting
held_good (Ok x) ex after drafting good h none free named made same = subst (λ e. IsHeld (Some e) drafting) (sym made.1) (held_good_made ex drafting good h none free named made.0)
held_good (Err fault) ex after drafting good h none free named made same = subst (λ e. IsHeld (Some e) drafting) (sym same) h

abbrev pub begun_drafting : ℕ → List ℕ → List ℕ → Drafting
begun_drafting goods name own = record { goods = goods; draft = record { bidder = record { name = name; own = own; tree = []; bounds = no_bounds }; opened = [] } }

pub held_bidder : (made : Option Exchange) (drafting : Option Drafting) (name own : List ℕ) → IsHeld made drafting → length (section_from made drafting).goods ≢ 0 → is_some drafting ≡ false
    → length own ≡ length (section_from made drafting).goods → IsRecord (line.bidder name own) → IsHeld made (Some (begun_drafting (length (section_from made drafting).goods) name own))
held_bidder made (Some d) name own h some free counted is = absurd cc
held_bidder None None name own h some free counted is = absurd (some refl)
held_bidder (Some ex) None name own h some free counted is = record {
  reached = reached_more (section_from (Some ex) None) (section_from (Some ex) (Some (begun_drafting (length ex.goods) name own))) (line.bidder name own) h.reached is (
      cond-false (eqb (length ex.goods) 0) _ _ (ne_eqb (length ex.goods) 0 some)
      ∙ cond-false (not (eqb (length own) (length ex.goods))) _ _ (ap not (eq-eqb _ _ counted)));
  counted = refl;
}
