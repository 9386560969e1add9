-- Settings stand first in a section.
use Rattle.std.proofs.Common.{◌≡◌, Bool, true, false, cond, not, eqb, ltb, List, [], ◌∷◌, length, ℤ, ℕ, suc, refl, sym, ◌∙◌, ap, subst}
use Rattle.std.specs.Prelude.{◌||◌, Option, Some, None, is_some, is_none, Result, Ok, Err}
use Rattle.std.proofs.lemmas.Bool.{false≢true}
use Rattle.ice_defs.specs.declared.NodeKind.{NodeKind}
use Rattle.ice_defs.specs.declared.NodeKind.TheVariants.{Choose, Buy, Sell}
use Rattle.ice_defs.specs.Exchange.{Settings, Bidder}
use Rattle.ice_defs.specs.Making.{node_refusal}
use Rattle.ice_journal.specs.Records.{Record}
use Rattle.ice_journal.specs.Records as line
use Rattle.ice_section.specs.Section.{Section, SectionFault, OpenNode, Draft, no_good, no_section, take_record, take_node_at, unless_refused, unless_unmade, go_on, with_node, open_after, names_no_good}
use Rattle.ice_check_records.specs.Stating.{HasSettings}

-- what a section answers to a record has settings
abbrev Has : Result Section SectionFault → Type 0
Has (Ok after) = is_some after.settings ≡ true
Has (Err fault) = Unit {0}

refused_has : (o : Option ℕ) (s : Section) → is_some s.settings ≡ true → Has (unless_refused o s)
refused_has (Some number) s e = tt
refused_has None s e = e

cond_has : (b : Bool) (one other : Result Section SectionFault) → Has one → Has other → Has (cond b one other)
cond_has true one other h k = h
cond_has false one other h k = k

goes_on_has : (s : Section) (b : Bidder) (o : Result (List OpenNode) SectionFault) → is_some s.settings ≡ true → Has (go_on s b o)
goes_on_has s b (Err fault) e = tt
goes_on_has s b (Ok []) e = refused_has _ _ e
goes_on_has s b (Ok (node ∷ outer)) e = e

unmade_has : (o : Option ℕ) (found : Result Section SectionFault) → Has found → Has (unless_unmade o found)
unmade_has (Some number) found h = tt
unmade_has None found h = h

node_has : (s : Section) (o : Option Draft) (kind : NodeKind) (children : ℕ) (lo hi : ℤ) → is_some s.settings ≡ true → Has (take_node_at s o kind children lo hi)
node_has s None kind children lo hi e = tt
node_has s (Some d) kind children lo hi e = cond_has (names_no_good kind (length s.goods)) (Err no_good) (unless_unmade refusal grown) tt (unmade_has refusal grown (goes_on_has s more outer e))
  where
    refusal : Option ℕ
    refusal = node_refusal (length s.goods) (length d.bidder.tree) (suc (length d.opened)) kind lo hi

    more : Bidder
    more = with_node d.bidder d.opened kind lo hi

    outer : Result (List OpenNode) SectionFault
    outer = open_after kind (length d.bidder.tree) children d.opened

    grown : Result Section SectionFault
    grown = go_on s more outer

-- where a section has settings, it keeps them
keeps : (s : Section) (r : Record) → is_some s.settings ≡ true → Has (take_record s r)
keeps s (line.settings settings) e = cond_has (is_none s.settings) _ _ refl tt
keeps s (line.good name) e = cond_has (is_none s.settings || ltb 0 (length s.bidders) || is_some s.draft) _ _ tt (refused_has _ _ e)
keeps s (line.exact name) e = cond_has (is_none s.settings || ltb 0 (length s.bidders) || is_some s.draft) _ _ tt (refused_has _ _ e)
keeps s (line.bidder name own) e = cond_has (eqb (length s.goods) 0) _ _ tt (cond_has (is_some s.draft) _ _ tt (cond_has (not (eqb (length own) (length s.goods))) _ _ tt e))
keeps s (line.choose least most children lo hi) e = node_has s s.draft (Choose least most) children lo hi e
keeps s (line.buy good units lo hi) e = node_has s s.draft (Buy good units) 0 lo hi e
keeps s (line.sell good units lo hi) e = node_has s s.draft (Sell good units) 0 lo hi e
keeps s other e = tt

-- the first record that it takes is that of the settings
begins : (r : Record) → Has (take_record no_section r)
begins (line.settings settings) = refl
begins (line.good name) = tt
begins (line.exact name) = tt
begins (line.bidder name own) = tt
begins (line.choose least most children lo hi) = tt
begins (line.buy good units lo hi) = tt
begins (line.sell good units lo hi) = tt
begins other = tt

has_taken : (s : Section) (r : Record) (o : Option Settings) → s.settings ≡ o → HasSettings s → Has (take_record s r)
has_taken s r None e h = subst (λ (x : Section). Has (take_record x r)) (sym (h e)) (begins r)
has_taken s r (Some x) e h = keeps s r (ap is_some e)

pub settings_kept : (s after : Section) (r : Record) → HasSettings s → take_record s r ≡ Ok after → HasSettings after
settings_kept s after r h taken none = absurd (false≢true (sym (ap is_some none) ∙ subst Has taken (has_taken s r s.settings refl h)))
