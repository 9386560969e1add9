-- What a section takes names goods and bidders, and it counts those.
use Rattle.std.proofs.Common.{◌≡◌, ◌+◌, ℕ, suc, Bool, true, false, cond, List, [], ◌∷◌, ◌++◌, length, ℤ, refl, ap, arith, length-append}
use Rattle.std.specs.Prelude.{◌==◌, ◌||◌, not, nat_lt, Option, Some, None, is_none, is_some, Result, Ok, Err}
use Rattle.ice_defs.specs.declared.NodeKind.{NodeKind}
use Rattle.ice_defs.specs.declared.NodeKind.TheVariants.{Choose, Buy, Sell}
use Rattle.ice_defs.specs.Bounds.{no_bounds}
use Rattle.ice_defs.specs.Making.{node_refusal, good_refusal, bidder_refusal}
use Rattle.ice_defs.specs.Exchange.{Settings, Good, Bidder}
use Rattle.ice_journal.specs.Records.{Record}
use Rattle.ice_journal.specs.Records as line
use Rattle.ice_journal.specs.Plain.{goods_in}
use Rattle.ice_section.specs.Section.{Section, SectionFault, order, count, no_good, OpenNode, Draft, take_settings, take_good, take_bidder, take_node_at, take_record, unless_refused, unless_unmade, go_on, names_no_good, with_node, open_after}
use Rattle.ice_migrate.specs.Reading.{bidders_in}

abbrev pub drafts : Option Draft → ℕ
drafts None = 0
drafts (Some draft) = 1

-- the bidders that are named, also the one whose tree is not complete
abbrev pub named : Section → ℕ
named s = length s.bidders + drafts s.draft

abbrev IsGrown : Section → ℕ → ℕ → Section → Type 0
IsGrown s goods bidders after = (length after.goods ≡ length s.goods + goods) × (named after ≡ named s + bidders)

abbrev pub Grows : Section → ℕ → ℕ → Result Section SectionFault → Type 0
Grows s goods bidders (Err fault) = Unit {0}
Grows s goods bidders (Ok after) = IsGrown s goods bidders after

of_refused : (s : Section) (goods bidders : ℕ) (o : Option ℕ) (after : Section) → IsGrown s goods bidders after → Grows s goods bidders (unless_refused o after)
of_refused s goods bidders None after h = h
of_refused s goods bidders (Some number) after h = tt

of_choice : (s : Section) (goods bidders : ℕ) (b : Bool) (x y : Result Section SectionFault) → Grows s goods bidders x → Grows s goods bidders y → Grows s goods bidders (cond b x y)
of_choice s goods bidders true x y p q = p
of_choice s goods bidders false x y p q = q

of_settings : (s : Section) (settings : Settings) → Grows s 0 0 (take_settings s settings)
of_settings s settings = of_choice s 0 0 (is_none s.settings) (Ok (record s { settings = Some settings })) (Err order) (omega arith, omega arith) tt

of_good : (s : Section) (good : Good) → Grows s 1 0 (take_good s good)
of_good s good =
    let after : Section = record s { goods = s.goods ++ good ∷ [] } in
    of_choice s 1 0 (is_none s.settings || nat_lt 0 (length s.bidders) || is_some s.draft) (Err order) (unless_refused (good_refusal s.goods s.bidders good.name) after) tt
    (of_refused s 1 0 (good_refusal s.goods s.bidders good.name) after (length-append s.goods (good ∷ []), omega arith))

of_bidder : (s : Section) (name own : List ℕ) → Grows s 0 1 (take_bidder s name own)
of_bidder s name own = of_choice s 0 1 (length s.goods == 0) (Err order) _ tt (by s.draft refl)
  where
    after : Section
    after = record s { draft = Some (record { bidder = record { name = name; own = own; tree = []; bounds = no_bounds }; opened = [] }) }

    by : (d : Option Draft) → s.draft ≡ d → Grows s 0 1 (cond (is_some d) (Err order) (cond (not (length own == length s.goods)) (Err count) (Ok (record s { draft = Some (record { bidder = record { name = name; own = own; tree = []; bounds = no_bounds }; opened = [] }) }))))
    by (Some d) e = tt
    by None e = of_choice s 0 1 (not (length own == length s.goods)) (Err count) (Ok after) tt (omega arith, omega (arith, ap drafts e))

of_unmade : (s : Section) (o : Option ℕ) (next : Result Section SectionFault) → Grows s 0 0 next → Grows s 0 0 (unless_unmade o next)
of_unmade s None next h = h
of_unmade s (Some number) next h = tt

of_going : (s : Section) (b : Bidder) (o : Result (List OpenNode) SectionFault) → drafts s.draft ≡ 1 → Grows s 0 0 (go_on s b o)
of_going s b (Err fault) one = tt
of_going s b (Ok []) one =
    let after : Section = record s { bidders = s.bidders ++ b ∷ []; draft = None } in
    of_refused s 0 0 (bidder_refusal (length s.goods) s.bidders b) after (omega arith, omega (arith, one, length-append s.bidders (b ∷ [])))
of_going s b (Ok (node ∷ outer)) one = (omega arith, omega (arith, one))

of_node : (s : Section) (d : Option Draft) (kind : NodeKind) (children : ℕ) (lo hi : ℤ) → s.draft ≡ d → Grows s 0 0 (take_node_at s d kind children lo hi)
of_node s None kind children lo hi e = tt
of_node s (Some draft) kind children lo hi e =
    of_choice s 0 0 (names_no_good kind (length s.goods)) (Err no_good) _ tt
    (of_unmade s (node_refusal (length s.goods) (length draft.bidder.tree) (suc (length draft.opened)) kind lo hi) _
    (of_going s (with_node draft.bidder draft.opened kind lo hi) (open_after kind (length draft.bidder.tree) children draft.opened) (ap drafts e)))

pub grows : (s : Section) (r : Record) → Grows s (goods_in (r ∷ [])) (bidders_in (r ∷ [])) (take_record s r)
grows s (line.settings settings) = of_settings s settings
grows s (line.good name) = of_good s (record { name = name; exact = false })
grows s (line.exact name) = of_good s (record { name = name; exact = true })
grows s (line.bidder name own) = of_bidder s name own
grows s (line.choose least most children lo hi) = of_node s s.draft (Choose least most) children lo hi refl
grows s (line.buy good units lo hi) = of_node s s.draft (Buy good units) 0 lo hi refl
grows s (line.sell good units lo hi) = of_node s s.draft (Sell good units) 0 lo hi refl
grows s other = tt
