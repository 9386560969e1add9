-- What the audit passes begins with the section of one bidder's exchange.
use Rattle.std.proofs.Common.{◌≡◌, ℕ, suc, Bool, true, false, cond, eqb, List, [], ◌∷◌, ◌++◌, map, length, ℤ, pos, refl, sym, ◌∙◌, ap, subst, arith, inl, inr, Result, Ok, Err}
use Rattle.std.specs.Prelude.{◌&&◌, ◌||◌, ◌==◌, not, nat_lt, is_none, is_some, Option, Some, None, option_map}
use Rattle.std.specs.List.{AllByRecursion}
use Rattle.std.proofs.lemmas.Bool.{eqb-true}
use Rattle.std.proofs.lemmas.Option.{none-some, same_Some}
use Rattle.ice_defs.proofs.Naming.{same-bytes_eq}
use Rattle.ice_defs.specs.declared.NodeKind.{NodeKind}
use Rattle.ice_defs.specs.declared.NodeKind.TheVariants.{Choose, Buy, Sell}
use Rattle.ice_defs.specs.Bounds.{no_bounds}
use Rattle.ice_defs.specs.Making.{node_refusal, good_refusal, bidder_refusal}
use Rattle.ice_defs.specs.Fraction.{whole_number}
use Rattle.ice_defs.specs.Exchange.{Good, Bidder, Exchange}
use Rattle.ice_defs.specs.Lawful.{IsExchange}
use Rattle.ice_journal.specs.Records.{Record}
use Rattle.ice_journal.specs.Records as line
use Rattle.ice_journal.specs.Ranges.{IsRecord}
use Rattle.ice_section.specs.Section.{SectionFault, order, count, no_good, maker, OpenNode, Draft, Section, no_section, may_end, exchange_in, unless_refused, unless_unmade, take_good, go_on, with_node, open_after, names_no_good, take_node_at, take_record}
use Rattle.ice_section.specs.Described.{section_records}
use Rattle.ice_section.specs.Taking.{unless_fault, take_records, section_of}
use Rattle.ice_section.specs.Laws.{SectionIsLawful, SectionRecords, DescribedAreTaken}
use Rattle.ice_journal_laws.specs.declared.rule.Rule.TheVariants as rule
use Rattle.ice_journal_laws.specs.Tests.{is_refusal}
use Rattle.ice_statement_laws.specs.Statement.{StatementLine, named, shown, kept, offered, ended}
use Rattle.ice_statement_laws.specs.Audit.{at_regret, AuditState, bidder_at, begin_settlement, is_named, with_section, to_line, Audited, passes, goes_on, IsAudit}
use Rattle.ice_statement_laws.specs.Sections.{IsDraftNamed, Before, Complete, IsOwnSection}
use Rattle.ice_statement_laws.specs.Own.{OwnSession, own_exchange, own_lines, IsRightOwn}
use Rattle.ice_statement_laws.specs.Texts.{IsLine, AreLines, paid_in}
use Rattle.ice_statement_laws.specs.Laws.{YesIsRight}
use Rattle.ice_statement_laws.proofs.Walking.{lines_are}
use Rattle.ice_statement_laws.proofs.Describing.{in_section}
use Rattle.ice_statement_laws.proofs.Meaning.{inv_settled}
use Rattle.ice_statement_laws.proofs.Ranging.{own_pays}

ok_same : (s t : Section) → (let o : Result Section SectionFault = Ok s in o) ≡ Ok t → s ≡ t
ok_same s t e = cc

ok_err : {A : Type 0} (f : SectionFault) (t : Section) → (let o : Result Section SectionFault = Err f in o) ≡ Ok t → A
ok_err f t e = absurd cc

module _ (name : List ℕ) where
  -- ---- one record more

  kept_before : (s after : Section) → Before name s → s ≡ after → IsOwnSection name after
  kept_before s after b e = inl (subst (Before name) e b)

  when_ok : (b : Bool) (next : Result Section SectionFault) (fault : SectionFault) (after : Section) → (next ≡ Ok after → IsOwnSection name after) → cond b (Err fault) next ≡ Ok after → IsOwnSection name after
  when_ok true next fault after f e = ok_err fault after e
  when_ok false next fault after f e = f e

  if_ok : (b : Bool) (next : Result Section SectionFault) (fault : SectionFault) (after : Section) → (next ≡ Ok after → IsOwnSection name after) → cond b next (Err fault) ≡ Ok after → IsOwnSection name after
  if_ok true next fault after f e = f e
  if_ok false next fault after f e = ok_err fault after e

  unrefused : (refusal : Option ℕ) (s after : Section) → IsOwnSection name s → unless_refused refusal s ≡ Ok after → IsOwnSection name after
  unrefused None s after p e = subst (IsOwnSection name) (ok_same s after e) p
  unrefused (Some number) s after p e = ok_err _ after e

  unmade : (refusal : Option ℕ) (next : Result Section SectionFault) (after : Section) → (next ≡ Ok after → IsOwnSection name after) → unless_unmade refusal next ≡ Ok after → IsOwnSection name after
  unmade None next after f e = f e
  unmade (Some number) next after f e = ok_err _ after e

  went_on : (s : Section) (b : Bidder) (o : Result (List OpenNode) SectionFault) (after : Section) → s.bidders ≡ [] → b.name ≡ name → go_on s b o ≡ Ok after → IsOwnSection name after
  went_on s b (Err fault) after none is e = ok_err fault after e
  went_on s b (Ok []) after none is e =
      unrefused (bidder_refusal (length s.goods) s.bidders b) (record s { bidders = s.bidders ++ b ∷ []; draft = None }) after
      (inr (record { bidder = b; one = ap (λ (bs : List Bidder). bs ++ b ∷ []) none; ended = refl; called = is })) e
  went_on s b (Ok (node ∷ outer)) after none is e = kept_before (record s { draft = Some (record { bidder = b; opened = node ∷ outer }) }) after (record { none = none; draft = is }) (ok_same _ after e)

  noded : (s : Section) (d : Option Draft) (kind : NodeKind) (children : ℕ) (lo hi : ℤ) (after : Section) → s.bidders ≡ [] → IsDraftNamed name d → take_node_at s d kind children lo hi ≡ Ok after → IsOwnSection name after
  noded s None kind children lo hi after none is e = ok_err order after e
  noded s (Some draft) kind children lo hi after none is e =
      when_ok (names_no_good kind (length s.goods)) _ no_good after
      (unmade (node_refusal (length s.goods) (length draft.bidder.tree) (suc (length draft.opened)) kind lo hi) _ after
      (went_on s (with_node draft.bidder draft.opened kind lo hi) (open_after kind (length draft.bidder.tree) children draft.opened) after none is))
      e

  abbrev pub IsNamed : Record → Type 0
  IsNamed (line.bidder other own) = other ≡ name
  IsNamed other = Unit {0}

  good_taken : (s : Section) (x : Good) (after : Section) → Before name s → take_good s x ≡ Ok after → IsOwnSection name after
  good_taken s x after b e =
      when_ok (is_none s.settings || nat_lt 0 (length s.bidders) || is_some s.draft) _ order after
      (unrefused (good_refusal s.goods s.bidders x.name) (record s { goods = s.goods ++ x ∷ [] }) after (inl (record { none = b.none; draft = b.draft }))) e

  pub phase_next : (s : Section) (r : Record) (after : Section) → Before name s → IsNamed r → take_record s r ≡ Ok after → IsOwnSection name after
  phase_next s (line.settings x) after b is e = if_ok (is_none s.settings) (Ok (record s { settings = Some x })) order after (λ f. kept_before (record s { settings = Some x }) after (record { none = b.none; draft = b.draft }) (ok_same _ after f)) e
  phase_next s (line.good n) after b is e = good_taken s (record { name = n; exact = false }) after b e
  phase_next s (line.exact n) after b is e = good_taken s (record { name = n; exact = true }) after b e
  phase_next s (line.bidder n own) after b is e =
      when_ok (length s.goods == 0) _ order after
      (when_ok (is_some s.draft) _ order after
      (when_ok (not (length own == length s.goods)) _ count after
      (λ f. kept_before (record s { draft = Some (record { bidder = record { name = n; own = own; tree = []; bounds = no_bounds }; opened = [] }) }) after (record { none = b.none; draft = is }) (ok_same _ after f))))
      e
  phase_next s (line.choose least most children lo hi) after b is e = noded s s.draft (Choose least most) children lo hi after b.none b.draft e
  phase_next s (line.buy good units lo hi) after b is e = noded s s.draft (Buy good units) 0 lo hi after b.none b.draft e
  phase_next s (line.sell good units lo hi) after b is e = noded s s.draft (Sell good units) 0 lo hi after b.none b.draft e
  phase_next s other after b is e = ok_err order after e

  -- ---- the lines of a section

  abbrev behind_section : ℕ → Section → AuditState
  behind_section n t = record (in_section name n t) { line = suc n; bounds = (bidder_at (in_section name n t)).bounds; number = 0; judged = []; spot = at_regret }

  record Sectioned (s : Section) (lines : List StatementLine) : Type 0 where
    records : List Record
    rest : List StatementLine
    end : Section
    line_number : ℕ
    lines_is : lines ≡ map shown records ++ (shown (line.settle 0) ∷ rest)
    taken : take_records s records ≡ Ok end
    whole : Complete name end
    later : Audited (behind_section line_number end) rest None

  more : (s after : Section) (r : Record) (rest : List StatementLine) → take_record s r ≡ Ok after → Sectioned after rest → Sectioned s (shown r ∷ rest)
  more s after r rest is x = record {
    records = r ∷ x.records;
    rest = x.rest;
    end = x.end;
    line_number = x.line_number;
    lines_is = ap (λ (ls : List StatementLine). shown r ∷ ls) x.lines_is;
    taken = ap (λ (o : Result Section SectionFault). unless_fault o (λ next. take_records next x.records)) is ∙ x.taken;
    whole = x.whole;
    later = x.later;
  }

  pub complete_ends : (s : Section) → Complete name s → may_end s ≡ true
  complete_ends s c = ap (λ (bs : List Bidder). nat_lt 0 (length bs) && is_none s.draft) c.one ∙ ap (λ (d : Option Draft). nat_lt 0 (length (c.bidder ∷ [])) && is_none d) c.ended

  pub before_goes : (s : Section) → Before name s → may_end s ≡ false
  before_goes s b = ap (λ (bs : List Bidder). nat_lt 0 (length bs) && is_none s.draft) b.none

  -- the number of the first settlement
  begins : (n : ℕ) (s : Section) (r : Record) (rest : List StatementLine) (after : AuditState) → Complete name s
      → option_map (to_line (suc n)) (begin_settlement (record (in_section name n s) { bounds = (bidder_at (in_section name n s)).bounds }) 0 r) ≡ Some after → Audited after rest None → Sectioned s (shown r ∷ rest)
  begins n s (line.settle number) rest after c is t = by (eqb number 0) refl is
    where
      by : (b : Bool) → eqb number 0 ≡ b → option_map (to_line (suc n)) (cond b (Some (record (in_section name n s) { bounds = (bidder_at (in_section name n s)).bounds; number = 0; judged = []; spot = at_regret })) None) ≡ Some after → Sectioned s (shown (line.settle number) ∷ rest)
      by true e f = record {
        records = [];
        rest = rest;
        end = s;
        line_number = n;
        lines_is = ap (λ (k : ℕ). shown (line.settle k) ∷ rest) (eqb-true number 0 e);
        taken = refl;
        whole = c;
        later = subst (λ (x : AuditState). Audited x rest None) (sym (same_Some (behind_section n s) after f)) t;
      }
      by false e f = absurd (none-some after f)
  begins n s other rest after c is t = absurd (none-some after is)

  named_of : (n : ℕ) (s : Section) (r : Record) → is_named (in_section name n s) r ≡ true → IsNamed r
  named_of n s (line.bidder other own) e = sym (same-bytes_eq name other e)
  named_of n s other e = tt

  inv_section : (n : ℕ) (s : Section) (lines : List StatementLine) → IsOwnSection name s → Audited (in_section name n s) lines None → Sectioned s lines
  inv_section n s [] p (passes e) = absurd cc
  inv_section n s (shown r ∷ rest) (inr c) (goes_on {after = after} none holds is t) =
      begins n s r rest after c
      (sym (ap (λ (b : Bool). option_map (to_line (suc n)) (cond b (begin_settlement (record (in_section name n s) { bounds = (bidder_at (in_section name n s)).bounds }) 0 r) (cond (is_named (in_section name n s) r) (with_section (in_section name n s) (take_record s r)) None))) (complete_ends s c)) ∙ is) t
  inv_section n s (shown r ∷ rest) (inl b) (goes_on {after = after} none holds is t) =
      by (is_named (in_section name n s) r) (take_record s r) refl refl
      (sym (ap (λ (b : Bool). option_map (to_line (suc n)) (cond b (begin_settlement (record (in_section name n s) { bounds = (bidder_at (in_section name n s)).bounds }) 0 r) (cond (is_named (in_section name n s) r) (with_section (in_section name n s) (take_record s r)) None))) (before_goes s b)) ∙ is)
      (λ next p d. inv_section (suc n) next rest p d)
    where
      by : (t : Bool) (o : Result Section SectionFault) → is_named (in_section name n s) r ≡ t → take_record s r ≡ o → option_map (to_line (suc n)) (cond t (with_section (in_section name n s) o) None) ≡ Some after
          → ((next : Section) → IsOwnSection name next → Audited (in_section name (suc n) next) rest None → Sectioned next rest) → Sectioned s (shown r ∷ rest)
      by false o e f g h = absurd (none-some after g)
      by true (Ok next) e f g h =
          more s next r rest f (h next (phase_next s r next b (named_of n s r e) f) (subst (λ (x : AuditState). Audited x rest None) (sym (same_Some (in_section name (suc n) next) after g)) t))
      by true (Err order) e f g h = absurd (none-some after g)
      by true (Err count) e f g h = absurd (none rule.Exchange (ap is_refusal f))
      by true (Err no_good) e f g h = absurd (none rule.Exchange (ap is_refusal f))
      by true (Err (maker number)) e f g h = absurd (none rule.Exchange (ap is_refusal f))
  inv_section n s (named z ∷ rest) p (goes_on {after = after} none holds is t) = absurd (none-some after is)
  inv_section n s (kept z ∷ rest) p (goes_on {after = after} none holds is t) = absurd (none-some after is)
  inv_section n s (offered z ∷ rest) p (goes_on {after = after} none holds is t) = absurd (none-some after is)
  inv_section n s (ended ∷ rest) p (goes_on {after = after} none holds is t) = absurd (none-some after is)

-- ---- the whole

lines_front : (rs : List Record) (rest : List StatementLine) → AllByRecursion IsLine (map shown rs ++ rest) → AllByRecursion IsRecord rs
lines_front [] rest all = tt
lines_front (r ∷ rs) rest all = (all.0, lines_front rs rest all.1)

module _ (lawful : SectionIsLawful) (described : SectionRecords) (taken_all : DescribedAreTaken) where
  -- the section is that of an exchange with one bidder
  module _ (name : List ℕ) (lines : List StatementLine) (all : AllByRecursion IsLine lines) (x : Sectioned name no_section lines) where
    records_are : x.records ≡ section_records (exchange_in x.end)
    records_are = described x.records x.end x.taken (complete_ends name x.end x.whole)

    is_lawful : IsExchange (exchange_in x.end)
    is_lawful = lawful x.records x.end (lines_front x.records (shown (line.settle 0) ∷ x.rest) (subst (AllByRecursion IsLine) x.lines_is all)) x.taken (complete_ends name x.end x.whole)

    end_is : x.end ≡ section_of (exchange_in x.end)
    end_is = ok_same x.end (section_of (exchange_in x.end)) (sym x.taken ∙ ap (take_records no_section) records_are ∙ taken_all (exchange_in x.end) is_lawful)

    one_is : exchange_in x.end ≡ record { settings = (exchange_in x.end).settings; goods = x.end.goods; bidders = x.whole.bidder ∷ [] }
    one_is = ap (λ (bs : List Bidder). (let e : Exchange = record { settings = (exchange_in x.end).settings; goods = x.end.goods; bidders = bs } in e)) x.whole.one

    section_is : x.end ≡ section_of (record { settings = (exchange_in x.end).settings; goods = x.end.goods; bidders = x.whole.bidder ∷ [] })
    section_is = end_is ∙ ap section_of one_is

    whole_right : (y : OwnSession) × IsRightOwn y × (named name ∷ lines ≡ own_lines y)
    whole_right =
        let settings = (exchange_in x.end).settings in
        let goods = x.end.goods in
        let bidder = x.whole.bidder in
        let settled = inv_settled settings goods bidder (length x.rest) 0 (suc x.line_number) bidder.bounds (pos 0) [] [] (record { den = 1; nums = [] }) (whole_number (pos 0)) x.rest (omega arith)
        (subst (λ (m : List ℕ). Audited (behind_section m x.line_number (section_of (record { settings = settings; goods = goods; bidders = bidder ∷ [] }))) x.rest None) (sym x.whole.called)
        (subst (λ (t : Section). Audited (behind_section name x.line_number t) x.rest None) section_is x.later)) in
        let y : OwnSession = record { settings = settings; goods = goods; bidder = bidder; going = settled.going; closed = settled.closed } in (
          y,
          record { exchange = subst IsExchange one_is is_lawful; settlements = settled.right },
          ap (λ (n : List ℕ). named n ∷ lines) (sym x.whole.called) ∙ ap (λ (ls : List StatementLine). named bidder.name ∷ ls) x.lines_is
              ∙ ap (λ (rs : List Record). named bidder.name ∷ (map shown rs ++ (shown (line.settle 0) ∷ x.rest))) (records_are ∙ ap section_records one_is)
              ∙ ap (λ (ls : List StatementLine). named bidder.name ∷ (map shown (section_records (own_exchange y)) ++ (shown (line.settle 0) ∷ ls))) settled.lines_is
              ∙ ap (λ (ls : List StatementLine). named bidder.name ∷ (map shown (section_records (own_exchange y)) ++ ls)) (sym (lines_are 0 settled.going settled.closed)),
        )

  pub passed_is_right : (lines : List StatementLine) → AllByRecursion IsLine lines → IsAudit lines None → (y : OwnSession) × IsRightOwn y × (lines ≡ own_lines y)
  passed_is_right [] all (passes e) = absurd cc
  passed_is_right (named name ∷ lines) all (goes_on {after = after} none holds is t) =
      whole_right name lines all.1
      (inv_section name 2 no_section lines (inl (record { none = refl; draft = tt })) (subst (λ (s : AuditState). Audited s lines None) (sym (same_Some (in_section name 2 no_section) after is)) t))
  passed_is_right (shown r ∷ lines) all (goes_on {after = after} none holds is t) = absurd (none-some after is)
  passed_is_right (kept s ∷ lines) all (goes_on {after = after} none holds is t) = absurd (none-some after is)
  passed_is_right (offered s ∷ lines) all (goes_on {after = after} none holds is t) = absurd (none-some after is)
  passed_is_right (ended ∷ lines) all (goes_on {after = after} none holds is t) = absurd (none-some after is)

  pub yes_is_right : YesIsRight
  yes_is_right bytes payment (lines, is, audited, paid) =
      let (y, right, same) = passed_is_right lines is.lawful audited in
      (y, right, subst (AreLines bytes) same is, same_Some payment y.closed.payment.payment (sym paid ∙ ap paid_in same ∙ own_pays y))
