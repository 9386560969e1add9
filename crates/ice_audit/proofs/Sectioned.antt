-- Lines up to the first settlement, and what is kept behind them.
use Rattle.std.proofs.Common.{◌≡◌, ℕ, suc, zero, Bool, true, false, cond, List, [], ◌∷◌, length, map, replicate, slice_index_or, refl, sym, ap, ◌∙◌, subst, inl, inr, Result, Ok, Err}
use Rattle.std.specs.Prelude.{Option, Some, None, option_map, IfSome}
use Rattle.std.proofs.lemmas.Bool.{false≢true}
use Rattle.ice_defs.proofs.Naming.{same-bytes_eq}
use Rattle.ice_defs.specs.Tree.{Tree}
use Rattle.ice_defs.specs.Bounds.{Bounds, bounds_of}
use Rattle.ice_defs.specs.Trade.{set_of}
use Rattle.ice_defs.specs.Exchange.{Bidder, Exchange, trees_of, opening_bounds}
use Rattle.ice_trade.specs.Fault.{make_fault_number}
use Rattle.ice_journal.specs.Records.{Record}
use Rattle.ice_journal.specs.Records as line
use Rattle.ice_section.specs.Section.{Section, SectionFault, order, count, no_good, maker, no_section, take_record, may_end, exchange_in}
use Rattle.ice_section.specs.declared.faults.SectionFault as declared
use Rattle.ice_section.specs.declared.faults.SectionFault.TheVariants as fault
use Rattle.ice_section.specs.Refusal.{IsRefusal}
use Rattle.ice_journal_laws.specs.declared.rule.Rule.TheVariants as rule
use Rattle.ice_journal_laws.specs.Tests.{is_refusal}
use Rattle.ice_journal_laws.specs.Fields.{payment_in}
use Rattle.ice_verdicts.specs.Judges.{IsRoundOf}
use Rattle.ice_statement_laws.specs.Statement.{named, shown}
use Rattle.ice_statement_laws.specs.Audit.{at_name, at_section, at_regret, AuditState, no_bidder, bidder_at, is_named, with_section, section_next, begin_settlement, move_to, to_line, audit_next}
use Rattle.ice_statement_laws.specs.Sections.{Before, Complete, IsOwnSection}
use Rattle.ice_statement_laws.specs.Texts.{payment_or}
use Rattle.ice_statement_laws.proofs.Walking.{quiet}
use Rattle.ice_statement_laws.proofs.Beginning.{IsNamed, phase_next, complete_ends, before_goes}
use Rattle.ice_audit.specs.declared.auditor.OwnSection.{OwnSection}
use Rattle.ice_audit.specs.declared.auditor.Auditor.TheVariants as so_far
use Rattle.ice_audit.specs.declared.next.Next.{Next}
use Rattle.ice_audit.specs.declared.next.Next.TheVariants as next
use Rattle.ice_audit.specs.declared.settlements.Settlements.{Settlements}
use Rattle.ice_audit.specs.Standing.{own_tree, own_name, IsFit, IsAt, paid_of}
use Rattle.ice_audit.specs.Taking.{FailsFirst}
use Rattle.ice_audit.specs.Auditing.{is_named_by, section_stop, stop_of_number, InSection, GoesFurther, StopsAt}
use Rattle.ice_audit.proofs.Failing.{order_fails, exchange_fails}
use Rattle.ice_audit.proofs.Tools.{passes_from, fails_from}

-- ---- the name

pub named_taken : (name : List ℕ) (own : OwnSection) → own.name ≡ name → own.section ≡ no_section → GoesFurther so_far.Name (named name) (so_far.Section own)
named_taken name own called none = record {
  kept = subst (IsOwnSection own.name) (sym none) (inl (record { none = refl; draft = tt }));
  paid = refl;
  goes = λ s st.
      let after : AuditState = to_line (suc s.line) (move_to at_section (record s { name = name })) in
      record {
        state = after;
        passes = passes_from s after at_name (named name) st.0
            (record { none = quiet _ _ _ refl (λ h. h) (λ h. h) (λ i h. h) (λ h. h) (λ h. h) (λ h. h); verdict = tt; next = refl });
        stands = record { spot = refl; name = sym called; section = st.1 ∙ sym none };
      };
}

-- ---- the section

named_same : (s : AuditState) (r : Record) → is_named s r ≡ is_named_by s.name r
named_same s (line.bidder other own) = refl
named_same s other = refl

named_of : (name : List ℕ) (r : Record) → is_named_by name r ≡ true → IsNamed name r
named_of name (line.bidder other own) e = sym (same-bytes_eq name other e)
named_of name other e = tt

unpaid : (s after : Section) (r : Record) → take_record s r ≡ Ok after → payment_or (payment_in r) None ≡ None
unpaid s after (line.payment name vickrey discount payment) e = absurd cc
unpaid s after other e = refl

before_of : (own : OwnSection) → IsOwnSection own.name own.section → may_end own.section ≡ false → Before own.name own.section
before_of own (inl b) e = b
before_of own (inr c) e = absurd (false≢true (sym e ∙ complete_ends own.name own.section c))

complete_of : (own : OwnSection) → IsOwnSection own.name own.section → may_end own.section ≡ true → Complete own.name own.section
complete_of own (inl b) e = absurd (false≢true (sym (before_goes own.name own.section b) ∙ e))
complete_of own (inr c) e = c

module _ (own : OwnSection) (r : Record) (k : IsOwnSection own.name own.section) (more : may_end own.section ≡ false) where
  section_at : (s : AuditState) → InSection own s → (b : Bool) → is_named_by own.name r ≡ b → (o : Result Section SectionFault) → take_record own.section r ≡ o
      → section_next (move_to at_section s) r ≡ cond b (with_section (move_to at_section s) o) None
  section_at s st b e o f =
      ap (λ (c : Bool). cond c (begin_settlement (record (move_to at_section s) { bounds = (bidder_at s).bounds }) 0 r) (cond (is_named s r) (with_section (move_to at_section s) (take_record s.section r)) None)) (ap may_end st.section ∙ more)
      ∙ ap (λ (c : Bool). cond c (with_section (move_to at_section s) (take_record s.section r)) None) (named_same s r ∙ ap (λ (n : List ℕ). is_named_by n r) st.name ∙ e)
      ∙ ap (λ (x : Result Section SectionFault). cond b (with_section (move_to at_section s) x) None) (ap (λ (x : Section). take_record x r) st.section ∙ f)

  pub misnamed : is_named_by own.name r ≡ false → (s : AuditState) → InSection own s → FailsFirst s (shown r) rule.Order
  misnamed e s st = fails_from s at_section (shown r) rule.Order st.spot (order_fails (move_to at_section s) (shown r) (section_at s st false e (take_record own.section r) refl))

  module _ (called : is_named_by own.name r ≡ true) where
    pub described : (after : OwnSection) → after.name ≡ own.name → take_record own.section r ≡ Ok after.section → GoesFurther (so_far.Section own) (shown r) (so_far.Section after)
    described after same taken = record {
      kept = subst (λ (n : List ℕ). IsOwnSection n after.section) (sym same) (phase_next own.name own.section r after.section (before_of own k more) (named_of own.name r called) taken);
      paid = sym (unpaid own.section after.section r taken);
      goes = λ s st.
          let state : AuditState = to_line (suc s.line) (move_to at_section (record s { section = after.section })) in
          let is : audit_next (move_to at_section s) (shown r) ≡ Some state = ap (option_map (to_line (suc s.line))) (section_at s st true called (Ok after.section) taken) in
          record {
            state = state;
            passes = passes_from s state at_section (shown r) st.spot (record {
              none = quiet _ _ _ is (λ h. false≢true (sym (ap is_refusal (ap (λ (x : Section). take_record x r) st.section ∙ taken)) ∙ h)) (λ h. h) (λ i h. h) (λ h. h) (λ h. h) (λ h. h);
              verdict = tt;
              next = is;
            });
            stands = record { spot = refl; name = st.name ∙ sym same; section = refl };
          };
    }

    disordered : take_record own.section r ≡ Err order → (s : AuditState) → InSection own s → FailsFirst s (shown r) rule.Order
    disordered e s st = fails_from s at_section (shown r) rule.Order st.spot (order_fails (move_to at_section s) (shown r) (section_at s st true called (Err order) e))

    refused_with : (f : SectionFault) (s : AuditState) → InSection own s → take_record own.section r ≡ Err f → with_section (move_to at_section s) (Err f) ≡ Some (move_to at_section s) → is_refusal (Err f) ≡ true → FailsFirst s (shown r) rule.Exchange
    refused_with f s st e stays is =
        fails_from s at_section (shown r) rule.Exchange st.spot
        (exchange_fails (move_to at_section s) (move_to at_section s) (shown r) (section_at s st true called (Err f) e ∙ stays) (ap is_refusal (ap (λ (x : Section). take_record x r) st.section ∙ e) ∙ is))

    by_number : (o : Option ℕ) → IfSome o (λ number. take_record own.section r ≡ Err (maker number)) → StopsAt (so_far.Section own) (shown r) (stop_of_number o)
    by_number None h = tt
    by_number (Some number) h = λ s st. refused_with (maker number) s st h refl refl

    pub section_stops : (f : declared.SectionFault) → IsRefusal (take_record own.section r) f → StopsAt (so_far.Section own) (shown r) (section_stop f)
    section_stops fault.Order h = disordered h
    section_stops fault.Count h = λ s st. refused_with count s st h refl refl
    section_stops fault.NoGood h = λ s st. refused_with no_good s st h refl refl
    section_stops (fault.Tree refusal) h = λ s st. refused_with (maker _) s st h refl refl
    section_stops (fault.Make refusal) h = by_number (make_fault_number refusal) h
    section_stops fault.NoMemory h = tt

-- ---- the first settlement

first_bounds : (bidders : List Bidder) (b : Bidder) → bidders ≡ b ∷ [] → bounds_of (map (λ (x : Bidder). x.bounds) bidders) 0 ≡ b.bounds
first_bounds bidders b e = ap (λ (bs : List Bidder). bounds_of (map (λ (x : Bidder). x.bounds) bs) 0) e

none_marked : (n : ℕ) → slice_index_or (replicate n false) 0 false ≡ false
none_marked zero = refl
none_marked (suc n) = refl

length_replicate : (n : ℕ) → length (replicate n false) ≡ n
length_replicate zero = refl
length_replicate (suc n) = ap suc (length_replicate n)

pub settled : (own : OwnSection) (x : Settlements) → IsOwnSection own.name own.section → may_end own.section ≡ true → x.exchange ≡ exchange_in own.section → IsRoundOf (exchange_in own.section) x.judge
    → x.judge.bounds ≡ opening_bounds (exchange_in own.section) → x.judge.next ≡ opening_bounds (exchange_in own.section) → x.judge.marks ≡ replicate (length (exchange_in own.section).bidders) false
    → x.offered ≡ map (λ (t : Tree). replicate (length t) false) (trees_of (exchange_in own.section)) → x.number ≡ 0 → x.next ≡ next.Regret
    → GoesFurther (so_far.Section own) (shown (line.settle 0)) (so_far.Settlements x)
settled own x k ends exchange round bounds after marks sets number start = record {
  kept = record {
    one = ap (λ (ex : Exchange). length ex.bidders) exchange ∙ ap length c.one;
    round = subst (λ (ex : Exchange). IsRoundOf ex x.judge) (sym exchange) round;
    count = ap length sets_are;
    nodes = ap (λ (a : List (List Bool)). length (set_of a 0)) sets_are ∙ length_replicate (length c.bidder.tree) ∙ sym (ap (λ (ex : Exchange). length (own_tree ex)) exchange ∙ ap (λ (bs : List Bidder). length (slice_index_or (map (λ (b : Bidder). b.tree) bs) 0 [])) c.one);
    fit = subst (IsFit x) (sym start) tt;
  };
  paid = ap paid_of start;
  goes = λ s st.
      let state : AuditState = to_line (suc s.line) (move_to at_regret (record s { bounds = (bidder_at s).bounds; number = 0; judged = [] })) in
      let is : audit_next (move_to at_section s) (shown (line.settle 0)) ≡ Some state =
      ap (λ (b : Bool). option_map (to_line (suc s.line)) (cond b (begin_settlement (record (move_to at_section s) { bounds = (bidder_at s).bounds }) 0 (line.settle 0)) (with_section (move_to at_section s) (Err order)))) (ap may_end st.section ∙ ends) in
      let same : exchange_in s.section ≡ x.exchange = ap exchange_in st.section ∙ sym exchange in
      let own_bounds : (bidder_at s).bounds ≡ bounds_of (opening_bounds (exchange_in own.section)) 0 =
      ap (λ (t : Section). (slice_index_or t.bidders 0 no_bidder).bounds) st.section ∙ ap (λ (bs : List Bidder). (slice_index_or bs 0 no_bidder).bounds) c.one ∙ sym (first_bounds own.section.bidders c.bidder c.one) in
      record {
        state = state;
        passes = passes_from s state at_section (shown (line.settle 0)) st.spot
            (record { none = quiet _ _ _ is (λ h. false≢true h) (λ h. h) (λ i h. h) (λ h. h) (λ h. h) (λ h. h); verdict = tt; next = is });
        stands = record {
          exchange = same;
          named = st.name ∙ sym (ap own_name exchange ∙ ap (λ (bs : List Bidder). slice_index_or (map (λ (b : Bidder). b.name) bs) 0 []) c.one ∙ c.called);
          bounds = own_bounds ∙ sym (ap (λ (bs : List Bounds). bounds_of bs 0) bounds);
          number = sym number;
          at = subst (λ (n : Next). IsAt x n state) (sym start) (
            refl,
            record {
              marked = ap (λ (ms : List Bool). slice_index_or ms 0 false) marks ∙ none_marked (length own.section.bidders);
              after = ap (λ (bs : List Bounds). bounds_of bs 0) after ∙ sym own_bounds;
            },
          );
        };
      };
}
  where
    c : Complete own.name own.section
    c = complete_of own k ends

    sets_are : x.offered ≡ replicate (length c.bidder.tree) false ∷ []
    sets_are = sets ∙ ap (λ (bs : List Bidder). map (λ (t : Tree). replicate (length t) false) (map (λ (b : Bidder). b.tree) bs)) c.one
