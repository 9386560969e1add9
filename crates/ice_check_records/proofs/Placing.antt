-- What the stages of the checker make of a record.
use Rattle.std.proofs.Common.{◌≡◌, ◌<◌, ◌+◌, ℕ, false, [], length, take, set, sym, ◌∙◌, ap, subst, arith, ◌⊎◌, inl, inr}
use Rattle.std.specs.Prelude.{◌&&◌, Option, Some, None, IfSome, Err}
use Rattle.std.proofs.lemmas.Bool.{cases_order}
use Rattle.std.proofs.lemmas.List.{get_or-set_other, get_or-set_same, length-set, length-take-le}
use Rattle.ice_defs.specs.Tree.{Tree}
use Rattle.ice_defs.specs.Set.{NodeSet, IsSatisfied}
use Rattle.ice_defs.specs.Trade.{Assignment, tree_of, set_of}
use Rattle.ice_defs.specs.Exchange.{Exchange, trees_of}
use Rattle.ice_defs.specs.declared.Group.{Group}
use Rattle.ice_tree.proofs.Satisfied.{set_fault-none}
use Rattle.ice_journal.specs.Records.{Record}
use Rattle.ice_journal.specs.Records as line
use Rattle.ice_section.specs.Section.{Section, maker, take_record, may_end}
use Rattle.ice_section.specs.Refusal.{IsRefusal}
use Rattle.ice_section.specs.declared.faults.SectionFault.{SectionFault}
use Rattle.ice_section.specs.declared.faults.SectionFault.TheVariants as fault
use Rattle.ice_journal_laws.specs.declared.rule.Rule.{Rule}
use Rattle.ice_journal_laws.specs.declared.rule.Rule.TheVariants as rule
use Rattle.ice_check_records.specs.declared.head.Head.{Head}
use Rattle.ice_check_offer.specs.declared.fault.Fault.TheVariants.{Here}
use Rattle.ice_check_records.specs.declared.halt.Halt.TheVariants.{Fails}
use Rattle.ice_check_records.specs.Heads.{version_of_head, kind_of_head}
use Rattle.ice_check_records.specs.Openings.{ends_section}
use Rattle.ice_journal_laws.specs.State.{Stated, at_sets, State, trees_at}
use Rattle.ice_journal_laws.specs.Next.{go_to}
use Rattle.ice_journal_laws.specs.Tests.{is_refusal, HasLeftOut}
use Rattle.ice_journal_laws.specs.Progress.{Progress, passing, failed, TakesOn, IsAfter}
use Rattle.ice_journal_laws.specs.Assigning.{section_state}
use Rattle.ice_check_offer.specs.Broken.{IsBroken}
use Rattle.ice_check_records.specs.Stating.{Stating, AreStated}
use Rattle.ice_check_records.specs.Stages.{Halts, numbered_halt, section_halt}
use Rattle.ice_journal_laws.proofs.Places.{section_refused}
use Rattle.ice_check_records.proofs.Behind.{section_misplaced}
use Rattle.ice_journal_laws.proofs.Sets.{set_miscounted, set_unsatisfied, set_left_out, IsFit}
use Rattle.ice_trade.specs.Fault.{make_fault_number}

-- the exchange is being described, and this line is next
abbrev IsDescribed : Head → Section → ℕ → Progress → Type 0
IsDescribed h s n p = p ≡ passing (section_state (version_of_head h) (kind_of_head h) n s)

-- where so far it is, a record that fails a test fails it
pub described_fails : (h : Head) (s : Section) (r : Record) (y : Rule) → ((n : ℕ) → TakesOn (section_state (version_of_head h) (kind_of_head h) n s) r (failed (record { line = n; rule = y })))
    → Halts (λ n p. p ≡ passing (section_state (version_of_head h) (kind_of_head h) n s)) r (Fails (Here y))
described_fails h s r y fails n p is = subst (λ (q : Progress). IsAfter q r (failed (record { line = n; rule = y }))) (sym is) (fails n)

-- what a section refuses
pub section_halts : (h : Head) (s : Section) (r : Record) (why : SectionFault) → (may_end s && ends_section h r) ≡ false → IsRefusal (take_record s r) why
    → Halts (λ n p. p ≡ passing (section_state (version_of_head h) (kind_of_head h) n s)) r (section_halt why)
section_halts h s r fault.Order more taken = described_fails h s r rule.Order (λ n. section_misplaced h n s r taken more)
section_halts h s r fault.Count more taken = described_fails h s r rule.Exchange (λ n. section_refused (version_of_head h) (kind_of_head h) n s r (ap is_refusal taken))
section_halts h s r fault.NoGood more taken = described_fails h s r rule.Exchange (λ n. section_refused (version_of_head h) (kind_of_head h) n s r (ap is_refusal taken))
section_halts h s r (fault.Tree refusal) more taken = described_fails h s r rule.Exchange (λ n. section_refused (version_of_head h) (kind_of_head h) n s r (ap is_refusal taken))
section_halts h s r (fault.Make refusal) more taken = by (make_fault_number refusal) taken
  where
    by : (o : Option ℕ) → IfSome o (λ number. take_record s r ≡ Err (maker number)) → Halts (IsDescribed h s) r (numbered_halt o)
    by None taken = tt
    by (Some number) taken = described_fails h s r rule.Exchange (λ n. section_refused (version_of_head h) (kind_of_head h) n s r (ap is_refusal taken))
section_halts h s r fault.NoMemory more taken = tt

-- a set that is broken by itself
pub broken_fails : (s : State) (g : Group) (found : Stated) (x : NodeSet) (y : Rule) → length found.sets < length (trees_at s) → IsBroken (tree_of (trees_at s) (length found.sets)) x (Some y)
    → TakesOn (go_to (at_sets g found) s) (line.set x) (failed (record { line = s.line; rule = y }))
broken_fails s g found x rule.Count room h = set_miscounted s g found x h
broken_fails s g found x other room (count, k, is, e) =
    subst (λ (y : Rule). TakesOn (go_to (at_sets g found) s) (line.set x) (failed (record { line = s.line; rule = y }))) (sym e)
    (set_unsatisfied s g found x k (record { count = count; bidder = room }) is)

-- a satisfied set of a bidder that is left out
pub left_out_fails : (s : State) (g : Group) (found : Stated) (x : NodeSet) → length found.sets < length (trees_at s) → IsSatisfied (tree_of (trees_at s) (length found.sets)) x → HasLeftOut (at_sets g found) (line.set x)
    → TakesOn (go_to (at_sets g found) s) (line.set x) (failed (record { line = s.line; rule = rule.Fixing }))
left_out_fails s g found x room is left = set_left_out s g found x (record { count = is.same_length; bidder = room }) (set_fault-none (tree_of (trees_at s) (length found.sets)) x is) left

-- a satisfied set of a bidder that isn't left out
pub is_fit : (s : State) (g : Group) (found : Stated) (x : NodeSet) → ¬ HasLeftOut (at_sets g found) (line.set x) → length found.sets < length (trees_at s) → IsSatisfied (tree_of (trees_at s) (length found.sets)) x → IsFit s g found x
is_fit s g found x taken room is = record {
  counted = record { count = is.same_length; bidder = room };
  faultless = set_fault-none (tree_of (trees_at s) (length found.sets)) x is;
  taken = taken;
}

-- ---- the sets that are stated

pub one_set_stated : (ex : Exchange) (sets : Assignment) (taken : ℕ) (x : NodeSet) → AreStated ex sets taken → taken < length (trees_of ex) → IsSatisfied (tree_of (trees_of ex) taken) x
    → AreStated ex (set sets taken x) (taken + 1)
one_set_stated ex sets taken x h room is = record {
  few = h.few;
  same_length = length-set sets taken x ∙ h.same_length;
  taken_there = omega (arith, h.same_length, length-set sets taken x);
  sizes = λ b l. size b (omega (arith, l, length-set sets taken x)) (cases_order b taken);
  satisfied = λ b l. sat b l (cases_order b taken);
}
  where
    size : (b : ℕ) → b < length sets → (b ≡ taken) ⊎ ((b < taken) ⊎ (taken < b)) → length (set_of (set sets taken x) b) ≡ length (tree_of (trees_of ex) b)
    size b l (inl e) =
        subst (λ k. length (set_of (set sets taken x) k) ≡ length (tree_of (trees_of ex) k)) (sym e)
        (ap length (get_or-set_same sets taken x [] (omega (arith, h.same_length))) ∙ is.same_length)
    size b l (inr (inl m)) = ap length (get_or-set_other sets taken b x [] (λ e. omega (arith, m))) ∙ h.sizes b l
    size b l (inr (inr m)) = ap length (get_or-set_other sets taken b x [] (λ e. omega (arith, m))) ∙ h.sizes b l

    sat : (b : ℕ) → b < taken + 1 → (b ≡ taken) ⊎ ((b < taken) ⊎ (taken < b)) → IsSatisfied (tree_of (trees_of ex) b) (set_of (set sets taken x) b)
    sat b l (inl e) =
        subst (λ k. IsSatisfied (tree_of (trees_of ex) k) (set_of (set sets taken x) k)) (sym e)
        (subst (IsSatisfied (tree_of (trees_of ex) taken)) (sym (get_or-set_same sets taken x [] (omega (arith, h.same_length)))) is)
    sat b l (inr (inl m)) = subst (IsSatisfied (tree_of (trees_of ex) b)) (sym (get_or-set_other sets taken b x [] (λ e. omega (arith, m)))) (h.satisfied b m)
    sat b l (inr (inr m)) = absurd (omega arith)

-- the next bidder's set, where the value of a list of sets is given by its parts
pub next_set : (ex : Exchange) (sets : Assignment) (taken : ℕ) (x : NodeSet) (now : Stating) → AreStated ex sets taken → record { exchange = ex; sets = take taken sets } ≡ now
    → length now.sets < length (trees_of now.exchange) → IsSatisfied (tree_of (trees_of now.exchange) (length now.sets)) x → (taken < length (trees_of ex)) × IsSatisfied (tree_of (trees_of ex) taken) x
next_set ex sets taken x now h view room is = (
  subst (λ n. n < length (trees_of ex)) count (subst (λ (s : Stating). length s.sets < length (trees_of s.exchange)) (sym view) room),
  subst (λ n. IsSatisfied (tree_of (trees_of ex) n) x) count (subst (λ (s : Stating). IsSatisfied (tree_of (trees_of s.exchange) (length s.sets)) x) (sym view) is),
)
  where
    count : length (take taken sets) ≡ taken
    count = length-take-le taken sets h.taken_there
