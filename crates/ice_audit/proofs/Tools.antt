-- What is known of a state that an audit stands for.
use Rattle.std.proofs.Common.{◌≡◌, ℕ, true, List, [], ◌∷◌, length, map, slice_index_or, slice_set, refl, sym, ap, ◌∙◌, subst, arith}
use Rattle.std.specs.Prelude.{Some}
use Rattle.std.specs.List.{position}
use Rattle.std.specs.Str.{bytes_eq}
use Rattle.ice_defs.specs.Trade.{tree_of, set_of}
use Rattle.ice_defs.specs.Set.{NodeSet}
use Rattle.ice_defs.specs.Exchange.{Bidder, Exchange}
use Rattle.ice_journal_laws.specs.declared.rule.Rule.{Rule}
use Rattle.ice_section.specs.Section.{exchange_in}
use Rattle.ice_verdicts.specs.Judges.{bidder_named}
use Rattle.ice_statement_laws.specs.Statement.{StatementLine}
use Rattle.ice_statement_laws.specs.Audit.{Spot, AuditState, no_bidder, bidder_at, move_to}
use Rattle.ice_audit.specs.declared.next.Next.{Next}
use Rattle.ice_audit.specs.declared.settlements.Settlements.{Settlements}
use Rattle.ice_audit.specs.Standing.{own_tree, own_name, IsFit, IsKept, IsAt, Stands, paid_of}
use Rattle.ice_audit.specs.Taking.{Passes, FailsFirst, paid_after}

-- ---- a state at its spot

placed : (s : AuditState) (p : Spot) → s.spot ≡ p → move_to p s ≡ s
placed s p e = λ i. record s { spot = sym e i }

pub passes_from : (s after : AuditState) (p : Spot) (l : StatementLine) → s.spot ≡ p → Passes (move_to p s) l after → Passes s l after
passes_from s after p l e h = subst (λ (t : AuditState). Passes t l after) (placed s p e) h

pub fails_from : (s : AuditState) (p : Spot) (l : StatementLine) (rule : Rule) → s.spot ≡ p → FailsFirst (move_to p s) l rule → FailsFirst s l rule
fails_from s p l rule e h = subst (λ (t : AuditState). FailsFirst t l rule) (placed s p e) h

pub at_now : (x : Settlements) (s : AuditState) → Stands x s → (now : Next) → x.next ≡ now → IsAt x now s
at_now x s st now e = subst (λ (n : Next). IsAt x n s) e st.at

pub fit_now : (x : Settlements) → IsKept x → (now : Next) → x.next ≡ now → IsFit x now
fit_now x k now e = subst (IsFit x) e k.fit

-- no payment has come
pub same_paid : (x : Settlements) (l : StatementLine) (now : Next) → x.next ≡ now → paid_after (paid_of now) l ≡ paid_after (paid_of x.next) l
same_paid x l now e = sym (ap (λ (n : Next). paid_after (paid_of n) l) e)

-- ---- the one bidder

first_tree : (bidders : List Bidder) → (slice_index_or bidders 0 no_bidder).tree ≡ tree_of (map (λ (b : Bidder). b.tree) bidders) 0
first_tree [] = refl
first_tree (b ∷ bidders) = refl

pub tree_is : (x : Settlements) (s : AuditState) → Stands x s → (bidder_at s).tree ≡ own_tree x.exchange
tree_is x s st = first_tree (exchange_in s.section).bidders ∙ ap own_tree st.exchange

first_named : (bidders : List Bidder) (name : List ℕ) → length bidders ≡ 1 → bytes_eq name (slice_index_or (map (λ (b : Bidder). b.name) bidders) 0 []) ≡ true → position (bytes_eq name) (map (λ (b : Bidder). b.name) bidders) ≡ Some 0
first_named [] name one e = absurd (omega (arith, one))
first_named (b ∷ []) name one e = rw e refl
first_named (b ∷ c ∷ bidders) name one e = absurd (omega (arith, one))

pub named_first : (ex : Exchange) (name : List ℕ) → length ex.bidders ≡ 1 → bytes_eq name (own_name ex) ≡ true → bidder_named ex name ≡ Some 0
named_first ex name one e = first_named ex.bidders name one e

-- ---- lists of one

pub first_set : (sets : List NodeSet) (s : NodeSet) → length sets ≡ 1 → set_of (slice_set sets 0 s) 0 ≡ s
first_set [] s one = absurd (omega (arith, one))
first_set (x ∷ sets) s one = refl

pub one_set : (sets : List NodeSet) (s : NodeSet) → length sets ≡ 1 → length (slice_set sets 0 s) ≡ 1
one_set [] s one = absurd (omega (arith, one))
one_set (x ∷ sets) s one = one
