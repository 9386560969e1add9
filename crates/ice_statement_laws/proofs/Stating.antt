-- The lines of a statement are those of the bidder's part of the session.
use Rattle.std.proofs.Common.{◌≡◌, ℕ, suc, List, [], ◌∷◌, ◌++◌, map, refl, sym, ◌∙◌, ap, append_assoc}
use Rattle.std.specs.List.{flat_map}
use Rattle.std.proofs.lemmas.List.{append-nil, map-append}
use Rattle.std.proofs.lemmas.List.Concat.{flat_map-cons}
use Rattle.ice_defs.specs.Set.{NodeSet}
use Rattle.ice_defs.specs.Exchange.{Bidder}
use Rattle.ice_defs.specs.Session.{Going, Payment, Closed, Session}
use Rattle.ice_journal.specs.Records.{Record}
use Rattle.ice_journal.specs.Records as line
use Rattle.ice_section.specs.Section.{good_record}
use Rattle.ice_section.specs.Described.{bidder_records, section_records}
use Rattle.ice_journal_laws.specs.Written.{session_records}
use Rattle.ice_statement_laws.specs.Statement.{public_records, Own, OwnGoing, own_going, IsOwn, StatementLine, named, shown, ended, settlement_lines, later_records, statement_lines}
use Rattle.ice_statement_laws.specs.Own.{step_lines, lines_from, own_exchange, own_lines}
use Rattle.ice_statement_laws.specs.Parts.{step_of, part_of}
use Rattle.ice_statement_laws.proofs.Shown.{shown_from, shown_of, session_shown, header_of, later_of}

settlements_are : (b : ℕ) (name : List ℕ) (number : ℕ) (going : List Going) (c : Closed) (last : NodeSet) (p : Payment)
    → settlement_lines (shown_from number going c) (map (own_going b name) going) last p ++ ended ∷ []
    ≡ lines_from number (map (step_of b name) going) (record { regret = c.settlement.regret; kept = last; cut = c.cut; surplus = c.surplus; payment = p })
settlements_are b name number [] c last p = refl
settlements_are b name number (g ∷ later) c last p =
    append_assoc (shown (line.settle number) ∷ step_lines (step_of b name g)) (settlement_lines (shown_from (suc number) later c) (map (own_going b name) later) last p) (ended ∷ [])
    ∙ ap (λ (ls : List StatementLine). (shown (line.settle number) ∷ step_lines (step_of b name g)) ++ ls) (settlements_are b name (suc number) later c last p)

nested : (a : StatementLine) (A B C D : List StatementLine) → (((a ∷ A) ++ B) ++ C) ++ D ≡ (a ∷ (A ++ B)) ++ (C ++ D)
nested a A B C D = simp append_assoc

described : (goods : List Record) (b : Bidder) → map shown goods ++ map shown (bidder_records b) ≡ map shown (goods ++ flat_map bidder_records (b ∷ []))
described goods b =
    sym (map-append shown goods (bidder_records b))
    ∙ ap (λ (rs : List Record). map shown (goods ++ rs)) (sym (flat_map-cons bidder_records b [] ∙ append-nil (bidder_records b)))

pub lines_are_own : (x : Session) (name : List ℕ) (own : Own) → (o : IsOwn x name own) → statement_lines (public_records (session_records x)) own ≡ own_lines (part_of x o.number own)
lines_are_own x name own o =
    ap (λ (rs : List Record). statement_lines rs own) (session_shown x)
    ∙ ap (λ (rs : List Record). (((named own.bidder.name ∷ map shown rs) ++ map shown (bidder_records own.bidder)) ++ settlement_lines (later_records (shown_of x)) own.going own.kept own.payment) ++ ended ∷ []) (header_of x)
    ∙ ap (λ (rs : List Record). (((named own.bidder.name ∷ map shown header) ++ map shown (bidder_records own.bidder)) ++ settlement_lines rs own.going own.kept own.payment) ++ ended ∷ []) (later_of x)
    ∙ nested (named own.bidder.name) (map shown header) (map shown (bidder_records own.bidder)) (settlement_lines (shown_from 0 x.going x.closed) own.going own.kept own.payment) (ended ∷ [])
    ∙ ap (λ (ls : List StatementLine). (named own.bidder.name ∷ ls) ++ (settlement_lines (shown_from 0 x.going x.closed) own.going own.kept own.payment ++ ended ∷ [])) (described header own.bidder)
    ∙ ap (λ (gs : List OwnGoing). (named own.bidder.name ∷ map shown (section_records (own_exchange (part_of x o.number own)))) ++ (settlement_lines (shown_from 0 x.going x.closed) gs own.kept own.payment ++ ended ∷ [])) going_is
    ∙ ap (λ (ls : List StatementLine). (named own.bidder.name ∷ map shown (section_records (own_exchange (part_of x o.number own)))) ++ ls) (settlements_are o.number own.bidder.name 0 x.going x.closed own.kept own.payment)
  where
    header : List Record
    header = line.settings x.exchange.settings ∷ map good_record x.exchange.goods

    going_is : own.going ≡ map (own_going o.number own.bidder.name) x.going
    going_is = o.going ∙ ap (λ (n : List ℕ). map (own_going o.number n) x.going) (sym o.named)
