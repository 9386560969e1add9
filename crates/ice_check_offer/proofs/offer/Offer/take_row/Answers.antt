use Rattle.std.proofs.Common.{◌∷◌, ◌++◌, [], sym, ◌∙◌, subst}
use Rattle.std.specs.Prelude.{Some, None}
use Rattle.std.proofs.lemmas.Bool.{false≢true}
use Rattle.ice_defs.specs.Exchange.{trees_of}
use Rattle.ice_defs.specs.Rows.{Row}
use Rattle.ice_journal.specs.Records as line
use Rattle.ice_journal_laws.specs.declared.rule.Rule.{Rule}
use Rattle.ice_journal_laws.specs.Progress.{failed, TakesOn}
use Rattle.ice_pricing.specs.Tallies.{IsTallyOf}
use Rattle.ice_check_offer.specs.declared.offer.Offer.{Offer}
use Rattle.ice_check_offer.specs.Offers.{trade_of}
use Rattle.ice_check_offer.specs.Rows.{IsBrokenRow, Passes}
use Rattle.ice_check_offer.specs.Taking.{GoesOn}
use Rattle.ice_check_offer.proofs.Listed.{row_full, row_broken, row_taken, row_last, not_last, is_last}
use Rattle.ice_check_offer.proofs.offer.Offer.take_row.Goals as goal

pub returns-then-not-has_room : goal.returns-then-not-has_room
returns-then-not-has_room c =
    let at = c.args.at.now in
    let row = c.args.row.now in
    row_full at.exchange.now at.number c.args.self.now c.args.list c.requires.stands.place row.bidder row.weight row.set (sym c.if-not-has_room.ensures)

pub returns-in-Some : goal.returns-in-Some
returns-in-Some c =
    let at = c.args.at.now in
    let row = c.args.row.now in
    row_broken at.exchange.now at.number c.args.self.now c.args.list c.requires.stands.place row.bidder row.weight row.set (sym c.if-not-has_room.ensures) c.in-Some.rule
    (subst (λ (row : Row). IsBrokenRow (trees_of at.exchange.now) row.bidder row.set (Some c.in-Some.rule)) c.row.view_is c.in-Some.ensures)

pub returns-then-has_room : goal.returns-then-has_room
returns-then-has_room c =
    let at = c.args.at.now in
    let row = c.args.row.now in
    let o = c.args.self.now in
    let there = subst (λ (row : Row). IsBrokenRow (trees_of at.exchange.now) row.bidder row.set None) c.row.view_is c.in_default.ensures in
    subst (GoesOn at.exchange.now at.number o (line.row row.bidder row.weight row.set)) (sym c.add_row.ensures.same)
    (row_taken at.exchange.now at.number o c.args.list c.requires.stands.place row.bidder row.weight row.set (sym c.if-not-has_room.ensures) there c.add_row.new.self.tally c.add_row.ensures.taken
    (λ rows tallied last. absurd (not_last o.tally.count c.add_row.new.self.tally.count c.add_row.ensures.count (sym c.has_room-2.ensures ∙ c.if-has_room.true) last)) c.requires.stands.kept)

pub returns-then-passes : goal.returns-then-passes
returns-then-passes c =
    let at = c.args.at.now in
    let row = c.args.row.now in
    let o = c.args.self.now in
    let there = subst (λ (row : Row). IsBrokenRow (trees_of at.exchange.now) row.bidder row.set None) c.row.view_is c.in_default.ensures in
    subst (GoesOn at.exchange.now at.number o (line.row row.bidder row.weight row.set)) (sym c.add_row.ensures.same)
    (row_taken at.exchange.now at.number o c.args.list c.requires.stands.place row.bidder row.weight row.set (sym c.if-not-has_room.ensures) there c.add_row.new.self.tally c.add_row.ensures.taken
    (λ rows tallied last.
    subst (λ (o : Offer). Passes at.exchange.now o c.args.list (rows ++ row ∷ [])) c.add_row.ensures.same
    (c.passes.ensures.yes (rows ++ row ∷ [])
    (subst (λ (o : Offer). IsTallyOf (trade_of at.exchange.now o) (rows ++ row ∷ []) c.add_row.new.self.tally) (sym c.add_row.ensures.same) (c.add_row.ensures.taken rows tallied))
    c.if-passes.true)) c.requires.stands.kept)

pub returns-else-passes : goal.returns-else-passes
returns-else-passes c = λ s st n.
    let at = c.args.at.now in
    let row = c.args.row.now in
    let o = c.args.self.now in
    let there = subst (λ (row : Row). IsBrokenRow (trees_of at.exchange.now) row.bidder row.set None) c.row.view_is c.in_default.ensures in
    subst (λ (y : Rule). TakesOn s (line.row row.bidder row.weight row.set) (failed (record { line = s.line; rule = y }))) (sym c.rule_of_list.ensures)
    (row_last at.exchange.now at.number o c.args.list c.requires.stands.place row.bidder row.weight row.set (sym c.if-not-has_room.ensures) there
    (is_last o.tally.count c.add_row.new.self.tally.count c.add_row.ensures.count (sym c.if-not-has_room.ensures) (sym c.has_room-2.ensures ∙ c.if-has_room.false))
    (λ rows tallied h. false≢true (sym c.if-passes.false ∙ c.passes.ensures.no (rows ++ row ∷ [])
    (subst (λ (o : Offer). IsTallyOf (trade_of at.exchange.now o) (rows ++ row ∷ []) c.add_row.new.self.tally) (sym c.add_row.ensures.same) (c.add_row.ensures.taken rows tallied))
    (subst (λ (o : Offer). Passes at.exchange.now o c.args.list (rows ++ row ∷ [])) (sym c.add_row.ensures.same) h))) s st n)
