use Rattle.std.proofs.Common.{◌≡◌, ◌<◌, length, [], sym, ◌∙◌, ap, subst, arith}
use Rattle.ice_defs.specs.declared.Group.TheVariants.{Provisional}
use Rattle.ice_defs.specs.Set.{IsSatisfied}
use Rattle.ice_defs.specs.Trade.{Assignment, tree_of, set_of}
use Rattle.ice_defs.specs.Exchange.{Exchange, trees_of}
use Rattle.ice_journal_laws.specs.State.{State, exchange_at, at_prices}
use Rattle.ice_check_offer.specs.Offers as offers
use Rattle.ice_check_records.specs.declared.next.Next.TheVariants as coming
use Rattle.ice_check_records.specs.Stating.{Stating}
use Rattle.ice_check_records.specs.Taking.{LeavesGroup}
use Rattle.ice_trade.proofs.Weighted.{length-trees}
use Rattle.ice_check_records.proofs.Logged.{provisional_left}
use Rattle.ice_check_records.proofs.groups.Groups.offer_sets.Goals as goal

pub begin-requires-clause-kept : goal.begin-requires-clause-kept
begin-requires-clause-kept c = subst (λ (ex : Exchange). offers.IsKept ex c.args.self.now.offer) (sym c.exchange.ensures) c.requires.kept.offer

pub begin-requires-clause-fresh : goal.begin-requires-clause-fresh
begin-requires-clause-fresh c = subst (λ (ex : Exchange). offers.IsFresh ex c.args.self.now.offer.judge) (sym c.exchange.ensures) c.requires.opened.at.fresh

pub begin-requires-clause-count : goal.begin-requires-clause-count
begin-requires-clause-count c =
    let ex = c.args.self.now.stated.exchange in
    ap length c.sets.ensures.value ∙ c.requires.opened.full ∙ length-trees ex ∙ ap (λ (e : Exchange). length e.bidders) (sym c.exchange.ensures)

pub begin-requires-clause-satisfied : goal.begin-requires-clause-satisfied
begin-requires-clause-satisfied c = λ b l.
    let g = c.args.self.now in
    let there : b < length g.stated.sets = omega (arith, l, ap (λ (e : Exchange). length e.bidders) c.exchange.ensures, length-trees g.stated.exchange, c.requires.opened.full) in
    subst (λ (ex : Exchange). IsSatisfied (tree_of (trees_of ex) b) (set_of c.sets.result.now b)) (sym c.exchange.ensures)
    (subst (λ (sets : Assignment). IsSatisfied (tree_of (trees_of g.stated.exchange) b) (set_of sets b)) (sym c.sets.ensures.value) (c.sets.ensures.satisfied b there))

pub returns : goal.returns
returns c =
    let g = c.args.self.now in
    let o = c.begin.new.self in
    let stands = λ (s : State) (e : exchange_at s ≡ g.stated.exchange) (p : s.place ≡ at_prices) (b : s.bounds ≡ g.offer.judge.bounds) (f : s.offered ≡ g.stated.sets) (j : s.judged ≡ []).
    subst (λ (ex : Exchange). offers.IsOfferOf ex o s) c.exchange.ensures (c.begin.ensures.stands s (e ∙ sym c.exchange.ensures) p b (f ∙ sym c.sets.ensures.value) j) in
    subst (λ (stated : Stating). LeavesGroup Provisional g (record g { offer = o; stated = stated; next = coming.Offer })) (sym c.clear.ensures)
    (provisional_left g o c.requires.opened c.requires.kept (subst (λ (ex : Exchange). offers.IsKept ex o) c.exchange.ensures c.begin.ensures.kept) c.begin.ensures.bounds stands)
