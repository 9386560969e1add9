use Rattle.std.proofs.Common.{◌∙◌, ◌<◌, ℕ, sym, ap, subst, length, get_or, arith}
use Rattle.std.proofs.lemmas.List.{length-map}
use Rattle.ice_defs.specs.Exchange.{Bidder, names_of}
use Rattle.ice_journal.specs.Ranges.{IsRecord}
use Rattle.ice_journal_laws.specs.Written.{payment_record}
use Rattle.ice_settled.specs.Shown.{payments_of}
use Rattle.ice_write_session.specs.Writable.{IsWritablePayment}
use Rattle.ice_write_session.proofs.Paying.{covers, payment_is, payment_fits, same_payment}
use Rattle.ice_write_session.proofs.payment.payment_line.Goals as goal

pub index-requires : goal.index-requires
index-requires c =
    let cl = c.args.charged.now in
    let named = length-map cl.exchange.bidders (λ (x : Bidder). x.name) in
    let all = covers (names_of cl.exchange) cl.vickreys.items cl.payments.discounts.items cl.payments.payments.items (c.requires.written.payments_count ∙ sym named) in
    omega (arith, c.from-at.ensures, c.requires.bidder, named, all.vickreys)

pub index-requires-2 : goal.index-requires-2
index-requires-2 c =
    let cl = c.args.charged.now in
    let named = length-map cl.exchange.bidders (λ (x : Bidder). x.name) in
    let all = covers (names_of cl.exchange) cl.vickreys.items cl.payments.discounts.items cl.payments.payments.items (c.requires.written.payments_count ∙ sym named) in
    omega (arith, c.from-at.ensures, c.requires.bidder, named, all.discounts)

pub index-requires-3 : goal.index-requires-3
index-requires-3 c =
    let cl = c.args.charged.now in
    let named = length-map cl.exchange.bidders (λ (x : Bidder). x.name) in
    let all = covers (names_of cl.exchange) cl.vickreys.items cl.payments.discounts.items cl.payments.payments.items (c.requires.written.payments_count ∙ sym named) in
    omega (arith, c.from-at.ensures, c.requires.bidder, named, all.payments)

pub paid_line-requires : goal.paid_line-requires
paid_line-requires c =
    let cl = c.args.charged.now in
    let names = names_of cl.exchange in
    let vs = cl.vickreys.items in
    let ds = cl.payments.discounts.items in
    let ps = cl.payments.payments.items in
    let b = c.args.bidder in
    let v = c.index.result.now in
    let d = c.index-2.result.now in
    let p = c.index-3.result.now in
    let there : b < length (payments_of names vs ds ps) = omega (arith, c.requires.bidder, c.requires.written.payments_count) in
    let same = same_payment names vs ds ps b c.copy.result v d p (c.copy.ensures.copy ∙ c.bidder_name.ensures) (c.index.ensures ∙ ap (λ (n : ℕ). get_or vs n v) c.from-at.ensures)
    (c.index-2.ensures ∙ ap (λ (n : ℕ). get_or ds n d) c.from-at.ensures) (c.index-3.ensures ∙ ap (λ (n : ℕ). get_or ps n p) c.from-at.ensures) in
    subst IsWritablePayment (sym same) (payment_fits names vs ds ps b v d p there c.requires.written.payments)

pub returns-clause-line : goal.returns-clause-line
returns-clause-line c =
    let cl = c.args.charged.now in
    let names = names_of cl.exchange in
    let vs = cl.vickreys.items in
    let ds = cl.payments.discounts.items in
    let ps = cl.payments.payments.items in
    let b = c.args.bidder in
    let v = c.index.result.now in
    let d = c.index-2.result.now in
    let p = c.index-3.result.now in
    let there : b < length (payments_of names vs ds ps) = omega (arith, c.requires.bidder, c.requires.written.payments_count) in
    let same = same_payment names vs ds ps b c.copy.result v d p (c.copy.ensures.copy ∙ c.bidder_name.ensures) (c.index.ensures ∙ ap (λ (n : ℕ). get_or vs n v) c.from-at.ensures)
    (c.index-2.ensures ∙ ap (λ (n : ℕ). get_or ds n d) c.from-at.ensures) (c.index-3.ensures ∙ ap (λ (n : ℕ). get_or ps n p) c.from-at.ensures) in
    c.paid_line.ensures ∙ ap payment_record (same ∙ sym (payment_is names vs ds ps b v d p there))

pub returns-clause-record : goal.returns-clause-record
returns-clause-record c =
    let cl = c.args.charged.now in
    let names = names_of cl.exchange in
    let vs = cl.vickreys.items in
    let ds = cl.payments.discounts.items in
    let ps = cl.payments.payments.items in
    let b = c.args.bidder in
    let v = c.index.result.now in
    let d = c.index-2.result.now in
    let p = c.index-3.result.now in
    let there : b < length (payments_of names vs ds ps) = omega (arith, c.requires.bidder, c.requires.written.payments_count) in
    let same = same_payment names vs ds ps b c.copy.result v d p (c.copy.ensures.copy ∙ c.bidder_name.ensures) (c.index.ensures ∙ ap (λ (n : ℕ). get_or vs n v) c.from-at.ensures)
    (c.index-2.ensures ∙ ap (λ (n : ℕ). get_or ds n d) c.from-at.ensures) (c.index-3.ensures ∙ ap (λ (n : ℕ). get_or ps n p) c.from-at.ensures) in
    subst IsRecord (sym (c.paid_line.ensures ∙ ap payment_record same)) (payment_fits names vs ds ps b v d p there c.requires.written.payments)
