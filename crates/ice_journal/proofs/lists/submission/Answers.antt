use Rattle.std.proofs.Common.{◌≡◌, ◌++◌, ◌∷◌, [], append-nil, sym, ◌∙◌}
use Rattle.std.proofs.lemmas.Bool.{false≢true}
use Rattle.ice_journal.specs.Spelling.{counted_list}
use Rattle.ice_journal.proofs.lists.submission.Goals as goal

pub returns-in_err-hi : goal.returns-in_err-hi
returns-in_err-hi c = rw c.from_residual-in_err-hi.ensures (λ y h e.
    let shape : c.in_ok-next.field-0.now ∷ c.next.new.self ≡ y.name ∷ (counted_list y.lo ++ counted_list y.hi) = sym c.in_ok-next.ensures ∙ e in
    let more : c.next.new.self ≡ counted_list y.lo ++ counted_list y.hi = cc in
    let los = c.in_ok-lo.ensures.2 y.lo (counted_list y.hi) (h.lo_count, h.lo) more in
    c.in_err-hi.ensures y.hi [] (h.hi_count, h.hi) (sym los.1 ∙ sym (append-nil (counted_list y.hi))))

pub returns-then-not-is_end : goal.returns-then-not-is_end
returns-then-not-is_end c = λ y h e.
    let shape : c.in_ok-next.field-0.now ∷ c.next.new.self ≡ y.name ∷ (counted_list y.lo ++ counted_list y.hi) = sym c.in_ok-next.ensures ∙ e in
    let more : c.next.new.self ≡ counted_list y.lo ++ counted_list y.hi = cc in
    let los = c.in_ok-lo.ensures.2 y.lo (counted_list y.hi) (h.lo_count, h.lo) more in
    let his = c.in_ok-hi.ensures.2 y.hi [] (h.hi_count, h.hi) (sym los.1 ∙ sym (append-nil (counted_list y.hi))) in
    false≢true (sym c.if-not-is_end.true ∙ c.is_end.ensures.1 (sym his.1))
