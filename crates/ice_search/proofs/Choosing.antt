-- The next part is the greatest open one.
use Rattle.std.proofs.Common.{ℕ, ◌<◌, ◌≡◌, true, length, sym, subst}
use Rattle.std.specs.Prelude.{slice_index}
use Rattle.ice_search_log.specs.Parts.{part_at}
use Rattle.ice_search_log.specs.Searching.{AreOpen, IsNext}
use Rattle.ice_search_log.proofs.Ending.{greatest_is_next}
use Rattle.ice_search.specs.Open.{IsGreatestOpen}
use Rattle.ice_search.specs.State.{State}

pub next_of : (s : State) (place number : ℕ) → IsGreatestOpen s.parts s.open_parts s.value place → AreOpen s.parts s.value s.open_parts → number ≡ slice_index s.open_parts place
    → number < length s.parts → (part_at s.parts number).swept ≡ true → IsNext s.parts s.value number
next_of s place number greatest opened e there swept =
    let is = subst (λ k. IsNext s.parts s.value k) (sym e) in
    is (greatest_is_next s.parts s.value s.open_parts (slice_index s.open_parts place) (subst (λ k. k < length s.parts) e there) greatest.whole (subst (λ k. (part_at s.parts k).swept ≡ true) e swept)
    greatest.above opened greatest.greatest)
