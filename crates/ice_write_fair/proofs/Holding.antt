-- The numbers of bidders, one bidder after another.
use Rattle.std.proofs.Common.{◌≡◌, refl, ℕ, ◌+◌, ◌<◌, List, ◌++◌, length, drop, add-one, drop-cons}
use Rattle.std.specs.Prelude.{slice_index_or}
use Rattle.ice_write_fair.specs.Lines.{hold_text, hold_lines}

pub holds_open : (low high : List ℕ) (b : ℕ) → b < length low → b < length high
    → hold_lines b (drop b low) (drop b high) ≡ hold_text b (slice_index_or low b 0) (slice_index_or high b 0) ++ hold_lines (b + 1) (drop (b + 1) low) (drop (b + 1) high)
holds_open low high b there too = rw (drop-cons low b 0 there, drop-cons high b 0 too, add-one b) refl
