-- The groups without each bidder, one after another.
use Rattle.std.proofs.Common.{◌≡◌, ℕ, suc, ◌+◌, ◌<◌, List, ◌++◌, length, map, drop, get_or, add-one, drop-cons}
use Rattle.ice_vickrey.specs.Marginals.{proved_without}
use Rattle.ice_vickrey.specs.declared.marginal.Marginal.{Marginal}
use Rattle.ice_journal.specs.Records.{version_2}
use Rattle.ice_journal.specs.Records as line
use Rattle.ice_journal.specs.Journal.{bytes_of}
use Rattle.ice_journal_laws.specs.Showing.{group_records}
use Rattle.ice_journal_laws.specs.ShowingSession.{without_group_records}
use Rattle.ice_write.proofs.Loops.{bytes_append}

-- the groups from this bidder on
abbrev pub groups_from : ℕ → ℕ → List Marginal → List ℕ
groups_from goods b ms = bytes_of (without_group_records version_2 goods b (map proved_without ms))

pub without_opens : (goods : ℕ) (ms : List Marginal) (b : ℕ) (m : Marginal) → b < length ms → get_or ms b m ≡ m
    → groups_from goods b (drop b ms) ≡ bytes_of (group_records version_2 goods (line.without b m.without) (proved_without m)) ++ groups_from goods (b + 1) (drop (b + 1) ms)
without_opens goods ms b m there is =
    rw (drop-cons ms b m there, is, add-one b) (bytes_append (group_records version_2 goods (line.without b m.without) (proved_without m)) (without_group_records version_2 goods (suc b) (map proved_without (drop (suc b) ms))))
