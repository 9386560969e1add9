-- So many branches that no search is spent.
use Rattle.std.specs.Prelude.{ℕ, ◌+◌, ◌*◌, ◌^◌, length, sum_by}
use Rattle.ice_defs.specs.Exchange.{Exchange, trees_of}

abbrev pub node_total : Exchange → ℕ
node_total ex = sum_by (λ t. length t) (trees_of ex)

-- a session has at most this many searches, and each
-- uses fewer branches than 2 to the number of nodes
abbrev pub enough_for_session : Exchange → ℕ
enough_for_session ex = (3 * ex.settings.rounds + 2 + length ex.bidders) * 2 ^ node_total ex

-- two searches
abbrev pub enough_for_regret : Exchange → ℕ
enough_for_regret ex = 2 * 2 ^ node_total ex
