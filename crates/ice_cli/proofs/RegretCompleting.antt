-- `regret` with a valid file, no fault of the outside, and branches enough.
use Rattle.std.proofs.Common.{◌≡◌, ◌∙◌, ◌⊎◌, inl, inr, ◌≤◌, ℕ, List, [], length, get_or, refl, sym, ap, subst, arith}
use Rattle.ice_defs.specs.Exchange.{Exchange}
use Rattle.ice_edge.specs.declared.status.Status.{Status}
use Rattle.ice_edge.specs.declared.status.Status.TheVariants.{Done, Words, Input, No, Spent, Limit, ReadFault, WriteFault, NoMemory, StillOpen}
use Rattle.ice_session_laws.specs.Branches.{enough_for_regret}
use Rattle.ice_command_parts.specs.Call.{Call}
use Rattle.ice_words.specs.Command.{check, best, regret, xor, replay, gen, run, migrate, simulate, statement, audit, fair, gap, IsCommand}
use Rattle.ice_commands.specs.RegretServed.{RegretAnswers}
use Rattle.ice_cli.specs.Served.{IsServed, no_command, answers, cut_short}
use Rattle.ice_cli.specs.Completeness.{IsFaultless, IsValidExchange, RegretCompletes}
use Rattle.ice_cli.proofs.Readings.{exchange_stands, has_enough}

-- the length of the first word
abbrev size : List (List ℕ) → ℕ
size words = length (get_or words 0 [])

regret_answers : (call : Call) (exchange : List ℕ) → IsServed call → IsCommand call.words (regret exchange) → IsFaultless call → RegretAnswers call exchange call.status
regret_answers call exchange (no_command refuses) is faultless = absurd (refuses.none (regret exchange) is)
regret_answers call exchange (answers (regret name) other answer) is faultless =
    let P : List ℕ → Type 0 = λ file. RegretAnswers call file call.status in
    subst P (ap (λ (words : List (List ℕ)). get_or words 1 []) (sym other.1 ∙ is.1)) answer
regret_answers call exchange (answers (check name) other answer) is faultless = let sizes : 5 ≡ 6 = ap size (sym other.1 ∙ is.1) in absurd (omega (arith, sizes))
regret_answers call exchange (answers (best name prices) other answer) is faultless = let sizes : 4 ≡ 6 = ap size (sym other.1 ∙ is.1) in absurd (omega (arith, sizes))
regret_answers call exchange (answers (xor file) other answer) is faultless = let sizes : 3 ≡ 6 = ap size (sym other.1 ∙ is.1) in absurd (omega (arith, sizes))
regret_answers call exchange (answers (run name rounds) other answer) is faultless = let sizes : 3 ≡ 6 = ap size (sym other.1 ∙ is.1) in absurd (omega (arith, sizes))
regret_answers call exchange (answers (replay name number) other answer) is faultless = let lengths : 3 ≡ 2 = ap (λ (words : List (List ℕ)). length words) (sym other.1 ∙ is.1) in absurd (omega (arith, lengths))
regret_answers call exchange (answers (gen number) other answer) is faultless = let sizes : 3 ≡ 6 = ap size (sym other.1 ∙ is.1) in absurd (omega (arith, sizes))
regret_answers call exchange (answers (migrate name) other answer) is faultless = let sizes : 7 ≡ 6 = ap size (sym other.1 ∙ is.1) in absurd (omega (arith, sizes))
regret_answers call exchange (answers (simulate name truths) other answer) is faultless = let lengths : 3 ≡ 2 = ap (λ (words : List (List ℕ)). length words) (sym other.1 ∙ is.1) in absurd (omega (arith, lengths))
regret_answers call exchange (answers (statement name bidder) other answer) is faultless = let lengths : 3 ≡ 2 = ap (λ (words : List (List ℕ)). length words) (sym other.1 ∙ is.1) in absurd (omega (arith, lengths))
regret_answers call exchange (answers (audit file) other answer) is faultless = let sizes : 5 ≡ 6 = ap size (sym other.1 ∙ is.1) in absurd (omega (arith, sizes))
regret_answers call exchange (answers (fair name) other answer) is faultless = let sizes : 4 ≡ 6 = ap size (sym other.1 ∙ is.1) in absurd (omega (arith, sizes))
regret_answers call exchange (answers (gap name) other answer) is faultless = let sizes : 3 ≡ 6 = ap size (sym other.1 ∙ is.1) in absurd (omega (arith, sizes))
regret_answers call exchange (cut_short text status failed rose served front) is faultless = absurd (faultless.writes rose)

ends : (call : Call) (exchange : List ℕ) (ex : Exchange) (status : Status) → IsFaultless call → IsValidExchange call exchange ex → enough_for_regret ex ≤ ex.settings.branches → RegretAnswers call exchange status → (status ≡ Done) ⊎ (status ≡ NoMemory)
ends call exchange ex Done faultless valid enough answer = inl refl
ends call exchange ex NoMemory faultless valid enough answer = inr refl
ends call exchange ex Input faultless valid enough (fault, refused, text) = absurd (exchange_stands call exchange ex fault faultless valid refused)
ends call exchange ex Spent faultless valid enough answer = absurd (has_enough call exchange ex enough_for_regret valid enough answer.few)
ends call exchange ex ReadFault faultless valid enough answer = absurd (faultless.reads exchange answer.0)
ends call exchange ex Words faultless valid enough answer = absurd answer
ends call exchange ex No faultless valid enough answer = absurd answer
ends call exchange ex Limit faultless valid enough answer = absurd answer
ends call exchange ex WriteFault faultless valid enough answer = absurd answer
ends call exchange ex StillOpen faultless valid enough answer = absurd answer

pub regret_completes : RegretCompletes
regret_completes call exchange ex served is faultless valid enough = ends call exchange ex call.status faultless valid enough (regret_answers call exchange served is faultless)
