-- `run` with valid files, no fault of the outside, and branches enough.
use Rattle.std.proofs.Common.{◌≡◌, ◌∙◌, ◌+◌, ◌*◌, ◌⊎◌, inl, inr, ◌<◌, ◌≤◌, ℕ, zero, suc, List, [], ◌∷◌, get_or, drop, Some, refl, sym, ap, subst, arith}
use Rattle.std.specs.Prelude.{slice_get}
use Rattle.std.specs.List.{AllByRecursion}
use Rattle.std.proofs.lemmas.Option.{none-some}
use Rattle.ice_defs.specs.Exchange.{Exchange}
use Rattle.ice_edge.specs.declared.status.Status.{Status}
use Rattle.ice_edge.specs.declared.status.Status.TheVariants.{Done, Words, Input, No, Spent, Limit, ReadFault, WriteFault, NoMemory, StillOpen}
use Rattle.ice_session_laws.specs.Branches.{enough_for_session}
use Rattle.ice_command_parts.specs.Call.{Call}
use Rattle.ice_words.specs.Command.{check, best, regret, xor, replay, gen, run, migrate, simulate, statement, audit, fair, gap, IsCommand}
use Rattle.ice_session_commands.specs.RunServed.{RunAnswers, RunRefused, RunUnread}
use Rattle.ice_session_commands.specs.RunServed as served
use Rattle.ice_cli.specs.Served.{IsServed, no_command, answers, cut_short}
use Rattle.ice_cli.specs.Completeness.{IsFaultless, IsValidExchange, IsValidRound, RunCompletes}
use Rattle.ice_cli.proofs.Readings.{exchange_stands, round_stands, has_enough, has_rounds}

-- the first letter of the first word and its third
abbrev pub letters : List (List ℕ) → ℕ
letters words = 256 * get_or (get_or words 0 []) 0 0 + get_or (get_or words 0 []) 2 0

run_answers : (call : Call) (exchange : List ℕ) (rounds : List (List ℕ)) → IsServed call → IsCommand call.words (run exchange rounds) → IsFaultless call → RunAnswers call exchange rounds call.status
run_answers call exchange rounds (no_command refuses) is faultless = absurd (refuses.none (run exchange rounds) is)
run_answers call exchange rounds (answers (run name files) other answer) is faultless =
    let same = sym other.1 ∙ is.1 in
    let P : List ℕ → Type 0 = λ file. RunAnswers call file files call.status in
    let Q : List (List ℕ) → Type 0 = λ others. RunAnswers call exchange others call.status in
    subst Q (ap (λ (words : List (List ℕ)). drop 2 words) same) (subst P (ap (λ (words : List (List ℕ)). get_or words 1 []) same) answer)
run_answers call exchange rounds (answers (check name) other answer) is faultless = let differ : 25445 ≡ 29294 = ap letters (sym other.1 ∙ is.1) in absurd (omega (arith, differ))
run_answers call exchange rounds (answers (best name prices) other answer) is faultless = let differ : 25203 ≡ 29294 = ap letters (sym other.1 ∙ is.1) in absurd (omega (arith, differ))
run_answers call exchange rounds (answers (regret name) other answer) is faultless = let differ : 29287 ≡ 29294 = ap letters (sym other.1 ∙ is.1) in absurd (omega (arith, differ))
run_answers call exchange rounds (answers (xor file) other answer) is faultless = let differ : 30834 ≡ 29294 = ap letters (sym other.1 ∙ is.1) in absurd (omega (arith, differ))
run_answers call exchange rounds (answers (replay name number) other answer) is faultless = let differ : 29296 ≡ 29294 = ap letters (sym other.1 ∙ is.1) in absurd (omega (arith, differ))
run_answers call exchange rounds (answers (gen number) other answer) is faultless = let differ : 26478 ≡ 29294 = ap letters (sym other.1 ∙ is.1) in absurd (omega (arith, differ))
run_answers call exchange rounds (answers (migrate name) other answer) is faultless = let differ : 28007 ≡ 29294 = ap letters (sym other.1 ∙ is.1) in absurd (omega (arith, differ))
run_answers call exchange rounds (answers (simulate name truths) other answer) is faultless = let differ : 29549 ≡ 29294 = ap letters (sym other.1 ∙ is.1) in absurd (omega (arith, differ))
run_answers call exchange rounds (answers (statement name bidder) other answer) is faultless = let differ : 29537 ≡ 29294 = ap letters (sym other.1 ∙ is.1) in absurd (omega (arith, differ))
run_answers call exchange rounds (answers (audit file) other answer) is faultless = let differ : 24932 ≡ 29294 = ap letters (sym other.1 ∙ is.1) in absurd (omega (arith, differ))
run_answers call exchange rounds (answers (fair name) other answer) is faultless = let differ : 26217 ≡ 29294 = ap letters (sym other.1 ∙ is.1) in absurd (omega (arith, differ))
run_answers call exchange rounds (answers (gap name) other answer) is faultless = let differ : 26480 ≡ 29294 = ap letters (sym other.1 ∙ is.1) in absurd (omega (arith, differ))
run_answers call exchange rounds (cut_short text status failed rose served front) is faultless = absurd (faultless.writes rose)

-- each round file is valid
valid_at : (call : Call) (rounds : List (List ℕ)) (k : ℕ) (file : List ℕ) → AllByRecursion (IsValidRound call) rounds → slice_get rounds k ≡ Some file → IsValidRound call file
valid_at call [] k file all there = absurd (none-some file there)
valid_at call (name ∷ rounds) zero file all there = let same : name ≡ file = cc in subst (IsValidRound call) same all.0
valid_at call (name ∷ rounds) (suc k) file all there = valid_at call rounds k file all.1 there

module _ (call : Call) (exchange : List ℕ) (rounds : List (List ℕ)) (ex : Exchange) (faultless : IsFaultless call) (valid : IsValidExchange call exchange ex) (valid_rounds : AllByRecursion (IsValidRound call) rounds) where
  never_refused : RunRefused call exchange rounds → ⊥
  never_refused (served.at_start fault why text) = exchange_stands call exchange ex fault faultless valid why
  never_refused (served.in_round before number file fault count there why so_far text) = round_stands call file fault faultless (valid_at call rounds number file valid_rounds there) why

  never_unread : RunUnread call exchange rounds → ⊥
  never_unread (served.at_start rose text) = faultless.reads exchange rose
  never_unread (served.in_round before number file count there rose so_far text) = faultless.reads file rose

  ends : (status : Status) → enough_for_session ex ≤ ex.settings.branches → RunAnswers call exchange rounds status → (status ≡ Done) ⊎ (status ≡ StillOpen) ⊎ ((status ≡ Limit) × (0 < ex.settings.rounds)) ⊎ (status ≡ NoMemory)
  ends Done enough answer = inl refl
  ends StillOpen enough answer = inr (inl refl)
  ends Limit enough answer = inr (inr (inl (refl, has_rounds call exchange ex valid answer.allows_rounds)))
  ends NoMemory enough answer = inr (inr (inr refl))
  ends Input enough answer = absurd (never_refused answer)
  ends Spent enough answer = absurd (has_enough call exchange ex enough_for_session valid enough answer.few)
  ends ReadFault enough answer = absurd (never_unread answer)
  ends Words enough answer = absurd answer
  ends No enough answer = absurd answer
  ends WriteFault enough answer = absurd answer

pub run_completes : RunCompletes
run_completes call exchange rounds ex served is faultless valid valid_rounds enough = ends call exchange rounds ex faultless valid valid_rounds call.status enough (run_answers call exchange rounds served is faultless)
