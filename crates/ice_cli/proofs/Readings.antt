-- Valid files have one reading, and aren't refused.
use Rattle.std.proofs.Common.{◌≡◌, ◌∙◌, ◌<◌, ◌≤◌, ℕ, Bool, true, false, sym, ap, subst, List, Option, Ok, Err, arith}
use Rattle.ice_defs.specs.Exchange.{Exchange}
use Rattle.ice_defs.specs.FileFault.{FileFault, Read}
use Rattle.ice_journal.proofs.Journals.{one_answer}
use Rattle.ice_section.specs.LineFile.{exchange_of_records, of_lines}
use Rattle.ice_read.specs.RoundFile.{bids_of}
use Rattle.ice_command_parts.specs.Call.{Call, IsTold, file_limit, OfTold, OfFile, IsRefused, too_long, at_fault}
use Rattle.ice_command_parts.specs.Files.{is_line_form, IsExchangeIn, IsExchangeOf, IsExchangeFault, IsRoundFault}
use Rattle.ice_command_parts.specs.Journals.{HasFewerThan}
use Rattle.ice_session_commands.specs.Rounds.{HasRounds}
use Rattle.ice_cli.specs.Completeness.{IsFaultless, IsValidExchange, IsValidRound}

-- what holds of a told file's bytes
pub of_told : (call : Call) (name bytes : List ℕ) (limit : ℕ) (P : List ℕ → Type 0) → IsTold call name bytes → OfFile call name limit P → P bytes
of_told call name bytes limit P told of = let Q : Option (Option (List ℕ)) → Type 0 = λ t. OfTold limit P t in (subst Q told of).1

reads_once : (k : Bool) (bytes : List ℕ) (a b : Read Exchange) → IsExchangeIn k bytes a → IsExchangeIn k bytes b → a ≡ b
reads_once true bytes a b (lines, is, e) (others, are, f) = e ∙ ap (of_lines exchange_of_records) (one_answer bytes lines others is are) ∙ sym f
reads_once false bytes a b e f = e ∙ sym f

-- bytes have one exchange, or one first fault
pub one_exchange : (bytes : List ℕ) (a b : Read Exchange) → IsExchangeOf bytes a → IsExchangeOf bytes b → a ≡ b
one_exchange bytes a b = reads_once (is_line_form bytes) bytes a b

abbrev found : Exchange → Read Exchange
found ex = Ok ex

found_once : (ex other : Exchange) → found ex ≡ found other → other ≡ ex
found_once ex other e = cc

-- a valid exchange file isn't refused
pub exchange_stands : (call : Call) (name : List ℕ) (ex : Exchange) (fault : FileFault) → IsFaultless call → IsValidExchange call name ex → IsRefused call name file_limit IsExchangeFault fault → ⊥
exchange_stands call name ex fault faultless valid (too_long rose long) = faultless.lengths name file_limit rose
exchange_stands call name ex fault faultless (bytes, told, short, is) (at_fault read fails held) =
    let same : bytes ≡ read = of_told call name bytes file_limit (λ b. b ≡ read) told held in
    let clash : Ok ex ≡ Err fault = one_exchange bytes (Ok ex) (Err fault) is (subst (λ (b : List ℕ). IsExchangeOf b (Err fault)) (sym same) fails) in
    absurd (cc)

-- nor is a valid round file
pub round_stands : (call : Call) (name : List ℕ) (fault : FileFault) → IsFaultless call → IsValidRound call name → IsRefused call name file_limit IsRoundFault fault → ⊥
round_stands call name fault faultless valid (too_long rose long) = faultless.lengths name file_limit rose
round_stands call name fault faultless (bytes, bids, told, short, is) (at_fault read fails held) =
    let same : bytes ≡ read = of_told call name bytes file_limit (λ b. b ≡ read) told held in
    let clash : Ok bids ≡ Err fault = sym is ∙ ap bids_of same ∙ fails in
    absurd (cc)

-- a valid exchange file with branches enough hasn't fewer
pub has_enough : (call : Call) (name : List ℕ) (ex : Exchange) (enough : Exchange → ℕ) → IsValidExchange call name ex → enough ex ≤ ex.settings.branches → HasFewerThan call name enough → ⊥
has_enough call name ex enough (bytes, told, short, is) le few =
    let (other, reads, fewer) = of_told call name bytes file_limit (λ b. (x : Exchange) × IsExchangeOf b (Ok x) × (x.settings.branches < enough x)) told few in
    let same : other ≡ ex = found_once ex other (one_exchange bytes (Ok ex) (Ok other) is reads) in
    let less : ex.settings.branches < enough ex = subst (λ (x : Exchange). x.settings.branches < enough x) same fewer in
    omega (arith, le, less)

-- what is told of its rounds is said of that exchange
pub has_rounds : (call : Call) (name : List ℕ) (ex : Exchange) → IsValidExchange call name ex → HasRounds call name → 0 < ex.settings.rounds
has_rounds call name ex (bytes, told, short, is) rounds =
    let (other, reads, more) = of_told call name bytes file_limit (λ b. (x : Exchange) × IsExchangeOf b (Ok x) × (0 < x.settings.rounds)) told rounds in
    subst (λ (x : Exchange). 0 < x.settings.rounds) (found_once ex other (one_exchange bytes (Ok ex) (Ok other) is reads)) more
