-- The commands, and the words that each is called by.
use Rattle.std.specs.Prelude.{ℕ, ◌<◌, ◌≤◌, ◌≡◌, ◌^◌, List, [], ◌∷◌, length, codes, decimal}

-- the words after the program's name; a file is named by any text
pub data Command : Type 0 where
  check : (journal : List ℕ) → Command
  best : (exchange prices : List ℕ) → Command
  regret : (exchange : List ℕ) → Command
  xor : (file : List ℕ) → Command
  replay : (journal : List ℕ) → (number : ℕ) → Command
  gen : (number : ℕ) → Command
  run : (exchange : List ℕ) → (rounds : List (List ℕ)) → Command
  migrate : (journal : List ℕ) → Command
  simulate : (exchange truths : List ℕ) → Command
  statement : (journal name : List ℕ) → Command
  audit : (file : List ℕ) → Command
  fair : (journal : List ℕ) → Command
  gap : (journal : List ℕ) → Command

abbrev pub words_of : Command → List (List ℕ)
words_of (check journal) = codes "check" ∷ journal ∷ []
words_of (best exchange prices) = codes "best" ∷ exchange ∷ prices ∷ []
words_of (regret exchange) = codes "regret" ∷ exchange ∷ []
words_of (xor file) = codes "xor" ∷ file ∷ []
words_of (replay journal number) = codes "replay" ∷ journal ∷ decimal number ∷ []
words_of (gen number) = codes "gen" ∷ decimal number ∷ []
words_of (run exchange rounds) = codes "run" ∷ exchange ∷ rounds
words_of (migrate journal) = codes "migrate" ∷ journal ∷ []
words_of (simulate exchange truths) = codes "simulate" ∷ exchange ∷ truths ∷ []
words_of (statement journal name) = codes "statement" ∷ journal ∷ name ∷ []
words_of (audit file) = codes "audit" ∷ file ∷ []
words_of (fair journal) = codes "fair" ∷ journal ∷ []
words_of (gap journal) = codes "gap" ∷ journal ∷ []

-- a session has at most 20 rounds, and a run as many round
-- files; the number of a generated exchange has 32 bits
abbrev pub IsLimited : Command → Type 0
IsLimited (replay journal number) = number ≤ 20
IsLimited (run exchange rounds) = length rounds ≤ 20
IsLimited (gen number) = number < 2 ^ 32
IsLimited other = Unit {0}

abbrev pub IsCommand : List (List ℕ) → Command → Type 0
IsCommand words c = IsLimited c × (words ≡ words_of c)

abbrev pub IsNoCommand : List (List ℕ) → Type 0
IsNoCommand words = (c : Command) → ¬ IsCommand words c
