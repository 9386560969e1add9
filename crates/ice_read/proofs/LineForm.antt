-- A file in line form is no JSON.
use Rattle.std.proofs.Common.{◌≡◌, ℕ, List, ◌∷◌, Bool, true, false, None, refl}
use Rattle.std.specs.Prelude.{[]}
use Rattle.std.specs.Str.{is_utf8}
use Rattle.json.specs.Word.{word, after_number}
use Rattle.json.specs.Lex.{lex, punctuate}
use Rattle.json.specs.Json.{value}
use Rattle.serde_json.specs.Read.{read}
use Rattle.ice_defs.specs.FileFault.{refuse}
use Rattle.ice_read.specs.Values.{value_of}
use Rattle.ice_read.specs.ExchangeFile.{exchange_of}

unread : (rest : List ℕ) → read (105 ∷ rest) ≡ None
unfolding word after_number lex punctuate value
unread rest = refl

no_value : (rest : List ℕ) → value_of (105 ∷ rest) ≡ None
unfolding value_of
no_value rest = by (is_utf8 (105 ∷ rest)) refl
  where
    by : (b : Bool) → is_utf8 (105 ∷ rest) ≡ b → value_of (105 ∷ rest) ≡ None
    by true e = rw e (unread rest)
    by false e = rw e refl

-- bytes that begin as a file in line form are not JSON
pub line_form : (rest : List ℕ) → exchange_of (105 ∷ rest) ≡ refuse 1 []
line_form rest = rw (no_value rest)
