-- What `xor` writes at each status.
use Rattle.std.specs.Prelude.{ℕ, ◌≡◌, ◌⊎◌, List, [], ◌∷◌, ◌++◌, codes, decimal, None, Some, Ok, Err}
use Rattle.ice_edge.specs.declared.status.Status.{Status}
use Rattle.ice_edge.specs.declared.status.Status.TheVariants.{Done, Input, ReadFault, NoMemory}
use Rattle.ice_defs.specs.FileFault.{FileFault, at_path}
use Rattle.ice_read.specs.Written.{exchange_text}
use Rattle.ice_xor.specs.FlatBids.{FlatExchange, translation}
use Rattle.ice_xor.specs.FlatFile.{flat_of}
use Rattle.ice_xor.specs.Translating.{Refusal, translate_refusal}
use Rattle.ice_command_parts.specs.Call.{Call, FaultRose, file_limit, OfFile, IsRefused}
use Rattle.ice_command_parts.specs.Lines.{refused_line, unread_line}

abbrev pub bidder_fault : Refusal → FileFault
bidder_fault r = at_path r.fault (codes "bidders" ∷ decimal r.bidder ∷ [])

-- the file has a fault, or a maker refuses what it says
abbrev pub IsFlatFault : List ℕ → FileFault → Type 0
IsFlatFault bytes fault =
    (flat_of bytes ≡ Err fault)
    ⊎ ((flat : FlatExchange) × (r : Refusal) × (flat_of bytes ≡ Ok flat) × (translate_refusal flat ≡ Some r) × (fault ≡ bidder_fault r))

-- one line, which is the exchange that the flat bids say
abbrev pub IsTranslation : FlatExchange → List ℕ → Type 0
IsTranslation flat text = (translate_refusal flat ≡ None) × (text ≡ exchange_text (translation flat) ++ 10 ∷ [])

-- the flat bids of a file's bytes, and that line
abbrev pub IsTranslationOf : List ℕ → List ℕ → Type 0
IsTranslationOf bytes text = (flat : FlatExchange) × (flat_of bytes ≡ Ok flat) × IsTranslation flat text

abbrev pub XorAnswers : Call → List ℕ → Status → Type 0
XorAnswers call file Done = (flat : FlatExchange) × OfFile call file file_limit (λ bytes. flat_of bytes ≡ Ok flat)
    × IsTranslation flat call.text
XorAnswers call file Input = (fault : FileFault) × IsRefused call file file_limit IsFlatFault fault × (call.text ≡ refused_line 1 fault)
XorAnswers call file ReadFault = FaultRose call file × (call.text ≡ unread_line 1)
XorAnswers call file NoMemory = call.text ≡ []
XorAnswers call file other = ⊥
