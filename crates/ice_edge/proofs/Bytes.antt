-- What readers give and writers take, where their bytes are known.
use Rattle.std.proofs.Common.{◌≡◌, ◌∙◌, ap, sym, subst, ℕ, ◌+◌, ◌-◌, ◌<◌, ◌≤◌, List, [], ◌++◌, length, length-drop, take, drop, Option, Some, None, IfSome, arith}
use Rattle.std.proofs.lemmas.List.{length-take, take_all}
use Rattle.std.proofs.Math.Seq.{take-add}
use Rattle.std.specs.Option.{option_map}
use Rattle.std.specs.Io.KnownBytes as known
use Rattle.std.proofs.KnownBytes.{Appends-trans}

-- ---- reading

-- fewer bytes than were asked for at most are all that was left
pub all_left : (left : Option (List ℕ)) (most : ℕ) (old bytes : List ℕ) → old ≡ [] → length bytes < most
    → IfSome (option_map (take most) left) (λ given. bytes ≡ old ++ given) → IfSome left (λ all. bytes ≡ all)
all_left None most old bytes empty few is = tt
all_left (Some all) most old bytes empty few is =
    let given : bytes ≡ take most all = is ∙ ap (λ (l : List ℕ). l ++ take most all) empty in
    let short : length all ≤ most = omega (arith, length-take most all, ap length given) in
    given ∙ take_all most all short

-- ---- writing

-- a writer that holds the front of a piece takes the next bytes of it
pub front_grows : (old mid new : Option (List ℕ)) (piece : List ℕ) (taken count : ℕ) → known.Appends old mid (take taken piece)
    → known.Appends mid new (take count (take (length piece - taken) (drop taken piece))) → known.Appends old new (take (taken + count) piece)
front_grows old mid new piece taken count before more =
    let rest : take (length piece - taken) (drop taken piece) ≡ drop taken piece = take_all (length piece - taken) (drop taken piece) (omega (arith, length-drop taken piece)) in
    let P : List ℕ → Type 0 = λ front. known.Appends old new front in
    let Q : List ℕ → Type 0 = λ left. known.Appends mid new (take count left) in
    subst P (sym (take-add taken count piece)) (Appends-trans old mid new (take taken piece) (take count (drop taken piece)) before (subst Q rest more))
