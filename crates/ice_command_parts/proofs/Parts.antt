-- Parts of a call: what is told in one is told in the call.
use Rattle.std.proofs.Common.{◌≡◌, ◌∙◌, refl, sym, subst, ℕ, ◌≤◌, List, length, Option, Some, None, IfSome, arith}
use Rattle.std.proofs.lemmas.Option.{none-some}
use Rattle.ice_edge.specs.Told.{Told, IsLater}
use Rattle.ice_command_parts.specs.Call.{Call, OfTold, OfFile}
use Rattle.ice_command_parts.specs.Parts.{HasPart}

-- ---- what is told

pub later_refl : (shelf : Told) → IsLater shelf shelf
later_refl shelf = record { holds = λ name. refl; faults = λ name. omega arith; overlong = λ name limit. omega arith }

pub later_trans : (before mid after : Told) → IsLater before mid → IsLater mid after → IsLater before after
later_trans before mid after a b = record {
  holds = λ name. b.holds name ∙ a.holds name;
  faults = λ name. omega (arith, a.faults name, b.faults name);
  overlong = λ name limit. omega (arith, a.overlong name limit, b.overlong name limit);
}

pub later_part : (call : Call) (before mid after : Told) → HasPart call before after → IsLater before mid → HasPart call mid after
later_part call before mid after part later = record { begins = later_trans call.before before mid part.begins later; ends = part.ends }

-- what holds of the bytes that are told as a part begins holds of those told as the call does
pub told_in_call : (call : Call) (before after : Told) (name : List ℕ) (limit : ℕ) (P : List ℕ → Type 0) → HasPart call before after
    → OfTold limit P (before.holds name) → OfFile call name limit P
told_in_call call before after name limit P part h = subst (OfTold limit P) (part.begins.holds name) h

pub told_before : (before after : Told) (name : List ℕ) (limit : ℕ) (P : List ℕ → Type 0) → IsLater before after
    → OfTold limit P (after.holds name) → OfTold limit P (before.holds name)
told_before before after name limit P later h = subst (OfTold limit P) (later.holds name) h

-- what follows from what holds of the bytes that are told holds of them too
pub told_also : (told : Option (Option (List ℕ))) (limit : ℕ) (P Q : List ℕ → Type 0) → ((bytes : List ℕ) → P bytes → Q bytes) → OfTold limit P told → OfTold limit Q told
told_also None limit P Q also h = tt
told_also (Some None) limit P Q also h = h
told_also (Some (Some bytes)) limit P Q also h = (h.0, also bytes h.1)

-- what holds of bytes holds of what is told of them
pub of_fetched : (told : Option (Option (List ℕ))) (limit : ℕ) (bytes : List ℕ) (P : List ℕ → Type 0) → P bytes → OfTold limit (λ other. other ≡ bytes) told → OfTold limit P told
of_fetched None limit bytes P h same = tt
of_fetched (Some None) limit bytes P h same = same
of_fetched (Some (Some other)) limit bytes P h same = (same.0, subst P (sym same.1) h)

-- the bytes that a fetch gives are those that are told
pub fetched : (told : Option (Option (List ℕ))) (limit : ℕ) (bytes : List ℕ) → IfSome told (λ file. file ≡ Some bytes) → length bytes ≤ limit → OfTold limit (λ other. other ≡ bytes) told
fetched None limit bytes is fits = tt
fetched (Some None) limit bytes is fits = none-some bytes is
fetched (Some (Some other)) limit bytes is fits =
    let e : other ≡ bytes = cc in
    let P : List ℕ → Type 0 = λ b. length b ≤ limit in
    (subst P (sym e) fits, e)
