-- Derived goods that are shown stand behind others.
use Rattle.std.proofs.Common.{◌≡◌, ◌∙◌, Bool, List, [], ◌∷◌, ◌++◌, ap, sym, append_assoc, append-nil}
use Rattle.ice_defs.specs.Tree.{Tree}
use Rattle.ice_defs.proofs.Lists.{all-append}
use Rattle.ice_separation.specs.Derivations.{DerivationView, IsDerivation}
use Rattle.ice_tolled_search.specs.Stated.{AddsShown}

module _ (ts : List Tree) (exact : List Bool) (xs ys : List DerivationView) where
  pub adds_none : ys ≡ xs → AddsShown ts exact xs ys
  adds_none same = record { more = []; items = same ∙ sym (append-nil xs); each = tt }

  pub adds_one : (zs : List DerivationView) (d : DerivationView) → AddsShown ts exact xs ys → zs ≡ ys ++ d ∷ [] → IsDerivation ts exact d → AddsShown ts exact xs zs
  adds_one zs d adds one is = record {
    more = adds.more ++ d ∷ [];
    items = one ∙ ap (λ l. l ++ d ∷ []) adds.items ∙ append_assoc xs adds.more (d ∷ []);
    each = all-append (IsDerivation ts exact) adds.more (d ∷ []) adds.each (is, tt);
  }

  pub adds_more : (zs : List DerivationView) → AddsShown ts exact xs ys → AddsShown ts exact ys zs → AddsShown ts exact xs zs
  adds_more zs adds others = record {
    more = adds.more ++ others.more;
    items = others.items ∙ ap (λ l. l ++ others.more) adds.items ∙ append_assoc xs adds.more others.more;
    each = all-append (IsDerivation ts exact) adds.more others.more adds.each others.each;
  }
