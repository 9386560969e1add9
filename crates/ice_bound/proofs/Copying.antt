-- Copies of fixings.
use Rattle.std.proofs.Common.{ℕ, ◌+◌, ◌<◌, ◌≡◌, ◌≢◌, List, [], length, get_or, set, arith, ap, sym, ◌∙◌, ◌⊎◌, inl, inr, below_more, get_or-set_same, get_or-set_other}
use Rattle.std.proofs.lemmas.Bool.{cases_eq}
use Rattle.std.proofs.lemmas.List.{ext_get_or, length-set}
use Rattle.ice_defs.specs.declared.Mark.TheVariants.{Free}
use Rattle.ice_defs.specs.Fixing.{Fixing, mark_of}
use Rattle.ice_defs.specs.Trade.{fixing_of}

-- one bidder's fixing is copied, and the others stay
pub copied_one : (marks copy : List Fixing) (b : ℕ) (from : Fixing) → b < length marks → length copy ≡ length marks → length (fixing_of copy b) ≡ length from
    → ((n : ℕ) → n < length from → mark_of (fixing_of copy b) n ≡ mark_of from n) → ((c : ℕ) → (c ≡ b → ⊥) → fixing_of copy c ≡ fixing_of marks c) → copy ≡ set marks b from
copied_one marks copy b from there bidders nodes copied others = ext_get_or [] copy (set marks b from) (bidders ∙ sym (length-set marks b from)) (λ c h. by c (cases_eq c b))
  where
    by : (c : ℕ) → (c ≡ b) ⊎ (c ≡ b → ⊥) → get_or copy c [] ≡ get_or (set marks b from) c []
    by c (inl e) =
        ap (λ k. get_or copy k []) e ∙ ext_get_or Free (fixing_of copy b) from nodes (λ n h. copied n (omega (arith, h, nodes)))
        ∙ sym (get_or-set_same marks b from [] there) ∙ ap (λ k. get_or (set marks b from) k []) (sym e)
    by c (inr ne) = others c ne ∙ sym (get_or-set_other marks b c from [] ne)

-- a fixing of as many nodes changes no number of nodes
pub same_nodes-set : (marks : List Fixing) (b : ℕ) (x : Fixing) → b < length marks → length x ≡ length (fixing_of marks b) → (c : ℕ) → length (fixing_of (set marks b x) c) ≡ length (fixing_of marks c)
same_nodes-set marks b x there size c = by (cases_eq c b)
  where
    by : (c ≡ b) ⊎ (c ≡ b → ⊥) → length (fixing_of (set marks b x) c) ≡ length (fixing_of marks c)
    by (inl e) = ap (λ k. length (fixing_of (set marks b x) k)) e ∙ ap length (get_or-set_same marks b x [] there) ∙ size ∙ ap (λ k. length (fixing_of marks k)) (sym e)
    by (inr ne) = ap length (get_or-set_other marks b c x [] ne)

-- one bidder more
pub copied_more : (marks from : List Fixing) (b : ℕ) (x : Fixing) → b < length marks → x ≡ fixing_of from b → ((c : ℕ) → c < b → fixing_of marks c ≡ fixing_of from c)
    → (c : ℕ) → c < b + 1 → fixing_of (set marks b x) c ≡ fixing_of from c
copied_more marks from b x there is before =
    below_more (λ c. fixing_of (set marks b x) c ≡ fixing_of from c) b
    (λ c h. let ne : c ≢ b = omega (arith, h) in get_or-set_other marks b c x [] ne ∙ before c h)
    (get_or-set_same marks b x [] there ∙ is)

pub copied_all : (marks from : List Fixing) → length from ≡ length marks → ((b : ℕ) → b < length from → fixing_of marks b ≡ fixing_of from b) → marks ≡ from
copied_all marks from count copied = ext_get_or [] marks from (sym count) (λ b h. copied b (omega (arith, h, count)))
