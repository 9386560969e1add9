-- A seller, sale by sale.
use Rattle.std.proofs.Common.{ℕ, zero, suc, ◌+◌, ◌*◌, ◌≡◌, true, false, ◌&&◌, ltb, eqb, List, [], ◌∷◌, length, None, refl, arith, ap, sym, ◌∙◌}
use Rattle.std.proofs.lemmas.List.{length_push}
use Rattle.std.proofs.Math.Numerals.{add-one}
use Rattle.std.proofs.lemmas.Bool.{and_right}
use Rattle.ice_defs.specs.declared.NodeKind.TheVariants.{Choose, Sell}
use Rattle.ice_defs.specs.Making.{is_complete, innermost}
use Rattle.ice_tree.specs.Making.{draft_close_refusal, all_but_first}
use Rattle.ice_gen.specs.declared.valued.Valued.{Valued}
use Rattle.ice_gen.specs.Generated.{draws, no_value, sale_value, seller, seller_draws}
use Rattle.ice_gen.specs.Drawing.{state_after}
use Rattle.ice_gen.specs.Growing.{ValuedDraft, no_nodes, with_valued, with_choose, draft_of}

-- the state after so many sales
unfoldable pub sale_state : ℕ → ℕ → ℕ
sale_state zero x = x
sale_state (suc j) x = state_after 3 (sale_state j x)

-- the tree after so many sales
unfoldable pub sold_by : ℕ → ℕ → ℕ → ValuedDraft
sold_by i zero x = with_choose no_nodes (Choose 0 3) no_value
sold_by i (suc j) x = with_valued (sold_by i j x) (Sell (3 * i + j) 1) (sale_value (draws (20 ∷ 10 ∷ 10 ∷ []) (sale_state j x)) 0)

pub sold_by-none : (i x : ℕ) → sold_by i 0 x ≡ with_choose no_nodes (Choose 0 3) no_value
unfolding sold_by
sold_by-none i x = refl

pub sale_state-none : (x : ℕ) → sale_state 0 x ≡ x
unfolding sale_state
sale_state-none x = refl

-- one sale more
pub sale-more : (i j x : ℕ) (was now : ValuedDraft) (before after : ℕ) (v : Valued) → was ≡ sold_by i j x → before ≡ sale_state j x
    → v ≡ sale_value (draws (20 ∷ 10 ∷ 10 ∷ []) before) 0 → after ≡ state_after 3 before → now ≡ with_valued was (Sell (3 * i + j) 1) v
    → (now ≡ sold_by i (j + 1) x) × (after ≡ sale_state (j + 1) x)
unfolding sold_by sale_state
sale-more i j x was now before after v is at value moved step = (
  step
      ∙ ap (λ d. with_valued d (Sell (3 * i + j) 1) v) is
      ∙ ap (λ w. with_valued (sold_by i j x) (Sell (3 * i + j) 1) w) (value ∙ ap (λ s. sale_value (draws (20 ∷ 10 ∷ 10 ∷ []) s) 0) at)
      ∙ ap (λ n. sold_by i n x) (sym (add-one j)),
  moved ∙ ap (state_after 3) at ∙ ap (λ n. sale_state n x) (sym (add-one j)),
)

pub opened-sold_by : (i j x : ℕ) → (sold_by i j x).opened ≡ 0 ∷ []
unfolding sold_by
opened-sold_by i zero x = refl
opened-sold_by i (suc j) x = opened-sold_by i j x

pub length-sold_by : (i j x : ℕ) → length (sold_by i j x).tree ≡ j + 1
unfolding sold_by
length-sold_by i zero x = refl
length-sold_by i (suc j) x =
    omega (arith, length_push (sold_by i j x).tree (record { kind = Sell (3 * i + j) 1; parent = innermost (sold_by i j x).opened }), length-sold_by i j x)

-- a tree whose root is open isn't complete
pub unfinished : (d : ValuedDraft) → d.opened ≡ 0 ∷ [] → is_complete (draft_of d) ≡ false
unfinished d root = ap (λ (l : List ℕ). ltb 0 (length d.tree) && eqb (length l) 0) root ∙ and_right (ltb 0 (length d.tree)) false refl

pub complete-sold : (i x : ℕ) → is_complete (draft_of (record (sold_by i 3 x) { opened = all_but_first (sold_by i 3 x).opened })) ≡ true
unfolding sold_by
complete-sold i x = refl

pub closes : (i x : ℕ) → draft_close_refusal (draft_of (sold_by i 3 x)) ≡ None
unfolding sold_by
closes i x = refl

pub tree-sold : (i x : ℕ) → (sold_by i 3 x).tree ≡ (seller i (draws seller_draws x)).tree
unfolding sold_by
tree-sold i x = refl

pub values-sold : (i x : ℕ) → (sold_by i 3 x).values ≡ (seller i (draws seller_draws x)).values
unfolding sold_by sale_state draws state_after
values-sold i x = refl

pub sale_state-all : (x : ℕ) → sale_state 3 x ≡ state_after 9 x
unfolding sale_state state_after
sale_state-all x = refl
