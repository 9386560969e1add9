-- Sets of nodes: all of one length, and those that a free fixing lets through.
use Rattle.std.proofs.Common.{ℕ, zero, suc, ◌≡◌, true, false, [], ◌∷◌, length, arith, replicate, refl, sym, subst}
use Rattle.ice_defs.specs.Set.{NodeSet, has}
use Rattle.ice_defs.specs.declared.Mark.TheVariants.{Free}
use Rattle.ice_defs.specs.Fixing.{Agrees, Meets, mark_of}

-- ---- all sets of one length, by their first node

-- a set of no node
pub set_of_none : (P : NodeSet → Type 0) → P [] → (s : NodeSet) → length s ≡ 0 → P s
set_of_none P here [] same = here
set_of_none P here (x ∷ s) same = absurd (omega arith)

-- a set of one node more
pub set_of_more : (n : ℕ) (P : NodeSet → Type 0) → ((s : NodeSet) → length s ≡ n → P (false ∷ s)) → ((s : NodeSet) → length s ≡ n → P (true ∷ s)) → (s : NodeSet) → length s ≡ suc n → P s
set_of_more n P without inside [] same = absurd (omega arith)
set_of_more n P without inside (false ∷ s) same = without s (omega arith)
set_of_more n P without inside (true ∷ s) same = inside s (omega arith)

-- ---- free fixings

pub free_at : (m n : ℕ) → mark_of (replicate m Free) n ≡ Free
free_at zero n = refl
free_at (suc m) zero = refl
free_at (suc m) (suc n) = free_at m n

-- with every node free each set meets the fixing
pub meets_free : (s : NodeSet) (m : ℕ) → Meets s (replicate m Free)
meets_free s m n h = subst (λ y. Agrees y (has s n)) (sym (free_at m n)) tt
