-- It is decided whether a set serves a trade.
use Rattle.std.proofs.Common.{ℕ, ◌<◌, ◌≤◌, ◌≡◌, Bool, true, false, IsTrue, List, length, refl, arith, ◌⊎◌, inl, inr}
use Rattle.std.proofs.lemmas.Bool.{cases_lt}
use Rattle.ice_defs.specs.declared.NodeKind.{NodeKind}
use Rattle.ice_defs.specs.declared.NodeKind.TheVariants.{Choose, Buy, Sell}
use Rattle.ice_defs.specs.Tree.{Tree, kind_of, parent_of}
use Rattle.ice_defs.specs.Set.{NodeSet, has, children_inside, IsWithin, IsSatisfied, units}
use Rattle.ice_defs.specs.Trade.{is_exact, IsCovered}
use Rattle.ice_defs.specs.Market.{Trade, Fits, Serves}
use Rattle.ice_defs.proofs.Decided.{decided_both, decided_below, decided_covered, decided_implied, IsDecided}

-- ---- numbers and truth values

decided_true : (b : Bool) → IsDecided (IsTrue b)
decided_true true = inl refl
decided_true false = inr (λ h. let e : false ≡ true = h in absurd (cc))

decided_lt : (m n : ℕ) → IsDecided (m < n)
decided_lt m n = by (cases_lt m n)
  where
    by : (m < n) ⊎ (n ≤ m) → IsDecided (m < n)
    by (inl l) = inl l
    by (inr l) = inr (λ h. absurd (omega (arith, h, l)))

decided_le : (m n : ℕ) → IsDecided (m ≤ n)
decided_le m n = by (cases_lt n m)
  where
    by : (n < m) ⊎ (m ≤ n) → IsDecided (m ≤ n)
    by (inl l) = inr (λ h. absurd (omega (arith, h, l)))
    by (inr l) = inl l

-- ---- sets

decided_within : (kind : NodeKind) (n : ℕ) → IsDecided (IsWithin kind n)
decided_within (Choose least most) n = decided_both (decided_le least n) (decided_le n most)
decided_within (Buy good amount) n = inl tt
decided_within (Sell good amount) n = inl tt

abbrev ParentsInside : Tree → NodeSet → Type 0
ParentsInside t s = (c : ℕ) → c < length t → 0 < c → IsTrue (has s c) → IsTrue (has s (parent_of t c))

abbrev CountsInside : Tree → NodeSet → Type 0
CountsInside t s = (n : ℕ) → n < length t → IsTrue (has s n) → IsWithin (kind_of t n) (children_inside t s n)

decided_satisfied : (t : Tree) (s : NodeSet) → length s ≡ length t → IsDecided (IsSatisfied t s)
decided_satisfied t s size =
    by (decided_below (λ c. 0 < c → IsTrue (has s c) → IsTrue (has s (parent_of t c))) (length t)
    (λ c. decided_implied (decided_lt 0 c) (decided_implied (decided_true (has s c)) (decided_true (has s (parent_of t c))))))
    (decided_below (λ n. IsTrue (has s n) → IsWithin (kind_of t n) (children_inside t s n)) (length t)
    (λ n. decided_implied (decided_true (has s n)) (decided_within (kind_of t n) (children_inside t s n))))
  where
    by : IsDecided (ParentsInside t s) → IsDecided (CountsInside t s) → IsDecided (IsSatisfied t s)
    by (inl parents) (inl counts) = inl record { same_length = size; parent_inside = λ c later l inside. parents c l later inside; count_inside = counts }
    by (inl parents) (inr refuted) = inr (λ is. refuted is.count_inside)
    by (inr refuted) counts = inr (λ is. refuted (λ c l later inside. is.parent_inside c later l inside))

decided_fits : (exact : List Bool) (t : Tree) (s : NodeSet) (trade : Trade) → IsDecided (Fits exact t s trade)
decided_fits exact t s trade = decided_below (λ g. IsCovered (is_exact exact g) (units t s g) (trade g)) (length exact) (λ g. decided_covered (is_exact exact g) (units t s g) (trade g))

pub decided_serves : (exact : List Bool) (t : Tree) (trade : Trade) (s : NodeSet) → length s ≡ length t → IsDecided (Serves exact t trade s)
decided_serves exact t trade s size = decided_both (decided_satisfied t s size) (decided_fits exact t s trade)
