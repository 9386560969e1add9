-- Logs with derived goods: those by goods alone in 4096ths, more derived goods, and lawful lists.
use Rattle.std.proofs.Common.{ℕ, zero, suc, ◌+◌, ◌-◌, ◌<◌, ◌≤◌, ◌≡◌, Bool, false, List, [], ◌∷◌, ◌++◌, length, map, take, replicate, Ok, ℤ, pos, ◌*ℤ◌, arith, refl, sym, ◌∙◌, subst, ◌⊎◌, inl, inr, length-append}
use Rattle.std.specs.Prelude.{◌<ℤ◌}
use Rattle.std.specs.List.{AllByRecursion}
use Rattle.std.proofs.lemmas.Int.{ints}
use Rattle.std.proofs.lemmas.Bool.{cases_lt}
use Rattle.std.proofs.lemmas.List.{take-append-le, take_all, get_or_append_left, get_or_push, get_or_past, get_or-map, get_or-replicate, length-replicate, length-map}
use Rattle.std.proofs.Math.ListN.{get_or-append}
use Rattle.std.proofs.Math.Seq.{get_or-append_right}
use Rattle.ice_defs.specs.declared.Mark.TheVariants.{Never}
use Rattle.ice_defs.specs.Tree.{Tree}
use Rattle.ice_defs.specs.Set.{Weights}
use Rattle.ice_defs.specs.Trade.{is_exact}
use Rattle.ice_defs.specs.Bound.{Multipliers}
use Rattle.ice_defs.specs.Derived.{Derived, no_derived, derived_at, Means, goods_alone, with_derived, flags_of, IsBoundBy}
use Rattle.ice_defs.specs.Steps.{Step, branch, leaf, dead, Side, with_mark}
use Rattle.ice_defs.specs.Log.{HasWrongSign, ReadsBy, branches, is_dead_leaf, closes, is_dead}
use Rattle.ice_defs.specs.Follows.{Follows, AreLawful}
use Rattle.ice_bound.specs.Multipliers.{multiplier_of}
use Rattle.ice_bound.specs.Laws.{in_4096ths}
use Rattle.ice_bound.proofs.Derived.{plain_bound_is_bound, bound_stays}
use Rattle.ice_refute.specs.Code.{CountsGoods}
use Rattle.ice_refute.specs.Laws.{step_in_4096ths, PlainPasses, CountsUpTo, LogStays, LawfulGrows}

-- ---- signs

-- the goods are exact that were, and no derived one is
flag-same : (exact : List Bool) (n g : ℕ) → is_exact (exact ++ replicate n false) g ≡ is_exact exact g
flag-same exact n g = by (cases_lt g (length exact)) (cases_lt (g - length exact) n)
  where
    by : (g < length exact) ⊎ (length exact ≤ g) → (g - length exact < n) ⊎ (n ≤ g - length exact) → is_exact (exact ++ replicate n false) g ≡ is_exact exact g
    by (inl h) k = get_or-append exact (replicate n false) false g h
    by (inr h) (inl k) = get_or-append_right exact (replicate n false) g false h ∙ get_or-replicate n (g - length exact) false false k ∙ sym (get_or_past exact g false h)
    by (inr h) (inr k) =
        get_or-append_right exact (replicate n false) g false h ∙ get_or_past (replicate n false) (g - length exact) false (omega (arith, length-replicate n false, k))
        ∙ sym (get_or_past exact g false h)

-- a wrong sign stays one where the flags are the same and what is negative stays so
sign_over : (flags flags' : List Bool) (m m' : Multipliers) → ((g : ℕ) → is_exact flags g ≡ is_exact flags' g)
    → ((g : ℕ) → multiplier_of m g <ℤ pos 0 → multiplier_of m' g <ℤ pos 0) → length m ≤ length flags' → HasWrongSign flags m → HasWrongSign flags' m'
sign_over flags flags' m m' same below few (g, there, plain, is) = by (cases_lt g (length m))
  where
    by : (g < length m) ⊎ (length m ≤ g) → HasWrongSign flags' m'
    by (inl h) = (g, omega (arith, h, few), sym (same g) ∙ plain, below g is)
    by (inr h) = absurd (omega (arith, ints, is, get_or_past m g (pos 0) h))

-- ---- logs by goods alone, in 4096ths

scaled : (m : Multipliers) (g : ℕ) → multiplier_of (in_4096ths m) g ≡ pos 64 *ℤ multiplier_of m g
scaled m g = by (cases_lt g (length m))
  where
    by : (g < length m) ⊎ (length m ≤ g) → multiplier_of (in_4096ths m) g ≡ pos 64 *ℤ multiplier_of m g
    by (inl h) = get_or-map (λ z. pos 64 *ℤ z) m g (pos 0) (pos 0) h
    by (inr h) = omega (arith, ints, get_or_past m g (pos 0) h, get_or_past (in_4096ths m) g (pos 0) (omega (arith, length-map m (λ z. pos 64 *ℤ z), h)))

-- the steps that are left are fewer
fewer : (means : Means) (ts : List Tree) (exact : List Bool) (ws : List Weights) (target : ℤ) {side : Side} {log left : List Step}
    → ReadsBy means ts exact ws target side log (Ok left) → length left < length log
fewer means ts exact ws target (branches free must never) = omega (arith, fewer means ts exact ws target must, fewer means ts exact ws target never)
fewer means ts exact ws target (is_dead_leaf signs is) = omega arith
fewer means ts exact ws target (closes signs is small) = omega arith
fewer means ts exact ws target (is_dead is) = omega arith

module _ (ds : List Derived) (ts : List Tree) (exact : List Bool) (ws : List Weights) (target : ℤ) where
  flags : List Bool
  flags = flags_of (with_derived ds) exact

  module _ (m : Multipliers) (size : length m ≡ length exact) where
    sign_up : HasWrongSign exact m → HasWrongSign flags (in_4096ths m)
    unfolding flags
    sign_up = sign_over exact flags m (in_4096ths m) (λ g. sym (flag-same exact (length ds) g)) (λ g h. omega (arith, ints, scaled m g, h)) (omega (arith, size, length-append exact (replicate (length ds) false)))

    sign_down : HasWrongSign flags (in_4096ths m) → HasWrongSign exact m
    unfolding flags
    sign_down =
        sign_over flags exact (in_4096ths m) m (flag-same exact (length ds)) (λ g h. omega (arith, ints, scaled m g, h)) (omega (arith, size, length-map m (λ z. pos 64 *ℤ z)))

    few_goods : length m ≤ length exact
    few_goods = omega (arith, size)

  reads_up : {side : Side} {log left : List Step} → ReadsBy goods_alone ts exact ws target side log (Ok left) → AllByRecursion (CountsGoods (length exact)) log
      → ReadsBy (with_derived ds) ts exact ws target side (map step_in_4096ths log) (Ok (map step_in_4096ths left)) × AllByRecursion (CountsGoods (length exact)) left
  unfolding flags
  reads_up (branches free must never) counts =
      let first = reads_up must counts.1 in
      let second = reads_up never first.1 in
      (branches free first.0 second.0, second.1)
  reads_up (is_dead_leaf {m = m} signs is) counts = (is_dead_leaf (λ w. signs (sign_down m counts.0 w)) is, counts.1)
  reads_up (closes {side = side} {m = m} {v = v} signs is small) counts =
      (closes (λ w. signs (sign_down m counts.0 w)) ((plain_bound_is_bound ds ts exact ws m side v (few_goods m counts.0)).0 is) small, counts.1)
  reads_up (is_dead is) counts = (is_dead is, counts.1)

  -- the steps that are left of a log in 64ths
  record IsLeft (side : Side) (log left' : List Step) : Type 0 where
    left : List Step
    same : map step_in_4096ths left ≡ left'
    reads : ReadsBy goods_alone ts exact ws target side log (Ok left)
    counts : AllByRecursion (CountsGoods (length exact)) left

  reads_down : (n : ℕ) (log : List Step) {side : Side} {left' : List Step} → length log < n
      → ReadsBy (with_derived ds) ts exact ws target side (map step_in_4096ths log) (Ok left') → AllByRecursion (CountsGoods (length exact)) log → IsLeft side log left'
  unfolding flags
  reads_down zero log few is counts = absurd (omega (arith, few))
  reads_down (suc n) [] few is counts = elim is [ ]
  reads_down (suc n) (branch b k ∷ log) few (branches {side = side} {end = end} free must never) counts =
      let first = reads_down n log (omega (arith, few)) must counts.1 in
      let shorter : length first.left < length log = fewer goods_alone ts exact ws target first.reads in
      let second = reads_down n first.left (omega (arith, few, shorter))
      (subst (λ (l : List Step). ReadsBy (with_derived ds) ts exact ws target (with_mark side b k Never) l end) (sym first.same) never) first.counts in
      record { left = second.left; same = second.same; reads = branches free first.reads second.reads; counts = second.counts }
  reads_down (suc n) (leaf m ∷ log) few (is_dead_leaf signs is) counts =
      record { left = log; same = refl; reads = is_dead_leaf (λ w. signs (sign_up m counts.0 w)) is; counts = counts.1 }
  reads_down (suc n) (leaf m ∷ log) few (closes {side = side} {v = v} signs is small) counts = record {
    left = log;
    same = refl;
    reads = closes (λ w. signs (sign_up m counts.0 w)) ((plain_bound_is_bound ds ts exact ws m side v (few_goods m counts.0)).1 is) small;
    counts = counts.1;
  }
  reads_down (suc n) (dead b ∷ log) few (is_dead is) counts = record { left = log; same = refl; reads = is_dead is; counts = counts.1 }

none_left : (left : List Step) → map step_in_4096ths left ≡ [] → left ≡ []
none_left [] e = refl
none_left (x ∷ left) e = let apart : step_in_4096ths x ∷ map step_in_4096ths left ≡ [] = e in cc

pub plain_passes : PlainPasses
plain_passes ds ts exact ws target start log counts = (
  λ is. (reads_up ds ts exact ws target is counts).0,
  λ is.
      let all = reads_down ds ts exact ws target (suc (length log)) log (omega arith) is counts in
      subst (λ (l : List Step). ReadsBy goods_alone ts exact ws target start log (Ok l)) (none_left all.left all.same) all.reads,
)

-- ---- more derived goods

module _ (ts : List Tree) (exact : List Bool) (ws : List Weights) (target : ℤ) (ds es : List Derived) (most : ℕ)
    (signs_same : (m : Multipliers) → length m ≤ most → HasWrongSign (flags_of (with_derived es) exact) m → HasWrongSign (flags_of (with_derived ds) exact) m)
    (bounds_same : (m : Multipliers) (side : Side) (v : ℤ) → length m ≤ most → IsBoundBy (with_derived ds) ts exact ws m side v → IsBoundBy (with_derived es) ts exact ws m side v) where
  reads_over : {side : Side} {log left : List Step} → ReadsBy (with_derived ds) ts exact ws target side log (Ok left) → AllByRecursion (CountsUpTo most) log
      → ReadsBy (with_derived es) ts exact ws target side log (Ok left) × AllByRecursion (CountsUpTo most) left
  reads_over (branches free must never) are =
      let first = reads_over must are.1 in
      let second = reads_over never first.1 in
      (branches free first.0 second.0, second.1)
  reads_over (is_dead_leaf {m = m} signs is) are = (is_dead_leaf (λ w. signs (signs_same m are.0 w)) is, are.1)
  reads_over (closes {side = side} {m = m} {v = v} signs is small) are = (closes (λ w. signs (signs_same m are.0 w)) (bounds_same m side v are.0 is) small, are.1)
  reads_over (is_dead is) are = (is_dead is, are.1)

-- a wrong sign is one of the first numbers
sign_among : (exact : List Bool) (n k : ℕ) (m : Multipliers) → length m ≤ length exact + k → HasWrongSign (exact ++ replicate n false) m → HasWrongSign (exact ++ replicate k false) m
sign_among exact n k m few =
    sign_over (exact ++ replicate n false) (exact ++ replicate k false) m m (λ g. flag-same exact n g ∙ sym (flag-same exact k g)) (λ g h. h)
    (omega (arith, few, length-append exact (replicate k false), length-replicate k false))

pub log_stays : LogStays
log_stays ds more ts exact ws target start log are =
    let most = length exact + length ds in (
      λ is. (reads_over ts exact ws target ds (ds ++ more) most (λ m few w. sign_among exact (length (ds ++ more)) (length ds) m few w) (λ m side v few b. (bound_stays ds more ts exact ws m side v few).0 b) is are).0,
      λ is. (reads_over ts exact ws target (ds ++ more) ds most
          (λ m few w. sign_among exact (length ds) (length (ds ++ more)) m (omega (arith, few, length-append ds more)) w) (λ m side v few b. (bound_stays ds more ts exact ws m side v few).1 b) is are).0,
    )

-- ---- lawful lists, one longer

module _ (ts : List Tree) (exact : List Bool) where
  follows_same : (ds es : List Derived) (d e : Derived) → ds ≡ es → d ≡ e → Follows ts exact ds d → Follows ts exact es e
  follows_same ds es d e p q is = subst (λ y. Follows ts exact es y) q (subst (λ ys. Follows ts exact ys d) p is)

  module _ (ds : List Derived) (d : Derived) where
    front : (k : ℕ) → k ≤ length ds → take k (ds ++ d ∷ []) ≡ take k ds
    front k h = take-append-le k ds (d ∷ []) h

    whole : take (length ds) (ds ++ d ∷ []) ≡ ds
    whole = front (length ds) (omega arith) ∙ take_all _ _ (omega arith)

    early : (k : ℕ) → k < length ds → derived_at (ds ++ d ∷ []) k ≡ derived_at ds k
    early k h = get_or_append_left ds (d ∷ []) no_derived k h

    last : derived_at (ds ++ d ∷ []) (length ds) ≡ d
    last = get_or_push ds d no_derived (length ds) refl

    shorter : AreLawful ts exact (ds ++ d ∷ []) → AreLawful ts exact ds × Follows ts exact ds d
    shorter lawful = (
      λ k h. follows_same _ _ _ _ (front k (omega arith)) (early k h) (lawful k (omega (arith, length-append ds (d ∷ []), h))),
      follows_same _ _ _ _ whole last (lawful (length ds) (omega (arith, length-append ds (d ∷ [])))),
    )

    longer : AreLawful ts exact ds × Follows ts exact ds d → AreLawful ts exact (ds ++ d ∷ [])
    longer (lawful, follows) k h = by (cases_lt k (length ds))
      where
        by : (k < length ds) ⊎ (length ds ≤ k) → Follows ts exact (take k (ds ++ d ∷ [])) (derived_at (ds ++ d ∷ []) k)
        by (inl l) = follows_same _ _ _ _ (sym (front k (omega arith))) (sym (early k l)) (lawful k l)
        by (inr l) =
            let e : length ds ≡ k = omega (arith, length-append ds (d ∷ []), h) in
            subst (λ j. Follows ts exact (take j (ds ++ d ∷ [])) (derived_at (ds ++ d ∷ []) j)) e (follows_same _ _ _ _ (sym whole) (sym last) follows)

pub lawful_grows : LawfulGrows
lawful_grows ts exact = (λ k h. absurd (omega arith), λ ds d. (shorter ts exact ds d, longer ts exact ds d))
