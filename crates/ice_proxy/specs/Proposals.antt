-- Proxy bidders: they know true values, and tighten by halves until the bid is accepted.
use Rattle.std.specs.Prelude.{ℕ, ◌/◌, ◌^◌, ◌<◌, ◌≤◌, ◌≡◌, List, [], ◌∷◌, unsigned_abs, ℤ, pos, ◌+ℤ◌, ◌-ℤ◌}
use Rattle.ice_defs.specs.declared.Verdict.TheVariants.{Accepted}
use Rattle.ice_defs.specs.Bounds.{Bounds}
use Rattle.ice_defs.specs.Prices.{Prices}
use Rattle.ice_defs.specs.Judging.{IsJudged}
use Rattle.ice_defs.specs.Round.{Standing, Submission, stated_bounds}

-- a width that is not negative, halved so many times and rounded down
abbrev pub width_after_halvings : ℕ → ℤ → ℤ
width_after_halvings attempt width = pos (unsigned_abs width / 2 ^ attempt)

abbrev pub proposed_lo : ℕ → List ℤ → List ℤ → List ℤ
proposed_lo attempt [] truth = []
proposed_lo attempt (lo ∷ los) [] = []
proposed_lo attempt (lo ∷ los) (t ∷ truth) = (t -ℤ width_after_halvings attempt (t -ℤ lo)) ∷ proposed_lo attempt los truth

abbrev pub proposed_hi : ℕ → List ℤ → List ℤ → List ℤ
proposed_hi attempt [] truth = []
proposed_hi attempt (hi ∷ his) [] = []
proposed_hi attempt (hi ∷ his) (t ∷ truth) = (t +ℤ width_after_halvings attempt (hi -ℤ t)) ∷ proposed_hi attempt his truth

-- the bounds of an attempt, inside the old ones and around the truth
abbrev pub proposal : Bounds → List ℤ → ℕ → Bounds
proposal old truth attempt = record { lo = proposed_lo attempt old.lo truth; hi = proposed_hi attempt old.hi truth }

module _ (p : Prices) (improve : ℤ) where
  abbrev pub IsAcceptable : Standing → Bounds → Type 0
  IsAcceptable b new = IsJudged b.tree p improve b.set b.bounds new Accepted

  -- the least attempt that is accepted
  pub record IsProxyAttempt (b : Standing) (truth : List ℤ) (attempt : ℕ) : Type 0 where
    pub most : attempt ≤ 31
    pub accepted : IsAcceptable b (proposal b.bounds truth attempt)
    pub least : (earlier : ℕ) → earlier < attempt → ¬ IsAcceptable b (proposal b.bounds truth earlier)

  abbrev pub IsProxyBid : Standing → List ℤ → Submission → Type 0
  IsProxyBid b truth s = (s.name ≡ b.name)
      × ((attempt : ℕ) × IsProxyAttempt b truth attempt × (stated_bounds s ≡ proposal b.bounds truth attempt))
