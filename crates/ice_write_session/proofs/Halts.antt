-- The records of a halted settlement, at each position at which it may halt.
use Rattle.std.proofs.Common.{◌≡◌, ◌∙◌, ℕ, List, [], ◌∷◌, ◌++◌, length, map, Some, None, refl, sym, ap, append_assoc}
use Rattle.std.proofs.lemmas.List.{append-nil}
use Rattle.ice_defs.specs.Exchange.{Exchange, exact_of}
use Rattle.ice_journal.specs.Records.{Record, version_2}
use Rattle.ice_journal.specs.Records as line
use Rattle.ice_journal_laws.specs.Positions.{Position, before_final, before_rival, before_provisional, before_without, position_records}
use Rattle.ice_search.specs.Results.{proved_found}
use Rattle.ice_search.specs.declared.results.Found.{Found}
use Rattle.ice_regret.specs.declared.lead.Regret.{Regret}
use Rattle.ice_vickrey.specs.Marginals.{proved_without}
use Rattle.ice_vickrey.specs.declared.marginal.Marginal.{Marginal}
use Rattle.ice_settled.specs.Shown.{settlement_of}
use Rattle.ice_write_session.specs.Records.{final_records, rival_records, regret_records, provisional_records, without_records, halted_records}

module _ (ex : Exchange) (number : ℕ) where
  abbrev At : Position → List Record
  At at = position_records version_2 (length (exact_of ex)) number at

  pub halts_before_final : halted_records ex number None None [] None ≡ position_records version_2 (length (exact_of ex)) number before_final
  halts_before_final = refl

  pub halts_before_rival : (best : Found) → halted_records ex number (Some best) None [] None ≡ position_records version_2 (length (exact_of ex)) number (before_rival (proved_found best))
  halts_before_rival best =
      let rs : List Record = line.settle number ∷ final_records ex best in
      append-nil ((rs ++ []) ++ []) ∙ append-nil (rs ++ []) ∙ append-nil rs

  settled_parts : (best : Found) (r : Regret) → (line.settle number ∷ final_records ex best) ++ (rival_records ex r ++ (line.regret r.amount ∷ [])) ≡ line.settle number ∷ regret_records ex best r
  settled_parts best r = ap (λ (rs : List Record). line.settle number ∷ rs) (sym (append_assoc (final_records ex best) (rival_records ex r) (line.regret r.amount ∷ [])))

  pub halts_before_without : (best : Found) (r : Regret) (done : List Marginal)
      → halted_records ex number (Some best) (Some r) done None ≡ position_records version_2 (length (exact_of ex)) number (before_without (settlement_of best r) (map proved_without done))
  halts_before_without best r done =
      append-nil (((line.settle number ∷ final_records ex best) ++ (rival_records ex r ++ (line.regret r.amount ∷ []))) ++ without_records ex done)
      ∙ ap (λ (rs : List Record). rs ++ without_records ex done) (settled_parts best r)

  pub halts_before_provisional : (best : Found) (r : Regret) → halted_records ex number (Some best) (Some r) [] None ≡ position_records version_2 (length (exact_of ex)) number (before_provisional (settlement_of best r))
  halts_before_provisional best r = halts_before_without best r [] ∙ append-nil (line.settle number ∷ regret_records ex best r)

  -- at a limit of the pricing run, behind the provisional sets
  pub halts_at_prices : (best : Found) (r : Regret) (p : Found)
      → halted_records ex number (Some best) (Some r) [] (Some p) ≡ position_records version_2 (length (exact_of ex)) number (before_provisional (settlement_of best r)) ++ provisional_records ex p
  halts_at_prices best r p =
      ap (λ (rs : List Record). rs ++ provisional_records ex p)
      (append-nil ((line.settle number ∷ final_records ex best) ++ (rival_records ex r ++ (line.regret r.amount ∷ []))) ∙ settled_parts best r)
