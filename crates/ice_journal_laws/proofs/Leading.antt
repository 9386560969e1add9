-- Where the progress of the tests leads: to the first failed test of the records, or to none.
use Rattle.std.proofs.Common.{◌≡◌, Bool, true, false, cond, List, [], ◌∷◌, ◌++◌, refl, sym, ◌∙◌, subst}
use Rattle.std.proofs.lemmas.Bool.{true≢false}
use Rattle.std.proofs.lemmas.List.{append-nil}
use Rattle.std.specs.Prelude.{◌-◌, Option, Some, None}
use Rattle.ice_journal.specs.Records.{Record, Version, Kind}
use Rattle.ice_journal.specs.Records as line
use Rattle.ice_journal_laws.specs.State.{State, begun}
use Rattle.ice_journal_laws.specs.Checks.{Failure, Tested, passes, is_short, list_fails, fails, goes_on, is_checked, IsChecked}
use Rattle.ice_journal_laws.specs.Progress.{Progress, nothing, other_kind, passing, failed, out_of_memory, passes_on, fails_at, list_fails_at, IsAfter, Leads, stays, goes, Finds, after_head}

-- one more record
pub leads_more : (p q end : Progress) (records : List Record) (r : Record) → Leads p records q → IsAfter q r end → Leads p (records ++ r ∷ []) end
leads_more p q end [] r stays h = goes h stays
leads_more p q end (first ∷ rest) r (goes {q = mid} a l) h = goes a (leads_more mid q end rest r l h)

pub stays_failed : (f : Failure) (records : List Record) (end : Progress) → Leads (failed f) records end → end ≡ failed f
stays_failed f [] end stays = refl
stays_failed f (r ∷ rest) end (goes {q = q} a l) = stays_failed f rest end (subst (λ (z : Progress). Leads z rest end) a l)

pub stays_other : (records : List Record) (end : Progress) → Leads other_kind records end → end ≡ other_kind
stays_other [] end stays = refl
stays_other (r ∷ rest) end (goes {q = q} a l) = stays_other rest end (subst (λ (z : Progress). Leads z rest end) a l)

pub failed_passes : (f : Failure) (records : List Record) (t : State) → Leads (failed f) records (passing t) → ⊥
failed_passes f records t l = absurd (apart (stays_failed f records (passing t) l))
  where
    apart : passing t ≡ failed f → ⊥
    apart e = cc

pub other_passes : (records : List Record) (t : State) → Leads other_kind records (passing t) → ⊥
other_passes records t l = apart (stays_other records (passing t) l)
  where
    apart : passing t ≡ other_kind → ⊥
    apart e = cc

other_fails : (records : List Record) (f : Failure) → Leads other_kind records (failed f) → ⊥
other_fails records f l = apart (stays_other records (failed f) l)
  where
    apart : failed f ≡ other_kind → ⊥
    apart e = cc

failed_same : (f g : Failure) (records : List Record) → Leads (failed f) records (failed g) → f ≡ g
failed_same f g records l = same (stays_failed f records (failed g) l)
  where
    same : failed g ≡ failed f → f ≡ g
    same e = cc

-- the tests of these records and of what comes after them
pub leads_tested : (s t : State) (records rest : List Record) (end : Option Failure) → Leads (passing s) records (passing t) → Tested t rest end → Tested s (records ++ rest) end
leads_tested s t [] rest end stays h = h
leads_tested s t (r ∷ records) rest end (goes (passes_on {after = after} list none holds is) l) h = goes_on list none holds is (leads_tested after t records rest end l h)
leads_tested s t (r ∷ records) rest end (goes (fails_at list f) l) h = absurd (failed_passes _ records t l)
leads_tested s t (r ∷ records) rest end (goes (list_fails_at e n) l) h = absurd (failed_passes _ records t l)

pub leads_failed : (s : State) (records : List Record) (f : Failure) → Leads (passing s) records (failed f) → Tested s records (Some f)
leads_failed s [] f l = elim l [ ]
leads_failed s (r ∷ records) f (goes (passes_on {after = after} list none holds is) l) = goes_on list none holds is (leads_failed after records f l)
leads_failed s (r ∷ records) f (goes (fails_at {x = x} list first) l) =
    subst (λ (g : Failure). Tested s (r ∷ records) (Some g)) (failed_same (record { line = s.line; rule = x }) f records l) (fails list first)
leads_failed s (r ∷ records) f (goes (list_fails_at {x = x} e n) l) =
    subst (λ (g : Failure). Tested s (r ∷ records) (Some g)) (failed_same (record { line = s.line - 1; rule = x }) f records l) (list_fails e n)

stays_nowhere : (s : State) (records : List Record) → Leads (passing s) records nothing → ⊥
stays_nowhere s [] l = elim l [ ]
stays_nowhere s (r ∷ records) (goes (passes_on {after = after} list none holds is) l) = stays_nowhere after records l
stays_nowhere s (r ∷ records) (goes (fails_at {x = x} list first) l) = apart _ (stays_failed _ records nothing l)
  where
    apart : (f : Failure) → nothing ≡ failed f → ⊥
    apart f e = cc
stays_nowhere s (r ∷ records) (goes (list_fails_at {x = x} e n) l) = apart _ (stays_failed _ records nothing l)
  where
    apart : (f : Failure) → nothing ≡ failed f → ⊥
    apart f e = cc

never_other : (s : State) (records : List Record) → Leads (passing s) records other_kind → ⊥
never_other s [] l = elim l [ ]
never_other s (r ∷ records) (goes (passes_on {after = after} list none holds is) l) = never_other after records l
never_other s (r ∷ records) (goes (fails_at {x = x} list first) l) = apart _ (stays_failed _ records other_kind l)
  where
    apart : (f : Failure) → other_kind ≡ failed f → ⊥
    apart f e = cc
never_other s (r ∷ records) (goes (list_fails_at {x = x} e n) l) = apart _ (stays_failed _ records other_kind l)
  where
    apart : (f : Failure) → other_kind ≡ failed f → ⊥
    apart f e = cc

never_stops : (p : Progress) (records : List Record) → Leads p records out_of_memory → p ≡ out_of_memory
never_stops p [] stays = refl
never_stops p (r ∷ records) (goes {q = q} a l) = absurd (by p q a (never_stops q records l))
  where
    by : (p q : Progress) → IsAfter p r q → q ≡ out_of_memory → ⊥
    by nothing q a e = from_head r (sym a ∙ e)
      where
        from_head : (r : Record) → after_head r ≡ out_of_memory → ⊥
        from_head (line.head version kind) e = checked (is_checked version kind) e
          where
            checked : (b : Bool) → cond b (passing (begun version kind)) other_kind ≡ out_of_memory → ⊥
            checked true e = cc
            checked false e = cc
        from_head other e = cc
    by other_kind q a e = let f : other_kind ≡ out_of_memory = sym a ∙ e in cc
    by (passing s) q (passes_on list none holds is) e = cc
    by (passing s) q (fails_at list first) e = cc
    by (passing s) q (list_fails_at list n) e = cc
    by (failed f) q a e = let g : failed f ≡ out_of_memory = sym a ∙ e in cc
    by out_of_memory q a e = a

-- where all the records pass, the end tells
pub leads_end : (s t : State) (records : List Record) (end : Option Failure) → Leads (passing s) records (passing t) → Tested t [] end → Tested s records end
leads_end s t records end l h = subst (λ (rs : List Record). Tested s rs end) (append-nil records) (leads_tested s t records [] end l h)

-- after a head that is checked
finds_checked : (version : Version) (kind : Kind) (rest : List Record) (p : Progress) → is_checked version kind ≡ true → Leads (passing (begun version kind)) rest p → Finds (line.head version kind ∷ rest) p
finds_checked version kind rest nothing is l = absurd (stays_nowhere _ rest l)
finds_checked version kind rest other_kind is l = absurd (never_other _ rest l)
finds_checked version kind rest out_of_memory is l = let e : passing (begun version kind) ≡ out_of_memory = never_stops (passing (begun version kind)) rest l in absurd cc
finds_checked version kind rest (failed f) is l = (is, leads_failed _ rest f l)
finds_checked version kind rest (passing s) is l = (is, λ e. leads_end _ s rest None l (passes e), λ ne. leads_end _ s rest _ l (is_short ne))

-- after anything else
finds_other : (journal : List Record) (rest : List Record) (p : Progress) → ¬ IsChecked journal → Leads other_kind rest p → Finds journal p
finds_other journal rest nothing other l = other
finds_other journal rest other_kind other l = other
finds_other journal rest out_of_memory other l = let e : other_kind ≡ out_of_memory = never_stops other_kind rest l in absurd cc
finds_other journal rest (failed f) other l = absurd (other_fails rest f l)
finds_other journal rest (passing s) other l = absurd (other_passes rest s l)

finds_head : (version : Version) (kind : Kind) (rest : List Record) (p : Progress) (b : Bool) → is_checked version kind ≡ b → Leads (cond b (passing (begun version kind)) other_kind) rest p → Finds (line.head version kind ∷ rest) p
finds_head version kind rest p true is l = finds_checked version kind rest p is l
finds_head version kind rest p false is l = finds_other (line.head version kind ∷ rest) rest p (λ e. true≢false (sym e ∙ is)) l

finds_from : (r : Record) (rest : List Record) (p : Progress) → Leads (after_head r) rest p → Finds (r ∷ rest) p
finds_from (line.head version kind) rest p l = finds_head version kind rest p (is_checked version kind) refl l
finds_from other rest p l = finds_other (other ∷ rest) rest p (λ h. h) l

pub finds : (journal : List Record) (p : Progress) → Leads nothing journal p → Finds journal p
finds [] nothing stays = λ h. h
finds [] other_kind l = elim l [ ]
finds [] (failed f) l = elim l [ ]
finds [] out_of_memory l = elim l [ ]
finds [] (passing s) l = elim l [ ]
finds (r ∷ rest) p (goes {q = q} a l) = finds_from r rest p (subst (λ (z : Progress). Leads z rest p) a l)
