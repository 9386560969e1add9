-- What is kept of the records of a journal, one after another.
use Rattle.std.proofs.Common.{◌≡◌, ℕ, ℤ, List, [], ◌∷◌, ◌++◌, refl, sym, ◌∙◌, ap, subst}
use Rattle.ice_defs.specs.Fraction.{Fraction}
use Rattle.ice_frac.specs.Lowest.{IsLowest}
use Rattle.ice_journal.specs.Records.{Record}
use Rattle.ice_journal.specs.Records as line
use Rattle.ice_journal.specs.Ranges.{IsRecord}
use Rattle.ice_journal_laws.proofs.Charged.{stated_lowest}
use Rattle.ice_last_laws.specs.Last.{payments_said, amounts}
use Rattle.ice_last_laws.proofs.Lasts.{paid_append}
use Rattle.ice_last.specs.declared.watch.Watch.{Watch}
use Rattle.ice_last.specs.declared.watch.Watch.TheVariants.{Start, Other, Session}
use Rattle.ice_last.specs.Lasts.{IsSession}
use Rattle.ice_last.specs.Watching.{IsSessionHead, PaysOn, IsWatched, WatchesOn}

-- the first record tells the kind
more_session : (r : Record) (rest more : List Record) → IsSession (r ∷ rest) → IsSession (r ∷ more)
more_session (line.head v kind) rest more is = is
more_session other rest more is = absurd is

pub first_other : (r : Record) → ¬ IsSessionHead r → WatchesOn Start r Other
first_other r not records none = (
  r,
  [],
  ap (λ (l : List Record). l ++ r ∷ []) none,
  λ is. not (subst IsSession (ap (λ (l : List Record). l ++ r ∷ []) none) is),
)

pub other_stays : (r : Record) → WatchesOn Other r Other
other_stays r records (first, rest, parts, not) =
    let more : records ++ r ∷ [] ≡ first ∷ (rest ++ r ∷ []) = ap (λ (l : List Record). l ++ r ∷ []) parts in
    (first, rest ++ r ∷ [], more, λ is. not (subst IsSession (sym parts) (more_session first (rest ++ r ∷ []) rest (subst IsSession more is))))

session_on : (records : List Record) (r : Record) → IsSession records → IsSession (records ++ r ∷ [])
session_on [] r is = absurd is
session_on (first ∷ rest) r is = more_session first rest (rest ++ r ∷ []) is

-- a record more says what it says of payments
pub session_goes : (r : Record) (before after : List Fraction) (records : List Record) → PaysOn before r after → IsSession records → before ≡ amounts (payments_said records)
    → IsSession (records ++ r ∷ []) × (after ≡ amounts (payments_said (records ++ r ∷ [])))
session_goes r before after records pays is said = (
  session_on records r is,
  pays (payments_said records) said ∙ ap amounts (sym (paid_append [] records (r ∷ []))),
)

-- the payment of a record is in lowest terms
pub payment_lowest : (name : List ℕ) (vickrey : ℤ) (discount payment : Fraction) → IsRecord (line.payment name vickrey discount payment) → IsLowest payment
payment_lowest name vickrey discount payment is = stated_lowest payment is.3

-- none is begun
pub no_session : (w : Watch) (journal : List Record) → ((payments : _) → w ≡ Session payments → ⊥) → IsWatched w journal → ¬ IsSession journal
no_session Start journal not none is = subst IsSession none is
no_session Other journal not (r, rest, parts, other) is = other is
no_session (Session payments) journal not watched is = not payments refl
