-- A file of true values: why it is refused, and what it says.
use Rattle.std.specs.Prelude.{ℕ, suc, Bool, true, false, if◌then◌else◌, List, [], ◌∷◌, ◌++◌, map, codes, decimal, ℤ, int_lt, ◌&&◌, Option}
use Rattle.std.specs.Prelude.{Some, None, find}
use Rattle.std.specs.List.{list_any}
use Rattle.std.specs.Str.{bytes_eq}
use Rattle.ice_defs.specs.Round.{Submission}
use Rattle.ice_defs.specs.Exchange.{Bidder, Exchange}
use Rattle.ice_defs.specs.FileFault.{FileFault, at_path}

-- a number of each node, inside its opening bounds
abbrev pub are_inside : List ℤ → List ℤ → List ℤ → Bool
are_inside [] [] [] = true
are_inside (lo ∷ los) (t ∷ truth) (hi ∷ his) = if int_lt t lo then false else if int_lt hi t then false else are_inside los truth his
are_inside los truth his = false

abbrev pub same_values : List ℤ → List ℤ → Bool
same_values [] [] = true
same_values (a ∷ xs) (b ∷ ys) = if int_lt a b then false else if int_lt b a then false else same_values xs ys
same_values xs ys = false

abbrev pub bidder_named : List ℕ → List Bidder → Option Bidder
bidder_named name bidders = find (λ b. bytes_eq b.name name) bidders

abbrev pub is_truth_of : Submission → Option Bidder → Bool
is_truth_of s None = false
is_truth_of s (Some b) = same_values s.lo s.hi && are_inside b.bounds.lo s.lo b.bounds.hi

-- the first bid that is no truth, from this index on: of no bidder, of
-- one that an earlier bid has named, or of other numbers
abbrev pub not_truth_from : Exchange → ℕ → List Submission → List Submission → Option ℕ
not_truth_from ex i earlier [] = None
not_truth_from ex i earlier (s ∷ later) =
    if list_any (λ other. bytes_eq other.name s.name) earlier then Some i
    else if is_truth_of s (bidder_named s.name ex.bidders) then not_truth_from ex (suc i) (earlier ++ s ∷ []) later
    else Some i

abbrev pub lacks_truth : Exchange → List Submission → Bool
lacks_truth ex bids = list_any (λ b. if list_any (λ s. bytes_eq s.name b.name) bids then false else true) ex.bidders

abbrev pub truth_fault_at : Exchange → List Submission → Option ℕ → Option FileFault
truth_fault_at ex bids (Some i) = Some (at_path 92 (codes "bids" ∷ decimal i ∷ []))
truth_fault_at ex bids None = if lacks_truth ex bids then Some (at_path 93 []) else None

abbrev pub truth_fault : Exchange → List Submission → Option FileFault
truth_fault ex bids = truth_fault_at ex bids (not_truth_from ex 0 [] bids)

-- ---- what it says

abbrev pub lo_of : Option Submission → List ℤ
lo_of None = []
lo_of (Some s) = s.lo

-- the values of the first bid of this name
abbrev pub truth_in : List Submission → List ℕ → List ℤ
truth_in bids name = lo_of (find (λ s. bytes_eq s.name name) bids)

-- the truth of each bidder in order
abbrev pub truth_lists : List Bidder → List Submission → List (List ℤ)
truth_lists bidders bids = map (λ b. truth_in bids b.name) bidders
