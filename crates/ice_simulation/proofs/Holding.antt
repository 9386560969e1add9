-- Bids that say true values: the opening bounds hold them.
use Rattle.std.proofs.Common.{ℕ, suc, ◌≡◌, Bool, true, false, cond, List, [], ◌∷◌, ◌++◌, length, map, Some, None, Option, refl, sym, ap, subst, arith, append_assoc, ◌∙◌}
use Rattle.std.specs.Prelude.{find}
use Rattle.std.specs.List.{list_any, AllByRecursion, IsDistinct}
use Rattle.std.specs.Str.{bytes_eq}
use Rattle.std.proofs.lemmas.Int.{ints}
use Rattle.std.proofs.lemmas.Bool.{and_parts}
use Rattle.std.proofs.lemmas.Option.{none-some}
use Rattle.ice_defs.specs.Set.{weight_of}
use Rattle.ice_defs.specs.Bounds.{IsInside}
use Rattle.ice_defs.specs.Round.{Submission}
use Rattle.ice_defs.specs.Exchange.{Bidder, Exchange, names_of}
use Rattle.ice_defs.specs.FileFault.{at_path}
use Rattle.ice_defs.proofs.Lists.{all_middle}
use Rattle.ice_defs.proofs.Naming.{bytes_eq-same, same-bytes_eq}
use Rattle.ice_defs.proofs.Multiples.{one_time}
use Rattle.ice_proxy.specs.Sessions.{HoldTruths}
use Rattle.ice_simulation.specs.TruthFile.{are_inside, same_values, bidder_named, is_truth_of, not_truth_from, lacks_truth, truth_fault_at, lo_of, truth_lists}
use Rattle.ice_simulation.specs.Laws.{TruthsHold}
use Rattle.ice_simulation.proofs.Telling.{are_inside-is}

-- ---- what no fault means

abbrev SaysTruth : Exchange → Submission → Type 0
SaysTruth ex s = is_truth_of s (bidder_named s.name ex.bidders) ≡ true

none_from : (r t : Bool) (i : ℕ) (next : Option ℕ) → cond r (Some i) (cond t next (Some i)) ≡ None → (t ≡ true) × (next ≡ None)
none_from true t i next e = absurd (none-some i (sym e))
none_from false true i next e = (refl, e)
none_from false false i next e = absurd (none-some i (sym e))

each_truth : (ex : Exchange) (i : ℕ) (earlier later : List Submission) → not_truth_from ex i earlier later ≡ None → AllByRecursion (SaysTruth ex) later
each_truth ex i earlier [] e = tt
each_truth ex i earlier (s ∷ later) e =
    let (is, next) = none_from (list_any (λ (o : Submission). bytes_eq o.name s.name) earlier) (is_truth_of s (bidder_named s.name ex.bidders)) i (not_truth_from ex (suc i) (earlier ++ s ∷ []) later) e in
    (is, each_truth ex (suc i) (earlier ++ s ∷ []) later next)

-- a bid of this name, the first one
record HasBid (ex : Exchange) (bids : List Submission) (name : List ℕ) : Type 0 where
  bid : Submission
  found : find (λ (s : Submission). bytes_eq s.name name) bids ≡ Some bid
  named : bytes_eq bid.name name ≡ true
  says : SaysTruth ex bid

has_bid : (ex : Exchange) (bids : List Submission) (name : List ℕ) → AllByRecursion (SaysTruth ex) bids → list_any (λ (s : Submission). bytes_eq s.name name) bids ≡ true → HasBid ex bids name
has_bid ex [] name all e = absurd (cc)
has_bid ex (s ∷ bids) name all e = by (bytes_eq s.name name) refl (has_bid ex bids name all.1)
  where
    by : (t : Bool) → bytes_eq s.name name ≡ t → (list_any (λ (x : Submission). bytes_eq x.name name) bids ≡ true → HasBid ex bids name) → HasBid ex (s ∷ bids) name
    by true h later = record { bid = s; found = rw h refl; named = h; says = all.0 }
    by false h later =
        let rest : list_any (λ (x : Submission). bytes_eq x.name name) bids ≡ true = rw h at e in
        let more = later rest in
        record { bid = more.bid; found = rw h more.found; named = more.named; says = more.says }

-- the bidder of its own name
named_self : (front rest : List Bidder) (b : Bidder) → IsDistinct bytes_eq (map (λ (x : Bidder). x.name) (front ++ b ∷ rest)) → bidder_named b.name (front ++ b ∷ rest) ≡ Some b
unfolding IsDistinct
named_self [] rest b distinct = let h : bytes_eq b.name b.name ≡ true = bytes_eq-same b.name b.name refl in rw h refl
named_self (x ∷ front) rest b distinct =
    let h : bytes_eq x.name b.name ≡ false = all_middle (λ (n : List ℕ). bytes_eq x.name n ≡ false) (λ (y : Bidder). y.name) front b rest distinct.0 in
    rw h (named_self front rest b distinct.1)

-- no bidder is without a bid
none_lacks : (bids : List Submission) (b : Bidder) (rest : List Bidder)
    → list_any (λ (x : Bidder). cond (list_any (λ (s : Submission). bytes_eq s.name x.name) bids) false true) (b ∷ rest) ≡ false
    → (list_any (λ (s : Submission). bytes_eq s.name b.name) bids ≡ true) × (list_any (λ (x : Bidder). cond (list_any (λ (s : Submission). bytes_eq s.name x.name) bids) false true) rest ≡ false)
none_lacks bids b rest e = by (list_any (λ (s : Submission). bytes_eq s.name b.name) bids) refl
  where
    by : (t : Bool) → list_any (λ (s : Submission). bytes_eq s.name b.name) bids ≡ t
        → (list_any (λ (s : Submission). bytes_eq s.name b.name) bids ≡ true) × (list_any (λ (x : Bidder). cond (list_any (λ (s : Submission). bytes_eq s.name x.name) bids) false true) rest ≡ false)
    by true h = (h, rw h at e)
    by false h = let f : true ≡ false = rw h at e in absurd (cc)

-- ---- bidder after bidder

inside_of : (b : Bidder) (s : Submission) → is_truth_of s (Some b) ≡ true → length b.bounds.lo ≡ length b.bounds.lo → IsInside 1 b.bounds s.lo
inside_of b s e same =
    let are = are_inside-is b.bounds.lo s.lo b.bounds.hi (and_parts (same_values s.lo s.hi) (are_inside b.bounds.lo s.lo b.bounds.hi) e).1 in
    record {
      same_length = are.count;
      low = λ n h. omega (arith, ints, are.low n h, one_time (weight_of b.bounds.lo n));
      high = λ n h. omega (arith, ints, are.high n h, one_time (weight_of b.bounds.hi n));
    }

holds : (ex : Exchange) (bids : List Submission) (front rest : List Bidder) → AllByRecursion (SaysTruth ex) bids → IsDistinct bytes_eq (names_of ex) → ex.bidders ≡ front ++ rest
    → list_any (λ (x : Bidder). cond (list_any (λ (s : Submission). bytes_eq s.name x.name) bids) false true) rest ≡ false → HoldTruths (map (λ (b : Bidder). b.bounds) rest) (truth_lists rest bids)
holds ex bids front [] all distinct e none = tt
holds ex bids front (b ∷ rest) all distinct e none =
    let (has, later) = none_lacks bids b rest none in
    let bid = has_bid ex bids b.name all has in
    let name : bid.bid.name ≡ b.name = same-bytes_eq bid.bid.name b.name bid.named in
    let self : bidder_named bid.bid.name ex.bidders ≡ Some b =
    ap (λ (n : List ℕ). bidder_named n ex.bidders) name ∙ ap (bidder_named b.name) e ∙ named_self front rest b (subst (λ (bs : List Bidder). IsDistinct bytes_eq (map (λ (x : Bidder). x.name) bs)) e distinct) in
    let says : is_truth_of bid.bid (Some b) ≡ true = ap (is_truth_of bid.bid) (sym self) ∙ bid.says in (
      subst (IsInside 1 b.bounds) (sym (ap lo_of bid.found)) (inside_of b bid.bid says refl),
      holds ex bids (front ++ b ∷ []) rest all distinct (e ∙ sym (append_assoc front (b ∷ []) rest)) later,
    )

-- ---- from the file on

no_fault : (ex : Exchange) (bids : List Submission) (o : Option ℕ) (l : Bool) → truth_fault_at ex bids o ≡ None → lacks_truth ex bids ≡ l → (o ≡ None) × (l ≡ false)
no_fault ex bids (Some i) l e h = absurd (cc)
no_fault ex bids None true e h = let f : Some (at_path 93 []) ≡ None = rw h at e in absurd (cc)
no_fault ex bids None false e h = (refl, refl)

pub truths_hold : TruthsHold
truths_hold ex bids lawful e =
    let (first, last) = no_fault ex bids (not_truth_from ex 0 [] bids) (lacks_truth ex bids) e refl in
    holds ex bids [] ex.bidders (each_truth ex 0 [] bids first) lawful.names refl last
