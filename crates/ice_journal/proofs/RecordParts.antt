-- A record as the words that it begins with and the part that the other fields spell.
use Rattle.std.proofs.Common.{◌≡◌, ℕ, cond, List, [], ◌∷◌, ◌++◌, ℤ, codes, Option, Some, None, refl, sym, ap, subst, ◌∙◌}
use Rattle.std.specs.Str.{bytes_eq}
use Rattle.ice_defs.specs.declared.Verdict.{Verdict}
use Rattle.ice_defs.specs.Set.{NodeSet}
use Rattle.ice_defs.specs.Exchange.{Settings}
use Rattle.ice_defs.specs.Steps.{branch, leaf, dead}
use Rattle.ice_defs.specs.Prices.{Prices}
use Rattle.ice_defs.specs.Round.{Submission}
use Rattle.ice_defs.specs.Fraction.{Fraction}
use Rattle.ice_defs.specs.PricingLimit.{Stage, LimitKind}
use Rattle.ice_journal.specs.Reading.{Finds}
use Rattle.ice_journal.specs.Words.{word_text}
use Rattle.ice_journal.specs.declared.words.Word.{Word}
use Rattle.ice_journal.specs.declared.words.Word.TheVariants as word
use Rattle.ice_journal.specs.Records.{Version, Kind, EndWord, Change, Numbered, Record}
use Rattle.ice_journal.specs.Records as line
use Rattle.ice_journal.specs.Ranges.{IsRecord}
use Rattle.ice_journal.specs.Spelling.{fields_of}

pub data Row : Type 0 where
  ice_row settings_row good_row exact_row bidder_row choose_row buy_row sell_row assign_row settle_row final_row rival_row provisional_row without_row set_row branch_row leaf_row dead_row near_row tolled_row derive_row amounts_row regret_row prices_row accuracy_row balance_row row_row submit_row verdict_row threshold_row payment_row spent_row limit_row pool_row end_row refused_row unread_row : Row

-- the words that the records of a row begin with
abbrev pub words_of : Row → List (List ℕ)
words_of ice_row = codes "ice" ∷ []
words_of settings_row = codes "settings" ∷ []
words_of good_row = codes "good" ∷ []
words_of exact_row = codes "exact" ∷ []
words_of bidder_row = codes "bidder" ∷ []
words_of choose_row = codes "node" ∷ codes "choose" ∷ []
words_of buy_row = codes "node" ∷ codes "buy" ∷ []
words_of sell_row = codes "node" ∷ codes "sell" ∷ []
words_of assign_row = codes "assign" ∷ []
words_of settle_row = codes "settle" ∷ []
words_of final_row = codes "final" ∷ []
words_of rival_row = codes "rival" ∷ []
words_of provisional_row = codes "provisional" ∷ []
words_of without_row = codes "without" ∷ []
words_of set_row = codes "set" ∷ []
words_of branch_row = codes "branch" ∷ []
words_of leaf_row = codes "leaf" ∷ []
words_of dead_row = codes "dead" ∷ []
words_of near_row = codes "near" ∷ []
words_of tolled_row = codes "tolled" ∷ []
words_of derive_row = codes "derive" ∷ []
words_of amounts_row = codes "amounts" ∷ []
words_of regret_row = codes "regret" ∷ []
words_of prices_row = codes "prices" ∷ []
words_of accuracy_row = codes "accuracy" ∷ []
words_of balance_row = codes "balance" ∷ []
words_of row_row = codes "row" ∷ []
words_of submit_row = codes "submit" ∷ []
words_of verdict_row = codes "verdict" ∷ []
words_of threshold_row = codes "threshold" ∷ []
words_of payment_row = codes "payment" ∷ []
words_of spent_row = codes "spent" ∷ []
words_of limit_row = codes "limit" ∷ []
words_of pool_row = codes "pool" ∷ []
words_of end_row = codes "end" ∷ []
words_of refused_row = codes "refused" ∷ []
words_of unread_row = codes "unread" ∷ []

-- what the other fields say
abbrev pub Part : Row → Type 0
Part ice_row = Version × Kind
Part settings_row = Settings
Part good_row = List ℕ
Part exact_row = List ℕ
Part bidder_row = List ℕ × List ℕ
Part choose_row = ℕ × ℕ × ℕ × ℤ × ℤ
Part buy_row = ℕ × ℕ × ℤ × ℤ
Part sell_row = ℕ × ℕ × ℤ × ℤ
Part assign_row = Unit {0}
Part settle_row = ℕ
Part final_row = ℤ
Part rival_row = ℤ
Part provisional_row = ℤ
Part without_row = ℕ × ℤ
Part set_row = NodeSet
Part branch_row = ℕ × ℕ
Part leaf_row = List ℤ
Part dead_row = ℕ
Part near_row = List Change
Part tolled_row = List Numbered
Part derive_row = ℤ
Part amounts_row = ℕ × List Numbered
Part regret_row = ℤ
Part prices_row = Prices
Part accuracy_row = ℤ × ℕ
Part balance_row = ℕ
Part row_row = ℕ × ℕ × NodeSet
Part submit_row = Submission
Part verdict_row = Verdict
Part threshold_row = Fraction × Fraction
Part payment_row = List ℕ × ℤ × Fraction × Fraction
Part spent_row = ℤ × ℤ
Part limit_row = Stage × LimitKind × ℤ × ℕ
Part pool_row = ℕ × NodeSet
Part end_row = EndWord
Part refused_row = ℕ × ℕ × List ℕ
Part unread_row = ℕ

abbrev pub make : (row : Row) → Part row → Record
make ice_row p = line.head p.0 p.1
make settings_row p = line.settings p
make good_row p = line.good p
make exact_row p = line.exact p
make bidder_row p = line.bidder p.0 p.1
make choose_row p = line.choose p.0 p.1 p.2 p.3 p.4
make buy_row p = line.buy p.0 p.1 p.2 p.3
make sell_row p = line.sell p.0 p.1 p.2 p.3
make assign_row p = line.assign
make settle_row p = line.settle p
make final_row p = line.final p
make rival_row p = line.rival p
make provisional_row p = line.provisional p
make without_row p = line.without p.0 p.1
make set_row p = line.set p
make branch_row p = line.step (branch p.0 p.1)
make leaf_row p = line.step (leaf p)
make dead_row p = line.step (dead p)
make near_row p = line.near p
make tolled_row p = line.tolled p
make derive_row p = line.derive p
make amounts_row p = line.amounts p.0 p.1
make regret_row p = line.regret p
make prices_row p = line.prices p
make accuracy_row p = line.accuracy p.0 p.1
make balance_row p = line.balance p
make row_row p = line.row p.0 p.1 p.2
make submit_row p = line.submit p
make verdict_row p = line.verdict p
make threshold_row p = line.threshold p.0 p.1
make payment_row p = line.payment p.0 p.1 p.2 p.3
make spent_row p = line.spent p.0 p.1
make limit_row p = line.limit p.0 p.1 p.2 p.3
make pool_row p = line.pool p.0 p.1
make end_row p = line.end p
make refused_row p = line.refused p.0 p.1 p.2
make unread_row p = line.unread p

-- the fields behind the first, or behind the first two of a node
abbrev after_first : List (List ℕ) → List (List ℕ)
after_first [] = []
after_first (f ∷ fs) = fs

abbrev pub part_fields : (row : Row) → Part row → List (List ℕ)
part_fields ice_row p = after_first (fields_of (make ice_row p))
part_fields settings_row p = after_first (fields_of (make settings_row p))
part_fields good_row p = after_first (fields_of (make good_row p))
part_fields exact_row p = after_first (fields_of (make exact_row p))
part_fields bidder_row p = after_first (fields_of (make bidder_row p))
part_fields choose_row p = after_first (after_first (fields_of (make choose_row p)))
part_fields buy_row p = after_first (after_first (fields_of (make buy_row p)))
part_fields sell_row p = after_first (after_first (fields_of (make sell_row p)))
part_fields assign_row p = after_first (fields_of (make assign_row p))
part_fields settle_row p = after_first (fields_of (make settle_row p))
part_fields final_row p = after_first (fields_of (make final_row p))
part_fields rival_row p = after_first (fields_of (make rival_row p))
part_fields provisional_row p = after_first (fields_of (make provisional_row p))
part_fields without_row p = after_first (fields_of (make without_row p))
part_fields set_row p = after_first (fields_of (make set_row p))
part_fields branch_row p = after_first (fields_of (make branch_row p))
part_fields leaf_row p = after_first (fields_of (make leaf_row p))
part_fields dead_row p = after_first (fields_of (make dead_row p))
part_fields near_row p = after_first (fields_of (make near_row p))
part_fields tolled_row p = after_first (fields_of (make tolled_row p))
part_fields derive_row p = after_first (fields_of (make derive_row p))
part_fields amounts_row p = after_first (fields_of (make amounts_row p))
part_fields regret_row p = after_first (fields_of (make regret_row p))
part_fields prices_row p = after_first (fields_of (make prices_row p))
part_fields accuracy_row p = after_first (fields_of (make accuracy_row p))
part_fields balance_row p = after_first (fields_of (make balance_row p))
part_fields row_row p = after_first (fields_of (make row_row p))
part_fields submit_row p = after_first (fields_of (make submit_row p))
part_fields verdict_row p = after_first (fields_of (make verdict_row p))
part_fields threshold_row p = after_first (fields_of (make threshold_row p))
part_fields payment_row p = after_first (fields_of (make payment_row p))
part_fields spent_row p = after_first (fields_of (make spent_row p))
part_fields limit_row p = after_first (fields_of (make limit_row p))
part_fields pool_row p = after_first (fields_of (make pool_row p))
part_fields end_row p = after_first (fields_of (make end_row p))
part_fields refused_row p = after_first (fields_of (make refused_row p))
part_fields unread_row p = after_first (fields_of (make unread_row p))

pub fields_are : (row : Row) (p : Part row) → fields_of (make row p) ≡ words_of row ++ part_fields row p
fields_are ice_row p = refl
fields_are settings_row p = refl
fields_are good_row p = refl
fields_are exact_row p = refl
fields_are bidder_row p = refl
fields_are choose_row p = refl
fields_are buy_row p = refl
fields_are sell_row p = refl
fields_are assign_row p = refl
fields_are settle_row p = refl
fields_are final_row p = refl
fields_are rival_row p = refl
fields_are provisional_row p = refl
fields_are without_row p = refl
fields_are set_row p = refl
fields_are branch_row p = refl
fields_are leaf_row p = refl
fields_are dead_row p = refl
fields_are near_row p = refl
fields_are tolled_row p = refl
fields_are derive_row p = refl
fields_are amounts_row p = refl
fields_are regret_row p = refl
fields_are prices_row p = refl
fields_are accuracy_row p = refl
fields_are balance_row p = refl
fields_are row_row p = refl
fields_are submit_row p = refl
fields_are verdict_row p = refl
fields_are threshold_row p = refl
fields_are payment_row p = refl
fields_are spent_row p = refl
fields_are limit_row p = refl
fields_are pool_row p = refl
fields_are end_row p = refl
fields_are refused_row p = refl
fields_are unread_row p = refl

-- a record is of one of the rows
abbrev pub IsOfRow : Record → Row → Type 0
IsOfRow r row = (p : Part row) × (r ≡ make row p)

pub row_of : (r : Record) → (row : Row) × IsOfRow r row
row_of (line.head v k) = (ice_row, ((v, k), refl))
row_of (line.settings s) = (settings_row, (s, refl))
row_of (line.good n) = (good_row, (n, refl))
row_of (line.exact n) = (exact_row, (n, refl))
row_of (line.bidder n o) = (bidder_row, ((n, o), refl))
row_of (line.choose a b n lo hi) = (choose_row, ((a, b, n, lo, hi), refl))
row_of (line.buy g u lo hi) = (buy_row, ((g, u, lo, hi), refl))
row_of (line.sell g u lo hi) = (sell_row, ((g, u, lo, hi), refl))
row_of line.assign = (assign_row, (tt, refl))
row_of (line.settle r) = (settle_row, (r, refl))
row_of (line.final v) = (final_row, (v, refl))
row_of (line.rival v) = (rival_row, (v, refl))
row_of (line.provisional v) = (provisional_row, (v, refl))
row_of (line.without b v) = (without_row, ((b, v), refl))
row_of (line.set s) = (set_row, (s, refl))
row_of (line.step (branch b n)) = (branch_row, ((b, n), refl))
row_of (line.step (leaf m)) = (leaf_row, (m, refl))
row_of (line.step (dead b)) = (dead_row, (b, refl))
row_of (line.near c) = (near_row, (c, refl))
row_of (line.tolled n) = (tolled_row, (n, refl))
row_of (line.derive l) = (derive_row, (l, refl))
row_of (line.amounts b n) = (amounts_row, ((b, n), refl))
row_of (line.regret a) = (regret_row, (a, refl))
row_of (line.prices q) = (prices_row, (q, refl))
row_of (line.accuracy x d) = (accuracy_row, ((x, d), refl))
row_of (line.balance d) = (balance_row, (d, refl))
row_of (line.row b w s) = (row_row, ((b, w, s), refl))
row_of (line.submit s) = (submit_row, (s, refl))
row_of (line.verdict v) = (verdict_row, (v, refl))
row_of (line.threshold c s) = (threshold_row, ((c, s), refl))
row_of (line.payment n v d p) = (payment_row, ((n, v, d, p), refl))
row_of (line.spent v b) = (spent_row, ((v, b), refl))
row_of (line.limit s k x d) = (limit_row, ((s, k, x, d), refl))
row_of (line.pool b s) = (pool_row, ((b, s), refl))
row_of (line.end w) = (end_row, (w, refl))
row_of (line.refused f n p) = (refused_row, ((f, n, p), refl))
row_of (line.unread f) = (unread_row, (f, refl))

abbrev node_row_from : List (List ℕ) → Option Row
node_row_from [] = None
node_row_from (f ∷ fs) =
    cond (bytes_eq f (codes "choose")) (Some choose_row) (cond (bytes_eq f (codes "buy")) (Some buy_row) (cond (bytes_eq f (codes "sell")) (Some sell_row) None))

-- the row of a record with these fields
abbrev row_from : List (List ℕ) → Option Row
row_from [] = None
row_from (f ∷ fs) =
    cond (bytes_eq f (codes "node")) (node_row_from fs) (
    cond (bytes_eq f (codes "ice")) (Some ice_row) (
    cond (bytes_eq f (codes "settings")) (Some settings_row) (
    cond (bytes_eq f (codes "good")) (Some good_row) (
    cond (bytes_eq f (codes "exact")) (Some exact_row) (
    cond (bytes_eq f (codes "bidder")) (Some bidder_row) (
    cond (bytes_eq f (codes "assign")) (Some assign_row) (
    cond (bytes_eq f (codes "settle")) (Some settle_row) (
    cond (bytes_eq f (codes "final")) (Some final_row) (
    cond (bytes_eq f (codes "rival")) (Some rival_row) (
    cond (bytes_eq f (codes "provisional")) (Some provisional_row) (
    cond (bytes_eq f (codes "without")) (Some without_row) (
    cond (bytes_eq f (codes "set")) (Some set_row) (
    cond (bytes_eq f (codes "branch")) (Some branch_row) (
    cond (bytes_eq f (codes "leaf")) (Some leaf_row) (
    cond (bytes_eq f (codes "dead")) (Some dead_row) (
    cond (bytes_eq f (codes "near")) (Some near_row) (
    cond (bytes_eq f (codes "tolled")) (Some tolled_row) (
    cond (bytes_eq f (codes "derive")) (Some derive_row) (
    cond (bytes_eq f (codes "amounts")) (Some amounts_row) (
    cond (bytes_eq f (codes "regret")) (Some regret_row) (
    cond (bytes_eq f (codes "prices")) (Some prices_row) (
    cond (bytes_eq f (codes "accuracy")) (Some accuracy_row) (
    cond (bytes_eq f (codes "balance")) (Some balance_row) (
    cond (bytes_eq f (codes "row")) (Some row_row) (
    cond (bytes_eq f (codes "submit")) (Some submit_row) (
    cond (bytes_eq f (codes "verdict")) (Some verdict_row) (
    cond (bytes_eq f (codes "threshold")) (Some threshold_row) (
    cond (bytes_eq f (codes "payment")) (Some payment_row) (
    cond (bytes_eq f (codes "spent")) (Some spent_row) (
    cond (bytes_eq f (codes "limit")) (Some limit_row) (
    cond (bytes_eq f (codes "pool")) (Some pool_row) (
    cond (bytes_eq f (codes "end")) (Some end_row) (
    cond (bytes_eq f (codes "refused")) (Some refused_row) (
    cond (bytes_eq f (codes "unread")) (Some unread_row) (
    None)))))))))))))))))))))))))))))))))))

row_from_words : (row : Row) (rest : List (List ℕ)) → row_from (words_of row ++ rest) ≡ Some row
row_from_words ice_row rest = refl
row_from_words settings_row rest = refl
row_from_words good_row rest = refl
row_from_words exact_row rest = refl
row_from_words bidder_row rest = refl
row_from_words choose_row rest = refl
row_from_words buy_row rest = refl
row_from_words sell_row rest = refl
row_from_words assign_row rest = refl
row_from_words settle_row rest = refl
row_from_words final_row rest = refl
row_from_words rival_row rest = refl
row_from_words provisional_row rest = refl
row_from_words without_row rest = refl
row_from_words set_row rest = refl
row_from_words branch_row rest = refl
row_from_words leaf_row rest = refl
row_from_words dead_row rest = refl
row_from_words near_row rest = refl
row_from_words tolled_row rest = refl
row_from_words derive_row rest = refl
row_from_words amounts_row rest = refl
row_from_words regret_row rest = refl
row_from_words prices_row rest = refl
row_from_words accuracy_row rest = refl
row_from_words balance_row rest = refl
row_from_words row_row rest = refl
row_from_words submit_row rest = refl
row_from_words verdict_row rest = refl
row_from_words threshold_row rest = refl
row_from_words payment_row rest = refl
row_from_words spent_row rest = refl
row_from_words limit_row rest = refl
row_from_words pool_row rest = refl
row_from_words end_row rest = refl
row_from_words refused_row rest = refl
row_from_words unread_row rest = refl

some_same : {A : Type 0} {x y : A} → Some x ≡ Some y → x ≡ y
some_same e = cc

-- rows begin with different words
pub same_row : (v w : Row) (a b : List (List ℕ)) → words_of v ++ a ≡ words_of w ++ b → v ≡ w
same_row v w a b e = some_same (sym (row_from_words v a) ∙ ap row_from e ∙ row_from_words w b)

same_rest : (row : Row) (a b : List (List ℕ)) → words_of row ++ a ≡ words_of row ++ b → a ≡ b
same_rest ice_row a b e = cc
same_rest settings_row a b e = cc
same_rest good_row a b e = cc
same_rest exact_row a b e = cc
same_rest bidder_row a b e = cc
same_rest choose_row a b e = cc
same_rest buy_row a b e = cc
same_rest sell_row a b e = cc
same_rest assign_row a b e = cc
same_rest settle_row a b e = cc
same_rest final_row a b e = cc
same_rest rival_row a b e = cc
same_rest provisional_row a b e = cc
same_rest without_row a b e = cc
same_rest set_row a b e = cc
same_rest branch_row a b e = cc
same_rest leaf_row a b e = cc
same_rest dead_row a b e = cc
same_rest near_row a b e = cc
same_rest tolled_row a b e = cc
same_rest derive_row a b e = cc
same_rest amounts_row a b e = cc
same_rest regret_row a b e = cc
same_rest prices_row a b e = cc
same_rest accuracy_row a b e = cc
same_rest balance_row a b e = cc
same_rest row_row a b e = cc
same_rest submit_row a b e = cc
same_rest verdict_row a b e = cc
same_rest threshold_row a b e = cc
same_rest payment_row a b e = cc
same_rest spent_row a b e = cc
same_rest limit_row a b e = cc
same_rest pool_row a b e = cc
same_rest end_row a b e = cc
same_rest refused_row a b e = cc
same_rest unread_row a b e = cc

-- a record has a field
pub some_field : (r : Record) → fields_of r ≡ [] → ⊥
some_field r e =
    let found = row_of r in
    let none : row_from (fields_of r) ≡ None = ap row_from e in
    let some : row_from (fields_of r) ≡ Some found.0 = ap (λ x. row_from (fields_of x)) found.1.1 ∙ ap row_from (fields_are found.0 found.1.0) ∙ row_from_words found.0 (part_fields found.0 found.1.0) in
    absurd (cc (none, some))

-- what a record says whose fields begin with the words of a row
pub in_row : (row : Row) (rest : List (List ℕ)) (r : Record) → words_of row ++ rest ≡ fields_of r → (p : Part row) × (r ≡ make row p) × (rest ≡ part_fields row p)
in_row row rest r e =
    let found = row_of r in
    let at : words_of row ++ rest ≡ words_of found.0 ++ part_fields found.0 found.1.0 = e ∙ ap fields_of found.1.1 ∙ fields_are found.0 found.1.0 in
    let same : found.0 ≡ row = sym (same_row row found.0 rest (part_fields found.0 found.1.0) at) in
    let part : IsOfRow r row = subst (IsOfRow r) same found.1 in
    (part.0, part.1, same_rest row rest (part_fields row part.0) (e ∙ ap fields_of part.1 ∙ fields_are row part.0))

abbrev pub FindsPart : (row : Row) → Option (Part row) → List (List ℕ) → Type 0
FindsPart row part rest = Finds part (λ p. IsRecord (make row p)) (part_fields row) rest

-- no part is read, so no record is
pub none_after : (row : Row) (rest : List (List ℕ)) → FindsPart row None rest → Finds None IsRecord fields_of (words_of row ++ rest)
none_after row rest none r lawful e =
    let found = in_row row rest r e in
    none found.0 (subst IsRecord found.1 lawful) found.2

word_of_row : (row : Row) (rest : List (List ℕ)) → (w : Word) × (after : List (List ℕ)) × (words_of row ++ rest ≡ word_text w ∷ after)
word_of_row ice_row rest = (word.Ice, rest, refl)
word_of_row settings_row rest = (word.Settings, rest, refl)
word_of_row good_row rest = (word.Good, rest, refl)
word_of_row exact_row rest = (word.Exact, rest, refl)
word_of_row bidder_row rest = (word.Bidder, rest, refl)
word_of_row choose_row rest = (word.Node, codes "choose" ∷ rest, refl)
word_of_row buy_row rest = (word.Node, codes "buy" ∷ rest, refl)
word_of_row sell_row rest = (word.Node, codes "sell" ∷ rest, refl)
word_of_row assign_row rest = (word.Assign, rest, refl)
word_of_row settle_row rest = (word.Settle, rest, refl)
word_of_row final_row rest = (word.Final, rest, refl)
word_of_row rival_row rest = (word.Rival, rest, refl)
word_of_row provisional_row rest = (word.Provisional, rest, refl)
word_of_row without_row rest = (word.Without, rest, refl)
word_of_row set_row rest = (word.Set, rest, refl)
word_of_row branch_row rest = (word.Branch, rest, refl)
word_of_row leaf_row rest = (word.Leaf, rest, refl)
word_of_row dead_row rest = (word.Dead, rest, refl)
word_of_row near_row rest = (word.Near, rest, refl)
word_of_row tolled_row rest = (word.Tolled, rest, refl)
word_of_row derive_row rest = (word.Derive, rest, refl)
word_of_row amounts_row rest = (word.Amounts, rest, refl)
word_of_row regret_row rest = (word.Regret, rest, refl)
word_of_row prices_row rest = (word.Prices, rest, refl)
word_of_row accuracy_row rest = (word.Accuracy, rest, refl)
word_of_row balance_row rest = (word.Balance, rest, refl)
word_of_row row_row rest = (word.Row, rest, refl)
word_of_row submit_row rest = (word.Submit, rest, refl)
word_of_row verdict_row rest = (word.Verdict, rest, refl)
word_of_row threshold_row rest = (word.Threshold, rest, refl)
word_of_row payment_row rest = (word.Payment, rest, refl)
word_of_row spent_row rest = (word.Spent, rest, refl)
word_of_row limit_row rest = (word.Limit, rest, refl)
word_of_row pool_row rest = (word.Pool, rest, refl)
word_of_row end_row rest = (word.End, rest, refl)
word_of_row refused_row rest = (word.Refused, rest, refl)
word_of_row unread_row rest = (word.Unread, rest, refl)

-- the first field of a record is one of the words
pub first_word : (r : Record) → (w : Word) × (after : List (List ℕ)) × (fields_of r ≡ word_text w ∷ after)
first_word r =
    let found = row_of r in
    let at = word_of_row found.0 (part_fields found.0 found.1.0) in
    (at.0, at.1, ap fields_of found.1.1 ∙ fields_are found.0 found.1.0 ∙ at.2)

pub no_word : (first : List ℕ) (more fields : List (List ℕ)) → ((w : Word) → Unit {0} → first ≡ word_text w → ⊥) → fields ≡ first ∷ more → (r : Record) → IsRecord r → fields ≡ fields_of r → ⊥
no_word first more fields none cut r lawful e =
    let at = first_word r in
    let shape : first ∷ more ≡ word_text at.0 ∷ at.1 = sym cut ∙ e ∙ at.2 in
    none at.0 tt (cc)
