-- Small worked journals: the order of records, and what the tests look at.
use Rattle.std.specs.Prelude.{◌≡◌, refl, ℕ, true, false, List, [], ◌∷◌, ◌++◌, codes, pos, negsuc, Option, Some, None, option_map}
use Rattle.ice_defs.specs.declared.NodeKind.TheVariants.{Buy, Sell}
use Rattle.ice_defs.specs.Exchange.{Exchange}
use Rattle.ice_defs.specs.Sale.{all_sets, satisfied_sets, greatest_sale}
use Rattle.ice_defs.specs.Steps.{branch, leaf}
use Rattle.ice_defs.specs.Fraction.{whole_number}
use Rattle.ice_journal.specs.Records.{Record, version_1, version_2, assign_kind, session_kind, assign_end, closed_end}
use Rattle.ice_journal.specs.Records as line
use Rattle.ice_section.specs.Described.{section_records}
use Rattle.ice_journal_laws.specs.State.{Place, done, State, begun}
use Rattle.ice_journal_laws.specs.Next.{after_all}

unfoldable pub market : Exchange
market = record {
  settings = record { weight = 50; close_regret = pos 0; cap = pos 100; improve = pos 1; rounds = 5; branches = 200; derived = 0 };
  goods = record { name = codes "A"; exact = false } ∷ [];
  bidders = record { name = codes "s"; own = 1 ∷ []; tree = record { kind = Sell 0 1; parent = 0 } ∷ []; bounds = record { lo = negsuc 9 ∷ []; hi = negsuc 9 ∷ [] } }
      ∷ record { name = codes "b"; own = 0 ∷ []; tree = record { kind = Buy 0 1; parent = 0 } ∷ []; bounds = record { lo = pos 20 ∷ []; hi = pos 30 ∷ [] } } ∷ [];
}

unfoldable pub one : Record
one = line.set (true ∷ [])

none : Record
none = line.set (false ∷ [])

-- an assign journal, after its head
unfoldable pub assigned : List Record
assigned = section_records market ++ line.assign ∷ one ∷ one ∷ line.end assign_end ∷ []

-- a session that closes at settlement 0, after its head
opening : List Record
opening = section_records market ++ line.settle 0 ∷ line.final (pos 10) ∷ one ∷ one ∷ []

closed : List Record
closed = opening ++ line.step (leaf (pos 640 ∷ [])) ∷ line.rival (pos 10) ∷ one ∷ one ∷ line.step (leaf (pos 640 ∷ [])) ∷ line.regret (pos 0)
    ∷ line.without 0 (pos 0) ∷ none ∷ none ∷ line.step (leaf (pos 1280 ∷ [])) ∷ line.without 1 (pos 0) ∷ none ∷ none ∷ line.step (leaf (pos 0 ∷ []))
    ∷ line.threshold (whole_number (pos 5)) (whole_number (pos 0)) ∷ line.payment (codes "s") (pos 10) (whole_number (pos 5)) (whole_number (negsuc 14)) ∷ line.payment (codes "b") (pos 10) (whole_number (pos 5)) (whole_number (pos 15)) ∷ line.end closed_end ∷ []

place_after : Option State → Option Place
place_after s = option_map (λ x. x.place) s

line_after : Option State → Option ℕ
line_after s = option_map (λ x. x.line) s

assigned-place : place_after (after_all (begun version_1 assign_kind) assigned) ≡ Some done
unfolding market one assigned place_after all_sets satisfied_sets greatest_sale
assigned-place = refl

assigned-line : line_after (after_all (begun version_1 assign_kind) assigned) ≡ Some 12
unfolding market one assigned line_after all_sets satisfied_sets greatest_sale
assigned-line = refl

closed-place : place_after (after_all (begun version_1 session_kind) closed) ≡ Some done
unfolding market one none opening closed place_after all_sets satisfied_sets greatest_sale
closed-place = refl

closed-line : line_after (after_all (begun version_1 session_kind) closed) ≡ Some 30
unfolding market one none opening closed line_after all_sets satisfied_sets greatest_sale
closed-line = refl

withouts : option_map (λ x. x.withouts) (after_all (begun version_1 session_kind) closed) ≡ Some (pos 0 ∷ pos 0 ∷ [])
unfolding market one none opening closed all_sets satisfied_sets greatest_sale
withouts = refl

-- a log that branches and then has only one leaf: the head of the next group may not stand there
early : after_all (begun version_1 session_kind) (opening ++ line.step (branch 0 0) ∷ line.step (leaf (pos 640 ∷ [])) ∷ line.rival (pos 10) ∷ []) ≡ None
unfolding market one opening all_sets satisfied_sets greatest_sale
early = refl

-- a leaf that doesn't count the goods
miscounted : after_all (begun version_1 session_kind) (opening ++ line.step (leaf (pos 640 ∷ pos 0 ∷ [])) ∷ []) ≡ None
unfolding market one opening all_sets satisfied_sets greatest_sale
miscounted = refl

-- in version 2 a leaf stands as its changes
whole_leaf : after_all (begun version_2 session_kind) (opening ++ line.step (leaf (pos 640 ∷ [])) ∷ []) ≡ None
unfolding market one opening all_sets satisfied_sets greatest_sale
whole_leaf = refl

changed_leaf : option_map (λ x. x.final.value) (after_all (begun version_2 session_kind) (opening ++ line.near (record { good = 0; multiplier = pos 640 } ∷ []) ∷ line.rival (pos 10) ∷ [])) ≡ Some (pos 10)
unfolding market one opening all_sets satisfied_sets greatest_sale
changed_leaf = refl
