use Rattle.std.proofs.Common.{rules, arith, ap, ◌∙◌, refl, ◌≡◌, ◌++◌, ◌∷◌, [], set, Some}
use Rattle.ice_search_log.specs.Parts.{part_at, split_at}
use Rattle.ice_search_log.specs.Code.{parts_of}
use Rattle.ice_search.proofs.Placing.{placed, added}
use Rattle.ice_search.proofs.parts.push_children.Goals as goal

pub returns : goal.returns
returns c =
    let list = c.args.parts.now.items in
    let k = c.args.number in
    let whole = c.index_mut.result.now in
    let split = record whole { split = Some (record { bidder = c.args.candidate.bidder; node = c.args.candidate.node; must = c.len.result }) } in
    let first : c.push.new.self.items ≡ set list k split ++ c.child.result ∷ [] = search rules in
    let second : c.push-2.new.self.items ≡ c.push.new.self.items ++ c.child-2.result ∷ [] = search rules in
    let changed = placed list k whole split (λ q. split_at q c.args.candidate.bidder c.args.candidate.node c.len.result) (omega (arith, c.requires.there)) c.index_mut.ensures.value refl in
    added c.push.new.self.items c.push-2.new.self.items c.child-2.result _ _ second (added (set list k split) c.push.new.self.items c.child.result _ _ first (changed ∙ ap (λ n. set (parts_of list) k (split_at (part_at (parts_of list) k) c.args.candidate.bidder c.args.candidate.node n)) c.len.ensures) c.child.ensures) c.child-2.ensures
