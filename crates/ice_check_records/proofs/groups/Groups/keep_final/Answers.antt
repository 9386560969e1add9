use Rattle.std.proofs.Common.{rules, ◌≡◌, ◌≤◌, sym, ap, subst}
use Rattle.std.proofs.lemmas.Int.{to_z-of_z}
use mir.Syntax.{w64}
use mir.Val.{SFits, to_z, of_z}
use Rattle.ice_defs.specs.Exchange.{Exchange, trees_of, exact_of}
use Rattle.ice_defs.specs.Lawful.{IsExchange}
use Rattle.ice_check_offer.specs.Offers as offers
use Rattle.ice_check_records.specs.Logs.{IsWalkOf}
use Rattle.ice_check_records.specs.Stating.{Stating}
use Rattle.ice_tree.specs.Alike.{HasSetPerTree}
use Rattle.ice_check_records.proofs.groups.Groups.keep_final.Goals as goal

pub returns : goal.returns
returns c =
    let g = c.args.self.now in
    let new = c.hand_over.new.self in
    let sets = c.hand_over.new.sets in
    let same : new.exchange ≡ g.stated.exchange = ap (λ (s : Stating). s.exchange) c.hand_over.ensures.left in
    let fits : SFits w64 g.value = search rules in
    let value_is : to_z w64 (of_z w64 g.value) ≡ g.value = to_z-of_z w64 g.value fits in
    record {
      same = λ i. record g { next = c.args.next; stated = c.hand_over.ensures.left i; final_sets = c.hand_over.ensures.sets i; final_value = value_is i };
      kept = record {
        lawful = subst (λ (ex : Exchange). IsExchange ex) (sym same) c.requires.kept.lawful;
        walk = subst (λ (ex : Exchange). IsWalkOf (trees_of ex) (exact_of ex) g.log) (sym same) c.requires.kept.walk;
        room = subst (λ (ex : Exchange). HasSetPerTree (trees_of ex) sets) (sym same) c.hand_over.ensures.room;
        offer = subst (λ (ex : Exchange). offers.IsKept ex g.offer) (sym same) c.requires.kept.offer;
        number = subst (λ (ex : Exchange). g.number ≤ ex.settings.rounds) (sym same) c.requires.kept.number;
      };
    }
