use Rattle.std.proofs.Common.{rules, ℕ, List, [], ℤ, pos, refl, sym, ◌∙◌, ap, arith}
use Rattle.std.specs.Prelude.{slice_index_or}
use Rattle.std.proofs.lemmas.Int.{to_z-of_z}
use mir.Syntax.{w64, w128}
use mir.Val.{SFits}
use Rattle.ice_defs.specs.Exchange.{Exchange, names_of}
use Rattle.ice_journal.specs.Lines.{record_of}
use Rattle.ice_check_records.proofs.Ending.{pays_from}
use Rattle.ice_check_records.proofs.groups.Groups.pay.Goals as goal

pub returns : goal.returns
returns c =
    let g = c.args.self.now in
    let b = c.args.bidder in
    let without : ℤ = slice_index_or c.deref.result.now c.from.result (pos 0) in
    let without_fits : SFits w64 without = search rules in
    let total_fits : SFits w64 g.final_value = search rules in
    let worth_fits : SFits w128 c.final_worth.result = search rules in
    pays_from b g (record_of c.args.line.now) _ c.take_payment.result (λ s. record {
      place = refl;
      name_is = sym (c.bidder_name.ensures ∙ ap (λ (ex : Exchange). slice_index_or (names_of ex) b []) c.exchange.ensures);
      there = omega (arith, c.requires.ready.0.withouts, c.requires.ready.1);
      without_is =
          sym (to_z-of_z w64 without without_fits ∙ ap (λ (xs : List ℤ). slice_index_or xs c.from.result (pos 0)) c.deref.ensures.0
          ∙ ap (λ (n : ℕ). slice_index_or g.withouts.items n (pos 0)) c.from.ensures);
      total_is = sym (to_z-of_z w64 g.final_value total_fits);
      worth_is = sym (to_z-of_z w128 c.final_worth.result worth_fits ∙ c.final_worth.ensures.value);
      cut_is = refl;
    }) c.take_payment.ensures
