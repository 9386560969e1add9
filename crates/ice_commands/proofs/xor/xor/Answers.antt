use Rattle.std.proofs.Common.{ℕ, List, sym, subst}
use Rattle.ice_edge.specs.declared.status.Status.TheVariants.{Done}
use Rattle.ice_command_parts.specs.Call.{file_limit}
use Rattle.ice_command_parts.specs.Parts.{AreFetched}
use Rattle.ice_commands.specs.XorServed.{IsTranslationOf}
use Rattle.ice_command_parts.proofs.Writing.{put_said}
use Rattle.ice_commands.proofs.Translating.{line_answers}
use Rattle.ice_commands.proofs.xor.xor.Goals as goal

pub returns-in-Ok-clause-served : goal.returns-in-Ok-clause-served
returns-in-Ok-clause-served g c =
    let before = g.H.Shelf.told c.args.shelf.now in
    let after = g.H.Shelf.told c.translation_of.new.shelf in
    let file = c.args.file.now in
    let line = c.deref.result.now in
    let found : (bytes : List ℕ) × IsTranslationOf bytes line × AreFetched before file file_limit bytes =
    subst (λ (text : List ℕ). (bytes : List ℕ) × IsTranslationOf bytes text × AreFetched before file file_limit bytes) (sym c.deref.ensures.value) c.in-Ok.ensures.line in (
      line,
      Done,
      line_answers before after file line found,
      put_said c.put.result line Done c.ended.result (g.K.Sink.taken c.args.out.now) (g.K.Sink.taken c.put.new.self) c.put.ensures c.ended.ensures,
    )
