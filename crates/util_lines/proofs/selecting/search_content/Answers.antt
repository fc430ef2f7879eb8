use Rattle.std.proofs.Common.{Bool, List, ℕ, ap, ◌∙◌}
use Rattle.std.specs.Prelude.{◌||◌}
use Rattle.hs_world.specs.declared.effect.Effect.TheVariants.{Emit}
use Rattle.hs_world.specs.declared.effect.Fd.TheVariants.{One}
use Rattle.hs_view.specs.Acts.{only}
use Rattle.hs_view.proofs.Acting.{acts_as, acts_memory_on}
use Rattle.util_common.specs.declared.content.Content.TheVariants.{Bytes}
use Rattle.util_lines.specs.Selecting.{content_searched, found_by, text_of}
use Rattle.util_lines.proofs.selecting.search_content.Goals as goal

pub returns-in_err-made : goal.returns-in_err-made
returns-in_err-made g c =
    acts_memory_on g.B.Base.seen (content_searched c.args.search.now c.args.several c.args.word.now c.args.found (Bytes c.args.content.now)) c.args.view.now _ c.from_residual.ensures.0 c.from_residual.ensures.1

pub returns : goal.returns
returns g c =
    let found = c.args.found in
    let made = c.in_ok-made.made in
    acts_as g.B.Base.seen (only (Emit One made.0) (found_by (found.selected || made.1) found.refused))
    (content_searched c.args.search.now c.args.several c.args.word.now found (Bytes c.args.content.now)) c.args.view.now c.emit_found.new.view c.emit_found.result
    (λ u s.
    ap (λ (t : List ℕ). only (Emit One t) (found_by (found.selected || made.1) found.refused) u) c.in_ok-made.ensures.0
    ∙ ap (λ (b : Bool). only (Emit One (text_of c.args.search.now c.args.several c.args.word.now c.args.content.now)) (found_by (found.selected || b) found.refused) u) c.in_ok-made.ensures.1)
    c.emit_found.ensures
