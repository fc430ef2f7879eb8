use Rattle.std.proofs.Common.{List, Option, Vec, Global, ap, ◌∙◌, option_map}
use Rattle.hs_view.proofs.Acting.{acts_as, acts_memory_on}
use Rattle.util_print.specs.Formats.{parts}
use Rattle.util_print.specs.Printf.{printf_by}
use Rattle.util_print.specs.declared.format.Part.{Part}
use Rattle.util_print.proofs.command.print_format.Goals as goal

pub returns-in_err-parts : goal.returns-in_err-parts
returns-in_err-parts g c =
    acts_memory_on g.B.Base.seen (printf_by (parts c.args.format.now) c.args.words.now) c.args.view.now _ c.from_residual.ensures.0 c.from_residual.ensures.1

pub returns : goal.returns
returns g c =
    let words = c.args.words.now in
    acts_as g.B.Base.seen (printf_by (option_map (λ (v : Vec Part Global). v.items) c.in_ok-parts.parts) words) (printf_by (parts c.args.format.now) words) c.args.view.now c.print_by.new.view c.print_by.result
    (λ u s. ap (λ (ps : Option (List Part)). printf_by ps words u) (c.in_ok-parts.ensures ∙ ap parts c.as_slice.ensures))
    c.print_by.ensures
