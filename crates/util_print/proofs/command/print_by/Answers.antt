use Rattle.std.proofs.Common.{List, Option, Vec, Global, sym, ap, ◌∙◌, option_map}
use Rattle.std.specs.Prelude.{codes}
use Rattle.hs_view.proofs.Acting.{acts_as}
use Rattle.util_common.specs.Operands.{refused}
use Rattle.util_common.specs.declared.messages.Why.TheVariants.{BadFormat}
use Rattle.util_print.specs.Printf.{parts_printed, printf_by}
use Rattle.util_print.specs.declared.format.Part.{Part}
use Rattle.util_print.proofs.command.print_by.Goals as goal

abbrev items_of : Option (Vec Part Global) → Option (List Part)
items_of o = option_map (λ (v : Vec Part Global). v.items) o

pub returns-in-Some : goal.returns-in-Some
returns-in-Some g c =
    let words = c.args.words.now in
    acts_as g.B.Base.seen (parts_printed c.as_slice.result.now words) (printf_by (items_of c.args.parts) words) c.args.view.now c.print_parts.new.view c.print_parts.result
    (λ u s. ap (λ (ps : List Part). parts_printed ps words u) c.as_slice.ensures.value ∙ ap (λ (o : Option (Vec Part Global)). printf_by (items_of o) words u) (sym c.in-Some.is))
    c.print_parts.ensures

pub returns-in-None : goal.returns-in-None
returns-in-None g c =
    let words = c.args.words.now in
    acts_as g.B.Base.seen (refused (codes "printf") BadFormat) (printf_by (items_of c.args.parts) words) c.args.view.now c.refuse.new.view c.refuse.result
    (λ u s. ap (λ (o : Option (Vec Part Global)). printf_by (items_of o) words u) (sym c.in-None.is))
    c.refuse.ensures
