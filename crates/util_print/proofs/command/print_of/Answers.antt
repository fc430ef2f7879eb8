use Rattle.std.proofs.Common.{List, ℕ, sym, ap}
use Rattle.std.specs.Prelude.{codes}
use Rattle.std.proofs.lemmas.List.{nil_from_length}
use Rattle.hs_view.proofs.Acting.{acts_as}
use Rattle.util_common.specs.Operands.{refused}
use Rattle.util_common.specs.declared.messages.Why.TheVariants.{MissingOperand}
use Rattle.util_print.specs.Formats.{parts}
use Rattle.util_print.specs.Printf.{printf_by, printf_of}
use Rattle.util_print.proofs.command.print_of.Goals as goal

pub returns-in-Some : goal.returns-in-Some
returns-in-Some g c =
    acts_as g.B.Base.seen (printf_by (parts c.in-Some.format.now) c.in-Some.words.now) (printf_of c.args.args.now) c.args.view.now c.print_format.new.view c.print_format.result
    (λ u s. ap (λ (ws : List (List ℕ)). printf_of ws u) (sym c.in-Some.ensures.cases.0)) c.print_format.ensures

pub returns-in-None : goal.returns-in-None
returns-in-None g c =
    acts_as g.B.Base.seen (refused (codes "printf") MissingOperand) (printf_of c.args.args.now) c.args.view.now c.refuse.new.view c.refuse.result
    (λ u s. ap (λ (ws : List (List ℕ)). printf_of ws u) (sym (nil_from_length c.args.args.now c.in-None.ensures.cases))) c.refuse.ensures
