use Rattle.std.proofs.Common.{List, ℕ, sym, ap}
use Rattle.std.specs.Prelude.{codes}
use Rattle.hs_view.proofs.Acting.{acts_as}
use Rattle.util_common.specs.Operands.{refused}
use Rattle.util_common.specs.declared.messages.Why.TheVariants.{MissingOperand}
use Rattle.util_lines.specs.Selecting.{files_searched, operands_searched, search_of}
use Rattle.util_lines.proofs.Searched.{no_operand}
use Rattle.util_lines.proofs.selecting.search_operands.Goals as goal

pub returns-in-Some : goal.returns-in-Some
returns-in-Some g c =
    acts_as g.B.Base.seen (files_searched (search_of c.args.flags c.in-Some.patterns.now) c.in-Some.files.now) (operands_searched c.args.flags c.args.operands.now) c.args.view.now c.search_for.new.view c.search_for.result
    (λ u s. ap (λ (o : List (List ℕ)). operands_searched c.args.flags o u) (sym c.in-Some.ensures.cases.0)) c.search_for.ensures

pub returns-in-None : goal.returns-in-None
returns-in-None g c =
    acts_as g.B.Base.seen (refused (codes "grep") MissingOperand) (operands_searched c.args.flags c.args.operands.now) c.args.view.now c.refuse.new.view c.refuse.result
    (λ u s. no_operand c.args.flags c.args.operands.now u c.in-None.ensures.cases) c.refuse.ensures
