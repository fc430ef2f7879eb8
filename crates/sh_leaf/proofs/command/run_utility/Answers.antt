use Rattle.std.proofs.Common.{ap, sym, ◌∙◌}
use Rattle.std.specs.Prelude.{Option}
use Rattle.hs_view.proofs.Acting.{acts_answer, acts_as}
use Rattle.sh_leaf.specs.Command.{utility}
use Rattle.sh_leaf.specs.Utilities.{does, found, named}
use Rattle.sh_leaf.specs.declared.utility.Utility.{Utility}
use Rattle.sh_leaf.proofs.command.run_utility.Goals as goal

pub returns-in-Some : goal.returns-in-Some
returns-in-Some g c =
    acts_as g.B.Base.seen (does c.in-Some.utility c.args.args.now) (utility c.args.name.now c.args.args.now) c.args.view.now c.run.new.view c.run.result
    (λ u s. ap (λ (o : Option Utility). found o c.args.args.now u) (c.in-Some.ensures ∙ ap named c.as_slice.ensures)) c.run.ensures

pub returns-in-None : goal.returns-in-None
returns-in-None g c =
    acts_answer g.B.Base.seen (utility c.args.name.now c.args.args.now) c.args.view.now 127 (λ u s. ap (λ (o : Option Utility). found o c.args.args.now u) (sym (c.in-None.ensures ∙ ap named c.as_slice.ensures)))
