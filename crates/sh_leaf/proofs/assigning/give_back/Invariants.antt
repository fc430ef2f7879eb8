use Rattle.std.proofs.Common.{length}
use Rattle.hs_view.specs.Acts.{Loops}
use Rattle.sh_leaf.specs.Command.{gives_back}
use Rattle.sh_leaf.proofs.assigning.give_back.Given as goal

-- the variables that are left
abbrev pub invariant-befores : goal.invariant-befores
invariant-befores g l = Loops g.B.Base.seen (gives_back l.fn.befores l.status) (gives_back l.left l.status) l.fn.view l.view

abbrev pub decreases-befores : goal.decreases-befores
decreases-befores g l = length l.left
