use Rattle.std.proofs.Common.{[], drop}
use Rattle.hs_view.specs.Acts.{Loops}
use Rattle.sh_leaf.specs.Assigning.{all_assigned}
use Rattle.sh_leaf.proofs.assigning.assign_all.Given as goal

-- the assignments that are left
abbrev pub invariant-loop-item : goal.invariant-loop-item
invariant-loop-item g l =
    Loops g.B.Base.seen (all_assigned l.exports l.status l.assigns []) (all_assigned l.exports l.status (drop l.item-index l.assigns) l.befores) l.fn.view l.view
