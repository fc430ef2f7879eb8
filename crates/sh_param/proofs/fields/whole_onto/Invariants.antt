use Rattle.std.proofs.Common.{◌≡◌, ◌++◌, drop}
use Rattle.sh_param.specs.Pieces.{symbols_of}
use Rattle.sh_param.proofs.fields.whole_onto.Given as goal

abbrev pub invariant-loop-mark : goal.invariant-loop-mark
invariant-loop-mark l = l.field ++ symbols_of (drop l.mark-index l.marks) ≡ symbols_of l.marks
