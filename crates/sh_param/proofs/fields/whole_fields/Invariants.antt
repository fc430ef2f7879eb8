use Rattle.std.proofs.Common.{◌≡◌, ◌++◌, drop}
use Rattle.sh_param.specs.Pieces.{parted, whole_all, whole_fields}
use Rattle.sh_param.proofs.fields.whole_fields.Given as goal

abbrev pub invariant-loop-piece : goal.invariant-loop-piece
invariant-loop-piece l = l.fields ++ whole_all (parted l.marks (drop l.piece-index l.pieces)) ≡ whole_fields l.pieces
