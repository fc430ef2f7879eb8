use Rattle.std.proofs.Common.{◌≡◌, ◌++◌, drop}
use Rattle.sh_param.specs.Pieces.{field_of}
use Rattle.sh_param.proofs.piece.Pieces.field.Given as goal

abbrev pub invariant-loop-piece : goal.invariant-loop-piece
invariant-loop-piece l = l.field ++ field_of (drop l.piece-index l.piece-items) ≡ field_of l.self
