use Rattle.std.proofs.Common.{◌≡◌, ◌++◌, drop}
use Rattle.sh_param.specs.Pieces.{bytes_of}
use Rattle.sh_param.proofs.piece.Pieces.text.Given as goal

abbrev pub invariant-loop-piece : goal.invariant-loop-piece
invariant-loop-piece l = l.bytes.items ++ bytes_of (drop l.piece-index l.piece-items) ≡ bytes_of l.self
