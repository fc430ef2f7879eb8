use Rattle.std.proofs.Common.{◌≡◌, ◌++◌, drop}
use Rattle.sh_param.specs.Pieces.{expanded_all}
use Rattle.sh_param.proofs.piece.Pieces.expand.Given as goal

abbrev pub invariant-loop-byte : goal.invariant-loop-byte
invariant-loop-byte l = l.self ++ expanded_all l.mode (drop l.byte-index l.bytes) ≡ l.initial.self ++ expanded_all l.mode l.bytes
