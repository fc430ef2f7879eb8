use Rattle.std.proofs.Common.{◌≡◌, ◌++◌, drop}
use Rattle.sh_param.specs.Pieces.{quoted_all}
use Rattle.sh_param.proofs.piece.Pieces.quote.Given as goal

abbrev pub invariant-loop-byte : goal.invariant-loop-byte
invariant-loop-byte l = l.self ++ quoted_all (drop l.byte-index l.bytes) ≡ l.initial.self ++ quoted_all l.bytes
