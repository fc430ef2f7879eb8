use Rattle.std.proofs.Common.{◌≡◌, ◌++◌, length}
use Rattle.std.specs.Prelude.{option_copied}
use Rattle.sh_param.specs.Tildes.{text_pieces}
use Rattle.sh_param.proofs.piece.Pieces.write.Given as goal

abbrev pub invariant-bytes : goal.invariant-bytes
invariant-bytes l = l.self ++ text_pieces l.mode l.start (option_copied l.home) l.follow l.rest ≡ l.fn.self ++ text_pieces l.mode l.fn.start (option_copied l.home) l.follow l.text

abbrev pub decreases-bytes : goal.decreases-bytes
decreases-bytes l = length l.rest
