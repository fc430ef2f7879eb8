use Rattle.std.proofs.Common.{◌≡◌, ◌++◌, drop}
use Rattle.std.specs.Prelude.{option_copied}
use Rattle.sh_param.specs.Pieces.{parted, split_all, split_fields}
use Rattle.sh_param.proofs.fields.split_fields.Given as goal

abbrev pub invariant-loop-piece : goal.invariant-loop-piece
invariant-loop-piece l = l.fields ++ split_all (option_copied l.ifs) (parted l.marks (drop l.piece-index l.pieces)) ≡ split_fields (option_copied l.ifs) l.pieces
