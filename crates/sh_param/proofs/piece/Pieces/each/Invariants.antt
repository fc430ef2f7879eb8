use Rattle.std.proofs.Common.{◌≡◌, ◌++◌, drop}
use Rattle.std.specs.Prelude.{cond}
use Rattle.sh_param.specs.Values.{each_pieces, later_pieces}
use Rattle.sh_param.proofs.piece.Pieces.each.Given as goal

abbrev pub invariant-loop-text : goal.invariant-loop-text
invariant-loop-text l = l.self ++ cond l.first (each_pieces l.mode (drop l.text-index l.texts)) (later_pieces l.mode (drop l.text-index l.texts)) ≡ l.fn.self ++ each_pieces l.mode l.texts
