use Rattle.std.proofs.Common.{◌≡◌, [], length, take, drop}
use Rattle.sh_lexer.specs.Cut.{body_of}
use Rattle.sh_lexer.proofs.body.read_body.Given as goal

abbrev pub invariant-loop-lines : goal.invariant-loop-lines
invariant-loop-lines l = body_of l.fn.here (take l.lines.start l.lines.bytes.items) (drop l.lines.start l.lines.bytes.items) l.left ≡ body_of l.fn.here [] [] l.fn.text

abbrev pub decreases-loop-lines : goal.decreases-loop-lines
decreases-loop-lines l = length l.left
