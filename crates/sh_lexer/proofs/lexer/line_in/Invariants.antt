use Rattle.std.proofs.Common.{◌≡◌, length, reverse}
use Rattle.sh_lexer.specs.Trail.{line_in}
use Rattle.sh_lexer.proofs.lexer.line_in.Given as goal

abbrev pub invariant-loop-outer : goal.invariant-loop-outer
invariant-loop-outer l = line_in l.text l.offset (reverse l.left) ≡ line_in l.fn.text l.fn.offset (reverse l.fn.outer)

abbrev pub decreases-loop-outer : goal.decreases-loop-outer
decreases-loop-outer l = length l.left
