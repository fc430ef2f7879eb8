use Rattle.std.proofs.Common.{◌≡◌, ◌-◌, length, reverse}
use Rattle.sh_lexer.specs.Trail.{line_from}
use Rattle.sh_lexer.proofs.lexer.Lexer.line_from.Given as goal

abbrev pub invariant-loop-left : goal.invariant-loop-left
invariant-loop-left l = line_from l.text (reverse l.left) (length l.left - l.fn.place.depth) l.fn.place.offset ≡ line_from l.fn.self.whole l.fn.self.outer (length l.fn.self.outer - l.fn.place.depth) l.fn.place.offset

abbrev pub decreases-loop-left : goal.decreases-loop-left
decreases-loop-left l = length l.left
