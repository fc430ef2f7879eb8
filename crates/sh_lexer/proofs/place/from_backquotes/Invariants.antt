use Rattle.std.proofs.Common.{◌≡◌}
use Rattle.sh_lexer.specs.Trail.{in_backquotes}
use Rattle.sh_lexer.proofs.place.from_backquotes.Given as goal

abbrev pub invariant-loop-count : goal.invariant-loop-count
invariant-loop-count l = in_backquotes l.count l.left ≡ in_backquotes l.fn.count l.fn.text

abbrev pub decreases-loop-count : goal.decreases-loop-count
decreases-loop-count l = l.count
